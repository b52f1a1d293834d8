-- What the link's calls promise is what a history performs: the links that are left, the answers, and every lent byte.
-- Assumes nothing.
use Rattle.std.specs.Prelude.{Err, None, Ok, Some}
use Prim.Native.Nat.{ℕ, ◌+◌}
use mathlib.Core.Path.{◌≡◌, refl, ap, ◌∙◌, subst}
use mathlib.Core.List.{List, [], ◌∷◌}
use lib.ListN.{length}
use Rattle.frame.specs.Bytes.{over}
use Rattle.frame.specs.Frame.{frame_of, REQ}
use Rattle.rules.specs.Rules.{Rules, rules_of}
use Rattle.rules.specs.declared.Choice.{Choice}
use Rattle.link.specs.Link.{fresh_link}
use Rattle.link.specs.Out.{Out, Taken, byte_out, tick_out, open_out, restart_out, news, quiet, run_from, run_out}
use Rattle.step.specs.Checks.{checks, room_checks, send_own, session_own, Checked, passes}
use Rattle.link.specs.Calls.{Answered, Ran, answered, ran, left, CallPromise, RunPromise}
use Rattle.link.specs.declared.link.Link.{Link}
use Rattle.refusals.proofs.Picks.{pick_ok}
use Rattle.history.specs.Perform.{What, byte, bytes, tick, send, session, restart, Call, checks_of, out_of, Done, done_by, perform}
use Rattle.history.specs.History.{next, run, after}
use Rattle.history.specs.Played.{by_call, by_run, Played, played, Promised, byte_call, bytes_call, tick_call, send_call, session_call, restart_call, Plays, no_calls, then, call_of, calls_of, answer_of, run_answer_of, line_of, up_of, AllTied, Performs}

next_is : (c : Checked) (o : Out) (l : Link) → (answered c o l).link ≡ next l (done_by c o)
next_is (Ok _) o l = refl
next_is (Err k) o l = refl

answer_is : (c : Checked) (o : Out) (l : Link) → (answered c o l).answer ≡ answer_of (done_by c o)
answer_is (Ok _) o l = refl
answer_is (Err k) o l = refl

line_is : (c : Checked) (o : Out) (lent : List ℕ) → left c o.line lent ≡ over (line_of (done_by c o)) lent
line_is (Ok _) o lent = refl
line_is (Err k) o lent = refl

up_is : (c : Checked) (o : Out) (lent : List ℕ) → left c o.up lent ≡ over (up_of (done_by c o)) lent
up_is (Ok _) o lent = refl
up_is (Err k) o lent = refl

ran_next : (c : Checked) (t : Taken) (l : Link) → (ran c t l).link ≡ next l (done_by c t.out)
ran_next (Ok _) t l = refl
ran_next (Err k) t l = refl

ran_answer : (c : Checked) (t : Taken) (l : Link) → (ran c t l).answer ≡ run_answer_of t.taken (done_by c t.out)
ran_answer (Ok _) t l = refl
ran_answer (Err k) t l = refl

-- ---- one call
-- what a call that keeps a promise with these checks and this step does, as any history does it
pub record Matches (d : Done) (l : Link) (line up : List ℕ) (r : Answered) (line' up' : List ℕ) : Type 0 where
  pub link : r.link ≡ next l d
  pub answer : r.answer ≡ answer_of d
  pub line_left : line' ≡ over (line_of d) line
  pub up_left : up' ≡ over (up_of d) up

pub call_matches : (own : Checked) (o : Out) (l : Link) (line up : List ℕ) (r : Answered) (line' up' : List ℕ) → CallPromise own o l line up r line' up'
    → Matches (done_by (checks line up own) o) l line up r line' up'
call_matches own o l line up r line' up' p =
    let c = checks line up own in
    record {
      link = ap (λ (z : Answered). z.link) p.answer ∙ next_is c o l;
      answer = ap (λ (z : Answered). z.answer) p.answer ∙ answer_is c o l;
      line_left = p.line_left ∙ line_is c o line;
      up_left = p.up_left ∙ up_is c o up;
    }

module _ (R : Rules) (l : Link) where
  -- Each call's promise, over the very text of its contract, is what the history's call does.
  pub byte_tied : (b : ℕ) (line up : List ℕ) (r : Answered) (line' up' : List ℕ) → CallPromise passes (byte_out R l b) l line up r line' up'
      → Performs R l (played (byte b) line up (by_call r.answer) line' up') r.link
  byte_tied b line up r line' up' p =
      let m = call_matches passes (byte_out R l b) l line up r line' up' p in
      record { link = m.link; tied = record { told = ap by_call m.answer; line_left = m.line_left; up_left = m.up_left } }

  pub tick_tied : (line up : List ℕ) (r : Answered) (line' up' : List ℕ) → CallPromise passes (tick_out R l) l line up r line' up'
      → Performs R l (played tick line up (by_call r.answer) line' up') r.link
  tick_tied line up r line' up' p =
      let m = call_matches passes (tick_out R l) l line up r line' up' p in
      record { link = m.link; tied = record { told = ap by_call m.answer; line_left = m.line_left; up_left = m.up_left } }

  pub send_tied : (kind command : ℕ) (ps line up : List ℕ) (r : Answered) (line' up' : List ℕ)
      → CallPromise (send_own l.core.job kind (length ps)) (open_out l None (frame_of kind command ps)) l line up r line' up'
      → Performs R l (played (send kind command ps) line up (by_call r.answer) line' up') r.link
  send_tied kind command ps line up r line' up' p =
      let m = call_matches (send_own l.core.job kind (length ps)) (open_out l None (frame_of kind command ps)) l line up r line' up' p in
      record { link = m.link; tied = record { told = ap by_call m.answer; line_left = m.line_left; up_left = m.up_left } }

  pub session_tied : (command : ℕ) (ps line up : List ℕ) (r : Answered) (line' up' : List ℕ)
      → CallPromise (session_own l.core.job (length ps)) (open_out l (Some command) (frame_of REQ command ps)) l line up r line' up'
      → Performs R l (played (session command ps) line up (by_call r.answer) line' up') r.link
  session_tied command ps line up r line' up' p =
      let m = call_matches (session_own l.core.job (length ps)) (open_out l (Some command) (frame_of REQ command ps)) l line up r line' up' p in
      record { link = m.link; tied = record { told = ap by_call m.answer; line_left = m.line_left; up_left = m.up_left } }

  pub restart_tied : (line up : List ℕ) (r : Answered) (line' up' : List ℕ) → CallPromise passes (restart_out l) l line up r line' up'
      → Performs R l (played restart line up (by_call r.answer) line' up') r.link
  restart_tied line up r line' up' p =
      let m = call_matches passes (restart_out l) l line up r line' up' p in
      record { link = m.link; tied = record { told = ap by_call m.answer; line_left = m.line_left; up_left = m.up_left } }

  -- and a run of bytes
  pub run_tied : (bs line up : List ℕ) (r : Ran) (line' up' : List ℕ) → RunPromise (run_out R l bs) l line up r line' up'
      → Performs R l (played (bytes bs) line up (by_run r.answer) line' up') r.link
  run_tied bs line up r line' up' p =
      let c = checks line up passes in
      let t = run_out R l bs in
      record {
        link = ap (λ (z : Ran). z.link) p.answer ∙ ran_next c t l;
        tied =
            record {
              told = ap (λ (z : Ran). by_run z.answer) p.answer ∙ ap by_run (ran_answer c t l);
              line_left = p.line_left ∙ line_is c t.out line;
              up_left = p.up_left ∙ up_is c t.out up;
            };
      }

  pub promised : (p : Played) (m : Link) → Promised R l p m → Performs R l p m
  promised p m (byte_call b line up r line' up' k) = byte_tied b line up r line' up' k
  promised p m (bytes_call bs line up r line' up' k) = run_tied bs line up r line' up' k
  promised p m (tick_call line up r line' up' k) = tick_tied line up r line' up' k
  promised p m (send_call kind command ps line up r line' up' k) = send_tied kind command ps line up r line' up' k
  promised p m (session_call command ps line up r line' up' k) = session_tied command ps line up r line' up' k
  promised p m (restart_call line up r line' up' k) = restart_tied line up r line' up' k

-- ---- what was chosen stays
-- No call changes what the link was opened as; a restart neither.
run_keeps : (R : Rules) (c : Choice) (bs : List ℕ) (k : ℕ) (o : Out) → o.link.core.choice ≡ c → (run_from R o k bs).out.link.core.choice ≡ c
unfolding byte_out run_from
run_keeps R c [] k o e = e
run_keeps R c (b ∷ bs) k o e =
    pick_ok (λ (z : Taken). z.out.link.core.choice ≡ c) (news (byte_out R o.link b)) _ _ e (run_keeps R c bs (k + 1) (byte_out R o.link b) e)

what_keeps : (R : Rules) (l : Link) (w : What) → (out_of R l w).link.core.choice ≡ l.core.choice
unfolding byte_out tick_out open_out restart_out
what_keeps R l (byte b) = refl
what_keeps R l (bytes bs) = run_keeps R l.core.choice bs 0 (quiet l) refl
what_keeps R l tick = refl
what_keeps R l (send kind command ps) = refl
what_keeps R l (session command ps) = refl
what_keeps R l restart = refl

done_keeps : (l : Link) (c : Checked) (o : Out) → o.link.core.choice ≡ l.core.choice → (next l (done_by c o)).core.choice ≡ l.core.choice
done_keeps l (Ok _) o e = e
done_keeps l (Err k) o e = refl

pub choice_kept : (R : Rules) (l : Link) (c : Call) → (next l (perform R l c)).core.choice ≡ l.core.choice
choice_kept R l c = done_keeps l (room_checks c.line c.up (checks_of l c.what)) (out_of R l c.what) (what_keeps R l c.what)

-- so after any history it is what it was
pub run_keeps_choice : (R : Rules) (h : List Call) (l : Link) → (run R l h).core.choice ≡ l.core.choice
run_keeps_choice R [] l = refl
run_keeps_choice R (c ∷ h) l = run_keeps_choice R h (next l (perform R l c)) ∙ choice_kept R l c

pub after_keeps_choice : (R : Rules) (h : List Call) → (after R h).core.choice ≡ R.choice
after_keeps_choice R h = run_keeps_choice R h (fresh_link R.choice)

-- ---- a whole history
-- Calls that keep their promises, one after the other: the last link is the one that the history runs to, and every call is tied to it.
-- The rules are those of what the first link was opened as, since no call changes it.
plays_by : (c : Choice) (l n : Link) (ps : List Played) → l.core.choice ≡ c → Plays l ps n → (n ≡ run (rules_of c) l (calls_of ps)) × AllTied (rules_of c) l ps
plays_by c l n ps q (no_calls z) = (refl, tt)
plays_by c l n ps q (then z m w p qs k rest) =
    let R = rules_of c in
    let d = promised R l p m (subst (λ (x : Choice). Promised (rules_of x) l p m) q k) in
    let e = d.link in
    let i = plays_by c m n qs (ap (λ (x : Link). x.core.choice) e ∙ choice_kept R l (call_of p) ∙ q) rest in
    (i.0 ∙ ap (λ (x : Link). run R x (calls_of qs)) e, (d.tied, subst (λ (x : Link). AllTied R x qs) e i.1))

pub plays_tied : (l n : Link) (ps : List Played) → Plays l ps n → (n ≡ run (rules_of l.core.choice) l (calls_of ps)) × AllTied (rules_of l.core.choice) l ps
plays_tied l n ps k = plays_by l.core.choice l n ps refl k

-- from the link that opening gives
pub plays_after : (c : Choice) (n : Link) (ps : List Played) → Plays (fresh_link c) ps n → n ≡ after (rules_of c) (calls_of ps)
plays_after c n ps k = (plays_tied (fresh_link c) n ps k).0
