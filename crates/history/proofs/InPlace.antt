-- A history of calls on a link's parts is one of the link's calls, so all that is proved of histories holds of it.
--     plays_in_place        calls on the parts, one after the other, are calls of the link that the parts are
--     plays_in_place_tied, plays_in_place_after   so they are what the history performs, from any parts, and from those of a fresh link
--     promised_apart        a call of the link that parts are is the call on these parts
--     called_either_way, ran_either_way           a call of the link is the call on its parts put together, by the promises
--     either_way            and by what is played
-- Assumes nothing.
use Rattle.std.specs.Prelude.{None, Some, length}
use mathlib.Core.Path.{◌≡◌, refl, sym, ap, subst, ◌∙◌}
use mathlib.Core.List.{List}
use Prim.Native.Nat.{ℕ}
use Rattle.frame.specs.Bytes.{over}
use Rattle.rules.specs.Rules.{Rules, rules_of}
use Rattle.rules.specs.declared.Choice.{Choice}
use Rattle.step.specs.declared.numbers.Core.{Core}
use Rattle.frame.specs.Frame.{frame_of, REQ}
use Rattle.link.specs.Out.{Out, Taken, byte_out, tick_out, open_out, run_out}
use Rattle.link.specs.Calls.{Answered, Ran, CallPromise, RunPromise}
use Rattle.link.specs.InPlace.{AnsweredIn, RanIn, link_of, put_together, ran_put_together}
use Rattle.link.proofs.Hears.{runs}
use Rattle.link.proofs.Ways.{call_keeps, run_keeps}
use Rattle.link.proofs.Theorems.{put_together_lem, run_put_together}
use Rattle.link.specs.declared.link.Link.{Link}
use Rattle.history.specs.Perform.{What, Call, Done, perform}
use Rattle.history.specs.History.{next, run, after}
use Rattle.history.specs.Played.{by_call, by_run, Played, played, Promised, byte_call, bytes_call, tick_call, send_call, session_call, restart_call, Plays, no_calls, then, call_of, calls_of, line_of, up_of, told_of, AllTied}
use Rattle.link.specs.declared.parts.Parts.{Parts}
use Rattle.history.specs.PlayedIn.{parts, fresh_parts, whole_of, PromisedIn, byte_in, bytes_in, tick_in, send_in, session_in, restart_in, PlaysIn, no_calls_in, then_in, SameAsked, SameTold}
use Rattle.history.proofs.Promise.{promised, plays_tied, plays_after}
use Rattle.step.specs.Checks.{Checked, checks, passes, send_own, session_own}

-- one call
promised_in_place : (R : Rules) (core : Core) (body frame : List ℕ) (p : Played) (n : Parts) → PromisedIn R core body frame p n
    → Promised R (link_of core body frame) p (whole_of n)
promised_in_place R core body frame p n (byte_in b line up r body' line' up' k) = byte_call b line up (put_together r body' frame) line' up' k
promised_in_place R core body frame p n (bytes_in bs line up r body' line' up' k) = bytes_call bs line up (ran_put_together r body' frame) line' up' k
promised_in_place R core body frame p n (tick_in line up r line' up' k) = tick_call line up (put_together r body frame) line' up' k
promised_in_place R core body frame p n (send_in kind command ps line up r frame' line' up' k) =
    send_call kind command ps line up (put_together r body frame') line' up' k
promised_in_place R core body frame p n (session_in command ps line up r frame' line' up' k) =
    session_call command ps line up (put_together r body frame') line' up' k
promised_in_place R core body frame p n (restart_in line up r body' frame' line' up' k) = restart_call line up (put_together r body' frame') line' up' k

-- a whole history
pub plays_in_place : (k n : Parts) (ps : List Played) → PlaysIn k ps n → Plays (whole_of k) ps (whole_of n)
plays_in_place k n ps (no_calls_in z) = no_calls (whole_of z)
plays_in_place k n ps (then_in z m w p qs c rest) =
    then (whole_of z) (whole_of m) (whole_of w) p qs (promised_in_place (rules_of z.core.choice) z.core z.body z.frame p m c) (plays_in_place m w qs rest)

pub plays_in_place_tied : (k n : Parts) (ps : List Played) → PlaysIn k ps n
    → (whole_of n ≡ run (rules_of k.core.choice) (whole_of k) (calls_of ps)) × AllTied (rules_of k.core.choice) (whole_of k) ps
plays_in_place_tied k n ps h = plays_tied (whole_of k) (whole_of n) ps (plays_in_place k n ps h)

pub plays_in_place_after : (c : Choice) (n : Parts) (ps : List Played) → PlaysIn (fresh_parts c) ps n → whole_of n ≡ after (rules_of c) (calls_of ps)
plays_in_place_after c n ps h = plays_after c (whole_of n) ps (plays_in_place (fresh_parts c) n ps h)

-- ---- from the link's calls to those on its parts
-- the parts of a link, as `Parts::from` gives them
abbrev pub parts_of : Link → Parts
parts_of l = parts l.core l.body l.frame

-- A call of the link that parts are, as those of `Parts` promise it, is the call on these parts, and leaves the parts of the link that it leaves.
pub promised_apart : (R : Rules) (core : Core) (body frame : List ℕ) (p : Played) (m : Link) → Promised R (link_of core body frame) p m
    → PromisedIn R core body frame p (parts_of m)
unfolding byte_out tick_out open_out
promised_apart R core body frame p m (byte_call b line up r line' up' c) =
    let e : r.link.frame ≡ frame = call_keeps (λ (z : Link). z.frame) c refl in
    subst (λ (f : List ℕ). PromisedIn R core body frame p (parts r.link.core r.link.body f)) (sym e)
    (byte_in b line up (record { core = r.link.core; answer = r.answer }) r.link.body line' up'
    (subst (λ (f : List ℕ). CallPromise passes (byte_out R (link_of core body frame) b) (link_of core body frame) line up (record { link = link_of r.link.core r.link.body f; answer = r.answer }) line' up') e c))
promised_apart R core body frame p m (bytes_call bs line up r line' up' c) =
    let e : r.link.frame ≡ frame = run_keeps (λ (z : Link). z.frame) c (ap (λ (t : Taken). t.out.link.frame) (runs R (link_of core body frame) bs)) in
    subst (λ (f : List ℕ). PromisedIn R core body frame p (parts r.link.core r.link.body f)) (sym e)
    (bytes_in bs line up (record { core = r.link.core; answer = r.answer }) r.link.body line' up'
    (subst (λ (f : List ℕ). RunPromise (run_out R (link_of core body frame) bs) (link_of core body frame) line up (record { link = link_of r.link.core r.link.body f; answer = r.answer }) line' up') e c))
promised_apart R core body frame p m (tick_call line up r line' up' c) =
    let a : r.link.body ≡ body = call_keeps (λ (z : Link). z.body) c refl in
    let e : r.link.frame ≡ frame = call_keeps (λ (z : Link). z.frame) c refl in
    subst (λ (f : List ℕ). PromisedIn R core body frame p (parts r.link.core r.link.body f)) (sym e)
    (subst (λ (b : List ℕ). PromisedIn R core body frame p (parts r.link.core b frame)) (sym a)
    (tick_in line up (record { core = r.link.core; answer = r.answer }) line' up'
    (subst (λ (b : List ℕ). CallPromise passes (tick_out R (link_of core body frame)) (link_of core body frame) line up (record { link = link_of r.link.core b frame; answer = r.answer }) line' up') a
    (subst (λ (f : List ℕ). CallPromise passes (tick_out R (link_of core body frame)) (link_of core body frame) line up (record { link = link_of r.link.core r.link.body f; answer = r.answer }) line' up') e c))))
promised_apart R core body frame p m (send_call kind command ps line up r line' up' c) =
    let a : r.link.body ≡ body = call_keeps (λ (z : Link). z.body) c refl in
    subst (λ (b : List ℕ). PromisedIn R core body frame p (parts r.link.core b r.link.frame)) (sym a)
    (send_in kind command ps line up (record { core = r.link.core; answer = r.answer }) r.link.frame line' up'
    (subst (λ (b : List ℕ). CallPromise (send_own core.job kind (length ps)) (open_out (link_of core body frame) None (frame_of kind command ps)) (link_of core body frame) line up (record { link = link_of r.link.core b r.link.frame; answer = r.answer }) line' up') a c))
promised_apart R core body frame p m (session_call command ps line up r line' up' c) =
    let a : r.link.body ≡ body = call_keeps (λ (z : Link). z.body) c refl in
    subst (λ (b : List ℕ). PromisedIn R core body frame p (parts r.link.core b r.link.frame)) (sym a)
    (session_in command ps line up (record { core = r.link.core; answer = r.answer }) r.link.frame line' up'
    (subst (λ (b : List ℕ). CallPromise (session_own core.job (length ps)) (open_out (link_of core body frame) (Some command) (frame_of REQ command ps)) (link_of core body frame) line up (record { link = link_of r.link.core b r.link.frame; answer = r.answer }) line' up') a c))
promised_apart R core body frame p m (restart_call line up r line' up' c) =
    restart_in line up (record { core = r.link.core; answer = r.answer }) r.link.body r.link.frame line' up' c

-- ---- the same call, both ways
-- Of promises: a call of the link and the call on its parts, under the same checks and with the same bytes lent, by `put_together_lem` of link.
pub called_either_way : (w : What) {own : Checked} {o : Out} {l : Link} {line up a b c d body frame : List ℕ} {r : Answered} {q : AnsweredIn}
    → CallPromise own o l line up r a b → CallPromise own o l line up (put_together q body frame) c d
    → (r.link ≡ link_of q.core body frame) × SameTold (played w line up (by_call r.answer) a b) (played w line up (by_call q.answer) c d)
called_either_way w x y =
    let e = put_together_lem x y in (
      ap (λ (z : Answered). z.link) e.0,
      record { told = ap (λ (z : Answered). by_call z.answer) e.0; line_left = e.1; up_left = e.2 },
    )

pub ran_either_way : (w : What) {t : Taken} {l : Link} {line up a b c d body frame : List ℕ} {r : Ran} {q : RanIn}
    → RunPromise t l line up r a b → RunPromise t l line up (ran_put_together q body frame) c d
    → (r.link ≡ link_of q.core body frame) × SameTold (played w line up (by_run r.answer) a b) (played w line up (by_run q.answer) c d)
ran_either_way w x y =
    let e = run_put_together x y in
    (ap (λ (z : Ran). z.link) e.0, record { told = ap (λ (z : Ran). by_run z.answer) e.0; line_left = e.1; up_left = e.2 })

-- Of calls as they are played, whichever of the six: they are answered the same, leave the same bytes, and the link that is left is the
-- parts put together.
pub either_way : (R : Rules) (k n : Parts) (m : Link) (p q : Played) → Promised R (whole_of k) p m
    → PromisedIn R k.core k.body k.frame q n → SameAsked p q → (m ≡ whole_of n) × SameTold p q
either_way R k n m p q x y s =
    let l = whole_of k in
    let a = promised R l p m x in
    let b = promised R l q (whole_of n) (promised_in_place R k.core k.body k.frame q n y) in
    let c : call_of p ≡ call_of q = simp (s.what, s.line, s.up) in
    let d = ap (λ (z : Call). perform R l z) c in (
      a.link ∙ ap (next l) d ∙ sym b.link,
      record {
        told = a.tied.told ∙ ap (λ (w : What). told_of R l w (perform R l (call_of p))) s.what ∙ ap (told_of R l q.what) d ∙ sym b.tied.told;
        line_left =
            a.tied.line_left ∙ ap (λ (z : Done). over (line_of z) p.line) d ∙ ap (over (line_of (perform R l (call_of q)))) s.line ∙ sym b.tied.line_left;
        up_left = a.tied.up_left ∙ ap (λ (z : Done). over (up_of z) p.up) d ∙ ap (over (up_of (perform R l (call_of q)))) s.up ∙ sym b.tied.up_left;
      },
    )
