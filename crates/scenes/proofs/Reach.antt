-- The bounds of demand 3 reached by every send and every session: many ticks at once, whatever the frame's bytes are.
-- Assumes nothing.
use Rattle.std.specs.Prelude.{None, Option, Some}
use Prim.Native.Nat.{ℕ, zero, suc, ◌+◌, ◌-◌, ◌≤◌, ◌<◌}
use mathlib.Core.Path.{◌≡◌, refl, ap, ap₂, sym, ◌∙◌, subst}
use mathlib.Core.Bool.{true, false}
use mathlib.Core.List.{List, [], ◌∷◌, ◌++◌, append_assoc, append-nil}
use native.Mathlib.Omega.{arith}
use native.Mathlib.Nat.{add_assoc, add-zero, zero-add}
use native.Mathlib.Numerals.{add-one}
use lib.Dec.{eqb}
use lib.ListN.{length, replicate, length-replicate}
use lib.Seq.{take-append_seam}
use borrow.Author.Tests.{lt-ltb, le-ltb, ne_eqb}
use Rattle.refusals.proofs.Picks.{pick_ok}
use Rattle.frame.specs.Bytes.{over}
use Rattle.frame.specs.Frame.{REQ, RES, ACK, NAK, MAX_PARAMETERS, MAX_FRAME, frame_of}
use Rattle.frame.proofs.Theorems.{frame_length}
use Rattle.rules.specs.Rules.{Rules, back_offs, back_by, wire_time, ack_wait, rules_of}
use Rattle.rules.specs.declared.Mode.{Mode}
use Rattle.rules.specs.declared.Mode.TheVariants.{Sooner, Spaced}
use Rattle.rules.specs.declared.Cause.{Cause}
use Rattle.rules.specs.declared.Cause.TheVariants.{Told, Time}
use Rattle.rules.specs.declared.Choice.{Choice}
use Rattle.job.specs.Job.{goes_on, still, put_out, fail, lose}
use Rattle.job.specs.Ticks.{on_tick}
use Rattle.reception.specs.Said.{said_on}
use Rattle.link.specs.Link.{no_body, no_frame}
use Rattle.step.specs.Deciding.{decided}
use Rattle.link.specs.Out.{Out, out, byte_out, tick_out, open_out}
use Rattle.hearing.specs.declared.hearing.Hearing.{Hearing}
use Rattle.hearing.specs.declared.hearing.Hearing.TheVariants.{Hunting, Head}
use Rattle.hearing.specs.declared.hearing.Event.{Event}
use Rattle.hearing.specs.declared.hearing.Event.TheVariants.{Alone, TickHunting, TickInside, Aborted}
use Rattle.hearing.specs.declared.hearing.Single.TheVariants.{Nak}
use Rattle.job.specs.declared.job.Act.{Act}
use Rattle.job.specs.declared.job.Job.{Job}
use Rattle.job.specs.declared.job.Job.TheVariants.{Due, Waiting, BackingOff, Awaiting}
use Rattle.report.specs.declared.Reset.TheVariants as reset
use Rattle.report.specs.declared.Sending.{Sending}
use Rattle.report.specs.declared.Sending.TheVariants as sending
use Rattle.report.specs.declared.Session.TheVariants as session
use Rattle.link.specs.declared.link.Link.{Link}
use Rattle.history.specs.Perform.{byte, tick, send, session as session_call, Call, lent}
use Rattle.history.specs.History.{after}
use Rattle.history.specs.Watch.{Verdict, failed, no_response, Says, none, says, send_verdict, verdict_of, Watch, going, restarted_first, settled, add, onward, watch}
use Rattle.history.specs.Demand3.{Kept, EverySend, EverySession, send_bound, session_bound}
use Rattle.history.proofs.Job.{no_verdict}
use Rattle.scenes.specs.Scene.{silence}
use Rattle.scenes.specs.Longest.{frame_begins, before, given_up, round, longer, to_fourth, longest_send, longest_session, given_up_time, round_time, fourth_time, send_time, session_time, base_round, Reaches}
use Rattle.reception.specs.Sums.{sums_on}
use Rattle.sending.specs.Events.{awaited_by}

add_none : (w : Watch) → add 0 [] w ≡ w
add_none (going t l) = ap (λ (x : ℕ). going x l) (zero-add t)
add_none restarted_first = refl
add_none (settled v t l) = ap (λ (x : ℕ). settled v x l) (zero-add t)

add_add : (t u : ℕ) (l m : List ℕ) (w : Watch) → add t l (add u m w) ≡ add (t + u) (l ++ m) w
add_add t u l m (going v n) = ap₂ going (sym (add_assoc t u v)) (sym (append_assoc l m n))
add_add t u l m restarted_first = refl
add_add t u l m (settled x v n) = ap₂ (settled x) (sym (add_assoc t u v)) (sym (append_assoc l m n))

module _ (R : Rules) (a : Option ℕ) (f : List ℕ) where
  -- a link that holds the frame f
  abbrev at : Hearing → Job → Link
  at h j = record { core = record { hearing = h; job = j; bad = 0; size = length f; choice = R.choice }; body = no_body; frame = over f no_frame }

  -- what a tick gives on it
  abbrev gives : Hearing → Event → Job → Act → Out
  gives h e j x = out no_body (over f no_frame) h (length f) R.choice (decided (said_on R.choice.role e (awaited_by j)) (sums_on e 0) x)

  -- the calls h take t ticks and put out these bytes, with no verdict before their end; then the watch is w, over the calls after them
  record Leads (l : Link) (h : List Call) (w : List Call → Watch) (t : ℕ) (line : List ℕ) : Type 0 where
    to : (k : List Call) → watch R a l (h ++ k) ≡ add t line (w k)

  abbrev going_on : Link → List Call → Watch
  going_on l k = watch R a l k

  abbrev over_with : Verdict → List Call → Watch
  over_with v k = settled v 0 []

  then : {l l' : Link} {h h' : List Call} {w : List Call → Watch} {t u : ℕ} {line more : List ℕ}
      → Leads l h (going_on l') t line → Leads l' h' w u more → Leads l (h ++ h') w (t + u) (line ++ more)
  then {l} {l'} {h} {h'} {w} {t} {u} {line} {more} p q =
      record { to = λ k. ap (watch R a l) (append_assoc h h' k) ∙ p.to (h' ++ k) ∙ ap (add t line) (q.to k) ∙ add_add t u line more (w k) }

  -- ---- one call
  tick_gave : (l : Link) (o : Out) → tick_out R l ≡ o → verdict_of a o ≡ none → Leads l (lent tick ∷ []) (going_on o.link) 1 o.line
  tick_gave l o e v =
      record {
        to = λ k. ap (λ (x : Out). onward (verdict_of a x) 1 x.line (watch R a x.link k)) e
            ∙ ap (λ (s : Says). onward s 1 o.line (watch R a o.link k)) v;
      }

  tick_ended : (l : Link) (o : Out) (v : Verdict) → tick_out R l ≡ o → verdict_of a o ≡ says v → o.line ≡ [] → Leads l (lent tick ∷ []) (over_with v) 1 []
  tick_ended l o v e p q =
      record {
        to = λ k. ap (λ (x : Out). onward (verdict_of a x) 1 x.line (watch R a x.link k)) e
            ∙ ap₂ (λ (s : Says) (m : List ℕ). onward s 1 m (watch R a o.link k)) p q;
      }

  -- the verdict, from the accepting call on
  finish : {l : Link} {h : List Call} {v : Verdict} {t : ℕ} (line : List ℕ) → Leads l h (over_with v) t (line ++ []) → add 0 [] (watch R a l h) ≡ settled v t line
  finish {l} {h} {v} {t} line p =
      add_none (watch R a l h) ∙ ap (watch R a l) (sym (append-nil h)) ∙ p.to [] ∙ ap₂ (settled v) (add-zero t) (append-nil (line ++ []) ∙ append-nil line)

  -- a tick while hunting, by what the job does
  hunting : (j j' : Job) (s : Sending) → on_tick R (length f) true j ≡ goes_on j' s → send_verdict s ≡ none
      → Leads (at Hunting j) (lent tick ∷ []) (going_on (at Hunting j')) 1 []
  unfolding tick_out
  hunting j j' s e v = tick_gave (at Hunting j) (gives Hunting TickHunting j (goes_on j' s)) (ap (gives Hunting TickHunting j) e) (no_verdict a s session.Nothing v refl)

  -- m quiet ticks by a family of links, then one tick more
  quiet_then : (g : ℕ → Link) (w : List Call → Watch) (line : List ℕ) (m : ℕ) → ((i : ℕ) → i < m → Leads (g i) (lent tick ∷ []) (going_on (g (suc i))) 1 [])
      → Leads (g m) (lent tick ∷ []) w 1 line → Leads (g 0) (silence (suc m)) w (suc m) line
  quiet_then g w line zero q p = p
  quiet_then g w line (suc m) q p =
      subst (λ (t : ℕ). Leads (g 0) (silence (suc (suc m))) w t line) (let e : 1 + suc m ≡ suc (suc m) = omega arith in e)
      (then (q 0 (omega arith)) (quiet_then (λ i. g (suc i)) w line m (λ i h. q (suc i) (omega arith)) p))

  quietly : (g : ℕ → Link) (m : ℕ) → ((i : ℕ) → i < m → Leads (g i) (lent tick ∷ []) (going_on (g (suc i))) 1 []) → Leads (g 0) (silence m) (going_on (g m)) m []
  quietly g zero q = record { to = λ k. sym (add_none (watch R a (g 0) k)) }
  quietly g (suc m) q = quiet_then g (going_on (g (suc m))) [] m (λ i h. q i (omega arith)) (q m (omega arith))

  -- ---- waiting for the ACK
  waiting : (n e : ℕ) → suc e < R.wait (length f) → on_tick R (length f) true (Waiting a n e) ≡ still (Waiting a n (suc e))
  waiting n e h = rw (add-one e, lt-ltb (suc e) (R.wait (length f)) h)

  -- given up, with a back-off that is not 0: whatever the cause
  backs_off_lem : (cause : Cause) (n : ℕ) → n < 4 → 0 < R.back cause n
      → lose R cause true a n ≡ goes_on (BackingOff a n (R.back cause n)) (sending.BackingOff (record { 0 = R.back cause n }))
  backs_off_lem cause n q p = rw (lt-ltb n 4 q, ne_eqb (R.back cause n) 0 (λ z. omega arith))

  lost : (n e : ℕ) → suc e ≡ R.wait (length f) → on_tick R (length f) true (Waiting a n e) ≡ lose R Time true a n
  lost n e h = rw (add-one e, le-ltb (suc e) (R.wait (length f)) (omega arith))

  wait_then : (n : ℕ) (w : List Call → Watch) → 0 < R.wait (length f)
      → Leads (at Hunting (Waiting a n (R.wait (length f) - 1))) (lent tick ∷ []) w 1 [] → Leads (at Hunting (Waiting a n 0)) (silence (R.wait (length f))) w (R.wait (length f)) []
  wait_then n w h p =
      subst (λ (t : ℕ). Leads (at Hunting (Waiting a n 0)) (silence t) w t []) (let e : suc (R.wait (length f) - 1) ≡ R.wait (length f) = omega arith in e)
      (quiet_then (λ i. at Hunting (Waiting a n i)) w [] (R.wait (length f) - 1) (λ i q. hunting _ _ sending.Nothing (waiting n i (omega arith)) refl) p)

  wait_almost : (n : ℕ) → Leads (at Hunting (Waiting a n 0)) (silence (R.wait (length f) - 1)) (going_on (at Hunting (Waiting a n (R.wait (length f) - 1)))) (R.wait (length f) - 1) []
  wait_almost n = quietly (λ i. at Hunting (Waiting a n i)) (R.wait (length f) - 1) (λ i q. hunting _ _ sending.Nothing (waiting n i (omega arith)) refl)

  -- 15 while waiting, by what the job does
  told : (n e : ℕ) (j' : Job) (s : Sending) → lose R Told true a n ≡ goes_on j' s → send_verdict s ≡ none
      → Leads (at Hunting (Waiting a n e)) (lent (byte NAK) ∷ []) (going_on (at Hunting j')) 0 []
  unfolding byte_out
  told n e j' s q v =
      record {
        to = λ k. ap (λ (x : Act). onward (verdict_of a (says_nak x)) 0 (says_nak x).line (watch R a (says_nak x).link k)) q
            ∙ ap (λ (z : Says). onward z 0 [] (watch R a (at Hunting j') k)) (no_verdict a s session.Nothing v refl);
      }
    where
      says_nak : Act → Out
      says_nak = gives Hunting (Alone Nak) (Waiting a n e)

  -- ---- backing off
  backing : (n b : ℕ) → on_tick R (length f) true (BackingOff a n (suc (suc b))) ≡ still (BackingOff a n (suc b))
  backing n b =
      let e : suc (suc b) - 1 ≡ suc b = omega arith in
      rw (lt-ltb 1 (suc (suc b)) (omega arith), e)

  -- to its last tick
  backed_off : (n b : ℕ) → Leads (at Hunting (BackingOff a n (suc b))) (silence b) (going_on (at Hunting (BackingOff a n 1))) b []
  backed_off n zero = record { to = λ k. sym (add_none (watch R a (at Hunting (BackingOff a n 1)) k)) }
  backed_off n (suc b) =
      subst (λ (t : ℕ). Leads (at Hunting (BackingOff a n (suc (suc b)))) (silence (suc b)) (going_on (at Hunting (BackingOff a n 1))) t [])
      (let e : 1 + b ≡ suc b = omega arith in e)
      (then (hunting _ _ sending.Nothing (backing n b) refl) (backed_off n b))

  back_then : (n b : ℕ) → 0 < b → Leads (at Hunting (BackingOff a n b)) (silence (b - 1)) (going_on (at Hunting (BackingOff a n 1))) (b - 1) []
  back_then n b h =
      subst (λ (t : ℕ). Leads (at Hunting (BackingOff a n t)) (silence (b - 1)) (going_on (at Hunting (BackingOff a n 1))) (b - 1) [])
      (let e : suc (b - 1) ≡ b = omega arith in e)
      (backed_off n (b - 1))

  -- ---- a frame that begins, and its abort
  begins : (j : Job) → Leads (at Hunting j) (frame_begins ∷ []) (going_on (at (Head 0) j)) 0 []
  unfolding byte_out
  begins j = record { to = λ k. ap (λ (s : Says). onward s 0 [] (watch R a (at (Head 0) j) k)) (no_verdict a sending.Nothing session.Nothing refl refl) }

  inside : (c : ℕ) (j j' : Job) (s : Sending) → suc c < 1501 → on_tick R (length f) false j ≡ goes_on j' s → send_verdict s ≡ none
      → Leads (at (Head c) j) (lent tick ∷ []) (going_on (at (Head (suc c)) j')) 1 []
  unfolding tick_out
  inside c j j' s h e v =
      tick_gave (at (Head c) j) (gives (Head (suc c)) TickInside j (goes_on j' s))
      (rw (add-one c, lt-ltb (suc c) 1501 h) (ap (gives (Head (suc c)) TickInside j) e)) (no_verdict a s session.Nothing v refl)

  abbrev copy_out : ℕ → Act
  copy_out n = record { job = Waiting a n 0; sending = sending.Copy n; session = session.Nothing; reset = reset.Nothing; copy = true }

  aborts : (n : ℕ) → n < 4 → Leads (at (Head 1500) (Due a n)) (lent tick ∷ []) (going_on (at Hunting (Waiting a (n + 1) 0))) 1 f
  unfolding tick_out
  aborts n h =
      subst (λ (x : List ℕ). Leads (at (Head 1500) (Due a n)) (lent tick ∷ []) (going_on (at Hunting (Waiting a (n + 1) 0))) 1 x)
      (take-append_seam f _)
      (tick_gave (at (Head 1500) (Due a n)) (gives Hunting Aborted (Due a n) (copy_out (n + 1)))
      (ap (gives Hunting Aborted (Due a n)) (let e : put_out a n ≡ copy_out (n + 1) = rw (lt-ltb n 4 h) in e)) (no_verdict a (sending.Copy (n + 1)) session.Nothing refl refl))

  -- due from the start of the frame
  due_then_lem : Leads (at (Head 0) (Due a 0)) (silence 1501) (going_on (at Hunting (Waiting a 1 0))) 1501 f
  due_then_lem =
      quiet_then (λ i. at (Head i) (Due a 0)) _ f 1500 (λ i h. inside i (Due a 0) (Due a 0) sending.Nothing (omega arith) refl refl) (aborts 0 (omega arith))

  -- the back-off ends with the frame's first tick
  abbrev comes_due : ℕ → ℕ → Link
  comes_due n zero = at (Head 0) (BackingOff a n 1)
  comes_due n (suc i) = at (Head (suc i)) (Due a n)

  comes_due_lem : (n i : ℕ) → i < 1500 → Leads (comes_due n i) (lent tick ∷ []) (going_on (comes_due n (suc i))) 1 []
  comes_due_lem n zero h = inside 0 (BackingOff a n 1) (Due a n) sending.Due (omega arith) refl refl
  comes_due_lem n (suc i) h = inside (suc i) (Due a n) (Due a n) sending.Nothing (omega arith) refl refl

  come_due : (n : ℕ) → n < 4 → Leads (at (Head 0) (BackingOff a n 1)) (silence 1501) (going_on (at Hunting (Waiting a (n + 1) 0))) 1501 f
  come_due n h = quiet_then (comes_due n) _ f 1500 (comes_due_lem n) (aborts n h)

  -- ---- a round: from copy n to copy n + 1, given up for this cause
  module _ (cause : Cause) (some : 0 < R.wait (length f)) (backs : (n : ℕ) → 0 < R.back cause n) where
    given_up_lem : (n : ℕ) → n < 4
        → Leads (at Hunting (Waiting a n 0)) (given_up cause (R.wait (length f))) (going_on (at Hunting (BackingOff a n (R.back cause n)))) (given_up_time cause (R.wait (length f))) []
    given_up_lem n h = by cause (backs_off_lem cause n h (backs n))
      where
        by : (k : Cause) → lose R k true a n ≡ goes_on (BackingOff a n (R.back k n)) (sending.BackingOff (record { 0 = R.back k n }))
            → Leads (at Hunting (Waiting a n 0)) (given_up k (R.wait (length f))) (going_on (at Hunting (BackingOff a n (R.back k n)))) (given_up_time k (R.wait (length f))) []
        by Time e = wait_then n _ some (hunting _ _ _ (lost n (R.wait (length f) - 1) (omega arith) ∙ e) refl)
        by Told e =
            subst (λ (t : ℕ). Leads (at Hunting (Waiting a n 0)) (given_up Told (R.wait (length f))) (going_on (at Hunting (BackingOff a n (R.back Told n)))) t [])
            (add-zero (R.wait (length f) - 1)) (then (wait_almost n) (told n (R.wait (length f) - 1) _ _ e refl))

    round_leads : (n : ℕ) → n < 4
        → Leads (at Hunting (Waiting a n 0)) (round R cause (length f) n) (going_on (at Hunting (Waiting a (n + 1) 0))) (round_time R cause (length f) n) f
    round_leads n h = then (given_up_lem n h) (then (back_then n (R.back cause n) (backs n)) (then (begins (BackingOff a n 1)) (come_due n h)))

    fourth_leads : Leads (at (Head 0) (Due a 0)) (to_fourth R cause (length f)) (going_on (at Hunting (Waiting a 4 0))) (fourth_time R cause (length f)) (f ++ (f ++ (f ++ f)))
    fourth_leads = then due_then_lem (then (round_leads 1 (omega arith)) (then (round_leads 2 (omega arith)) (round_leads 3 (omega arith))))

-- ---- the verdicts
fails : (R : Rules) (f : List ℕ) (e : ℕ) → suc e ≡ R.wait (length f)
    → Leads R None f (at R None f Hunting (Waiting None 4 e)) (lent tick ∷ []) (over_with R None f (failed 4)) 1 []
unfolding tick_out
fails R f e h =
    let p : on_tick R (length f) true (Waiting None 4 e) ≡ fail None 4 = rw (add-one e, le-ltb (suc e) (R.wait (length f)) (omega arith)) in
    tick_ended R None f _ (gives R None f Hunting TickHunting (Waiting None 4 e) (fail None 4)) (failed 4)
    (ap (gives R None f Hunting TickHunting (Waiting None 4 e)) p) refl refl

-- 06: the session waits for the response
acknowledged : (R : Rules) (c : ℕ) (f : List ℕ) (n e : ℕ)
    → Leads R (Some c) f (at R (Some c) f Hunting (Waiting (Some c) n e)) (lent (byte ACK) ∷ []) (going_on R (Some c) f (at R (Some c) f Hunting (Awaiting c n 0))) 0 []
unfolding byte_out
acknowledged R c f n e = record { to = λ k. refl }

awaiting : (R : Rules) (c size n e : ℕ) → suc e < 5000 → on_tick R size true (Awaiting c n e) ≡ still (Awaiting c n (suc e))
awaiting R c size n e h = rw (add-one e, lt-ltb (suc e) 5000 h)

no_response_lem : (R : Rules) (c : ℕ) (f : List ℕ) (n : ℕ)
    → Leads R (Some c) f (at R (Some c) f Hunting (Awaiting c n 0)) (silence 5000) (over_with R (Some c) f (no_response n)) 5000 []
unfolding tick_out
no_response_lem R c f n =
    quiet_then R (Some c) f (λ i. at R (Some c) f Hunting (Awaiting c n i)) (over_with R (Some c) f (no_response n)) [] 4999
    (λ i h. hunting R (Some c) f _ _ sending.Nothing (awaiting R c (length f) n i (omega arith)) refl)
    (tick_ended R (Some c) f _ _ (no_response n) refl refl refl)

-- ---- every send and every session, for any rules with waits and with back-offs for this cause
module _ (R : Rules) (cause : Cause) (backs : (n : ℕ) → 0 < R.back cause n) where
  pub send_reaches : (kind command : ℕ) (ps : List ℕ) → kind ≤ RES → length ps ≤ MAX_PARAMETERS → 0 < R.wait (length (frame_of kind command ps))
      → Reaches R before (send kind command ps) None (longest_send R cause (length (frame_of kind command ps))) (frame_of kind command ps) (failed 4) (send_time R cause (length (frame_of kind command ps)))
  unfolding byte_out open_out
  send_reaches kind command ps k n some =
      let f = frame_of kind command ps in
      record {
        gave = open_out (after R before) None f;
        accepted = rw (le-ltb 1 kind k, le-ltb 252 (length ps) n);
        verdict = finish R None f (f ++ (f ++ (f ++ f))) (then R None f (fourth_leads R None f cause some backs) (wait_then R None f 4 _ some (fails R f _ (omega arith))));
      }

  pub session_reaches : (command : ℕ) (ps : List ℕ) → length ps ≤ MAX_PARAMETERS → 0 < R.wait (length (frame_of REQ command ps))
      → Reaches R before (session_call command ps) (Some command) (longest_session R cause (length (frame_of REQ command ps))) (frame_of REQ command ps) (no_response 4)
      (session_time R cause (length (frame_of REQ command ps)))
  unfolding byte_out open_out
  session_reaches command ps n some =
      let f = frame_of REQ command ps in
      let a : Option ℕ = Some command in
      record {
        gave = open_out (after R before) a f;
        accepted = rw (le-ltb 252 (length ps) n);
        verdict =
            finish R a f (f ++ (f ++ (f ++ f)))
            (then R a f (fourth_leads R a f cause some backs)
            (then R a f (wait_almost R a f 4) (then R a f (acknowledged R command f 4 (R.wait (length f) - 1)) (no_response_lem R command f 4))));
      }

-- ---- the rules of the host and of the stand-in, in either mode
-- the cause that lasts longer has the full back-offs, and none of them is 0
full : (m : Mode) (n : ℕ) → back_by m (longer m) n ≡ back_offs n
full Sooner n = refl
full Spaced n = refl

rules_back : (c : Choice) (n : ℕ) → 0 < (rules_of c).back (longer c.mode) n
rules_back c n =
    subst (λ (t : ℕ). 0 < t) (sym (full c.mode n))
    (pick_ok (λ (k : ℕ). 0 < k) (eqb n 1) 100 _ (omega arith) (pick_ok (λ (k : ℕ). 0 < k) (eqb n 2) 1100 2100 (omega arith) (omega arith)))

-- in numbers: the calls to copy 4 for a frame of so many bytes
to_fourth_is : (c : Choice) (size : ℕ) → let k = longer c.mode in to_fourth (rules_of c) k size ≡ silence 1501 ++ (base_round k (wire_time size) 99 ++ (base_round k (wire_time size) 1099 ++ base_round k (wire_time size) 2099))
to_fourth_is c size =
    let k = longer c.mode in
    let by : (n : ℕ) → round (rules_of c) k size n ≡ base_round k (wire_time size) (back_offs n - 1) =
    λ n. ap (λ (b : ℕ). given_up k (ack_wait size) ++ (silence (b - 1) ++ (frame_begins ∷ silence 1501))) (full c.mode n) in
    ap₂ (λ (x y : List Call). silence 1501 ++ (x ++ y)) (by 1) (ap₂ (λ (x y : List Call). x ++ y) (by 2) (by 3))

pub longest_send_is : (c : Choice) (size : ℕ) → let k = longer c.mode in
    longest_send (rules_of c) k size
    ≡ (silence 1501 ++ (base_round k (wire_time size) 99 ++ (base_round k (wire_time size) 1099 ++ base_round k (wire_time size) 2099))) ++ silence (1600 + wire_time size)
longest_send_is c size = ap (λ (x : List Call). x ++ silence (1600 + wire_time size)) (to_fourth_is c size)

pub longest_session_is : (c : Choice) (size : ℕ) → let k = longer c.mode in
    longest_session (rules_of c) k size
    ≡ (silence 1501 ++ (base_round k (wire_time size) 99 ++ (base_round k (wire_time size) 1099 ++ base_round k (wire_time size) 2099)))
    ++ (silence (1599 + wire_time size) ++ (lent (byte ACK) ∷ silence 5000))
longest_session_is c size =
    let e : 1600 + wire_time size - 1 ≡ 1599 + wire_time size = omega arith in
    ap₂ (λ (x : List Call) (t : ℕ). x ++ (silence t ++ (lent (byte ACK) ∷ silence 5000))) (to_fourth_is c size) e

-- and their ticks are the bound
send_time_lem : (c : Choice) (size : ℕ) → send_time (rules_of c) (longer c.mode) size ≡ send_bound c.mode size
send_time_lem c size = by c.mode
  where
    by : (m : Mode) → send_time (record { choice = c; wait = ack_wait; back = back_by m }) (longer m) size ≡ send_bound m size
    by Sooner = omega arith
    by Spaced = omega arith

session_time_lem : (c : Choice) (size : ℕ) → session_time (rules_of c) (longer c.mode) size ≡ session_bound c.mode size
session_time_lem c size = by c.mode
  where
    by : (m : Mode) → session_time (record { choice = c; wait = ack_wait; back = back_by m }) (longer m) size ≡ session_bound m size
    by Sooner = omega arith
    by Spaced = omega arith

-- Every send reaches its bound: failed, 4 copies, on exactly that accepted tick.
pub every_send_reaches : (c : Choice) (kind command : ℕ) (ps : List ℕ) → kind ≤ RES → length ps ≤ MAX_PARAMETERS
    → Reaches (rules_of c) before (send kind command ps) None (longest_send (rules_of c) (longer c.mode) (length (frame_of kind command ps))) (frame_of kind command ps) (failed 4)
    (send_bound c.mode (length (frame_of kind command ps)))
every_send_reaches c kind command ps k n =
    let f = frame_of kind command ps in
    subst (Reaches (rules_of c) before (send kind command ps) None (longest_send (rules_of c) (longer c.mode) (length f)) f (failed 4))
    (send_time_lem c (length f)) (send_reaches (rules_of c) (longer c.mode) (rules_back c) kind command ps k n (omega arith))

-- Every session reaches its bound: no response, 4 copies, on exactly that accepted tick.
pub every_session_reaches : (c : Choice) (command : ℕ) (ps : List ℕ) → length ps ≤ MAX_PARAMETERS
    → Reaches (rules_of c) before (session_call command ps) (Some command) (longest_session (rules_of c) (longer c.mode) (length (frame_of REQ command ps))) (frame_of REQ command ps) (no_response 4)
    (session_bound c.mode (length (frame_of REQ command ps)))
every_session_reaches c command ps n =
    let f = frame_of REQ command ps in
    subst (Reaches (rules_of c) before (session_call command ps) (Some command) (longest_session (rules_of c) (longer c.mode) (length f)) f (no_response 4))
    (session_time_lem c (length f)) (session_reaches (rules_of c) (longer c.mode) (rules_back c) command ps n (omega arith))

-- ---- So demand 3 holds with no smaller bound, of either end, in either mode, for any length that a frame has.
-- parameters for a frame of so many bytes
abbrev zeros : ℕ → List ℕ
zeros size = replicate (size - 5) 0

zeros_few : (size : ℕ) → size ≤ MAX_FRAME → length (zeros size) ≤ MAX_PARAMETERS
zeros_few size high = omega (arith, length-replicate {A = ℕ} (size - 5) 0)

zeros_make : (size : ℕ) → 5 ≤ size → length (frame_of REQ 0x07 (zeros size)) ≡ size
zeros_make size low = omega (arith, frame_length REQ 0x07 (zeros size), length-replicate {A = ℕ} (size - 5) 0)

pub send_bound_least : (c : Choice) (b : ℕ → ℕ) → EverySend (rules_of c) b → (size : ℕ) → 5 ≤ size → size ≤ MAX_FRAME → send_bound c.mode size ≤ b size
send_bound_least c b d size low high =
    let f = frame_of REQ 0x07 (zeros size) in
    let r = every_send_reaches c REQ 0x07 (zeros size) (omega arith) (zeros_few size high) in
    subst (λ (n : ℕ). send_bound c.mode n ≤ b n) (zeros_make size low)
    (subst (Kept None f (b (length f))) r.verdict
    (d before (longest_send (rules_of c) (longer c.mode) (length f)) 258 254 REQ 0x07 (zeros size) r.gave r.accepted).kept).soon

pub session_bound_least : (c : Choice) (b : ℕ → ℕ) → EverySession (rules_of c) b → (size : ℕ) → 5 ≤ size → size ≤ MAX_FRAME → session_bound c.mode size ≤ b size
session_bound_least c b d size low high =
    let f = frame_of REQ 0x07 (zeros size) in
    let r = every_session_reaches c 0x07 (zeros size) (zeros_few size high) in
    subst (λ (n : ℕ). session_bound c.mode n ≤ b n) (zeros_make size low)
    (subst (Kept (Some 0x07) f (b (length f))) r.verdict
    (d before (longest_session (rules_of c) (longer c.mode) (length f)) 258 254 0x07 (zeros size) r.gave r.accepted).kept).soon
