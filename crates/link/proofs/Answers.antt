-- Section 3: what each link call tells, with the numbers of its refusals in the order of its checks, or 0 and its report.
--     call_told                                     by the checks of any call's own
--     send_told, session_told                       1, 2, 3, 4 and 1, 2, 4
--     byte_told, tick_told, restart_told, run_told_lem  1
-- Assumes nothing.
use Rattle.std.specs.Prelude.{Err, None, Ok, Some}
use mathlib.Core.Path.{◌≡◌, refl, ap, ◌∙◌}
use mathlib.Core.List.{List, [], ◌∷◌, ◌++◌}
use Prim.Native.Nat.{ℕ}
use lib.Dec.{ltb}
use lib.ListN.{length}
use Rattle.refusals.specs.Pick.{pick}
use Rattle.frame.specs.Frame.{frame_of}
use Rattle.refusals.proofs.Picks.{through_by}
use Rattle.rules.specs.Rules.{rules_of}
use Rattle.job.specs.Job.{is_open}
use Rattle.report.specs.Told.{report_told}
use Rattle.step.specs.Checks.{lacks_room, send_own, session_own, Checked, passes}
use Rattle.link.specs.declared.link.Link.{Link}
use Rattle.link.specs.Out.{Out, out_report, byte_out, tick_out, open_out, restart_out, run_out}
use Rattle.link.specs.Calls.{Answered, Ran, answered, ran, CallPromise, RunPromise}
use Rattle.link.specs.Answers.{answer_told, run_told, checked_told}

-- what an accepted call tells
abbrev done : Out → List ℕ
done o = 0 ∷ report_told (out_report o)

own_told : (own : Checked) (o : Out) (l : Link) → answer_told (answered own o l).answer ≡ checked_told own (done o)
own_told (Ok _) o l = refl
own_told (Err k) o l = refl

module _ {o : Out} {l : Link} {line up : List ℕ} {r : Answered} {line' up' : List ℕ} where
  -- ROOM first, then the call's own checks
  pub call_told : {own : Checked} → CallPromise own o l line up r line' up'
      → answer_told r.answer ≡ pick (lacks_room (length line) (length up)) (1 ∷ []) (checked_told own (0 ∷ report_told (out_report o)))
  call_told {own} c =
      ap (λ (a : Answered). answer_told a.answer) c.answer
      ∙ through_by (λ (k : Checked). answer_told (answered k o l).answer) (lacks_room (length line) (length up)) refl (own_told own o l)

module _ {l : Link} {line up : List ℕ} {r : Answered} {line' up' : List ℕ} where
  pub send_told : (kind command : ℕ) (ps : List ℕ)
      → CallPromise (send_own l.core.job kind (length ps)) (open_out l None (frame_of kind command ps)) l line up r line' up'
      → answer_told r.answer
      ≡ pick (lacks_room (length line) (length up)) (1 ∷ [])
      (pick (is_open l.core.job) (2 ∷ [])
      (pick (ltb 1 kind) (3 ∷ [])
      (pick (ltb 252 (length ps)) (4 ∷ [])
      (0 ∷ report_told (out_report (open_out l None (frame_of kind command ps)))))))
  send_told kind command ps c =
      let told = done (open_out l None (frame_of kind command ps)) in
      let f : Checked → List ℕ = λ (k : Checked). checked_told k told in
      call_told c
      ∙ ap (pick (lacks_room (length line) (length up)) (1 ∷ []))
      (through_by f (is_open l.core.job) refl
      (through_by f (ltb 1 kind) refl
      (through_by f (ltb 252 (length ps)) refl refl)))

  -- which is always REQ
  pub session_told : (command : ℕ) (ps : List ℕ)
      → CallPromise (session_own l.core.job (length ps)) (open_out l (Some command) (frame_of 0 command ps)) l line up r line' up'
      → answer_told r.answer
      ≡ pick (lacks_room (length line) (length up)) (1 ∷ [])
      (pick (is_open l.core.job) (2 ∷ [])
      (pick (ltb 252 (length ps)) (4 ∷ [])
      (0 ∷ report_told (out_report (open_out l (Some command) (frame_of 0 command ps))))))
  session_told command ps c =
      let told = done (open_out l (Some command) (frame_of 0 command ps)) in
      let f : Checked → List ℕ = λ (k : Checked). checked_told k told in
      call_told c
      ∙ ap (pick (lacks_room (length line) (length up)) (1 ∷ []))
      (through_by f (is_open l.core.job) refl
      (through_by f (ltb 252 (length ps)) refl refl))

  pub byte_told : (b : ℕ) → CallPromise passes (byte_out (rules_of l.core.choice) l b) l line up r line' up'
      → answer_told r.answer ≡ pick (lacks_room (length line) (length up)) (1 ∷ []) (0 ∷ report_told (out_report (byte_out (rules_of l.core.choice) l b)))
  byte_told b c = call_told c

  pub tick_told : CallPromise passes (tick_out (rules_of l.core.choice) l) l line up r line' up'
      → answer_told r.answer ≡ pick (lacks_room (length line) (length up)) (1 ∷ []) (0 ∷ report_told (out_report (tick_out (rules_of l.core.choice) l)))
  tick_told c = call_told c

  pub restart_told : CallPromise passes (restart_out l) l line up r line' up'
      → answer_told r.answer ≡ pick (lacks_room (length line) (length up)) (1 ∷ []) (0 ∷ report_told (out_report (restart_out l)))
  restart_told c = call_told c

-- a run of bytes also tells how many were taken
pub run_told_lem : {l : Link} (bytes : List ℕ) {line up : List ℕ} {r : Ran} {line' up' : List ℕ} → RunPromise (run_out (rules_of l.core.choice) l bytes) l line up r line' up'
    → run_told r.answer
    ≡ pick (lacks_room (length line) (length up)) (1 ∷ [])
    (0 ∷ (report_told (out_report (run_out (rules_of l.core.choice) l bytes).out) ++ ((run_out (rules_of l.core.choice) l bytes).taken ∷ [])))
run_told_lem {l} bytes {line} {up} c =
    ap (λ (a : Ran). run_told a.answer) c.answer
    ∙ through_by (λ (k : Checked). run_told (ran k (run_out (rules_of l.core.choice) l bytes) l).answer) (lacks_room (length line) (length up)) refl refl
