-- Section 3: what a link call answers, by this paper's number and values.
-- Assumes nothing.
use Rattle.std.specs.Prelude.{ℕ, List, [], ◌∷◌, ◌++◌, Result, Ok, Err}
use Rattle.refusals.specs.Refusals.{number_of}
use Rattle.refusals.specs.declared.Refusal.{Refusal}
use Rattle.report.specs.declared.Report.{Report}
use Rattle.report.specs.Told.{report_told}
use Rattle.link.specs.declared.calls.Run.{Run}
use Rattle.step.specs.Checks.{Checked}

-- A refusal returns its number alone; an accepted call is told by 0 and its report.
abbrev pub answer_told : Result Report Refusal → List ℕ
answer_told (Err k) = number_of k ∷ []
answer_told (Ok r) = 0 ∷ report_told r

-- A run of bytes says how many were taken.
abbrev pub run_told : Result Run Refusal → List ℕ
run_told (Err k) = number_of k ∷ []
run_told (Ok r) = 0 ∷ (report_told r.report ++ (r.taken ∷ []))

-- what is told by a call's own checks: the number of the refusal alone, or else this
abbrev pub checked_told : Checked → List ℕ → List ℕ
checked_told (Ok _) told = told
checked_told (Err k) told = number_of k ∷ []
