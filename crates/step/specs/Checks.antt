-- Section 3, link calls: their checks in order.
-- Assumes nothing.
use Rattle.std.specs.Prelude.{ℕ, Bool, true, List, Result, Ok, Err, length, nat_lt}
use Rattle.refusals.specs.Pick.{pick}
use Rattle.refusals.specs.declared.Refusal.{Refusal}
use Rattle.refusals.specs.declared.Refusal.TheVariants.{Room, Busy, Kind, Long}
use Rattle.job.specs.Job.{is_open}
use Rattle.job.specs.declared.job.Job.{Job}
use Rattle.frame.specs.Frame.{LINE_ROOM, MAX_BODY, MAX_PARAMETERS, RES}

-- what checks answer: that the call passes, or the refusal
abbrev pub Checked : Type 0
Checked = Result (Unit {0}) Refusal

abbrev pub passes : Checked
passes = Ok tt

-- Checks run in the order given for each call; the first that is met refuses.
abbrev pub check : Bool → Refusal → Checked → Checked
check met refusal rest = pick met (Err refusal) rest

-- ROOM first, needing 258 bytes for the line and 254 for the frame handed up; then the call's own checks.
abbrev pub lacks_room : ℕ → ℕ → Bool
lacks_room line up = pick (nat_lt line LINE_ROOM) true (nat_lt up MAX_BODY)

abbrev pub room_checks : ℕ → ℕ → Checked → Checked
room_checks line up own = check (lacks_room line up) Room own

-- by the lent buffers
abbrev pub checks : List ℕ → List ℕ → Checked → Checked
checks line up own = room_checks (length line) (length up) own

-- Its own: send goes on with BUSY, KIND, LONG; session, which is always REQ, with BUSY, LONG.
abbrev pub send_own : Job → ℕ → ℕ → Checked
send_own j kind n = check (is_open j) Busy (check (nat_lt RES kind) Kind (check (nat_lt MAX_PARAMETERS n) Long passes))

abbrev pub session_own : Job → ℕ → Checked
session_own j n = check (is_open j) Busy (check (nat_lt MAX_PARAMETERS n) Long passes)
