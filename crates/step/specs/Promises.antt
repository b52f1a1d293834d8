-- What the checks of a send and of a session promise the calls: ROOM and their own together.
-- And which events concern a job: for any other `decide` has a short way.
-- Assumes nothing.
use Rattle.std.specs.Prelude.{ℕ, Bool, true, false}
use Rattle.hearing.specs.declared.hearing.Event.{Event}
use Rattle.hearing.specs.declared.hearing.Event.TheVariants.{Inside, Kept, Skipped, Alone, Ended, TickHunting, TickInside, Aborted}
use Rattle.report.specs.declared.Sending.{Sending}
use Rattle.report.specs.declared.Sending.TheVariants as sending
use Rattle.job.specs.declared.job.Job.{Job}
use Rattle.job.specs.declared.job.Job.TheVariants.{Idle, Due, Waiting, BackingOff, Awaiting}
use Rattle.step.specs.Checks.{Checked, room_checks, send_own, session_own}

abbrev pub send_checks : ℕ → ℕ → Job → ℕ → ℕ → Checked
send_checks line up j kind n = room_checks line up (send_own j kind n)

abbrev pub session_checks : ℕ → ℕ → Job → ℕ → Checked
session_checks line up j n = room_checks line up (session_own j n)

-- a copy waits for its ACK
abbrev pub is_waiting : Job → Bool
is_waiting Idle = false
is_waiting (Due a n) = false
is_waiting (Waiting a n e) = true
is_waiting (BackingOff a n l) = false
is_waiting (Awaiting c n e) = false

-- a due copy goes out at the end of a frame, a session may have its response there, and a stand-in that waits for an ACK cancels
abbrev pub heeds_ends : Job → Bool
heeds_ends Idle = false
heeds_ends (Due a n) = true
heeds_ends (Waiting a n e) = true
heeds_ends (BackingOff a n l) = false
heeds_ends (Awaiting c n e) = true

-- whether an event may do something to the job, or the job has a say in it
abbrev pub concerns : Event → Job → Bool
concerns Inside j = false
concerns (Kept at) j = false
concerns Skipped j = false
concerns (Alone s) j = is_waiting j
concerns (Ended e) j = heeds_ends j
concerns TickHunting j = true
concerns TickInside j = true
concerns Aborted j = true

-- what an event says of the sender where it does not concern the job: a single byte is stray
abbrev pub stray_on : Event → Sending
stray_on Inside = sending.Nothing
stray_on (Kept at) = sending.Nothing
stray_on Skipped = sending.Nothing
stray_on (Alone s) = sending.Stray
stray_on (Ended e) = sending.Nothing
stray_on TickHunting = sending.Nothing
stray_on TickInside = sending.Nothing
stray_on Aborted = sending.Nothing
