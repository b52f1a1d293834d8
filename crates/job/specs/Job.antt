-- Sections 5 and 6: the open send or session, how a copy goes out and how it is given up.
-- Assumes nothing.
use Rattle.std.specs.Prelude.{ℕ, ◌+◌, Bool, true, false, ltb, eqb, Option, Some, None}
use Rattle.refusals.specs.Pick.{pick}
use Rattle.rules.specs.Rules.{Rules}
use Rattle.rules.specs.declared.Cause.{Cause}
use Rattle.units.specs.declared.Millis.{Millis}
use Rattle.report.specs.declared.Sending.{Sending}
use Rattle.report.specs.declared.Sending.TheVariants as sending
use Rattle.report.specs.declared.Session.{Session}
use Rattle.report.specs.declared.Session.TheVariants as session
use Rattle.report.specs.declared.Reset.TheVariants as reset
use Rattle.job.specs.declared.job.Job.{Job}
use Rattle.job.specs.declared.job.Job.TheVariants.{Idle, Due, Waiting, BackingOff, Awaiting}
use Rattle.job.specs.declared.job.Act.{Act}

-- the job goes on; nothing is said in the session part, no reset, no copy
abbrev pub goes_on : Job → Sending → Act
goes_on j s = record { job = j; sending = s; session = session.Nothing; reset = reset.Nothing; copy = false }

abbrev pub still : Job → Act
still j = goes_on j sending.Nothing

-- the number of the next copy; at most 4, a guard that no link from opening meets
abbrev pub next_copy : ℕ → ℕ
next_copy n = pick (ltb n 4) (n + 1) 4

-- Handing a copy over starts its wait at 0.
abbrev pub put_out : Option ℕ → ℕ → Act
put_out a n =
    record { job = Waiting a (next_copy n) 0; sending = sending.Copy (next_copy n); session = session.Nothing; reset = reset.Nothing; copy = true }

-- The next copy goes out if hunting, else it becomes due.
abbrev pub start : Bool → Option ℕ → ℕ → Act
start true a n = put_out a n
start false a n = goes_on (Due a n) sending.Due

-- A failed send ends the session as not sent.
abbrev pub not_sent : Option ℕ → ℕ → Session
not_sent None n = session.Nothing
not_sent (Some c) n = session.NotSent n

-- The verdict is failed, and a reset is indicated with reason "delivery".
abbrev pub fail : Option ℕ → ℕ → Act
fail a n = record { job = Idle; sending = sending.Failed n; session = not_sent a n; reset = reset.Delivery; copy = false }

-- so many ticks go by before the next copy
abbrev pub backing_off : Millis → Option ℕ → ℕ → Act
backing_off time a n = goes_on (BackingOff a n time.0) (sending.BackingOff time)

-- Back off so many ticks. "With 0 the next copy goes out on that same tick, or becomes due" (document 02, P4).
abbrev pub back_off : ℕ → Bool → Option ℕ → ℕ → Act
back_off ticks hunting a n = pick (eqb ticks 0) (start hunting a n) (backing_off (record { 0 = ticks }) a n)

-- After copy 1, 2, 3 back off; after copy 4 fail.
abbrev pub lose : Rules → Cause → Bool → Option ℕ → ℕ → Act
lose R cause hunting a n = pick (ltb n 4) (back_off (R.back cause n) hunting a n) (fail a n)

-- BUSY: a send or session is open.
abbrev pub is_open : Job → Bool
is_open Idle = false
is_open (Due a n) = true
is_open (Waiting a n e) = true
is_open (BackingOff a n l) = true
is_open (Awaiting c n e) = true
