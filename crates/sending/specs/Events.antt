-- Sections 5 and 6, sending and the session: what the open send or session does on an event, and at a restart.
-- Assumes nothing.
use Rattle.std.specs.Prelude.{ℕ, Bool, true, false, Option, Some, None}
use Rattle.refusals.specs.Pick.{pick}
use Rattle.rules.specs.Rules.{Rules}
use Rattle.rules.specs.declared.Cause.TheVariants.{Told}
use Rattle.job.specs.Job.{goes_on, still, put_out, lose}
use Rattle.job.specs.Ticks.{on_tick, on_abort}
use Rattle.hearing.specs.declared.hearing.Single.{Single}
use Rattle.hearing.specs.declared.hearing.Single.TheVariants.{Ack, Nak, Can}
use Rattle.hearing.specs.declared.hearing.End.{End}
use Rattle.hearing.specs.declared.hearing.End.TheVariants as end
use Rattle.hearing.specs.declared.hearing.Event.{Event}
use Rattle.hearing.specs.declared.hearing.Event.TheVariants.{Inside, Kept, Skipped, Alone, Ended, TickHunting, TickInside, Aborted}
use Rattle.reception.specs.Said.{is_awaited}
use Rattle.reception.specs.declared.said.Awaited.{Awaited}
use Rattle.reception.specs.declared.said.Awaited.TheVariants as awaited
use Rattle.report.specs.declared.Sending.{Sending}
use Rattle.report.specs.declared.Sending.TheVariants as sending
use Rattle.report.specs.declared.Session.{Session}
use Rattle.report.specs.declared.Session.TheVariants as session
use Rattle.report.specs.declared.Reset.TheVariants as reset
use Rattle.job.specs.declared.job.Job.{Job}
use Rattle.job.specs.declared.job.Job.TheVariants.{Idle, Due, Waiting, BackingOff, Awaiting}
use Rattle.job.specs.declared.job.Act.{Act}

-- 06 while waiting: acknowledged. A session stays open and waits for the response.
abbrev pub acknowledge : Option ℕ → ℕ → Act
acknowledge None n = goes_on Idle (sending.Acknowledged n)
acknowledge (Some c) n =
    record { job = Awaiting c n 0; sending = sending.Acknowledged n; session = session.Waiting; reset = reset.Nothing; copy = false }

-- 06, 15 or 18 while waiting; such a byte comes while hunting
abbrev pub on_answer : Rules → Single → Option ℕ → ℕ → Act
on_answer R Ack a n = acknowledge a n
on_answer R Nak a n = lose R Told true a n
on_answer R Can a n = lose R Told true a n

-- In quiet, due or back-off: stray, nothing changes.
abbrev pub on_single : Rules → Single → Job → Act
on_single R s Idle = goes_on Idle sending.Stray
on_single R s (Due a n) = goes_on (Due a n) sending.Stray
on_single R s (Waiting a n e) = on_answer R s a n
on_single R s (BackingOff a n l) = goes_on (BackingOff a n l) sending.Stray
on_single R s (Awaiting c n e) = goes_on (Awaiting c n e) sending.Stray

-- The call that ends a reception puts out a due copy.
abbrev pub release : Job → Act
release Idle = still Idle
release (Due a n) = put_out a n
release (Waiting a n e) = still (Waiting a n e)
release (BackingOff a n l) = still (BackingOff a n l)
release (Awaiting c n e) = still (Awaiting c n e)

-- A copy waits for its ACK. A session stays open after it and waits for a RES with the same Command.
abbrev pub awaited_by : Job → Awaited
awaited_by Idle = awaited.Nothing
awaited_by (Due a n) = awaited.Nothing
awaited_by (Waiting a n e) = awaited.Ack
awaited_by (BackingOff a n l) = awaited.Nothing
awaited_by (Awaiting c n e) = awaited.Response c

abbrev pub awaits : ℕ → Job → Bool
awaits command j = is_awaited command (awaited_by j)

abbrev pub copies_of : Job → ℕ
copies_of Idle = 0
copies_of (Due a n) = n
copies_of (Waiting a n e) = n
copies_of (BackingOff a n l) = n
copies_of (Awaiting c n e) = n

-- It ends the session with that body.
abbrev pub respond : Job → Act
respond j = record { job = Idle; sending = sending.Nothing; session = session.Response (copies_of j); reset = reset.Nothing; copy = false }

-- Any other is an end like the rest.
abbrev pub on_response : ℕ → Job → Act
on_response command j = pick (awaits command j) (respond j) (release j)

abbrev pub on_end : End → Job → Act
on_end end.BadLength j = release j
on_end end.BadSum j = release j
on_end end.Reserved j = release j
on_end (end.Request size) j = release j
on_end (end.Response size command) j = on_response command j

-- the job's act on an event, with a held frame of so many bytes
abbrev pub on_event : Rules → ℕ → Event → Job → Act
on_event R size Inside j = still j
on_event R size (Kept at) j = still j
on_event R size Skipped j = still j
on_event R size (Alone s) j = on_single R s j
on_event R size (Ended e) j = on_end e j
on_event R size TickHunting j = on_tick R size true j
on_event R size TickInside j = on_tick R size false j
on_event R size Aborted j = on_abort R size j

-- Restart reports abandoned: in the sending part for an open send, in the session part alone for an open session.
abbrev pub abandoned_send : Option ℕ → Sending
abandoned_send None = sending.Abandoned
abandoned_send (Some c) = sending.Nothing

abbrev pub abandoned_ask : Option ℕ → Session
abandoned_ask None = session.Nothing
abandoned_ask (Some c) = session.Abandoned

abbrev pub abandon : Option ℕ → Act
abandon a = record { job = Idle; sending = abandoned_send a; session = abandoned_ask a; reset = reset.Nothing; copy = false }

abbrev pub on_restart : Job → Act
on_restart Idle = still Idle
on_restart (Due a n) = abandon a
on_restart (Waiting a n e) = abandon a
on_restart (BackingOff a n l) = abandon a
on_restart (Awaiting c n e) = abandon (Some c)
