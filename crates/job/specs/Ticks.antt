-- Sections 5 and 6: what a tick does to the open send or session.
-- Assumes nothing.
use Rattle.std.specs.Prelude.{ℕ, ◌+◌, ◌-◌, Bool, true, false, ltb, Option}
use Rattle.refusals.specs.Pick.{pick}
use Rattle.rules.specs.Rules.{Rules}
use Rattle.rules.specs.declared.Cause.TheVariants.{Time}
use Rattle.job.specs.Job.{still, put_out, start, lose}
use Rattle.report.specs.declared.Sending.TheVariants as sending
use Rattle.report.specs.declared.Session.TheVariants as session
use Rattle.report.specs.declared.Reset.TheVariants as reset
use Rattle.job.specs.declared.job.Job.{Job}
use Rattle.job.specs.declared.job.Job.TheVariants.{Idle, Due, Waiting, BackingOff, Awaiting}
use Rattle.job.specs.declared.job.Act.{Act}

-- Each later tick adds 1 to the wait; at the rule's number the copy is lost.
abbrev pub waited : Rules → ℕ → Bool → Option ℕ → ℕ → ℕ → Act
waited R size hunting a n e = pick (ltb e (R.wait size)) (still (Waiting a n e)) (lose R Time hunting a n)

-- The tick that ends a back-off puts the next copy out if hunting, else it becomes due.
abbrev pub backed : Bool → Option ℕ → ℕ → ℕ → Act
backed hunting a n l = pick (ltb 1 l) (still (BackingOff a n (l - 1))) (start hunting a n)

-- The tick that makes 5,000 ends the session with no response.
abbrev pub awaited : ℕ → ℕ → ℕ → Act
awaited c n e =
    pick (ltb e 5000) (still (Awaiting c n e))
    (record { job = Idle; sending = sending.Nothing; session = session.NoResponse n; reset = reset.Nothing; copy = false })

-- the sender's and the session's part of a tick, by whether the link hunts after reception's part
abbrev pub on_tick : Rules → ℕ → Bool → Job → Act
on_tick R size hunting Idle = still Idle
on_tick R size hunting (Due a n) = still (Due a n)
on_tick R size hunting (Waiting a n e) = waited R size hunting a n (e + 1)
on_tick R size hunting (BackingOff a n l) = backed hunting a n l
on_tick R size hunting (Awaiting c n e) = awaited c n (e + 1)

-- A due copy put out because of an abort has its wait at 0 after that tick.
abbrev pub on_abort : Rules → ℕ → Job → Act
on_abort R size Idle = on_tick R size true Idle
on_abort R size (Due a n) = put_out a n
on_abort R size (Waiting a n e) = on_tick R size true (Waiting a n e)
on_abort R size (BackingOff a n l) = on_tick R size true (BackingOff a n l)
on_abort R size (Awaiting c n e) = on_tick R size true (Awaiting c n e)
