-- Where an event does not concern the job: what `decide` may leave out.
-- Assumes nothing.
use Rattle.std.specs.Prelude.{◌≡◌, ℕ, false}
use mathlib.Core.Path.{refl, ap, ◌∙◌}
use Rattle.refusals.proofs.Picks.{no}
use Rattle.rules.specs.Rules.{Rules}
use Rattle.rules.specs.declared.Role.{Role}
use Rattle.rules.specs.declared.Role.TheVariants.{Host, Module}
use Rattle.hearing.specs.declared.hearing.Single.{Single}
use Rattle.hearing.specs.declared.hearing.End.{End}
use Rattle.hearing.specs.declared.hearing.End.TheVariants as end
use Rattle.hearing.specs.declared.hearing.Event.{Event}
use Rattle.hearing.specs.declared.hearing.Event.TheVariants.{Inside, Kept, Skipped, Alone, Ended, TickHunting, TickInside, Aborted}
use Rattle.report.specs.declared.Reset.{Reset}
use Rattle.report.specs.declared.Reset.TheVariants as reset
use Rattle.report.specs.declared.Sending.TheVariants as sending
use Rattle.reception.specs.Said.{said_end, said_on}
use Rattle.reception.specs.declared.said.Awaited.TheVariants as awaited
use Rattle.reception.proofs.Theorems.{alike}
use Rattle.job.specs.Job.{goes_on, still}
use Rattle.job.specs.declared.job.Job.{Job}
use Rattle.job.specs.declared.job.Job.TheVariants.{Idle, Due, Waiting, BackingOff, Awaiting}
use Rattle.sending.specs.Events.{on_single, release, awaited_by, on_end, on_event}
use Rattle.step.specs.Promises.{is_waiting, heeds_ends, concerns, stray_on}
use Rattle.step.specs.Deciding.{either}

-- no reset is the sender's
pub either_none : (x : Reset) → either x reset.Nothing ≡ x
either_none reset.Nothing = refl
either_none reset.Sums = refl
either_none reset.Delivery = refl

-- no copy waits: a single byte is stray
single_aside : (R : Rules) (s : Single) (j : Job) → is_waiting j ≡ false → on_single R s j ≡ goes_on j sending.Stray
single_aside R s Idle h = refl
single_aside R s (Due a n) h = refl
single_aside R s (Waiting a n e) h = absurd (no h)
single_aside R s (BackingOff a n l) h = refl
single_aside R s (Awaiting c n e) h = refl

-- no copy is due, and nothing awaited: the end of a frame releases nothing
unheeded : (j : Job) → heeds_ends j ≡ false → (release j ≡ still j) × (awaited_by j ≡ awaited.Nothing)
unheeded Idle h = (refl, refl)
unheeded (Due a n) h = absurd (no h)
unheeded (Waiting a n e) h = absurd (no h)
unheeded (BackingOff a n l) h = (refl, refl)
unheeded (Awaiting c n e) h = absurd (no h)

end_aside : (e : End) (j : Job) → heeds_ends j ≡ false → on_end e j ≡ still j
end_aside end.BadLength j h = (unheeded j h).0
end_aside end.BadSum j h = (unheeded j h).0
end_aside end.Reserved j h = (unheeded j h).0
end_aside (end.Request size) j h = (unheeded j h).0
end_aside (end.Response size command) j h = simp ((unheeded j h).1, (unheeded j h).0)

-- the job stays as it is, whatever the rules
pub act_aside : (R : Rules) (size : ℕ) (e : Event) (j : Job) → concerns e j ≡ false → on_event R size e j ≡ goes_on j (stray_on e)
act_aside R size Inside j h = refl
act_aside R size (Kept at) j h = refl
act_aside R size Skipped j h = refl
act_aside R size (Alone s) j h = single_aside R s j h
act_aside R size (Ended e) j h = end_aside e j h
act_aside R size TickHunting j h = absurd (no h)
act_aside R size TickInside j h = absurd (no h)
act_aside R size Aborted j h = absurd (no h)

-- and reception need not ask what it awaits, nor who hears: where nothing is awaited, nothing is cancelled
none_cancelled : (role : Role) (e : Event) → said_on role e awaited.Nothing ≡ said_on Host e awaited.Nothing
none_cancelled Host e = refl
none_cancelled Module e = alike e awaited.Nothing refl

pub said_aside : (role : Role) (e : Event) (j : Job) → concerns e j ≡ false → said_on role e (awaited_by j) ≡ said_on Host e awaited.Nothing
said_aside role Inside j h = refl
said_aside role (Kept at) j h = refl
said_aside role Skipped j h = refl
said_aside role (Alone s) j h = refl
said_aside role (Ended e) j h = ap (said_end role e) (unheeded j h).1 ∙ none_cancelled role (Ended e)
said_aside role TickHunting j h = refl
said_aside role TickInside j h = refl
said_aside role Aborted j h = refl
