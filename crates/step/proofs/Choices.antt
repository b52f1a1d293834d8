-- Whatever a link was opened as, its sender and its session act alike, if the rules of sending are the same.
-- Assumes nothing.
use Rattle.std.specs.Prelude.{◌≡◌, ℕ, Bool, true, false}
use mathlib.Core.Path.{refl}
use Rattle.rules.specs.Rules.{Rules, chosen}
use Rattle.rules.specs.declared.Choice.{Choice}
use Rattle.hearing.specs.declared.hearing.Single.{Single}
use Rattle.hearing.specs.declared.hearing.Single.TheVariants.{Ack, Nak, Can}
use Rattle.hearing.specs.declared.hearing.Event.{Event}
use Rattle.hearing.specs.declared.hearing.Event.TheVariants.{Inside, Kept, Skipped, Alone, Ended, TickHunting, TickInside, Aborted}
use Rattle.job.specs.Ticks.{on_tick, on_abort}
use Rattle.job.specs.declared.job.Job.{Job}
use Rattle.job.specs.declared.job.Job.TheVariants.{Idle, Due, Waiting, BackingOff, Awaiting}
use Rattle.sending.specs.Events.{on_single, on_event}

tick_alike : (R : Rules) (c : Choice) (size : ℕ) (hunting : Bool) (j : Job) → on_tick R size hunting j ≡ on_tick (chosen c R) size hunting j
tick_alike R c size hunting Idle = refl
tick_alike R c size hunting (Due a n) = refl
tick_alike R c size hunting (Waiting a n e) = refl
tick_alike R c size hunting (BackingOff a n l) = refl
tick_alike R c size hunting (Awaiting k n e) = refl

abort_alike : (R : Rules) (c : Choice) (size : ℕ) (j : Job) → on_abort R size j ≡ on_abort (chosen c R) size j
abort_alike R c size Idle = refl
abort_alike R c size (Due a n) = refl
abort_alike R c size (Waiting a n e) = refl
abort_alike R c size (BackingOff a n l) = refl
abort_alike R c size (Awaiting k n e) = refl

single_alike : (R : Rules) (c : Choice) (s : Single) (j : Job) → on_single R s j ≡ on_single (chosen c R) s j
single_alike R c s Idle = refl
single_alike R c s (Due a n) = refl
single_alike R c Ack (Waiting a n e) = refl
single_alike R c Nak (Waiting a n e) = refl
single_alike R c Can (Waiting a n e) = refl
single_alike R c s (BackingOff a n l) = refl
single_alike R c s (Awaiting k n e) = refl

pub event_alike : (R : Rules) (c : Choice) (size : ℕ) (e : Event) (j : Job) → on_event R size e j ≡ on_event (chosen c R) size e j
event_alike R c size Inside j = refl
event_alike R c size (Kept at) j = refl
event_alike R c size Skipped j = refl
event_alike R c size (Alone s) j = single_alike R c s j
event_alike R c size (Ended e) j = refl
event_alike R c size TickHunting j = tick_alike R c size true j
event_alike R c size TickInside j = tick_alike R c size false j
event_alike R c size Aborted j = abort_alike R c size j
