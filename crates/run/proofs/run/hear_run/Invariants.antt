-- The loop of `run::run::hear_run`: there was no news so far, and hearing on from here gives what hearing from the start gives.
-- Assumes nothing.
use Rattle.std.proofs.Common.{◌≡◌, false, ◌-◌, ◌≤◌, length}
use Rattle.run.specs.Promises.{has_news, on_from, far}
use Rattle.run.proofs.run.hear_run.Given as goal

abbrev pub invariant-loop-reach : goal.invariant-loop-reach
invariant-loop-reach l =
    (l.reach.taken ≤ length l.bytes)
    × (has_news l.reach.event ≡ false)
    × (on_from (far l.initial.reach l.initial.body) l.bytes ≡ on_from (far l.reach l.body) l.bytes)

abbrev pub decreases-loop-reach : goal.decreases-loop-reach
decreases-loop-reach l = length l.bytes - l.reach.taken
