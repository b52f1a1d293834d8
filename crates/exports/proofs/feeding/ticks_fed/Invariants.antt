-- The loop of `exports::feeding::ticks_fed`: the ticks left, from here, give what all of them give.
-- Assumes nothing.
use Rattle.std.proofs.Common.{◌≡◌, ◌-◌}
use Rattle.step.specs.Checks.{checks, passes}
use Rattle.exports.specs.Feeding.{at, ticks_fed}
use Rattle.exports.proofs.feeding.ticks_fed.Given as goal

abbrev pub invariant-loop : goal.invariant-loop
invariant-loop g l =
    ticks_fed (checks l.initial.line l.initial.up passes) (at l.initial.link l.initial.line l.initial.up l.initial.sum) l.n
    ≡ ticks_fed (checks l.initial.line l.initial.up passes) (at l.link l.line l.up l.sum) (l.n - l.counter)
