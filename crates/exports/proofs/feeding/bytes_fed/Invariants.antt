-- The loop of `exports::feeding::bytes_fed`: the bytes left, from here, give what all of them give.
-- Assumes nothing.
use Rattle.std.proofs.Common.{◌≡◌, drop}
use Rattle.step.specs.Checks.{checks, passes}
use Rattle.exports.specs.Feeding.{at, bytes_fed}
use Rattle.exports.proofs.feeding.bytes_fed.Given as goal

abbrev pub invariant-loop-b : goal.invariant-loop-b
invariant-loop-b g l =
    bytes_fed (checks l.initial.line l.initial.up passes) (at l.initial.link l.initial.line l.initial.up l.initial.sum) l.input
    ≡ bytes_fed (checks l.initial.line l.initial.up passes) (at l.link l.line l.up l.sum) (drop l.b-index l.input)
