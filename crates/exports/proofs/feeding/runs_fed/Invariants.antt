-- The loop of `exports::feeding::runs_fed`: the bytes left, from here, give what all of them give, with as many runs as there are bytes
-- left, since each takes at least one.
-- Assumes nothing.
use Rattle.std.proofs.Common.{◌≡◌, ℕ, ◌≤◌, length}
use Rattle.step.specs.Checks.{checks, passes}
use Rattle.exports.specs.Feeding.{runs_fed}
use Rattle.exports.proofs.Takes.{fed}
use Rattle.exports.proofs.feeding.runs_fed.Given as goal

abbrev pub invariant-loop-rest : goal.invariant-loop-rest
invariant-loop-rest g l =
    (fuel : ℕ)
    × (length l.rest ≤ fuel)
    × (runs_fed (length l.input) (checks l.initial.line l.initial.up passes) l.most (fed l.initial.link l.initial.line l.initial.up l.initial.sum) l.input
    ≡ runs_fed fuel (checks l.initial.line l.initial.up passes) l.most (fed l.link l.line l.up l.sum) l.rest)

abbrev pub decreases-loop-rest : goal.decreases-loop-rest
decreases-loop-rest g l = length l.rest
