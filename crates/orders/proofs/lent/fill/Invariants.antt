-- The loop of `fill`: the first i bytes are the pattern's, and the others are as they were.
-- Assumes nothing.
use Rattle.std.proofs.Common.{◌≡◌, ◌++◌, drop}
use Rattle.orders.specs.Lent.{pattern}
use Rattle.orders.proofs.lent.fill.Given as goal

abbrev pub invariant-loop-i : goal.invariant-loop-i
invariant-loop-i l = l.lent ≡ pattern l.i ++ drop l.i l.initial.lent
