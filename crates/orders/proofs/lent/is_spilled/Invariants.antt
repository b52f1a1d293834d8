-- The loop of `is_spilled`: a byte was found that differs, or one of those that are left does.
-- Assumes nothing.
use Rattle.std.proofs.Common.{◌≡◌, ◌||◌, drop}
use Rattle.orders.specs.Lent.{differs, is_spilled}
use Rattle.orders.proofs.lent.is_spilled.Given as goal

abbrev pub invariant-loop-i : goal.invariant-loop-i
invariant-loop-i l = is_spilled l.lent l.n ≡ (l.differ || differs l.i (drop l.i l.lent))
