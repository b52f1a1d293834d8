-- The loop of `list_nodes`: the numbers below k that the mask marks stand over the first n bytes of the list.
-- Assumes nothing.
use Rattle.std.proofs.Common.{◌≡◌, ◌-◌, length}
use Rattle.frame.specs.Bytes.{over}
use Rattle.masks.specs.Mask.{marked}
use Rattle.nodes.proofs.list_nodes.Given as goal

abbrev pub invariant-loop-k : goal.invariant-loop-k
invariant-loop-k l = (l.n ≡ length (marked l.mask (l.k - 1))) × (l.list ≡ over (marked l.mask (l.k - 1)) l.initial.list)
