-- The loop of `frame::bytes::fold`: folding what is left of s into `sum` gives the whole fold.
-- Assumes nothing.
use Rattle.std.proofs.Common.{◌≡◌, drop}
use Rattle.frame.specs.Bytes.{fold}
use Rattle.frame.proofs.bytes.fold.Given as goal

abbrev pub invariant-loop-byte : goal.invariant-loop-byte
invariant-loop-byte l = fold l.acc l.s ≡ fold l.sum (drop l.byte-index l.s)
