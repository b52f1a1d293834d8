-- The loop of `counting::count`: what is left is ahead of the bytes at the start.
-- Assumes nothing.
use Rattle.std.proofs.Common.{length}
use Rattle.counting.specs.Promises.{Ahead}
use Rattle.counting.proofs.count.Given as goal

abbrev pub invariant-loop-b : goal.invariant-loop-b
invariant-loop-b l = Ahead l.initial.tally l.initial.rest l.tally l.rest

abbrev pub decreases-loop-b : goal.decreases-loop-b
decreases-loop-b l = length l.rest
