-- The loop of `count_input`: each turn counts at least one byte.
-- Assumes nothing.
use Rattle.linecount.proofs.count_input.Given as goal

abbrev pub decreases-loop-left : goal.decreases-loop-left
decreases-loop-left g l = l.left
