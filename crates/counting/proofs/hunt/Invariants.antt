-- The loop of `counting::hunt`: what is left is ahead of the bytes at the start.
-- Assumes nothing.
use Rattle.std.proofs.Common.{◌-◌, ◌≤◌, length, drop}
use Rattle.counting.specs.Promises.{hunting, Ahead}
use Rattle.counting.proofs.hunt.Given as goal

abbrev pub invariant-loop-next : goal.invariant-loop-next
invariant-loop-next l =
    record {
      within : l.at ≤ length l.bytes;
      ahead : Ahead (hunting l.initial.counts) l.bytes (hunting l.counts) (drop l.at l.bytes);
    }

abbrev pub decreases-loop-next : goal.decreases-loop-next
decreases-loop-next l = length l.bytes - l.at
