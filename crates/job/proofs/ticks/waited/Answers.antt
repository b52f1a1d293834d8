-- `job::ticks::waited` meets its contract: no wait is longer than 1,623.
-- Assumes nothing.
use Rattle.std.proofs.Common.{◌+◌, sym, ◌∙◌, arith}
use borrow.Author.Tests.{ltb-true}
use Rattle.rules.specs.Rules.{ack_wait}
use Rattle.rules.proofs.Theorems.{wire_at_most_23}
use Rattle.job.proofs.ticks.waited.Goals as goal

pub overflow_add-waiting : goal.overflow_add-waiting
overflow_add-waiting c =
    omega (
      arith,
      ltb-true (c.args.elapsed + 1) (ack_wait c.args.size) (sym c.still_waits.ensures ∙ c.if-still_waits.true),
      wire_at_most_23 c.args.size,
    )
