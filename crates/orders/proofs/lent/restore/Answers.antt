-- `restore` meets its contract: where no byte behind the reported ones differs from the pattern, the pattern over those is the whole pattern.
-- Assumes nothing.
use Rattle.std.proofs.Common.{sym, ◌∙◌}
use Rattle.orders.proofs.Patterns.{restored}
use Rattle.orders.proofs.lent.restore.Goals as goal

pub returns-else-is_spilled : goal.returns-else-is_spilled
returns-else-is_spilled c =
    restored c.within-told.result c.args.lent.now c.fill-else-is_spilled.new.lent c.within-told.ensures.upper_bound
    (sym c.is_spilled.ensures ∙ c.if-is_spilled.false)
    c.fill-else-is_spilled.ensures
