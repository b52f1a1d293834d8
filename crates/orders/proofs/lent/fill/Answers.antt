-- `fill` meets its contract: each turn puts one byte more of the pattern.
-- Assumes nothing.
use Rattle.std.proofs.Common.{refl, ◌∙◌, arith}
use Rattle.orders.specs.Lent.{pattern}
use Rattle.orders.proofs.Patterns.{fill_more, fill_end}
use Rattle.orders.proofs.lent.fill.Goals as goal

pub loop-i-init : goal.loop-i-init
unfolding pattern
loop-i-init c = refl

pub loop-i-preserved : goal.loop-i-preserved
loop-i-preserved c =
    let l = c.loop-i in
    let more = fill_more l.i c.args.lent.now (omega arith) in
    simp (l.invariant, c.mark.ensures) more

pub returns : goal.returns
returns c = c.loop-i.invariant ∙ fill_end c.loop-i.i c.args.lent.now (omega arith)
