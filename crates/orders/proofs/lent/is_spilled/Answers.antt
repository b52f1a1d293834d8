-- `is_spilled` meets its contract: each byte that is passed differs, or those behind it decide.
-- Assumes nothing.
use Rattle.std.proofs.Common.{◌||◌, sym, ap, ◌∙◌, arith}
use mathlib.Core.Bool.{or-false, or_assoc}
use Rattle.orders.proofs.Patterns.{differs_end, differs_step}
use Rattle.orders.proofs.lent.is_spilled.Goals as goal

pub loop-i-preserved : goal.loop-i-preserved
loop-i-preserved c =
    let l = c.loop-i in
    let more = differs_step l.i c.args.lent.now (omega arith) in
    simp (c.mark.ensures, or_assoc, ← more) l.invariant

pub returns : goal.returns
returns c =
    let l = c.loop-i in
    let none = differs_end l.i c.args.lent.now (omega arith) in
    sym (l.invariant ∙ ap (λ t. l.differ || t) none ∙ or-false l.differ)
