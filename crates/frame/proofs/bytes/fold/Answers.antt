-- `frame::bytes::fold` meets its contract: each turn folds the next byte, and behind the loop nothing is left.
-- Assumes nothing.
use Rattle.std.proofs.Common.{sym, ◌∙◌, arith}
use Rattle.frame.proofs.Folds.{fold_end, fold_more}
use Rattle.frame.proofs.bytes.fold.Goals as goal

pub loop-byte-preserved : goal.loop-byte-preserved
loop-byte-preserved c =
    let l = c.loop-byte in
    l.invariant ∙ fold_more l.sum l.byte-index c.args.s.now (omega arith)

pub returns : goal.returns
returns c =
    let l = c.loop-byte in
    sym (l.invariant ∙ fold_end l.sum l.byte-index c.args.s.now (omega arith))
