-- `run::run::walked` meets its contract: Type and Command are the body's first two bytes, and `walk` keeps and folds them all.
-- Assumes nothing.
use Rattle.std.proofs.Common.{sym}
use Rattle.run.proofs.Turns.{walked_is}
use Rattle.run.proofs.run.walked.Goals as goal

pub returns : goal.returns
returns c =
    let a = c.args in
    let w = c.walk-sum.ensures in
    (simp (c.picked-kind.ensures, c.picked-command.ensures, w.0) (sym (walked_is a.p a.s.now)), w.1)
