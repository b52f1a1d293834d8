-- `link::emit::conclude` meets its contract.
-- Assumes nothing.
use Rattle.link.proofs.emit.conclude.Goals as goal

pub returns : goal.returns
returns c =
    let o = c.line_out-n.ensures c.requires.0 in
    let p = c.up_out-k.ensures c.requires.1 in
    record {
      core_left = simp c.core_of.ensures;
      report = λ x y e f. simp (c.report_of.ensures, o.count y f, p.count x e);
      line_left = o.left;
      up_left = p.left;
    }
