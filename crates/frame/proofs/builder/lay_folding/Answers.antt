-- `frame::builder::lay_folding` meets its contract: each turn pastes one byte more and folds it in; behind the loop nothing is left of src.
-- Assumes nothing.
use Rattle.std.proofs.Common.{◌≡◌, ℕ, length, sym, ap, ◌∙◌, arith}
use Rattle.std.proofs.Math.Seq.{paste}
use Rattle.frame.proofs.Folds.{fold_end, fold_more}
use Rattle.frame.proofs.Over.{paste_more}
use Rattle.frame.proofs.builder.lay_folding.Goals as goal

pub loop-j-preserved : goal.loop-j-preserved
loop-j-preserved c =
    let a = c.args in
    let l = c.loop-j in (
      paste_more a.dst.now a.at a.src.now l.j (omega arith) (omega arith) l.invariant.0,
      l.invariant.1 ∙ fold_more l.sum l.j a.src.now (omega arith),
    )

pub returns : goal.returns
returns c =
    let a = c.args in
    let l = c.loop-j in
    let all : l.j ≡ length a.src.now = omega arith in (
      sym (l.invariant.1 ∙ fold_end l.sum l.j a.src.now (omega arith)),
      l.invariant.0 ∙ ap (λ (k : ℕ). paste a.dst.now a.at a.src.now k) all,
    )
