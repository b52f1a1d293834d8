-- `run::run::walk` meets its contract: the bytes that have room are kept by one copy, and all are folded.
-- Assumes nothing.
use Rattle.std.proofs.Common.{◌≡◌, List, ℕ, ◌+◌, ◌-◌, ◌++◌, take, ap, ◌∙◌, arith}
use Rattle.std.proofs.Math.Seq.{drop-drop}
use borrow.Rule.Slice.PartMut.{post_of}
use Rattle.run.proofs.Turns.{kept_is}
use Rattle.run.proofs.run.walk.Goals as goal

pub returns : goal.returns
returns c =
    let a = c.args in
    let first = c.min-first.result in
    let n = c.min-n.result in
    let e : first + n - first ≡ n = omega arith in (
      c.fold.ensures,
      ap (λ (l : List ℕ). take first a.body.now ++ (l ++ post_of first (first + n - first) a.body.now)) c.copy_from_slice.ensures.after
          ∙ ap (λ (k : ℕ). take first a.body.now ++ (take n a.s.now ++ post_of first k a.body.now)) e
          ∙ ap (λ (l : List ℕ). take first a.body.now ++ (take n a.s.now ++ l)) (drop-drop n first a.body.now)
          ∙ kept_is a.body.now a.s.now a.at first n c.min-first.ensures c.told-body c.min-n.ensures,
    )
