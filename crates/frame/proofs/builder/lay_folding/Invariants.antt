-- The loop of `frame::builder::lay_folding`: `dst` is what it was with src's first j bytes pasted in from `at`, and folding what is left of
-- src into `sum` gives the whole fold.
-- Assumes nothing.
use Rattle.std.proofs.Common.{◌≡◌, drop}
use Rattle.std.proofs.Math.Seq.{paste}
use Rattle.frame.specs.Bytes.{fold}
use Rattle.frame.proofs.builder.lay_folding.Given as goal

abbrev pub invariant-loop-j : goal.invariant-loop-j
invariant-loop-j l =
    (l.dst ≡ paste l.initial.dst l.at l.src l.j) × (fold l.acc l.src ≡ fold l.sum (drop l.j l.src))
