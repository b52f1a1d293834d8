-- `counting::step` meets its contract: a whole frame, or a byte while hunting.
-- Assumes nothing.
use Rattle.std.proofs.Common.{rules, ◌+◌, arith}
use Rattle.std.proofs.lemmas.List.{take_rest}
use Rattle.counting.proofs.Ahead.{apart_at, stride_at, counts_are_at}
use Rattle.counting.proofs.step.Goals as goal

pub returns-then-b-eq-START : goal.returns-then-b-eq-START
returns-then-b-eq-START c =
    let bytes = c.args.bytes.now in
    let at = c.args.at in
    stride_at c.args.counts.now bytes at c.stride.new.counts c.in_ok-stride.field-0 _ (search rules) (search rules)
    (take_rest bytes (at + 1))
    c.in_ok-stride.ensures

pub returns-then-b-le-START : goal.returns-then-b-le-START
returns-then-b-le-START c =
    counts_are_at (search rules)
    (apart_at c.args.counts.now c.args.bytes.now c.args.at 0 (search rules) (search rules) (λ e. omega (arith, e)))

pub returns : goal.returns
returns c =
    counts_are_at c.count_apart.ensures
    (apart_at c.args.counts.now c.args.bytes.now c.args.at c.in_ok-b.b.now (search rules) (search rules)
    (λ e. omega (arith, e, c.if-b-le-START.false)))
