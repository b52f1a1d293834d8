-- `counting::count` meets its contract: each turn hears one byte more, and behind the loop nothing is left.
-- Assumes nothing.
use Rattle.std.proofs.Common.{ap, sym, ◌∙◌, arith, length}
use Rattle.tally.specs.declared.Tally.{Tally}
use Rattle.counting.specs.Counting.{count}
use Rattle.counting.proofs.Laws.{count_end, count_more}
use Rattle.counting.proofs.count.Goals as goal

pub loop-b-preserved : goal.loop-b-preserved
loop-b-preserved c =
    let e = c.in-Some.ensures.cases.0 in
    record {
      left = omega (arith, c.loop-b.invariant.left, c.hunt_on.ensures.left, ap length e);
      same =
          c.loop-b.invariant.same
          ∙ c.hunt_on.ensures.same
          ∙ count_more c.hunt_on.new.tally c.hunt_on.result.now c.in-Some.next.now c.in-Some.b.now e
          ∙ ap (λ (t : Tally). count t c.in-Some.next.now) (sym c.count_byte.ensures);
    }

pub returns : goal.returns
returns c =
    sym
    (c.loop-b.invariant.same
    ∙ c.hunt_on.ensures.same
    ∙ count_end c.hunt_on.new.tally c.hunt_on.result.now c.in_default.ensures.cases)
