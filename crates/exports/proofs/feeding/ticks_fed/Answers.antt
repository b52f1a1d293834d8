-- `exports::feeding::ticks_fed` meets its contract: each turn is one tick more, and behind the loop none is left.
-- Assumes nothing.
use Rattle.std.proofs.Common.{refl, ◌∙◌, arith}
use Rattle.exports.proofs.Feeds.{ticks_start, ticks_on, ticks_end, ended}
use Rattle.exports.proofs.feeding.ticks_fed.Goals as goal

pub loop-init : goal.loop-init
loop-init g c =
    let a = c.args in
    ticks_start a.line.now a.up.now a.link.now a.line.now a.up.now 0 0 a.n refl

pub loop-preserved : goal.loop-preserved
loop-preserved g c =
    let l = c.loop in
    let a = c.args in
    l.invariant
    ∙ ticks_on a.line.now a.up.now l.link l.line l.up l.sum l.counter a.n _ _ _ _ _ (omega arith) l.auto.line l.auto.up
    c.tick-answer.ensures c.mix-sum.ensures c.answer_number.ensures

pub returns : goal.returns
returns g c =
    let l = c.loop in
    let a = c.args in
    ended _ l.link l.line l.up l.sum
    (l.invariant ∙ ticks_end a.line.now a.up.now l.link l.line l.up l.sum l.counter a.n (omega arith))
