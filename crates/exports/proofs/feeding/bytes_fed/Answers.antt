-- `exports::feeding::bytes_fed` meets its contract: each turn is one call more, and behind the loop no byte is left.
-- Assumes nothing.
use Rattle.std.proofs.Common.{◌∙◌, arith}
use Rattle.exports.proofs.Feeds.{bytes_on, bytes_end}
use Rattle.exports.proofs.feeding.bytes_fed.Goals as goal

pub loop-b-preserved : goal.loop-b-preserved
loop-b-preserved g c =
    let l = c.loop-b in
    let a = c.args in
    l.invariant
    ∙ bytes_on a.line.now a.up.now l.link l.line l.up l.sum l.b-index a.input.now _ _ _ _ _ (omega arith) l.auto.line l.auto.up
    c.byte-answer.ensures c.mix-sum.ensures c.answer_number.ensures

pub returns : goal.returns
returns g c =
    let l = c.loop-b in
    let a = c.args in
    l.invariant ∙ bytes_end a.line.now a.up.now l.link l.line l.up l.sum l.b-index a.input.now (omega arith)
