-- `frame::builder::write` meets its contract: the stores are the head, `lay_folding` puts the parameters behind it, and what was folded as it was
-- written is the checksum.
-- Assumes nothing.
use Rattle.std.proofs.Common.{◌+◌, ◌≤◌, length, arith}
use Rattle.frame.proofs.Framing.{laid_over, framed_over, folded_whole}
use Rattle.frame.proofs.builder.write.Goals as goal

pub returns : goal.returns
returns c =
    let a = c.args in
    let room : length a.parameters.now + 5 ≤ length a.lent.now = omega arith in
    framed_over a.lent.now a.parameters.now a.kind a.command room
    (laid_over a.lent.now a.parameters.now a.kind a.command room c.lay_folding-sum.ensures.1)
    (folded_whole a.kind a.command a.parameters.now c.lay_folding-sum.ensures.0)
