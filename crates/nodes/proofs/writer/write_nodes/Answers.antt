-- `writer::write_nodes` meets its contract: its parts are those of the body.
-- Assumes nothing.
use Rattle.std.proofs.Common.{refl}
use Rattle.nodes.proofs.Writing.{parts_written}
use Rattle.nodes.proofs.writer.write_nodes.Goals as goal

pub returns : goal.returns
returns c =
    let a = c.args in
    parts_written a.controller a.mask.now c.min-n.result c.min-n.ensures a.lent.now refl c.write_parts.ensures
