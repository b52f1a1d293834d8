-- `writer::write_capabilities` meets its contract: its parts are those of the body.
-- Assumes nothing.
use Rattle.capabilities.proofs.Writing.{parts_written}
use Rattle.capabilities.proofs.writer.write_capabilities.Goals as goal

pub returns : goal.returns
returns c =
    let a = c.args in
    parts_written a.identity a.mask.now a.lent.now c.fixed_bytes.ensures c.write_parts.ensures
