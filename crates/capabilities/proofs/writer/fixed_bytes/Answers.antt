-- `writer::fixed_bytes` meets its contract: they are the bytes before the mask.
-- Assumes nothing.
use Rattle.std.proofs.Common.{◌<◌, rules}
use Rattle.capabilities.specs.Writer.{capabilities_body}
use Rattle.capabilities.proofs.Layouts.{first_byte, second_byte}
use Rattle.capabilities.proofs.writer.fixed_bytes.Goals as goal

pub returns : goal.returns
unfolding capabilities_body
returns c =
    let i = c.args.identity in
    let m : i.manufacturer < 65536 = search rules in
    let t : i.product_type < 65536 = search rules in
    let p : i.product_id < 65536 = search rules in
    simp (
      first_byte i.manufacturer _ m c.to_be_bytes-manufacturer.ensures,
      second_byte i.manufacturer _ c.to_be_bytes-manufacturer.ensures,
      first_byte i.product_type _ t c.to_be_bytes-product_type.ensures,
      second_byte i.product_type _ c.to_be_bytes-product_type.ensures,
      first_byte i.product_id _ p c.to_be_bytes-product_id.ensures,
      second_byte i.product_id _ c.to_be_bytes-product_id.ensures,
    )
