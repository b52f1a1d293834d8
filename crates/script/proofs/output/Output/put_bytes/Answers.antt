-- `Output::put_bytes` meets its contract: the digits of each byte are put behind those before.
-- Assumes nothing.
use Rattle.std.proofs.Common.{Ok, Err, flat_map, take, slice_index, subst, arith}
use Rattle.script.specs.Output.{bytes_text, hex}
use Rattle.script.proofs.Texts.{Put, byte_more, bytes_room, fails, puts_on}
use Rattle.script.proofs.output.Output.put_bytes.Goals as goal

pub returns-in_err-put_byte : goal.returns-in_err-put_byte
returns-in_err-put_byte g c =
    let l = c.loop-b in
    let bytes = c.args.bytes.now in
    let begun = c.args.self.now.waiting in
    let after = c.put_byte.new.self.waiting in
    let puts = puts_on begun l.self.waiting after (flat_map hex (take l.b-index bytes)) (hex (slice_index bytes l.b-index)) (Err c.in_err-put_byte.field-0.0) l.invariant c.in_err-put_byte.ensures in
    fails begun after (bytes_text bytes) c.from_residual.result c.from_residual.ensures.0 (λ room. (puts.1 (bytes_room begun bytes l.b-index (omega arith) room)).0)

pub loop-b-preserved : goal.loop-b-preserved
loop-b-preserved g c =
    let l = c.loop-b in
    let bytes = c.args.bytes.now in
    let begun = c.args.self.now.waiting in
    subst (λ t. Put begun t c.put_byte.new.self.waiting) (byte_more bytes l.b-index (omega arith))
    (puts_on {E = Unit {0}} begun l.self.waiting c.put_byte.new.self.waiting (flat_map hex (take l.b-index bytes)) (hex (slice_index bytes l.b-index)) (Ok tt) l.invariant c.in_ok-put_byte.ensures)
