-- The loop of `Output::put_bytes`: the digits of the bytes before this one are put.
-- Assumes nothing.
use Rattle.std.proofs.Common.{take, flat_map}
use Rattle.script.specs.Output.{hex}
use Rattle.script.proofs.Texts.{Put}
use Rattle.script.proofs.output.Output.put_bytes.Given as goal

abbrev pub invariant-loop-b : goal.invariant-loop-b
invariant-loop-b g l = Put l.initial.self.waiting (flat_map hex (take l.b-index l.bytes)) l.self.waiting
