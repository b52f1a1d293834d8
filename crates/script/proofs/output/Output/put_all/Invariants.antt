-- The loop of `Output::put_all`: the characters before this one are put.
-- Assumes nothing.
use Rattle.std.proofs.Common.{take}
use Rattle.script.proofs.Texts.{Put}
use Rattle.script.proofs.output.Output.put_all.Given as goal

abbrev pub invariant-loop-c : goal.invariant-loop-c
invariant-loop-c g l = Put l.initial.self.waiting (take l.c-index l.text) l.self.waiting
