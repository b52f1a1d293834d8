-- `Output::put_all` meets its contract: each character is put behind those before.
-- Assumes nothing.
use Rattle.std.proofs.Common.{Ok, [], ◌∷◌, take, slice_index, sym, subst, arith}
use Rattle.std.proofs.lemmas.List.{take_more}
use Rattle.script.proofs.Texts.{Put, puts_on}
use Rattle.script.proofs.output.Output.put_all.Goals as goal

pub loop-c-preserved : goal.loop-c-preserved
loop-c-preserved g c =
    let l = c.loop-c in
    let text = c.args.text.now in
    let begun = c.try_extend_from_slice.new.self in
    subst (λ t. Put begun t c.put.new.self.waiting) (sym (take_more text l.c-index 0 (omega arith)))
    (puts_on {E = Unit {0}} begun l.self.waiting c.put.new.self.waiting (take l.c-index text) (slice_index text l.c-index ∷ []) (Ok tt) l.invariant c.in_ok-put.ensures.waits)
