-- `Output::put_end` meets its contract: the newline is put behind SPILL, where that is put.
-- Assumes nothing.
use Rattle.std.proofs.Common.{[], ◌∷◌, codes, sym, subst}
use Rattle.script.specs.Output.{Puts}
use Rattle.script.proofs.Texts.{Put, puts_on}
use Rattle.script.proofs.output.Output.put_end.Goals.{then-is_spilled+in_ok-put_all, else-is_spilled}
use Rattle.script.proofs.output.Output.put_end.Goals as goal

pub returns-clause-waits : goal.returns-clause-waits
returns-clause-waits g c =
    let begun = c.args.self.now.waiting in
    let after = c.put.new.self.waiting in
    elim c.if-is_spilled.branch [
      | then-is_spilled+in_ok-put_all w ↦
          let spill = subst (λ o. Put begun (codes " SPILL") o.waiting) (sym w.self-is) w.in_ok-put_all.ensures in
          rw w.if-is_spilled.true (puts_on begun c.if-is_spilled.self.waiting after (codes " SPILL") (10 ∷ []) c.put.result spill c.put.ensures.waits)
      | else-is_spilled w ↦ rw w.if-is_spilled.false (subst (λ o. Puts o.waiting (10 ∷ []) c.put.result after) w.self-is c.put.ensures.waits)
    ]
