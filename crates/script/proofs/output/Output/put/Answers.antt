-- `Output::put` meets its contract: of a full buffer all that waited is written.
-- Assumes nothing.
use Rattle.std.proofs.Common.{◌≡◌, [], ◌∷◌, ◌++◌, refl, sym, ap, ◌∙◌, arith}
use Rattle.std.proofs.lemmas.Bool.{eqb-true}
use Rattle.script.proofs.output.Output.put.Goals.{then-is_full+in_ok-flush, else-is_full}
use Rattle.script.proofs.output.Output.put.Goals as goal

pub returns-clause-waits : goal.returns-clause-waits
returns-clause-waits g c = elim c.if-is_full.branch [
  | then-is_full+in_ok-flush w ↦
      let alone : c.push.new.self.items ≡ c.args.c ∷ [] =
      c.push.ensures.items ∙ ap (λ o. o.waiting.items ++ c.args.c ∷ []) w.self-is ∙ ap (λ l. l ++ c.args.c ∷ []) w.flush.ensures in
      let full = eqb-true _ _ (sym w.if-is_full.ensures.value) in
      ((c.args.self.now.waiting.items, ap (λ l. c.args.self.now.waiting.items ++ l) alone), λ room. absurd (omega (arith, full, room)))
  | else-is_full w ↦
      let behind = c.push.ensures.items ∙ ap (λ o. o.waiting.items ++ c.args.c ∷ []) w.self-is in
      (([], behind), λ room. (refl, behind))
]
