-- `Output::put_refused` meets its contract: the number is put behind its word.
-- Assumes nothing.
use Rattle.std.proofs.Common.{codes, decimal, ◌++◌, ap, subst, ◌∙◌}
use Rattle.script.specs.Output.{Puts}
use Rattle.script.proofs.Texts.{puts_on}
use Rattle.script.proofs.output.Output.put_refused.Goals as goal

pub returns : goal.returns
returns g c =
    let begun = c.args.self.now.waiting in
    let after = c.put_all-2.new.self.waiting in
    subst (λ t. Puts begun (codes " refused=" ++ t) c.put_all-2.result after) (c.as_bytes.ensures.value ∙ c.format.ensures.text ∙ ap decimal c.from.ensures)
    (puts_on begun c.put_all.new.self.waiting after (codes " refused=") c.as_bytes.result.now c.put_all-2.result c.in_ok-put_all.ensures c.put_all-2.ensures)
