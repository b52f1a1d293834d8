-- `link::parts::Parts::tick` meets its contract.
-- Assumes nothing.
use Rattle.std.proofs.Common.{refl, sym, ap, ◌∙◌}
use Rattle.link.specs.declared.link.Link.{Link}
use Rattle.link.specs.Out.{tick_out}
use Rattle.link.proofs.Ways.{call_keeps}
use Rattle.link.proofs.parts.Parts.tick.Goals as goal

pub returns-clause-stays : goal.returns-clause-stays
unfolding tick_out
returns-clause-stays c = (
  ap (λ (z : Link). z.body) (sym c.from.ensures) ∙ call_keeps (λ (z : Link). z.body) c.tick-answer.ensures refl ∙ ap (λ (z : Link). z.body) c.link-link.ensures,
  ap (λ (z : Link). z.frame) (sym c.from.ensures) ∙ call_keeps (λ (z : Link). z.frame) c.tick-answer.ensures refl ∙ ap (λ (z : Link). z.frame) c.link-link.ensures,
)
