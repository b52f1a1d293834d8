-- `link::parts::Parts::send` meets its contract.
-- Assumes nothing.
use Rattle.std.proofs.Common.{refl, sym, ap, ◌∙◌}
use Rattle.link.specs.declared.link.Link.{Link}
use Rattle.link.specs.Out.{open_out}
use Rattle.link.proofs.Ways.{call_keeps}
use Rattle.link.proofs.parts.Parts.send.Goals as goal

pub returns-clause-stays : goal.returns-clause-stays
unfolding open_out
returns-clause-stays c =
    ap (λ (z : Link). z.body) (sym c.from.ensures) ∙ call_keeps (λ (z : Link). z.body) c.send-answer.ensures refl ∙ ap (λ (z : Link). z.body) c.link-link.ensures
