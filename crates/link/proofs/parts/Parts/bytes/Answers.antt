-- `link::parts::Parts::bytes` meets its contract.
-- Assumes nothing.
use Rattle.std.proofs.Common.{sym, ap, ◌∙◌}
use Rattle.link.specs.declared.link.Link.{Link}
use Rattle.link.specs.Out.{Taken}
use Rattle.rules.specs.Rules.{rules_of}
use Rattle.link.proofs.Hears.{runs}
use Rattle.link.proofs.Ways.{run_keeps}
use Rattle.link.proofs.parts.Parts.bytes.Goals as goal

pub returns-clause-stays : goal.returns-clause-stays
returns-clause-stays c =
    let l = c.link-link.result in
    let e = ap (λ (t : Taken). t.out.link.frame) (runs (rules_of l.core.choice) l c.args.bytes.now) in
    ap (λ (z : Link). z.frame) (sym c.from.ensures) ∙ run_keeps (λ (z : Link). z.frame) c.bytes-answer.ensures e ∙ ap (λ (z : Link). z.frame) c.link-link.ensures
