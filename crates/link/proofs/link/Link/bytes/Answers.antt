-- `link::link::Link::bytes` meets its contract.
-- Assumes nothing.
use Rattle.std.proofs.Common.{refl, sym, ap, ◌∙◌}
use Rattle.rules.specs.Rules.{rules_of}
use Rattle.run.specs.Promises.{Far}
use Rattle.link.proofs.Hears.{reached, runs}
use Rattle.link.proofs.Ways.{give_run}
use Rattle.link.proofs.link.Link.bytes.Goals as goal

pub returns : goal.returns
returns c =
    let l = c.args.self.now in
    let R = rules_of l.core.choice in
    let e = ap (λ (f : Far). reached R l f) c.hear_run-reach.ensures.all ∙ sym (runs R l c.args.bytes.now) in
    give_run _ l _ _ c.room.ensures c.in_ok-room.was (simp c.decide-last.ensures e) (search) (search) refl refl c.conclude-report.ensures
