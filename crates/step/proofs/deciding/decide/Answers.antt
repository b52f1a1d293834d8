-- `step::deciding::decide` meets its contract: an event that does not concern the job is decided aside, whatever the rules.
-- Assumes nothing.
use Rattle.std.proofs.Common.{sym, ◌∙◌}
use Rattle.step.proofs.deciding.decide.Goals as goal

pub returns : goal.returns
returns c = c.decide_aside.ensures (sym c.concerns.ensures ∙ c.if-concerns.false) c.args.choice c.args.size
