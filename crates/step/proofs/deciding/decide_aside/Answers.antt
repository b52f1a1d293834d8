-- `step::deciding::decide_aside` meets its contract: the job goes on as it is, and reception need not ask what it awaits, nor who hears.
-- Assumes nothing.
use Rattle.std.proofs.Common.{sym, ap, ◌∙◌}
use Rattle.rules.specs.Rules.{rules_of}
use Rattle.report.specs.declared.Sending.{Sending}
use Rattle.job.specs.Job.{goes_on}
use Rattle.step.proofs.Aside.{said_aside, act_aside}
use Rattle.step.proofs.deciding.decide_aside.Goals as goal

pub returns : goal.returns
returns c = λ aside choice size.
    let e = c.args.event in
    let j = c.args.job in
    let said = c.said_as_host-said.ensures ∙ sym (said_aside choice.role e j aside) in
    let sums = c.sums_on-sums.ensures in
    let act = c.goes_on.ensures ∙ ap (λ (s : Sending). goes_on j s) c.stray_on.ensures ∙ sym (act_aside (rules_of choice) size e j aside) in
    simp (said, sums, act) at c.decided.ensures
