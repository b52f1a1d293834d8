-- `run::run::hear_run` meets its contract: nothing is left to be heard, or there is news.
-- Assumes nothing.
use Rattle.std.proofs.Common.{sym, ◌∙◌}
use native.Mathlib.Nat.{le_antisymm}
use Rattle.run.specs.Promises.{far}
use Rattle.run.proofs.Turns.{on_over}
use Rattle.run.proofs.run.hear_run.Goals as goal

pub returns-after-loop-reach : goal.returns-after-loop-reach
returns-after-loop-reach c =
    let l = c.loop-reach in
    let bs = c.args.bytes.now in
    record { all = sym (l.invariant.2 ∙ on_over (far l.reach l.body) bs (λ q. le_antisymm l.invariant.0 c.loop-reach-test.false)) }
