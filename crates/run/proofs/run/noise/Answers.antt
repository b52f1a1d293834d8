-- `run::run::noise` meets its contract: a byte that is no sign is skipped.
-- Assumes nothing.
use Rattle.std.proofs.Common.{sym, ◌∙◌, arith}
use Rattle.run.proofs.Turns.{noise_more}
use Rattle.run.proofs.run.noise.Goals as goal

pub loop-i-preserved : goal.loop-i-preserved
loop-i-preserved c =
    let l = c.loop-i in
    let a = c.args in
    λ e body. l.invariant e body ∙ noise_more a.bytes.now e a.from l.i body (omega arith) (omega arith) (sym c.is_sign.ensures ∙ c.if-is_sign.false)
