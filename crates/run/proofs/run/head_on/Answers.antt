-- `run::run::head_on` meets its contract: behind an 01 comes one byte, Length.
-- Assumes nothing.
use Rattle.std.proofs.Common.{◌+◌, ap, ◌∙◌}
use Rattle.hearing.specs.declared.hearing.Heard.{Heard}
use Rattle.run.specs.declared.run.Reach.{Reach}
use Rattle.run.specs.Promises.{gone}
use Rattle.run.proofs.Turns.{headed_one}
use Rattle.run.proofs.run.head_on.Goals as goal

pub returns : goal.returns
returns c =
    let a = c.args in
    let x = c.gone.ensures ∙ ap (λ (h : Heard). gone h (a.r.taken + 1)) c.measured.ensures in
    (ap (λ (q : Reach). q.taken) x, headed_one a.bytes.now a.r a.clock c.requires.0 c.requires.1 x)
