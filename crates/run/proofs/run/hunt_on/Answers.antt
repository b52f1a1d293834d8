-- `run::run::hunt_on` meets its contract: an 01 and its Length, or the byte that ends the noise, or noise alone.
-- Assumes nothing.
use Rattle.std.proofs.Common.{◌+◌, ◌<◌, length, ap, ◌∙◌, arith}
use Rattle.hearing.specs.declared.hearing.Heard.{Heard}
use Rattle.run.specs.declared.run.Reach.{Reach}
use Rattle.run.specs.Promises.{gone}
use Rattle.run.proofs.Turns.{hunts_one, hunts_all, hunts_head}
use Rattle.run.proofs.run.hunt_on.Goals as goal

-- an 01 and its Length
pub returns-then-i-bytes-2 : goal.returns-then-i-bytes-2
returns-then-i-bytes-2 c =
    let a = c.args in
    let n = c.noise-i in
    let there : n.result + 1 < length a.bytes.now = c.if-i-bytes-2.true in
    let x = c.gone.ensures ∙ ap (λ (h : Heard). gone h (n.result + 2)) c.measured.ensures in
    let t = ap (λ (q : Reach). q.taken) x in
    (omega (arith, t, n.ensures.from), omega (arith, t, there), λ body. hunts_head a.bytes.now a.r c.requires.0 c.requires.1 n.result n.ensures body there c.if-b-eq-START.true x)

-- the byte that ends the noise, alone
pub returns-then-i-bytes : goal.returns-then-i-bytes
returns-then-i-bytes c =
    let a = c.args in
    let n = c.noise-i in
    let there : n.result < length a.bytes.now = c.if-i-bytes.true in
    let x = c.gone-then-i-bytes.ensures ∙ ap (λ (h : Heard). gone h (n.result + 1)) c.hunted.ensures in
    let t = ap (λ (q : Reach). q.taken) x in
    (omega (arith, t, n.ensures.from), omega (arith, t, there), λ body. hunts_one a.bytes.now a.r c.requires.0 c.requires.1 n.result n.ensures body there x)

-- noise alone
pub returns : goal.returns
returns c =
    let a = c.args in
    let n = c.noise-i in
    (omega (arith, c.requires.0.there, c.if-i-bytes.false), n.ensures.within, λ body. hunts_all a.bytes.now a.r c.requires.0 c.requires.1 n.result n.ensures body c.if-i-bytes.false)
