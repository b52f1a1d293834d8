-- `run::run::body_on` meets its contract: what there is of the body in one walk, and the checksum where it is there too.
-- Assumes nothing.
use Rattle.std.proofs.Common.{◌+◌, ◌-◌, ◌≤◌, ◌<◌, length, take, drop, ap, ◌∙◌, arith}
use Rattle.hearing.specs.declared.hearing.Heard.{Heard}
use Rattle.run.specs.declared.run.Reach.{Reach}
use Rattle.run.specs.Promises.{gone}
use Rattle.run.proofs.Turns.{part_length, walked_at, walked_here, bodied_whole, bodied_part}
use Rattle.run.proofs.run.body_on.Goals as goal

pub returns-then-end-bytes : goal.returns-then-end-bytes
returns-then-end-bytes c =
    let a = c.args in
    let bs = a.bytes.now in
    let i = a.r.taken in
    let l = c.body_left-n in
    let n = l.result in
    let w = walked_here bs a.body.now a.p i n c.walked-next.ensures in
    let there : i + n < length bs = c.if-end-bytes.true in
    let small : n ≤ a.p.size - a.p.at = omega (arith, l.ensures) in
    let fits : i + n ≤ length bs = omega (arith, l.ensures, c.requires.0.there) in
    let g = c.gone.ensures ∙ ap (λ (h : Heard). gone h (i + n + 1)) c.followed.ensures in
    let t = ap (λ (q : Reach). q.taken) g in (
      bodied_whole bs a.r a.p c.requires.0 c.requires.1 n small fits a.body.now w.0 w.1
          (omega (arith, l.ensures, there)) there g,
      omega (arith, t),
      omega (arith, t, there),
    )

pub overflow_sub-result : goal.overflow_sub-result
overflow_sub-result c =
    let a = c.args in
    let bs = a.bytes.now in
    let i = a.r.taken in
    let l = c.body_left-n in
    let n = l.result in
    let w = walked_here bs a.body.now a.p i n c.walked-next.ensures in
    let small : n ≤ a.p.size - a.p.at = omega (arith, l.ensures) in
    let fits : i + n ≤ length bs = omega (arith, l.ensures, c.requires.0.there) in
    omega (arith, l.ensures, walked_at a.p (take n (drop i bs)) w.0, c.requires.0.there, c.if-end-bytes.false, part_length bs a.r a.p c.requires.0 c.requires.1 n small fits)

pub returns : goal.returns
returns c =
    let a = c.args in
    let bs = a.bytes.now in
    let i = a.r.taken in
    let l = c.body_left-n in
    let n = l.result in
    let w = walked_here bs a.body.now a.p i n c.walked-next.ensures in
    let small : n ≤ a.p.size - a.p.at = omega (arith, l.ensures) in
    let fits : i + n ≤ length bs = omega (arith, l.ensures, c.requires.0.there) in
    let some : 0 < n = omega (arith, c.requires.0.there, c.if-end-bytes.false) in
    (bodied_part bs a.r a.p c.requires.0 c.requires.1 n small fits a.body.now w.0 w.1 some, omega arith, fits)
