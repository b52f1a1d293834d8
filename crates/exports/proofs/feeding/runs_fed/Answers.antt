-- `exports::feeding::runs_fed` meets its contract: each turn is one run more, and it ends where no byte is left or a run takes none.
-- Assumes nothing.
use Rattle.std.proofs.Common.{◌-◌, length, take, drop, ◌∙◌, ap, sym, arith, ℕ, List, length-drop}
use Rattle.std.proofs.lemmas.List.{take_all}
use Rattle.step.specs.Checks.{checks, passes}
use Rattle.exports.specs.Feeding.{runs_fed}
use Rattle.exports.proofs.Feeds.{ended}
use Rattle.exports.proofs.Takes.{fed, some_left, none_left, taken_left, runs_stop, runs_on, runs_end}
use Rattle.exports.proofs.feeding.runs_fed.Goals as goal

pub returns-then-taken-eq0 : goal.returns-then-taken-eq0
returns-then-taken-eq0 g c =
    let l = c.loop-rest in
    let a = c.args in
    let some = some_left _ l.rest.now c.is_empty.ensures c.loop-rest-test.true in
    ended _ _ _ _ _
    (l.invariant.2
    ∙ runs_stop a.line.now a.up.now a.most l.link l.line l.up l.sum l.rest.now _ _ _ _ _ _ _ _ (ap (λ (n : ℕ). take n l.rest.now) c.min.ensures)
    l.auto.line l.auto.up c.bytes-run.ensures
    c.tale_of-number.ensures.0 c.tale_of-number.ensures.1 c.mix.ensures c.mix-sum.ensures l.invariant.0 some (omega (arith, some)) c.if-taken-eq0.true)

pub slice_bounds-rest-count : goal.slice_bounds-rest-count
slice_bounds-rest-count g c =
    let l = c.loop-rest in
    let a = c.args in
    taken_left a.line.now a.up.now a.most l.link l.line l.up l.sum l.rest.now _ _ _ _ _ _ _ _ (ap (λ (n : ℕ). take n l.rest.now) c.min.ensures)
    l.auto.line l.auto.up c.bytes-run.ensures
    c.tale_of-number.ensures.0 c.tale_of-number.ensures.1 c.mix.ensures c.mix-sum.ensures

pub slice_bounds-rest-start : goal.slice_bounds-rest-start
slice_bounds-rest-start g c =
    let l = c.loop-rest in
    let a = c.args in
    taken_left a.line.now a.up.now a.most l.link l.line l.up l.sum l.rest.now _ _ _ _ _ _ _ _ (ap (λ (n : ℕ). take n l.rest.now) c.min.ensures)
    l.auto.line l.auto.up c.bytes-run.ensures
    c.tale_of-number.ensures.0 c.tale_of-number.ensures.1 c.mix.ensures c.mix-sum.ensures

pub loop-rest-preserved : goal.loop-rest-preserved
loop-rest-preserved g c =
    let l = c.loop-rest in
    let a = c.args in
    let taken = c.tale_of-number.result.taken in
    let some = some_left _ l.rest.now c.is_empty.ensures c.loop-rest-test.true in
    let same = take_all (length l.rest.now - taken) (drop taken l.rest.now) (omega (arith, length-drop taken l.rest.now)) in (
      l.invariant.0 - 1,
      omega (arith, ap length same, length-drop taken l.rest.now, c.if-taken-eq0.false),
      l.invariant.2
          ∙ runs_on a.line.now a.up.now a.most l.link l.line l.up l.sum l.rest.now _ _ _ _ _ _ _ _ (ap (λ (n : ℕ). take n l.rest.now) c.min.ensures)
          l.auto.line l.auto.up c.bytes-run.ensures
          c.tale_of-number.ensures.0 c.tale_of-number.ensures.1 c.mix.ensures c.mix-sum.ensures l.invariant.0 some (omega (arith, some)) c.if-taken-eq0.false
          ∙ ap
          (λ (r : List ℕ). runs_fed (l.invariant.0 - 1) (checks a.line.now a.up.now passes) a.most (fed c.bytes-run.new.link c.bytes-run.new.line c.bytes-run.new.up c.mix-sum.result) r)
          (sym same),
    )

pub returns : goal.returns
returns g c =
    let l = c.loop-rest in
    let a = c.args in
    ended _ l.link l.line l.up l.sum
    (l.invariant.2
    ∙ runs_end a.line.now a.up.now a.most l.link l.line l.up l.sum l.rest.now l.invariant.0
    (none_left _ l.rest.now c.is_empty.ensures c.loop-rest-test.false))
