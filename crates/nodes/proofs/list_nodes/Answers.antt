-- `list_nodes` meets its contract: a number that the mask marks comes behind those before it, and there are never more than 232.
-- Assumes nothing.
use Rattle.std.proofs.Common.{List, ℕ, ◌≡◌, ◌+◌, ◌-◌, ◌<◌, length, set, refl, sym, ap, ◌∙◌, arith}
use Rattle.frame.specs.Bytes.{over}
use Rattle.masks.specs.Mask.{is_marked, marked}
use Rattle.masks.proofs.Masks.{marked_le}
use Rattle.nodes.proofs.Lists.{listed_count, listed_left, passed}
use Rattle.nodes.proofs.list_nodes.Goals as goal
use Rattle.nodes.proofs.list_nodes.Goals.{then-is_marked, else-is_marked}

pub loop-k-init : goal.loop-k-init
unfolding marked
loop-k-init c = (refl, refl)

pub bounds-list-n : goal.bounds-list-n
bounds-list-n c = omega (arith, marked_le c.args.mask.now (c.loop-k.k - 1))

pub overflow_add-n : goal.overflow_add-n
overflow_add-n c = omega (arith, marked_le c.args.mask.now (c.loop-k.k - 1))

pub loop-k-preserved : goal.loop-k-preserved
loop-k-preserved c =
    let l = c.loop-k in
    let mask = c.args.mask.now in
    let lent = c.args.list.now in
    let j : ℕ = l.k - 1 in
    let same : j + 1 ≡ l.k = omega arith in
    let next : j + 1 ≡ l.k + 1 - 1 = omega arith in
    let asked : is_marked mask (j + 1) ≡ c.is_marked.result = ap (is_marked mask) (same ∙ sym c.from.ensures) ∙ sym c.is_marked.ensures in
    let room : length (marked mask j) < length lent = omega (arith, marked_le mask j) in
    elim c.if-is_marked.branch [
      | then-is_marked w ↦ (
        w.n-is ∙ listed_count mask lent l.list l.n j l.invariant.0 l.invariant.1 (asked ∙ w.if-is_marked.true) ∙ ap (λ (i : ℕ). length (marked mask i)) next,
        w.list-is ∙ ap (λ (i : ℕ). set l.list l.n i) (sym same)
            ∙ listed_left mask lent l.list l.n j l.invariant.0 l.invariant.1 room (asked ∙ w.if-is_marked.true)
            ∙ ap (λ (i : ℕ). over (marked mask i) lent) next,
      )
      | else-is_marked w ↦
          let e = passed mask j (asked ∙ w.if-is_marked.false) ∙ ap (marked mask) next in
          (w.n-is ∙ l.invariant.0 ∙ ap length e, w.list-is ∙ l.invariant.1 ∙ ap (λ (nodes : List ℕ). over nodes lent) e)
    ]
