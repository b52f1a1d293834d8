-- What `write_nodes` makes, and what its reader says of it.
--     body_length     7 bytes more than the mask has
--     odd_refused     a body of neither 36 nor 7 bytes is of no layout
--     made            the parts laid behind each other are the body, with the mask cut to what there is room for
--     parts_written   what is written of the parts, the mask cut to what a frame has room for, is what is written of the body
-- Assumes nothing.
use mathlib.Core.Path.{◌≡◌, refl, sym, ap, ap₂, ◌∙◌}
use mathlib.Core.Bool.{Bool, true, false}
use mathlib.Core.List.{List, [], ◌∷◌, ◌++◌}
use Prim.Native.Nat.{ℕ, ◌+◌, ◌≤◌, min}
use native.Mathlib.Nat.{min-le_left, min-le_right, min-eq_right, le_of_lt}
use native.Mathlib.Omega.{arith}
use lib.Dec.{eqb}
use lib.ListN.{length, get_or, take, length-append}
use lib.Seq.{length-take-le}
use borrow.Author.Tests.{ne_eqb}
use Rattle.refusals.specs.Pick.{pick}
use Rattle.frame.specs.Bytes.{over}
use Rattle.frame.specs.Promises.{Lay}
use Rattle.std.specs.Prelude.{Result}
use Rattle.refusals.specs.declared.Refusal.{Refusal}
use Rattle.masks.specs.Response.{is_response}
use Rattle.masks.specs.Written.{Write}
use Rattle.masks.specs.Promises.{carried}
use Rattle.masks.proofs.Writing.{asked, cut_alike, laid_front, laid_behind, front_part}
use Rattle.nodes.specs.Nodes.{is_node_list}
use Rattle.nodes.specs.Writer.{node_body}
use Rattle.nodes.specs.declared.Controller.{Controller}

pub body_length : (controller : Controller) (mask : List ℕ)
    → length (node_body controller mask) ≡ 7 + length mask
unfolding node_body
body_length controller mask = omega (arith, length-append mask (controller.chip_type ∷ controller.chip_version ∷ []))

odd_by : (a : Bool) → pick a false false ≡ false
odd_by true = refl
odd_by false = refl

pub odd_refused : (body : List ℕ) → (length body ≡ 36 → ⊥) → (length body ≡ 7 → ⊥) → is_node_list body ≡ false
odd_refused body full empty =
    ap₂
    (λ (t u : Bool). pick (is_response body 2) (pick t (eqb (get_or body 4 0) 29) (pick u (eqb (get_or body 4 0) 0) false)) false)
    (ne_eqb (length body) 36 full)
    (ne_eqb (length body) 7 empty)
    ∙ odd_by (is_response body 2)

module _ (controller : Controller) (mask : List ℕ) (n : ℕ) (cut : n ≡ min (length mask) 247) where
  few : (n ≤ length mask) × (n ≤ 247)
  few = (omega (arith, cut, min-le_left (length mask) 247), omega (arith, cut, min-le_right (length mask) 247))

  pub made : (zeros : List ℕ) {d₁ d₂ d₃ : List ℕ} {r q s : Bool} → length zeros ≡ 254
      → Lay (1 ∷ 2 ∷ controller.version ∷ controller.capabilities ∷ n ∷ []) 5 zeros 0 r d₁
      → Lay mask n d₁ 5 q d₂
      → Lay (controller.chip_type ∷ controller.chip_version ∷ []) 2 d₂ (5 + n) s d₃
      → take (7 + n) d₃ ≡ node_body controller (take n mask)
  unfolding node_body
  made zeros {d₃ = d₃} room first second third =
      let least : n ≤ length mask = few.0 in
      let most : n ≤ 247 = few.1 in
      let count : length (take n mask) ≡ n = length-take-le n mask least in
      let front : List ℕ = 1 ∷ 2 ∷ controller.version ∷ controller.capabilities ∷ n ∷ [] in
      let end : List ℕ = controller.chip_type ∷ controller.chip_version ∷ [] in
      let two : d₃ ≡ over ((front ++ take n mask) ++ end) zeros =
      laid_behind (front ++ take n mask) end zeros (5 + n) 2 (omega arith) (omega arith) (omega arith)
      (laid_behind front mask zeros 5 n refl least (omega arith) (laid_front front zeros 5 refl (omega arith) first) second) third in
      front_part ((front ++ take n mask) ++ end) zeros (7 + n) (omega (arith, length-append (take n mask) end)) two
      ∙ ap (λ (k : ℕ). 1 ∷ 2 ∷ controller.version ∷ controller.capabilities ∷ k ∷ (take n mask ++ end)) (sym count)

  pub parts_written : (lent : List ℕ) {made : List ℕ} {r : Result ℕ Refusal} {lent' : List ℕ}
      → made ≡ 1 ∷ 2 ∷ controller.version ∷ controller.capabilities ∷ n ∷ (take n mask ++ (controller.chip_type ∷ controller.chip_version ∷ []))
      → Write (carried (is_node_list made) made) made lent r lent'
      → Write (is_node_list (node_body controller mask)) (node_body controller mask) lent r lent'
  unfolding node_body
  parts_written lent {made} e w =
      let body_of : List ℕ → List ℕ = λ (m : List ℕ). node_body controller m in
      let count : length (take n mask) ≡ n = length-take-le n mask few.0 in
      let size : length (body_of (take n mask)) ≡ 7 + n = body_length controller (take n mask) ∙ ap (λ (k : ℕ). 7 + k) count in
      cut_alike is_node_list body_of mask n 247 lent cut
      (λ h.
      let top : n ≡ 247 = cut ∙ min-eq_right (le_of_lt h) in
      let whole = body_length controller mask in (
        odd_refused (body_of (take n mask)) (λ e. omega (arith, size, top)) (λ e. omega (arith, size, top)),
        odd_refused (body_of mask) (λ e. omega (arith, whole)) (λ e. omega (arith, whole)),
      ))
      (asked is_node_list made (body_of (take n mask)) lent refl
      (e ∙ ap (λ (k : ℕ). 1 ∷ 2 ∷ controller.version ∷ controller.capabilities ∷ k ∷ (take n mask ++ (controller.chip_type ∷ controller.chip_version ∷ []))) (sym count))
      (omega (arith, size, few.1)) w)
