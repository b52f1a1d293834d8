-- Those of 1 to n that a mask marks: rising, and exactly those whose bit is 1.
-- Assumes nothing.
use mathlib.Core.Path.{◌≡◌, refl, sym, ap, ◌∙◌, subst}
use mathlib.Core.Bool.{Bool, true, false}
use mathlib.Core.List.Memᴰ
use mathlib.Core.List.{List, [], ◌∷◌, ◌++◌, Memᴰ}
use mathlib.Core.Logic.{⊎_elim, ◌↔◌}
use Prim.Native.Nat.{ℕ, zero, suc, ◌+◌, ◌-◌, ◌*◌, ◌/◌, ◌≤◌, ◌<◌}
use native.Mathlib.Nat.{le-div_iff_mul-le}
use native.Mathlib.Omega.{arith}
use lib.Dec.{leb, ltb, eqb, lit<}
use lib.ListN.{length, get_or, length-append, get_or-append}
use lib.Seq.{get_or-append_seam}
use borrow.Author.Tests.{leb-true, leb-false, ltb-true, ltb-false, eqb-true, eqb-false, eq-eqb, ne_eqb}
use Rattle.masks.specs.Mask.{bit_of, is_marked, marked, Rising}
use Rattle.masks.proofs.Layouts.{unmet}
use Rattle.masks.proofs.Masks.{marked_yes, marked_no, marks_past}

-- marked is: not 0, and the bit is 1
pub marks_one : (mask : List ℕ) (f : ℕ) → (is_marked mask f ≡ true) ↔ ((1 ≤ f) × (bit_of mask f ≡ 1))
marks_one mask f = (to, from)
  where
    to : is_marked mask f ≡ true → (1 ≤ f) × (bit_of mask f ≡ 1)
    to e =
        let parts = unmet (eqb f 0) e in
        let not-zero : f ≡ 0 → ⊥ = eqb-false f 0 parts.0 in
        (omega arith, eqb-true (bit_of mask f) 1 parts.1)

    from : (1 ≤ f) × (bit_of mask f ≡ 1) → is_marked mask f ≡ true
    from (h, e) = rw (ne_eqb f 0 (λ z. omega arith), eq-eqb (bit_of mask f) 1 e)

-- a mask of at most 32 bytes, with the bit for 256 zero, marks none above 255
pub marks_most : (mask : List ℕ) (f : ℕ) → length mask ≤ 32 → is_marked mask 256 ≡ false → is_marked mask f ≡ true → f ≤ 255
marks_most mask f few clear e = by (leb f 255) (eqb f 256) refl refl
  where
    no : is_marked mask f ≡ false → f ≤ 255
    no z = let n : ◌≡◌ {A = ℕ} 0 1 = cc in absurd (omega arith)

    by : (t u : Bool) → leb f 255 ≡ t → eqb f 256 ≡ u → f ≤ 255
    by true u p q = leb-true f 255 p
    by false true p q = no (ap (is_marked mask) (eqb-true f 256 q) ∙ clear)
    by false false p q =
        let above : 255 < f = leb-false f 255 p in
        let other : f ≡ 256 → ⊥ = eqb-false f 256 q in
        let far : 32 * 8 ≤ f - 1 = omega arith in
        let past : 32 ≤ (f - 1) / 8 = (le-div_iff_mul-le (lit< tt)).1 far in
        no (marks_past mask f (omega arith))

-- ---- membership

module _ (mask : List ℕ) (n k : ℕ) where
  abbrev Is : ℕ → Type 0
  Is n = (k ≤ n) × (is_marked mask k ≡ true)

  -- one number further, by whether it is marked
  to_step : (t : Bool) → is_marked mask (suc n) ≡ t → (Memᴰ k (marked mask n) → Is n) → Memᴰ k (marked mask (suc n)) → Is (suc n)
  to_step true e before m =
      ⊎_elim (λ m. let r = before m in (omega arith, r.1)) (λ s. let q = Memᴰ.eq_of_singleton s in (omega arith, ap (is_marked mask) q ∙ e))
      (Memᴰ.append_cases (marked mask n) (subst (λ (l : List ℕ). Memᴰ k l) (marked_yes mask n e) m))
  to_step false e before m = let r = before (subst (λ (l : List ℕ). Memᴰ k l) (marked_no mask n e) m) in (omega arith, r.1)

  from_step : (t u : Bool) → is_marked mask (suc n) ≡ t → eqb k (suc n) ≡ u → (k ≤ n → Memᴰ k (marked mask n)) → k ≤ suc n → is_marked mask k ≡ true
      → Memᴰ k (marked mask (suc n))
  from_step true true e q before l m =
      subst (λ (l : List ℕ). Memᴰ k l) (sym (marked_yes mask n e)) (Memᴰ.append_right (marked mask n) (Memᴰ.head (eqb-true k (suc n) q)))
  from_step true false e q before l m =
      let other = eqb-false k (suc n) q in
      subst (λ (l : List ℕ). Memᴰ k l) (sym (marked_yes mask n e)) (Memᴰ.append_left (suc n ∷ []) (before (omega arith)))
  from_step false true e q before l m =
      let same : is_marked mask k ≡ is_marked mask (suc n) = ap (is_marked mask) (eqb-true k (suc n) q) in
      let z : ◌≡◌ {A = ℕ} 0 1 = cc in
      absurd (omega arith)
  from_step false false e q before l m =
      let other = eqb-false k (suc n) q in
      subst (λ (l : List ℕ). Memᴰ k l) (sym (marked_no mask n e)) (before (omega arith))

pub member_to : (mask : List ℕ) (n k : ℕ) → Memᴰ k (marked mask n) → (k ≤ n) × (is_marked mask k ≡ true)
unfolding marked
member_to mask zero k m = absurd (Memᴰ.not-nil m)
member_to mask (suc n) k m = to_step mask n k (is_marked mask (suc n)) refl (member_to mask n k) m

pub member_from : (mask : List ℕ) (n k : ℕ) → 1 ≤ k → k ≤ n → is_marked mask k ≡ true → Memᴰ k (marked mask n)
unfolding marked
member_from mask zero k h l e = absurd (omega arith)
member_from mask (suc n) k h l e =
    from_step mask n k (is_marked mask (suc n)) (eqb k (suc n)) refl refl (λ l. member_from mask n k h l e) l e

-- ---- rising

snoc_rising : (l : List ℕ) (v : ℕ) → Rising l → ((i : ℕ) → i < length l → get_or l i 0 < v) → Rising (l ++ (v ∷ []))
snoc_rising l v up below i j h r = by (ltb j (length l)) refl
  where
    size : length (l ++ (v ∷ [])) ≡ length l + 1
    size = length-append l (v ∷ [])

    by : (t : Bool) → ltb j (length l) ≡ t → get_or (l ++ (v ∷ [])) i 0 < get_or (l ++ (v ∷ [])) j 0
    by true e =
        let k : j < length l = ltb-true j (length l) e in
        let m : i < length l = omega arith in
        rw (get_or-append l (v ∷ []) 0 i m, get_or-append l (v ∷ []) 0 j k) (up i j h k)
    by false e =
        let k : length l ≤ j = ltb-false j (length l) e in
        let last : j ≡ length l = omega (arith, size) in
        let m : i < length l = omega arith in
        let at : get_or (l ++ (v ∷ [])) j 0 ≡ v = ap (λ (x : ℕ). get_or (l ++ (v ∷ [])) x 0) last ∙ get_or-append_seam l v [] 0 in
        rw (get_or-append l (v ∷ []) 0 i m, at) (below i m)

-- each is at most n
marked_top : (mask : List ℕ) (n i : ℕ) → i < length (marked mask n) → get_or (marked mask n) i 0 ≤ n
marked_top mask n i h = (member_to mask n (get_or (marked mask n) i 0) (at-member (marked mask n) i h)).0
  where
    at-member : (l : List ℕ) (i : ℕ) → i < length l → Memᴰ (get_or l i 0) l
    at-member [] i h = absurd (omega arith)
    at-member (x ∷ l) zero h = Memᴰ.head refl
    at-member (x ∷ l) (suc i) h = Memᴰ.tail (at-member l i (omega arith))

rising_step : (mask : List ℕ) (n : ℕ) (t : Bool) → is_marked mask (suc n) ≡ t → Rising (marked mask n) → Rising (marked mask (suc n))
rising_step mask n true e up =
    subst Rising (sym (marked_yes mask n e)) (snoc_rising (marked mask n) (suc n) up (λ i h. let top = marked_top mask n i h in omega arith))
rising_step mask n false e up = subst Rising (sym (marked_no mask n e)) up

pub marked_rising : (mask : List ℕ) (n : ℕ) → Rising (marked mask n)
unfolding marked
marked_rising mask zero = λ i j h r. absurd (omega arith)
marked_rising mask (suc n) = rising_step mask n (is_marked mask (suc n)) refl (marked_rising mask n)

-- an empty mask marks none
pub marked_none : (n : ℕ) → marked [] n ≡ []
unfolding marked
marked_none zero = refl
marked_none (suc n) = marked_no [] n (marks_past [] (suc n) (omega arith)) ∙ marked_none n
