-- Laws of masks: what one more number adds to those marked, and the number of one bits.
-- Assumes nothing.
use mathlib.Core.Path.{◌≡◌, refl, sym, ap, ◌∙◌}
use mathlib.Core.Bool.{Bool, true, false}
use mathlib.Core.List.{List, [], ◌∷◌, ◌++◌, append-nil}
use Prim.Native.Nat.{ℕ, zero, suc, ◌+◌, ◌-◌, ◌*◌, ◌/◌, ◌%◌, ◌^◌, ◌≤◌, ◌<◌}
use native.Mathlib.Nat.{add_assoc, add-zero, zero-div, mod-lt, mod-eq_of_lt, mod-one, div-eq_of_lt, add-div_left, add-mod_left, le-div_iff_mul-le, pow-succ', one-le-pow, le_refl, add-suc, add_comm}
use native.Mathlib.Numerals.{add-one, sub-one}
use native.Mathlib.Omega.{arith}
use lib.Arith.{mod-mul}
use lib.Count.{ones, ones_cat}
use lib.Dec.{eqb, lit<, eqb-suc-zero}
use lib.ListN.{length, get_or, length-append, get_or-eq_default}
use Rattle.std.proofs.lemmas.List.Sums.{sum_by-cons}
use Rattle.refusals.specs.Pick.{pick}
use Rattle.masks.specs.Mask.{bit, bit_of, is_marked, marked, ones_in}

-- the bit of n + 1, counted from 0
abbrev pub nth : List ℕ → ℕ → ℕ
nth mask n = bit (get_or mask (n / 8) 0) (n % 8)

pub marks_suc : (mask : List ℕ) (n : ℕ) → is_marked mask (suc n) ≡ eqb (nth mask n) 1
marks_suc mask n = simp (eqb-suc-zero, sub-one)

-- a byte that the mask lacks marks nothing
pub marks_past : (mask : List ℕ) (f : ℕ) → length mask ≤ (f - 1) / 8 → is_marked mask f ≡ false
marks_past mask f h = past f (eqb f 0) (simp (get_or-eq_default mask 0 h, zero-div))
  where
    past : (f : ℕ) (t : Bool) → eqb (bit_of mask f) 1 ≡ false → pick t false (eqb (bit_of mask f) 1) ≡ false
    past f true e = refl
    past f false e = e

pub nth_lt : (mask : List ℕ) (n : ℕ) → nth mask n < 2
nth_lt mask n = mod-lt (get_or mask (n / 8) 0 / 2 ^ (n % 8)) (lit< tt)

-- ---- those marked, one number further

pub marked_yes : (mask : List ℕ) (n : ℕ) → is_marked mask (suc n) ≡ true → marked mask (suc n) ≡ marked mask n ++ (suc n ∷ [])
unfolding marked
marked_yes mask n e = ap (λ (t : Bool). marked mask n ++ pick t (suc n ∷ []) []) e

pub marked_no : (mask : List ℕ) (n : ℕ) → is_marked mask (suc n) ≡ false → marked mask (suc n) ≡ marked mask n
unfolding marked
marked_no mask n e = ap (λ (t : Bool). marked mask n ++ pick t (suc n ∷ []) []) e ∙ append-nil (marked mask n)

one_or_none : (n d : ℕ) → d < 2 → length (pick (eqb d 1) (n ∷ []) []) ≡ d
one_or_none n zero h = refl
one_or_none n (suc zero) h = refl
one_or_none n (suc (suc d)) h = absurd (omega arith)

pub marked_length : (mask : List ℕ) (n : ℕ) → length (marked mask (suc n)) ≡ length (marked mask n) + nth mask n
unfolding marked
marked_length mask n =
    length-append (marked mask n) (pick (is_marked mask (suc n)) (suc n ∷ []) [])
    ∙ ap (λ (t : Bool). length (marked mask n) + length (pick t (suc n ∷ []) [])) (marks_suc mask n)
    ∙ ap (λ (k : ℕ). length (marked mask n) + k) (one_or_none (suc n) (nth mask n) (nth_lt mask n))

pub marked_le : (mask : List ℕ) (n : ℕ) → length (marked mask n) ≤ n
unfolding marked
marked_le mask zero = le_refl 0
marked_le mask (suc n) = omega (arith, marked_le mask n, marked_length mask n, nth_lt mask n)

-- ---- numbers that the mask does not cover add nothing

pub marked_past : (mask : List ℕ) (m d : ℕ) → length mask * 8 ≤ m → marked mask (m + d) ≡ marked mask m
marked_past mask m zero h = ap (marked mask) (add-zero m)
marked_past mask m (suc d) h =
    let far : length mask * 8 ≤ suc (m + d) - 1 = omega arith in
    ap (marked mask) (add-suc m d)
    ∙ marked_no mask (m + d) (marks_past mask (suc (m + d)) ((le-div_iff_mul-le (lit< tt)).1 far))
    ∙ marked_past mask m d h

-- ---- the ones of a byte are its bits, lowest first

ones_digit : (d : ℕ) → d < 2 → ones d ≡ d
unfolding ones
ones_digit zero h = refl
ones_digit (suc zero) h = refl
ones_digit (suc (suc d)) h = absurd (omega arith)

ones_low : (byte k : ℕ) → ones (byte % 2 ^ suc k) ≡ ones (byte % 2 ^ k) + bit byte k
ones_low byte k =
    let digit : bit byte k < 2 = mod-lt (byte / 2 ^ k) (lit< tt) in
    ap (λ (x : ℕ). ones (byte % x)) (pow-succ' 2 k)
    ∙ ap ones (mod-mul byte (lit< tt) (one-le-pow k 2 (lit< tt)))
    ∙ ones_cat k (bit byte k) (byte % 2 ^ k) (mod-lt byte (one-le-pow k 2 (lit< tt)))
    ∙ ap (λ (x : ℕ). x + ones (byte % 2 ^ k)) (ones_digit (bit byte k) digit)
    ∙ add_comm (bit byte k) (ones (byte % 2 ^ k))

first_byte : (byte : ℕ) (mask : List ℕ) (k : ℕ) → k ≤ 8 → length (marked (byte ∷ mask) k) ≡ ones (byte % 2 ^ k)
unfolding marked
first_byte byte mask zero h = sym (ap ones (mod-one byte) ∙ ones_digit 0 (lit< tt))
first_byte byte mask (suc k) h =
    let in-first : nth (byte ∷ mask) k ≡ bit byte k = simp (div-eq_of_lt h, mod-eq_of_lt h) in
    marked_length (byte ∷ mask) k
    ∙ ap (λ (x : ℕ). length (marked (byte ∷ mask) k) + x) in-first
    ∙ ap (λ (x : ℕ). x + bit byte k) (first_byte byte mask k (omega arith))
    ∙ sym (ones_low byte k)

-- a byte in front moves every number by 8
in_front : (byte : ℕ) (mask : List ℕ) (n : ℕ) → byte < 256 → length (marked (byte ∷ mask) (8 + n)) ≡ ones byte + length (marked mask n)
unfolding marked
in_front byte mask zero h = first_byte byte mask 8 (le_refl 8) ∙ ap ones (mod-eq_of_lt h) ∙ sym (add-zero (ones byte))
in_front byte mask (suc n) h =
    let moved : nth (byte ∷ mask) (8 + n) ≡ nth mask n = simp (add-div_left n {k = 8} (lit< tt), add-mod_left, add-one) in
    ap (λ (x : ℕ). length (marked (byte ∷ mask) x)) (add-suc 8 n)
    ∙ marked_length (byte ∷ mask) (8 + n)
    ∙ ap (λ (x : ℕ). length (marked (byte ∷ mask) (8 + n)) + x) moved
    ∙ ap (λ (x : ℕ). x + nth mask n) (in_front byte mask n h)
    ∙ add_assoc (ones byte) (length (marked mask n)) (nth mask n)
    ∙ ap (λ (x : ℕ). ones byte + x) (sym (marked_length mask n))

pub ones_marked : (mask : List ℕ) → ((i : ℕ) → get_or mask i 0 < 256) → ones_in mask ≡ length (marked mask (length mask * 8))
unfolding ones_in marked
ones_marked [] bytes = refl
ones_marked (byte ∷ mask) bytes =
    let size : 8 + length mask * 8 ≡ suc (length mask) * 8 = omega arith in
    sum_by-cons ones byte mask
    ∙ ap (λ (x : ℕ). ones byte + x) (ones_marked mask (λ i. bytes (suc i)))
    ∙ sym (in_front byte mask (length mask * 8) (bytes 0))
    ∙ ap (λ (x : ℕ). length (marked (byte ∷ mask) x)) size

-- with the bit for 256 zero, the number of one bits is the number of those marked from 1 to 255
pub ones_supported : (mask : List ℕ) → ((i : ℕ) → get_or mask i 0 < 256) → length mask ≤ 32 → is_marked mask 256 ≡ false
    → ones_in mask ≡ length (marked mask 255)
ones_supported mask bytes few clear =
    let size : length mask * 8 + (256 - length mask * 8) ≡ 256 = omega arith in
    ones_marked mask bytes
    ∙ ap length (sym (marked_past mask (length mask * 8) (256 - length mask * 8) (le_refl (length mask * 8))))
    ∙ ap (λ (x : ℕ). length (marked mask x)) size
    ∙ ap length (marked_no mask 255 clear)
