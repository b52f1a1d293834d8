-- The list of those marked, written over a lent one, one number further.
-- Assumes nothing.
use mathlib.Core.Path.{◌≡◌, sym, ap, ◌∙◌}
use mathlib.Core.Bool.{true, false}
use mathlib.Core.List.{List, [], ◌∷◌, ◌++◌}
use Prim.Native.Nat.{ℕ, suc, ◌+◌, ◌<◌}
use native.Mathlib.Numerals.{add-one}
use lib.ListN.{length, set, length-append}
use Rattle.frame.specs.Bytes.{over}
use Rattle.frame.proofs.Over.{put_byte}
use Rattle.masks.specs.Mask.{is_marked, marked}
use Rattle.masks.proofs.Masks.{marked_yes, marked_no}

module _ (mask lent list : List ℕ) (n k : ℕ) (count : n ≡ length (marked mask k)) (left : list ≡ over (marked mask k) lent) where
  pub listed_count : is_marked mask (k + 1) ≡ true → n + 1 ≡ length (marked mask (k + 1))
  listed_count e =
      let more : marked mask (k + 1) ≡ marked mask k ++ (suc k ∷ []) = ap (marked mask) (add-one k) ∙ marked_yes mask k (rw add-one at e) in
      ap (λ (x : ℕ). x + 1) count ∙ sym (ap length more ∙ length-append (marked mask k) (suc k ∷ []))

  pub listed_left : length (marked mask k) < length lent → is_marked mask (k + 1) ≡ true → set list n (k + 1) ≡ over (marked mask (k + 1)) lent
  listed_left h e =
      let more : marked mask (k + 1) ≡ marked mask k ++ ((k + 1) ∷ []) = rw add-one (marked_yes mask k (rw add-one at e)) in
      ap (λ (l : List ℕ). set l n (k + 1)) left
      ∙ ap (λ (i : ℕ). set (over (marked mask k) lent) i (k + 1)) count
      ∙ put_byte (marked mask k) lent (k + 1) h
      ∙ ap (λ (l : List ℕ). over l lent) (sym more)

pub passed : (mask : List ℕ) (k : ℕ) → is_marked mask (k + 1) ≡ false → marked mask k ≡ marked mask (k + 1)
passed mask k e = sym (ap (marked mask) (add-one k) ∙ marked_no mask k (rw add-one at e))
