-- What `write` stores, one store behind the other, is the frame over the lent bytes, and what it folds is the checksum.
-- Assumes nothing.
use mathlib.Core.Path.{◌≡◌, ap, ◌∙◌}
use mathlib.Core.List.{List, [], ◌∷◌, ◌++◌}
use Prim.Native.Nat.{ℕ, ◌+◌, ◌≤◌, ◌<◌}
use native.Mathlib.Nat.{le_refl}
use native.Mathlib.Omega.{arith}
use lib.ListN.{length, set}
use lib.Seq.{paste, take-length}
use lib.Bits.{bit_xor}
use Rattle.frame.specs.Bytes.{over, fold}
use Rattle.frame.specs.Frame.{counted, checksum, frame_of}
use Rattle.frame.proofs.Over.{put_byte, put_bytes}

-- four stores at the front
abbrev pub headed : List ℕ → ℕ → ℕ → ℕ → ℕ → List ℕ
headed d a b k m = set (set (set (set d 0 a) 1 b) 2 k) 3 m

pub head_over : (d : List ℕ) (a b k m : ℕ) → 4 ≤ length d → headed d a b k m ≡ over (a ∷ b ∷ k ∷ m ∷ []) d
head_over d a b k m h =
    let h₁ : 0 < length d = omega arith in
    let h₂ : 1 < length d = omega arith in
    let h₃ : 2 < length d = omega arith in
    ap (λ (l : List ℕ). set (set (set l 1 b) 2 k) 3 m) (put_byte [] d a h₁)
    ∙ ap (λ (l : List ℕ). set (set l 2 k) 3 m) (put_byte (a ∷ []) d b h₂)
    ∙ ap (λ (l : List ℕ). set l 3 m) (put_byte (a ∷ b ∷ []) d k h₃)
    ∙ put_byte (a ∷ b ∷ k ∷ []) d m h

module _ (d ps : List ℕ) (kind command : ℕ) (room : length ps + 5 ≤ length d) where
  -- the parameters behind them
  pub laid_over : {d' : List ℕ} → d' ≡ paste (headed d 1 (length ps + 3) kind command) 4 ps (length ps) → d' ≡ over (1 ∷ counted kind command ps) d
  laid_over laid =
      laid
      ∙ ap (λ (l : List ℕ). paste l 4 ps (length ps)) (head_over d 1 (length ps + 3) kind command (omega arith))
      ∙ put_bytes (1 ∷ (length ps + 3) ∷ kind ∷ command ∷ []) ps d (length ps) (le_refl (length ps))
      ∙ ap (λ (l : List ℕ). over (1 ∷ (length ps + 3) ∷ kind ∷ command ∷ l) d) (take-length ps)

  -- the checksum behind these
  pub framed_over : {d' : List ℕ} {v : ℕ} → d' ≡ over (1 ∷ counted kind command ps) d → v ≡ checksum (counted kind command ps)
      → set d' (length ps + 4) v ≡ over (frame_of kind command ps) d
  unfolding frame_of
  framed_over {d'} {v} e s =
      let at : length ps + 4 ≡ length (1 ∷ counted kind command ps) = omega arith in
      ap (λ (l : List ℕ). set l (length ps + 4) v) e
      ∙ ap (λ (i : ℕ). set (over (1 ∷ counted kind command ps) d) i v) at
      ∙ put_byte (1 ∷ counted kind command ps) d v (omega arith)
      ∙ ap (λ (x : ℕ). over ((1 ∷ counted kind command ps) ++ (x ∷ [])) d) s

-- FF with Length, Type and Command folded in, and then the parameters, is the checksum.
pub folded_whole : (kind command : ℕ) (ps : List ℕ) {v : ℕ} → v ≡ fold (bit_xor (bit_xor (bit_xor 255 (length ps + 3)) kind) command) ps
    → v ≡ checksum (counted kind command ps)
unfolding fold
folded_whole kind command ps e = e
