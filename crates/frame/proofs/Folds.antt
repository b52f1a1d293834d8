-- The xor of a list: of what is left of it, of two lists joined, and that of bytes is below 256.
-- Assumes nothing.
use mathlib.Core.Path.{◌≡◌}
use mathlib.Core.List.{List, [], ◌∷◌, ◌++◌}
use Prim.Native.Nat.{ℕ, suc, ◌≤◌, ◌<◌, ◌+◌}
use native.Mathlib.Omega.{arith}
use lib.ListN.{length, drop, get_or}
use lib.Bits.{bit_xor, xor_lt}
use Rattle.std.proofs.lemmas.List.{at_drop_all, at_drop_more}
use Rattle.std.proofs.lemmas.List.Sums.{fold-append}
use Rattle.frame.specs.Bytes.{fold}

pub fold_end : (a i : ℕ) (s : List ℕ) → length s ≤ i → fold a (drop i s) ≡ a
unfolding fold
fold_end a i s h = at_drop_all (λ (t : List ℕ). fold a t) s i h

pub fold_more : (a i : ℕ) (s : List ℕ) → i < length s → fold a (drop i s) ≡ fold (bit_xor a (get_or s i 0)) (drop (i + 1) s)
unfolding fold
fold_more a i s h = at_drop_more (λ (t : List ℕ). fold a t) s i 0 h

pub fold_append : (a : ℕ) (s t : List ℕ) → fold a (s ++ t) ≡ fold (fold a s) t
unfolding fold
fold_append a s t = fold-append bit_xor a s t

pub fold_below : (a : ℕ) (s : List ℕ) → a < 256 → ((i : ℕ) → i < length s → get_or s i 0 < 256) → fold a s < 256
unfolding fold
fold_below a [] h below = h
fold_below a (b ∷ s) h below = fold_below (bit_xor a b) s (xor_lt 8 a b h (below 0 (omega arith))) (λ i l. below (suc i) (omega arith))
