-- The pattern that stands in lent buffers, and when a call has written where it did not say so.
-- Assumes nothing.
use Rattle.std.specs.Prelude.{ℕ, zero, suc, ◌+◌, ◌%◌, Bool, false, not, ◌||◌, List, [], ◌∷◌, ◌++◌, eqb, drop}

-- The pattern's byte at a place: 1 to 251 in turn, and from 1 again at every 65536th place. So no byte is 0, neighbours differ, and so do places 256 apart.
abbrev pub mark : ℕ → ℕ
mark i = i % 65536 % 251 + 1

-- the first n bytes of the pattern
unfoldable pub pattern : ℕ → List ℕ
pattern zero = []
pattern (suc n) = pattern n ++ (mark n ∷ [])

-- whether some of these bytes, the first of which stands at place i, is not the pattern's
unfoldable pub differs : ℕ → List ℕ → Bool
differs i [] = false
differs i (b ∷ bs) = not (eqb b (mark i)) || differs (suc i) bs

-- Whether a byte beyond the first n is not the pattern's. Where it is not so, the buffer beyond the first n is the pattern (`unspilled` of proofs/Theorems).
abbrev pub is_spilled : List ℕ → ℕ → Bool
is_spilled lent n = differs n (drop n lent)
