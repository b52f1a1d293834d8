-- Section 8: function f, or node f, is bit (f − 1) mod 8 of mask byte (f − 1) div 8. Not covered, or f = 0, is unsupported.
-- Assumes nothing.
use Rattle.std.specs.Prelude.{ℕ, zero, suc, ◌-◌, ◌/◌, ◌%◌, ◌^◌, ◌<◌, Bool, false, List, [], ◌∷◌, ◌++◌, eqb, length, get_or, sum_by}
use Rattle.std.specs.Int.Count.{ones}
use Rattle.refusals.specs.Pick.{pick}

-- bit k of a byte, bit 0 the lowest: 0 or 1
abbrev pub bit : ℕ → ℕ → ℕ
bit byte k = byte / 2 ^ k % 2

-- the bit of f, from 1 on: a byte that the mask lacks counts as 0
abbrev pub bit_of : List ℕ → ℕ → ℕ
bit_of mask f = bit (get_or mask ((f - 1) / 8) 0) ((f - 1) % 8)

-- function f is supported, node f is there
abbrev pub is_marked : List ℕ → ℕ → Bool
is_marked mask f = pick (eqb f 0) false (eqb (bit_of mask f) 1)

-- those of 1 to n that the mask marks, in rising order
unfoldable pub marked : List ℕ → ℕ → List ℕ
marked mask zero = []
marked mask (suc n) = marked mask n ++ pick (is_marked mask (suc n)) (suc n ∷ []) []

-- the number of one bits, byte by byte
unfoldable pub ones_in : List ℕ → ℕ
ones_in mask = sum_by ones mask

-- each is above every one before it: rising, and none twice
abbrev pub Rising : List ℕ → Type 0
Rising l = (i j : ℕ) → i < j → j < length l → get_or l i 0 < get_or l j 0

-- a list of bytes
abbrev pub Bytes : List ℕ → Type 0
Bytes l = (i : ℕ) → get_or l i 0 < 256
