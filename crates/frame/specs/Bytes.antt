-- Bytes written and bytes folded.
-- Assumes nothing.
use Rattle.std.specs.Prelude.{ℕ, List, ◌++◌, length, drop}
use Rattle.std.specs.List as list
use Rattle.std.specs.Int.Bits.{bit_xor}

-- the xor of a and every byte
unfoldable pub fold : ℕ → List ℕ → ℕ
fold a bytes = list.fold bit_xor a bytes

-- a lent buffer with these bytes over its first ones
abbrev pub over : List ℕ → List ℕ → List ℕ
over bs lent = bs ++ drop (length bs) lent
