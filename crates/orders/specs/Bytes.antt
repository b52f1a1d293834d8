-- The bytes of an order.
-- Assumes nothing.
use Rattle.std.specs.Prelude.{ℕ, List, get_or}

-- the byte at a place, 0 where there is none
abbrev pub spelt_at : List ℕ → ℕ → ℕ
spelt_at bytes at = get_or bytes at 0
