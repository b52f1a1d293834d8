-- Section 9: raw bytes, counted one by one.
-- Assumes nothing.
use Rattle.std.specs.Prelude.{ℕ, List, [], ◌∷◌}
use Rattle.tally.specs.Tally.{count_byte}
use Rattle.tally.specs.declared.Tally.{Tally}

-- The tally after these bytes.
unfoldable pub count : Tally → List ℕ → Tally
count t [] = t
count t (b ∷ bs) = count (count_byte b t) bs
