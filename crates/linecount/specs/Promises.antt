-- What a read promises the loop over the input.
-- Assumes nothing.
use Rattle.std.specs.Prelude.{ℕ, ◌≤◌}

-- at most as many bytes as were asked for, and all of them in the buffer
abbrev pub Within : ℕ → ℕ → ℕ → Type 0
Within most size n = (n ≤ most) × (n ≤ size)
