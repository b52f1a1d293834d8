-- Counting at what is left of the bytes.
--     count_end   nothing is left
--     count_more  one byte more
-- Assumes nothing.
use mathlib.Core.Path.{◌≡◌, refl, ap}
use mathlib.Core.List.{List, [], ◌∷◌}
use Prim.Native.Nat.{ℕ}
use native.Mathlib.Omega.{arith}
use lib.ListN.{length}
use Rattle.tally.specs.declared.Tally.{Tally}
use Rattle.tally.specs.Tally.{count_byte}
use Rattle.counting.specs.Counting.{count}

pub count_end : (t : Tally) (rest : List ℕ) → length rest ≡ 0 → count t rest ≡ t
unfolding count
count_end t [] h = refl
count_end t (b ∷ rest) h = absurd (omega (arith, h))

pub count_more : (t : Tally) (bytes rest : List ℕ) (b : ℕ) → bytes ≡ b ∷ rest → count t bytes ≡ count (count_byte b t) rest
unfolding count
count_more t bytes rest b e = ap (λ (l : List ℕ). count t l) e
