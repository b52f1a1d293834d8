-- The list of the times on the wire: its rule at every entry, by one test over the whole list.
-- Assumes nothing.
use Prim.Native.Nat.{ℕ, suc, ◌≤◌, min}
use mathlib.Core.Path.{◌≡◌, ap, ◌∙◌}
use mathlib.Core.Bool.{Bool}
use mathlib.Core.List.{List, [], ◌∷◌, ◌++◌}
use native.Mathlib.Omega.{arith}
use lib.Dec.{eqb, eqb→eq}
use lib.ListN.{replicate, get_or}
use Rattle.rules.specs.Rules.{wire_time}
use Rattle.rules.proofs.Theorems.{counts_as_257_at_most}
use Rattle.job.proofs.Entries.{at}

-- the times of the lengths from 0 on: so many lengths take 0 ticks, so many 1, and so on
unfoldable pub runs : ℕ → List ℕ → List ℕ
runs w [] = []
runs w (n ∷ ns) = replicate n w ++ runs (suc w) ns

unfoldable pub times : List ℕ
times = runs 0 (1 ∷ 11 ∷ 12 ∷ 11 ∷ 12 ∷ 11 ∷ 12 ∷ 11 ∷ 12 ∷ 11 ∷ 12 ∷ 11 ∷ 12 ∷ 11 ∷ 12 ∷ 11 ∷ 12 ∷ 11 ∷ 12 ∷ 11 ∷ 12 ∷ 11 ∷ 12 ∷ 4 ∷ [])

-- the time w is that of b bytes
right : ℕ → ℕ → Bool
right b w = eqb w (wire_time b)

-- One test, over the whole list: each entry is the time of so many bytes as its place says, for every b up to 257.
pub time_at_lem : (b : ℕ) → b ≤ 257 → get_or times b 0 ≡ wire_time b
unfolding times runs right wire_time
time_at_lem b h = eqb→eq (get_or times b 0) (wire_time b) (at right times tt b (omega arith))

-- and a length above 257 counts as 257
pub time_of : (place size : ℕ) → place ≡ min size 257 → get_or times place 0 ≡ wire_time size
time_of place size e = time_at_lem place (omega arith) ∙ ap wire_time e ∙ counts_as_257_at_most size
