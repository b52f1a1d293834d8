-- What holds of counting over all inputs.
-- Assumes nothing.
use mathlib.Core.Path.{◌≡◌, refl}
use mathlib.Core.List.{List, [], ◌∷◌, ◌++◌}
use Prim.Native.Nat.{ℕ, ◌≤◌}
use native.Mathlib.Omega.{arith}
use lib.ListN.{length}
use Rattle.refusals.proofs.Theorems.{fixed}
use Rattle.hearing.specs.declared.hearing.Hearing.TheVariants.{Hunting}
use Rattle.tally.specs.declared.Tally.{Tally}
use Rattle.tally.specs.Tally.{count_byte, fresh}
use Rattle.counting.specs.Counting.{count}
use Rattle.counting.specs.Exact.{events, hearing_after, numbers}
use Rattle.counting.proofs.Exact.{counted_exact}

-- Section 12: the promise determines its answer.

pub count_determined : (t : Tally) (bytes : List ℕ) {r q : Tally} → r ≡ count t bytes → q ≡ count t bytes → r ≡ q
count_determined t bytes = fixed

-- An input read in pieces is counted as if it came whole.
pub pieces_are_whole : (t : Tally) (a b : List ℕ) → count t (a ++ b) ≡ count (count t a) b
unfolding count
pieces_are_whole t [] b = refl
pieces_are_whole t (x ∷ a) b = pieces_are_whole (count_byte x t) a b

-- Section 9 reads at most 16,777,216 bytes. Over these each count is the number of events of its column: no count meets the largest number.
pub counts_exact : (bytes : List ℕ) → length bytes ≤ 16777216 → (count fresh bytes).counts ≡ numbers (events Hunting bytes)
counts_exact bytes h = counted_exact bytes (omega arith)

-- Counting does not change what is heard.
pub heard_the_same : (t : Tally) (bytes : List ℕ) → (count t bytes).hearing ≡ hearing_after t.hearing bytes
unfolding count hearing_after
heard_the_same t [] = refl
heard_the_same t (b ∷ bs) = heard_the_same (count_byte b t) bs

-- The example of section 9: 06 01 03 00 07 FB 55 01 02.
pub example : count fresh (6 ∷ 1 ∷ 3 ∷ 0 ∷ 7 ∷ 251 ∷ 85 ∷ 1 ∷ 2 ∷ [])
    ≡ record {
      hearing = Hunting;
      counts = record { ack = 1; nak = 0; can = 0; frames = 1; badsum = 0; badlen = 1; reserved = 0; skipped = 1 };
    }
unfolding count
example = refl
