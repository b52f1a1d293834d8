-- What the parts of `count` promise each other: several bytes at once are those bytes one by one. A reader need not believe it.
-- Assumes nothing.
use Rattle.std.specs.Prelude.{ℕ, ◌≤◌, ◌<◌, ◌≡◌, List, eqb, ltb, length, drop}
use Rattle.refusals.specs.Pick.{pick}
use Rattle.hearing.specs.declared.hearing.Hearing.TheVariants.{Hunting}
use Rattle.tally.specs.declared.Counts.{Counts}
use Rattle.tally.specs.declared.Tally.{Tally}
use Rattle.counting.specs.Counting.{count}
use Rattle.frame.specs.Frame.{ACK, NAK, CAN}

abbrev pub hunting : Counts → Tally
hunting k = record { hearing = Hunting; counts = k }

-- The column of a byte while hunting that begins no frame.
abbrev pub apart : ℕ → ℕ
apart b = pick (eqb b ACK) 0 (pick (eqb b NAK) 1 (pick (eqb b CAN) 2 7))

-- The column of a whole frame, by its Type, what its checksum has to be, and its checksum.
abbrev pub whole : ℕ → ℕ → ℕ → ℕ
whole kind sum check = pick (eqb check sum) (pick (ltb kind 2) 3 6) 4

-- Counting on from u over the rest gives what counting from t over the bytes gives.
pub record Ahead (t : Tally) (bytes : List ℕ) (u : Tally) (rest : List ℕ) : Type 0 where
  pub left : length rest ≤ length bytes
  pub same : count t bytes ≡ count u rest

-- The same, and at least one byte is behind.
pub record Beyond (t : Tally) (bytes : List ℕ) (u : Tally) (rest : List ℕ) : Type 0 where
  pub left : length rest < length bytes
  pub same : count t bytes ≡ count u rest

-- The same at a place of the bytes.
pub record BeyondAt (t : Tally) (rest : List ℕ) (u : Tally) (next : ℕ) (bytes : List ℕ) : Type 0 where
  pub within : next ≤ length bytes
  pub beyond : Beyond t rest u (drop next bytes)
