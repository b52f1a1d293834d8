-- What the counts of section 9 are over a whole input, said without a running count: how many of the events heard belong to each column.
-- Assumes nothing.
use Rattle.std.specs.Prelude.{ℕ, ◌+◌, List, [], ◌∷◌, eqb}
use Rattle.refusals.specs.Pick.{pick}
use Rattle.hearing.specs.Hearing.{hear_byte}
use Rattle.hearing.specs.declared.hearing.Hearing.{Hearing}
use Rattle.hearing.specs.declared.hearing.Event.{Event}
use Rattle.tally.specs.declared.Counts.{Counts}
use Rattle.tally.specs.Tally.{column}

-- What the bytes are heard as, one event to a byte.
unfoldable pub events : Hearing → List ℕ → List Event
events h [] = []
events h (b ∷ bs) = (hear_byte b h).event ∷ events (hear_byte b h).hearing bs

-- Where the hearing stands behind them.
unfoldable pub hearing_after : Hearing → List ℕ → Hearing
hearing_after h [] = h
hearing_after h (b ∷ bs) = hearing_after (hear_byte b h).hearing bs

-- How many events are of this column.
unfoldable pub number : ℕ → List Event → ℕ
number c [] = 0
number c (e ∷ es) = pick (eqb (column e) c) 1 0 + number c es

abbrev pub numbers : List Event → Counts
numbers es =
    record {
      ack = number 0 es;
      nak = number 1 es;
      can = number 2 es;
      frames = number 3 es;
      badsum = number 4 es;
      badlen = number 5 es;
      reserved = number 6 es;
      skipped = number 7 es;
    }
