-- Section 9: a byte of raw bytes, counted by what it was heard as. The hearing is the link's own (section 4), with no ticks.
-- Assumes nothing.
use Rattle.std.specs.Prelude.{ℕ, ◌+◌, ltb, eqb}
use Rattle.refusals.specs.Pick.{pick}
use Rattle.hearing.specs.Hearing.{hear_byte}
use Rattle.hearing.specs.declared.hearing.Hearing.{Hearing}
use Rattle.hearing.specs.declared.hearing.Hearing.TheVariants.{Hunting, Head, Body}
use Rattle.hearing.specs.declared.hearing.Single.{Single}
use Rattle.hearing.specs.declared.hearing.Single.TheVariants.{Ack, Nak, Can}
use Rattle.hearing.specs.declared.hearing.End.{End}
use Rattle.hearing.specs.declared.hearing.End.TheVariants.{BadLength, BadSum, Reserved, Request, Response}
use Rattle.hearing.specs.declared.hearing.Event.{Event}
use Rattle.hearing.specs.declared.hearing.Event.TheVariants.{Inside, Kept, Skipped, Alone, Ended, TickHunting, TickInside, Aborted}
use Rattle.hearing.specs.declared.hearing.Heard.{Heard}
use Rattle.tally.specs.declared.Counts.{Counts}
use Rattle.tally.specs.declared.Tally.{Tally}

-- The first three count single bytes while hunting.
abbrev pub single_column : Single → ℕ
single_column Ack = 0
single_column Nak = 1
single_column Can = 2

-- The next four count ended frames by kind; "frames" are those with a right checksum and type 00 or 01.
abbrev pub end_column : End → ℕ
end_column (Request size) = 3
end_column (Response size command) = 3
end_column BadSum = 4
end_column BadLength = 5
end_column Reserved = 6

-- Which count gets 1, by its place in the order printed; 8 is none of them.
abbrev pub column : Event → ℕ
column (Alone s) = single_column s
column (Ended e) = end_column e
column Skipped = 7
column Inside = 8
column (Kept at) = 8
column TickHunting = 8
column TickInside = 8
column Aborted = 8

-- A count stays at the largest number that it can hold. No input below 2^64 bytes takes it there from 0 (proofs/Exact of counting).
abbrev pub one_more : ℕ → ℕ
one_more n = pick (ltb n 18446744073709551615) (n + 1) n

abbrev pub hit : ℕ → ℕ → ℕ → ℕ
hit c own n = pick (eqb c own) (one_more n) n

abbrev pub added : ℕ → Counts → Counts
added c k =
    record {
      ack = hit c 0 k.ack;
      nak = hit c 1 k.nak;
      can = hit c 2 k.can;
      frames = hit c 3 k.frames;
      badsum = hit c 4 k.badsum;
      badlen = hit c 5 k.badlen;
      reserved = hit c 6 k.reserved;
      skipped = hit c 7 k.skipped;
    }

abbrev pub tallied : Counts → Heard → Tally
tallied k h = record { hearing = h.hearing; counts = added (column h.event) k }

abbrev pub count_byte : ℕ → Tally → Tally
count_byte b t = tallied t.counts (hear_byte b t.hearing)

-- Before the first byte: hunting, nothing counted.
abbrev pub none : Counts
none = record { ack = 0; nak = 0; can = 0; frames = 0; badsum = 0; badlen = 0; reserved = 0; skipped = 0 }

abbrev pub fresh : Tally
fresh = record { hearing = Hunting; counts = none }

-- The number of bytes of an unfinished frame: its 01, its Length, and the body bytes that have come.
abbrev pub open_bytes : Hearing → ℕ
open_bytes Hunting = 0
open_bytes (Head clock) = 1
open_bytes (Body p) = p.at + 2
