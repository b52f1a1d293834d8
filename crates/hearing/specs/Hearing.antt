-- Section 4, reception: a byte or a tick becomes an event. Nothing here knows of sending.
-- Assumes nothing.
use Rattle.std.specs.Prelude.{ℕ, ◌+◌, ◌-◌, Bool, true, false, List, Option, Some, None, ltb, eqb, set}
use Rattle.std.specs.Int.Bits.{bit_xor}
use Rattle.refusals.specs.Pick.{pick}
use Rattle.hearing.specs.declared.hearing.Partial.{Partial}
use Rattle.hearing.specs.declared.hearing.Hearing.{Hearing}
use Rattle.hearing.specs.declared.hearing.Hearing.TheVariants.{Hunting, Head, Body}
use Rattle.hearing.specs.declared.hearing.Single.{Single}
use Rattle.hearing.specs.declared.hearing.Single.TheVariants.{Ack, Nak, Can}
use Rattle.hearing.specs.declared.hearing.End.{End}
use Rattle.hearing.specs.declared.hearing.End.TheVariants.{BadLength, BadSum, Reserved, Request, Response}
use Rattle.hearing.specs.declared.hearing.Event.{Event}
use Rattle.hearing.specs.declared.hearing.Event.TheVariants.{Inside, Kept, Skipped, Alone, Ended, TickHunting, TickInside, Aborted}
use Rattle.hearing.specs.declared.hearing.Heard.{Heard}
use Rattle.frame.specs.Frame.{START, REQ, RES, SEED, ACK, NAK, CAN, MIN_LENGTH}

abbrev pub heard : Hearing → Event → Heard
heard h e = record { hearing = h; event = e }

abbrev pub is_hunting : Hearing → Bool
is_hunting Hunting = true
is_hunting (Head c) = false
is_hunting (Body p) = false

-- The single bytes on the line: 06, 15, 18.
abbrev pub byte_of : Single → ℕ
byte_of Ack = ACK
byte_of Nak = NAK
byte_of Can = CAN

-- and any other byte is none of them
abbrev pub single_of : ℕ → Option Single
single_of b = pick (eqb b ACK) (Some Ack) (pick (eqb b NAK) (Some Nak) (pick (eqb b CAN) (Some Can) None))

-- While hunting: 01 begins a frame and sets its clock to 0; 06, 15, 18 go to the sender; other bytes are skipped.
abbrev pub hunted : ℕ → Heard
hunted b =
    pick (eqb b START) (heard (Head 0) Inside)
    (pick (eqb b ACK) (heard Hunting (Alone Ack))
    (pick (eqb b NAK) (heard Hunting (Alone Nak))
    (pick (eqb b CAN) (heard Hunting (Alone Can))
    (heard Hunting Skipped))))

-- After Length come Length − 1 body bytes. The checksum is FF xor every byte from Length on.
abbrev pub begun : ℕ → ℕ → Partial
begun clock len = record { clock = clock; size = len - 1; at = 0; sum = bit_xor SEED len; kind = 0; command = 0 }

-- Length below 3: bad length, hunt again.
abbrev pub measured : ℕ → ℕ → Heard
measured clock b = pick (ltb b MIN_LENGTH) (heard Hunting (Ended BadLength)) (heard (Body (begun clock b)) Inside)

-- One more body byte: the first is the Type, the second the Command.
abbrev pub more : Partial → ℕ → Partial
more p b =
    record {
      clock = p.clock;
      size = p.size;
      at = p.at + 1;
      sum = bit_xor p.sum b;
      kind = pick (eqb p.at 0) b p.kind;
      command = pick (eqb p.at 1) b p.command;
    }

-- Right checksum, by Type: 00 a request, 01 a response, else reserved.
abbrev pub ended : Partial → End
ended p = pick (eqb p.kind REQ) (Request p.size) (pick (eqb p.kind RES) (Response p.size p.command) Reserved)

-- Inside a body, then its Checksum. No byte has a special meaning.
abbrev pub followed : Partial → ℕ → Heard
followed p b =
    pick (ltb p.at p.size) (heard (Body (more p b)) (Kept p.at))
    (heard Hunting (Ended (pick (eqb b p.sum) (ended p) BadSum)))

abbrev pub hear_byte : ℕ → Hearing → Heard
hear_byte b Hunting = hunted b
hear_byte b (Head clock) = measured clock b
hear_byte b (Body p) = followed p b

-- Each tick inside a frame adds 1 to its clock. The tick that makes it 1,501 aborts the frame.
abbrev pub clocked : ℕ → Hearing → Heard
clocked clock later = pick (ltb clock 1501) (heard later TickInside) (heard Hunting Aborted)

abbrev pub later : Partial → Partial
later p = record { clock = p.clock + 1; size = p.size; at = p.at; sum = p.sum; kind = p.kind; command = p.command }

abbrev pub hear_tick : Hearing → Heard
hear_tick Hunting = heard Hunting TickHunting
hear_tick (Head clock) = clocked (clock + 1) (Head (clock + 1))
hear_tick (Body p) = clocked (p.clock + 1) (Body (later p))

-- The half-received frame's bytes: a body byte is kept at its place.
abbrev pub keep : Event → ℕ → List ℕ → List ℕ
keep Inside b body = body
keep (Kept at) b body = set body at b
keep Skipped b body = body
keep (Alone s) b body = body
keep (Ended e) b body = body
keep TickHunting b body = body
keep TickInside b body = body
keep Aborted b body = body
