-- What document 01 fixes and later requests vary: what a link is opened as, and the rules of sending (section 5).
-- The definitions that depend on them take them as a parameter.
-- Assumes nothing.
use Rattle.std.specs.Prelude.{ℕ, ◌+◌, ◌*◌, ◌/◌, min, Bool, true, false, eqb}
use Rattle.refusals.specs.Pick.{pick}
use Rattle.rules.specs.declared.Role.{Role}
use Rattle.rules.specs.declared.Role.TheVariants.{Host, Module}
use Rattle.rules.specs.declared.Mode.{Mode}
use Rattle.rules.specs.declared.Mode.TheVariants.{Sooner, Spaced}
use Rattle.rules.specs.declared.Cause.{Cause}
use Rattle.rules.specs.declared.Cause.TheVariants.{Told, Time}
use Rattle.rules.specs.declared.Choice.{Choice}

-- the stand-in, and not the host
abbrev pub is_module : Role → Bool
is_module Host = false
is_module Module = true

-- a link opened without a choice is the host, in the new mode
abbrev pub usual : Choice
usual = record { role = Host; mode = Sooner }

-- the host in the old mode, which opening has to name
abbrev pub spaced : Choice
spaced = record { role = Host; mode = Spaced }

-- opened as the stand-in for a module, with no mode named
abbrev pub stand_in : Choice
stand_in = record { role = Module; mode = Sooner }

pub record Rules : Type 0 where
  -- what the link was opened as
  pub choice : Choice
  -- how many ticks a copy waits for its ACK, by the frame's length
  pub wait : ℕ → ℕ
  -- how many ticks the sender backs off, by the cause and the number of copies
  pub back : Cause → ℕ → ℕ

-- one of three numbers: after copy 1, after copy 2, after copy 3
abbrev pub by_copy : (first second third : ℕ) → ℕ → ℕ
by_copy first second third n = pick (eqb n 1) first (pick (eqb n 2) second third)

-- after copy 1, 2, 3 back off 100, 1,100, 2,100 ticks
abbrev pub back_offs : ℕ → ℕ
back_offs = by_copy 100 1100 2100

-- "After a loss by timeout the back-off is 0, 0, 500 in place of 100, 1,100, 2,100" (document 02, P4).
abbrev pub sooner_offs : ℕ → ℕ
sooner_offs = by_copy 0 0 500

-- "NAK and CAN keep the full waits"; after silence it goes by the mode.
abbrev pub back_by : Mode → Cause → ℕ → ℕ
back_by m Told n = back_offs n
back_by Sooner Time n = sooner_offs n
back_by Spaced Time n = back_offs n

-- At 115,200 bits/s and 10 bits a byte, a frame of b bytes takes 25b/288 ms, rounded up (document 02, P2).
-- A length above 257, which no frame has, counts as 257.
unfoldable pub wire_time : ℕ → ℕ
wire_time b = (25 * min b 257 + 287) / 288

-- a copy waits 1,600 ticks behind its time on the wire
abbrev pub ack_wait : ℕ → ℕ
ack_wait size = 1600 + wire_time size

-- the rules of a link that was opened so; the stand-in sends by the same as the host
abbrev pub rules_of : Choice → Rules
rules_of c = record { choice = c; wait = ack_wait; back = back_by c.mode }

-- those of a link opened without a choice
abbrev pub base : Rules
base = rules_of usual

-- the same rules of sending for another choice
abbrev pub chosen : Choice → Rules → Rules
chosen c R = record { choice = c; wait = R.wait; back = R.back }
