-- Section 8, Set Timeouts (002, 7.5): two times, each a multiple of 10, 0 to 2,550 ms, else RANGE; then ROOM for the whole 7-byte frame.
-- Its RES has exactly two parameters, answered as milliseconds.
-- Assumes nothing.
use Rattle.std.specs.Prelude.{ℕ, ◌≡◌, Bool, false, List, [], ◌∷◌, eqb, length, get_or, Result, Ok, Err}
use Rattle.refusals.specs.Pick.{pick}
use Rattle.frame.specs.Frame.{frame_of, REQ}
use Rattle.frame.specs.Builder.{built_of, left_by}
use Rattle.refusals.specs.Refusals.{number_of}
use Rattle.refusals.specs.declared.Refusal.{Refusal}
use Rattle.refusals.specs.declared.Refusal.TheVariants as refusal
use Rattle.units.specs.Units.{ticks_of, millis_of}
use Rattle.units.specs.declared.Millis.{Millis}
use Rattle.units.specs.declared.Ticks10.{Ticks10}
use Rattle.masks.specs.Response.{is_response}
use Rattle.timeouts.specs.declared.OldTimeouts.{OldTimeouts}

-- command 06
abbrev pub SET_TIMEOUTS : ℕ
SET_TIMEOUTS = 0x06

-- the two parameters, RXACK before RXBYTE
abbrev pub ticks_for : Result Ticks10 Refusal → Result Ticks10 Refusal → List ℕ
ticks_for (Err k) b = []
ticks_for (Ok a) (Err k) = []
ticks_for (Ok a) (Ok b) = a.0 ∷ b.0 ∷ []

-- for so many lent bytes
abbrev pub set_of : Result Ticks10 Refusal → Result Ticks10 Refusal → ℕ → Result ℕ Refusal
set_of (Err k) b room = Err refusal.Range
set_of (Ok a) (Err k) room = Err refusal.Range
set_of (Ok a) (Ok b) room = built_of 0 2 room

pub record SetTimeouts (rxack rxbyte : Millis) (lent : List ℕ) (r : Result ℕ Refusal) (lent' : List ℕ) : Type 0 where
  pub answer : r ≡ set_of (ticks_of rxack) (ticks_of rxbyte) (length lent)
  pub left : lent'
      ≡ left_by
      (set_of (ticks_of rxack) (ticks_of rxbyte) (length lent))
      (frame_of REQ SET_TIMEOUTS (ticks_for (ticks_of rxack) (ticks_of rxbyte)))
      lent

abbrev pub is_old_timeouts : List ℕ → Bool
is_old_timeouts body = pick (is_response body SET_TIMEOUTS) (eqb (length body) 4) false

-- a parameter, in ticks of 10 ms
abbrev pub time_at : List ℕ → ℕ → Millis
time_at body k = millis_of (record { 0 = get_or body k 0 })

-- the number of the refusal; of an answer 0 and its values, in milliseconds
abbrev pub old_told : Result OldTimeouts Refusal → List ℕ
old_told (Err k) = number_of k ∷ []
old_told (Ok t) = 0 ∷ t.rxack.0 ∷ t.rxbyte.0 ∷ []

abbrev pub read_timeouts : List ℕ → Result OldTimeouts Refusal
read_timeouts body =
    pick (is_old_timeouts body)
    (Ok (record { rxack = time_at body 2; rxbyte = time_at body 3 }))
    (Err refusal.Form)
