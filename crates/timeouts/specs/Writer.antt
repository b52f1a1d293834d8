-- Document 02, P5: the Set Timeouts response is written as the body that is handed up; a body that its reader would refuse is refused alike.
-- A time that is no number of ticks is RANGE, as section 8 has it for the same two times: before ROOM.
-- Assumes nothing.
use Rattle.std.specs.Prelude.{ℕ, ◌≡◌, List, ◌∷◌, length, Result, Ok, Err}
use Rattle.frame.specs.Frame.{RES}
use Rattle.refusals.specs.declared.Refusal.{Refusal}
use Rattle.refusals.specs.declared.Refusal.TheVariants as refusal
use Rattle.units.specs.Units.{ticks_of}
use Rattle.units.specs.declared.Millis.{Millis}
use Rattle.units.specs.declared.Ticks10.{Ticks10}
use Rattle.masks.specs.Written.{written_of, body_left}
use Rattle.timeouts.specs.Timeouts.{SET_TIMEOUTS, ticks_for, is_old_timeouts}

-- Type, Command and the two parameters
abbrev pub timeouts_body : Result Ticks10 Refusal → Result Ticks10 Refusal → List ℕ
timeouts_body a b = RES ∷ SET_TIMEOUTS ∷ ticks_for a b

-- for so many lent bytes
abbrev pub timeouts_written : Result Ticks10 Refusal → Result Ticks10 Refusal → ℕ → Result ℕ Refusal
timeouts_written (Err k) b room = Err refusal.Range
timeouts_written (Ok a) (Err k) room = Err refusal.Range
timeouts_written (Ok a) (Ok b) room =
    written_of
    (is_old_timeouts (timeouts_body (Ok a) (Ok b)))
    (length (timeouts_body (Ok a) (Ok b)))
    room

pub record WriteTimeouts (rxack rxbyte : Millis) (lent : List ℕ) (r : Result ℕ Refusal) (lent' : List ℕ) : Type 0 where
  pub answer : r ≡ timeouts_written (ticks_of rxack) (ticks_of rxbyte) (length lent)
  pub left : lent'
      ≡ body_left
      (timeouts_written (ticks_of rxack) (ticks_of rxbyte) (length lent))
      (timeouts_body (ticks_of rxack) (ticks_of rxbyte))
      lent
