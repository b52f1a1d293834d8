-- Setting the timeouts, by what became of the two times.
-- Assumes nothing.
use mathlib.Core.Path.{◌≡◌, refl, sym, ap₂}
use mathlib.Core.List.{List}
use Prim.Native.Nat.{ℕ}
use lib.ListN.{length}
use Rattle.frame.specs.Frame.{frame_of}
use Rattle.frame.specs.Builder.{left_by}
use Rattle.std.specs.Prelude.{Result, Err}
use Rattle.refusals.specs.declared.Refusal.{Refusal}
use Rattle.refusals.specs.declared.Refusal.TheVariants as refusal
use Rattle.units.specs.Units.{ticks_of}
use Rattle.units.specs.declared.Millis.{Millis}
use Rattle.units.specs.declared.Ticks10.{Ticks10}
use Rattle.timeouts.specs.Timeouts.{ticks_for, set_of, SetTimeouts}

module _ (rxack rxbyte : Millis) (lent : List ℕ) where
  -- the answer and the lent bytes, by what became of the two times
  pub set_answer : (x y : Result Ticks10 Refusal) → ticks_of rxack ≡ x → ticks_of rxbyte ≡ y → set_of (ticks_of rxack) (ticks_of rxbyte) (length lent) ≡ set_of x y (length lent)
  set_answer x y p q = ap₂ (λ (x y : Result Ticks10 Refusal). set_of x y (length lent)) p q

  pub set_left : (x y : Result Ticks10 Refusal) → ticks_of rxack ≡ x → ticks_of rxbyte ≡ y
      → left_by (set_of (ticks_of rxack) (ticks_of rxbyte) (length lent)) (frame_of 0 6 (ticks_for (ticks_of rxack) (ticks_of rxbyte))) lent
      ≡ left_by (set_of x y (length lent)) (frame_of 0 6 (ticks_for x y)) lent
  set_left x y p q = ap₂ (λ (x y : Result Ticks10 Refusal). left_by (set_of x y (length lent)) (frame_of 0 6 (ticks_for x y)) lent) p q

  pub first_refused : (k : Refusal) → ticks_of rxack ≡ Err k → SetTimeouts rxack rxbyte lent (Err refusal.Range) lent
  first_refused k p = record { answer = sym (set_answer (Err k) (ticks_of rxbyte) p refl); left = sym (set_left (Err k) (ticks_of rxbyte) p refl) }
