-- Writing the two times, by what became of them.
-- Assumes nothing.
use mathlib.Core.Path.{◌≡◌, refl, sym, ap₂, ◌∙◌}
use mathlib.Core.Bool.{Bool}
use mathlib.Core.List.{List, [], ◌∷◌}
use Prim.Native.Nat.{ℕ}
use native.Mathlib.Omega.{arith}
use lib.ListN.{length}
use Rattle.std.specs.Prelude.{Result, Ok, Err}
use Rattle.refusals.specs.declared.Refusal.{Refusal}
use Rattle.refusals.specs.declared.Refusal.TheVariants as refusal
use Rattle.units.specs.Units.{ticks_of}
use Rattle.units.specs.declared.Millis.{Millis}
use Rattle.units.specs.declared.Ticks10.{Ticks10}
use Rattle.masks.specs.Written.{body_left, Write}
use Rattle.masks.specs.Promises.{carried}
use Rattle.masks.proofs.Writing.{asked}
use Rattle.timeouts.specs.Timeouts.{is_old_timeouts}
use Rattle.timeouts.specs.Writer.{timeouts_body, timeouts_written, WriteTimeouts}

module _ (rxack rxbyte : Millis) (lent : List ℕ) where
  -- the answer and the lent bytes, by what became of the two times
  pub written_answer : (x y : Result Ticks10 Refusal) → ticks_of rxack ≡ x → ticks_of rxbyte ≡ y
      → timeouts_written (ticks_of rxack) (ticks_of rxbyte) (length lent) ≡ timeouts_written x y (length lent)
  written_answer x y p q = ap₂ (λ (x y : Result Ticks10 Refusal). timeouts_written x y (length lent)) p q

  pub written_left : (x y : Result Ticks10 Refusal) → ticks_of rxack ≡ x → ticks_of rxbyte ≡ y
      → body_left (timeouts_written (ticks_of rxack) (ticks_of rxbyte) (length lent)) (timeouts_body (ticks_of rxack) (ticks_of rxbyte)) lent
      ≡ body_left (timeouts_written x y (length lent)) (timeouts_body x y) lent
  written_left x y p q = ap₂ (λ (x y : Result Ticks10 Refusal). body_left (timeouts_written x y (length lent)) (timeouts_body x y) lent) p q

  pub first_refused : (k : Refusal) → ticks_of rxack ≡ Err k → WriteTimeouts rxack rxbyte lent (Err refusal.Range) lent
  first_refused k p =
      record { answer = sym (written_answer (Err k) (ticks_of rxbyte) p refl); left = sym (written_left (Err k) (ticks_of rxbyte) p refl) }

  pub both_written : (a b : Ticks10) (r : Result ℕ Refusal) (lent' : List ℕ) {reads : Bool} → ticks_of rxack ≡ Ok a → ticks_of rxbyte ≡ Ok b
      → reads ≡ is_old_timeouts (1 ∷ 6 ∷ a.0 ∷ b.0 ∷ [])
      → Write (carried reads (1 ∷ 6 ∷ a.0 ∷ b.0 ∷ [])) (1 ∷ 6 ∷ a.0 ∷ b.0 ∷ []) lent r lent'
      → WriteTimeouts rxack rxbyte lent r lent'
  both_written a b r lent' p q e w =
      let taken = asked is_old_timeouts (1 ∷ 6 ∷ a.0 ∷ b.0 ∷ []) (1 ∷ 6 ∷ a.0 ∷ b.0 ∷ []) lent e refl (omega arith) w in
      record { answer = taken.answer ∙ sym (written_answer (Ok a) (Ok b) p q); left = taken.left ∙ sym (written_left (Ok a) (Ok b) p q) }
