-- Sections 3, 5 and 8: milliseconds, and the Set Timeouts command's ticks of 10 ms.
-- Assumes nothing.
use Rattle.std.specs.Prelude.{ℕ, ◌*◌, ◌/◌, ◌%◌, List, [], ◌∷◌, ltb, eqb, Result, Ok, Err}
use Rattle.refusals.specs.Pick.{pick}
use Rattle.refusals.specs.Refusals.{number_of}
use Rattle.refusals.specs.declared.Refusal.{Refusal}
use Rattle.refusals.specs.declared.Refusal.TheVariants as refusal
use Rattle.units.specs.declared.Millis.{Millis}
use Rattle.units.specs.declared.Ticks10.{Ticks10}

-- A refusal returns its number alone; a time is told by 0 and its ticks.
abbrev pub converted_told : Result Ticks10 Refusal → List ℕ
converted_told (Err k) = number_of k ∷ []
converted_told (Ok t) = 0 ∷ t.0 ∷ []

-- a multiple of 10, 0 to 2,550 ms, else RANGE
abbrev pub ticks_of : Millis → Result Ticks10 Refusal
ticks_of m =
    pick (ltb 2550 m.0) (Err refusal.Range)
    (pick (eqb (m.0 % 10) 0) (Ok (record { 0 = m.0 / 10 })) (Err refusal.Range))

abbrev pub millis_of : Ticks10 → Millis
millis_of t = record { 0 = t.0 * 10 }
