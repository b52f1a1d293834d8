-- The two units of time, there and back, and what the promises fix.
-- Assumes nothing.
use mathlib.Core.Path.{◌≡◌, refl, sym, ap, ◌∙◌}
use mathlib.Core.Bool.{Bool, true, false}
use mathlib.Core.List.{[], ◌∷◌}
use Prim.Native.Nat.{◌*◌, ◌/◌, ◌%◌, ◌≤◌}
use native.Mathlib.Omega.{arith}
use lib.Dec.{ltb, eqb}
use borrow.Author.Tests.{le-ltb, eq-eqb, ltb-false, eqb-true}
use Rattle.std.specs.Prelude.{Result, Ok, Err}
use Rattle.refusals.specs.Pick.{pick}
use Rattle.refusals.specs.declared.Refusal.{Refusal}
use Rattle.refusals.specs.declared.Refusal.TheVariants as refusal
use Rattle.refusals.proofs.Picks.{picked_first, picked_second, through_by, err_not_ok}
use Rattle.refusals.proofs.Theorems.{fixed}
use Rattle.units.specs.declared.Millis.{Millis}
use Rattle.units.specs.declared.Ticks10.{Ticks10}
use Rattle.units.specs.Units.{converted_told, ticks_of, millis_of}

-- Section 12: each promise determines its answer, refusals too
pub ticks_of_determined : (m : Millis) {r q : Result Ticks10 Refusal} → r ≡ ticks_of m → q ≡ ticks_of m → r ≡ q
ticks_of_determined m = fixed

pub millis_of_determined : (t : Ticks10) {r q : Millis} → r ≡ millis_of t → q ≡ millis_of t → r ≡ q
millis_of_determined t = fixed

-- ticks to milliseconds and back: the same ticks, 0 to 255
pub ticks_back : (t : Ticks10) → t.0 ≤ 255 → ticks_of (millis_of t) ≡ Ok t
ticks_back t h =
    let d : t.0 * 10 / 10 ≡ t.0 = omega arith in
    simp (le-ltb 2550 (t.0 * 10) (omega arith), eq-eqb (t.0 * 10 % 10) 0 (omega arith), d)

-- milliseconds to ticks and back: the same milliseconds, a multiple of 10, 0 to 2,550
pub millis_back : (m : Millis) (t : Ticks10) → ticks_of m ≡ Ok t → (millis_of t ≡ m) × (t.0 ≤ 255)
millis_back m t e =
    let low = picked_second (ltb 2550 m.0) err_not_ok e in
    let whole = picked_first (eqb (m.0 % 10) 0) err_not_ok low.1 in
    let h : m.0 ≤ 2550 = ltb-false _ _ low.0 in
    let r : m.0 % 10 ≡ 0 = eqb-true _ _ whole.0 in
    let s : ◌≡◌ {A = Ticks10} (record { 0 = m.0 / 10 }) t = cc in
    let d : m.0 / 10 ≡ t.0 = ap (λ (x : Ticks10). x.0) s in
    let f : t.0 * 10 ≡ m.0 = omega arith in
    (rw f, omega arith)

-- Section 3: RANGE by its number alone, above 2,550 ms or no multiple of 10; else 0 and the ticks
pub ticks_told : (m : Millis) {r : Result Ticks10 Refusal} → r ≡ ticks_of m
    → converted_told r ≡ pick (ltb 2550 m.0) (11 ∷ []) (pick (eqb (m.0 % 10) 0) (0 ∷ (m.0 / 10) ∷ []) (11 ∷ []))
ticks_told m e =
    ap converted_told e
    ∙ through_by converted_told (ltb 2550 m.0) refl
    (through_by converted_told (eqb (m.0 % 10) 0) refl refl)

-- Section 10: 2,550 ms is 255; 2,560 and 1,505 are RANGE
pub range_edges : (ticks_of (record { 0 = 2550 }) ≡ Ok (record { 0 = 255 }))
    × (ticks_of (record { 0 = 2560 }) ≡ Err refusal.Range)
    × (ticks_of (record { 0 = 1505 }) ≡ Err refusal.Range)
range_edges = (refl, refl, refl)

-- Section 5: no other refusal than RANGE
pub ticks_range : (m : Millis) (k : Refusal) → ticks_of m ≡ Err k → k ≡ refusal.Range
ticks_range m k e = by (ltb 2550 m.0) (eqb (m.0 % 10) 0) e
  where
    by : (t u : Bool) → ◌≡◌ {A = Result Ticks10 Refusal} (pick t (Err refusal.Range) (pick u (Ok (record { 0 = m.0 / 10 })) (Err refusal.Range))) (Err k)
        → k ≡ refusal.Range
    by true u e = cc
    by false true e = absurd (err_not_ok (sym e))
    by false false e = cc
