-- From what `pick` gave back to the test: a case that it cannot have given tells which one it did. What a function makes of what it gave, and what holds of it.
-- Assumes nothing.
use Prim.Native.Nat.{ℕ}
use native.Mathlib.Omega.{arith}
use mathlib.Core.Path.{◌≡◌, refl, sym, ap}
use mathlib.Core.Logic.{◌↔◌}
use mathlib.Core.Bool.{Bool, true, false}
use Rattle.std.specs.Prelude.{Result, Ok, Err}
use Rattle.refusals.specs.Pick.{pick}
use Rattle.refusals.specs.declared.Refusal.{Refusal}

-- not the second, so the first
pub picked_first : {A : Type 0} (t : Bool) {x y z : A} → (y ≡ z → ⊥) → pick t x y ≡ z → (t ≡ true) × (x ≡ z)
picked_first true n e = (refl, e)
picked_first false n e = absurd (n e)

-- not the first, so the second
pub picked_second : {A : Type 0} (t : Bool) {x y z : A} → (x ≡ z → ⊥) → pick t x y ≡ z → (t ≡ false) × (y ≡ z)
picked_second true n e = absurd (n e)
picked_second false n e = (refl, e)

pub no : true ≡ false → ⊥
no e = let z : ◌≡◌ {A = ℕ} 0 1 = ap (λ (t : Bool). pick t 0 1) e in omega arith

-- a function of what a test picks is picked among its values, each by its other name
pub through_by : {A B : Type 0} (f : A → B) (t : Bool) {x y : A} {u v : B} → f x ≡ u → f y ≡ v → f (pick t x y) ≡ pick t u v
through_by f true p q = p
through_by f false p q = q

pub through : {A B : Type 0} (f : A → B) (t : Bool) (x y : A) → f (pick t x y) ≡ pick t (f x) (f y)
through f t x y = through_by f t refl refl

-- what holds of both, each where the test leads to it, holds of what it picks
pub pick_by : {A : Type 0} (P : A → Type 0) (x : Bool) (a b : A) → (x ≡ true → P a) → (x ≡ false → P b) → P (pick x a b)
pick_by P true a b p q = p refl
pick_by P false a b p q = q refl

pub pick_ok : {A : Type 0} (P : A → Type 0) (x : Bool) (a b : A) → P a → P b → P (pick x a b)
pick_ok P x a b p q = pick_by P x a b (λ _. p) (λ _. q)

-- tests one after the other that gave false: neither was met
pub neither : (x y : Bool) → pick x true y ≡ false → (x ≡ false) × (y ≡ false)
neither x y e = picked_second x no e

-- a refusal is no answer
pub err_not_ok : {A : Type 0} {k : Refusal} {x : A} → ◌≡◌ {A = Result A Refusal} (Err k) (Ok x) → ⊥
err_not_ok e = let z : ◌≡◌ {A = ℕ} 0 1 = cc in omega arith

-- a test that must hold, else this refusal: no other is given, and only where it does not hold
pub refused_by : {A : Type 0} (t : Bool) (x : A) (j k : Refusal) → (pick t (Ok x) (Err j) ≡ Err k) ↔ ((t ≡ false) × (k ≡ j))
refused_by true x j k = (λ e. absurd (err_not_ok (sym e)), λ e. absurd (no e.0))
refused_by false x j k = (λ e. (refl, cc), λ e. ap Err (sym e.1))
