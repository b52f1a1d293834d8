-- What holds of the refusals, and the one law of determinacy that every crate cites.
--     fixed                a promise that is an equation fixes its answer
--     number_determined    `number_of`; name_determined: `name_of`
--     numbers              each has the number that document 01 prints; number_place, number_injective: each has its own
-- Assumes nothing.
use mathlib.Core.Path.{◌≡◌, refl, sym, ap, ◌∙◌}
use mathlib.Core.List.{List, [], ◌∷◌, map}
use Prim.Native.Nat.{ℕ}
use lib.Dec.{eqb}
use Rattle.refusals.specs.Pick.{pick}
use Rattle.refusals.specs.declared.Refusal.{Refusal}
use Rattle.refusals.specs.declared.Refusal.TheVariants.{Room, Busy, Kind, Long, Short, Start, Length, Tail, Sum, Form, Range}
use Rattle.refusals.specs.Refusals.{number_of, name_of}

-- a promise that is an equation fixes its answer
pub fixed : {A : Type 0} {r q x : A} → r ≡ x → q ≡ x → r ≡ q
fixed e f = e ∙ sym f

pub number_determined : (k : Refusal) {r q : ℕ} → r ≡ number_of k → q ≡ number_of k → r ≡ q
number_determined k = fixed

pub name_determined : (k : Refusal) {r q : List ℕ} → r ≡ name_of k → q ≡ name_of k → r ≡ q
name_determined k = fixed

-- Section 3: each refusal beside its number. A number is not used again, not even that of a refusal that retires, so there may be gaps;
-- and the order is that of the numbers.
abbrev pub numbered : List (Refusal × ℕ)
numbered =
    (Room, 1)
    ∷ (Busy, 2)
    ∷ (Kind, 3)
    ∷ (Long, 4)
    ∷ (Short, 5)
    ∷ (Start, 6)
    ∷ (Length, 7)
    ∷ (Tail, 8)
    ∷ (Sum, 9)
    ∷ (Form, 10)
    ∷ (Range, 11)
    ∷ []

-- they are numbered so
pub numbers : map (λ (p : Refusal × ℕ). number_of p.0) numbered ≡ map (λ (p : Refusal × ℕ). p.1) numbered
numbers = refl

-- the refusal that the list has beside a number
abbrev refusal_by : List (Refusal × ℕ) → ℕ → Refusal
refusal_by [] n = Room
refusal_by (p ∷ ps) n = pick (eqb n p.1) p.0 (refusal_by ps n)

-- each refusal stands there, beside its number
pub number_place : (k : Refusal) → refusal_by numbered (number_of k) ≡ k
number_place Room = refl
number_place Busy = refl
number_place Kind = refl
number_place Long = refl
number_place Short = refl
number_place Start = refl
number_place Length = refl
number_place Tail = refl
number_place Sum = refl
number_place Form = refl
number_place Range = refl

-- so no two have the same
pub number_injective : (k l : Refusal) → number_of k ≡ number_of l → k ≡ l
number_injective k l e = sym (number_place k) ∙ ap (refusal_by numbered) e ∙ number_place l
