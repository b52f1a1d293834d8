-- What `lay` says and copies is what is kept, whole or not at all.
-- Assumes nothing.
use mathlib.Core.Path.{◌≡◌, refl, sym, ap, ◌∙◌}
use mathlib.Core.Bool.{Bool, true, false}
use mathlib.Core.List.{List}
use Prim.Native.Nat.{ℕ, ◌+◌, ◌≤◌}
use native.Mathlib.Omega.{arith}
use lib.Dec.{ltb}
use lib.ListN.{length}
use lib.Seq.{paste}
use borrow.Author.Tests.{ltb-false}
use Rattle.refusals.specs.Pick.{pick}
use Rattle.frame.specs.Promises.{fits}
use Rattle.orders.specs.declared.ends.Pending.{Pending}
use Rattle.orders.specs.Ends.{KeepWhole}

-- what fits is there, and ends within
pub fits_within : (src : List ℕ) (n : ℕ) (dst : List ℕ) (at : ℕ) → fits src n dst at ≡ true → (n ≤ length src) × (at + n ≤ length dst)
fits_within src n dst at = by (ltb (length src) n) (ltb (length dst) (at + n)) refl refl
  where
    by : (t u : Bool) → ltb (length src) n ≡ t → ltb (length dst) (at + n) ≡ u → pick t false (pick u false true) ≡ true
        → (n ≤ length src) × (at + n ≤ length dst)
    by true u e f h = let z : ◌≡◌ {A = ℕ} 0 1 = cc in absurd (omega arith)
    by false true e f h = let z : ◌≡◌ {A = ℕ} 0 1 = cc in absurd (omega arith)
    by false false e f h = (ltb-false (length src) n e, ltb-false (length dst) (at + n) f)

abbrev with : Pending → ℕ → Bool → Pending
with p n t = record { count = pick t (p.count + n) p.count; is_lost = pick t p.is_lost true }

-- whether all fits, and what is kept then
pub keep_met : (p : Pending) (bytes : List ℕ) (n : ℕ) (kept : List ℕ) {r : Pending} {kept' : List ℕ} (t : Bool) → fits bytes n kept p.count ≡ t
    → r ≡ record { count = pick t (p.count + n) p.count; is_lost = pick t p.is_lost true }
    → kept' ≡ pick (fits bytes n kept p.count) (paste kept p.count bytes n) kept → KeepWhole p bytes n kept r kept'
keep_met p bytes n kept t e a l = record { answer = a ∙ ap (with p n) (sym e); left = l }
