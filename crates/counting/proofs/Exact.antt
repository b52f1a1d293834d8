-- Over any input below 2^64 bytes the counts are exact: no count meets the largest number.
-- Assumes nothing.
use mathlib.Core.Path.{◌≡◌, refl, ◌∙◌, ap}
use mathlib.Core.Bool.{Bool, true, false}
use mathlib.Core.List.{List, [], ◌∷◌}
use Prim.Native.Nat.{ℕ, suc, ◌≤◌, ◌<◌, ◌+◌}
use native.Mathlib.Omega.{arith}
use lib.Dec.{eqb}
use lib.ListN.{length}
use borrow.Author.Tests.{lt-ltb}
use Rattle.refusals.specs.Pick.{pick}
use Rattle.hearing.specs.Hearing.{hear_byte}
use Rattle.hearing.specs.declared.hearing.Hearing.{Hearing}
use Rattle.hearing.specs.declared.hearing.Hearing.TheVariants.{Hunting}
use Rattle.hearing.specs.declared.hearing.Event.{Event}
use Rattle.tally.specs.declared.Counts.{Counts}
use Rattle.tally.specs.declared.Tally.{Tally}
use Rattle.tally.specs.Tally.{column, one_more, hit, count_byte, fresh}
use Rattle.counting.specs.Counting.{count}
use Rattle.counting.specs.Exact.{events, number, numbers}

-- one column over events, from n on
unfoldable up : ℕ → ℕ → List Event → ℕ
up c n [] = n
up c n (e ∷ es) = up c (hit (column e) c n) es

one : (t : Bool) (n : ℕ) → n < 18446744073709551615 → pick t (one_more n) n ≡ n + pick t 1 0
one true n h = simp (lt-ltb n 18446744073709551615 h)
one false n h = omega arith

at_most : (t : Bool) → pick t 1 0 ≤ 1
at_most true = omega arith
at_most false = omega arith

up_number : (c n : ℕ) (es : List Event) → n + length es ≤ 18446744073709551615 → up c n es ≡ n + number c es
unfolding up number
up_number c n [] h = omega arith
up_number c n (e ∷ es) h =
    let t = eqb (column e) c in
    let s : hit (column e) c n ≡ n + pick t 1 0 = one t n (omega arith) in
    let r : up c (hit (column e) c n) es ≡ hit (column e) c n + number c es = up_number c (hit (column e) c n) es (omega (arith, at_most t, s)) in
    omega (arith, r, s)

ups : Counts → List Event → Counts
ups k es =
    record {
      ack = up 0 k.ack es;
      nak = up 1 k.nak es;
      can = up 2 k.can es;
      frames = up 3 k.frames es;
      badsum = up 4 k.badsum es;
      badlen = up 5 k.badlen es;
      reserved = up 6 k.reserved es;
      skipped = up 7 k.skipped es;
    }

counted_ups : (t : Tally) (bytes : List ℕ) → (count t bytes).counts ≡ ups t.counts (events t.hearing bytes)
unfolding count events up ups
counted_ups t [] = refl
counted_ups t (b ∷ bs) = counted_ups (count_byte b t) bs

pub events_length : (h : Hearing) (bytes : List ℕ) → length (events h bytes) ≡ length bytes
unfolding events
events_length h [] = refl
events_length h (b ∷ bs) = ap suc (events_length (hear_byte b h).hearing bs)

module _ (bytes : List ℕ) (h : length bytes ≤ 18446744073709551615) where
  column_exact : (c : ℕ) → up c 0 (events Hunting bytes) ≡ number c (events Hunting bytes)
  column_exact c =
      let r : up c 0 (events Hunting bytes) ≡ 0 + number c (events Hunting bytes) =
      up_number c 0 (events Hunting bytes) (omega (arith, events_length Hunting bytes)) in
      omega (arith, r)

  pub counted_exact : (count fresh bytes).counts ≡ numbers (events Hunting bytes)
  unfolding ups
  counted_exact = counted_ups fresh bytes ∙ simp (column_exact)
