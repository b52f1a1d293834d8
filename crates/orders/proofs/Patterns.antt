-- The pattern of lent buffers: how far a buffer is filled with it, and what follows where no byte of a part differs from it.
-- Assumes nothing.
use mathlib.Core.Path.{◌≡◌, refl, sym, ap, ◌∙◌}
use mathlib.Core.Bool.{Bool, true, false, not, ◌||◌}
use mathlib.Core.List.{List, [], ◌∷◌, ◌++◌, append-nil}
use Prim.Native.Nat.{ℕ, zero, suc, ◌+◌, ◌≤◌, ◌<◌}
use native.Mathlib.Numerals.{add-one}
use native.Mathlib.Nat.{add-zero}
use native.Mathlib.Omega.{arith}
use lib.Dec.{eqb}
use lib.ListN.{length, take, drop, get_or, set, length-append, length-drop, drop_of_length-le}
use lib.Seq.{drop-cons, set_at, append_snoc, length-take-le}
use borrow.Author.Tests.{eqb-true}
use Rattle.orders.specs.Lent.{mark, pattern, differs}

pub pattern_length : (n : ℕ) → length (pattern n) ≡ n
unfolding pattern
pattern_length zero = refl
pattern_length (suc n) = length-append (pattern n) (mark n ∷ []) ∙ omega (arith, pattern_length n)

-- a buffer whose first i bytes are the pattern's, with one byte more
pub fill_more : (i : ℕ) (d : List ℕ) → i < length d → set (pattern i ++ drop i d) i (mark i) ≡ pattern (i + 1) ++ drop (i + 1) d
unfolding pattern
fill_more i d h =
    rw (add-one i, drop-cons d i 0 h)
    (set_at (pattern i) (get_or d i 0) (drop (suc i) d) (mark i) i (pattern_length i)
    ∙ sym (append_snoc (pattern i) (mark i) (drop (suc i) d)))

-- and with all of them
pub fill_end : (i : ℕ) (d : List ℕ) → i ≡ length d → pattern i ++ drop i d ≡ pattern (length d)
fill_end i d e = rw (drop_of_length-le d {i = i} (omega arith), e) (append-nil (pattern (length d)))

-- ---- bytes that differ from the pattern

pub differs_end : (i : ℕ) (l : List ℕ) → length l ≤ i → differs i (drop i l) ≡ false
unfolding differs
differs_end i l h = rw (drop_of_length-le l h) refl

-- the byte at a place, and those behind it
pub differs_step : (i : ℕ) (l : List ℕ) → i < length l
    → differs i (drop i l) ≡ (not (eqb (get_or l i 0) (mark i)) || differs (i + 1) (drop (i + 1) l))
unfolding differs
differs_step i l h = rw (add-one i, drop-cons l i 0 h) refl

go_step : (n b : ℕ) (l : List ℕ) (t : Bool) → eqb b (mark n) ≡ t → (not t || differs (suc n) l) ≡ false
    → (differs (suc n) l ≡ false → pattern (suc n) ++ l ≡ pattern (suc n + length l)) → pattern n ++ (b ∷ l) ≡ pattern (n + suc (length l))
unfolding pattern
go_step n b l true q e on =
    let size : suc n + length l ≡ n + suc (length l) = omega arith in
    rw (eqb-true b (mark n) q) (sym (append_snoc (pattern n) (mark n) l) ∙ on e ∙ ap pattern size)
go_step n b l false q e on = let z : ◌≡◌ {A = ℕ} 0 1 = cc in absurd (omega arith)

-- where none does, what follows n bytes of the pattern goes on with it
pub goes_on_lem : (n : ℕ) (l : List ℕ) → differs n l ≡ false → pattern n ++ l ≡ pattern (n + length l)
unfolding differs
goes_on_lem n [] e = append-nil (pattern n) ∙ ap pattern (sym (add-zero n))
goes_on_lem n (b ∷ l) e = go_step n b l (eqb b (mark n)) refl e (goes_on_lem (suc n) l)

-- a buffer with its first m bytes filled, where no other differs
pub restored : (m : ℕ) (d front : List ℕ) → m ≤ length d → differs m (drop m d) ≡ false → front ≡ pattern (length (take m d))
    → front ++ drop m d ≡ pattern (length d)
restored m d front h e f =
    let size : m + length (drop m d) ≡ length d = omega (arith, length-drop m d) in
    simp (f, length-take-le m d h) (goes_on_lem m (drop m d) e ∙ ap pattern size)
