-- Writing over a buffer's front: `over bs d` is the buffer d with bs over its first bytes.
--     put_byte        a store right behind bs
--     put_bytes       a copy right behind bs
--     paste_more      a store behind the first j bytes of a copy
--     laid_in         what `lay` leaves where all of it fits; laid_length: as many bytes as there were
--     over_length     as long as the buffer was
-- Assumes nothing.
use mathlib.Core.Path.{◌≡◌, refl, ap, ◌∙◌}
use mathlib.Core.List.{List, [], ◌∷◌, ◌++◌}
use mathlib.Core.Bool.{Bool, true, false}
use Prim.Native.Nat.{ℕ, ◌+◌, ◌≤◌, ◌<◌}
use native.Mathlib.Numerals.{add-one}
use native.Mathlib.Omega.{arith}
use lib.Dec.{ltb}
use lib.ListN.{length, get_or, take, set, length-append, length-drop}
use lib.Seq.{paste, paste-suc, length-paste, take-append_seam, drop-append-add, drop-drop, length-take-le, drop-cons, set-append_seam, append_snoc}
use borrow.Author.Tests.{le-ltb, ltb-false}
use Rattle.refusals.specs.Pick.{pick}
use Rattle.frame.specs.Bytes.{over}
use Rattle.frame.specs.Promises.{Lay}

pub over_length : (bs d : List ℕ) → length bs ≤ length d → length (over bs d) ≡ length d
over_length bs d h = simp (length-append, length-drop) (omega arith)

pub put_byte : (bs d : List ℕ) (v : ℕ) → length bs < length d → set (over bs d) (length bs) v ≡ over (bs ++ (v ∷ [])) d
put_byte bs d v h = rw (drop-cons d (length bs) 0 h) (simp (set-append_seam, length-append, add-one, append_snoc))

pub put_bytes : (bs s d : List ℕ) (n : ℕ) → n ≤ length s → paste (over bs d) (length bs) s n ≡ over (bs ++ take n s) d
put_bytes bs s d n h = simp (take-append_seam, drop-append-add, drop-drop, length-append, length-take-le n s h)

pub paste_more : (d : List ℕ) (at : ℕ) (s : List ℕ) (j : ℕ) {d' : List ℕ} → at + j < length d → j < length s → d' ≡ paste d at s j
    → set d' (at + j) (get_or s j 0) ≡ paste d at s (j + 1)
paste_more d at s j hd hs e = rw (add-one, ← paste-suc d at s j 0 hd hs) (simp e)

-- what `lay` leaves where all of it fits
pub laid_in : {src : List ℕ} {n : ℕ} {dst : List ℕ} {at : ℕ} {r : Bool} {dst' : List ℕ} → n ≤ length src → at + n ≤ length dst → Lay src n dst at r dst'
    → dst' ≡ paste dst at src n
laid_in {src} {n} {dst} {at} hs hd laid = laid.left ∙ simp (le-ltb (length src) n hs, le-ltb (length dst) (at + n) hd)

laid_length_by : (src : List ℕ) (n : ℕ) (dst : List ℕ) (at : ℕ) (s t : Bool) → ltb (length src) n ≡ s → ltb (length dst) (at + n) ≡ t
    → length (pick (pick s false (pick t false true)) (paste dst at src n) dst) ≡ length dst
laid_length_by src n dst at true t e f = refl
laid_length_by src n dst at false true e f = refl
laid_length_by src n dst at false false e f = length-paste dst at src n (ltb-false (length dst) (at + n) f) (ltb-false (length src) n e)

-- and it never changes the length
pub laid_length : {src : List ℕ} {n : ℕ} {dst : List ℕ} {at : ℕ} {r : Bool} {dst' : List ℕ} → Lay src n dst at r dst' → length dst' ≡ length dst
laid_length {src} {n} {dst} {at} laid = ap length laid.left ∙ laid_length_by src n dst at (ltb (length src) n) (ltb (length dst) (at + n)) refl refl
