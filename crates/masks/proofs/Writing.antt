-- Laws of writing a body.
--     unread          what is refused is refused alike whatever the body is
--     asked           from the body that was made to the body that was meant
--     asked_whole     the same of a body of any length, where the reader takes no longer one
--     cut_alike       from a body with its mask cut to the whole body
--     laid_front, laid_behind, front_part    a body laid part by part, and taken again
-- Assumes nothing.
use mathlib.Core.Path.{◌≡◌, refl, sym, ap, ap₂, ◌∙◌}
use mathlib.Core.Bool.{Bool, true, false}
use mathlib.Core.List.{List, [], ◌++◌}
use Prim.Native.Nat.{ℕ, ◌+◌, ◌≤◌, ◌<◌, min}
use native.Mathlib.Nat.{min-eq_left}
use native.Mathlib.Omega.{arith}
use lib.Dec.{leb, ltb}
use lib.ListN.{length, take, drop}
use lib.Seq.{paste, take_all, take-append_seam}
use borrow.Author.Tests.{le-ltb, leb-true, leb-false, ltb-true}
use Rattle.std.specs.Prelude.{Result, Err}
use Rattle.refusals.specs.Pick.{pick}
use Rattle.refusals.specs.declared.Refusal.{Refusal}
use Rattle.refusals.specs.declared.Refusal.TheVariants as refusal
use Rattle.frame.specs.Bytes.{over}
use Rattle.frame.specs.Promises.{Lay}
use Rattle.frame.proofs.Over.{over_length, put_bytes, laid_in}
use Rattle.masks.specs.Written.{written_of, body_left, Write}
use Rattle.masks.specs.Promises.{carried}

replaced : {reads other : Bool} {body body' lent : List ℕ} {r : Result ℕ Refusal} {lent' : List ℕ} → reads ≡ other → body ≡ body'
    → Write reads body lent r lent' → Write other body' lent r lent'
replaced {lent = lent} p q w = record {
  answer = w.answer ∙ ap₂ (λ (t : Bool) (b : List ℕ). written_of t (length b) (length lent)) p q;
  left = w.left ∙ ap₂ (λ (t : Bool) (b : List ℕ). body_left (written_of t (length b) (length lent)) b lent) p q;
}

unread_left : (t : Bool) (body other lent : List ℕ)
    → body_left (pick t (Err refusal.Room) (Err refusal.Form)) body lent ≡ body_left (pick t (Err refusal.Room) (Err refusal.Form)) other lent
unread_left true body other lent = refl
unread_left false body other lent = refl

pub unread : {reads other : Bool} (body long lent : List ℕ) {r : Result ℕ Refusal} {lent' : List ℕ} → reads ≡ false → other ≡ false
    → Write reads body lent r lent' → Write other long lent r lent'
unread body long lent p q w = record {
  answer = w.answer ∙ ap (λ (t : Bool). written_of t (length body) (length lent)) p ∙ ap (λ (t : Bool). written_of t (length long) (length lent)) (sym q);
  left = w.left
      ∙ ap (λ (t : Bool). body_left (written_of t (length body) (length lent)) body lent) p
      ∙ unread_left (ltb (length lent) 254) body long lent
      ∙ ap (λ (t : Bool). body_left (written_of t (length long) (length lent)) long lent) (sym q);
}

-- ---- what the reader was asked of, and what it was made for

-- the reader was asked of the body that was made, which has at most 254 bytes
pub asked : (takes : List ℕ → Bool) (made body lent : List ℕ) {reads : Bool} {r : Result ℕ Refusal} {lent' : List ℕ} → reads ≡ takes made → made ≡ body
    → length body ≤ 254 → Write (carried reads made) made lent r lent' → Write (takes body) body lent r lent'
asked takes made body lent e f h w = replaced (ap₂ carried (e ∙ ap takes f) f ∙ short) f w
  where
    short : carried (takes body) body ≡ takes body
    short = rw (le-ltb 254 (length body) h)

-- and whatever it has, where the reader takes no longer one
pub asked_whole : (takes : List ℕ → Bool) (made body lent : List ℕ) {r : Result ℕ Refusal} {lent' : List ℕ} → made ≡ body
    → (254 < length body → takes body ≡ false) → Write (carried (takes made) made) made lent r lent' → Write (takes body) body lent r lent'
asked_whole takes made body lent f long w = replaced (ap (λ (b : List ℕ). carried (takes b) b) f ∙ by (ltb 254 (length body)) refl) f w
  where
    by : (t : Bool) → ltb 254 (length body) ≡ t → pick t false (takes body) ≡ takes body
    by true e = sym (long (ltb-true 254 (length body) e))
    by false e = refl

-- a mask cut to the bytes that there are: its body is the same, or the reader takes neither
pub cut_alike : (takes : List ℕ → Bool) (body_of : List ℕ → List ℕ) (mask : List ℕ) (n most : ℕ) (lent : List ℕ) {r : Result ℕ Refusal} {lent' : List ℕ}
    → n ≡ min (length mask) most
    → (most < length mask → (takes (body_of (take n mask)) ≡ false) × (takes (body_of mask) ≡ false))
    → Write (takes (body_of (take n mask))) (body_of (take n mask)) lent r lent' → Write (takes (body_of mask)) (body_of mask) lent r lent'
cut_alike takes body_of mask n most lent {r} {lent'} e neither w = by (leb (length mask) most) refl
  where
    by : (t : Bool) → leb (length mask) most ≡ t → Write (takes (body_of mask)) (body_of mask) lent r lent'
    by true p =
        let whole : take n mask ≡ mask = take_all n mask (omega (arith, min-eq_left (leb-true (length mask) most p))) in
        replaced (ap (λ (m : List ℕ). takes (body_of m)) whole) (ap body_of whole) w
    by false p =
        let no = neither (leb-false (length mask) most p) in
        unread (body_of (take n mask)) (body_of mask) lent no.0 no.1 w

-- ---- a body laid part by part

pub laid_behind : (bs s d : List ℕ) (at n : ℕ) {d₁ : List ℕ} {r : Bool} {d' : List ℕ} → at ≡ length bs → n ≤ length s → at + n ≤ length d
    → d₁ ≡ over bs d → Lay s n d₁ at r d' → d' ≡ over (bs ++ take n s) d
laid_behind bs s d at n {d₁} e h k f laid =
    let room : at + n ≤ length d₁ = omega (arith, ap length f, over_length bs d (omega arith)) in
    laid_in h room laid
    ∙ ap₂ (λ (l : List ℕ) (i : ℕ). paste l i s n) f e
    ∙ put_bytes bs s d n h

pub laid_front : (s d : List ℕ) (n : ℕ) {r : Bool} {d' : List ℕ} → n ≡ length s → n ≤ length d → Lay s n d 0 r d' → d' ≡ over s d
laid_front s d n e h laid =
    laid_behind [] s d 0 n refl (omega arith) (omega arith) refl laid
    ∙ ap (λ (l : List ℕ). over l d) (take_all n s (omega arith))

-- what was laid, taken again
pub front_part : (bs d : List ℕ) (n : ℕ) {d' : List ℕ} → n ≡ length bs → d' ≡ over bs d → take n d' ≡ bs
front_part bs d n e f = ap₂ take e f ∙ take-append_seam bs (drop (length bs) d)
