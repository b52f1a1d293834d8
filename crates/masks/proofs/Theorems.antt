-- What the promises of this crate determine, and what holds of every body that is written, over all inputs (documents 01, sections 3, 8 and 12; 02, P5).
--     is_response_determined, is_marked_determined, write_determined    each promise fixes its answer and every lent byte
--     write_told         section 3's number of each refusal alone; of a body 0 and its length
--     write_room         ROOM before FORM, whatever the body
--     write_taken, write_refused    with room the reader decides; a refusal leaves all
--     refuses_alike      with room every refusal is the reader's FORM
--     written_stands     a body that is written stands in the first bytes, of as many as it has, and the bytes beyond stay
-- Assumes nothing.
use mathlib.Core.Path.{◌≡◌, refl, sym, ap, ◌∙◌}
use mathlib.Core.Bool.{Bool, true, false}
use mathlib.Core.List.{List, [], ◌∷◌}
use mathlib.Core.Logic.{◌↔◌}
use Prim.Native.Nat.{ℕ, ◌≤◌, ◌<◌}
use lib.Dec.{ltb}
use lib.ListN.{length, take, drop}
use lib.Seq.{take-append_seam, drop-append_seam}
use borrow.Author.Tests.{lt-ltb, le-ltb, ltb-false}
use Rattle.std.specs.Prelude.{Result, Ok, Err}
use Rattle.refusals.specs.Pick.{pick}
use Rattle.refusals.specs.declared.Refusal.{Refusal}
use Rattle.refusals.specs.declared.Refusal.TheVariants as refusal
use Rattle.refusals.proofs.Picks.{picked_first, picked_second, through_by, err_not_ok, refused_by}
use Rattle.refusals.proofs.Theorems.{fixed}
use Rattle.frame.specs.Bytes.{over}
use Rattle.masks.specs.Response.{is_response}
use Rattle.masks.specs.Mask.{is_marked}
use Rattle.masks.specs.Written.{written_of, written_told, body_left, Write}

pub is_response_determined : (body : List ℕ) (command : ℕ) {r q : Bool} → r ≡ is_response body command → q ≡ is_response body command → r ≡ q
is_response_determined body command = fixed

pub is_marked_determined : (mask : List ℕ) (f : ℕ) {r q : Bool} → r ≡ is_marked mask f → q ≡ is_marked mask f → r ≡ q
is_marked_determined mask f = fixed

-- the promise of `write_body` and of every writer whose reader it names
pub write_determined : {reads : Bool} {body lent : List ℕ} {r q : Result ℕ Refusal} {l m : List ℕ} → Write reads body lent r l → Write reads body lent q m
    → (r ≡ q) × (l ≡ m)
write_determined a b = (fixed a.answer b.answer, fixed a.left b.left)

-- ---- a body that is written

pub write_told : {reads : Bool} {body lent : List ℕ} {r : Result ℕ Refusal} {lent' : List ℕ} → Write reads body lent r lent'
    → written_told r ≡ pick (ltb (length lent) 254) (1 ∷ []) (pick reads (0 ∷ length body ∷ []) (10 ∷ []))
write_told {reads} {body} {lent} w =
    ap written_told w.answer ∙ through_by written_told (ltb (length lent) 254) refl (through_by written_told reads refl refl)

module _ {reads : Bool} {body lent : List ℕ} {r : Result ℕ Refusal} {lent' : List ℕ} (w : Write reads body lent r lent') where
  met : {a : Result ℕ Refusal} → written_of reads (length body) (length lent) ≡ a → (r ≡ a) × (lent' ≡ body_left a body lent)
  met e = (w.answer ∙ e, w.left ∙ ap (λ (a : Result ℕ Refusal). body_left a body lent) e)

  pub write_room : length lent < 254 → (r ≡ Err refusal.Room) × (lent' ≡ lent)
  write_room h = met (rw (lt-ltb (length lent) 254 h))

  pub write_taken : 254 ≤ length lent → reads ≡ true → (r ≡ Ok (length body)) × (lent' ≡ over body lent)
  write_taken h e = met (rw (le-ltb (length lent) 254 h, e))

  pub write_refused : 254 ≤ length lent → reads ≡ false → (r ≡ Err refusal.Form) × (lent' ≡ lent)
  write_refused h e = met (rw (le-ltb (length lent) 254 h, e))

  pub refuses_alike : 254 ≤ length lent → (k : Refusal) → (r ≡ Err k) ↔ ((reads ≡ false) × (k ≡ refusal.Form))
  refuses_alike h k =
      let same : r ≡ pick reads (Ok (length body)) (Err refusal.Form) = w.answer ∙ rw (le-ltb (length lent) 254 h) in
      (λ e. (refused_by reads (length body) refusal.Form k).0 (sym same ∙ e), λ e. same ∙ (refused_by reads (length body) refusal.Form k).1 e)

-- what a body that was written leaves
pub record Stands (reads : Bool) (body lent : List ℕ) (n : ℕ) (lent' : List ℕ) : Type 0 where
  pub room : 254 ≤ length lent
  pub taken : reads ≡ true
  pub size : n ≡ length body
  pub front : take n lent' ≡ body
  pub beyond : drop n lent' ≡ drop n lent

pub written_stands : {reads : Bool} {body lent : List ℕ} {n : ℕ} {lent' : List ℕ} → Write reads body lent (Ok n) lent' → Stands reads body lent n lent'
written_stands {reads} {body} {lent} {n} {lent'} w =
    let enough = picked_second (ltb (length lent) 254) err_not_ok (sym w.answer) in
    let yes = picked_first reads err_not_ok enough.1 in
    let size : length body ≡ n = cc in
    let left : lent' ≡ over body lent = (write_taken w (ltb-false (length lent) 254 enough.0) yes.0).1 in
    record {
      room = ltb-false (length lent) 254 enough.0;
      taken = yes.0;
      size = sym size;
      front = rw (left, ← size) (take-append_seam body (drop (length body) lent));
      beyond = rw (left, ← size) (drop-append_seam body (drop (length body) lent));
    }
