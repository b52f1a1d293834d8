-- What holds of capabilities and of the promises of this crate, over all inputs (documents 01, sections 3, 8 and 12; 02, P5).
--     read_capabilities_determined, supports_determined, write_capabilities_determined    each promise fixes its answer and every lent byte
--     supported_exactly, supported_counts, ones_are_supported, answer_holds_ones          what is supported, and how many are
--     capabilities_told_lem, support_told_lem, write_capabilities_told    section 3's numbers
--     number_back            a number of two bytes taken apart and put together again
--     mask_taken             which masks are written; mask_of_33, mask_of_256, mask_of_32, no_mask: the edges
--     capabilities_alike     with room the writer refuses what the reader refuses, and by the same refusal
--     capabilities_back      what was written reads back as the same values
-- Assumes nothing.
use mathlib.Core.Path.{◌≡◌, refl, sym, ap, ap₂, ◌∙◌}
use mathlib.Core.Bool.{Bool, true, false}
use mathlib.Core.List.{List, [], ◌∷◌, Memᴰ}
use mathlib.Core.Logic.{◌↔◌}
use Prim.Native.Nat.{ℕ, ◌+◌, ◌≤◌, ◌<◌}
use native.Mathlib.Omega.{arith}
use lib.Dec.{ltb}
use lib.ListN.{length, take, drop, length-drop}
use borrow.Author.Tests.{le-ltb, ltb-false}
use Rattle.std.specs.Prelude.{Result, Ok, Err}
use Rattle.refusals.specs.Pick.{pick}
use Rattle.refusals.specs.declared.Refusal.{Refusal}
use Rattle.refusals.specs.declared.Refusal.TheVariants as refusal
use Rattle.refusals.proofs.Picks.{picked_first, through, err_not_ok, refused_by}
use Rattle.refusals.proofs.Theorems.{fixed}
use Rattle.frame.specs.Bytes.{over}
use Rattle.masks.specs.Written.{written_told}
use Rattle.masks.specs.Mask.{bit_of, is_marked, marked, ones_in, Rising, Bytes}
use Rattle.capabilities.specs.Capabilities.{word, identity_of, function_mask, is_capabilities, supported, capabilities_of, capabilities_told, read_capabilities, support_told, supports}
use Rattle.capabilities.specs.Writer.{high_byte, low_byte, capabilities_body, WriteCapabilities}
use Rattle.capabilities.specs.declared.Identity.{Identity}
use Rattle.capabilities.specs.declared.Capabilities.{Capabilities}
use Rattle.masks.proofs.Layouts.{bytes_from, unmet}
use Rattle.masks.proofs.Theorems.{write_determined, write_told, write_taken, write_refused, refuses_alike, written_stands}
use Rattle.capabilities.proofs.Layouts.{of_capabilities, capabilities_yes, answer_by}
use Rattle.capabilities.proofs.Writing.{body_length, long_refused}
use Rattle.masks.proofs.Marked.{marks_one, marks_most, member_to, member_from, marked_rising}
use Rattle.masks.proofs.Masks.{ones_supported}

-- ---- Section 12: each promise determines its answer and every lent byte after the call, refusals too

pub read_capabilities_determined : (body : List ℕ) {r q : Result Capabilities Refusal} → r ≡ read_capabilities body → q ≡ read_capabilities body → r ≡ q
read_capabilities_determined body = fixed

pub supports_determined : (body : List ℕ) (f : ℕ) {r q : Result Bool Refusal} → r ≡ supports body f → q ≡ supports body f → r ≡ q
supports_determined body f = fixed

pub write_capabilities_determined : {body lent : List ℕ} {r q : Result ℕ Refusal} {l m : List ℕ} → WriteCapabilities body lent r l → WriteCapabilities body lent q m
    → (r ≡ q) × (l ≡ m)
write_capabilities_determined = write_determined

-- ---- capabilities

-- a function is supported exactly if it is marked in a body of the layout
support_marks : (body : List ℕ) (f : ℕ) → (supports body f ≡ Ok true) ↔ ((is_capabilities body ≡ true) × (is_marked (function_mask body) f ≡ true))
support_marks body f = (
  λ e. let layout = picked_first (is_capabilities body) err_not_ok e in
      (layout.0, cc),
  λ (h, e). rw (h, e),
)

few : (body : List ℕ) → is_capabilities body ≡ true → length (function_mask body) ≤ 32
few body e = let layout = of_capabilities body e in omega (arith, length-drop 10 body)

-- function f is supported exactly if f is 1 to 255 and its bit is 1
pub supported_exactly : (body : List ℕ) (f : ℕ)
    → (supports body f ≡ Ok true) ↔ ((is_capabilities body ≡ true) × (1 ≤ f) × (f ≤ 255) × (bit_of (function_mask body) f ≡ 1))
supported_exactly body f = (
  λ e.
      let h = (support_marks body f).0 e in
      let one = (marks_one (function_mask body) f).0 h.1 in
      (h.0, one.0, marks_most (function_mask body) f (few body h.0) (of_capabilities body h.0).clear h.1, one.1),
  λ h. (support_marks body f).1 (h.0, (marks_one (function_mask body) f).1 (h.1, h.3)),
)

-- the number of supported functions counts them, rising and each once
pub supported_counts : (body : List ℕ) → is_capabilities body ≡ true
    → (supported body ≡ length (marked (function_mask body) 255))
    × Rising (marked (function_mask body) 255)
    × ((f : ℕ) → Memᴰ f (marked (function_mask body) 255) ↔ (supports body f ≡ Ok true))
supported_counts body e = (
  refl,
  marked_rising (function_mask body) 255,
  λ f. (
    λ m. (support_marks body f).1 (e, (member_to (function_mask body) 255 f m).1),
    λ s. let h = (supported_exactly body f).0 s in member_from (function_mask body) 255 f h.1 h.2 ((support_marks body f).0 s).1,
  ),
)

-- and is the number of one bits, byte by byte
pub ones_are_supported : (body : List ℕ) → Bytes body → is_capabilities body ≡ true → ones_in (function_mask body) ≡ supported body
ones_are_supported body bytes e = ones_supported (function_mask body) (bytes_from 10 body bytes) (few body e) (of_capabilities body e).clear

-- so the answer holds the number of one bits
pub answer_holds_ones : (body : List ℕ) → Bytes body → is_capabilities body ≡ true
    → read_capabilities body
    ≡ Ok (record { identity = identity_of body; supported = ones_in (function_mask body) })
answer_holds_ones body bytes e = rw (ones_are_supported body bytes e) (capabilities_yes body e)

-- ---- Section 3: the number of each refusal alone, and 0 with the values of each answer

pub capabilities_told_lem : (body : List ℕ)
    → capabilities_told (read_capabilities body) ≡ pick (is_capabilities body) (capabilities_told (Ok (capabilities_of body))) (10 ∷ [])
capabilities_told_lem body = through capabilities_told (is_capabilities body) (Ok (capabilities_of body)) (Err refusal.Form)

pub support_told_lem : (body : List ℕ) (f : ℕ)
    → support_told (supports body f) ≡ pick (is_capabilities body) (pick (is_marked (function_mask body) f) (0 ∷ 1 ∷ []) (0 ∷ 0 ∷ [])) (10 ∷ [])
support_told_lem body f =
    through support_told (is_capabilities body) (Ok (is_marked (function_mask body) f)) (Err refusal.Form)
    ∙ ap (λ (x : List ℕ). pick (is_capabilities body) x (10 ∷ [])) (by (is_marked (function_mask body) f))
  where
    by : (t : Bool) → support_told (Ok t) ≡ pick t (0 ∷ 1 ∷ []) (0 ∷ 0 ∷ [])
    by true = refl
    by false = refl

pub write_capabilities_told : {body lent : List ℕ} {r : Result ℕ Refusal} {lent' : List ℕ} → WriteCapabilities body lent r lent'
    → written_told r ≡ pick (ltb (length lent) 254) (1 ∷ []) (pick (is_capabilities body) (0 ∷ length body ∷ []) (10 ∷ []))
write_capabilities_told = write_told

-- ---- Document 02, P5: what is written

-- each byte of a number below 65,536 is a byte, and together they are the number again
pub number_back : (number : ℕ) → number < 65536 → (high_byte number < 256) × (low_byte number < 256) × (word (high_byte number) (low_byte number) ≡ number)
number_back number h = (omega arith, omega arith, omega arith)

word_back : (number : ℕ) → word (high_byte number) (low_byte number) ≡ number
word_back number = omega arith

module _ (identity : Identity) (mask : List ℕ) where
  abbrev whole : List ℕ
  whole = capabilities_body identity mask

  -- the body's own tests, but for those of the mask, are met
  taken_by_lem : is_capabilities whole ≡ pick (ltb 42 (length whole)) false (pick (is_marked mask 256) false true)
  unfolding capabilities_body
  taken_by_lem =
      let size = body_length identity mask in
      ap₂
      (λ (t u : Bool). pick (pick t false true) (pick u false (pick (ltb 42 (length whole)) false (pick (is_marked mask 256) false true))) false)
      (le-ltb (length whole) 2 (omega arith))
      (le-ltb (length whole) 10 (omega arith))

  -- 0 to 32 mask bytes, and the bit for 256 is 0
  pub mask_taken : (is_capabilities whole ≡ true) ↔ ((length mask ≤ 32) × (is_marked mask 256 ≡ false))
  mask_taken =
      let size = body_length identity mask in (
        λ e.
            let few = unmet (ltb 42 (length whole)) (sym taken_by_lem ∙ e) in
            let h : length whole ≤ 42 = ltb-false 42 (length whole) few.0 in
            (omega arith, (unmet (is_marked mask 256) few.1).0),
        λ (h, e). taken_by_lem ∙ rw (le-ltb 42 (length whole) (omega arith), e),
      )

  mask_long : 32 < length mask → is_capabilities whole ≡ false
  mask_long h = long_refused whole (omega (arith, body_length identity mask))

  mask_marked : is_marked mask 256 ≡ true → is_capabilities whole ≡ false
  mask_marked e = taken_by_lem ∙ rw e (neither_by (ltb 42 (length whole)))
    where
      neither_by : (t : Bool) → pick t false false ≡ false
      neither_by true = refl
      neither_by false = refl

  module _ {lent : List ℕ} {r : Result ℕ Refusal} {lent' : List ℕ} (w : WriteCapabilities whole lent r lent') (room : 254 ≤ length lent) where
    -- more than 32 mask bytes are FORM, and so is function 256
    pub mask_of_33 : 32 < length mask → (r ≡ Err refusal.Form) × (lent' ≡ lent)
    mask_of_33 h = write_refused w room (mask_long h)

    pub mask_of_256 : is_marked mask 256 ≡ true → (r ≡ Err refusal.Form) × (lent' ≡ lent)
    mask_of_256 e = write_refused w room (mask_marked e)

    -- up to 32 with the bit for 256 zero are written, and none too
    pub mask_of_32 : length mask ≤ 32 → is_marked mask 256 ≡ false → (r ≡ Ok (10 + length mask)) × (lent' ≡ over whole lent)
    mask_of_32 h e =
        let stands = write_taken w room (mask_taken.1 (h, e)) in
        (stands.0 ∙ ap (λ (n : ℕ). Ok n) (body_length identity mask), stands.1)

    pub no_mask : mask ≡ [] → r ≡ Ok 10
    no_mask e =
        (mask_of_32 (omega (arith, ap length e)) (ap (λ (m : List ℕ). is_marked m 256) e)).0
        ∙ ap (λ (m : List ℕ). Ok (10 + length m)) e

-- the reader refuses by FORM alone
reads_refused : (body : List ℕ) (k : Refusal) → (read_capabilities body ≡ Err k) ↔ ((is_capabilities body ≡ false) × (k ≡ refusal.Form))
reads_refused body k = refused_by (is_capabilities body) (capabilities_of body) refusal.Form k

-- with room the writer refuses what its reader refuses, and by the same refusal
pub capabilities_alike : {body lent : List ℕ} {r : Result ℕ Refusal} {lent' : List ℕ} → WriteCapabilities body lent r lent' → 254 ≤ length lent
    → (k : Refusal) → (r ≡ Err k) ↔ (read_capabilities body ≡ Err k)
capabilities_alike {body} w room k = (
  λ e. (reads_refused body k).1 ((refuses_alike w room k).0 e),
  λ e. (refuses_alike w room k).1 ((reads_refused body k).0 e),
)

-- what was written for these values, read back
pub record CapabilitiesBack (identity : Identity) (mask lent : List ℕ) (n : ℕ) (lent' : List ℕ) : Type 0 where
  pub size : n ≡ 10 + length mask
  pub most : n ≤ 42
  pub answer : read_capabilities (take n lent') ≡ Ok (record { identity = identity; supported = length (marked mask 255) })
  pub functions : (f : ℕ) → supports (take n lent') f ≡ Ok (is_marked mask f)
  pub beyond : drop n lent' ≡ drop n lent

-- the answer to a body that is taken: its values, each number of two bytes put together again
whole_answer : (identity : Identity) (mask : List ℕ)
    → capabilities_of (capabilities_body identity mask) ≡ record { identity = identity; supported = length (marked mask 255) }
unfolding capabilities_body
whole_answer identity mask = answer_by (word_back identity.manufacturer) (word_back identity.product_type) (word_back identity.product_id) refl

whole_mask : (identity : Identity) (mask : List ℕ)
    → function_mask (capabilities_body identity mask) ≡ mask
unfolding capabilities_body
whole_mask identity mask = refl

pub capabilities_back : (identity : Identity) (mask lent : List ℕ) (n : ℕ) (lent' : List ℕ)
    → WriteCapabilities (capabilities_body identity mask) lent (Ok n) lent'
    → CapabilitiesBack identity mask lent n lent'
capabilities_back identity mask lent n lent' w =
    let body = capabilities_body identity mask in
    let stands = written_stands w in
    let few = ((mask_taken identity mask).0 stands.taken).0 in
    let size = body_length identity mask in
    record {
      size = stands.size ∙ size;
      most = omega (arith, stands.size, size, few);
      answer = ap read_capabilities stands.front ∙ capabilities_yes body stands.taken ∙ ap Ok (whole_answer identity mask);
      functions = λ f.
          ap (λ (b : List ℕ). supports b f) stands.front
          ∙ ap (λ (t : Bool). pick t (Ok (is_marked (function_mask body) f)) (Err refusal.Form)) stands.taken
          ∙ ap (λ (m : List ℕ). Ok (is_marked m f)) (whole_mask identity mask);
      beyond = stands.beyond;
    }
