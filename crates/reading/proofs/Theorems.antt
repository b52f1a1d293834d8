-- What holds of reading a frame, over all inputs: what was built reads back, and what reads is what building gives.
-- Assumes nothing.
use mathlib.Core.Path.{◌≡◌, refl, sym, ap, ◌∙◌}
use mathlib.Core.List.{List, [], ◌∷◌}
use Prim.Native.Nat.{ℕ, ◌+◌, ◌-◌, ◌≤◌, ◌<◌}
use native.Mathlib.Omega.{arith}
use lib.Dec.{ltb, eqb}
use lib.ListN.{length, get_or, take, drop}
use lib.Seq.{take-append_seam, take_at, drop_at}
use Rattle.std.specs.Prelude.{Result, Ok}
use Rattle.refusals.specs.Pick.{pick}
use Rattle.refusals.specs.declared.Refusal.{Refusal}
use Rattle.frame.specs.Bytes.{over}
use Rattle.frame.specs.Frame.{counted, checksum, frame_of}
use Rattle.frame.specs.Builder.{built_of, left_by, Build}
use Rattle.refusals.proofs.Picks.{through_by}
use Rattle.refusals.proofs.Theorems.{fixed}
use Rattle.frame.proofs.Theorems.{frame_length, frame_checksum, build_accepts, build_accepted}
use Rattle.reading.specs.declared.reader.Parts.{Parts}
use Rattle.reading.specs.Reader.{frame_parts, reading_told, read, parameters_of}
use Rattle.reading.proofs.Whole.{Whole, reads_whole, whole_reads, whole_length, whole_frame}

-- Section 12: the promise determines its answer.
pub read_determined : (bytes : List ℕ) {r q : Result Parts Refusal} → r ≡ read bytes → q ≡ read bytes → r ≡ q
read_determined bytes = fixed

-- a frame said place by place
frame_whole : (kind command : ℕ) (ps : List ℕ) → kind ≤ 1 → Whole (frame_of kind command ps) kind command (length ps)
unfolding frame_of
frame_whole kind command ps h = record {
  first = refl;
  counts = refl;
  type = refl;
  known = h;
  third = refl;
  size = frame_length kind command ps;
  sum = frame_checksum kind command ps;
}

-- the parameters of a frame stand from the fifth byte on
pub frame_parameters : (kind command : ℕ) (ps : List ℕ) → parameters_of (frame_of kind command ps) (length ps) ≡ ps
unfolding frame_of
frame_parameters kind command ps = take-append_seam ps (checksum (counted kind command ps) ∷ [])

-- what build accepts reads back as the same parts
pub built_reads : (kind command : ℕ) (ps : List ℕ) → kind ≤ 1
    → (read (frame_of kind command ps) ≡ Ok (frame_parts kind command (length ps))) × (parameters_of (frame_of kind command ps) (length ps) ≡ ps)
built_reads kind command ps h = (
  whole_reads (frame_of kind command ps) kind command (length ps) (frame_whole kind command ps h),
  frame_parameters kind command ps,
)

-- the bytes that a build leaves: those of the answer read back as the same parts, and bytes beyond the frame stay
pub build_reads : (kind command : ℕ) (ps lent : List ℕ) (m : ℕ) (lent' : List ℕ) → Build kind command ps lent (Ok m) lent'
    → (read (take m lent') ≡ Ok (frame_parts kind command (length ps))) × (parameters_of (take m lent') (length ps) ≡ ps) × (drop m lent' ≡ drop m lent)
build_reads kind command ps lent m lent' b =
    let f = frame_of kind command ps in
    let a = build_accepts kind (length ps) (length lent) m (sym b.answer) in
    let l : length f ≡ m = frame_length kind command ps ∙ sym a.3 in
    let e : lent' ≡ over f lent = b.left ∙ ap (λ (r : Result ℕ Refusal). left_by r f lent) (sym b.answer) in
    let t : take m lent' ≡ f = ap (take m) e ∙ take_at f (drop (length f) lent) m l in
    let r = built_reads kind command ps a.0 in
    let d : drop m lent' ≡ drop m lent = ap (drop m) e ∙ drop_at f (drop (length f) lent) m l ∙ ap (λ (i : ℕ). drop i lent) l in
    (ap read t ∙ r.0, ap (λ (s : List ℕ). parameters_of s (length ps)) t ∙ r.1, d)

-- Section 3, read: what reads is the frame of its parts, with Type at most 01, so many parameters as the answer says, and at most 252 where Length is a byte
pub read_built : (bytes : List ℕ) (kind command n : ℕ) → read bytes ≡ Ok (frame_parts kind command n)
    → (bytes ≡ frame_of kind command (parameters_of bytes n)) × (length (parameters_of bytes n) ≡ n) × (kind ≤ 1) × (get_or bytes 1 0 < 256 → n ≤ 252)
read_built bytes kind command n e =
    let w = reads_whole bytes kind command n e in
    (whole_frame bytes kind command n w, whole_length bytes kind command n w, w.known, λ h. omega (arith, w.counts))

-- so building from what was read gives the same bytes again, over the first of any lent bytes that are as many or more
pub read_rebuilds : (bytes : List ℕ) (kind command n : ℕ) → read bytes ≡ Ok (frame_parts kind command n) → get_or bytes 1 0 < 256
    → (lent : List ℕ) → length bytes ≤ length lent
    → Build kind command (parameters_of bytes n) lent (Ok (length bytes)) (over bytes lent)
read_rebuilds bytes kind command n e h lent room =
    let ps = parameters_of bytes n in
    let f = frame_of kind command ps in
    let b = read_built bytes kind command n e in
    let small : n ≤ 252 = b.3 h in
    let l : length bytes ≡ length ps + 5 = ap length b.0 ∙ frame_length kind command ps in
    let a : built_of kind (length ps) (length lent) ≡ Ok (length bytes) =
    build_accepted kind (length ps) (length lent) b.2 (omega (arith, b.1)) (omega arith) ∙ ap Ok (sym l) in
    record {
      answer = sym a;
      left = ap (λ (s : List ℕ). over s lent) b.0 ∙ ap (λ (r : Result ℕ Refusal). left_by r f lent) (sym a);
    }

-- Section 3, read: each refusal by its number alone, in the order of the checks; of a frame 0, Type, Command and the number of parameters
module _ (bytes : List ℕ) where
  abbrev len : ℕ
  len = get_or bytes 1 0

  pub read_told : {r : Result Parts Refusal} → r ≡ read bytes
      → reading_told r
      ≡ pick (eqb (length bytes) 0) (5 ∷ [])
      (pick (eqb (get_or bytes 0 0) 1)
      (pick (eqb (length bytes) 1) (5 ∷ [])
      (pick (ltb len 3) (7 ∷ [])
      (pick (ltb (length bytes) (len + 2)) (5 ∷ [])
      (pick (ltb (len + 2) (length bytes)) (8 ∷ [])
      (pick (eqb (checksum (take len (drop 1 bytes))) (get_or bytes (len + 1) 0))
      (pick (ltb 1 (get_or bytes 2 0)) (3 ∷ [])
      (0 ∷ get_or bytes 2 0 ∷ get_or bytes 3 0 ∷ (len - 3) ∷ []))
      (9 ∷ []))))))
      (6 ∷ []))
  read_told e =
      ap reading_told e
      ∙ through_by reading_told (eqb (length bytes) 0) refl
      (through_by reading_told (eqb (get_or bytes 0 0) 1)
      (through_by reading_told (eqb (length bytes) 1) refl
      (through_by reading_told (ltb len 3) refl
      (through_by reading_told (ltb (length bytes) (len + 2)) refl
      (through_by reading_told (ltb (len + 2) (length bytes)) refl
      (through_by reading_told (eqb (checksum (take len (drop 1 bytes))) (get_or bytes (len + 1) 0))
      (through_by reading_told (ltb 1 (get_or bytes 2 0)) refl refl)
      refl)))))
      refl)
