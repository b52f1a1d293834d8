-- Bytes that read as a frame of these parts, said place by place: both `read` and `frame_of` are led back to it.
-- Assumes nothing.
use mathlib.Core.Path.{◌≡◌, refl, sym, ap, ◌∙◌}
use mathlib.Core.List.{List, [], ◌∷◌, ◌++◌}
use Prim.Native.Nat.{ℕ, suc, ◌+◌, ◌-◌, ◌≤◌, ◌<◌}
use native.Mathlib.Nat.{add-sub_cancel}
use native.Mathlib.Omega.{arith}
use lib.Dec.{ltb, eqb}
use lib.ListN.{length, get_or, take, drop, length-drop}
use lib.Seq.{take_at, take_all, take-suc, length-take-le}
use borrow.Author.Tests.{le-ltb, eq-eqb, ne_eqb, ltb-false, eqb-true}
use Rattle.std.specs.Prelude.{Result, Ok}
use Rattle.refusals.specs.declared.Refusal.{Refusal}
use Rattle.reading.specs.declared.reader.Parts.{Parts}
use Rattle.frame.specs.Frame.{checksum, frame_of}
use Rattle.reading.specs.Reader.{frame_parts, read, parameters_of}
use Rattle.refusals.proofs.Picks.{picked_first, picked_second, err_not_ok}

pub record Whole (bytes : List ℕ) (kind command n : ℕ) : Type 0 where
  pub first : get_or bytes 0 0 ≡ 1
  pub counts : get_or bytes 1 0 ≡ n + 3
  pub type : get_or bytes 2 0 ≡ kind
  pub known : kind ≤ 1
  pub third : get_or bytes 3 0 ≡ command
  pub size : length bytes ≡ n + 5
  pub sum : get_or bytes (n + 4) 0 ≡ checksum (take (n + 3) (drop 1 bytes))

-- what the tests of `read` say, gathered
whole_of_lem : (bytes : List ℕ) (kind command n : ℕ) → get_or bytes 0 0 ≡ 1
    → 3 ≤ get_or bytes 1 0 → get_or bytes 1 0 + 2 ≤ length bytes → length bytes ≤ get_or bytes 1 0 + 2
    → checksum (take (get_or bytes 1 0) (drop 1 bytes)) ≡ get_or bytes (get_or bytes 1 0 + 1) 0 → get_or bytes 2 0 ≤ 1
    → ◌≡◌ {A = Result Parts Refusal} (Ok (frame_parts (get_or bytes 2 0) (get_or bytes 3 0) (get_or bytes 1 0 - 3))) (Ok (frame_parts kind command n)) → Whole bytes kind command n
whole_of_lem bytes kind command n start long whole alone right known e =
    let s : frame_parts (get_or bytes 2 0) (get_or bytes 3 0) (get_or bytes 1 0 - 3) ≡ frame_parts kind command n = cc in
    let k : get_or bytes 2 0 ≡ kind = ap (λ (p : Parts). p.kind) s in
    let m : get_or bytes 3 0 ≡ command = ap (λ (p : Parts). p.command) s in
    let d : get_or bytes 1 0 - 3 ≡ n = ap (λ (p : Parts). p.count) s in
    let c : get_or bytes 1 0 ≡ n + 3 = omega arith in
    let f : get_or bytes 1 0 + 1 ≡ n + 4 = omega arith in
    record {
      first = start;
      counts = c;
      type = k;
      known = omega arith;
      third = m;
      size = omega arith;
      sum = ap (λ (i : ℕ). get_or bytes i 0) (sym f) ∙ sym right ∙ ap (λ (l : ℕ). checksum (take l (drop 1 bytes))) c;
    }

pub reads_whole : (bytes : List ℕ) (kind command n : ℕ) → read bytes ≡ Ok (frame_parts kind command n) → Whole bytes kind command n
reads_whole bytes kind command n e =
    let some = picked_second (eqb (length bytes) 0) err_not_ok e in
    let start = picked_first (eqb (get_or bytes 0 0) 1) err_not_ok some.1 in
    let more = picked_second (eqb (length bytes) 1) err_not_ok start.1 in
    let long = picked_second (ltb (get_or bytes 1 0) 3) err_not_ok more.1 in
    let whole = picked_second (ltb (length bytes) (get_or bytes 1 0 + 2)) err_not_ok long.1 in
    let alone = picked_second (ltb (get_or bytes 1 0 + 2) (length bytes)) err_not_ok whole.1 in
    let right = picked_first (eqb (checksum (take (get_or bytes 1 0) (drop 1 bytes))) (get_or bytes (get_or bytes 1 0 + 1) 0)) err_not_ok alone.1 in
    let known = picked_second (ltb 1 (get_or bytes 2 0)) err_not_ok right.1 in
    whole_of_lem bytes kind command n
    (eqb-true _ _ start.0)
    (ltb-false _ _ long.0)
    (ltb-false _ _ whole.0)
    (ltb-false _ _ alone.0)
    (eqb-true _ _ right.0)
    (ltb-false _ _ known.0)
    known.1

pub whole_reads : (bytes : List ℕ) (kind command n : ℕ) → Whole bytes kind command n → read bytes ≡ Ok (frame_parts kind command n)
whole_reads bytes kind command n w =
    let f : n + 3 + 1 ≡ n + 4 = omega arith in
    let some : length bytes ≡ 0 → ⊥ = λ e. omega arith in
    let more : length bytes ≡ 1 → ⊥ = λ e. omega arith in
    simp (
      ne_eqb (length bytes) 0 some,
      w.first,
      ne_eqb (length bytes) 1 more,
      w.counts,
      le-ltb (n + 3) 3 (omega arith),
      le-ltb (length bytes) (n + 3 + 2) (omega arith),
      le-ltb (n + 3 + 2) (length bytes) (omega arith),
      f,
      w.sum,
      eq-eqb (checksum (take (n + 3) (drop 1 bytes))) (checksum (take (n + 3) (drop 1 bytes))) refl,
      w.type,
      w.third,
      le-ltb 1 kind w.known,
      add-sub_cancel,
    )

-- so many bytes are four, the parameters and a last one
shape : (bytes : List ℕ) (n : ℕ) → length bytes ≡ n + 5
    → bytes ≡ get_or bytes 0 0 ∷ get_or bytes 1 0 ∷ get_or bytes 2 0 ∷ get_or bytes 3 0 ∷ (parameters_of bytes n ++ (get_or bytes (n + 4) 0 ∷ []))
shape [] n h = absurd (omega arith)
shape (a ∷ []) n h = absurd (omega arith)
shape (a ∷ b ∷ []) n h = absurd (omega arith)
shape (a ∷ b ∷ k ∷ []) n h = absurd (omega arith)
shape (a ∷ b ∷ k ∷ m ∷ rest) n h =
    let e : n + 4 ≡ suc (suc (suc (suc n))) = omega arith in
    let l : n < length rest = omega arith in
    rw e (ap (λ (s : List ℕ). a ∷ b ∷ k ∷ m ∷ s) (sym (take_all (suc n) rest (omega arith)) ∙ take-suc rest n 0 l))

pub whole_length : (bytes : List ℕ) (kind command n : ℕ) → Whole bytes kind command n → length (parameters_of bytes n) ≡ n
whole_length bytes kind command n w = length-take-le n (drop 4 bytes) (simp length-drop (omega arith))

pub whole_frame : (bytes : List ℕ) (kind command n : ℕ) → Whole bytes kind command n → bytes ≡ frame_of kind command (parameters_of bytes n)
unfolding frame_of
whole_frame bytes kind command n w =
    let ps = parameters_of bytes n in
    let l : length ps ≡ n = whole_length bytes kind command n w in
    let e = shape bytes n w.size in
    let c : get_or bytes 1 0 ≡ length ps + 3 = w.counts ∙ ap (λ (i : ℕ). i + 3) (sym l) in
    let body : take (n + 3) (drop 1 bytes) ≡ get_or bytes 1 0 ∷ get_or bytes 2 0 ∷ get_or bytes 3 0 ∷ ps =
    ap (λ (b : List ℕ). take (n + 3) (drop 1 b)) e
    ∙ take_at (get_or bytes 1 0 ∷ get_or bytes 2 0 ∷ get_or bytes 3 0 ∷ ps) (get_or bytes (n + 4) 0 ∷ []) (n + 3) (omega arith) in
    e ∙ cc
