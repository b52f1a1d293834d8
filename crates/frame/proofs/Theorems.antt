-- What holds of the frame and the promises of this crate, over all inputs.
-- Assumes nothing.
use mathlib.Core.Path.{◌≡◌, refl, sym, ap, ◌∙◌}
use mathlib.Core.Bool.{Bool}
use mathlib.Core.List.{List, [], ◌∷◌}
use Prim.Native.Nat.{ℕ, ◌+◌, ◌≤◌}
use native.Mathlib.Omega.{arith}
use lib.Dec.{ltb}
use lib.ListN.{length, get_or, take, drop, length-append}
use lib.Seq.{take_at, get_or_at}
use borrow.Author.Tests.{ltb-false, le-ltb}
use Rattle.std.specs.Prelude.{Result, Ok}
use Rattle.refusals.specs.declared.Refusal.{Refusal}
use Rattle.frame.specs.Bytes.{fold}
use Rattle.frame.specs.Promises.{Lay}
use Rattle.frame.specs.Frame.{counted, checksum, frame_of}
use Rattle.refusals.specs.Pick.{pick}
use Rattle.frame.specs.Builder.{built_of, built_told, Build}
use Rattle.refusals.proofs.Picks.{picked_second, through_by, err_not_ok}
use Rattle.refusals.proofs.Theorems.{fixed}

-- Section 12: each promise determines its answer and every lent byte after the call, refusals too.

pub build_determined : {kind command : ℕ} {ps lent : List ℕ} {r q : Result ℕ Refusal} {l m : List ℕ} → Build kind command ps lent r l
    → Build kind command ps lent q m → (r ≡ q) × (l ≡ m)
build_determined a b = (fixed a.answer b.answer, fixed a.left b.left)

pub lay_determined : {src : List ℕ} {n : ℕ} {dst : List ℕ} {at : ℕ} {r q : Bool} {l m : List ℕ} → Lay src n dst at r l
    → Lay src n dst at q m → (r ≡ q) × (l ≡ m)
lay_determined a b = (fixed a.answer b.answer, fixed a.left b.left)

pub fold_determined : (acc : ℕ) (s : List ℕ) {r q : ℕ} → r ≡ fold acc s → q ≡ fold acc s → r ≡ q
fold_determined acc s = fixed

-- Section 2: the whole frame is n + 5 bytes
pub frame_length : (kind command : ℕ) (ps : List ℕ) → length (frame_of kind command ps) ≡ length ps + 5
unfolding frame_of
frame_length kind command ps = omega (arith, length-append ps (checksum (counted kind command ps) ∷ []))

-- with 0 to 252 parameters 5 to 257
pub frame_bounds : (kind command : ℕ) (ps : List ℕ) → length ps ≤ 252 → (5 ≤ length (frame_of kind command ps)) × (length (frame_of kind command ps) ≤ 257)
frame_bounds kind command ps h = omega (arith, frame_length kind command ps)

-- Section 2: 01, Length, Type, Command; Length is n + 3
pub frame_head : (kind command : ℕ) (ps : List ℕ) → take 4 (frame_of kind command ps) ≡ 1 ∷ (length ps + 3) ∷ kind ∷ command ∷ []
unfolding frame_of
frame_head kind command ps = refl

-- Section 2: Checksum, the last byte, is FF xor every byte from Length to the last parameter
pub frame_checksum : (kind command : ℕ) (ps : List ℕ)
    → get_or (frame_of kind command ps) (length ps + 4) 0 ≡ fold 255 (take (length ps + 3) (drop 1 (frame_of kind command ps)))
unfolding frame_of
frame_checksum kind command ps =
    let sum = checksum (counted kind command ps) in
    get_or_at (1 ∷ counted kind command ps) sum [] 0 (length ps + 4) (omega arith)
    ∙ ap checksum (sym (take_at (counted kind command ps) (sum ∷ []) (length ps + 3) (omega arith)))

-- Section 3, build: accepted exactly where Type is at most 01, there are at most 252 parameters and n + 5 bytes of room; the answer is n + 5
pub build_accepts : (kind n room m : ℕ) → built_of kind n room ≡ Ok m → (kind ≤ 1) × (n ≤ 252) × (n + 5 ≤ room) × (m ≡ n + 5)
build_accepts kind n room m e =
    let known = picked_second (ltb 1 kind) err_not_ok e in
    let short = picked_second (ltb 252 n) err_not_ok known.1 in
    let room-left = picked_second (ltb room (n + 5)) err_not_ok short.1 in
    (ltb-false _ _ known.0, ltb-false _ _ short.0, ltb-false _ _ room-left.0, sym cc)

-- and so it is
pub build_accepted : (kind n room : ℕ) → kind ≤ 1 → n ≤ 252 → n + 5 ≤ room → built_of kind n room ≡ Ok (n + 5)
build_accepted kind n room k l r = simp (le-ltb 1 kind k, le-ltb 252 n l, le-ltb room (n + 5) r)

-- Section 3, build: KIND, LONG, ROOM, each by its number alone; of a frame 0 and its length
pub build_told : {kind command : ℕ} {ps lent : List ℕ} {r : Result ℕ Refusal} {lent' : List ℕ} → Build kind command ps lent r lent'
    → built_told r
    ≡ pick (ltb 1 kind) (3 ∷ [])
    (pick (ltb 252 (length ps)) (4 ∷ [])
    (pick (ltb (length lent) (length ps + 5)) (1 ∷ [])
    (0 ∷ (length ps + 5) ∷ [])))
build_told {kind} {command} {ps} {lent} b =
    ap built_told b.answer
    ∙ through_by built_told (ltb 1 kind) refl
    (through_by built_told (ltb 252 (length ps)) refl
    (through_by built_told (ltb (length lent) (length ps + 5)) refl refl))
