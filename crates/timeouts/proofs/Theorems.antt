-- What holds of the timeouts and of the promises of this crate, over all inputs (documents 01, sections 3, 8, 10 and 12; 02, P5).
--     set_timeouts_determined, read_timeouts_determined, write_timeouts_determined    each promise fixes its answer and every lent byte
--     set_builds, set_reads, timeouts_back        the frame that sets the two times, and its response
--     timeouts_told, set_range, set_room, set_told, write_range, write_timeouts_told    section 3's numbers, RANGE before ROOM
--     timeouts_example, range_edges               the worked examples
--     times_written          two times of ticks are written as the body that the reader is asked of
--     range_alike            the writer says RANGE exactly where the frame's writer does
--     timeouts_alike         with room the writer refuses what the reader refuses, and by the same refusal
--     written_timeouts_back  what was written reads back as the same two times
-- Assumes nothing.
use mathlib.Core.Path.{◌≡◌, refl, sym, ap, ap₂, ◌∙◌}
use mathlib.Core.Bool.{Bool, true, false}
use mathlib.Core.List.{List, [], ◌∷◌}
use mathlib.Core.Logic.{◌↔◌}
use Prim.Native.Nat.{ℕ, ◌/◌, ◌%◌, ◌≤◌}
use native.Mathlib.Omega.{arith}
use lib.ListN.{length, take, drop, replicate}
use lib.Dec.{ltb, eqb}
use Rattle.std.specs.Prelude.{Result, Ok, Err}
use Rattle.refusals.specs.Pick.{pick}
use Rattle.frame.specs.Bytes.{fold}
use Rattle.frame.specs.Frame.{frame_of}
use Rattle.frame.specs.Builder.{built_told, Build}
use Rattle.refusals.specs.declared.Refusal.{Refusal}
use Rattle.refusals.specs.declared.Refusal.TheVariants as refusal
use Rattle.refusals.proofs.Picks.{through, through_by, err_not_ok, refused_by}
use Rattle.refusals.proofs.Theorems.{fixed}
use Rattle.frame.proofs.Theorems.{build_accepts}
use Rattle.reading.specs.Reader.{read, parameters_of}
use Rattle.reading.proofs.Theorems.{build_reads}
use Rattle.masks.specs.Written.{written_told, Write}
use Rattle.masks.proofs.Theorems.{write_taken, refuses_alike, written_stands}
use Rattle.units.specs.Units.{ticks_of}
use Rattle.units.specs.declared.Millis.{Millis}
use Rattle.units.specs.declared.Ticks10.{Ticks10}
use Rattle.units.proofs.Theorems.{millis_back}
use Rattle.timeouts.specs.Timeouts.{ticks_for, set_of, SetTimeouts, is_old_timeouts, time_at, old_told, read_timeouts}
use Rattle.timeouts.specs.Writer.{timeouts_written, WriteTimeouts}
use Rattle.timeouts.specs.declared.OldTimeouts.{OldTimeouts}
use Rattle.timeouts.proofs.Setting.{set_answer, set_left}
use Rattle.timeouts.proofs.Writing.{written_answer, written_left}

-- ---- Section 12: each promise determines its answer and every lent byte after the call, refusals too

pub set_timeouts_determined : {rxack rxbyte : Millis} {lent : List ℕ} {r q : Result ℕ Refusal} {l m : List ℕ}
    → SetTimeouts rxack rxbyte lent r l → SetTimeouts rxack rxbyte lent q m → (r ≡ q) × (l ≡ m)
set_timeouts_determined a b = (fixed a.answer b.answer, fixed a.left b.left)

pub read_timeouts_determined : (body : List ℕ) {r q : Result OldTimeouts Refusal} → r ≡ read_timeouts body → q ≡ read_timeouts body → r ≡ q
read_timeouts_determined body = fixed

pub write_timeouts_determined : {rxack rxbyte : Millis} {lent : List ℕ} {r q : Result ℕ Refusal} {l m : List ℕ}
    → WriteTimeouts rxack rxbyte lent r l → WriteTimeouts rxack rxbyte lent q m → (r ≡ q) × (l ≡ m)
write_timeouts_determined a b = (fixed a.answer b.answer, fixed a.left b.left)

-- ---- timeouts

module _ (rxack rxbyte : Millis) (a b : Ticks10) (p : ticks_of rxack ≡ Ok a) (q : ticks_of rxbyte ≡ Ok b) where
  -- the frame is the one that `build` gives for REQ 06 with the two numbers of ticks
  pub set_builds : (lent : List ℕ) (r : Result ℕ Refusal) (lent' : List ℕ) → SetTimeouts rxack rxbyte lent r lent' → Build 0 6 (a.0 ∷ b.0 ∷ []) lent r lent'
  set_builds lent r lent' s = record {
    answer = s.answer ∙ set_answer rxack rxbyte lent (Ok a) (Ok b) p q;
    left = s.left ∙ set_left rxack rxbyte lent (Ok a) (Ok b) p q;
  }

  -- its RES with the same ticks is answered as the same times
  pub timeouts_back : read_timeouts (1 ∷ 6 ∷ a.0 ∷ b.0 ∷ []) ≡ Ok (record { rxack = rxack; rxbyte = rxbyte })
  timeouts_back = ap₂ (λ (x y : Millis). Ok (record { rxack = x; rxbyte = y })) (millis_back rxack a p).0 (millis_back rxbyte b q).0

-- what was written for two times, read back
pub record ReadsBack (rxack rxbyte : Millis) (lent : List ℕ) (m : ℕ) (lent' : List ℕ) : Type 0 where
  pub size : m ≡ 7
  pub parts : read (take m lent') ≡ Ok (record { kind = 0; command = 6; count = 2 })
  pub first : time_at (parameters_of (take m lent') 2) 0 ≡ rxack
  pub second : time_at (parameters_of (take m lent') 2) 1 ≡ rxbyte
  pub beyond : drop m lent' ≡ drop m lent

-- a frame that was written reads as REQ 06 with the two times; bytes beyond it stay
pub set_reads : (rxack rxbyte : Millis) (lent : List ℕ) (m : ℕ) (lent' : List ℕ) → SetTimeouts rxack rxbyte lent (Ok m) lent'
    → ReadsBack rxack rxbyte lent m lent'
set_reads rxack rxbyte lent m lent' s = by (ticks_of rxack) (ticks_of rxbyte) refl refl
  where
    no : ◌≡◌ {A = Result ℕ Refusal} (Ok m) (Err refusal.Range) → ReadsBack rxack rxbyte lent m lent'
    no e = absurd (err_not_ok (sym e))

    by : (x y : Result Ticks10 Refusal) → ticks_of rxack ≡ x → ticks_of rxbyte ≡ y → ReadsBack rxack rxbyte lent m lent'
    by (Err k) y p q = no (s.answer ∙ set_answer rxack rxbyte lent (Err k) y p q)
    by (Ok a) (Err k) p q = no (s.answer ∙ set_answer rxack rxbyte lent (Ok a) (Err k) p q)
    by (Ok a) (Ok b) p q =
        let built = set_builds rxack rxbyte a b p q lent (Ok m) lent' s in
        let reads = build_reads 0 6 (a.0 ∷ b.0 ∷ []) lent m lent' built in
        record {
          size = (build_accepts 0 2 (length lent) m (sym built.answer)).3;
          parts = reads.0;
          first = ap (λ (ps : List ℕ). time_at ps 0) reads.1 ∙ (millis_back rxack a p).0;
          second = ap (λ (ps : List ℕ). time_at ps 1) reads.1 ∙ (millis_back rxbyte b q).0;
          beyond = reads.2;
        }

-- ---- Section 3: the number of each refusal alone, and 0 with the values of each answer

pub timeouts_told : (body : List ℕ)
    → old_told (read_timeouts body) ≡ pick (is_old_timeouts body) (0 ∷ (time_at body 2).0 ∷ (time_at body 3).0 ∷ []) (10 ∷ [])
timeouts_told body = through old_told (is_old_timeouts body) (Ok (record { rxack = time_at body 2; rxbyte = time_at body 3 })) (Err refusal.Form)

-- RANGE, then ROOM
pub set_range : (k : Refusal) (a : Ticks10) (y : Result Ticks10 Refusal) (room : ℕ)
    → (built_told (set_of (Err k) y room) ≡ 11 ∷ []) × (built_told (set_of (Ok a) (Err k) room) ≡ 11 ∷ [])
set_range k a y room = (refl, refl)

pub set_room : (a b : Ticks10) (room : ℕ) → built_told (set_of (Ok a) (Ok b) room) ≡ pick (ltb room 7) (1 ∷ []) (0 ∷ 7 ∷ [])
set_room a b room = through built_told (ltb room 7) (Err refusal.Room) (Ok 7)

-- the second time, where the first is so many ticks
set_told_by : (rxbyte : Millis) (room : ℕ) (t : Ticks10)
    → built_told (set_of (Ok t) (ticks_of rxbyte) room)
    ≡ pick (ltb 2550 rxbyte.0) (11 ∷ []) (pick (eqb (rxbyte.0 % 10) 0) (pick (ltb room 7) (1 ∷ []) (0 ∷ 7 ∷ [])) (11 ∷ []))
set_told_by rxbyte room t =
    let f : Result Ticks10 Refusal → List ℕ = λ (y : Result Ticks10 Refusal). built_told (set_of (Ok t) y room) in
    through_by f (ltb 2550 rxbyte.0) refl (through_by f (eqb (rxbyte.0 % 10) 0) (set_room t (record { 0 = rxbyte.0 / 10 }) room) refl)

-- of the promise: a time above 2,550 ms or no multiple of 10 is RANGE, then ROOM below 7 bytes, else a frame of 7
pub set_told : {rxack rxbyte : Millis} {lent : List ℕ} {r : Result ℕ Refusal} {lent' : List ℕ} → SetTimeouts rxack rxbyte lent r lent'
    → built_told r
    ≡ pick (ltb 2550 rxack.0) (11 ∷ [])
    (pick (eqb (rxack.0 % 10) 0)
    (pick (ltb 2550 rxbyte.0) (11 ∷ [])
    (pick (eqb (rxbyte.0 % 10) 0)
    (pick (ltb (length lent) 7) (1 ∷ []) (0 ∷ 7 ∷ []))
    (11 ∷ [])))
    (11 ∷ []))
set_told {rxack} {rxbyte} {lent} s =
    let f : Result Ticks10 Refusal → List ℕ = λ (x : Result Ticks10 Refusal). built_told (set_of x (ticks_of rxbyte) (length lent)) in
    ap built_told s.answer
    ∙ through_by f (ltb 2550 rxack.0) refl
    (through_by f (eqb (rxack.0 % 10) 0) (set_told_by rxbyte (length lent) (record { 0 = rxack.0 / 10 })) refl)

-- of the response too: RANGE, then ROOM below 254 bytes, else a body of 4
pub write_range : (k : Refusal) (a : Ticks10) (y : Result Ticks10 Refusal) (room : ℕ)
    → (written_told (timeouts_written (Err k) y room) ≡ 11 ∷ []) × (written_told (timeouts_written (Ok a) (Err k) room) ≡ 11 ∷ [])
write_range k a y room = (refl, refl)

write_told_by : (rxbyte : Millis) (room : ℕ) (t : Ticks10)
    → written_told (timeouts_written (Ok t) (ticks_of rxbyte) room)
    ≡ pick (ltb 2550 rxbyte.0) (11 ∷ []) (pick (eqb (rxbyte.0 % 10) 0) (pick (ltb room 254) (1 ∷ []) (0 ∷ 4 ∷ [])) (11 ∷ []))
write_told_by rxbyte room t =
    let f : Result Ticks10 Refusal → List ℕ = λ (y : Result Ticks10 Refusal). written_told (timeouts_written (Ok t) y room) in
    through_by f (ltb 2550 rxbyte.0) refl
    (through_by f (eqb (rxbyte.0 % 10) 0) (through written_told (ltb room 254) (Err refusal.Room) (Ok 4)) refl)

pub write_timeouts_told : {rxack rxbyte : Millis} {lent : List ℕ} {r : Result ℕ Refusal} {lent' : List ℕ} → WriteTimeouts rxack rxbyte lent r lent'
    → written_told r
    ≡ pick (ltb 2550 rxack.0) (11 ∷ [])
    (pick (eqb (rxack.0 % 10) 0)
    (pick (ltb 2550 rxbyte.0) (11 ∷ [])
    (pick (eqb (rxbyte.0 % 10) 0)
    (pick (ltb (length lent) 254) (1 ∷ []) (0 ∷ 4 ∷ []))
    (11 ∷ [])))
    (11 ∷ []))
write_timeouts_told {rxack} {rxbyte} {lent} s =
    let f : Result Ticks10 Refusal → List ℕ = λ (x : Result Ticks10 Refusal). written_told (timeouts_written x (ticks_of rxbyte) (length lent)) in
    ap written_told s.answer
    ∙ through_by f (ltb 2550 rxack.0) refl
    (through_by f (eqb (rxack.0 % 10) 0) (write_told_by rxbyte (length lent) (record { 0 = rxack.0 / 10 })) refl)

-- ---- Section 10

-- REQ 06 with 96 0F (1,500 and 150 ms)
pub timeouts_example : (r : Result ℕ Refusal) (lent' : List ℕ) → SetTimeouts (record { 0 = 1500 }) (record { 0 = 150 }) (replicate 7 0) r lent'
    → (r ≡ Ok 7) × (lent' ≡ 1 ∷ 5 ∷ 0 ∷ 6 ∷ 150 ∷ 15 ∷ 101 ∷ [])
unfolding frame_of fold
timeouts_example r lent' s = (s.answer, s.left)

-- 2,550 ms is 255: FF stands in both places of the frame that is left in 7 lent bytes. 2,560 and 1,505 are RANGE.
pub range_edges : (set_of (ticks_of (record { 0 = 2550 })) (ticks_of (record { 0 = 2550 })) 7 ≡ Ok 7)
    × (ticks_for (ticks_of (record { 0 = 2550 })) (ticks_of (record { 0 = 2550 })) ≡ 255 ∷ 255 ∷ [])
    × ((a b c d e f g : ℕ) (r : Result ℕ Refusal) (lent' : List ℕ)
    → SetTimeouts (record { 0 = 2550 }) (record { 0 = 2550 }) (a ∷ b ∷ c ∷ d ∷ e ∷ f ∷ g ∷ []) r lent'
    → (r ≡ Ok 7) × (lent' ≡ 1 ∷ 5 ∷ 0 ∷ 6 ∷ 255 ∷ 255 ∷ 252 ∷ []))
    × (set_of (ticks_of (record { 0 = 2560 })) (ticks_of (record { 0 = 150 })) 7 ≡ Err refusal.Range)
    × (set_of (ticks_of (record { 0 = 150 })) (ticks_of (record { 0 = 1505 })) 7 ≡ Err refusal.Range)
unfolding frame_of fold
range_edges = (refl, refl, λ a b c d e f g r lent' s. (s.answer, s.left), refl, refl)

-- ---- Document 02, P5: what is written

-- two times of ticks: the body with them, if its reader takes it
pub times_written : (rxack rxbyte : Millis) (a b : Ticks10) → ticks_of rxack ≡ Ok a → ticks_of rxbyte ≡ Ok b
    → (lent : List ℕ) (r : Result ℕ Refusal) (lent' : List ℕ) → WriteTimeouts rxack rxbyte lent r lent'
    → Write (is_old_timeouts (1 ∷ 6 ∷ a.0 ∷ b.0 ∷ [])) (1 ∷ 6 ∷ a.0 ∷ b.0 ∷ []) lent r lent'
times_written rxack rxbyte a b p q lent r lent' s = record {
  answer = s.answer ∙ written_answer rxack rxbyte lent (Ok a) (Ok b) p q;
  left = s.left ∙ written_left rxack rxbyte lent (Ok a) (Ok b) p q;
}

-- RANGE is said of the same times as in the frame that sets them, whatever the room of either
pub range_alike : (x y : Result Ticks10 Refusal) (room other : ℕ) → (timeouts_written x y room ≡ Err refusal.Range) ↔ (set_of x y other ≡ Err refusal.Range)
range_alike (Err k) y room other = (λ e. refl, λ e. refl)
range_alike (Ok a) (Err k) room other = (λ e. refl, λ e. refl)
range_alike (Ok a) (Ok b) room other = (λ e. absurd (not_range (ltb room 254) 4 e), λ e. absurd (not_range (ltb other 7) 7 e))
  where
    not_range : (t : Bool) (n : ℕ) → ◌≡◌ {A = Result ℕ Refusal} (pick t (Err refusal.Room) (Ok n)) (Err refusal.Range) → ⊥
    not_range true n e = let z : ◌≡◌ {A = ℕ} 0 1 = cc in omega arith
    not_range false n e = err_not_ok (sym e)

-- the reader refuses by FORM alone
reads_refused : (body : List ℕ) (k : Refusal) → (read_timeouts body ≡ Err k) ↔ ((is_old_timeouts body ≡ false) × (k ≡ refusal.Form))
reads_refused body k = refused_by (is_old_timeouts body) (record { rxack = time_at body 2; rxbyte = time_at body 3 }) refusal.Form k

-- with room the writer refuses what its reader refuses, and by the same refusal: where both times are ticks, nothing
pub timeouts_alike : (rxack rxbyte : Millis) (a b : Ticks10) → ticks_of rxack ≡ Ok a → ticks_of rxbyte ≡ Ok b
    → (lent : List ℕ) (r : Result ℕ Refusal) (lent' : List ℕ) → WriteTimeouts rxack rxbyte lent r lent' → 254 ≤ length lent
    → ((k : Refusal) → (r ≡ Err k) ↔ (read_timeouts (1 ∷ 6 ∷ a.0 ∷ b.0 ∷ []) ≡ Err k)) × (r ≡ Ok 4)
timeouts_alike rxack rxbyte a b p q lent r lent' s room =
    let body : List ℕ = 1 ∷ 6 ∷ a.0 ∷ b.0 ∷ [] in
    let w = times_written rxack rxbyte a b p q lent r lent' s in (
      λ k. (
        λ e. (reads_refused body k).1 ((refuses_alike w room k).0 e),
        λ e. (refuses_alike w room k).1 ((reads_refused body k).0 e),
      ),
      (write_taken w room refl).0,
    )

-- what was written for two times, read back
pub record TimeoutsBack (rxack rxbyte : Millis) (lent : List ℕ) (n : ℕ) (lent' : List ℕ) : Type 0 where
  pub size : n ≡ 4
  pub answer : read_timeouts (take n lent') ≡ Ok (record { rxack = rxack; rxbyte = rxbyte })
  pub beyond : drop n lent' ≡ drop n lent

pub written_timeouts_back : (rxack rxbyte : Millis) (lent : List ℕ) (n : ℕ) (lent' : List ℕ) → WriteTimeouts rxack rxbyte lent (Ok n) lent'
    → TimeoutsBack rxack rxbyte lent n lent'
written_timeouts_back rxack rxbyte lent n lent' s = by (ticks_of rxack) (ticks_of rxbyte) refl refl
  where
    no : ◌≡◌ {A = Result ℕ Refusal} (Ok n) (Err refusal.Range) → TimeoutsBack rxack rxbyte lent n lent'
    no e = absurd (err_not_ok (sym e))

    by : (x y : Result Ticks10 Refusal) → ticks_of rxack ≡ x → ticks_of rxbyte ≡ y → TimeoutsBack rxack rxbyte lent n lent'
    by (Err k) y p q = no (s.answer ∙ written_answer rxack rxbyte lent (Err k) y p q)
    by (Ok a) (Err k) p q = no (s.answer ∙ written_answer rxack rxbyte lent (Ok a) (Err k) p q)
    by (Ok a) (Ok b) p q =
        let stands = written_stands (times_written rxack rxbyte a b p q lent (Ok n) lent' s) in
        record { size = stands.size; answer = ap read_timeouts stands.front ∙ timeouts_back rxack rxbyte a b p q; beyond = stands.beyond }
