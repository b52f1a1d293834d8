-- Several bytes at once are those bytes one by one: a byte while hunting, a bad length, a whole frame.
-- Assumes nothing.
use mathlib.Core.Path.{◌≡◌, refl, sym, ap, subst, ◌∙◌}
use mathlib.Core.Bool.{Bool, true, false}
use mathlib.Core.List.{List, [], ◌∷◌, ◌++◌}
use Prim.Native.Nat.{ℕ, zero, suc, ◌+◌, ◌≤◌, ◌<◌}
use native.Mathlib.Numerals.{add-one}
use native.Mathlib.Omega.{arith}
use borrow.Author.Tests.{lt-ltb, le-ltb, ne_eqb}
use lib.Dec.{eqb, ltb}
use lib.ListN.{length, take, drop, get_or, take-append-drop, length-drop}
use lib.Seq.{drop-cons, drop-drop, length-take-le}
use Rattle.refusals.specs.Pick.{pick}
use Rattle.frame.specs.Bytes.{fold}
use Rattle.hearing.specs.Hearing.{heard, begun, more, ended}
use Rattle.hearing.specs.Promises.{walked}
use Rattle.hearing.proofs.Walks.{walked_size, walked_at, walked_sum, walked_kind}
use Rattle.hearing.specs.declared.hearing.Partial.{Partial}
use Rattle.hearing.specs.declared.hearing.Hearing.TheVariants.{Hunting, Head, Body}
use Rattle.hearing.specs.declared.hearing.Single.TheVariants.{Ack, Nak, Can}
use Rattle.hearing.specs.declared.hearing.End.TheVariants.{BadSum, Reserved, Request, Response}
use Rattle.hearing.specs.declared.hearing.Event.TheVariants.{Skipped, Alone}
use Rattle.tally.specs.declared.Counts.{Counts}
use Rattle.tally.specs.declared.Tally.{Tally}
use Rattle.tally.specs.Tally.{end_column, added, tallied, count_byte}
use Rattle.counting.specs.Counting.{count}
use Rattle.counting.specs.Promises.{hunting, apart, whole, Beyond, BeyondAt}
use Rattle.counting.proofs.Laws.{count_more}

abbrev headed : Counts → Tally
headed k = record { hearing = Head 0; counts = k }

abbrev inside : Partial → Counts → Tally
inside p k = record { hearing = Body p; counts = k }

-- A byte while hunting that begins no frame.

apart_heard : (k : Counts) (t6 t21 t24 : Bool)
    → tallied k (pick t6 (heard Hunting (Alone Ack)) (pick t21 (heard Hunting (Alone Nak)) (pick t24 (heard Hunting (Alone Can)) (heard Hunting Skipped))))
    ≡ hunting (added (pick t6 0 (pick t21 1 (pick t24 2 7))) k)
apart_heard k true t21 t24 = refl
apart_heard k false true t24 = refl
apart_heard k false false true = refl
apart_heard k false false false = refl

apart_byte : (k : Counts) (b : ℕ) → (b ≡ 1 → ⊥) → count_byte b (hunting k) ≡ hunting (added (apart b) k)
apart_byte k b h = rw (ne_eqb b 1 h) (apart_heard k (eqb b 6) (eqb b 21) (eqb b 24))

-- An 01, and a Length of at least 3.

begun_bytes : (k : Counts) (size : ℕ) (rest : List ℕ) → 3 ≤ size
    → count (hunting k) (1 ∷ size ∷ rest) ≡ count (inside (begun 0 size) k) rest
unfolding count
begun_bytes k size rest h = simp (le-ltb size 3 h)

short_bytes : (k : Counts) (size : ℕ) (rest : List ℕ) → size < 3
    → count (hunting k) (1 ∷ size ∷ rest) ≡ count (hunting (added 5 k)) rest
unfolding count
short_bytes k size rest h = simp (lt-ltb size 3 h)

-- A run of body bytes.

walk_byte : (p : Partial) (k : Counts) (b : ℕ) → p.at < p.size → count_byte b (inside p k) ≡ inside (more p b) k
walk_byte p k b h = simp (lt-ltb p.at p.size h)

walk : (p : Partial) (k : Counts) (bs rest : List ℕ) → p.at + length bs ≤ p.size
    → count (inside p k) (bs ++ rest) ≡ count (inside (walked p bs) k) rest
unfolding count walked
walk p k [] rest h = refl
walk p k (b ∷ bs) rest h =
    ap (λ (t : Tally). count t (bs ++ rest)) (walk_byte p k b (omega arith)) ∙ walk (more p b) k bs rest (omega arith)

-- The checksum behind the last body byte.

types : (kind : ℕ) → ◌≡◌ {A = ℕ} (pick (eqb kind 0) 3 (pick (eqb kind 1) 3 6)) (pick (ltb kind 2) 3 6)
types zero = refl
types (suc zero) = refl
types (suc (suc n)) =
    simp (ne_eqb (suc (suc n)) 0 (λ e. omega (arith, e)), ne_eqb (suc (suc n)) 1 (λ e. omega (arith, e)), le-ltb (suc (suc n)) 2 (omega arith))

end_column_lem : (p : Partial) (right t0 t1 : Bool)
    → end_column (pick right (pick t0 (Request p.size) (pick t1 (Response p.size p.command) Reserved)) BadSum)
    ≡ pick right (pick t0 3 (pick t1 3 6)) 4
end_column_lem p true true t1 = refl
end_column_lem p true false true = refl
end_column_lem p true false false = refl
end_column_lem p false t0 t1 = refl

checked : (p : Partial) (k : Counts) (check : ℕ) (rest : List ℕ) → p.size ≤ p.at
    → count (inside p k) (check ∷ rest) ≡ count (hunting (added (whole p.kind p.sum check) k)) rest
unfolding count
checked p k check rest h =
    let e : end_column (pick (eqb check p.sum) (ended p) BadSum) ≡ whole p.kind p.sum check =
    end_column_lem p (eqb check p.sum) (eqb p.kind 0) (eqb p.kind 1)
    ∙ ap (λ (c : ℕ). pick (eqb check p.sum) c 4) (types p.kind) in
    rw (le-ltb p.at p.size h) (ap (λ (c : ℕ). count (hunting (added c k)) rest) e)

wholes : {kind kind' sum sum' : ℕ} (check : ℕ) → kind ≡ kind' → sum ≡ sum' → whole kind sum check ≡ whole kind' sum' check
wholes check e f = simp (e, f)

-- A whole frame: 01, Length, the Type and the rest of the body, Checksum.
frame_bytes : (k : Counts) (size kind check : ℕ) (body rest : List ℕ) → 3 ≤ size → length body + 2 ≡ size
    → count (hunting k) (1 ∷ size ∷ kind ∷ (body ++ check ∷ rest))
    ≡ count (hunting (added (whole kind (fold 255 (size ∷ kind ∷ body)) check) k)) rest
unfolding walked fold
frame_bytes k size kind check body rest h l =
    let p = begun 0 size in
    let q = walked p (kind ∷ body) in
    let s : q.sum ≡ fold 255 (size ∷ kind ∷ body) = walked_sum p (kind ∷ body) in
    let t : q.kind ≡ kind = walked_kind (more p kind) body (omega arith) in
    let d : q.size ≤ q.at = omega (arith, walked_size p (kind ∷ body), walked_at p (kind ∷ body)) in
    begun_bytes k size (kind ∷ (body ++ check ∷ rest)) h
    ∙ walk p k (kind ∷ body) (check ∷ rest) (omega arith)
    ∙ checked q k check rest d
    ∙ ap (λ (c : ℕ). count (hunting (added c k)) rest) (wholes check t s)

-- The same of what is left.

module _ (k : Counts) where
  -- A byte that begins no frame.
  pub apart_on : (bytes rest : List ℕ) (b : ℕ) → bytes ≡ b ∷ rest → (b ≡ 1 → ⊥) → Beyond (hunting k) bytes (hunting (added (apart b) k)) rest
  apart_on bytes rest b e h =
      record {
        left = omega (arith, ap length e);
        same = count_more (hunting k) bytes rest b e ∙ ap (λ (t : Tally). count t rest) (apart_byte k b h);
      }

  -- Behind an 01: a bad length.
  pub short_on : (rest behind : List ℕ) (size : ℕ) → rest ≡ size ∷ behind → size < 3
      → Beyond (hunting k) (1 ∷ rest) (hunting (added 5 k)) behind
  short_on rest behind size e h =
      record {
        left = omega (arith, ap length e);
        same = ap (λ (l : List ℕ). count (hunting k) (1 ∷ l)) e ∙ short_bytes k size behind h;
      }

-- A list of more than n is its first n, the one behind them, and the rest.
parted : (n : ℕ) (l : List ℕ) → n < length l → l ≡ take n l ++ (get_or l n 0 ∷ drop (n + 1) l)
parted n l h =
    sym (take-append-drop n l)
    ∙ ap (λ (r : List ℕ). take n l ++ r) (drop-cons l n 0 h ∙ ap (λ (m : ℕ). get_or l n 0 ∷ drop m l) (sym (add-one n)))

-- Behind an 01: a whole frame.

whole_bytes : (k : Counts) (size : ℕ) (behind : List ℕ) → 3 ≤ size → size < length (size ∷ behind)
    → count (hunting k) (1 ∷ size ∷ behind)
    ≡ count
    (hunting (added (whole (get_or (size ∷ behind) 1 0) (fold 255 (take size (size ∷ behind))) (get_or (size ∷ behind) size 0)) k))
    (drop (size + 1) (size ∷ behind))
whole_bytes k (suc (suc n)) [] h fits = absurd (omega (arith, fits))
whole_bytes k (suc (suc n)) (kind ∷ tail) h fits =
    let e : suc (suc n) + 1 ≡ suc (suc (n + 1)) = omega arith in
    rw e
    (ap (λ (l : List ℕ). count (hunting k) (1 ∷ suc (suc n) ∷ kind ∷ l)) (parted n tail (omega (arith, fits)))
    ∙ frame_bytes k (suc (suc n)) kind (get_or tail n 0) (take n tail) (drop (n + 1) tail) h
    (omega (arith, length-take-le n tail (omega (arith, fits)))))
whole_bytes k (suc zero) behind h fits = absurd (omega (arith, h))
whole_bytes k zero behind h fits = absurd (omega (arith, h))

pub whole_on : (k : Counts) (rest behind : List ℕ) (size : ℕ) → rest ≡ size ∷ behind → 3 ≤ size → size < length rest
    → Beyond (hunting k) (1 ∷ rest)
    (hunting (added (whole (get_or rest 1 0) (fold 255 (take size rest)) (get_or rest size 0)) k))
    (drop (size + 1) rest)
whole_on k rest behind size e h fits =
    record {
      left = simp length-drop (omega arith);
      same =
          let P : List ℕ → Type 0 = λ l. size < length l
          → count (hunting k) (1 ∷ l)
          ≡ count (hunting (added (whole (get_or l 1 0) (fold 255 (take size l)) (get_or l size 0)) k)) (drop (size + 1) l) in
          subst P (sym e) (whole_bytes k size behind h) fits;
    }

-- The same at a place.

pub at_place : (bytes : List ℕ) (at b : ℕ) → at < length bytes → get_or bytes at 0 ≡ b → drop at bytes ≡ b ∷ drop (at + 1) bytes
at_place bytes at b h e =
    drop-cons bytes at 0 h
    ∙ ap (λ (n : ℕ). get_or bytes at 0 ∷ drop n bytes) (sym (add-one at))
    ∙ ap (λ (n : ℕ). n ∷ drop (at + 1) bytes) e

module _ (k : Counts) (bytes : List ℕ) (at : ℕ) where
  pub apart_at : (b : ℕ) → at < length bytes → get_or bytes at 0 ≡ b → (b ≡ 1 → ⊥)
      → BeyondAt (hunting k) (drop at bytes) (hunting (added (apart b) k)) (at + 1) bytes
  apart_at b h e n =
      record {
        within = omega arith;
        beyond = apart_on k (drop at bytes) (drop (at + 1) bytes) b (at_place bytes at b h e) n;
      }

  -- At an 01: a stride over what is behind it.
  pub stride_at : (l : Counts) (n : ℕ) (rest : List ℕ) → at < length bytes → get_or bytes at 0 ≡ 1 → rest ≡ drop (at + 1) bytes
      → BeyondAt (hunting k) (1 ∷ rest) (hunting l) n rest → BeyondAt (hunting k) (drop at bytes) (hunting l) (at + 1 + n) bytes
  stride_at l n rest h e r o =
      let w = o.within in
      record {
        within = omega (arith, w, ap length r, length-drop (at + 1) bytes);
        beyond = rw (at_place bytes at 1 h e, sym (drop-drop n (at + 1) bytes), sym r) o.beyond;
      }

-- The counts that a call left.
pub counts_are : {t : Tally} {bytes rest : List ℕ} {k l : Counts} → l ≡ k → Beyond t bytes (hunting k) rest → Beyond t bytes (hunting l) rest
counts_are {t} {bytes} {rest} e b = subst (λ (x : Counts). Beyond t bytes (hunting x) rest) (sym e) b

pub counts_are_at : {t : Tally} {bytes rest : List ℕ} {next : ℕ} {k l : Counts} → l ≡ k → BeyondAt t rest (hunting k) next bytes → BeyondAt t rest (hunting l) next bytes
counts_are_at {t} {bytes} {rest} {next} e o = subst (λ (x : Counts). BeyondAt t rest (hunting x) next bytes) (sym e) o
