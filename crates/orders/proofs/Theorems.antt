-- What holds of the promises of this crate and of the pattern, over all inputs.
-- Assumes nothing.
use mathlib.Core.Path.{◌≡◌, refl, sym, ap, ◌∙◌}
use mathlib.Core.Bool.{Bool, true, false}
use mathlib.Core.List.{List, [], ◌∷◌, ◌++◌}
use mathlib.Core.Logic.{◌↔◌, ◌⊎◌, inl, inr, ⊎_elim}
use Prim.Native.Nat.{ℕ, zero, suc, ◌+◌, ◌-◌, ◌*◌, ◌%◌, ◌≤◌, ◌<◌, min}
use native.Mathlib.Omega.{arith}
use native.Mathlib.Nat.{min-le_left, min-le_right, add-zero, add-suc, suc-add, mod-lt, mod-eq_of_lt, mod-add-mod, mod-eq-sub-mod, add-mod_right, add-mul-mod_self_right}
use lib.Dec.{leb, ltb, lit<, lit≤}
use lib.ListN.{length, take, drop, get_or, length-drop, drop_of_length-le, get_or-append}
use lib.Seq.{drop_at, get_or_at, get_or-drop, paste, take-paste}
use borrow.Author.Tests.{eq-eqb, ltb-true, ltb-false, leb-true, leb-false}
use Rattle.refusals.specs.Pick.{pick}
use Rattle.refusals.proofs.Theorems.{fixed}
use Rattle.frame.specs.Promises.{fits}
use Rattle.orders.specs.declared.ends.Pending.{Pending}
use Rattle.orders.specs.declared.verb.LinkVerb.{LinkVerb}
use Rattle.orders.specs.Verb.{is_tick, times_of, verb_name}
use Rattle.orders.specs.Bytes.{spelt_at}
use Rattle.orders.specs.Lent.{mark, pattern, differs, is_spilled}
use Rattle.orders.specs.Ends.{CallAt, KeepWhole, none_pending}
use Rattle.orders.proofs.Patterns.{pattern_length, goes_on_lem}
use Rattle.orders.proofs.Keeping.{fits_within}

-- Each promise determines its answer, or every lent byte after the call.

pub is_tick_determined : (verb : LinkVerb) {r q : Bool} → r ≡ is_tick verb → q ≡ is_tick verb → r ≡ q
is_tick_determined verb = fixed

pub times_of_determined : (verb : LinkVerb) (n : ℕ) {r q : ℕ} → r ≡ times_of verb n → q ≡ times_of verb n → r ≡ q
times_of_determined verb n = fixed

pub verb_name_determined : (verb : LinkVerb) {r q : List ℕ} → r ≡ verb_name verb → q ≡ verb_name verb → r ≡ q
verb_name_determined verb = fixed

pub spelt_at_determined : (bytes : List ℕ) (at : ℕ) {r q : ℕ} → r ≡ spelt_at bytes at → q ≡ spelt_at bytes at → r ≡ q
spelt_at_determined bytes at = fixed

pub behind_determined : (bytes : List ℕ) (n : ℕ) {r q : List ℕ} → r ≡ drop n bytes → q ≡ drop n bytes → r ≡ q
behind_determined bytes n = fixed

pub fill_determined : (lent : List ℕ) {l m : List ℕ} → l ≡ pattern (length lent) → m ≡ pattern (length lent) → l ≡ m
fill_determined lent = fixed

pub is_spilled_determined : (lent : List ℕ) (n : ℕ) {r q : Bool} → r ≡ is_spilled lent n → q ≡ is_spilled lent n → r ≡ q
is_spilled_determined lent n = fixed

-- the number of reported bytes does not count: all of the buffer is the pattern again
pub restore_determined : (lent : List ℕ) {l m : List ℕ} → l ≡ pattern (length lent) → m ≡ pattern (length lent) → l ≡ m
restore_determined lent = fixed

pub within_determined : (n : ℕ) (lent : List ℕ) {r q : ℕ} → r ≡ min n (length lent) → q ≡ min n (length lent) → r ≡ q
within_determined n lent = fixed

-- the smaller of two numbers, which `within` takes
pub least_determined : (a b : ℕ) {r q : ℕ} → r ≡ min a b → q ≡ min a b → r ≡ q
least_determined a b = fixed

-- it is neither above the first nor above the second
pub least_first : (a b : ℕ) {r : ℕ} → r ≡ min a b → r ≤ a
least_first a b e = omega (arith, e, min-le_left a b)

pub least_second : (a b : ℕ) {r : ℕ} → r ≡ min a b → r ≤ b
least_second a b e = omega (arith, e, min-le_right a b)

-- a place that is 0 or 7, and is 7 exactly where the line asks the stand-in
pub call_at_determined : {text : List ℕ} {n r q : ℕ} → CallAt text n r → CallAt text n q → r ≡ q
call_at_determined {r} {q} a b = ⊎_elim front behind a.places
  where
    behind : r ≡ 7 → r ≡ q
    behind e = fixed e (b.from (a.to e))

    front : r ≡ 0 → r ≡ q
    front e = ⊎_elim (fixed e) (λ f. fixed (a.from (b.to f)) f) b.places

pub keep_whole_determined : {p : Pending} {bytes : List ℕ} {n : ℕ} {kept : List ℕ} {r q : Pending} {l m : List ℕ} → KeepWhole p bytes n kept r l
    → KeepWhole p bytes n kept q m → (r ≡ q) × (l ≡ m)
keep_whole_determined a b = (fixed a.answer b.answer, fixed a.left b.left)

pub nothing_determined : {r q : Pending} → r ≡ none_pending → q ≡ none_pending → r ≡ q
nothing_determined = fixed

-- a room that is made empty: its bytes are all 0 where it is made, and else what they were
pub cleared_determined : (room : List ℕ) {r q : Pending} {l m : List ℕ} → r ≡ none_pending → l ≡ room → q ≡ none_pending → m ≡ room → (r ≡ q) × (l ≡ m)
cleared_determined room a l b m = (fixed a b, fixed l m)

pub bytes_determined : (room : List ℕ) (count : ℕ) {r q : List ℕ} → r ≡ take count room → q ≡ take count room → r ≡ q
bytes_determined room count = fixed

-- ---- what is kept

-- Where all of a call's bytes fit, what is kept is what was kept before, and they behind it.
pub kept_in_order : {p : Pending} {bytes : List ℕ} {n : ℕ} {kept : List ℕ} {r : Pending} {l : List ℕ} → KeepWhole p bytes n kept r l
    → fits bytes n kept p.count ≡ true → take r.count l ≡ take p.count kept ++ take n bytes
kept_in_order {p} {bytes} {n} {kept} {r} {l} a e =
    let room = fits_within bytes n kept p.count e in
    let size : r.count ≡ p.count + n = ap (λ (x : Pending). x.count) a.answer ∙ ap (λ (t : Bool). pick t (p.count + n) p.count) e in
    let left : l ≡ paste kept p.count bytes n = a.left ∙ ap (λ (t : Bool). pick t (paste kept p.count bytes n) kept) e in
    ap (λ (k : ℕ). take k l) size ∙ ap (take (p.count + n)) left ∙ take-paste kept p.count bytes n (omega arith) room.0

-- Where they do not, nothing is kept of them, and that shows until it is said.
pub kept_not_at_all : {p : Pending} {bytes : List ℕ} {n : ℕ} {kept : List ℕ} {r : Pending} {l : List ℕ} → KeepWhole p bytes n kept r l
    → fits bytes n kept p.count ≡ false → (r.count ≡ p.count) × (r.is_lost ≡ true) × (l ≡ kept)
kept_not_at_all {p} {bytes} {n} {kept} a e = (
  ap (λ (x : Pending). x.count) a.answer ∙ ap (λ (t : Bool). pick t (p.count + n) p.count) e,
  ap (λ (x : Pending). x.is_lost) a.answer ∙ ap (λ (t : Bool). pick t p.is_lost true) e,
  a.left ∙ ap (λ (t : Bool). pick t (paste kept p.count bytes n) kept) e,
)

-- ---- the pattern

-- no byte of it is 0
pub mark_not_zero : (i : ℕ) → mark i ≡ 0 → ⊥
mark_not_zero i e = omega arith

-- each is a byte
pub mark_byte : (i : ℕ) → mark i < 256
mark_byte i = omega arith

-- a remainder goes on, or begins anew
mod_step : (i d : ℕ) {m : ℕ} → 0 < m → d ≤ m → ((i + d) % m ≡ i % m + d) ⊎ ((i + d) % m + m ≡ i % m + d)
mod_step i d {m} h l = by (ltb (i % m + d) m) refl
  where
    by : (t : Bool) → ltb (i % m + d) m ≡ t → ((i + d) % m ≡ i % m + d) ⊎ ((i + d) % m + m ≡ i % m + d)
    by true e = inl (sym (mod-add-mod i m d) ∙ mod-eq_of_lt (ltb-true (i % m + d) m e))
    by false e =
        let past : m ≤ i % m + d = ltb-false (i % m + d) m e in
        let below : i % m < m = mod-lt i h in
        let rest : (i + d) % m ≡ i % m + d - m = sym (mod-add-mod i m d) ∙ mod-eq-sub-mod past ∙ mod-eq_of_lt (omega arith) in
        inr (omega arith)

-- neighbours differ
pub neighbours_differ : (i : ℕ) → mark i ≡ mark (i + 1) → ⊥
neighbours_differ i e = ⊎_elim within-turn at_turn (mod_step i 1 {m = 65536} (lit< tt) (lit≤ tt))
  where
    within-turn : (i + 1) % 65536 ≡ i % 65536 + 1 → ⊥
    within-turn q =
        let next : (i + 1) % 65536 % 251 ≡ (i % 65536 + 1) % 251 = ap (λ (x : ℕ). x % 251) q in
        ⊎_elim (λ r. omega arith) (λ r. omega arith) (mod_step (i % 65536) 1 {m = 251} (lit< tt) (lit≤ tt))

    at_turn : (i + 1) % 65536 + 65536 ≡ i % 65536 + 1 → ⊥
    at_turn q =
        let last : i % 65536 ≡ 65535 = omega arith in
        let first : (i + 1) % 65536 ≡ 0 = omega arith in
        let a : i % 65536 % 251 ≡ 24 = ap (λ (x : ℕ). x % 251) last in
        let b : (i + 1) % 65536 % 251 ≡ 0 = ap (λ (x : ℕ). x % 251) first in
        omega arith

-- and so do places 256 apart
pub apart_differ : (i : ℕ) → mark i ≡ mark (i + 256) → ⊥
apart_differ i e = ⊎_elim within-turn past-turn (mod_step i 256 {m = 65536} (lit< tt) (lit≤ tt))
  where
    within-turn : (i + 256) % 65536 ≡ i % 65536 + 256 → ⊥
    within-turn q =
        let more : (i + 256) % 65536 ≡ i % 65536 + 5 + 251 = omega arith in
        let next : (i + 256) % 65536 % 251 ≡ (i % 65536 + 5) % 251 = ap (λ (x : ℕ). x % 251) more ∙ add-mod_right (i % 65536 + 5) 251 in
        ⊎_elim (λ r. omega arith) (λ r. omega arith) (mod_step (i % 65536) 5 {m = 251} (lit< tt) (lit≤ tt))

    past-turn : (i + 256) % 65536 + 65536 ≡ i % 65536 + 256 → ⊥
    past-turn q =
        let k = (i + 256) % 65536 in
        let more : i % 65536 ≡ k + 20 + 260 * 251 = omega arith in
        let next : i % 65536 % 251 ≡ (k + 20) % 251 = ap (λ (x : ℕ). x % 251) more ∙ add-mul-mod_self_right (k + 20) 260 251 in
        ⊎_elim (λ r. omega arith) (λ r. omega arith) (mod_step k 20 {m = 251} (lit< tt) (lit≤ tt))

-- n bytes of it are n bytes, each its place's own
pub pattern_size : (n : ℕ) → length (pattern n) ≡ n
pattern_size = pattern_length

pub pattern_at : (n i : ℕ) → i < n → get_or (pattern n) i 0 ≡ mark i
unfolding pattern
pattern_at zero i h = absurd (omega arith)
pattern_at (suc n) i h = by (ltb i n) refl (pattern_at n i)
  where
    by : (t : Bool) → ltb i n ≡ t → (i < n → get_or (pattern n) i 0 ≡ mark i) → get_or (pattern n ++ (mark n ∷ [])) i 0 ≡ mark i
    by true e before =
        let l : i < n = ltb-true i n e in
        let size : length (pattern n) ≡ n = pattern_length n in
        get_or-append (pattern n) (mark n ∷ []) 0 i (omega arith) ∙ before l
    by false e before =
        let l : n ≤ i = ltb-false i n e in
        let last : n ≡ i = omega arith in
        get_or_at (pattern n) (mark n) [] 0 i (pattern_length n ∙ last) ∙ ap mark last

-- ---- what a spill is

-- a part whose bytes are all the pattern's
none_differs : (n : ℕ) (l : List ℕ) → ((i : ℕ) → i < length l → get_or l i 0 ≡ mark (n + i)) → differs n l ≡ false
unfolding differs
none_differs n [] own = refl
none_differs n (b ∷ l) own =
    let first : b ≡ mark n = own 0 (omega arith) ∙ ap mark (add-zero n) in
    rw (eq-eqb b (mark n) first) (none_differs (suc n) l (λ i h. own (suc i) (omega arith) ∙ ap mark (add-suc n i ∙ sym (suc-add n i))))

-- a filled buffer is not spilled, however many of its bytes were reported
pub filled_not_spilled : (m n : ℕ) → is_spilled (pattern m) n ≡ false
filled_not_spilled m n =
    none_differs n (drop n (pattern m)) (λ i h. get_or-drop n (pattern m) i 0 ∙ pattern_at m (n + i) (omega (arith, length-drop n (pattern m), pattern_length m)))

-- Nothing is spilled exactly where the buffer beyond its first n bytes is the pattern.
pub unspilled : (lent : List ℕ) (n : ℕ) → (is_spilled lent n ≡ false) ↔ (drop n lent ≡ drop n (pattern (length lent)))
unspilled lent n = (to, from)
  where
    by : (t : Bool) → leb n (length lent) ≡ t → is_spilled lent n ≡ false → drop n lent ≡ drop n (pattern (length lent))
    by true q e =
        let h : n ≤ length lent = leb-true n (length lent) q in
        let size : n + length (drop n lent) ≡ length lent = omega (arith, length-drop n lent) in
        sym (drop_at (pattern n) (drop n lent) n (pattern_length n)) ∙ ap (drop n) (goes_on_lem n (drop n lent) e ∙ ap pattern size)
    by false q e =
        let h : length lent < n = leb-false n (length lent) q in
        let size : length (pattern (length lent)) ≡ length lent = pattern_length (length lent) in
        drop_of_length-le lent {i = n} (omega arith) ∙ sym (drop_of_length-le (pattern (length lent)) {i = n} (omega arith))

    to : is_spilled lent n ≡ false → drop n lent ≡ drop n (pattern (length lent))
    to = by (leb n (length lent)) refl

    from : drop n lent ≡ drop n (pattern (length lent)) → is_spilled lent n ≡ false
    from e = ap (differs n) e ∙ filled_not_spilled (length lent) n

-- a byte beyond the first n that is not the pattern's always shows
pub spill_shows : (lent : List ℕ) (n i : ℕ) → n ≤ i → i < length lent → (get_or lent i 0 ≡ mark i → ⊥) → is_spilled lent n ≡ true
spill_shows lent n i h l other = by (is_spilled lent n) refl
  where
    by : (t : Bool) → is_spilled lent n ≡ t → is_spilled lent n ≡ true
    by true e = e
    by false e =
        let place : n + (i - n) ≡ i = omega arith in
        let same : get_or (drop n lent) (i - n) 0 ≡ get_or (drop n (pattern (length lent))) (i - n) 0 =
        ap (λ (s : List ℕ). get_or s (i - n) 0) ((unspilled lent n).0 e) in
        let own : get_or lent (n + (i - n)) 0 ≡ get_or (pattern (length lent)) (n + (i - n)) 0 =
        sym (get_or-drop n lent (i - n) 0) ∙ same ∙ get_or-drop n (pattern (length lent)) (i - n) 0 in
        absurd (other (rw place at own ∙ pattern_at (length lent) i l))
