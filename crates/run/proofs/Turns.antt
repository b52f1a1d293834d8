-- The turns of a run of bytes, each heard at once, are the bytes heard one by one.
--     hear_end, on_over, on_one   hearing at what is left of the bytes
--     noise_more                  a skipped byte more
--     hunts_head                  noise, an 01 and its Length
--     walks                       body bytes at once
-- Assumes nothing.
use mathlib.Core.Path.{◌≡◌, refl, sym, ap, ◌∙◌}
use mathlib.Core.Bool.{Bool, true, false}
use mathlib.Core.List.{List, [], ◌∷◌, ◌++◌}
use Prim.Native.Nat.{ℕ, zero, suc, ◌+◌, ◌-◌, ◌≤◌, ◌<◌, min}
use native.Mathlib.Nat.{add-suc, add-zero, zero-add, suc-add, not-suc-le-zero}
use native.Mathlib.Numerals.{add-one}
use native.Mathlib.Omega.{arith}
use borrow.Author.Tests.{lt-ltb, le-ltb, ne_eqb, eq-eqb}
use lib.Bits.{bit_xor}
use lib.Dec.{ltb, eqb}
use lib.ListN.{length, take, drop, set, get_or, drop_of_length-le, take-append-drop, length-drop}
use lib.Seq.{drop-cons, drop-drop, length-take-le, set_out}
use Rattle.refusals.specs.Pick.{pick}
use Rattle.refusals.proofs.Picks.{no}
use Rattle.frame.specs.Bytes.{fold}
use Rattle.hearing.specs.declared.hearing.Event.{Event}
use Rattle.hearing.specs.declared.hearing.Event.TheVariants.{Inside, Kept, Skipped, Alone, Ended}
use Rattle.hearing.specs.declared.hearing.End.TheVariants.{BadLength}
use Rattle.hearing.specs.declared.hearing.Single.TheVariants.{Ack, Nak, Can}
use Rattle.hearing.specs.declared.hearing.Heard.{Heard}
use Rattle.hearing.specs.declared.hearing.Hearing.{Hearing}
use Rattle.hearing.specs.declared.hearing.Hearing.TheVariants.{Hunting, Head, Body}
use Rattle.hearing.specs.declared.hearing.Partial.{Partial}
use Rattle.run.specs.declared.run.Reach.{Reach}
use Rattle.hearing.specs.Hearing.{heard, hunted, measured, begun, more, followed, hear_byte, keep}
use Rattle.hearing.specs.Promises.{walked}
use Rattle.run.specs.Promises.{Far, has_news, behind, hear_from, far, gone, on_from, Quiet, Onward, is_sign, skipped, Noise, kept, picked}

-- ---- hearing at what is left
module _ (f : Far) (i : ℕ) (bytes : List ℕ) where
  abbrev next : Heard
  next = hear_byte (get_or bytes i 0) f.heard.hearing

  pub hear_end : length bytes ≤ i → hear_from f (drop i bytes) ≡ f
  unfolding hear_from
  hear_end h = simp (drop_of_length-le bytes h)

  pub hear_more : i < length bytes → has_news next.event ≡ false
      → hear_from f (drop i bytes) ≡ hear_from (behind next f.body (get_or bytes i 0) f.taken) (drop (i + 1) bytes)
  unfolding hear_from
  hear_more h e = rw (drop-cons bytes i 0 h) (simp (e, add-one))

-- the next byte
pub on_one : (f : Far) (bytes : List ℕ) → f.taken < length bytes → has_news f.heard.event ≡ false
    → on_from f bytes ≡ on_from (behind (hear_byte (get_or bytes f.taken 0) f.heard.hearing) f.body (get_or bytes f.taken 0) f.taken) bytes
unfolding hear_from
on_one f bytes h e = simp e (rw (drop-cons bytes f.taken 0 h) (simp add-one))

pub on_quiet : (f : Far) (bytes : List ℕ) → has_news f.heard.event ≡ false → on_from f bytes ≡ hear_from f (drop f.taken bytes)
on_quiet f bytes e = simp e

-- nothing is left to be heard
over_by : (f : Far) (bytes : List ℕ) (x : Bool) → has_news f.heard.event ≡ x → (has_news f.heard.event ≡ false → f.taken ≡ length bytes) → on_from f bytes ≡ f
over_by f bytes true q over = simp q
over_by f bytes false q over = simp q (hear_end f f.taken bytes (omega (arith, over q)))

pub on_over : (f : Far) (bytes : List ℕ) → (has_news f.heard.event ≡ false → f.taken ≡ length bytes) → on_from f bytes ≡ f
on_over f bytes over = over_by f bytes (has_news f.heard.event) refl over

-- ---- while hunting
module _ where
  abbrev apart : Bool → Bool → Bool → Bool → Heard
  apart t1 t6 t21 t24 =
      pick t1 (heard (Head 0) Inside)
      (pick t6 (heard Hunting (Alone Ack)) (pick t21 (heard Hunting (Alone Nak)) (pick t24 (heard Hunting (Alone Can)) (heard Hunting Skipped))))

  abbrev sign : Bool → Bool → Bool → Bool → Bool
  sign t1 t6 t21 t24 = pick t1 true (pick t6 true (pick t21 true t24))

  apart_keeps : (t1 t6 t21 t24 : Bool) (b : ℕ) (body : List ℕ) → keep (apart t1 t6 t21 t24).event b body ≡ body
  apart_keeps true t6 t21 t24 b body = refl
  apart_keeps false true t21 t24 b body = refl
  apart_keeps false false true t24 b body = refl
  apart_keeps false false false true b body = refl
  apart_keeps false false false false b body = refl

  apart_noise : (t1 t6 t21 t24 : Bool) → sign t1 t6 t21 t24 ≡ false → apart t1 t6 t21 t24 ≡ heard Hunting Skipped
  apart_noise true t6 t21 t24 n = absurd (no n)
  apart_noise false true t21 t24 n = absurd (no n)
  apart_noise false false true t24 n = absurd (no n)
  apart_noise false false false true n = absurd (no n)
  apart_noise false false false false n = refl

pub hunted_keeps : (b : ℕ) (body : List ℕ) → keep (hunted b).event b body ≡ body
hunted_keeps b body = apart_keeps (eqb b 1) (eqb b 6) (eqb b 21) (eqb b 24) b body

skip_quiet : (t : Bool) (e : Event) → has_news e ≡ false → has_news (pick t e Skipped) ≡ false
skip_quiet true e h = h
skip_quiet false e h = refl

-- one skipped byte more
pub noise_more : (bytes : List ℕ) (e : Event) (i n : ℕ) (body : List ℕ) → i ≤ n → n < length bytes → is_sign (get_or bytes n 0) ≡ false
    → hear_from (skipped e i n body) (drop n bytes) ≡ hear_from (skipped e i (n + 1) body) (drop (n + 1) bytes)
noise_more bytes e i n body le h q =
    let x : hunted (get_or bytes n 0) ≡ heard Hunting Skipped = apart_noise (eqb (get_or bytes n 0) 1) (eqb (get_or bytes n 0) 6) (eqb (get_or bytes n 0) 21) (eqb (get_or bytes n 0) 24) q in
    hear_more (skipped e i n body) n bytes h (ap (λ (y : Heard). has_news y.event) x)
    ∙ ap (λ (y : Heard). hear_from (behind y body (get_or bytes n 0) n) (drop (n + 1) bytes)) x
    ∙ simp (ne_eqb (n + 1) i (λ z. omega (arith, z)))

module _ (bytes : List ℕ) (r : Reach) (c : Quiet bytes r) (e : r.hearing ≡ Hunting) (n : ℕ) (z : Noise bytes r.taken n) (body : List ℕ) where
  abbrev b₁ : ℕ
  b₁ = get_or bytes n 0

  to_noise : on_from (far r body) bytes ≡ hear_from (skipped r.event r.taken n body) (drop n bytes)
  to_noise =
      on_quiet (far r body) bytes c.quiet
      ∙ ap (λ (h : Hearing). hear_from (record { heard = heard h r.event; body = body; taken = r.taken }) (drop r.taken bytes)) e
      ∙ (simp (eq-eqb r.taken r.taken refl) at (z.same r.event body))

  still₁ : has_news (pick (eqb n r.taken) r.event Skipped) ≡ false
  still₁ = skip_quiet (eqb n r.taken) r.event c.quiet

  -- noise, and the byte that ends it
  pub hunts_one : n < length bytes → {q : Reach} → q ≡ gone (hunted b₁) (n + 1) → Onward bytes r body q body
  hunts_one h x =
      let s =
      to_noise
      ∙ sym (on_quiet (skipped r.event r.taken n body) bytes still₁)
      ∙ on_one (skipped r.event r.taken n body) bytes h still₁
      ∙ ap (λ (l : List ℕ). on_from (record { heard = hunted b₁; body = l; taken = n + 1 }) bytes) (hunted_keeps b₁ body) in
      record { same = s ∙ ap (λ (q : Reach). on_from (far q body) bytes) (sym x) }

  -- noise alone
  pub hunts_all : length bytes ≤ n → Onward bytes r body (record { hearing = Hunting; event = Skipped; taken = n }) body
  hunts_all h =
      record {
        same =
            to_noise
            ∙ simp (ne_eqb n r.taken (λ w. omega (arith, w, c.there)))
            (sym (on_quiet (record { heard = heard Hunting Skipped; body = body; taken = n }) bytes refl));
      }

-- ---- at Length
module _ where
  abbrev length_heard : Bool → ℕ → ℕ → Heard
  length_heard t clock b = pick t (heard Hunting (Ended BadLength)) (heard (Body (begun clock b)) Inside)

  length_keeps : (t : Bool) (clock b : ℕ) (body : List ℕ) → keep (length_heard t clock b).event b body ≡ body
  length_keeps true clock b body = refl
  length_keeps false clock b body = refl

pub measured_keeps : (clock b : ℕ) (body : List ℕ) → keep (measured clock b).event b body ≡ body
measured_keeps clock b body = length_keeps (ltb b 3) clock b body

pub headed_one : (bytes : List ℕ) (r : Reach) (clock : ℕ) → Quiet bytes r → r.hearing ≡ Head clock
    → {q : Reach} → q ≡ gone (measured clock (get_or bytes r.taken 0)) (r.taken + 1) → (body : List ℕ) → Onward bytes r body q body
headed_one bytes r clock c e x body =
    let b = get_or bytes r.taken 0 in
    let s =
    on_one (far r body) bytes c.there c.quiet
    ∙ ap (λ (v : Hearing). on_from (behind (hear_byte b v) body b r.taken) bytes) e
    ∙ ap (λ (l : List ℕ). on_from (record { heard = measured clock b; body = l; taken = r.taken + 1 }) bytes) (measured_keeps clock b body) in
    record { same = s ∙ ap (λ (q : Reach). on_from (far q body) bytes) (sym x) }

-- ---- noise, an 01 and its Length
pub hunts_head : (bytes : List ℕ) (r : Reach) → Quiet bytes r → r.hearing ≡ Hunting → (n : ℕ) → Noise bytes r.taken n → (body : List ℕ)
    → n + 1 < length bytes → get_or bytes n 0 ≡ 1 → {q : Reach} → q ≡ gone (measured 0 (get_or bytes (n + 1) 0)) (n + 2) → Onward bytes r body q body
hunts_head bytes r c e n z body h one x =
    let start : Reach = gone (heard (Head 0) Inside) (n + 1) in
    let s = hunts_one bytes r c e n z body (omega arith) {q = start} (ap (λ (b : ℕ). gone (hunted b) (n + 1)) (sym one)) in
    let two : n + 2 ≡ n + 1 + 1 = omega arith in
    let t = headed_one bytes start 0 (record { there = h; quiet = refl }) refl (x ∙ ap (λ (k : ℕ). gone (measured 0 (get_or bytes (n + 1) 0)) k) two) body in
    record { same = s.same ∙ t.same }

-- ---- in a body
kept_past : (body : List ℕ) (at : ℕ) (s : List ℕ) → length body ≤ at → kept body at s ≡ body
unfolding kept
kept_past body at [] h = refl
kept_past body at (b ∷ s) h = ap (λ (l : List ℕ). kept l (at + 1) s) (set_out body at b h) ∙ kept_past body (at + 1) s (omega arith)

-- the first byte of the body stays where bytes are kept behind it
kept_under : (x : ℕ) (body : List ℕ) (at : ℕ) (s : List ℕ) → kept (x ∷ body) (suc at) s ≡ x ∷ kept body at s
unfolding kept
kept_under x body at [] = refl
kept_under x body at (b ∷ s) =
    let e : suc at + 1 ≡ suc (at + 1) = omega arith in
    ap (λ (k : ℕ). kept (x ∷ set body at b) k s) e ∙ kept_under x (set body at b) (at + 1) s

laid : (body s : List ℕ) (at first n : ℕ) → first ≡ min (length body) at → n ≡ min (length s) (length body - first)
    → take first body ++ (take n s ++ drop (first + n) body) ≡ kept body at s
unfolding kept
laid [] s at first n e f =
    let z : first ≡ 0 = omega (arith, e) in
    let o : n ≡ 0 = omega (arith, f) in
    simp (z, o) (sym (kept_past [] at s (omega arith)))
laid (x ∷ body) s (suc at) zero n e f = let bad : 1 ≤ 0 = omega (arith, e) in absurd (not-suc-le-zero bad)
laid (x ∷ body) s (suc at) (suc first) n e f =
    let d : suc first + n ≡ suc (first + n) = omega arith in
    rw d (ap (λ (l : List ℕ). x ∷ l) (laid body s at first n (omega (arith, e)) (omega (arith, f))) ∙ sym (kept_under x body at s))
laid (x ∷ body) [] zero zero zero e f = refl
laid (x ∷ body) [] zero zero (suc n) e f = let bad : 1 ≤ 0 = omega (arith, f) in absurd (not-suc-le-zero bad)
laid (x ∷ body) (b ∷ s) zero zero zero e f = let bad : 1 ≤ 0 = omega (arith, f) in absurd (not-suc-le-zero bad)
laid (x ∷ body) (b ∷ s) zero zero (suc n) e f =
    let ih = laid body s 0 0 n (omega arith) (omega (arith, f)) in
    simp zero-add (ap (λ (l : List ℕ). b ∷ l) (simp zero-add at ih) ∙ sym (kept_under b body 0 s))
laid (x ∷ body) s zero (suc first) n e f = let bad : 1 ≤ 0 = omega (arith, e) in absurd (not-suc-le-zero bad)

-- all are kept that have room, in one copy
pub kept_is : (body s : List ℕ) (at first n : ℕ) → first ≡ min 254 at → length body ≡ 254 → n ≡ min (length s) (254 - first)
    → take first body ++ (take n s ++ drop (first + n) body) ≡ kept body at s
kept_is body s at first n e l f = laid body s at first n (e ∙ ap (λ (k : ℕ). min k at) (sym l)) (f ∙ ap (λ (k : ℕ). min (length s) (k - first)) (sym l))

-- Type and Command are the body's first two bytes
kind_on : (at b kind : ℕ) (bs : List ℕ) → picked (at + 1) 0 bs (pick (eqb at 0) b kind) ≡ picked at 0 (b ∷ bs) kind
kind_on zero b kind bs = refl
kind_on (suc k) b kind bs = simp (lt-ltb 0 (suc k + 1) (omega arith), lt-ltb 0 (suc k) (omega arith), ne_eqb (suc k) 0 (λ e. omega (arith, e)))

command_on : (at b command : ℕ) (bs : List ℕ) → picked (at + 1) 1 bs (pick (eqb at 1) b command) ≡ picked at 1 (b ∷ bs) command
command_on zero b command bs = refl
command_on (suc zero) b command bs = refl
command_on (suc (suc k)) b command bs =
    simp (lt-ltb 1 (suc (suc k) + 1) (omega arith), lt-ltb 1 (suc (suc k)) (omega arith), ne_eqb (suc (suc k)) 1 (λ e. omega (arith, e)))

abbrev on_by : Partial → List ℕ → Partial
on_by p s =
    record {
      clock = p.clock;
      size = p.size;
      at = p.at + length s;
      sum = fold p.sum s;
      kind = picked p.at 0 s p.kind;
      command = picked p.at 1 s p.command;
    }

picked_none : (at place old : ℕ) (t : Bool) → pick t old old ≡ old
picked_none at place old true = refl
picked_none at place old false = refl

parts : (clock size sum : ℕ) {a a' k k' c c' : ℕ} → a ≡ a' → k ≡ k' → c ≡ c'
    → ◌≡◌ {A = Partial} (record { clock = clock; size = size; at = a; sum = sum; kind = k; command = c })
    (record { clock = clock; size = size; at = a'; sum = sum; kind = k'; command = c' })
parts clock size sum x y z = simp (x, y, z)

-- what a walk makes of a half-received frame
pub walked_is : (p : Partial) (s : List ℕ) → walked p s ≡ on_by p s
unfolding walked fold
walked_is p [] = simp (picked_none p.at 0 p.kind (ltb 0 p.at), picked_none p.at 1 p.command (ltb 1 p.at), add-zero)
walked_is p (b ∷ bs) =
    let n : p.at + 1 + length bs ≡ p.at + suc (length bs) = omega arith in
    walked_is (more p b) bs
    ∙ parts p.clock p.size (fold (bit_xor p.sum b) bs) n (kind_on p.at b p.kind bs) (command_on p.at b p.command bs)

-- the event of the last byte
unfoldable last : Partial → Event → List ℕ → Event
last p e [] = e
last p e (b ∷ bs) = last (more p b) (Kept p.at) bs

last_kept : (p : Partial) (e : Event) (b : ℕ) (bs : List ℕ) → last p e (b ∷ bs) ≡ Kept (p.at + length bs)
unfolding last
last_kept p e b [] = ap Kept (sym (add-zero p.at))
last_kept p e b (c ∷ bs) =
    let n : p.at + 1 + length bs ≡ p.at + suc (length bs) = omega arith in
    last_kept (more p b) (Kept p.at) c bs ∙ ap Kept n

-- body bytes at once
walks : (p : Partial) (e : Event) (body : List ℕ) (i : ℕ) (s rest : List ℕ) → length s ≤ p.size - p.at
    → hear_from (record { heard = heard (Body p) e; body = body; taken = i }) (s ++ rest)
    ≡ hear_from (record { heard = heard (Body (walked p s)) (last p e s); body = kept body p.at s; taken = i + length s }) rest
unfolding hear_from walked last kept
walks p e body i [] rest h =
    ap (λ (n : ℕ). hear_from (record { heard = heard (Body p) e; body = body; taken = n }) rest) (sym (add-zero i))
walks p e body i (b ∷ s) rest h =
    simp (lt-ltb p.at p.size (omega arith))
    (walks (more p b) (Kept p.at) (set body p.at b) (i + 1) s rest (omega arith)
    ∙ ap (λ (n : ℕ). hear_from (record { heard = heard (Body (walked (more p b) s)) (last (more p b) (Kept p.at) s); body = kept (set body p.at b) (p.at + 1) s; taken = n }) rest)
    (ap (λ (k : ℕ). k + length s) (add-one i) ∙ suc-add i (length s) ∙ sym (add-suc i (length s))))

last_quiet : (p : Partial) (e : Event) (s : List ℕ) → has_news e ≡ false → has_news (last p e s) ≡ false
unfolding last
last_quiet p e [] h = h
last_quiet p e (b ∷ s) h = last_quiet (more p b) (Kept p.at) s refl

last_of : (p : Partial) (e : Event) (s : List ℕ) → 0 < length s → last p e s ≡ Kept ((walked p s).at - 1)
last_of p e [] h = absurd (not-suc-le-zero h)
last_of p e (b ∷ s) h =
    let n : p.at + length s ≡ (walked p (b ∷ s)).at - 1 = omega (arith, ap (λ (q : Partial). q.at) (walked_is p (b ∷ s))) in
    last_kept p e b s ∙ ap Kept n

pub walked_at : (p : Partial) (s : List ℕ) {q : Partial} → q ≡ walked p s → q.at ≡ p.at + length s
walked_at p s x = ap (λ (t : Partial). t.at) (x ∙ walked_is p s)

module _ (bytes : List ℕ) (r : Reach) (p : Partial) (c : Quiet bytes r) (e : r.hearing ≡ Body p) (n : ℕ) (small : n ≤ p.size - p.at) (fits : r.taken + n ≤ length bytes) where
  abbrev i : ℕ
  i = r.taken

  abbrev pub part : List ℕ
  part = take n (drop r.taken bytes)

  pub part_length : length part ≡ n
  part_length = length-take-le n (drop i bytes) (simp length-drop (omega arith))

  still : has_news r.event ≡ false
  still = c.quiet

  abbrev after : List ℕ → ℕ → Far
  after body k = record { heard = heard (Body (walked p part)) (last p r.event part); body = kept body p.at part; taken = i + k }

  far_walked : (body : List ℕ) → on_from (far r body) bytes ≡ on_from (after body n) bytes
  far_walked body =
      on_quiet (far r body) bytes still
      ∙ ap (λ (h : Hearing). hear_from (record { heard = heard h r.event; body = body; taken = i }) (drop i bytes)) e
      ∙ ap (λ (l : List ℕ). hear_from (record { heard = heard (Body p) r.event; body = body; taken = i }) l)
      (sym (take-append-drop n (drop i bytes)) ∙ ap (λ (l : List ℕ). part ++ l) (drop-drop n i bytes))
      ∙ walks p r.event body i part (drop (i + n) bytes) (omega (arith, part_length))
      ∙ ap (λ (k : ℕ). hear_from (after body k) (drop (i + n) bytes)) part_length
      ∙ sym (on_quiet (after body n) bytes (last_quiet p r.event part still))

  module _ (body : List ℕ) {next : Partial} {body' : List ℕ} (x : next ≡ walked p part) (y : body' ≡ kept body p.at part) where
    at_next : next.at ≡ p.at + n
    at_next = ap (λ (q : Partial). q.at) (x ∙ walked_is p part) ∙ ap (λ (k : ℕ). p.at + k) part_length

    size_next : next.size ≡ p.size
    size_next = ap (λ (q : Partial). q.size) (x ∙ walked_is p part)

    walked_to : {v : Event} → last p r.event part ≡ v
        → on_from (far r body) bytes ≡ on_from (record { heard = heard (Body next) v; body = body'; taken = i + n }) bytes
    walked_to {v} w =
        far_walked body
        ∙ ap (λ (q : Partial). on_from (record { heard = heard (Body q) (last p r.event part); body = kept body p.at part; taken = i + n }) bytes) (sym x)
        ∙ ap (λ (l : List ℕ). on_from (record { heard = heard (Body next) (last p r.event part); body = l; taken = i + n }) bytes) (sym y)
        ∙ ap (λ (u : Event). on_from (record { heard = heard (Body next) u; body = body'; taken = i + n }) bytes) w

    -- the bytes end inside the body
    pub bodied_part : 0 < n → Onward bytes r body (record { hearing = Body next; event = Kept (next.at - 1); taken = i + n }) body'
    bodied_part some =
        record { same = walked_to (last_of p r.event part (omega (arith, part_length)) ∙ ap (λ (q : Partial). Kept (q.at - 1)) (sym x)) }

    -- the checksum is there too
    pub bodied_whole : n ≡ p.size - p.at → i + n < length bytes → {q : Reach} → q ≡ gone (followed next (get_or bytes (i + n) 0)) (i + n + 1) → Onward bytes r body q body'
    bodied_whole all h w =
        let f = get_or bytes (i + n) 0 in
        let d : ltb next.at next.size ≡ false = le-ltb next.at next.size (omega (arith, at_next, size_next, all)) in
        let k : keep (followed next f).event f body' ≡ body' = simp d in
        let s =
        walked_to refl
        ∙ on_one (record { heard = heard (Body next) (last p r.event part); body = body'; taken = i + n }) bytes h (last_quiet p r.event part still)
        ∙ ap (λ (l : List ℕ). on_from (record { heard = followed next f; body = l; taken = i + n + 1 }) bytes) k in
        record { same = s ∙ ap (λ (q : Reach). on_from (far q body') bytes) (sym w) }

-- what the walk over the n bytes from place i on leaves
pub walked_here : (bs body : List ℕ) (p : Partial) (i n : ℕ) {next : Partial} {body' : List ℕ}
    → (next ≡ walked p (take (i + n - i) (drop i bs))) × (body' ≡ kept body p.at (take (i + n - i) (drop i bs)))
    → (next ≡ walked p (take n (drop i bs))) × (body' ≡ kept body p.at (take n (drop i bs)))
walked_here bs body p i n w =
    let e : i + n - i ≡ n = omega arith in
    (w.0 ∙ ap (λ (m : ℕ). walked p (take m (drop i bs))) e, w.1 ∙ ap (λ (m : ℕ). kept body p.at (take m (drop i bs))) e)
