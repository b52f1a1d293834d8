-- What is put piece by piece, one behind the other, is put whole.
-- Assumes nothing.
use Rattle.std.proofs.Common.{◌≡◌, ℕ, ◌+◌, ◌<◌, ◌++◌, List, [], length, slice_index, take, flat_map, Result, Ok, Err, IsOk, IsErr, false, true, refl, sym, ap, subst, ◌∙◌, arith}
use Rattle.std.proofs.lemmas.Bool.{false≢true, ne_eqb}
use Rattle.std.proofs.lemmas.List.{append_assoc, flat_map_more, take_more, length-append}
use Rattle.std.proofs.lemmas.List.Folds.{length-flat_map-take}
use Rattle.arrayvec.specs.ArrayVec.{ArrayVec, Extends}
use Rattle.script.specs.Output.{Follows, HasRoom, Puts, bytes_text, hex}

-- a text was put, and the answer was Ok
abbrev pub Put : ArrayVec ℕ → List ℕ → ArrayVec ℕ → Type 0
Put a s b = Puts {E = Unit {0}} a s (Ok tt) b

-- one text behind the other
follows_on : (a b c : ArrayVec ℕ) (s t : List ℕ) → Follows a s b → Follows b t c → Follows a (s ++ t) c
follows_on a b c s t p q = (
  p.0 ++ q.0,
  append_assoc p.0 q.0 c.items ∙ ap (λ l. p.0 ++ l) q.1 ∙ sym (append_assoc p.0 b.items t) ∙ ap (λ l. l ++ t) p.1 ∙ append_assoc a.items s t,
)

fits_on : {E : Type 0} (a b c : ArrayVec ℕ) (s t : List ℕ) (r : Result (Unit {0}) E) → Put a s b → (HasRoom b t → IsOk r × Extends b t c)
    → HasRoom a (s ++ t) → IsOk r × Extends a (s ++ t) c
fits_on {E} a b c s t r p q room =
    let first = (p.1 (omega (arith, room, length-append s t))).1 in
    let second = q (omega (arith, room, length-append s t, ap length first, length-append a.items s)) in
    (second.0, second.1 ∙ ap (λ l. l ++ t) first ∙ append_assoc a.items s t)

pub puts_on : {E : Type 0} (a b c : ArrayVec ℕ) (s t : List ℕ) (r : Result (Unit {0}) E) → Put a s b → Puts b t r c → Puts a (s ++ t) r c
puts_on {E} a b c s t (Ok v) p q = (follows_on a b c s t p.0 q.0, fits_on {E = E} a b c s t (Ok v) p q.1)
puts_on {E} a b c s t (Err e) p q = (q.0, fits_on {E = E} a b c s t (Err e) p q.1)

-- what has no room may fail
pub fails : {E : Type 0} (a b : ArrayVec ℕ) (s : List ℕ) (r : Result (Unit {0}) E) → IsErr r → (HasRoom a s → false ≡ true) → Puts a s r b
fails {E} a b s (Ok v) e none = absurd (false≢true e)
fails {E} a b s (Err v) e none = (tt, λ room. absurd (false≢true (none room)))

-- where there is a byte, bytes are their digits
some_bytes : (xs : List ℕ) (i : ℕ) → i < length xs → bytes_text xs ≡ flat_map hex xs
some_bytes xs i lt = rw (ne_eqb (length xs) 0 (λ e. absurd (omega (arith, lt, e)))) refl

-- the digits of one byte more
pub byte_more : (xs : List ℕ) (i : ℕ) → i < length xs → flat_map hex (take i xs) ++ hex (slice_index xs i) ≡ flat_map hex (take (i + 1) xs)
byte_more xs i lt = flat_map_more hex [] (take i xs) (slice_index xs i) ∙ ap (flat_map hex) (sym (take_more xs i 0 lt))

-- where all bytes have room, those that come so far have it
pub bytes_room : (w : ArrayVec ℕ) (xs : List ℕ) (i : ℕ) → i < length xs → HasRoom w (bytes_text xs) → HasRoom w (flat_map hex (take i xs) ++ hex (slice_index xs i))
bytes_room w xs i lt room =
    let all : HasRoom w (flat_map hex xs) = subst (HasRoom w) (some_bytes xs i lt) room in
    omega (arith, all, length-append (flat_map hex (take i xs)) (hex (slice_index xs i)), length-flat_map-take hex xs i 0 lt)
