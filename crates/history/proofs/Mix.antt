-- Bytes put out that are single bytes and copies of one frame; what the cutting finds in them.
-- Assumes nothing.
use Prim.Native.Nat.{ℕ, zero, suc, ◌+◌, ◌≤◌, ◌<◌}
use mathlib.Core.Path.{◌≡◌, refl, ap, ap₂, sym, ◌∙◌, subst}
use mathlib.Core.Bool.{Bool, false}
use mathlib.Core.List.{List, [], ◌∷◌, ◌++◌, append_assoc}
use native.Mathlib.Omega.{arith}
use native.Mathlib.Nat.{zero-add, suc-add, not-suc-le-zero}
use lib.Dec.{eqb}
use lib.ListN.{length, take, drop, get_or, replicate, length-append, take-append-drop, length-drop}
use lib.Seq.{take_at, drop_at}
use Rattle.frame.specs.Frame.{START}
use Rattle.rules.specs.declared.Role.{Role}
use Rattle.refusals.specs.Pick.{pick}
use Rattle.history.specs.Cut.{Piece, single, whole, cut_into, cut, frames_of, frames, singles_of, singles, IsAnswer, ack, nak, can, joined}
use Rattle.history.specs.Ranges.{All}
use Rattle.refusals.proofs.Picks.{pick_by}

-- n copies of f among single bytes that are answers
pub data Mix (role : Role) (f : List ℕ) : ℕ → List ℕ → Type 0 where
  end : Mix role f 0 []
  one : {n : ℕ} {l : List ℕ} (b : ℕ) → IsAnswer role b → Mix role f n l → Mix role f n (b ∷ l)
  copy : {n : ℕ} {l : List ℕ} → Mix role f n l → Mix role f (suc n) (f ++ l)

pub mix_append : {role : Role} {f : List ℕ} {m n : ℕ} {a b : List ℕ} → Mix role f m a → Mix role f n b → Mix role f (m + n) (a ++ b)
mix_append {role} {f} {n = n} {b = b} end y = subst (λ (k : ℕ). Mix role f k b) (sym (zero-add n)) y
mix_append (one c h x) y = one c h (mix_append x y)
mix_append {role} {f} {n = n} {b = b} (copy {n = m} {l = l} x) y =
    subst (λ (k : ℕ). Mix role f k ((f ++ l) ++ b)) (sym (suc-add m n))
    (subst (λ (z : List ℕ). Mix role f (suc (m + n)) z) (sym (append_assoc f l b)) (copy (mix_append x y)))

-- a whole frame: 01, Length, and Length bytes more
pub record IsFrame (f : List ℕ) : Type 0 where
  pub len : ℕ
  pub rest : List ℕ
  pub is : f ≡ START ∷ len ∷ rest
  pub fits : length rest ≡ len

-- the pieces that it is made of
abbrev pieces : {role : Role} {f : List ℕ} {n : ℕ} {l : List ℕ} → Mix role f n l → List Piece
pieces end = []
pieces (one b e x) = single b ∷ pieces x
pieces {f = f} (copy x) = whole f ∷ pieces x

nothing_left : (m : ℕ) → cut_into m [] ≡ []
nothing_left zero = refl
nothing_left (suc m) = refl

not_01 : {role : Role} {b : ℕ} → IsAnswer role b → eqb b 1 ≡ false
not_01 ack = refl
not_01 nak = refl
not_01 (can e) = refl

skip : {role : Role} (b : ℕ) (l : List ℕ) (m : ℕ) → IsAnswer role b → cut_into (suc m) (b ∷ l) ≡ single b ∷ cut_into m l
skip b l m e =
    ap
    (λ (x : Bool). pick x (whole (take (get_or l 0 0 + 2) (b ∷ l)) ∷ cut_into m (drop (get_or l 0 0 + 2) (b ∷ l))) (single b ∷ cut_into m l))
    (not_01 e)

found' : (k : ℕ) (r l : List ℕ) (m : ℕ) → length r ≡ k → cut_into (suc m) ((1 ∷ k ∷ r) ++ l) ≡ whole (1 ∷ k ∷ r) ∷ cut_into m l
found' k r l m h =
    let e : suc (suc (length r)) ≡ k + 2 = omega arith in
    ap₂ (λ (x : List ℕ) (y : List ℕ). whole x ∷ cut_into m y) (take_at (1 ∷ k ∷ r) l (k + 2) e) (drop_at (1 ∷ k ∷ r) l (k + 2) e)

found : (f l : List ℕ) (m : ℕ) → IsFrame f → cut_into (suc m) (f ++ l) ≡ whole f ∷ cut_into m l
found f l m w =
    subst (λ (z : List ℕ). cut_into (suc m) (z ++ l) ≡ whole z ∷ cut_into m l) (sym w.is) (found' w.len w.rest l m w.fits)

long : (f : List ℕ) → IsFrame f → 1 < length f
long f w = rw w.is (omega arith)

-- the cutting finds just these
cut_by : {role : Role} {f : List ℕ} {n : ℕ} {l : List ℕ} → IsFrame f → (x : Mix role f n l) → (m : ℕ) → length l ≤ m → cut_into m l ≡ pieces x
cut_by w end m h = nothing_left m
cut_by w (one b e x) zero h = absurd (not-suc-le-zero h)
cut_by w (one {l = l} b e x) (suc m) h = skip b l m e ∙ ap (λ (z : List Piece). single b ∷ z) (cut_by w x m (omega arith))
cut_by {f = f} w (copy {l = l} x) zero h = absurd (omega (arith, long f w, length-append f l))
cut_by {f = f} w (copy {l = l} x) (suc m) h =
    found f l m w ∙ ap (λ (z : List Piece). whole f ∷ z) (cut_by w x m (omega (arith, long f w, length-append f l)))

cut_is : {role : Role} {f : List ℕ} {n : ℕ} {l : List ℕ} → IsFrame f → (x : Mix role f n l) → cut l ≡ pieces x
cut_is {l = l} w x = cut_by w x (length l) (omega arith)

frames_are : {role : Role} {f : List ℕ} {n : ℕ} {l : List ℕ} (x : Mix role f n l) → frames_of (pieces x) ≡ replicate n f
frames_are end = refl
frames_are (one b e x) = frames_are x
frames_are {f = f} (copy x) = ap (λ (z : List (List ℕ)). f ∷ z) (frames_are x)

answers_are : {role : Role} {f : List ℕ} {n : ℕ} {l : List ℕ} (x : Mix role f n l) → All (IsAnswer role) (singles_of (pieces x))
answers_are end = tt
answers_are (one b e x) = (e, answers_are x)
answers_are (copy x) = answers_are x

-- the frames found are the copies
pub mix_frames : {role : Role} {f : List ℕ} {n : ℕ} {l : List ℕ} → IsFrame f → Mix role f n l → frames l ≡ replicate n f
mix_frames w x = ap frames_of (cut_is w x) ∙ frames_are x

-- and the single bytes found are answers
pub mix_answers : {role : Role} {f : List ℕ} {n : ℕ} {l : List ℕ} → IsFrame f → Mix role f n l → All (IsAnswer role) (singles l)
mix_answers {role} w x = subst (λ (ps : List Piece). All (IsAnswer role) (singles_of ps)) (sym (cut_is w x)) (answers_are x)

-- ---- the cutting leaves no byte out
joined_by : (m : ℕ) (l : List ℕ) → length l ≤ m → joined (cut_into m l) ≡ l
joined_by zero [] h = refl
joined_by zero (b ∷ l) h = absurd (not-suc-le-zero h)
joined_by (suc m) [] h = refl
joined_by (suc m) (b ∷ l) h =
    let n = get_or l 0 0 + 2 in
    pick_by (λ (ps : List Piece). joined ps ≡ b ∷ l) (eqb b 1) _ _
    (λ _. ap (λ (z : List ℕ). take n (b ∷ l) ++ z) (joined_by m (drop n (b ∷ l)) (omega (arith, length-drop n (b ∷ l)))) ∙ take-append-drop n (b ∷ l))
    (λ _. ap (λ (z : List ℕ). b ∷ z) (joined_by m l (omega arith)))

pub cut_joined : (l : List ℕ) → joined (cut l) ≡ l
cut_joined l = joined_by (length l) l (omega arith)
