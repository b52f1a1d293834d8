-- A frame under reception in numbers, and the bytes that it stands for.
-- Assumes nothing.
use Prim.Native.Nat.{ℕ, suc, ◌-◌, ◌<◌}
use mathlib.Core.Path.{◌≡◌, refl, ap, ap₂, sym, ◌∙◌}
use mathlib.Core.Bool.{Bool}
use mathlib.Core.List.{List, [], ◌∷◌, ◌++◌}
use native.Mathlib.Omega.{arith}
use lib.Bits.{bit_xor}
use lib.Dec.{eqb}
use lib.ListN.{length, take, set, get_or, length-append}
use lib.Seq.{take-suc-set}
use borrow.Author.Tests.{ne_eqb}
use Rattle.refusals.specs.Pick.{pick}
use Rattle.frame.specs.Frame.{SEED}
use Rattle.frame.specs.Bytes.{fold}
use Rattle.frame.proofs.Folds.{fold_append}
use Rattle.hearing.specs.Hearing.{begun, more}
use Rattle.hearing.specs.declared.hearing.Partial.{Partial}

-- the Length and these body bytes have come
abbrev pub partial_of : ℕ → ℕ → List ℕ → Partial
partial_of clock len bs =
    record { clock = clock; size = len - 1; at = length bs; sum = fold SEED (len ∷ bs); kind = get_or bs 0 0; command = get_or bs 1 0 }

pub begun_is : (clock len : ℕ) → begun clock len ≡ partial_of clock len []
unfolding fold
begun_is clock len = refl

first_is : (bs : List ℕ) (b : ℕ) → pick (eqb (length bs) 0) b (get_or bs 0 0) ≡ get_or (bs ++ (b ∷ [])) 0 0
first_is [] b = refl
first_is (x ∷ bs) b = ap (λ (t : Bool). pick t b x) (ne_eqb (suc (length bs)) 0 (λ e. omega arith))

second_is : (bs : List ℕ) (b : ℕ) → pick (eqb (length bs) 1) b (get_or bs 1 0) ≡ get_or (bs ++ (b ∷ [])) 1 0
second_is [] b = refl
second_is (x ∷ []) b = refl
second_is (x ∷ y ∷ bs) b = ap (λ (t : Bool). pick t b y) (ne_eqb (suc (suc (length bs))) 1 (λ e. omega arith))

sum_is : (a : ℕ) (bs : List ℕ) (b : ℕ) → bit_xor (fold a bs) b ≡ fold a (bs ++ (b ∷ []))
unfolding fold
sum_is a bs b = sym (fold_append a bs (b ∷ []))

same : (clock size : ℕ) (at at' sum sum' kind kind' command command' : ℕ) → at ≡ at' → sum ≡ sum' → kind ≡ kind' → command ≡ command'
    → ◌≡◌ {A = Partial} (record { clock = clock; size = size; at = at; sum = sum; kind = kind; command = command }) (record { clock = clock; size = size; at = at'; sum = sum'; kind = kind'; command = command' })
same clock size at at' sum sum' kind kind' command command' p q r s = λ i. record { clock = clock; size = size; at = p i; sum = q i; kind = r i; command = s i }

pub more_is : (clock len : ℕ) (bs : List ℕ) (b : ℕ) → more (partial_of clock len bs) b ≡ partial_of clock len (bs ++ (b ∷ []))
more_is clock len bs b =
    same clock (len - 1) _ _ _ _ _ _ _ _ (sym (length-append bs (b ∷ []))) (sum_is 255 (len ∷ bs) b) (first_is bs b) (second_is bs b)

-- one more byte in the body array
pub kept_more : (d bs : List ℕ) (at b : ℕ) → at ≡ length bs → length bs < length d → take (length bs) d ≡ bs → take (length (bs ++ (b ∷ []))) (set d at b) ≡ bs ++ (b ∷ [])
kept_more d bs at b q k e =
    let n : length (bs ++ (b ∷ [])) ≡ suc (length bs) = omega (arith, length-append bs (b ∷ [])) in
    ap₂ (λ (i : ℕ) (j : ℕ). take i (set d j b)) n q ∙ take-suc-set d (length bs) b k ∙ ap (λ (z : List ℕ). z ++ (b ∷ [])) e
