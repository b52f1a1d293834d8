-- What body bytes, one after the other, leave of a half-received frame: its size, how many have come, their sum, its Type.
-- Assumes nothing.
use mathlib.Core.Path.{◌≡◌, refl, ◌∙◌}
use mathlib.Core.List.{List, [], ◌∷◌}
use Prim.Native.Nat.{ℕ, ◌+◌, ◌<◌}
use native.Mathlib.Omega.{arith}
use borrow.Author.Tests.{ne_eqb}
use lib.ListN.{length}
use Rattle.frame.specs.Bytes.{fold}
use Rattle.hearing.specs.Hearing.{more}
use Rattle.hearing.specs.Promises.{walked}
use Rattle.hearing.specs.declared.hearing.Partial.{Partial}

pub walked_size : (p : Partial) (bs : List ℕ) → (walked p bs).size ≡ p.size
unfolding walked
walked_size p [] = refl
walked_size p (b ∷ bs) = walked_size (more p b) bs

pub walked_at : (p : Partial) (bs : List ℕ) → (walked p bs).at ≡ p.at + length bs
unfolding walked
walked_at p [] = omega arith
walked_at p (b ∷ bs) = omega (arith, walked_at (more p b) bs)

pub walked_sum : (p : Partial) (bs : List ℕ) → (walked p bs).sum ≡ fold p.sum bs
unfolding walked fold
walked_sum p [] = refl
walked_sum p (b ∷ bs) = walked_sum (more p b) bs

-- behind the Type no byte changes it
pub walked_kind : (p : Partial) (bs : List ℕ) → 0 < p.at → (walked p bs).kind ≡ p.kind
unfolding walked
walked_kind p [] h = refl
walked_kind p (b ∷ bs) h = walked_kind (more p b) bs (omega arith) ∙ simp (ne_eqb p.at 0 (λ e. omega (arith, e)))
