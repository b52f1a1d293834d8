-- A scene leaves out no call that put out bytes.
-- Assumes nothing.
use Prim.Native.Nat.{ℕ, suc}
use mathlib.Core.Path.{◌≡◌, refl, ap, ◌∙◌}
use mathlib.Core.Bool.{Bool, true, false}
use mathlib.Core.List.{List, ◌∷◌}
use native.Mathlib.Omega.{arith}
use lib.ListN.{length}
use lib.Dec.{eqb}
use borrow.Author.Tests.{ne_eqb}
use Rattle.refusals.specs.Pick.{pick}
use Rattle.link.specs.Out.{Out, news}
use Rattle.refusals.proofs.Picks.{pick_ok}
use Rattle.scenes.specs.Scene.{is_shown}

pub shows_bytes : (o : Out) (b : ℕ) (bs : List ℕ) → o.line ≡ b ∷ bs → is_shown o ≡ true
shows_bytes o b bs e =
    pick_ok (λ (x : Bool). x ≡ true) (news o) _ _ refl
    (ap (λ (l : List ℕ). pick (eqb (length l) 0) false true) e ∙ ap (λ (x : Bool). pick x false true) (ne_eqb (suc (length bs)) 0 (λ z. omega arith)))
