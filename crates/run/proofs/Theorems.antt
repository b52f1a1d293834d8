-- The promise of a run of bytes fixes its answer, and the body that it leaves (document 01, section 12).
--     hear_run_determined   how far a run was heard, and the body of 254 bytes after it
-- Assumes nothing.
use mathlib.Core.Path.{◌≡◌, ap}
use mathlib.Core.List.{List}
use Prim.Native.Nat.{ℕ}
use Rattle.refusals.proofs.Theorems.{fixed}
use Rattle.hearing.specs.declared.hearing.Hearing.{Hearing}
use Rattle.run.specs.declared.run.Reach.{Reach}
use Rattle.run.specs.Promises.{Far, gone, HearRun}

pub hear_run_determined : {before : Hearing} {bytes body : List ℕ} {r q : Reach} {a b : List ℕ}
    → HearRun before bytes body r a → HearRun before bytes body q b → (r ≡ q) × (a ≡ b)
hear_run_determined x y =
    let e = fixed x.all y.all in
    (ap (λ (f : Far). gone f.heard f.taken) e, ap (λ (f : Far). f.body) e)
