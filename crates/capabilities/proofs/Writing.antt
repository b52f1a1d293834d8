-- What `write_capabilities` makes, and what its reader says of it.
--     body_length     10 bytes more than the mask has
--     long_refused    a body of more than 42 bytes is not of the layout
--     parts_written   what is written of the parts is what is written of the body
-- Assumes nothing.
use mathlib.Core.Path.{◌≡◌, refl, ap, ◌∙◌}
use mathlib.Core.Bool.{Bool, true, false}
use mathlib.Core.List.{List, [], ◌++◌, append-nil}
use Prim.Native.Nat.{ℕ, ◌+◌, ◌<◌}
use native.Mathlib.Omega.{arith}
use lib.Dec.{ltb}
use lib.ListN.{length}
use borrow.Author.Tests.{lt-ltb}
use Rattle.std.specs.Prelude.{Result}
use Rattle.refusals.specs.Pick.{pick}
use Rattle.refusals.specs.declared.Refusal.{Refusal}
use Rattle.masks.specs.Mask.{is_marked}
use Rattle.masks.specs.Response.{is_response}
use Rattle.masks.specs.Written.{Write}
use Rattle.masks.specs.Promises.{carried}
use Rattle.masks.proofs.Writing.{asked_whole}
use Rattle.capabilities.specs.Capabilities.{function_mask, is_capabilities}
use Rattle.capabilities.specs.Writer.{capabilities_body}
use Rattle.capabilities.specs.declared.Identity.{Identity}

pub body_length : (identity : Identity) (mask : List ℕ)
    → length (capabilities_body identity mask) ≡ 10 + length mask
unfolding capabilities_body
body_length identity mask = omega arith

-- whatever the tests before and behind say
long_by : (a b c : Bool) → pick a (pick b false (pick true false c)) false ≡ false
long_by true true c = refl
long_by true false c = refl
long_by false b c = refl

pub long_refused : (body : List ℕ) → 42 < length body → is_capabilities body ≡ false
long_refused body h =
    ap
    (λ (t : Bool). pick (is_response body 7) (pick (ltb (length body) 10) false (pick t false (pick (is_marked (function_mask body) 256) false true))) false)
    (lt-ltb 42 (length body) h)
    ∙ long_by (is_response body 7) (ltb (length body) 10) (pick (is_marked (function_mask body) 256) false true)

pub parts_written : (identity : Identity) (mask lent : List ℕ) {fixed : List ℕ} {r : Result ℕ Refusal} {lent' : List ℕ}
    → fixed ≡ capabilities_body identity []
    → Write (carried (is_capabilities (fixed ++ mask ++ [])) (fixed ++ mask ++ [])) (fixed ++ mask ++ []) lent r lent'
    → Write (is_capabilities (capabilities_body identity mask)) (capabilities_body identity mask) lent r lent'
unfolding capabilities_body
parts_written identity mask lent {fixed} e w =
    asked_whole is_capabilities (fixed ++ mask ++ []) (capabilities_body identity mask) lent
    (append-nil (fixed ++ mask) ∙ ap (λ (l : List ℕ). l ++ mask) e)
    (λ h. long_refused (capabilities_body identity mask) (omega (arith, body_length identity mask)))
    w
