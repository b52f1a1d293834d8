-- What a body of the layout is known to have.
-- Assumes nothing.
use mathlib.Core.Path.{◌≡◌, ap, ap₂, ◌∙◌}
use mathlib.Core.Bool.{true}
use mathlib.Core.List.{List}
use Prim.Native.Nat.{ℕ, ◌/◌, ◌%◌, ◌<◌}
use native.Mathlib.Omega.{arith}
use lib.Dec.{ltb}
use lib.ListN.{length, get_or}
use Rattle.std.specs.Int.{w16, to_be_bytes}
use borrow.Author.Tests.{ltb-false}
use Rattle.std.specs.Prelude.{Ok}
use Rattle.masks.specs.Response.{is_response}
use Rattle.masks.specs.Mask.{is_marked}
use Rattle.masks.proofs.Layouts.{both, unmet}
use Rattle.capabilities.specs.Capabilities.{is_capabilities, function_mask, capabilities_of, read_capabilities}
use Rattle.capabilities.specs.Promises.{OfCapabilities}
use Rattle.capabilities.specs.declared.Capabilities.{Capabilities}

pub of_capabilities : (body : List ℕ) → is_capabilities body ≡ true → OfCapabilities body
of_capabilities body e =
    let a = (both (is_response body 7) e).1 in
    let b = unmet (ltb (length body) 10) a in
    let c = unmet (ltb 42 (length body)) b.1 in
    let d = unmet (is_marked (function_mask body) 256) c.1 in
    record { least = ltb-false (length body) 10 b.0; most = ltb-false 42 (length body) c.0; clear = d.0 }

-- what a body of its layout gives
pub capabilities_yes : (body : List ℕ) → is_capabilities body ≡ true → read_capabilities body ≡ Ok (capabilities_of body)
capabilities_yes body e = rw e

-- an answer, by its numbers of two bytes and its count
abbrev pub answer : ℕ → ℕ → ℕ → ℕ → ℕ → ℕ → Capabilities
answer v r m t i n = record { identity = record { version = v; revision = r; manufacturer = m; product_type = t; product_id = i }; supported = n }

pub answer_by : {v r m m' t t' i i' n n' : ℕ} → m ≡ m' → t ≡ t' → i ≡ i' → n ≡ n' → answer v r m t i n ≡ answer v r m' t' i' n'
answer_by {v} {r} {m} {m'} {t} {t'} {i} {i'} {n} {n'} p q s u =
    ap₂ (λ (x y : ℕ). answer v r x y i n) p q ∙ ap₂ (λ (x y : ℕ). answer v r m' t' x y) s u

-- a number's two bytes, most significant first
pub first_byte : (number : ℕ) (bytes : List ℕ) → number < 65536 → bytes ≡ to_be_bytes w16 number → get_or bytes 0 0 ≡ number / 256
first_byte number bytes h e = ap (λ (l : List ℕ). get_or l 0 0) e ∙ omega arith

pub second_byte : (number : ℕ) (bytes : List ℕ) → bytes ≡ to_be_bytes w16 number → get_or bytes 1 0 ≡ number % 256
second_byte number bytes e = ap (λ (l : List ℕ). get_or l 1 0) e
