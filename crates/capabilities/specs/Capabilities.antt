-- Section 8, Capabilities RES (002, 7.3): 8 fixed bytes, then 0 to 32 mask bytes. The bit for 256 must be 0.
-- Assumes nothing.
use Rattle.std.specs.Prelude.{ℕ, ◌+◌, ◌*◌, Bool, true, false, List, [], ◌∷◌, ◌++◌, ltb, length, get_or, drop, Result, Ok, Err}
use Rattle.refusals.specs.Pick.{pick}
use Rattle.refusals.specs.Refusals.{number_of}
use Rattle.refusals.specs.declared.Refusal.{Refusal}
use Rattle.refusals.specs.declared.Refusal.TheVariants as refusal
use Rattle.masks.specs.Response.{is_response}
use Rattle.masks.specs.Mask.{is_marked, marked}
use Rattle.capabilities.specs.declared.Capabilities.{Capabilities}
use Rattle.capabilities.specs.declared.Identity.{Identity}

-- command 07
abbrev pub CAPABILITIES : ℕ
CAPABILITIES = 0x07

-- Type, Command and 8 fixed bytes, then 0 to 32 mask bytes
abbrev pub MASK_AT : ℕ
MASK_AT = 10

abbrev pub LONGEST : ℕ
LONGEST = 42

-- a number of two bytes, most significant first
abbrev pub word : ℕ → ℕ → ℕ
word high low = high * 256 + low

-- behind Type, Command and the 8 fixed bytes
abbrev pub function_mask : List ℕ → List ℕ
function_mask body = drop MASK_AT body

abbrev pub is_capabilities : List ℕ → Bool
is_capabilities body =
    pick (is_response body CAPABILITIES)
    (pick (ltb (length body) MASK_AT) false
    (pick (ltb LONGEST (length body)) false
    (pick (is_marked (function_mask body) 256) false true)))
    false

-- the number of supported functions
abbrev pub supported : List ℕ → ℕ
supported body = length (marked (function_mask body) 255)

-- the eight fixed bytes: version, revision, then manufacturer, product type and product id as numbers of two bytes
abbrev pub identity_of : List ℕ → Identity
identity_of body = record {
  version = get_or body 2 0;
  revision = get_or body 3 0;
  manufacturer = word (get_or body 4 0) (get_or body 5 0);
  product_type = word (get_or body 6 0) (get_or body 7 0);
  product_id = word (get_or body 8 0) (get_or body 9 0);
}

abbrev pub capabilities_of : List ℕ → Capabilities
capabilities_of body = record { identity = identity_of body; supported = supported body }

-- the values of what the fixed bytes say
abbrev pub identity_told : Identity → List ℕ
identity_told i = i.version ∷ i.revision ∷ i.manufacturer ∷ i.product_type ∷ i.product_id ∷ []

-- the number of the refusal; of an answer 0 and its values
abbrev pub capabilities_told : Result Capabilities Refusal → List ℕ
capabilities_told (Err k) = number_of k ∷ []
capabilities_told (Ok c) = 0 ∷ (identity_told c.identity ++ (c.supported ∷ []))

abbrev pub read_capabilities : List ℕ → Result Capabilities Refusal
read_capabilities body = pick (is_capabilities body) (Ok (capabilities_of body)) (Err refusal.Form)

-- the number of the refusal; 0, and 1 for supported
abbrev pub support_told : Result Bool Refusal → List ℕ
support_told (Err k) = number_of k ∷ []
support_told (Ok true) = 0 ∷ 1 ∷ []
support_told (Ok false) = 0 ∷ 0 ∷ []

-- one function of a body
abbrev pub supports : List ℕ → ℕ → Result Bool Refusal
supports body f = pick (is_capabilities body) (Ok (is_marked (function_mask body) f)) (Err refusal.Form)
