-- Document 02, P5: the capabilities response is written as the body that is handed up; a body that its reader would refuse is refused alike.
-- Assumes nothing.
use Rattle.std.specs.Prelude.{ℕ, ◌/◌, ◌%◌, List, ◌∷◌, Result}
use Rattle.refusals.specs.declared.Refusal.{Refusal}
use Rattle.frame.specs.Frame.{RES}
use Rattle.masks.specs.Written.{Write}
use Rattle.capabilities.specs.Capabilities.{CAPABILITIES, is_capabilities}
use Rattle.capabilities.specs.declared.Identity.{Identity}

-- the two bytes of a number
abbrev pub high_byte : ℕ → ℕ
high_byte number = number / 256

abbrev pub low_byte : ℕ → ℕ
low_byte number = number % 256

-- Type, Command, version, revision, then manufacturer, product type and product id, each most significant byte first; then the mask
unfoldable pub capabilities_body : Identity → List ℕ → List ℕ
capabilities_body i mask =
    RES ∷ CAPABILITIES ∷ i.version ∷ i.revision
    ∷ high_byte i.manufacturer ∷ low_byte i.manufacturer
    ∷ high_byte i.product_type ∷ low_byte i.product_type
    ∷ high_byte i.product_id ∷ low_byte i.product_id
    ∷ mask

-- written if its own reader takes it
abbrev pub WriteCapabilities : List ℕ → List ℕ → Result ℕ Refusal → List ℕ → Type 0
WriteCapabilities body lent r lent' = Write (is_capabilities body) body lent r lent'
