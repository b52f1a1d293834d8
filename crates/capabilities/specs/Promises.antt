-- What the parts of `read_capabilities` and `supports` promise each other.
-- Assumes nothing.
use Rattle.std.specs.Prelude.{ℕ, ◌≤◌, ◌≡◌, false, List, length}
use Rattle.masks.specs.Mask.{is_marked}
use Rattle.capabilities.specs.Capabilities.{MASK_AT, LONGEST, function_mask}

-- what the layout says of a body
pub record OfCapabilities (body : List ℕ) : Type 0 where
  pub least : MASK_AT ≤ length body
  pub most : length body ≤ LONGEST
  pub clear : is_marked (function_mask body) 256 ≡ false
