-- What `write_body` promises the writers.
-- Assumes nothing.
use Rattle.std.specs.Prelude.{ℕ, Bool, false, List, ltb, length}
use Rattle.refusals.specs.Pick.{pick}
use Rattle.frame.specs.Frame.{MAX_BODY}

-- a reader takes the body, and a frame carries it: it has at most 254 bytes
abbrev pub carried : Bool → List ℕ → Bool
carried reads body = pick (ltb MAX_BODY (length body)) false reads
