-- Section 8: a body as handed up is Type, Command, parameters. One of another Type, Command, size or count byte is FORM.
-- Assumes nothing.
use Rattle.std.specs.Prelude.{ℕ, Bool, false, List, ltb, eqb, length, get_or}
use Rattle.refusals.specs.Pick.{pick}
use Rattle.frame.specs.Frame.{RES}

-- Type 01 and this Command
abbrev pub is_response : List ℕ → ℕ → Bool
is_response body command =
    pick (ltb (length body) 2) false
    (pick (eqb (get_or body 0 0) RES)
    (eqb (get_or body 1 0) command)
    false)
