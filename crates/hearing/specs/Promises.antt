-- Many body bytes at once, for `run` and `counting`. A reader need not believe it: both are proved to be those bytes one by one.
-- Assumes nothing.
use Rattle.std.specs.Prelude.{ℕ, List, [], ◌∷◌}
use Rattle.hearing.specs.Hearing.{more}
use Rattle.hearing.specs.declared.hearing.Partial.{Partial}

-- these body bytes, one after the other
unfoldable pub walked : Partial → List ℕ → Partial
walked p [] = p
walked p (b ∷ bs) = walked (more p b) bs
