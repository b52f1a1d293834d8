-- Which lines of a script ask for something. Document 01 says nothing of scripts, so this is our own definition.
-- Assumes nothing.
use Rattle.std.specs.Prelude.{ℕ, Bool, true, ◌==◌, List, [], ◌∷◌}

-- an empty line or a comment, which begins with #, asks for nothing
abbrev pub asks_nothing : List ℕ → Bool
asks_nothing [] = true
asks_nothing (c ∷ rest) = c == 35
