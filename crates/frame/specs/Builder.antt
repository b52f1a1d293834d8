-- Section 3, build: KIND, LONG, ROOM (needs n + 5). Bytes beyond the frame stay.
-- Assumes nothing.
use Rattle.std.specs.Prelude.{ℕ, ◌+◌, ◌≡◌, List, [], ◌∷◌, ltb, length, Result, Ok, Err}
use Rattle.refusals.specs.Pick.{pick}
use Rattle.frame.specs.Bytes.{over}
use Rattle.frame.specs.Frame.{frame_of, RES, MAX_PARAMETERS}
use Rattle.refusals.specs.Refusals.{number_of}
use Rattle.refusals.specs.declared.Refusal.{Refusal}
use Rattle.refusals.specs.declared.Refusal.TheVariants as refusal

-- for n parameters and so many lent bytes
abbrev pub built_of : ℕ → ℕ → ℕ → Result ℕ Refusal
built_of kind n room =
    pick (ltb RES kind) (Err refusal.Kind)
    (pick (ltb MAX_PARAMETERS n) (Err refusal.Long)
    (pick (ltb room (n + 5)) (Err refusal.Room)
    (Ok (n + 5))))

-- A refusal returns its number alone; a frame is told by 0 and its length.
abbrev pub built_told : Result ℕ Refusal → List ℕ
built_told (Err k) = number_of k ∷ []
built_told (Ok n) = 0 ∷ n ∷ []

-- the lent bytes after the call
abbrev pub left_by : Result ℕ Refusal → List ℕ → List ℕ → List ℕ
left_by (Err k) frame lent = lent
left_by (Ok n) frame lent = over frame lent

pub record Build (kind command : ℕ) (ps lent : List ℕ) (r : Result ℕ Refusal) (lent' : List ℕ) : Type 0 where
  pub answer : r ≡ built_of kind (length ps) (length lent)
  pub left : lent' ≡ left_by (built_of kind (length ps) (length lent)) (frame_of kind command ps) lent
