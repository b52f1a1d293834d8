-- Document 02, P5: a response is written into 254 lent bytes (else ROOM); a body that its reader would refuse is refused alike.
-- ROOM comes before FORM. Bytes beyond the body stay.
-- Assumes nothing.
use Rattle.std.specs.Prelude.{ℕ, ◌≡◌, Bool, List, [], ◌∷◌, ltb, length, Result, Ok, Err}
use Rattle.refusals.specs.Pick.{pick}
use Rattle.refusals.specs.Refusals.{number_of}
use Rattle.refusals.specs.declared.Refusal.{Refusal}
use Rattle.refusals.specs.declared.Refusal.TheVariants as refusal
use Rattle.frame.specs.Bytes.{over}
use Rattle.frame.specs.Frame.{MAX_BODY}

-- whether its reader takes the body, the body's length, and the number of lent bytes
abbrev pub written_of : Bool → ℕ → ℕ → Result ℕ Refusal
written_of reads n room =
    pick (ltb room MAX_BODY) (Err refusal.Room)
    (pick reads (Ok n) (Err refusal.Form))

-- A refusal returns its number alone; a body is told by 0 and its length.
abbrev pub written_told : Result ℕ Refusal → List ℕ
written_told (Err k) = number_of k ∷ []
written_told (Ok n) = 0 ∷ n ∷ []

-- the lent bytes after the call
abbrev pub body_left : Result ℕ Refusal → List ℕ → List ℕ → List ℕ
body_left (Err k) body lent = lent
body_left (Ok n) body lent = over body lent

pub record Write (reads : Bool) (body lent : List ℕ) (r : Result ℕ Refusal) (lent' : List ℕ) : Type 0 where
  pub answer : r ≡ written_of reads (length body) (length lent)
  pub left : lent' ≡ body_left (written_of reads (length body) (length lent)) body lent
