-- The two ends of a play: which of them a line asks, and what each has put out that the other was not given yet.
-- Assumes nothing.
use Rattle.std.specs.Prelude.{ℕ, ◌+◌, ◌≤◌, ◌≡◌, true, false, List, [], ◌∷◌, ◌⊎◌, take}
use Rattle.std.proofs.Math.Seq.{paste}
use Rattle.refusals.specs.Pick.{pick}
use Rattle.frame.specs.Promises.{fits}
use Rattle.orders.specs.declared.ends.Pending.{Pending}

-- `module` and the space behind it, in ASCII
abbrev pub module_word : List ℕ
module_word = 109 ∷ 111 ∷ 100 ∷ 117 ∷ 108 ∷ 101 ∷ 32 ∷ []

-- a line of n bytes, which stand first in the text, begins with that word
abbrev pub AsksModule : List ℕ → ℕ → Type 0
AsksModule text n = (7 ≤ n) × (take 7 text ≡ module_word)

-- its call stands behind the word, and else at the front
pub record CallAt (text : List ℕ) (n r : ℕ) : Type 0 where
  pub places : (r ≡ 0) ⊎ (r ≡ 7)
  pub to : r ≡ 7 → AsksModule text n
  pub from : AsksModule text n → r ≡ 7

-- nothing is kept, and nothing was lost
abbrev pub none_pending : Pending
none_pending = record { count = 0; is_lost = false }

-- what is kept with a call's n bytes: all of them where they fit behind those that are kept, else none, and that is remembered
abbrev pub kept_with : Pending → List ℕ → ℕ → List ℕ → Pending
kept_with p bytes n kept =
    record {
      count = pick (fits bytes n kept p.count) (p.count + n) p.count;
      is_lost = pick (fits bytes n kept p.count) p.is_lost true;
    }

pub record KeepWhole (p : Pending) (bytes : List ℕ) (n : ℕ) (kept : List ℕ) (r : Pending) (kept' : List ℕ) : Type 0 where
  pub answer : r ≡ kept_with p bytes n kept
  pub left : kept' ≡ pick (fits bytes n kept p.count) (paste kept p.count bytes n) kept
