-- What `lay` promises: a copy where all of it fits, else nothing.
-- Assumes nothing.
use Rattle.std.specs.Prelude.{ℕ, ◌+◌, ◌≡◌, Bool, true, false, List, ltb, length}
use Rattle.std.proofs.Math.Seq.{paste}
use Rattle.refusals.specs.Pick.{pick}

-- n bytes of src fit into dst from `at`
abbrev pub fits : List ℕ → ℕ → List ℕ → ℕ → Bool
fits src n dst at = pick (ltb (length src) n) false (pick (ltb (length dst) (at + n)) false true)

-- what `lay` answers and leaves
pub record Lay (src : List ℕ) (n : ℕ) (dst : List ℕ) (at : ℕ) (r : Bool) (dst' : List ℕ) : Type 0 where
  pub answer : r ≡ fits src n dst at
  pub left : dst' ≡ pick (fits src n dst at) (paste dst at src n) dst
