-- What layouts share: the part of a body from a place on, and tests one after the other.
-- Assumes nothing.
use mathlib.Core.Path.{◌≡◌, sym}
use mathlib.Core.Bool.{Bool, true, false}
use mathlib.Core.List.{List}
use Prim.Native.Nat.{ℕ, ◌<◌, ◌+◌}
use lib.ListN.{get_or, drop}
use lib.Seq.{get_or-drop}
use Rattle.refusals.specs.Pick.{pick}
use Rattle.refusals.proofs.Picks.{picked_first, picked_second, no}

-- bytes are bytes from n on
pub bytes_from : (n : ℕ) (body : List ℕ) → ((i : ℕ) → get_or body i 0 < 256) → (i : ℕ) → get_or (drop n body) i 0 < 256
bytes_from n body bytes i = rw (get_or-drop n body i 0) (bytes (n + i))

-- a test that must hold, and what follows
pub both : (t : Bool) {a : Bool} → pick t a false ≡ true → (t ≡ true) × (a ≡ true)
both t = picked_first t (λ e. no (sym e))

-- a test that must not hold, and what follows
pub unmet : (t : Bool) {a : Bool} → pick t false a ≡ true → (t ≡ false) × (a ≡ true)
unmet t = picked_second t (λ e. no (sym e))
