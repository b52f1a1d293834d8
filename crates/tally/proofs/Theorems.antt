-- What holds of the tally.
-- Assumes nothing.
use mathlib.Core.Path.{◌≡◌}
use Prim.Native.Nat.{ℕ}
use Rattle.refusals.proofs.Theorems.{fixed}
use Rattle.hearing.specs.declared.hearing.Hearing.{Hearing}
use Rattle.tally.specs.declared.Tally.{Tally}
use Rattle.tally.specs.Tally.{one_more, count_byte, fresh, open_bytes}

-- Section 12: each promise determines its answer.

pub fresh_determined : {r q : Tally} → r ≡ fresh → q ≡ fresh → r ≡ q
fresh_determined = fixed

pub more_determined : (n : ℕ) {r q : ℕ} → r ≡ one_more n → q ≡ one_more n → r ≡ q
more_determined n = fixed

pub byte_determined : (b : ℕ) (t : Tally) {r q : Tally} → r ≡ count_byte b t → q ≡ count_byte b t → r ≡ q
byte_determined b t = fixed

pub open_determined : (h : Hearing) {r q : ℕ} → r ≡ open_bytes h → q ≡ open_bytes h → r ≡ q
open_determined h = fixed
