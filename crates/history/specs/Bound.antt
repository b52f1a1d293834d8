-- The bound of demand 3, for any rules of sending: how long a send or session can last.
-- Assumes nothing.
use Rattle.std.specs.Prelude.{ℕ, zero, suc, ◌+◌, ◌-◌, ◌≤◌, ◌<◌, None, Option, Some}
use Rattle.rules.specs.Rules.{Rules, back_offs}
use Rattle.rules.specs.declared.Mode.{Mode}
use Rattle.rules.specs.declared.Mode.TheVariants.{Sooner, Spaced}
use Rattle.rules.specs.declared.Cause.{Cause}
use Rattle.rules.specs.declared.Cause.TheVariants.{Told, Time}

-- What the bound needs of the rules: g n bounds the back-off after copy n is lost; a told back-off may be one longer, since 15 or 18 comes a tick before the loss at the latest.
pub record Fits (R : Rules) (g : ℕ → ℕ) : Type 0 where
  pub wait : (size : ℕ) → 0 < R.wait size
  pub late : (n : ℕ) → R.back Time n ≤ g n
  pub early : (n : ℕ) → R.back Told n ≤ g n + 1

-- For the rules that hold: in the old mode the back-off itself; in the new mode one tick less, since there the longest is that of a 15 or 18 that comes
-- a tick before the loss.
abbrev pub spare : Mode → ℕ → ℕ
spare Sooner n = back_offs n - 1
spare Spaced n = back_offs n

-- ticks after copy n is lost, at most, until the verdict: the back-off, all but one of a frame's 1,501 ticks, and the wait W of the next copy
abbrev pub tail : ℕ → (ℕ → ℕ) → ℕ → ℕ
tail W g zero = 0
tail W g (suc zero) = g 1 + 1500 + W + (g 2 + 1500 + W + (g 3 + 1500 + W))
tail W g (suc (suc zero)) = g 2 + 1500 + W + (g 3 + 1500 + W)
tail W g (suc (suc (suc zero))) = g 3 + 1500 + W
tail W g (suc (suc (suc (suc n)))) = 0

-- a session's ACK comes a tick before the loss at the latest; then it waits 5,000
abbrev pub extra : Option ℕ → ℕ
extra None = 0
extra (Some c) = 4999

-- a frame's time, a wait, and what comes after copy 1 is lost
abbrev pub bound : Rules → (ℕ → ℕ) → Option ℕ → ℕ → ℕ
bound R g a size = 1501 + (R.wait size + tail (R.wait size) g 1 + extra a)

-- back-offs of which the one by 15 or 18 is one longer than the one by time
abbrev pub told_longer : Cause → ℕ → ℕ
told_longer Told n = 1
told_longer Time n = 0
