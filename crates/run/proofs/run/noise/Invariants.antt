-- The loop of `run::run::noise`: hearing what is left from i on gives what hearing from the start of the noise gives.
-- Assumes nothing.
use Rattle.std.proofs.Common.{◌≡◌, List, ℕ, drop}
use Rattle.hearing.specs.declared.hearing.Event.{Event}
use Rattle.run.specs.Promises.{hear_from, skipped}
use Rattle.run.proofs.run.noise.Given as goal

abbrev pub invariant-loop-i : goal.invariant-loop-i
invariant-loop-i l = (e : Event) (body : List ℕ) → hear_from (skipped e l.from l.from body) (drop l.from l.bytes) ≡ hear_from (skipped e l.from l.i body) (drop l.i l.bytes)
