-- Section 4: the run of bad sums, and the reset that it gives.
-- Assumes nothing.
use Rattle.std.specs.Prelude.{ℕ, ◌+◌, ltb}
use Rattle.refusals.specs.Pick.{pick}
use Rattle.hearing.specs.declared.hearing.End.{End}
use Rattle.hearing.specs.declared.hearing.End.TheVariants as end
use Rattle.hearing.specs.declared.hearing.Event.{Event}
use Rattle.hearing.specs.declared.hearing.Event.TheVariants.{Inside, Kept, Skipped, Alone, Ended, TickHunting, TickInside, Aborted}
use Rattle.report.specs.declared.Reset.{Reset}
use Rattle.report.specs.declared.Reset.TheVariants as reset
use Rattle.reception.specs.declared.sums.Sums.{Sums}

abbrev pub run_of : ℕ → Reset → Sums
run_of n x = record { bad = n; reset = x }

-- A wrong checksum adds 1. At 3 a reset is indicated with reason "sums" and the run is 0 again.
abbrev pub one_bad_more : ℕ → Sums
one_bad_more n = run_of (pick (ltb n 2) (n + 1) 0) (pick (ltb n 2) reset.Nothing reset.Sums)

-- Any right Checksum sets the run to 0.
abbrev pub sums_end : End → ℕ → Sums
sums_end end.BadLength n = run_of n reset.Nothing
sums_end end.BadSum n = one_bad_more n
sums_end end.Reserved n = run_of 0 reset.Nothing
sums_end (end.Request size) n = run_of 0 reset.Nothing
sums_end (end.Response size command) n = run_of 0 reset.Nothing

-- Nothing else does.
abbrev pub sums_on : Event → ℕ → Sums
sums_on Inside n = run_of n reset.Nothing
sums_on (Kept at) n = run_of n reset.Nothing
sums_on Skipped n = run_of n reset.Nothing
sums_on (Alone s) n = run_of n reset.Nothing
sums_on (Ended e) n = sums_end e n
sums_on TickHunting n = run_of n reset.Nothing
sums_on TickInside n = run_of n reset.Nothing
sums_on Aborted n = run_of n reset.Nothing
