-- Section 5: opening gives a fresh link. Its numbers, with what was chosen.
-- Assumes nothing.
use Rattle.hearing.specs.declared.hearing.Hearing.TheVariants.{Hunting}
use Rattle.job.specs.declared.job.Job.TheVariants.{Idle}
use Rattle.rules.specs.declared.Choice.{Choice}
use Rattle.step.specs.declared.numbers.Core.{Core}

abbrev pub fresh_core : Choice → Core
fresh_core c = record { hearing = Hunting; job = Idle; bad = 0; size = 0; choice = c }
