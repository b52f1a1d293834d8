-- `job::wire::wire_time` meets its contract: the list of the code is `times`, entry for entry.
-- Assumes nothing.
use Rattle.job.proofs.Times.{runs, times, time_of}
use Rattle.job.proofs.wire.wire_time.Goals as goal

pub returns : goal.returns
unfolding times runs
returns c = time_of c.place_of.result c.args.size c.place_of.ensures
