-- `link::link::Link::restart` meets its contract.
-- Assumes nothing.
use Rattle.step.specs.Checks.{passes}
use Rattle.link.specs.Link.{no_body, no_frame}
use Rattle.link.specs.Out.{restart_out}
use Rattle.link.proofs.Ways.{accept}
use Rattle.link.proofs.link.Link.restart.Goals as goal

pub returns : goal.returns
unfolding restart_out no_body no_frame
returns c =
    accept passes _ _ _ c.args.up.now c.room.ensures c.in_ok-room.was (simp c.restarting-outcome.ensures) c.emit.ensures
