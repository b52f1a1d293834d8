-- `link::link::Link::tick` meets its contract.
-- Assumes nothing.
use Rattle.step.specs.Checks.{passes}
use Rattle.link.specs.Out.{tick_out}
use Rattle.link.proofs.Ways.{accept}
use Rattle.link.proofs.link.Link.tick.Goals as goal

pub returns : goal.returns
unfolding tick_out
returns c =
    accept passes _ _ _ c.args.up.now c.room.ensures c.in_ok-room.was
    (simp (c.decide_tick-outcome.ensures, c.hear_tick-hearing.ensures)) c.emit.ensures
