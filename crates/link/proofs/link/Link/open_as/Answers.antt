-- `link::link::Link::open_as` meets its contract.
-- Assumes nothing.
use Rattle.link.specs.Link.{no_body, no_frame}
use Rattle.link.proofs.link.Link.open_as.Goals as goal

pub returns : goal.returns
unfolding no_body no_frame
returns c = simp c.fresh.ensures
