-- `link::link::Link::byte` meets its contract.
-- Assumes nothing.
use Rattle.std.proofs.Common.{refl}
use Rattle.step.specs.Checks.{passes}
use Rattle.link.specs.Out.{byte_out}
use Rattle.link.proofs.Ways.{give, accept}
use Rattle.link.proofs.link.Link.byte.Goals as goal

pub returns-then-p : goal.returns-then-p
returns-then-p c = accept passes _ _ _ c.args.up.now c.room.ensures c.in_ok-room.was refl (c.body_byte.ensures c.args.line.now)

pub returns : goal.returns
unfolding byte_out
returns c =
    give passes _ _ _ _ c.room.ensures c.in_ok-room.was
    (simp (c.keep.ensures, c.decide-outcome.ensures, c.hear_byte-hearing.ensures)) (search) (search) refl refl c.conclude.ensures

pub returns-then-not-outcome : goal.returns-then-not-outcome
unfolding byte_out
returns-then-not-outcome c =
    accept passes _ _ _ c.args.up.now c.room.ensures c.in_ok-room.was
    (simp (c.keep.ensures, c.decide-outcome.ensures, c.hear_byte-hearing.ensures)) c.emit.ensures
