-- `link::link::Link::body_byte` meets its contract.
-- Assumes nothing.
use borrow.Author.Tests.{lt-ltb}
use Rattle.link.specs.Out.{byte_out}
use Rattle.link.proofs.link.Link.body_byte.Goals as goal

pub returns : goal.returns
unfolding byte_out
returns c line =
    let k = c.keep.ensures in
    let h = c.followed-next.ensures in
    let i = lt-ltb _ _ c.requires.1 in
    record { link_left = simp (c.requires.0, k, h, i); report = simp (c.requires.0, i); line_left = simp (c.requires.0, i); none_up = simp (c.requires.0, i) }
