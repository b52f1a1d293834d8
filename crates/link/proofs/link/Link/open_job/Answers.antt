-- `link::link::Link::open_job` meets its contract.
-- Assumes nothing.
use Rattle.std.proofs.Common.{◌≡◌, ◌+◌, length}
use Rattle.frame.proofs.Theorems.{frame_length}
use Rattle.link.specs.Out.{open_out}
use Rattle.link.proofs.Opened.{built, held}
use Rattle.link.proofs.Ways.{emitted_are}
use Rattle.link.proofs.link.Link.open_job.Goals as goal

pub returns : goal.returns
unfolding open_out
returns c =
    let a = c.args in
    let long : length a.self.now.frame ≡ 257 = search in
    let n = built a.kind a.command a.parameters.now a.self.now.frame c.requires.1 c.requires.2 long c.build.ensures in
    let f = held a.kind a.command a.parameters.now a.self.now.frame c.requires.1 c.requires.2 long c.build.ensures in
    let size : c.unwrap-size.result ≡ length a.parameters.now + 5 = cc (n, c.unwrap-size.ensures) in
    emitted_are (simp (f, size, c.opening-outcome.ensures, c.is_hunting.ensures, frame_length)) c.emit.ensures
