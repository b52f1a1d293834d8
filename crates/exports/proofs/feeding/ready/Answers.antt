-- `exports::feeding::ready` meets its contract: the session's promise, if one is asked for, and then the bytes start from there.
-- Assumes nothing.
use Rattle.std.proofs.Common.{◌≡◌}
use Rattle.rules.specs.Rules.{usual}
use Rattle.link.specs.Link.{fresh_link}
use Rattle.exports.specs.Feeding.{at, opened, asked}
use Rattle.exports.proofs.Feeds.{asked_on, asked_not, heard_on}
use Rattle.exports.proofs.feeding.ready.Goals as goal
use Rattle.exports.proofs.feeding.ready.Goals.{then-asks, else-asks}

pub returns : goal.returns
returns g c =
    let a = c.args in
    let f = c.open-link in
    let i = c.if-asks in
    let ready : asked a.asks a.parameters.now (opened a.line.now a.up.now) ≡ at i.link i.line i.up 0 =
    elim i.branch [
      | then-asks w ↦
          rw (w.link-is, w.line-is, w.up-is)
          (asked_on a.parameters.now a.line.now a.up.now f.result (fresh_link usual) f.ensures a.asks _ _ _ w.if-asks.true w.session.ensures)
      | else-asks w ↦
          rw (w.link-is, w.line-is, w.up-is)
          (asked_not a.parameters.now a.line.now a.up.now f.result (fresh_link usual) f.ensures a.asks w.if-asks.false)
    ] in
    heard_on a.heard.now (asked a.asks a.parameters.now (opened a.line.now a.up.now)) i.link _ i.line i.up _ _ _ ready c.bytes_fed.ensures
