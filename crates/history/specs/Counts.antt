-- Short histories on which what demand 3 counts is computed.
-- Assumes nothing.
use Rattle.std.specs.Prelude.{List, [], ◌∷◌}
use Rattle.frame.specs.Frame.{REQ, MAX_BODY, MAX_FRAME}
use Rattle.rules.specs.Rules.{usual, base}
use Rattle.link.specs.Link.{fresh_link}
use Rattle.link.specs.Out.{Out}
use Rattle.history.specs.Perform.{byte, bytes, tick, send, session, restart, Call, lent, out_of}

-- a send and a session of REQ 07 with no parameters, accepted by the link that opening gives
abbrev pub sent07 : Out
sent07 = out_of base (fresh_link usual) (send REQ 0x07 [])

abbrev pub asked07 : Out
asked07 = out_of base (fresh_link usual) (session 0x07 [])

-- every kind of call once, and a tick that is refused: one byte too few is lent for the line
abbrev pub every_call : List Call
every_call =
    lent tick
    ∷ lent (byte 0x00)
    ∷ lent (bytes [])
    ∷ lent (send REQ 0x07 [])
    ∷ lent (byte 0x06)
    ∷ lent (session 0x07 [])
    ∷ record { what = tick; line = MAX_FRAME; up = MAX_BODY }
    ∷ lent restart
    ∷ []
