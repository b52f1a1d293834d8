-- The bounds of demand 3 for 5 bytes reached by one send and one session, by computation, of the host and of the stand-in at once: in the new mode
-- 15,702 and 20,701, in the old 15,705 and 20,704 (`bounds_printed` of `history`).
-- Assumes nothing.
use Rattle.std.specs.Prelude.{None, Some}
use mathlib.Core.Path.{refl}
use mathlib.Core.List.{[]}
use Rattle.frame.specs.Bytes.{fold}
use Rattle.frame.specs.Frame.{frame_of, REQ}
use Rattle.rules.specs.Rules.{Rules, wire_time, rules_of}
use Rattle.rules.specs.declared.Role.{Role}
use Rattle.rules.specs.declared.Mode.{Mode}
use Rattle.rules.specs.declared.Mode.TheVariants.{Sooner, Spaced}
use Rattle.link.specs.Link.{no_body, no_frame}
use Rattle.link.specs.Out.{byte_out, tick_out, open_out}
use Rattle.history.specs.Perform.{send, session, out_of}
use Rattle.history.specs.History.{after}
use Rattle.history.specs.Watch.{failed, no_response}
use Rattle.history.specs.Demand3.{send_bound, session_bound}
use Rattle.scenes.specs.Table.{frame07}
use Rattle.scenes.specs.Longest.{before, longer, longest_send, longest_session, Reaches}

abbrev of : Role → Mode → Rules
of role m = rules_of (record { role = role; mode = m })

-- the send and the session of REQ 07 with no parameters, due in a frame that has begun, to the end of the longest history
abbrev Send07 : Role → Mode → Type 0
Send07 role m = Reaches (of role m) before (send REQ 0x07 []) None (longest_send (of role m) (longer m) 5) frame07 (failed 4) (send_bound m 5)

abbrev Session07 : Role → Mode → Type 0
Session07 role m = Reaches (of role m) before (session 0x07 []) (Some 0x07) (longest_session (of role m) (longer m) 5) frame07 (no_response 4) (session_bound m 5)

pub send07_reaches : (role : Role) → Send07 role Sooner × Send07 role Spaced
unfolding byte_out tick_out open_out frame_of fold no_body no_frame wire_time
send07_reaches role =
    (record { gave = out_of (of role Sooner) (after (of role Sooner) before) (send REQ 0x07 []); accepted = refl; verdict = refl }, record { gave = out_of (of role Spaced) (after (of role Spaced) before) (send REQ 0x07 []); accepted = refl; verdict = refl })

pub session07_reaches : (role : Role) → Session07 role Sooner × Session07 role Spaced
unfolding byte_out tick_out open_out frame_of fold no_body no_frame wire_time
session07_reaches role =
    (record { gave = out_of (of role Sooner) (after (of role Sooner) before) (session 0x07 []); accepted = refl; verdict = refl }, record { gave = out_of (of role Spaced) (after (of role Spaced) before) (session 0x07 []); accepted = refl; verdict = refl })
