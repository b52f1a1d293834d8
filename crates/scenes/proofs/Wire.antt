-- The scenes of the time on the wire: each computes, and all of them together are one statement.
-- Assumes nothing.
use mathlib.Core.Path.{refl}
use Rattle.frame.specs.Bytes.{fold}
use Rattle.frame.specs.Frame.{frame_of}
use Rattle.rules.specs.Rules.{wire_time}
use Rattle.link.specs.Link.{no_body, no_frame}
use Rattle.link.specs.Out.{byte_out, tick_out, open_out}
use Rattle.scenes.specs.Example.{Holds, AllHold}
use Rattle.scenes.specs.Wire.{wire_table, ack_too_late, ack_too_late_11, ack_in_time_12, silent_257, behind_06, behind_15, response_as_ever}

ack_too_late_holds : Holds ack_too_late
unfolding ack_too_late byte_out tick_out open_out frame_of fold no_body no_frame wire_time
ack_too_late_holds = refl

ack_too_late_11_holds : Holds ack_too_late_11
unfolding ack_too_late_11 byte_out tick_out open_out frame_of fold no_body no_frame wire_time
ack_too_late_11_holds = refl

ack_in_time_12_holds : Holds ack_in_time_12
unfolding ack_in_time_12 byte_out tick_out open_out frame_of fold no_body no_frame wire_time
ack_in_time_12_holds = refl

silent_257_holds : Holds silent_257
unfolding silent_257 tick_out open_out frame_of fold no_body no_frame wire_time
silent_257_holds = refl

behind_06_holds : Holds behind_06
unfolding behind_06 byte_out tick_out open_out frame_of fold no_body no_frame wire_time
behind_06_holds = refl

behind_15_holds : Holds behind_15
unfolding behind_15 byte_out tick_out open_out frame_of fold no_body no_frame wire_time
behind_15_holds = refl

response_as_ever_holds : Holds response_as_ever
unfolding response_as_ever byte_out tick_out open_out frame_of fold no_body no_frame wire_time
response_as_ever_holds = refl

pub wire_shown : AllHold wire_table
wire_shown = (ack_too_late_holds, (ack_too_late_11_holds, (ack_in_time_12_holds, (silent_257_holds, (behind_06_holds, (behind_15_holds, (response_as_ever_holds, tt)))))))
