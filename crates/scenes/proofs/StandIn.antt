-- The stand-in's scenes: each computes, and all of them together are one statement.
-- Assumes nothing.
use mathlib.Core.Path.{refl}
use Rattle.frame.specs.Bytes.{fold}
use Rattle.frame.specs.Frame.{frame_of}
use Rattle.rules.specs.Rules.{wire_time}
use Rattle.link.specs.Link.{no_body, no_frame}
use Rattle.link.specs.Out.{byte_out, tick_out, open_out, restart_out}
use Rattle.scenes.specs.Example.{Holds, AllHold}
use Rattle.scenes.specs.StandIn.{stand_in_table, cancels_while_waiting, host_hands_up, reserved_while_waiting, lost_all_the_same, lost_inside_the_frame, session_of_its_own, restarted_stand_in}

cancels_while_waiting_holds : Holds cancels_while_waiting
unfolding cancels_while_waiting byte_out open_out frame_of fold no_body no_frame
cancels_while_waiting_holds = refl

host_hands_up_holds : Holds host_hands_up
unfolding host_hands_up byte_out open_out frame_of fold no_body no_frame
host_hands_up_holds = refl

reserved_while_waiting_holds : Holds reserved_while_waiting
unfolding reserved_while_waiting byte_out open_out frame_of fold no_body no_frame
reserved_while_waiting_holds = refl

lost_all_the_same_holds : Holds lost_all_the_same
unfolding lost_all_the_same byte_out tick_out open_out frame_of fold no_body no_frame wire_time
lost_all_the_same_holds = refl

lost_inside_the_frame_holds : Holds lost_inside_the_frame
unfolding lost_inside_the_frame byte_out tick_out open_out frame_of fold no_body no_frame wire_time
lost_inside_the_frame_holds = refl

session_of_its_own_holds : Holds session_of_its_own
unfolding session_of_its_own byte_out open_out frame_of fold no_body no_frame
session_of_its_own_holds = refl

restarted_stand_in_holds : Holds restarted_stand_in
unfolding restarted_stand_in byte_out open_out restart_out frame_of fold no_body no_frame
restarted_stand_in_holds = refl

pub stand_in_shown : AllHold stand_in_table
stand_in_shown = (cancels_while_waiting_holds, (host_hands_up_holds, (reserved_while_waiting_holds, (lost_all_the_same_holds, (lost_inside_the_frame_holds, (session_of_its_own_holds, (restarted_stand_in_holds, tt)))))))
