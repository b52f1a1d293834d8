-- The scenes of the modes: each computes, and all of them together are one statement.
-- Assumes nothing.
use mathlib.Core.Path.{refl}
use Rattle.frame.specs.Bytes.{fold}
use Rattle.frame.specs.Frame.{frame_of}
use Rattle.rules.specs.Rules.{wire_time}
use Rattle.link.specs.Link.{no_body, no_frame}
use Rattle.link.specs.Out.{byte_out, tick_out, open_out, restart_out}
use Rattle.scenes.specs.Example.{Holds, AllHold}
use Rattle.scenes.specs.Modes.{mode_table, silent_sooner, silent_sooner_257, silent_session, told_spaced, cancelled_sooner, cancelled_spaced, told_at_last, ack_of_copy_2, lost_with_an_abort, lost_inside, lost_inside_then_aborted, restarted_spaced, restarted_sooner, stand_in_sooner, stand_in_lost_inside}

silent_sooner_holds : Holds silent_sooner
unfolding silent_sooner tick_out open_out frame_of fold no_body no_frame wire_time
silent_sooner_holds = refl

silent_sooner_257_holds : Holds silent_sooner_257
unfolding silent_sooner_257 tick_out open_out frame_of fold no_body no_frame wire_time
silent_sooner_257_holds = refl

silent_session_holds : Holds silent_session
unfolding silent_session tick_out open_out frame_of fold no_body no_frame wire_time
silent_session_holds = refl

told_spaced_holds : Holds told_spaced
unfolding told_spaced byte_out tick_out open_out frame_of fold no_body no_frame
told_spaced_holds = refl

cancelled_sooner_holds : Holds cancelled_sooner
unfolding cancelled_sooner byte_out tick_out open_out frame_of fold no_body no_frame
cancelled_sooner_holds = refl

cancelled_spaced_holds : Holds cancelled_spaced
unfolding cancelled_spaced byte_out tick_out open_out frame_of fold no_body no_frame
cancelled_spaced_holds = refl

told_at_last_holds : Holds told_at_last
unfolding told_at_last byte_out tick_out open_out frame_of fold no_body no_frame wire_time
told_at_last_holds = refl

ack_of_copy_2_holds : Holds ack_of_copy_2
unfolding ack_of_copy_2 byte_out tick_out open_out frame_of fold no_body no_frame wire_time
ack_of_copy_2_holds = refl

lost_with_an_abort_holds : Holds lost_with_an_abort
unfolding lost_with_an_abort byte_out tick_out open_out frame_of fold no_body no_frame wire_time
lost_with_an_abort_holds = refl

lost_inside_holds : Holds lost_inside
unfolding lost_inside byte_out tick_out open_out frame_of fold no_body no_frame wire_time
lost_inside_holds = refl

lost_inside_then_aborted_holds : Holds lost_inside_then_aborted
unfolding lost_inside_then_aborted byte_out tick_out open_out frame_of fold no_body no_frame wire_time
lost_inside_then_aborted_holds = refl

restarted_spaced_holds : Holds restarted_spaced
unfolding restarted_spaced tick_out open_out restart_out frame_of fold no_body no_frame wire_time
restarted_spaced_holds = refl

restarted_sooner_holds : Holds restarted_sooner
unfolding restarted_sooner tick_out open_out restart_out frame_of fold no_body no_frame wire_time
restarted_sooner_holds = refl

stand_in_sooner_holds : Holds stand_in_sooner
unfolding stand_in_sooner byte_out tick_out open_out frame_of fold no_body no_frame wire_time
stand_in_sooner_holds = refl

stand_in_lost_inside_holds : Holds stand_in_lost_inside
unfolding stand_in_lost_inside byte_out tick_out open_out frame_of fold no_body no_frame wire_time
stand_in_lost_inside_holds = refl

pub modes_shown : AllHold mode_table
modes_shown = (silent_sooner_holds, (silent_sooner_257_holds, (silent_session_holds, (told_spaced_holds, (cancelled_sooner_holds, (cancelled_spaced_holds, (told_at_last_holds, (ack_of_copy_2_holds, (lost_with_an_abort_holds, (lost_inside_holds, (lost_inside_then_aborted_holds, (restarted_spaced_holds, (restarted_sooner_holds, (stand_in_sooner_holds, (stand_in_lost_inside_holds, tt)))))))))))))))
