-- Section 10's examples with a star: each computes, and all of them together are one statement over one table.
-- Assumes nothing.
use Prim.Native.Nat.{ℕ}
use mathlib.Core.Path.{◌≡◌, refl}
use mathlib.Core.List.{List, [], ◌∷◌}
use Rattle.frame.specs.Bytes.{fold}
use Rattle.frame.specs.Frame.{frame_of}
use Rattle.rules.specs.Rules.{wire_time}
use Rattle.link.specs.Link.{no_body, no_frame}
use Rattle.link.specs.Out.{byte_out, tick_out, open_out}
use Rattle.masks.specs.Mask.{marked}
use Rattle.scenes.specs.Example.{Holds, AllHold}
use Rattle.scenes.specs.Table.{table, req07, req06, req06_times, is_sum, is_length, is_short, is_kind, ack_in_time, second_copy, silent_line, told_each_time, due_in_a_frame, three_bad, good_between, first_byte_05}

req07_holds : Holds req07
unfolding req07 frame_of fold
req07_holds = refl

req06_holds : Holds req06
unfolding req06 frame_of fold
req06_holds = refl

req06_times_holds : Holds req06_times
unfolding req06_times frame_of fold
req06_times_holds = refl

is_sum_holds : Holds is_sum
unfolding is_sum fold
is_sum_holds = refl

is_length_holds : Holds is_length
unfolding is_length fold
is_length_holds = refl

is_short_holds : Holds is_short
unfolding is_short fold
is_short_holds = refl

is_kind_holds : Holds is_kind
unfolding is_kind fold
is_kind_holds = refl

ack_in_time_holds : Holds ack_in_time
unfolding ack_in_time byte_out tick_out open_out frame_of fold no_body no_frame wire_time
ack_in_time_holds = refl

second_copy_holds : Holds second_copy
unfolding second_copy tick_out open_out frame_of fold no_body no_frame wire_time
second_copy_holds = refl

silent_line_holds : Holds silent_line
unfolding silent_line tick_out open_out frame_of fold no_body no_frame wire_time
silent_line_holds = refl

told_each_time_holds : Holds told_each_time
unfolding told_each_time byte_out tick_out open_out frame_of fold no_body no_frame
told_each_time_holds = refl

due_in_a_frame_holds : Holds due_in_a_frame
unfolding due_in_a_frame byte_out tick_out open_out frame_of fold no_body no_frame
due_in_a_frame_holds = refl

three_bad_holds : Holds three_bad
unfolding three_bad byte_out no_body no_frame
three_bad_holds = refl

good_between_holds : Holds good_between
unfolding good_between byte_out no_body no_frame
good_between_holds = refl

first_byte_05_holds : Holds first_byte_05
unfolding first_byte_05 marked
first_byte_05_holds = refl

-- All together in a single tabled statement.
pub starred : AllHold table
starred = (req07_holds, (req06_holds, (req06_times_holds, (is_sum_holds, (is_length_holds, (is_short_holds, (is_kind_holds, (ack_in_time_holds, (second_copy_holds, (silent_line_holds, (told_each_time_holds, (due_in_a_frame_holds, (three_bad_holds, (good_between_holds, (first_byte_05_holds, tt)))))))))))))))

-- whatever the other bytes of the mask are: of nodes 1 to 8
pub first_mask_byte_05 : (mask : List ℕ) → marked (0x05 ∷ mask) 8 ≡ 1 ∷ 3 ∷ []
unfolding marked
first_mask_byte_05 mask = refl
