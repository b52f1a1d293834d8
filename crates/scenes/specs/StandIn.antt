-- Document 02's stand-in, played: what it cancels, and what not. A tick's number is that of the accepted ticks so far.
-- Assumes nothing.
use Rattle.std.specs.Prelude.{ℕ, List, [], ◌∷◌, ◌++◌}
use Rattle.frame.specs.Frame.{ACK, NAK, CAN}
use Rattle.rules.specs.declared.Role.TheVariants.{Module}
use Rattle.rules.specs.declared.Mode.TheVariants.{Spaced}
use Rattle.report.specs.declared.Reception.{Reception}
use Rattle.report.specs.declared.Reception.TheVariants as reception
use Rattle.report.specs.declared.Reset.TheVariants as reset
use Rattle.report.specs.declared.Sending.TheVariants as sending
use Rattle.report.specs.declared.Session.TheVariants as session
use Rattle.history.specs.Perform.{Call, session as session_call, restart, lent}
use Rattle.scenes.specs.Scene.{silence, Seen, said}
use Rattle.scenes.specs.Example.{Question, play_as, play, play_stand_in, shows, Example}
use Rattle.scenes.specs.Table.{frame07, send07, given, bad, good, sending_says, copy, backs_off}

-- a response 07 received, byte by byte; a frame of the reserved Type 02
abbrev pub response07 : List Call
response07 = given 0x01 ∷ given 0x03 ∷ given 0x01 ∷ given 0x07 ∷ given 0xFA ∷ []

abbrev pub reserved07 : List Call
reserved07 = given 0x01 ∷ given 0x03 ∷ given 0x02 ∷ given 0x07 ∷ given 0xF9 ∷ []

-- all of a good frame but its Checksum
abbrev pub good_begun : List Call
good_begun = given 0x01 ∷ given 0x03 ∷ given 0x00 ∷ given 0x07 ∷ []

-- after so many ticks reception says this and puts out one byte
abbrev pub answers : ℕ → Reception → ℕ → Seen
answers t r reply = said t r sending.Nothing session.Nothing reset.Nothing (reply ∷ [])

-- "While it waits for an ACK, a frame of type 00 or 01 with the right checksum is answered with 18, reported as cancelled and not handed up,
-- and the run of bad sums still returns to 0." The send goes on: 06 is still its ACK.
unfoldable pub cancels_while_waiting : Example
cancels_while_waiting =
    record {
      question = play_stand_in (send07 ∷ (bad ++ (bad ++ (good ++ (bad ++ (response07 ++ (given 0x06 ∷ [])))))));
      expected =
          shows
          (copy 1 0
          ∷ answers 0 reception.BadSum NAK
          ∷ answers 0 reception.BadSum NAK
          ∷ answers 0 reception.Cancelled CAN
          ∷ answers 0 reception.BadSum NAK
          ∷ answers 0 reception.Cancelled CAN
          ∷ sending_says 0 (sending.Acknowledged 1) []
          ∷ []);
    }

-- The same calls on the host: nothing is cancelled.
unfoldable pub host_hands_up : Example
host_hands_up =
    record {
      question = play (send07 ∷ (good ++ (response07 ++ (given 0x06 ∷ []))));
      expected =
          shows
          (copy 1 0
          ∷ answers 0 reception.Frame ACK
          ∷ answers 0 reception.StrayResponse ACK
          ∷ sending_says 0 (sending.Acknowledged 1) []
          ∷ []);
    }

-- "Reserved types keep the old rule."
unfoldable pub reserved_while_waiting : Example
reserved_while_waiting =
    record {
      question = play_stand_in (send07 ∷ reserved07);
      expected = shows (copy 1 0 ∷ answers 0 reception.Reserved ACK ∷ []);
    }

-- a stand-in that names the old mode, which backs off 100 ticks behind a loss
abbrev pub play_stand_in_spaced : List Call → Question
play_stand_in_spaced = play_as (record { role = Module; mode = Spaced })

-- The wait goes on over what is cancelled: the copy is lost on tick 1,601 all the same. In the back-off nothing is cancelled.
unfoldable pub lost_all_the_same : Example
lost_all_the_same =
    record {
      question = play_stand_in_spaced (send07 ∷ (silence 1_600 ++ (good ++ (silence 1 ++ good))));
      expected = shows (copy 1 0 ∷ answers 1_600 reception.Cancelled CAN ∷ backs_off 100 1_601 ∷ answers 1_601 reception.Frame ACK ∷ []);
    }

-- The Checksum decides: the copy was lost inside this very frame, and its back-off ended there too. 06, and the due copy behind it.
unfoldable pub lost_inside_the_frame : Example
lost_inside_the_frame =
    record {
      question = play_stand_in_spaced (send07 ∷ (silence 1_000 ++ (good_begun ++ (silence 701 ++ (given 0xFB ∷ [])))));
      expected =
          shows
          (copy 1 0
          ∷ backs_off 100 1_601
          ∷ sending_says 1_701 sending.Due []
          ∷ said 1_701 reception.Frame (sending.Copy 2) session.Nothing reset.Nothing (ACK ∷ frame07)
          ∷ []);
    }

-- A session of its own, before its ACK and behind it: the response ends it only then.
unfoldable pub session_of_its_own : Example
session_of_its_own =
    record {
      question = play_stand_in (lent (session_call 0x07 []) ∷ (response07 ++ (given 0x06 ∷ response07)));
      expected =
          shows
          (copy 1 0
          ∷ answers 0 reception.Cancelled CAN
          ∷ said 0 reception.Nothing (sending.Acknowledged 1) session.Waiting reset.Nothing []
          ∷ said 0 reception.Frame sending.Nothing (session.Response 1) reset.Nothing (ACK ∷ [])
          ∷ []);
    }

-- A restart gives a fresh stand-in, not a host.
unfoldable pub restarted_stand_in : Example
restarted_stand_in =
    record {
      question = play_stand_in (lent restart ∷ send07 ∷ good);
      expected = shows (sending_says 0 sending.Nothing (NAK ∷ []) ∷ copy 1 0 ∷ answers 0 reception.Cancelled CAN ∷ []);
    }

abbrev pub stand_in_table : List Example
stand_in_table =
    cancels_while_waiting
    ∷ host_hands_up
    ∷ reserved_while_waiting
    ∷ lost_all_the_same
    ∷ lost_inside_the_frame
    ∷ session_of_its_own
    ∷ restarted_stand_in
    ∷ []
