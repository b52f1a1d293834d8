-- Document 02's modes, played (P4): what follows a loss by time and what follows 15 or 18, in the new mode, which nobody need name, and in the old.
-- A tick's number is that of the accepted ticks so far.
-- Assumes nothing.
use Rattle.std.specs.Prelude.{ℕ, List, [], ◌∷◌, ◌++◌}
use Rattle.frame.specs.Frame.{ACK, NAK, CAN}
use Rattle.report.specs.declared.Reception.TheVariants as reception
use Rattle.report.specs.declared.Reset.TheVariants as reset
use Rattle.report.specs.declared.Sending.TheVariants as sending
use Rattle.report.specs.declared.Session.TheVariants as session
use Rattle.history.specs.Perform.{session as session_call, restart, lent}
use Rattle.scenes.specs.Scene.{silence, Seen, said}
use Rattle.scenes.specs.Example.{play, play_spaced, play_stand_in, shows, Example}
use Rattle.scenes.specs.Table.{frame07, send07, given, good, sending_says, copy_of, copy, backs_off, gives_up, four_copies, after_every}
use Rattle.scenes.specs.Wire.{frame257, send257}
use Rattle.scenes.specs.StandIn.{good_begun, answers}

-- copies 1, 2 and 3, the one back-off, copy 4 and the failure, on these ticks
abbrev pub four_sooner : (frame : List ℕ) (c₁ c₂ c₃ b₃ c₄ end : ℕ) → List Seen
four_sooner frame c₁ c₂ c₃ b₃ c₄ end =
    copy_of frame 1 c₁ ∷ copy_of frame 2 c₂ ∷ copy_of frame 3 c₃ ∷ backs_off 500 b₃ ∷ copy_of frame 4 c₄ ∷ gives_up end ∷ []

-- Silence: copies at ticks 0, 1,601, 3,202, back-off 500 at 4,803, copy 4 at 5,303, failed at 6,904.
unfoldable pub silent_sooner : Example
silent_sooner =
    record {
      question = play (send07 ∷ silence 6_904);
      expected = shows (four_sooner frame07 0 1_601 3_202 4_803 5_303 6_904);
    }

-- And of 257 bytes: 0, 1,623, 3,246, back-off 500 at 4,869, copy 4 at 5,369, failed at 6,992.
unfoldable pub silent_sooner_257 : Example
silent_sooner_257 =
    record {
      question = play (send257 ∷ silence 6_992);
      expected = shows (four_sooner frame257 0 1_623 3_246 4_869 5_369 6_992);
    }

-- A session is not sent on that tick.
unfoldable pub silent_session : Example
silent_session =
    record {
      question = play (lent (session_call 0x07 []) ∷ silence 6_904);
      expected =
          shows
          (copy 1 0
          ∷ copy 2 1_601
          ∷ copy 3 3_202
          ∷ backs_off 500 4_803
          ∷ copy 4 5_303
          ∷ said 6_904 reception.Nothing (sending.Failed 4) (session.NotSent 4) reset.Delivery []
          ∷ []);
    }

-- "NAK and CAN keep the full waits": 15 straight after every copy in the old mode is what section 10's example is in the new, and so is 18 in either.
unfoldable pub told_spaced : Example
told_spaced =
    record {
      question = play_spaced (after_every 0x15);
      expected = shows (four_copies 0 0 100 100 1_200 1_200 3_300 3_300);
    }

unfoldable pub cancelled_sooner : Example
cancelled_sooner =
    record { question = play (after_every 0x18); expected = shows (four_copies 0 0 100 100 1_200 1_200 3_300 3_300) }

unfoldable pub cancelled_spaced : Example
cancelled_spaced =
    record {
      question = play_spaced (after_every 0x18);
      expected = shows (four_copies 0 0 100 100 1_200 1_200 3_300 3_300);
    }

-- also on the last tick before the loss
unfoldable pub told_at_last : Example
told_at_last =
    record {
      question = play (send07 ∷ (silence 1_600 ++ (given 0x15 ∷ silence 100)));
      expected = shows (copy 1 0 ∷ backs_off 100 1_600 ∷ copy 2 1_700 ∷ []);
    }

-- On the tick of the loss copy 2 is out: a 06 behind it is its ACK, and 2 copies were sent.
unfoldable pub ack_of_copy_2 : Example
ack_of_copy_2 =
    record {
      question = play (send07 ∷ (silence 1_601 ++ (given 0x06 ∷ [])));
      expected = shows (copy 1 0 ∷ copy 2 1_601 ∷ sending_says 1_601 (sending.Acknowledged 2) [] ∷ []);
    }

-- An abort on the tick of the loss lets the copy go out, and its wait is 0 after that tick: the next goes out 1,601 ticks later.
unfoldable pub lost_with_an_abort : Example
lost_with_an_abort =
    record {
      question = play (send07 ∷ (silence 100 ++ (given 0x01 ∷ silence 3_102)));
      expected = shows (copy 1 0 ∷ said 1_601 reception.Abort (sending.Copy 2) session.Nothing reset.Nothing frame07 ∷ copy 3 3_202 ∷ []);
    }

-- Lost inside a frame the copy is due on that tick, and goes out with the end of the reception: behind the answer, or with the abort.
abbrev pub due_then_out : ℕ → List Seen
due_then_out t =
    copy 1 0
    ∷ sending_says 1_601 sending.Due []
    ∷ said t reception.Frame (sending.Copy 2) session.Nothing reset.Nothing (ACK ∷ frame07)
    ∷ []

unfoldable pub lost_inside : Example
lost_inside =
    record {
      question = play (send07 ∷ (silence 1_000 ++ (good_begun ++ (silence 602 ++ (given 0xFB ∷ [])))));
      expected = shows (due_then_out 1_602);
    }

unfoldable pub lost_inside_then_aborted : Example
lost_inside_then_aborted =
    record {
      question = play (send07 ∷ (silence 1_000 ++ (given 0x01 ∷ silence 1_501)));
      expected =
          shows
          (copy 1 0
          ∷ sending_says 1_601 sending.Due []
          ∷ said 2_501 reception.Abort (sending.Copy 2) session.Nothing reset.Nothing frame07
          ∷ []);
    }

-- "A restart keeps the mode": the old one, and the new.
unfoldable pub restarted_spaced : Example
restarted_spaced =
    record {
      question = play_spaced (lent restart ∷ send07 ∷ silence 1_701);
      expected = shows (sending_says 0 sending.Nothing (NAK ∷ []) ∷ copy 1 0 ∷ backs_off 100 1_601 ∷ copy 2 1_701 ∷ []);
    }

unfoldable pub restarted_sooner : Example
restarted_sooner =
    record {
      question = play (lent restart ∷ send07 ∷ silence 1_601);
      expected = shows (sending_says 0 sending.Nothing (NAK ∷ []) ∷ copy 1 0 ∷ copy 2 1_601 ∷ []);
    }

-- The stand-in has the modes too. In the new one copy 2 waits from the tick of the loss on, so a frame is cancelled again; but not where it is due.
unfoldable pub stand_in_sooner : Example
stand_in_sooner =
    record {
      question = play_stand_in (send07 ∷ (silence 1_600 ++ (good ++ (silence 1 ++ good))));
      expected =
          shows (copy 1 0 ∷ answers 1_600 reception.Cancelled CAN ∷ copy 2 1_601 ∷ answers 1_601 reception.Cancelled CAN ∷ []);
    }

unfoldable pub stand_in_lost_inside : Example
stand_in_lost_inside =
    record {
      question = play_stand_in (send07 ∷ (silence 1_000 ++ (good_begun ++ (silence 601 ++ (given 0xFB ∷ [])))));
      expected = shows (due_then_out 1_601);
    }

abbrev pub mode_table : List Example
mode_table =
    silent_sooner
    ∷ silent_sooner_257
    ∷ silent_session
    ∷ told_spaced
    ∷ cancelled_sooner
    ∷ cancelled_spaced
    ∷ told_at_last
    ∷ ack_of_copy_2
    ∷ lost_with_an_abort
    ∷ lost_inside
    ∷ lost_inside_then_aborted
    ∷ restarted_spaced
    ∷ restarted_sooner
    ∷ stand_in_sooner
    ∷ stand_in_lost_inside
    ∷ []
