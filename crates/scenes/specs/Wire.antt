-- Document 02's time on the wire, played: how long a copy waits, by its frame's length. Where a copy is lost the old mode is named, which says so with a
-- back-off each time. A tick's number is that of the accepted ticks so far.
-- Assumes nothing.
use Rattle.std.specs.Prelude.{ℕ, List, [], ◌∷◌, ◌++◌, replicate}
use Rattle.report.specs.declared.Reception.{Reception}
use Rattle.report.specs.declared.Reception.TheVariants as reception
use Rattle.report.specs.declared.Reset.TheVariants as reset
use Rattle.report.specs.declared.Sending.TheVariants as sending
use Rattle.report.specs.declared.Session.TheVariants as session
use Rattle.history.specs.Perform.{Call, send, session as session_call, lent}
use Rattle.scenes.specs.Scene.{silence, Seen, said}
use Rattle.scenes.specs.Example.{play, play_spaced, shows, Example}
use Rattle.scenes.specs.Table.{send07, given, sending_says, copy_of, copy, backs_off, four_copies_of}

-- REQ 07 with so many parameters that the frame has 11, 12 or 257 bytes, which take 1, 2 and 23 ticks
abbrev pub frame11 : List ℕ
frame11 = 0x01 ∷ 0x09 ∷ 0x00 ∷ 0x07 ∷ 0x11 ∷ 0x22 ∷ 0x33 ∷ 0x44 ∷ 0x55 ∷ 0x66 ∷ 0x86 ∷ []

abbrev pub send11 : Call
send11 = lent (send 0x00 0x07 (0x11 ∷ 0x22 ∷ 0x33 ∷ 0x44 ∷ 0x55 ∷ 0x66 ∷ []))

abbrev pub frame12 : List ℕ
frame12 = 0x01 ∷ 0x0A ∷ 0x00 ∷ 0x07 ∷ 0x11 ∷ 0x22 ∷ 0x33 ∷ 0x44 ∷ 0x55 ∷ 0x66 ∷ 0x77 ∷ 0xF2 ∷ []

abbrev pub send12 : Call
send12 = lent (send 0x00 0x07 (0x11 ∷ 0x22 ∷ 0x33 ∷ 0x44 ∷ 0x55 ∷ 0x66 ∷ 0x77 ∷ []))

abbrev pub frame257 : List ℕ
frame257 = 0x01 ∷ 0xFF ∷ 0x00 ∷ 0x07 ∷ (replicate 252 0x5A ++ (0x07 ∷ []))

abbrev pub send257 : Call
send257 = lent (send 0x00 0x07 (replicate 252 0x5A))

-- 06 on the tick of the loss is too late: after 1,601 ticks for 5 bytes and for 11.
unfoldable pub ack_too_late : Example
ack_too_late =
    record {
      question = play_spaced (send07 ∷ (silence 1_601 ++ (given 0x06 ∷ [])));
      expected = shows (copy 1 0 ∷ backs_off 100 1_601 ∷ sending_says 1_601 sending.Stray [] ∷ []);
    }

unfoldable pub ack_too_late_11 : Example
ack_too_late_11 =
    record {
      question = play_spaced (send11 ∷ (silence 1_601 ++ (given 0x06 ∷ [])));
      expected = shows (copy_of frame11 1 0 ∷ backs_off 100 1_601 ∷ sending_says 1_601 sending.Stray [] ∷ []);
    }

-- A byte more, and it still counts then.
unfoldable pub ack_in_time_12 : Example
ack_in_time_12 =
    record {
      question = play (send12 ∷ (silence 1_601 ++ (given 0x06 ∷ [])));
      expected = shows (copy_of frame12 1 0 ∷ sending_says 1_601 (sending.Acknowledged 1) [] ∷ []);
    }

-- Silence in the old mode, 257 bytes: copies at ticks 0, 1,723, 4,446, 8,169, failed at 9,792.
unfoldable pub silent_257 : Example
silent_257 =
    record {
      question = play_spaced (send257 ∷ silence 9_792);
      expected = shows (four_copies_of frame257 0 1_623 1_723 3_346 4_446 6_069 8_169 9_792);
    }

-- The frame alone counts: 11 bytes behind a 06 or a 15 are 12 on the line, and the copy is lost on the 1,601st tick all the same.
abbrev pub due_then : ℕ → List Call
due_then checksum = given 0x01 ∷ send11 ∷ given 0x03 ∷ given 0x00 ∷ given 0x07 ∷ given checksum ∷ silence 1_601

abbrev pub goes_behind : Reception → ℕ → List Seen
goes_behind r reply =
    sending_says 0 sending.Due []
    ∷ said 0 r (sending.Copy 1) session.Nothing reset.Nothing (reply ∷ frame11)
    ∷ backs_off 100 1_601
    ∷ []

unfoldable pub behind_06 : Example
behind_06 = record { question = play_spaced (due_then 0xFB); expected = shows (goes_behind reception.Frame 0x06) }

unfoldable pub behind_15 : Example
behind_15 = record { question = play_spaced (due_then 0xFA); expected = shows (goes_behind reception.BadSum 0x15) }

-- A session waits 5,000 for its response, as ever: from 06, here the last that counts.
unfoldable pub response_as_ever : Example
response_as_ever =
    record {
      question = play (lent (session_call 0x07 []) ∷ (silence 1_600 ++ (given 0x06 ∷ silence 5_000)));
      expected =
          shows
          (copy 1 0
          ∷ said 1_600 reception.Nothing (sending.Acknowledged 1) session.Waiting reset.Nothing []
          ∷ said 6_600 reception.Nothing sending.Nothing (session.NoResponse 1) reset.Nothing []
          ∷ []);
    }

abbrev pub wire_table : List Example
wire_table =
    ack_too_late ∷ ack_too_late_11 ∷ ack_in_time_12 ∷ silent_257 ∷ behind_06 ∷ behind_15 ∷ response_as_ever ∷ []
