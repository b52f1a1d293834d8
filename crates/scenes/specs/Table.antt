-- Section 10: the examples with a star, in the document's order and words; the times of three of them are those of document 02, P2 (5 bytes take
-- a tick on the wire), and the silent-line cases name the old mode (P4). A tick's number is that of the accepted ticks so far.
-- Assumes nothing.
use Rattle.std.specs.Prelude.{ℕ, List, [], ◌∷◌, ◌++◌, replicate, Ok, Err}
use Rattle.refusals.specs.declared.Refusal.TheVariants as refusal
use Rattle.report.specs.declared.Reception.{Reception}
use Rattle.report.specs.declared.Reception.TheVariants as reception
use Rattle.report.specs.declared.Reset.{Reset}
use Rattle.report.specs.declared.Reset.TheVariants as reset
use Rattle.report.specs.declared.Sending.{Sending}
use Rattle.report.specs.declared.Sending.TheVariants as sending
use Rattle.report.specs.declared.Session.TheVariants as session
use Rattle.history.specs.Perform.{Call, byte, send, lent}
use Rattle.scenes.specs.Scene.{silence, Seen, said}
use Rattle.scenes.specs.Example.{build, set_timeouts, read, list, play, play_spaced, built, reading, listed, shows, Example}

-- ---- the words of the scenes
-- the frame that the scenes send: REQ 07, no parameters
abbrev pub frame07 : List ℕ
frame07 = 0x01 ∷ 0x03 ∷ 0x00 ∷ 0x07 ∷ 0xFB ∷ []

abbrev pub send07 : Call
send07 = lent (send 0x00 0x07 [])

-- one byte received
abbrev pub given : ℕ → Call
given b = lent (byte b)

-- a frame received, byte by byte: with a wrong checksum, with the right one
abbrev pub bad : List Call
bad = given 0x01 ∷ given 0x03 ∷ given 0x00 ∷ given 0x07 ∷ given 0xFA ∷ []

abbrev pub good : List Call
good = given 0x01 ∷ given 0x03 ∷ given 0x00 ∷ given 0x07 ∷ given 0xFB ∷ []

-- after so many ticks the sending part says this, with these bytes, and no other part says anything
abbrev pub sending_says : ℕ → Sending → List ℕ → Seen
sending_says t s line = said t reception.Nothing s session.Nothing reset.Nothing line

-- copy n goes out, whole: of this frame, and of the frame that the scenes send
abbrev pub copy_of : List ℕ → ℕ → ℕ → Seen
copy_of frame n t = sending_says t (sending.Copy n) frame

abbrev pub copy : ℕ → ℕ → Seen
copy = copy_of frame07

abbrev pub backs_off : ℕ → ℕ → Seen
backs_off ticks t = sending_says t (sending.BackingOff (record { 0 = ticks })) []

-- failed with 4 copies, and a reset with reason "delivery"
abbrev pub gives_up : ℕ → Seen
gives_up t = said t reception.Nothing (sending.Failed 4) session.Nothing reset.Delivery []

-- copy 1, its back-off, copy 2, its back-off, copy 3, its back-off, copy 4 and the failure, on these ticks
abbrev pub four_copies_of : (frame : List ℕ) (c₁ b₁ c₂ b₂ c₃ b₃ c₄ end : ℕ) → List Seen
four_copies_of frame c₁ b₁ c₂ b₂ c₃ b₃ c₄ end =
    copy_of frame 1 c₁
    ∷ backs_off 100 b₁
    ∷ copy_of frame 2 c₂
    ∷ backs_off 1_100 b₂
    ∷ copy_of frame 3 c₃
    ∷ backs_off 2_100 b₃
    ∷ copy_of frame 4 c₄
    ∷ gives_up end
    ∷ []

abbrev pub four_copies : (c₁ b₁ c₂ b₂ c₃ b₃ c₄ end : ℕ) → List Seen
four_copies = four_copies_of frame07

-- before any tick reception says this and puts out one byte
abbrev pub reception_says : Reception → Reset → ℕ → Seen
reception_says r x reply = said 0 r sending.Nothing session.Nothing x (reply ∷ [])

-- ---- the table
-- REQ 07, no parameters: 01 03 00 07 FB.
unfoldable pub req07 : Example
req07 =
    record {
      question = build 0x00 0x07 [] (replicate 5 0);
      expected = built (Ok 5) (0x01 ∷ 0x03 ∷ 0x00 ∷ 0x07 ∷ 0xFB ∷ []);
    }

-- REQ 06 with 96 0F (1,500 and 150 ms): 01 05 00 06 96 0F 65.
abbrev pub frame06 : List ℕ
frame06 = 0x01 ∷ 0x05 ∷ 0x00 ∷ 0x06 ∷ 0x96 ∷ 0x0F ∷ 0x65 ∷ []

unfoldable pub req06 : Example
req06 = record { question = build 0x00 0x06 (0x96 ∷ 0x0F ∷ []) (replicate 7 0); expected = built (Ok 7) frame06 }

unfoldable pub req06_times : Example
req06_times =
    record {
      question = set_timeouts (record { 0 = 1500 }) (record { 0 = 150 }) (replicate 7 0);
      expected = built (Ok 7) frame06;
    }

-- 01 03 00 07 FA is SUM; 01 02 00 FD is LENGTH; 01 03 00 07 is SHORT; 01 03 02 07 F9 is KIND.
unfoldable pub is_sum : Example
is_sum = record { question = read (0x01 ∷ 0x03 ∷ 0x00 ∷ 0x07 ∷ 0xFA ∷ []); expected = reading (Err refusal.Sum) }

unfoldable pub is_length : Example
is_length = record { question = read (0x01 ∷ 0x02 ∷ 0x00 ∷ 0xFD ∷ []); expected = reading (Err refusal.Length) }

unfoldable pub is_short : Example
is_short = record { question = read (0x01 ∷ 0x03 ∷ 0x00 ∷ 0x07 ∷ []); expected = reading (Err refusal.Short) }

unfoldable pub is_kind : Example
is_kind = record { question = read (0x01 ∷ 0x03 ∷ 0x02 ∷ 0x07 ∷ 0xF9 ∷ []); expected = reading (Err refusal.Kind) }

-- 06 after 1,600 ticks: acknowledged, 1 copy.
unfoldable pub ack_in_time : Example
ack_in_time =
    record {
      question = play (send07 ∷ (silence 1_600 ++ (given 0x06 ∷ [])));
      expected = shows (copy 1 0 ∷ sending_says 1_600 (sending.Acknowledged 1) [] ∷ []);
    }

-- In the old mode copy 2 of a silent line goes out on tick 1,701.
unfoldable pub second_copy : Example
second_copy =
    record {
      question = play_spaced (send07 ∷ silence 1_701);
      expected = shows (copy 1 0 ∷ backs_off 100 1_601 ∷ copy 2 1_701 ∷ []);
    }

-- Silence in the old mode: copies at ticks 0, 1,701, 4,402, 8,103, failed at 9,704.
unfoldable pub silent_line : Example
silent_line =
    record {
      question = play_spaced (send07 ∷ silence 9_704);
      expected = shows (four_copies 0 1_601 1_701 3_302 4_402 6_003 8_103 9_704);
    }

-- 15 straight after every copy: copies at 0, 100, 1,200, 3,300, failed at 3,300.
abbrev pub after_every : ℕ → List Call
after_every b = send07 ∷ given b ∷ (silence 100 ++ (given b ∷ (silence 1_100 ++ (given b ∷ (silence 2_100 ++ (given b ∷ []))))))

unfoldable pub told_each_time : Example
told_each_time =
    record {
      question = play (after_every 0x15);
      expected = shows (four_copies 0 0 100 100 1_200 1_200 3_300 3_300);
    }

-- 01 received, then a send, then no byte: copy 1 on tick 1,501.
unfoldable pub due_in_a_frame : Example
due_in_a_frame =
    record {
      question = play (given 0x01 ∷ send07 ∷ silence 1_501);
      expected =
          shows
          (sending_says 0 sending.Due []
          ∷ said 1_501 reception.Abort (sending.Copy 1) session.Nothing reset.Nothing frame07
          ∷ []);
    }

-- Bad, bad, bad: reset on the third.
unfoldable pub three_bad : Example
three_bad =
    record {
      question = play (bad ++ (bad ++ bad));
      expected =
          shows
          (reception_says reception.BadSum reset.Nothing 0x15
          ∷ reception_says reception.BadSum reset.Nothing 0x15
          ∷ reception_says reception.BadSum reset.Sums 0x15
          ∷ []);
    }

-- Bad, bad, good, bad: none.
unfoldable pub good_between : Example
good_between =
    record {
      question = play (bad ++ (bad ++ (good ++ bad)));
      expected =
          shows
          (reception_says reception.BadSum reset.Nothing 0x15
          ∷ reception_says reception.BadSum reset.Nothing 0x15
          ∷ reception_says reception.Frame reset.Nothing 0x06
          ∷ reception_says reception.BadSum reset.Nothing 0x15
          ∷ []);
    }

-- First mask byte 05: nodes 1 and 3. (Version 05, capabilities 08, 29 mask bytes, chip type 07, chip version 00; room for 232.)
unfoldable pub first_byte_05 : Example
first_byte_05 =
    record {
      question = list (0x01 ∷ 0x02 ∷ 0x05 ∷ 0x08 ∷ 29 ∷ 0x05 ∷ (replicate 28 0 ++ (0x07 ∷ 0x00 ∷ []))) (replicate 232 0);
      expected =
          listed
          (Ok (record { controller = record { version = 0x05; capabilities = 0x08; chip_type = 0x07; chip_version = 0x00 }; count = 2 }))
          (1 ∷ 3 ∷ replicate 230 0);
    }

abbrev pub table : List Example
table =
    req07
    ∷ req06
    ∷ req06_times
    ∷ is_sum
    ∷ is_length
    ∷ is_short
    ∷ is_kind
    ∷ ack_in_time
    ∷ second_copy
    ∷ silent_line
    ∷ told_each_time
    ∷ due_in_a_frame
    ∷ three_bad
    ∷ good_between
    ∷ first_byte_05
    ∷ []
