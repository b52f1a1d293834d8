-- Section 5: opening gives a fresh link, of what was chosen (an array is the list of its bytes), and the timings are the link's own.
-- Assumes nothing.
use Rattle.std.specs.Prelude.{ℕ, List, replicate}
use Rattle.rules.specs.declared.Choice.{Choice}
use Rattle.step.specs.Core.{fresh_core}
use Rattle.units.specs.declared.Millis.{Millis}
use Rattle.link.specs.declared.link.Link.{Link}
use Rattle.link.specs.declared.link.Timings.{Timings}
use Rattle.frame.specs.Frame.{MAX_BODY, MAX_FRAME}

unfoldable pub no_body : List ℕ
no_body = replicate MAX_BODY 0

unfoldable pub no_frame : List ℕ
no_frame = replicate MAX_FRAME 0

abbrev pub fresh_link : Choice → Link
fresh_link c = record { core = fresh_core c; body = no_body; frame = no_frame }

-- Times are milliseconds.
abbrev pub millis : ℕ → Millis
millis n = record { 0 = n }

-- The protocol's timings belong to the link's own type as named constants.
abbrev pub timings : Timings
timings =
    record {
      -- The tick that makes a frame's clock 1,501 aborts the frame: it may take 1,500.
      frame_time = millis 1500;
      -- Each later tick adds 1 to a copy's wait; at 1,600 behind its time on the wire the copy is lost.
      ack_wait = millis 1600;
      -- From the ACK a session waits 5,000 ticks.
      response_wait = millis 5000;
      -- After copy 1, 2, 3 back off 100, 1,100, 2,100 ticks.
      back_off_1 = millis 100;
      back_off_2 = millis 1100;
      back_off_3 = millis 2100;
      -- After a loss by timeout, in the new mode: 0, 0, 500.
      sooner_1 = millis 0;
      sooner_2 = millis 0;
      sooner_3 = millis 500;
    }
