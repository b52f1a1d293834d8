-- A call on a link, with the sizes of the two buffers lent to it, and what it does: the link's own definitions, put together.
-- Assumes nothing.
use Rattle.std.specs.Prelude.{ℕ, List, length, Err, None, Ok, Some}
use Rattle.frame.specs.Frame.{frame_of, REQ, MAX_BODY, LINE_ROOM}
use Rattle.refusals.specs.declared.Refusal.{Refusal}
use Rattle.rules.specs.Rules.{Rules}
use Rattle.link.specs.Out.{Out, byte_out, tick_out, open_out, restart_out, run_out}
use Rattle.step.specs.Checks.{room_checks, send_own, session_own, Checked, passes}
use Rattle.link.specs.declared.link.Link.{Link}

pub data What : Type 0 where
  byte : (b : ℕ) → What
  bytes : (bs : List ℕ) → What
  tick : What
  send : (kind command : ℕ) (ps : List ℕ) → What
  session : (command : ℕ) (ps : List ℕ) → What
  restart : What

-- what is called, and how many bytes are lent for the line and for the frame handed up
pub record Call : Type 0 where
  pub what : What
  pub line : ℕ
  pub up : ℕ

-- with 258 bytes lent for the line and 254 for the frame handed up
abbrev pub lent : What → Call
lent w = record { what = w; line = LINE_ROOM; up = MAX_BODY }

-- behind ROOM: send goes on with BUSY, KIND, LONG; session with BUSY, LONG; the others have no other refusal
abbrev pub checks_of : Link → What → Checked
checks_of l (byte b) = passes
checks_of l (bytes bs) = passes
checks_of l tick = passes
checks_of l (send kind command ps) = send_own l.core.job kind (length ps)
checks_of l (session command ps) = session_own l.core.job (length ps)
checks_of l restart = passes

-- what the call gives where it is accepted; a run of bytes gives what its last byte taken gave
abbrev pub out_of : Rules → Link → What → Out
out_of R l (byte b) = byte_out R l b
out_of R l (bytes bs) = (run_out R l bs).out
out_of R l tick = tick_out R l
out_of R l (send kind command ps) = open_out l None (frame_of kind command ps)
out_of R l (session command ps) = open_out l (Some command) (frame_of REQ command ps)
out_of R l restart = restart_out l

pub data Done : Type 0 where
  refused : Refusal → Done
  took : Out → Done

abbrev pub done_by : Checked → Out → Done
done_by (Ok _) o = took o
done_by (Err k) o = refused k

-- ROOM first, by the numbers of lent bytes
abbrev pub perform : Rules → Link → Call → Done
perform R l c = done_by (room_checks c.line c.up (checks_of l c.what)) (out_of R l c.what)
