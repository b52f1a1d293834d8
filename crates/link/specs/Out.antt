-- What an accepted call gives: the next link, the report and what goes out, by what is decided (sections 4 to 7).
-- Assumes nothing.
use Rattle.std.specs.Prelude.{ℕ, ◌+◌, Bool, true, List, [], ◌∷◌, length, take, Option}
use Rattle.refusals.specs.Pick.{pick}
use Rattle.frame.specs.Bytes.{over}
use Rattle.rules.specs.Rules.{Rules}
use Rattle.hearing.specs.Hearing.{hear_byte, hear_tick, keep, is_hunting}
use Rattle.job.specs.Job.{still}
use Rattle.writing.specs.Writing.{line_bytes}
use Rattle.report.specs.Report.{news_reception, news_sending, news_session, news_reset}
use Rattle.link.specs.Link.{no_body, no_frame}
use Rattle.rules.specs.declared.Choice.{Choice}
use Rattle.hearing.specs.declared.hearing.Heard.{Heard}
use Rattle.hearing.specs.declared.hearing.Hearing.{Hearing}
use Rattle.hearing.specs.declared.hearing.Hearing.TheVariants.{Hunting}
use Rattle.report.specs.declared.Reception.{Reception}
use Rattle.report.specs.declared.Reception.TheVariants as reception
use Rattle.report.specs.declared.Reset.{Reset}
use Rattle.report.specs.declared.Sending.{Sending}
use Rattle.report.specs.declared.Session.{Session}
use Rattle.report.specs.declared.Report.{Report}
use Rattle.link.specs.declared.link.Link.{Link}
use Rattle.step.specs.declared.deciding.Outcome.{Outcome}
use Rattle.step.specs.Deciding.{decide, acted, opening, restarting}
use Rattle.step.specs.declared.numbers.Core.{Core}

-- what an accepted call gives: the next link, the four parts, the bytes for the line and those handed up
pub record Out : Type 0 where
  pub link : Link
  pub reception : Reception
  pub sending : Sending
  pub session : Session
  pub reset : Reset
  pub line : List ℕ
  pub up : List ℕ

-- The four parts, and beside them the numbers of bytes.
abbrev pub out_report : Out → Report
out_report o =
    record {
      reception = o.reception;
      sending = o.sending;
      session = o.session;
      reset = o.reset;
      line = length o.line;
      up = length o.up;
    }

-- the numbers of the next link: what was decided, beside hearing, the held frame's length and what the link was opened as
abbrev pub core_of : Outcome → Hearing → ℕ → Choice → Core
core_of o h size c = record { hearing = h; job = o.job; bad = o.bad; size = size; choice = c }

-- what goes out: 06, 15 or 18, then the copy; the body's first bytes are handed up
abbrev pub out : List ℕ → List ℕ → Hearing → ℕ → Choice → Outcome → Out
out body frame h size c o =
    record {
      link = record { core = core_of o h size c; body = body; frame = frame };
      reception = o.reception;
      sending = o.sending;
      session = o.session;
      reset = o.reset;
      line = line_bytes o.reply o.copy size frame;
      up = take o.up body;
    }

-- a byte or a tick, heard as h, on a link of these numbers and arrays
abbrev pub heard_out : Rules → Core → List ℕ → List ℕ → Heard → Out
heard_out R k body frame h = out body frame h.hearing k.size k.choice (decide R k.size h.event k.job k.bad)

abbrev pub byte_by : Rules → Link → ℕ → Heard → Out
byte_by R l b h = heard_out R l.core (keep h.event b l.body) l.frame h

unfoldable pub byte_out : Rules → Link → ℕ → Out
byte_out R l b = byte_by R l b (hear_byte b l.core.hearing)

unfoldable pub tick_out : Rules → Link → Out
tick_out R l = heard_out R l.core l.body l.frame (hear_tick l.core.hearing)

-- The frame is held in the link.
unfoldable pub open_out : Link → Option ℕ → List ℕ → Out
open_out l a f = out l.body (over f l.frame) l.core.hearing (length f) l.core.choice (opening (is_hunting l.core.hearing) a l.core.bad)

-- Restart makes the link fresh; it stays what it was opened as.
unfoldable pub restart_out : Link → Out
restart_out l = out no_body no_frame Hunting 0 l.core.choice (restarting l.core.job)

-- A report that is more than "nothing" or "skipped".
abbrev pub news : Out → Bool
news o =
    pick (news_reception o.reception) true
    (pick (news_sending o.sending) true
    (pick (news_session o.session) true
    (news_reset o.reset)))

-- a call that does nothing and reports nothing
abbrev pub quiet : Link → Out
quiet l = out l.body l.frame l.core.hearing l.core.size l.core.choice (acted reception.Nothing l.core.bad (still l.core.job))

pub record Taken : Type 0 where
  pub out : Out
  pub taken : ℕ

-- A run of bytes stops behind the first byte whose report is news and says how many were taken.
-- Here o is what the last byte gave, with n taken.
unfoldable pub run_from : Rules → Out → ℕ → List ℕ → Taken
run_from R o n [] = record { out = o; taken = n }
run_from R o n (b ∷ bs) =
    pick (news (byte_out R o.link b)) (record { out = byte_out R o.link b; taken = n + 1 })
    (run_from R (byte_out R o.link b) (n + 1) bs)

-- An empty run takes 0 and reports nothing.
abbrev pub run_out : Rules → Link → List ℕ → Taken
run_out R l bytes = run_from R (quiet l) 0 bytes
