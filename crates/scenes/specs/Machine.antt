-- The machine on one page: every state of the job and of hearing against everything that can come to it.
-- `docs/machine` reads these rows, one to a line, and makes the tables and the picture of docs/ARCHITECTURE.md from them.
-- A number is a variable where the answer does not hang on it; where a test decides, a row stands on each side of the edge.
-- Assumes nothing.
use Rattle.std.specs.Prelude.{ℕ, ◌+◌, ◌≡◌, Bool, true, false, List, [], ◌∷◌, None, Option, Some}
use Rattle.std.specs.Int.Bits.{bit_xor}
use Rattle.refusals.specs.Pick.{pick}
use Rattle.rules.specs.Rules.{wire_time, rules_of}
use Rattle.rules.specs.declared.Choice.{Choice}
use Rattle.rules.specs.declared.Role.{Role}
use Rattle.rules.specs.declared.Role.TheVariants.{Host, Module}
use Rattle.rules.specs.declared.Mode.TheVariants.{Sooner, Spaced}
use Rattle.hearing.specs.Hearing.{hear_byte, hear_tick}
use Rattle.hearing.specs.declared.hearing.Partial.{Partial}
use Rattle.hearing.specs.declared.hearing.Hearing.{Hearing}
use Rattle.hearing.specs.declared.hearing.Hearing.TheVariants.{Hunting, Head, Body}
use Rattle.hearing.specs.declared.hearing.Single.TheVariants.{Ack, Nak, Can}
use Rattle.hearing.specs.declared.hearing.End.TheVariants.{BadLength, BadSum, Reserved, Request, Response}
use Rattle.hearing.specs.declared.hearing.Event.{Event}
use Rattle.hearing.specs.declared.hearing.Event.TheVariants.{Inside, Kept, Skipped, Alone, Ended, TickHunting, TickInside, Aborted}
use Rattle.hearing.specs.declared.hearing.Heard.{Heard}
use Rattle.report.specs.declared.Reception.{Reception}
use Rattle.report.specs.declared.Reception.TheVariants as reception
use Rattle.report.specs.declared.Sending.{Sending}
use Rattle.report.specs.declared.Sending.TheVariants as sending
use Rattle.report.specs.declared.Session.{Session}
use Rattle.report.specs.declared.Session.TheVariants as session
use Rattle.report.specs.declared.Reset.{Reset}
use Rattle.report.specs.declared.Reset.TheVariants as reset
use Rattle.reception.specs.Said.{said_on}
use Rattle.reception.specs.Sums.{sums_on}
use Rattle.reception.specs.declared.said.Awaited.{Awaited}
use Rattle.reception.specs.declared.said.Awaited.TheVariants as awaited
use Rattle.reception.specs.declared.said.Said.{Said}
use Rattle.reception.specs.declared.sums.Sums.{Sums}
use Rattle.job.specs.Job.{next_copy, start, is_open}
use Rattle.job.specs.declared.job.Act.{Act}
use Rattle.job.specs.declared.job.Job.{Job}
use Rattle.job.specs.declared.job.Job.TheVariants.{Idle, Due, Waiting, BackingOff, Awaiting}
use Rattle.sending.specs.Events.{on_event, on_restart}
use Rattle.step.specs.Core.{fresh_core}
use Rattle.step.specs.Deciding.{restarting}
use Rattle.step.specs.declared.deciding.Outcome.{Outcome}
use Rattle.link.specs.Link.{millis, no_body, no_frame}
use Rattle.link.specs.Out.{restart_out}
use Rattle.link.specs.declared.link.Link.{Link}
use Rattle.hearing.specs.declared.hearing.Single.{Single}

-- ---- the job: what comes to it, and what it does
pub data JobEvent : Type 0 where
  -- what hearing made of a byte or a tick
  on : Event → JobEvent
  -- a send or session that no other check refuses, while hunting or inside a frame
  opens : (hunting : Bool) → Option ℕ → JobEvent
  restarts : JobEvent

pub data Does : Type 0 where
  -- the next job, the three parts that it has a say in, and whether a copy goes out
  does : Job → Sending → Session → Reset → (copy : Bool) → Does
  busy : Does

abbrev pub acts : Act → Does
acts x = does x.job x.sending x.session x.reset x.copy

-- by the definitions that the link's promises cite, whatever was chosen, with a held frame of so many bytes
abbrev pub job_does : Choice → ℕ → JobEvent → Job → Does
job_does o size (on e) j = acts (on_event (rules_of o) size e j)
job_does o size (opens hunting a) j = pick (is_open j) busy (acts (start hunting a 0))
job_does o size restarts j = acts (on_restart j)

pub data JobRow : Type 0 where
  row : Job → JobEvent → Does → JobRow

abbrev pub RowHolds : Choice → ℕ → JobRow → Type 0
RowHolds o size (row j x d) = job_does o size x j ≡ d

abbrev pub AllRows : Choice → ℕ → List JobRow → Type 0
AllRows o size [] = Unit {0}
AllRows o size (r ∷ rs) = RowHolds o size r × AllRows o size rs

-- ---- the job's rows, by state: what does something first
abbrev pub idle_rows : Option ℕ → (at k f : ℕ) → List JobRow
idle_rows a at k f =
    row Idle (opens true a) (does (Waiting a 1 0) (sending.Copy 1) session.Nothing reset.Nothing true)
    ∷ row Idle (opens false a) (does (Due a 0) sending.Due session.Nothing reset.Nothing false)
    ∷ row Idle (on (Alone Ack)) (does Idle sending.Stray session.Nothing reset.Nothing false)
    ∷ row Idle (on (Alone Nak)) (does Idle sending.Stray session.Nothing reset.Nothing false)
    ∷ row Idle (on (Alone Can)) (does Idle sending.Stray session.Nothing reset.Nothing false)
    ∷ row Idle (on Inside) (does Idle sending.Nothing session.Nothing reset.Nothing false)
    ∷ row Idle (on (Kept at)) (does Idle sending.Nothing session.Nothing reset.Nothing false)
    ∷ row Idle (on Skipped) (does Idle sending.Nothing session.Nothing reset.Nothing false)
    ∷ row Idle (on (Ended BadLength)) (does Idle sending.Nothing session.Nothing reset.Nothing false)
    ∷ row Idle (on (Ended BadSum)) (does Idle sending.Nothing session.Nothing reset.Nothing false)
    ∷ row Idle (on (Ended Reserved)) (does Idle sending.Nothing session.Nothing reset.Nothing false)
    ∷ row Idle (on (Ended (Request k))) (does Idle sending.Nothing session.Nothing reset.Nothing false)
    ∷ row Idle (on (Ended (Response k f))) (does Idle sending.Nothing session.Nothing reset.Nothing false)
    ∷ row Idle (on TickHunting) (does Idle sending.Nothing session.Nothing reset.Nothing false)
    ∷ row Idle (on TickInside) (does Idle sending.Nothing session.Nothing reset.Nothing false)
    ∷ row Idle (on Aborted) (does Idle sending.Nothing session.Nothing reset.Nothing false)
    ∷ row Idle restarts (does Idle sending.Nothing session.Nothing reset.Nothing false)
    ∷ []

abbrev pub due_rows : (a b : Option ℕ) (c n at k f : ℕ) (hunting : Bool) → List JobRow
due_rows a b c n at k f hunting =
    row (Due a n) (on (Ended BadLength)) (does (Waiting a (next_copy n) 0) (sending.Copy (next_copy n)) session.Nothing reset.Nothing true)
    ∷ row (Due a n) (on (Ended BadSum)) (does (Waiting a (next_copy n) 0) (sending.Copy (next_copy n)) session.Nothing reset.Nothing true)
    ∷ row (Due a n) (on (Ended Reserved)) (does (Waiting a (next_copy n) 0) (sending.Copy (next_copy n)) session.Nothing reset.Nothing true)
    ∷ row (Due a n) (on (Ended (Request k))) (does (Waiting a (next_copy n) 0) (sending.Copy (next_copy n)) session.Nothing reset.Nothing true)
    ∷ row (Due a n) (on (Ended (Response k f))) (does (Waiting a (next_copy n) 0) (sending.Copy (next_copy n)) session.Nothing reset.Nothing true)
    ∷ row (Due a n) (on Aborted) (does (Waiting a (next_copy n) 0) (sending.Copy (next_copy n)) session.Nothing reset.Nothing true)
    ∷ row (Due a 0) (on Aborted) (does (Waiting a 1 0) (sending.Copy 1) session.Nothing reset.Nothing true)
    ∷ row (Due a 1) (on Aborted) (does (Waiting a 2 0) (sending.Copy 2) session.Nothing reset.Nothing true)
    ∷ row (Due a 2) (on Aborted) (does (Waiting a 3 0) (sending.Copy 3) session.Nothing reset.Nothing true)
    ∷ row (Due a 3) (on Aborted) (does (Waiting a 4 0) (sending.Copy 4) session.Nothing reset.Nothing true)
    ∷ row (Due a n) (on (Alone Ack)) (does (Due a n) sending.Stray session.Nothing reset.Nothing false)
    ∷ row (Due a n) (on (Alone Nak)) (does (Due a n) sending.Stray session.Nothing reset.Nothing false)
    ∷ row (Due a n) (on (Alone Can)) (does (Due a n) sending.Stray session.Nothing reset.Nothing false)
    ∷ row (Due a n) (on Inside) (does (Due a n) sending.Nothing session.Nothing reset.Nothing false)
    ∷ row (Due a n) (on (Kept at)) (does (Due a n) sending.Nothing session.Nothing reset.Nothing false)
    ∷ row (Due a n) (on Skipped) (does (Due a n) sending.Nothing session.Nothing reset.Nothing false)
    ∷ row (Due a n) (on TickHunting) (does (Due a n) sending.Nothing session.Nothing reset.Nothing false)
    ∷ row (Due a n) (on TickInside) (does (Due a n) sending.Nothing session.Nothing reset.Nothing false)
    ∷ row (Due a n) (opens hunting b) busy
    ∷ row (Due None n) restarts (does Idle sending.Abandoned session.Nothing reset.Nothing false)
    ∷ row (Due (Some c) n) restarts (does Idle sending.Nothing session.Abandoned reset.Nothing false)
    ∷ []

-- w is the frame's time on the wire; what a loss by time does behind copies 1, 2 and 3 goes by the mode
abbrev pub waiting_rows : (w : ℕ) (a b : Option ℕ) (c n e at k f : ℕ) (hunting : Bool) → List JobRow
waiting_rows w a b c n e at k f hunting =
    row (Waiting None n e) (on (Alone Ack)) (does Idle (sending.Acknowledged n) session.Nothing reset.Nothing false)
    ∷ row (Waiting (Some c) n e) (on (Alone Ack)) (does (Awaiting c n 0) (sending.Acknowledged n) session.Waiting reset.Nothing false)
    ∷ row (Waiting a 1 e) (on (Alone Nak)) (does (BackingOff a 1 100) (sending.BackingOff (millis 100)) session.Nothing reset.Nothing false)
    ∷ row (Waiting a 1 e) (on (Alone Can)) (does (BackingOff a 1 100) (sending.BackingOff (millis 100)) session.Nothing reset.Nothing false)
    ∷ row (Waiting a 2 e) (on (Alone Nak)) (does (BackingOff a 2 1_100) (sending.BackingOff (millis 1_100)) session.Nothing reset.Nothing false)
    ∷ row (Waiting a 2 e) (on (Alone Can)) (does (BackingOff a 2 1_100) (sending.BackingOff (millis 1_100)) session.Nothing reset.Nothing false)
    ∷ row (Waiting a 3 e) (on (Alone Nak)) (does (BackingOff a 3 2_100) (sending.BackingOff (millis 2_100)) session.Nothing reset.Nothing false)
    ∷ row (Waiting a 3 e) (on (Alone Can)) (does (BackingOff a 3 2_100) (sending.BackingOff (millis 2_100)) session.Nothing reset.Nothing false)
    ∷ row (Waiting None 4 e) (on (Alone Nak)) (does Idle (sending.Failed 4) session.Nothing reset.Delivery false)
    ∷ row (Waiting None 4 e) (on (Alone Can)) (does Idle (sending.Failed 4) session.Nothing reset.Delivery false)
    ∷ row (Waiting None 4 (1_599 + w)) (on TickHunting) (does Idle (sending.Failed 4) session.Nothing reset.Delivery false)
    ∷ row (Waiting None 4 (1_599 + w)) (on TickInside) (does Idle (sending.Failed 4) session.Nothing reset.Delivery false)
    ∷ row (Waiting None 4 (1_599 + w)) (on Aborted) (does Idle (sending.Failed 4) session.Nothing reset.Delivery false)
    ∷ row (Waiting (Some c) 4 e) (on (Alone Nak)) (does Idle (sending.Failed 4) (session.NotSent 4) reset.Delivery false)
    ∷ row (Waiting (Some c) 4 e) (on (Alone Can)) (does Idle (sending.Failed 4) (session.NotSent 4) reset.Delivery false)
    ∷ row (Waiting (Some c) 4 (1_599 + w)) (on TickHunting) (does Idle (sending.Failed 4) (session.NotSent 4) reset.Delivery false)
    ∷ row (Waiting (Some c) 4 (1_599 + w)) (on TickInside) (does Idle (sending.Failed 4) (session.NotSent 4) reset.Delivery false)
    ∷ row (Waiting (Some c) 4 (1_599 + w)) (on Aborted) (does Idle (sending.Failed 4) (session.NotSent 4) reset.Delivery false)
    ∷ row (Waiting a n (1_598 + w)) (on TickHunting) (does (Waiting a n (1_599 + w)) sending.Nothing session.Nothing reset.Nothing false)
    ∷ row (Waiting a n (1_598 + w)) (on TickInside) (does (Waiting a n (1_599 + w)) sending.Nothing session.Nothing reset.Nothing false)
    ∷ row (Waiting a n (1_598 + w)) (on Aborted) (does (Waiting a n (1_599 + w)) sending.Nothing session.Nothing reset.Nothing false)
    ∷ row (Waiting a n e) (on Inside) (does (Waiting a n e) sending.Nothing session.Nothing reset.Nothing false)
    ∷ row (Waiting a n e) (on (Kept at)) (does (Waiting a n e) sending.Nothing session.Nothing reset.Nothing false)
    ∷ row (Waiting a n e) (on Skipped) (does (Waiting a n e) sending.Nothing session.Nothing reset.Nothing false)
    ∷ row (Waiting a n e) (on (Ended BadLength)) (does (Waiting a n e) sending.Nothing session.Nothing reset.Nothing false)
    ∷ row (Waiting a n e) (on (Ended BadSum)) (does (Waiting a n e) sending.Nothing session.Nothing reset.Nothing false)
    ∷ row (Waiting a n e) (on (Ended Reserved)) (does (Waiting a n e) sending.Nothing session.Nothing reset.Nothing false)
    ∷ row (Waiting a n e) (on (Ended (Request k))) (does (Waiting a n e) sending.Nothing session.Nothing reset.Nothing false)
    ∷ row (Waiting a n e) (on (Ended (Response k f))) (does (Waiting a n e) sending.Nothing session.Nothing reset.Nothing false)
    ∷ row (Waiting a n e) (opens hunting b) busy
    ∷ row (Waiting None n e) restarts (does Idle sending.Abandoned session.Nothing reset.Nothing false)
    ∷ row (Waiting (Some c) n e) restarts (does Idle sending.Nothing session.Abandoned reset.Nothing false)
    ∷ []

-- a copy lost by time: in the new mode
abbrev pub sooner_rows : (w : ℕ) (a : Option ℕ) → List JobRow
sooner_rows w a =
    row (Waiting a 1 (1_599 + w)) (on TickHunting) (does (Waiting a 2 0) (sending.Copy 2) session.Nothing reset.Nothing true)
    ∷ row (Waiting a 1 (1_599 + w)) (on TickInside) (does (Due a 1) sending.Due session.Nothing reset.Nothing false)
    ∷ row (Waiting a 1 (1_599 + w)) (on Aborted) (does (Waiting a 2 0) (sending.Copy 2) session.Nothing reset.Nothing true)
    ∷ row (Waiting a 2 (1_599 + w)) (on TickHunting) (does (Waiting a 3 0) (sending.Copy 3) session.Nothing reset.Nothing true)
    ∷ row (Waiting a 2 (1_599 + w)) (on TickInside) (does (Due a 2) sending.Due session.Nothing reset.Nothing false)
    ∷ row (Waiting a 2 (1_599 + w)) (on Aborted) (does (Waiting a 3 0) (sending.Copy 3) session.Nothing reset.Nothing true)
    ∷ row (Waiting a 3 (1_599 + w)) (on TickHunting) (does (BackingOff a 3 500) (sending.BackingOff (millis 500)) session.Nothing reset.Nothing false)
    ∷ row (Waiting a 3 (1_599 + w)) (on TickInside) (does (BackingOff a 3 500) (sending.BackingOff (millis 500)) session.Nothing reset.Nothing false)
    ∷ row (Waiting a 3 (1_599 + w)) (on Aborted) (does (BackingOff a 3 500) (sending.BackingOff (millis 500)) session.Nothing reset.Nothing false)
    ∷ []

-- and in the old
abbrev pub spaced_rows : (w : ℕ) (a : Option ℕ) → List JobRow
spaced_rows w a =
    row (Waiting a 1 (1_599 + w)) (on TickHunting) (does (BackingOff a 1 100) (sending.BackingOff (millis 100)) session.Nothing reset.Nothing false)
    ∷ row (Waiting a 1 (1_599 + w)) (on TickInside) (does (BackingOff a 1 100) (sending.BackingOff (millis 100)) session.Nothing reset.Nothing false)
    ∷ row (Waiting a 1 (1_599 + w)) (on Aborted) (does (BackingOff a 1 100) (sending.BackingOff (millis 100)) session.Nothing reset.Nothing false)
    ∷ row (Waiting a 2 (1_599 + w)) (on TickHunting) (does (BackingOff a 2 1_100) (sending.BackingOff (millis 1_100)) session.Nothing reset.Nothing false)
    ∷ row (Waiting a 2 (1_599 + w)) (on TickInside) (does (BackingOff a 2 1_100) (sending.BackingOff (millis 1_100)) session.Nothing reset.Nothing false)
    ∷ row (Waiting a 2 (1_599 + w)) (on Aborted) (does (BackingOff a 2 1_100) (sending.BackingOff (millis 1_100)) session.Nothing reset.Nothing false)
    ∷ row (Waiting a 3 (1_599 + w)) (on TickHunting) (does (BackingOff a 3 2_100) (sending.BackingOff (millis 2_100)) session.Nothing reset.Nothing false)
    ∷ row (Waiting a 3 (1_599 + w)) (on TickInside) (does (BackingOff a 3 2_100) (sending.BackingOff (millis 2_100)) session.Nothing reset.Nothing false)
    ∷ row (Waiting a 3 (1_599 + w)) (on Aborted) (does (BackingOff a 3 2_100) (sending.BackingOff (millis 2_100)) session.Nothing reset.Nothing false)
    ∷ []

abbrev pub backing_off_rows : (a b : Option ℕ) (c n l at k f : ℕ) (hunting : Bool) → List JobRow
backing_off_rows a b c n l at k f hunting =
    row (BackingOff a n 1) (on TickHunting) (does (Waiting a (next_copy n) 0) (sending.Copy (next_copy n)) session.Nothing reset.Nothing true)
    ∷ row (BackingOff a n 1) (on Aborted) (does (Waiting a (next_copy n) 0) (sending.Copy (next_copy n)) session.Nothing reset.Nothing true)
    ∷ row (BackingOff a 1 1) (on TickHunting) (does (Waiting a 2 0) (sending.Copy 2) session.Nothing reset.Nothing true)
    ∷ row (BackingOff a 2 1) (on TickHunting) (does (Waiting a 3 0) (sending.Copy 3) session.Nothing reset.Nothing true)
    ∷ row (BackingOff a 3 1) (on TickHunting) (does (Waiting a 4 0) (sending.Copy 4) session.Nothing reset.Nothing true)
    ∷ row (BackingOff a n 1) (on TickInside) (does (Due a n) sending.Due session.Nothing reset.Nothing false)
    ∷ row (BackingOff a n l) (on (Alone Ack)) (does (BackingOff a n l) sending.Stray session.Nothing reset.Nothing false)
    ∷ row (BackingOff a n l) (on (Alone Nak)) (does (BackingOff a n l) sending.Stray session.Nothing reset.Nothing false)
    ∷ row (BackingOff a n l) (on (Alone Can)) (does (BackingOff a n l) sending.Stray session.Nothing reset.Nothing false)
    ∷ row (BackingOff a n 2) (on TickHunting) (does (BackingOff a n 1) sending.Nothing session.Nothing reset.Nothing false)
    ∷ row (BackingOff a n 2) (on TickInside) (does (BackingOff a n 1) sending.Nothing session.Nothing reset.Nothing false)
    ∷ row (BackingOff a n 2) (on Aborted) (does (BackingOff a n 1) sending.Nothing session.Nothing reset.Nothing false)
    ∷ row (BackingOff a n l) (on Inside) (does (BackingOff a n l) sending.Nothing session.Nothing reset.Nothing false)
    ∷ row (BackingOff a n l) (on (Kept at)) (does (BackingOff a n l) sending.Nothing session.Nothing reset.Nothing false)
    ∷ row (BackingOff a n l) (on Skipped) (does (BackingOff a n l) sending.Nothing session.Nothing reset.Nothing false)
    ∷ row (BackingOff a n l) (on (Ended BadLength)) (does (BackingOff a n l) sending.Nothing session.Nothing reset.Nothing false)
    ∷ row (BackingOff a n l) (on (Ended BadSum)) (does (BackingOff a n l) sending.Nothing session.Nothing reset.Nothing false)
    ∷ row (BackingOff a n l) (on (Ended Reserved)) (does (BackingOff a n l) sending.Nothing session.Nothing reset.Nothing false)
    ∷ row (BackingOff a n l) (on (Ended (Request k))) (does (BackingOff a n l) sending.Nothing session.Nothing reset.Nothing false)
    ∷ row (BackingOff a n l) (on (Ended (Response k f))) (does (BackingOff a n l) sending.Nothing session.Nothing reset.Nothing false)
    ∷ row (BackingOff a n l) (opens hunting b) busy
    ∷ row (BackingOff None n l) restarts (does Idle sending.Abandoned session.Nothing reset.Nothing false)
    ∷ row (BackingOff (Some c) n l) restarts (does Idle sending.Nothing session.Abandoned reset.Nothing false)
    ∷ []

abbrev pub awaiting_rows : (b : Option ℕ) (c n e at k : ℕ) (hunting : Bool) → List JobRow
awaiting_rows b c n e at k hunting =
    row (Awaiting 0x07 n e) (on (Ended (Response k 0x07))) (does Idle sending.Nothing (session.Response n) reset.Nothing false)
    ∷ row (Awaiting c n 4_999) (on TickHunting) (does Idle sending.Nothing (session.NoResponse n) reset.Nothing false)
    ∷ row (Awaiting c n 4_999) (on TickInside) (does Idle sending.Nothing (session.NoResponse n) reset.Nothing false)
    ∷ row (Awaiting c n 4_999) (on Aborted) (does Idle sending.Nothing (session.NoResponse n) reset.Nothing false)
    ∷ row (Awaiting c n e) (on (Alone Ack)) (does (Awaiting c n e) sending.Stray session.Nothing reset.Nothing false)
    ∷ row (Awaiting c n e) (on (Alone Nak)) (does (Awaiting c n e) sending.Stray session.Nothing reset.Nothing false)
    ∷ row (Awaiting c n e) (on (Alone Can)) (does (Awaiting c n e) sending.Stray session.Nothing reset.Nothing false)
    ∷ row (Awaiting 0x07 n e) (on (Ended (Response k 0x08))) (does (Awaiting 0x07 n e) sending.Nothing session.Nothing reset.Nothing false)
    ∷ row (Awaiting c n 4_998) (on TickHunting) (does (Awaiting c n 4_999) sending.Nothing session.Nothing reset.Nothing false)
    ∷ row (Awaiting c n 4_998) (on TickInside) (does (Awaiting c n 4_999) sending.Nothing session.Nothing reset.Nothing false)
    ∷ row (Awaiting c n 4_998) (on Aborted) (does (Awaiting c n 4_999) sending.Nothing session.Nothing reset.Nothing false)
    ∷ row (Awaiting c n e) (on Inside) (does (Awaiting c n e) sending.Nothing session.Nothing reset.Nothing false)
    ∷ row (Awaiting c n e) (on (Kept at)) (does (Awaiting c n e) sending.Nothing session.Nothing reset.Nothing false)
    ∷ row (Awaiting c n e) (on Skipped) (does (Awaiting c n e) sending.Nothing session.Nothing reset.Nothing false)
    ∷ row (Awaiting c n e) (on (Ended BadLength)) (does (Awaiting c n e) sending.Nothing session.Nothing reset.Nothing false)
    ∷ row (Awaiting c n e) (on (Ended BadSum)) (does (Awaiting c n e) sending.Nothing session.Nothing reset.Nothing false)
    ∷ row (Awaiting c n e) (on (Ended Reserved)) (does (Awaiting c n e) sending.Nothing session.Nothing reset.Nothing false)
    ∷ row (Awaiting c n e) (on (Ended (Request k))) (does (Awaiting c n e) sending.Nothing session.Nothing reset.Nothing false)
    ∷ row (Awaiting c n e) (opens hunting b) busy
    ∷ row (Awaiting c n e) restarts (does Idle sending.Nothing session.Abandoned reset.Nothing false)
    ∷ []

-- ---- hearing: what comes to it, and what becomes of it
pub data Brings : Type 0 where
  byte : ℕ → Brings
  tick : Brings
  restart : Brings

-- A restart is no event: the link is fresh.
pub data Becomes : Type 0 where
  event : Event → Becomes
  fresh : Becomes

-- the next hearing and the event; what reception says, answers and hands up; the run of bad sums after it, and its reset
pub data Hears : Type 0 where
  hears : Hearing → Becomes → Reception → Option Single → (up : ℕ) → (bad : ℕ) → Reset → Hears

abbrev pub heard_as : Hearing → Event → Said → Sums → Hears
heard_as h e q z = hears h (event e) q.reception q.reply q.up z.bad z.reset

abbrev pub heard_by : Role → Awaited → ℕ → Heard → Hears
heard_by role w bad x = heard_as x.hearing x.event (said_on role x.event w) (sums_on x.event bad)

abbrev pub heard_fresh : Hearing → Outcome → Hears
heard_fresh h o = hears h fresh o.reception o.reply o.up o.bad o.reset

-- a link that hears so; of the rest, a restart looks at the job alone
abbrev pub hearing_so : Role → Hearing → Link
hearing_so role h = record { core = record { hearing = h; job = Idle; bad = 0; size = 0; choice = record { role = role; mode = Sooner } }; body = no_body; frame = no_frame }

-- by the definitions that the link's promises cite, with the role, what is awaited and the run of bad sums
abbrev pub hearing_does : Role → Awaited → ℕ → Brings → Hearing → Hears
hearing_does role w bad (byte b) h = heard_by role w bad (hear_byte b h)
hearing_does role w bad tick h = heard_by role w bad (hear_tick h)
hearing_does role w bad restart h = heard_fresh (restart_out (hearing_so role h)).link.core.hearing (restarting Idle)

pub data HearingRow : Type 0 where
  hear : Hearing → Brings → Awaited → (bad : ℕ) → Hears → HearingRow

abbrev pub HearHolds : Role → HearingRow → Type 0
HearHolds role (hear h x w bad d) = hearing_does role w bad x h ≡ d

abbrev pub AllHear : Role → List HearingRow → Type 0
AllHear role [] = Unit {0}
AllHear role (r ∷ rs) = HearHolds role r × AllHear role rs

-- a half-received frame: its clock, how many body bytes it has and how many have come, the Checksum that they give so far, Type and Command
abbrev pub partial : (clock size at sum kind command : ℕ) → Partial
partial clock size at sum kind command = record { clock = clock; size = size; at = at; sum = sum; kind = kind; command = command }

-- ---- hearing's rows, by state
abbrev pub hunting_rows : Awaited → (bad : ℕ) → List HearingRow
hunting_rows w bad =
    hear Hunting (byte 0x01) w bad (hears (Head 0) (event Inside) reception.Nothing None 0 bad reset.Nothing)
    ∷ hear Hunting (byte 0x06) w bad (hears Hunting (event (Alone Ack)) reception.Nothing None 0 bad reset.Nothing)
    ∷ hear Hunting (byte 0x15) w bad (hears Hunting (event (Alone Nak)) reception.Nothing None 0 bad reset.Nothing)
    ∷ hear Hunting (byte 0x18) w bad (hears Hunting (event (Alone Can)) reception.Nothing None 0 bad reset.Nothing)
    ∷ hear Hunting (byte 0x00) w bad (hears Hunting (event Skipped) reception.Skipped None 0 bad reset.Nothing)
    ∷ hear Hunting (byte 0x02) w bad (hears Hunting (event Skipped) reception.Skipped None 0 bad reset.Nothing)
    ∷ hear Hunting (byte 0x05) w bad (hears Hunting (event Skipped) reception.Skipped None 0 bad reset.Nothing)
    ∷ hear Hunting (byte 0x07) w bad (hears Hunting (event Skipped) reception.Skipped None 0 bad reset.Nothing)
    ∷ hear Hunting (byte 0x14) w bad (hears Hunting (event Skipped) reception.Skipped None 0 bad reset.Nothing)
    ∷ hear Hunting (byte 0x16) w bad (hears Hunting (event Skipped) reception.Skipped None 0 bad reset.Nothing)
    ∷ hear Hunting (byte 0x17) w bad (hears Hunting (event Skipped) reception.Skipped None 0 bad reset.Nothing)
    ∷ hear Hunting (byte 0x19) w bad (hears Hunting (event Skipped) reception.Skipped None 0 bad reset.Nothing)
    ∷ hear Hunting (byte 0xFF) w bad (hears Hunting (event Skipped) reception.Skipped None 0 bad reset.Nothing)
    ∷ hear Hunting tick w bad (hears Hunting (event TickHunting) reception.Nothing None 0 bad reset.Nothing)
    ∷ hear Hunting restart w bad (hears Hunting fresh reception.Nothing (Some Nak) 0 0 reset.Nothing)
    ∷ []

abbrev pub head_rows : Awaited → (bad c : ℕ) → List HearingRow
head_rows w bad c =
    hear (Head c) (byte 0x00) w bad (hears Hunting (event (Ended BadLength)) reception.BadLength None 0 bad reset.Nothing)
    ∷ hear (Head c) (byte 0x01) w bad (hears Hunting (event (Ended BadLength)) reception.BadLength None 0 bad reset.Nothing)
    ∷ hear (Head c) (byte 0x02) w bad (hears Hunting (event (Ended BadLength)) reception.BadLength None 0 bad reset.Nothing)
    ∷ hear (Head c) (byte 0x03) w bad (hears (Body (partial c 2 0 0xFC 0 0)) (event Inside) reception.Nothing None 0 bad reset.Nothing)
    ∷ hear (Head c) (byte 0xFF) w bad (hears (Body (partial c 254 0 0x00 0 0)) (event Inside) reception.Nothing None 0 bad reset.Nothing)
    ∷ hear (Head 1_499) tick w bad (hears (Head 1_500) (event TickInside) reception.Nothing None 0 bad reset.Nothing)
    ∷ hear (Head 1_500) tick w bad (hears Hunting (event Aborted) reception.Abort None 0 bad reset.Nothing)
    ∷ hear (Head c) restart w bad (hears Hunting fresh reception.Nothing (Some Nak) 0 0 reset.Nothing)
    ∷ []

abbrev pub body_rows : Awaited → (bad c s t m b : ℕ) → List HearingRow
body_rows w bad c s t m b =
    hear (Body (partial c 2 0 s t m)) (byte b) w bad (hears (Body (partial c 2 1 (bit_xor s b) b m)) (event (Kept 0)) reception.Nothing None 0 bad reset.Nothing)
    ∷ hear (Body (partial c 2 1 s t m)) (byte b) w bad (hears (Body (partial c 2 2 (bit_xor s b) t b)) (event (Kept 1)) reception.Nothing None 0 bad reset.Nothing)
    ∷ hear (Body (partial c 254 253 s t m)) (byte b) w bad (hears (Body (partial c 254 254 (bit_xor s b) t m)) (event (Kept 253)) reception.Nothing None 0 bad reset.Nothing)
    ∷ []

-- a frame of Type 00 or 01, with what is awaited: of the host, and of a stand-in that awaits no ACK
abbrev pub frame_rows : Awaited → (bad c m : ℕ) → List HearingRow
frame_rows w bad c m =
    hear (Body (partial c 2 2 0xFB 0x00 m)) (byte 0xFB) w bad (hears Hunting (event (Ended (Request 2))) reception.Frame (Some Ack) 2 0 reset.Nothing)
    ∷ hear (Body (partial c 2 2 0xFA 0x01 0x07)) (byte 0xFA) (awaited.Response 0x07) bad (hears Hunting (event (Ended (Response 2 0x07))) reception.Frame (Some Ack) 2 0 reset.Nothing)
    ∷ hear (Body (partial c 2 2 0xFA 0x01 0x07)) (byte 0xFA) (awaited.Response 0x08) bad (hears Hunting (event (Ended (Response 2 0x07))) reception.StrayResponse (Some Ack) 2 0 reset.Nothing)
    ∷ hear (Body (partial c 2 2 0xFA 0x01 0x07)) (byte 0xFA) awaited.Nothing bad (hears Hunting (event (Ended (Response 2 0x07))) reception.StrayResponse (Some Ack) 2 0 reset.Nothing)
    ∷ []

-- and of a stand-in that awaits its ACK
abbrev pub cancel_rows : (bad c m : ℕ) → List HearingRow
cancel_rows bad c m =
    hear (Body (partial c 2 2 0xFB 0x00 m)) (byte 0xFB) awaited.Ack bad (hears Hunting (event (Ended (Request 2))) reception.Cancelled (Some Can) 0 0 reset.Nothing)
    ∷ hear (Body (partial c 2 2 0xFA 0x01 m)) (byte 0xFA) awaited.Ack bad (hears Hunting (event (Ended (Response 2 m))) reception.Cancelled (Some Can) 0 0 reset.Nothing)
    ∷ []

-- any other end of the frame
abbrev pub end_rows : Awaited → (bad c k at s t m : ℕ) → List HearingRow
end_rows w bad c k at s t m =
    hear (Body (partial c 2 2 0xF9 0x02 m)) (byte 0xF9) w bad (hears Hunting (event (Ended Reserved)) reception.Reserved (Some Ack) 0 0 reset.Nothing)
    ∷ hear (Body (partial c 2 2 0x04 0xFF m)) (byte 0x04) w bad (hears Hunting (event (Ended Reserved)) reception.Reserved (Some Ack) 0 0 reset.Nothing)
    ∷ hear (Body (partial c 2 2 0xFB t m)) (byte 0xFA) w 0 (hears Hunting (event (Ended BadSum)) reception.BadSum (Some Nak) 0 1 reset.Nothing)
    ∷ hear (Body (partial c 2 2 0xFB t m)) (byte 0xFA) w 1 (hears Hunting (event (Ended BadSum)) reception.BadSum (Some Nak) 0 2 reset.Nothing)
    ∷ hear (Body (partial c 2 2 0xFB t m)) (byte 0xFA) w 2 (hears Hunting (event (Ended BadSum)) reception.BadSum (Some Nak) 0 0 reset.Sums)
    ∷ hear (Body (partial 1_499 k at s t m)) tick w bad (hears (Body (partial 1_500 k at s t m)) (event TickInside) reception.Nothing None 0 bad reset.Nothing)
    ∷ hear (Body (partial 1_500 k at s t m)) tick w bad (hears Hunting (event Aborted) reception.Abort None 0 bad reset.Nothing)
    ∷ hear (Body (partial c k at s t m)) restart w bad (hears Hunting fresh reception.Nothing (Some Nak) 0 0 reset.Nothing)
    ∷ []

-- ---- a fresh link
abbrev pub Starts : Choice → Type 0
Starts o = ((fresh_core o).hearing ≡ Hunting) × ((fresh_core o).job ≡ Idle)

-- ---- both tables, whatever the variables are; and whatever was chosen, but for the rows of one mode
abbrev pub JobTable : (o : Choice) (size : ℕ) (a b : Option ℕ) (c n e l at k f : ℕ) (hunting : Bool) → Type 0
JobTable o size a b c n e l at k f hunting =
    AllRows o size (idle_rows a at k f)
    × (AllRows o size (due_rows a b c n at k f hunting)
    × (AllRows o size (waiting_rows (wire_time size) a b c n e at k f hunting)
    × (AllRows (record { role = o.role; mode = Sooner }) size (sooner_rows (wire_time size) a)
    × (AllRows (record { role = o.role; mode = Spaced }) size (spaced_rows (wire_time size) a)
    × (AllRows o size (backing_off_rows a b c n l at k f hunting)
    × AllRows o size (awaiting_rows b c n e at k hunting))))))

-- and whoever hears: but for the frames of Type 00 and 01 the role makes no difference, and there only where a stand-in awaits an ACK
abbrev pub HearingTable : Role → Awaited → (bad c k at s t m b v : ℕ) → Type 0
HearingTable role w bad c k at s t m b v =
    AllHear role (hunting_rows w bad)
    × (AllHear role (head_rows w bad c)
    × (AllHear role (body_rows w bad c s t m b)
    × (AllHear Host (frame_rows w bad c m)
    × (AllHear Module (frame_rows awaited.Nothing bad c m)
    × (AllHear Module (frame_rows (awaited.Response v) bad c m)
    × (AllHear Module (cancel_rows bad c m)
    × AllHear role (end_rows w bad c k at s t m)))))))
