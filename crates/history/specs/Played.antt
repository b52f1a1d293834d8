-- A history as it is played: calls that keep their promises, each on the link as the one before left it, with whatever is lent to it.
-- Assumes nothing.
use Rattle.std.specs.Prelude.{ℕ, ◌≡◌, List, [], ◌∷◌, length, Result, Ok, Err, None, Some}
use Rattle.refusals.specs.declared.Refusal.{Refusal}
use Rattle.report.specs.declared.Report.{Report}
use Rattle.frame.specs.Bytes.{over}
use Rattle.frame.specs.Frame.{frame_of, REQ}
use Rattle.rules.specs.Rules.{Rules, rules_of}
use Rattle.step.specs.Checks.{send_own, session_own, passes}
use Rattle.link.specs.Out.{out_report, run_out, byte_out, tick_out, open_out, restart_out}
use Rattle.link.specs.Calls.{Answered, Ran, CallPromise, RunPromise}
use Rattle.link.specs.declared.calls.Run.{Run}
use Rattle.link.specs.declared.link.Link.{Link}
use Rattle.history.specs.Perform.{What, byte, bytes, tick, send, session, restart, Call, Done, refused, took, perform}
use Rattle.history.specs.History.{next}

-- what a call answered; a run of bytes has its own answer
pub data Told : Type 0 where
  by_call : Result Report Refusal → Told
  by_run : Result Run Refusal → Told

-- a call: the bytes lent to it, what it answered, and what it left of them
pub record Played : Type 0 where
  pub what : What
  pub line : List ℕ
  pub up : List ℕ
  pub told : Told
  pub line' : List ℕ
  pub up' : List ℕ

abbrev pub played : What → List ℕ → List ℕ → Told → List ℕ → List ℕ → Played
played w line up told line' up' = record { what = w; line = line; up = up; told = told; line' = line'; up' = up' }

-- the promise of each call, in the words of its contract: on the link l it is played so, and leaves this link
pub data Promised (R : Rules) (l : Link) : Played → Link → Type 0 where
  byte_call : (b : ℕ) (line up : List ℕ) (r : Answered) (line' up' : List ℕ) → CallPromise passes (byte_out R l b) l line up r line' up'
      → Promised R l (played (byte b) line up (by_call r.answer) line' up') r.link
  bytes_call : (bs line up : List ℕ) (r : Ran) (line' up' : List ℕ) → RunPromise (run_out R l bs) l line up r line' up'
      → Promised R l (played (bytes bs) line up (by_run r.answer) line' up') r.link
  tick_call : (line up : List ℕ) (r : Answered) (line' up' : List ℕ) → CallPromise passes (tick_out R l) l line up r line' up'
      → Promised R l (played tick line up (by_call r.answer) line' up') r.link
  send_call : (kind command : ℕ) (ps line up : List ℕ) (r : Answered) (line' up' : List ℕ)
      → CallPromise (send_own l.core.job kind (length ps)) (open_out l None (frame_of kind command ps)) l line up r line' up'
      → Promised R l (played (send kind command ps) line up (by_call r.answer) line' up') r.link
  session_call : (command : ℕ) (ps line up : List ℕ) (r : Answered) (line' up' : List ℕ)
      → CallPromise (session_own l.core.job (length ps)) (open_out l (Some command) (frame_of REQ command ps)) l line up r line' up'
      → Promised R l (played (session command ps) line up (by_call r.answer) line' up') r.link
  restart_call : (line up : List ℕ) (r : Answered) (line' up' : List ℕ) → CallPromise passes (restart_out l) l line up r line' up'
      → Promised R l (played restart line up (by_call r.answer) line' up') r.link

-- calls one after the other, from a link to a link, each by the rules of what its own link was opened as
pub data Plays : Link → List Played → Link → Type 0 where
  no_calls : (l : Link) → Plays l [] l
  then : (l m n : Link) (p : Played) (ps : List Played) → Promised (rules_of l.core.choice) l p m → Plays m ps n → Plays l (p ∷ ps) n

-- ---- the same calls in a history
abbrev pub call_of : Played → Call
call_of p = record { what = p.what; line = length p.line; up = length p.up }

abbrev pub calls_of : List Played → List Call
calls_of [] = []
calls_of (p ∷ ps) = call_of p ∷ calls_of ps

-- what is done, as an answer and as bytes written
abbrev pub answer_of : Done → Result Report Refusal
answer_of (refused k) = Err k
answer_of (took o) = Ok (out_report o)

abbrev pub run_answer_of : ℕ → Done → Result Run Refusal
run_answer_of n (refused k) = Err k
run_answer_of n (took o) = Ok (record { report = out_report o; taken = n })

abbrev pub told_of : Rules → Link → What → Done → Told
told_of R l (byte b) d = by_call (answer_of d)
told_of R l (bytes bs) d = by_run (run_answer_of (run_out R l bs).taken d)
told_of R l tick d = by_call (answer_of d)
told_of R l (send kind command ps) d = by_call (answer_of d)
told_of R l (session command ps) d = by_call (answer_of d)
told_of R l restart d = by_call (answer_of d)

abbrev pub line_of : Done → List ℕ
line_of (refused k) = []
line_of (took o) = o.line

abbrev pub up_of : Done → List ℕ
up_of (refused k) = []
up_of (took o) = o.up

-- the call is played as the history performs it: what it answers, and what it leaves in the lent buffers
pub record Tied (R : Rules) (l : Link) (p : Played) : Type 0 where
  pub told : p.told ≡ told_of R l p.what (perform R l (call_of p))
  pub line_left : p.line' ≡ over (line_of (perform R l (call_of p))) p.line
  pub up_left : p.up' ≡ over (up_of (perform R l (call_of p))) p.up

-- the link that is left is the history's next, and the call is tied to it
pub record Performs (R : Rules) (l : Link) (p : Played) (m : Link) : Type 0 where
  pub link : m ≡ next l (perform R l (call_of p))
  pub tied : Tied R l p

-- every one of these calls is played so
abbrev pub AllTied : Rules → Link → List Played → Type 0
AllTied R l [] = Unit {0}
AllTied R l (p ∷ ps) = Tied R l p × AllTied R (next l (perform R l (call_of p))) ps
