-- A send or session watched from its acceptance to its verdict.
-- Assumes nothing.
use Rattle.std.specs.Prelude.{ℕ, ◌+◌, Bool, true, false, List, [], ◌∷◌, ◌++◌, None, Option, Some}
use Rattle.refusals.specs.Pick.{pick}
use Rattle.rules.specs.Rules.{Rules}
use Rattle.link.specs.Out.{Out}
use Rattle.report.specs.declared.Sending.{Sending}
use Rattle.report.specs.declared.Sending.TheVariants as sending
use Rattle.report.specs.declared.Session.{Session}
use Rattle.report.specs.declared.Session.TheVariants as session
use Rattle.link.specs.declared.link.Link.{Link}
use Rattle.history.specs.Perform.{What, byte, bytes, tick, send, session as session_call, restart, Call, Done, refused, took, perform}

-- the verdicts there are, each with the copies
pub data Verdict : Type 0 where
  acknowledged : (copies : ℕ) → Verdict
  failed : (copies : ℕ) → Verdict
  response : (copies : ℕ) → Verdict
  no_response : (copies : ℕ) → Verdict
  unsent : (copies : ℕ) → Verdict

abbrev pub copies_in : Verdict → ℕ
copies_in (acknowledged n) = n
copies_in (failed n) = n
copies_in (response n) = n
copies_in (no_response n) = n
copies_in (unsent n) = n

abbrev pub is_failure : Verdict → Bool
is_failure (acknowledged n) = false
is_failure (failed n) = true
is_failure (response n) = false
is_failure (no_response n) = false
is_failure (unsent n) = true

abbrev pub is_ack : Verdict → Bool
is_ack (acknowledged n) = true
is_ack (failed n) = false
is_ack (response n) = false
is_ack (no_response n) = false
is_ack (unsent n) = false

-- a send's verdict is acknowledged or failed, a session's response, no response or not sent
abbrev pub is_own : Option ℕ → Verdict → Bool
is_own None (acknowledged n) = true
is_own None (failed n) = true
is_own None (response n) = false
is_own None (no_response n) = false
is_own None (unsent n) = false
is_own (Some c) (acknowledged n) = false
is_own (Some c) (failed n) = false
is_own (Some c) (response n) = true
is_own (Some c) (no_response n) = true
is_own (Some c) (unsent n) = true

-- what a report says of the open send or session: no verdict, this one, or two at once
pub data Says : Type 0 where
  none : Says
  says : Verdict → Says
  both : Verdict → Verdict → Says

-- a send's verdict stands in the sending part
abbrev pub send_verdict : Sending → Says
send_verdict sending.Nothing = none
send_verdict sending.Stray = none
send_verdict sending.Due = none
send_verdict (sending.Copy n) = none
send_verdict (sending.BackingOff t) = none
send_verdict (sending.Acknowledged n) = says (acknowledged n)
send_verdict (sending.Failed n) = says (failed n)
send_verdict sending.Abandoned = none

-- A session's ACK or failure is reported in the sending part but is no verdict; its verdict is response, no response or not sent.
abbrev pub session_verdict : Session → Says
session_verdict session.Nothing = none
session_verdict session.Waiting = none
session_verdict (session.Response n) = says (response n)
session_verdict (session.NoResponse n) = says (no_response n)
session_verdict (session.NotSent n) = says (unsent n)
session_verdict session.Abandoned = none

-- what two parts say together
abbrev pub together : Says → Says → Says
together none x = x
together (says v) none = says v
together (says v) (says w) = both v w
together (says v) (both w u) = both v w
together (both v w) x = both v w

-- a verdict of this kind passed over
abbrev pub without : (Verdict → Bool) → Says → Says
without kind none = none
without kind (says v) = pick (kind v) none (says v)
without kind (both v w) = both v w

-- What the sending part says beside this session part of a session: its ACK, with which it is waiting, and its failure, with which it is not sent, are no verdicts.
abbrev pub beside : Session → Says → Says
beside session.Nothing x = x
beside session.Waiting x = without is_ack x
beside (session.Response n) x = x
beside (session.NoResponse n) x = x
beside (session.NotSent n) x = without is_failure x
beside session.Abandoned x = x

-- of an accepted send (None) or session (Some, with its command): a verdict is looked for in both parts, whichever it was
abbrev pub verdict_in : Option ℕ → Sending → Session → Says
verdict_in None s e = together (send_verdict s) (session_verdict e)
verdict_in (Some c) s e = together (session_verdict e) (beside e (send_verdict s))

abbrev pub verdict_of : Option ℕ → Out → Says
verdict_of a o = verdict_in a o.sending o.session

-- no verdict yet; restarted before the verdict; or the verdict: with the accepted ticks and the bytes put out so far
pub data Watch : Type 0 where
  going : (ticks : ℕ) (line : List ℕ) → Watch
  restarted_first : Watch
  settled : (v : Verdict) (ticks : ℕ) (line : List ℕ) → Watch

-- so many ticks and these bytes went before
abbrev pub add : ℕ → List ℕ → Watch → Watch
add t l (going u m) = going (t + u) (l ++ m)
add t l restarted_first = restarted_first
add t l (settled v u m) = settled v (t + u) (l ++ m)

-- an accepted call that says this, in so many ticks, and puts these bytes out; the watch goes on while there is no verdict
abbrev pub onward : Says → ℕ → List ℕ → Watch → Watch
onward none t l w = add t l w
onward (says v) t l w = settled v t l
onward (both v u) t l w = settled v t l

-- an accepted call; w is the watch from the link that it gives
abbrev pub watch_taken : Option ℕ → What → Out → Watch → Watch
watch_taken a (byte b) o w = onward (verdict_of a o) 0 o.line w
watch_taken a (bytes bs) o w = onward (verdict_of a o) 0 o.line w
watch_taken a tick o w = onward (verdict_of a o) 1 o.line w
watch_taken a (send kind command ps) o w = onward (verdict_of a o) 0 o.line w
watch_taken a (session_call command ps) o w = onward (verdict_of a o) 0 o.line w
watch_taken a restart o w = restarted_first

-- a refused call is passed over; k is the watch from a link
abbrev pub watch_done : Option ℕ → What → Link → Done → (Link → Watch) → Watch
watch_done a x l (refused r) k = k l
watch_done a x l (took o) k = watch_taken a x o (k o.link)

abbrev pub watch : Rules → Option ℕ → Link → List Call → Watch
watch R a l [] = going 0 []
watch R a l (c ∷ h) = watch_done a c.what l (perform R l c) (λ z. watch R a z h)

-- from the accepting call, which gave o, over the calls h after it
abbrev pub watched : Rules → Option ℕ → Out → List Call → Watch
watched R a o h = onward (verdict_of a o) 0 o.line (watch R a o.link h)

-- ---- all calls until another send or session is accepted: past the verdict too, and past a restart
-- what the accepted ones gave; os is what those after this one gave
abbrev pub outs_taken : What → Out → List Out → List Out
outs_taken (byte b) o os = o ∷ os
outs_taken (bytes bs) o os = o ∷ os
outs_taken tick o os = o ∷ os
outs_taken (send kind command ps) o os = []
outs_taken (session_call command ps) o os = []
outs_taken restart o os = o ∷ os

abbrev pub outs_done : What → Link → Done → (Link → List Out) → List Out
outs_done x l (refused r) k = k l
outs_done x l (took o) k = outs_taken x o (k o.link)

abbrev pub outs : Rules → Link → List Call → List Out
outs R l [] = []
outs R l (c ∷ h) = outs_done c.what l (perform R l c) (λ z. outs R z h)

-- from the accepting call on, which gave o
abbrev pub outs_from : Rules → Out → List Call → List Out
outs_from R o h = o ∷ outs R o.link h

-- how many verdicts are said
abbrev pub verdict_count : Says → ℕ
verdict_count none = 0
verdict_count (says v) = 1
verdict_count (both v w) = 2

abbrev pub verdicts_of : Option ℕ → List Out → ℕ
verdicts_of a [] = 0
verdicts_of a (o ∷ os) = verdict_count (verdict_of a o) + verdicts_of a os

abbrev pub verdicts_from : Rules → Option ℕ → Out → List Call → ℕ
verdicts_from R a o h = verdicts_of a (outs_from R o h)

-- how often abandoned is said, in the sending part or in the session part
abbrev pub abandoned_sending : Sending → ℕ
abandoned_sending sending.Nothing = 0
abandoned_sending sending.Stray = 0
abandoned_sending sending.Due = 0
abandoned_sending (sending.Copy n) = 0
abandoned_sending (sending.BackingOff t) = 0
abandoned_sending (sending.Acknowledged n) = 0
abandoned_sending (sending.Failed n) = 0
abandoned_sending sending.Abandoned = 1

abbrev pub abandoned_session : Session → ℕ
abandoned_session session.Nothing = 0
abandoned_session session.Waiting = 0
abandoned_session (session.Response n) = 0
abandoned_session (session.NoResponse n) = 0
abandoned_session (session.NotSent n) = 0
abandoned_session session.Abandoned = 1

abbrev pub abandons_in : Sending → Session → ℕ
abandons_in s e = abandoned_sending s + abandoned_session e

abbrev pub abandons_of : List Out → ℕ
abandons_of [] = 0
abandons_of (o ∷ os) = abandons_in o.sending o.session + abandons_of os

abbrev pub abandons_from : Rules → Out → List Call → ℕ
abandons_from R o h = abandons_of (outs_from R o h)

-- the bytes put out
abbrev pub lines_of : List Out → List ℕ
lines_of [] = []
lines_of (o ∷ os) = o.line ++ lines_of os

abbrev pub lines_from : Rules → Out → List Call → List ℕ
lines_from R o h = lines_of (outs_from R o h)

-- what a watch comes to: with a verdict it was said once, and with a restart before it abandoned was
abbrev pub verdicts_by : Watch → ℕ
verdicts_by (going t l) = 0
verdicts_by restarted_first = 0
verdicts_by (settled v t l) = 1

abbrev pub abandons_by : Watch → ℕ
abandons_by (going t l) = 0
abandons_by restarted_first = 1
abandons_by (settled v t l) = 0
