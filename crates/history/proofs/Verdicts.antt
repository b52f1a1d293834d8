-- Demand 3 as one sentence.
-- Assumes nothing.
use Rattle.std.specs.Prelude.{None, Option, Some}
use Prim.Native.Nat.{ℕ, ◌≤◌}
use mathlib.Core.Path.{◌≡◌, refl}
use mathlib.Core.List.{List}
use native.Mathlib.Omega.{arith}
use lib.ListN.{length}
use Rattle.frame.specs.Frame.{frame_of, REQ}
use Rattle.rules.specs.Rules.{Rules, usual, rules_of}
use Rattle.rules.specs.declared.Choice.{Choice}
use Rattle.link.specs.Out.{Out}
use Rattle.history.specs.Perform.{send, session, Call, took, perform}
use Rattle.history.specs.History.{after, ticks_in, restarts_in}
use Rattle.history.specs.Cut.{frames}
use Rattle.history.specs.Watch.{failed, unsent, Watch, going, restarted_first, settled, watched, verdicts_from, lines_from, verdicts_by}
use Rattle.history.specs.Bound.{Fits, told_longer}
use Rattle.history.specs.Demand3.{Open, Ended, Kept, Spent, IsOver, NotRestarted, Demand3, HasVerdict, send_bound, session_bound}
use Rattle.history.proofs.Demand3.{every_send, every_session}

-- ---- the sentence
has : (R : Rules) (a : Option ℕ) (f : List ℕ) (bound : ℕ) (o : Out) (h : List Call) (w : Watch) → watched R a o h ≡ w → Kept a f bound w → IsOver w → NotRestarted w
    → verdicts_from R a o h ≡ verdicts_by w → Spent f (lines_from R o h) w → HasVerdict R a f bound o h
has R a f bound o h (going t l) e k i n s p = absurd i
has R a f bound o h restarted_first e k i n s p = absurd n
has R a f bound o h (settled v t l) e k i n s p =
    record { verdict = v; ticks = t; line = l; is = e; soon = k.soon; own = k.own; once = s; copies = k.copies; spent = p; few = k.few; four = k.four }

-- Enough accepted ticks and no accepted restart: it has its verdict.
pub has_verdict : (R : Rules) (a : Option ℕ) (f : List ℕ) (bound : ℕ) (o : Out) (h : List Call) → Demand3 R a f bound o h
    → bound ≤ ticks_in R o.link h → restarts_in R o.link h ≡ 0 → HasVerdict R a f bound o h
has_verdict R a f bound o h d t r = has R a f bound o h (watched R a o h) refl d.kept (d.comes t) (d.restarted r) d.said d.spent

-- any send, of the host or the stand-in, in either mode, after any history: by the 15,698th tick, in the old mode the 15,701st, and four times its
-- frame's time on the wire
pub send_has_verdict : (c : Choice) (h k : List Call) (line up kind command : ℕ) (ps : List ℕ) (o : Out)
    → perform (rules_of c) (after (rules_of c) h) (record { what = send kind command ps; line = line; up = up }) ≡ took o
    → send_bound c.mode (length (frame_of kind command ps)) ≤ ticks_in (rules_of c) o.link k → restarts_in (rules_of c) o.link k ≡ 0 → HasVerdict (rules_of c) None (frame_of kind command ps) (send_bound c.mode (length (frame_of kind command ps))) o k
send_has_verdict c h k line up kind command ps o e t r =
    has_verdict (rules_of c) None (frame_of kind command ps) (send_bound c.mode (length (frame_of kind command ps))) o k (every_send c h k line up kind command ps o e) t r

-- any session: by the 20,697th, in the old mode the 20,700th, and as much
pub session_has_verdict : (c : Choice) (h k : List Call) (line up command : ℕ) (ps : List ℕ) (o : Out)
    → perform (rules_of c) (after (rules_of c) h) (record { what = session command ps; line = line; up = up }) ≡ took o
    → session_bound c.mode (length (frame_of REQ command ps)) ≤ ticks_in (rules_of c) o.link k → restarts_in (rules_of c) o.link k ≡ 0 → HasVerdict (rules_of c) (Some command) (frame_of REQ command ps) (session_bound c.mode (length (frame_of REQ command ps))) o k
session_has_verdict c h k line up command ps o e t r =
    has_verdict (rules_of c) (Some command) (frame_of REQ command ps) (session_bound c.mode (length (frame_of REQ command ps))) o k (every_session c h k line up command ps o e) t r

-- A failure follows exactly four: failed, and not sent.
pub failed_four : (a : Option ℕ) (f : List ℕ) (bound n t : ℕ) (l : List ℕ) → Ended a f bound (failed n) t l → n ≡ 4
failed_four a f bound n t l e = e.four refl

pub not_sent_four : (a : Option ℕ) (f : List ℕ) (bound n t : ℕ) (l : List ℕ) → Ended a f bound (unsent n) t l → n ≡ 4
not_sent_four a f bound n t l e = e.four refl

-- At most four copies in all and at most one verdict, whatever the watch comes to; at most four while it is open.
pub four_in_all : (R : Rules) (a : Option ℕ) (f : List ℕ) (bound : ℕ) (o : Out) (h : List Call) → Demand3 R a f bound o h
    → (length (frames (lines_from R o h)) ≤ 4) × (verdicts_from R a o h ≤ 1)
four_in_all R a f bound o h d = (d.few, d.once)

pub four_while_open : (f : List ℕ) (bound t : ℕ) (l : List ℕ) → Open f bound t l → length (frames l) ≤ 4
four_while_open f bound t l e = e.few

-- Rules whose back-off by 15 or 18 is one longer than by time fit, with the shorter for g.
pub one_longer_fits : Fits (record { choice = usual; wait = λ size. 1; back = told_longer }) (λ n. 0)
one_longer_fits = record { wait = λ size. omega arith; late = λ n. omega arith; early = λ n. omega arith }
