-- Demand 3, of one accepted send or session: f is the frame that `build` gives, bound the number of ticks.
-- Assumes nothing.
use Rattle.std.specs.Prelude.{ℕ, ◌+◌, ◌*◌, ◌≤◌, ◌<◌, true, ◌≡◌, List, length, replicate, None, Option, Some}
use Rattle.frame.specs.Frame.{frame_of, REQ}
use Rattle.rules.specs.Rules.{Rules, wire_time, rules_of}
use Rattle.rules.specs.declared.Role.TheVariants.{Host, Module}
use Rattle.rules.specs.declared.Mode.{Mode}
use Rattle.rules.specs.declared.Mode.TheVariants.{Sooner, Spaced}
use Rattle.link.specs.Out.{Out}
use Rattle.history.specs.Perform.{send, session, Call, took, perform}
use Rattle.history.specs.History.{after, ticks_in, restarts_in}
use Rattle.history.specs.Cut.{frames, singles, IsAnswer}
use Rattle.history.specs.Ranges.{All}
use Rattle.history.specs.Watch.{Verdict, copies_in, is_failure, is_own, Watch, going, restarted_first, settled, watched, verdicts_from, abandons_from, lines_from, verdicts_by, abandons_by}

-- with no verdict yet, after so many accepted ticks and these bytes
pub record Open (f : List ℕ) (bound ticks : ℕ) (line : List ℕ) : Type 0 where
  -- a history of that many accepted ticks has the verdict
  pub soon : ticks < bound
  -- the frames found are all equal, byte for byte, to the frame that `build` gives
  pub copies : frames line ≡ replicate (length (frames line)) f
  -- at most four while it is open
  pub few : length (frames line) ≤ 4

-- with the verdict v, after so many accepted ticks and these bytes, the call of the verdict included
pub record Ended (a : Option ℕ) (f : List ℕ) (bound : ℕ) (v : Verdict) (ticks : ℕ) (line : List ℕ) : Type 0 where
  -- the verdict comes by this accepted tick
  pub soon : ticks ≤ bound
  -- and is one of its own
  pub own : is_own a v ≡ true
  -- the frames found are all equal, byte for byte, to the frame that `build` gives, and their number is the one in the verdict
  pub copies : frames line ≡ replicate (copies_in v) f
  -- at most four
  pub few : copies_in v ≤ 4
  -- a failure follows exactly four
  pub four : is_failure v ≡ true → copies_in v ≡ 4

-- of a watch; nothing is said where an accepted restart came before the verdict
abbrev pub Kept : Option ℕ → List ℕ → ℕ → Watch → Type 0
Kept a f bound (going t l) = Open f bound t l
Kept a f bound restarted_first = Unit {0}
Kept a f bound (settled v t l) = Ended a f bound v t l

-- with a verdict, all frames put out until another send or session is accepted are the copies in it
abbrev pub Spent : List ℕ → List ℕ → Watch → Type 0
Spent f line (going t l) = Unit {0}
Spent f line restarted_first = Unit {0}
Spent f line (settled v t l) = frames line ≡ replicate (copies_in v) f

-- it has its verdict, or was restarted before it
abbrev pub IsOver : Watch → Type 0
IsOver (going t l) = ⊥
IsOver restarted_first = Unit {0}
IsOver (settled v t l) = Unit {0}

abbrev pub NotRestarted : Watch → Type 0
NotRestarted (going t l) = Unit {0}
NotRestarted restarted_first = ⊥
NotRestarted (settled v t l) = Unit {0}

-- all of demand 3: the accepting call gave o, and the calls h come after it
pub record Demand3 (R : Rules) (a : Option ℕ) (f : List ℕ) (bound : ℕ) (o : Out) (h : List Call) : Type 0 where
  -- at most one verdict until another send or session is accepted
  pub once : verdicts_from R a o h ≤ 1
  -- exactly one where the watch ends with it, else none; abandoned is said once where a restart came before the verdict, else never
  pub said : verdicts_from R a o h ≡ verdicts_by (watched R a o h)
  pub abandoned : abandons_from R o h ≡ abandons_by (watched R a o h)
  -- the ticks, the copies and their number
  pub kept : Kept a f bound (watched R a o h)
  -- at most four copies go out until another send or session is accepted, past the verdict too, all equal byte for byte
  pub few : length (frames (lines_from R o h)) ≤ 4
  pub equal : frames (lines_from R o h) ≡ replicate (length (frames (lines_from R o h))) f
  pub spent : Spent f (lines_from R o h) (watched R a o h)
  -- and every other byte is an answer
  pub answers : All (IsAnswer R.choice.role) (singles (lines_from R o h))
  -- a history of that many accepted ticks has the verdict, where no accepted restart came before it
  pub comes : bound ≤ ticks_in R o.link h → IsOver (watched R a o h)
  -- and only an accepted restart ends the watch without one
  pub restarted : restarts_in R o.link h ≡ 0 → NotRestarted (watched R a o h)

-- of every send: take any history h, any send accepted after it, and any calls k after that; the bound goes by the frame's length
abbrev pub EverySend : Rules → (ℕ → ℕ) → Type 0
EverySend R bound =
    (h k : List Call) (line up kind command : ℕ) (ps : List ℕ) (o : Out)
    → perform R (after R h) (record { what = send kind command ps; line = line; up = up }) ≡ took o
    → Demand3 R None (frame_of kind command ps) (bound (length (frame_of kind command ps))) o k

-- and of every session
abbrev pub EverySession : Rules → (ℕ → ℕ) → Type 0
EverySession R bound =
    (h k : List Call) (line up command : ℕ) (ps : List ℕ) (o : Out)
    → perform R (after R h) (record { what = session command ps; line = line; up = up }) ≡ took o
    → Demand3 R (Some command) (frame_of REQ command ps) (bound (length (frame_of REQ command ps))) o k

-- The verdict comes by accepted tick 15,701 after acceptance, and four times the frame's time on the wire later; in the new mode by tick 15,698 and as
-- much later, because a NAK can come one tick before the timeout.
abbrev pub send_bound : Mode → ℕ → ℕ
send_bound Sooner size = 15698 + 4 * wire_time size
send_bound Spaced size = 15701 + 4 * wire_time size

-- a session: by tick 20,697, by tick 20,700, and as much later
abbrev pub session_bound : Mode → ℕ → ℕ
session_bound Sooner size = 20697 + 4 * wire_time size
session_bound Spaced size = 20700 + 4 * wire_time size

-- of the host, and of the stand-in, in each mode
abbrev pub HostDemand3 : Mode → Type 0
HostDemand3 m =
    EverySend (rules_of (record { role = Host; mode = m })) (send_bound m) × EverySession (rules_of (record { role = Host; mode = m })) (session_bound m)

abbrev pub StandInDemand3 : Mode → Type 0
StandInDemand3 m =
    EverySend (rules_of (record { role = Module; mode = m })) (send_bound m) × EverySession (rules_of (record { role = Module; mode = m })) (session_bound m)

-- Demand 3 in one sentence, of a send or session that was accepted and had so many ticks, with no restart: it has its verdict, one of its own
-- and no second; the frames put out until another is accepted are the copies that the verdict says, at most four, and after a failure exactly four.
pub record HasVerdict (R : Rules) (a : Option ℕ) (f : List ℕ) (bound : ℕ) (o : Out) (h : List Call) : Type 0 where
  pub verdict : Verdict
  pub ticks : ℕ
  pub line : List ℕ
  pub is : watched R a o h ≡ settled verdict ticks line
  pub soon : ticks ≤ bound
  pub own : is_own a verdict ≡ true
  pub once : verdicts_from R a o h ≡ 1
  pub copies : frames line ≡ replicate (copies_in verdict) f
  pub spent : frames (lines_from R o h) ≡ replicate (copies_in verdict) f
  pub few : copies_in verdict ≤ 4
  pub four : is_failure verdict ≡ true → copies_in verdict ≡ 4
