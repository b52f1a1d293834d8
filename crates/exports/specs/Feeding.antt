-- A link fed with bytes and ticks, call by call: what the calls told, mixed into one number, and every lent byte.
-- Assumes nothing.
use Rattle.std.specs.Prelude.{◌≡◌, ℕ, zero, suc, min, Bool, List, [], ◌∷◌, length, take, drop, ◌==◌, Some}
use Rattle.refusals.specs.Pick.{pick}
use Rattle.frame.specs.Frame.{frame_of}
use Rattle.rules.specs.Rules.{usual, rules_of}
use Rattle.link.specs.Link.{fresh_link}
use Rattle.link.specs.Out.{Out, byte_out, tick_out, open_out, run_out}
use Rattle.step.specs.Checks.{Checked, checks, passes, session_own}
use Rattle.link.specs.Calls.{Ran, answered, ran, left}
use Rattle.link.specs.declared.link.Link.{Link}
use Rattle.exports.specs.Numbers.{mix, answer_number, run_number, run_taken}

-- the link, the lent buffers, and the number so far
pub record Fed : Type 0 where
  pub link : Link
  pub line : List ℕ
  pub up : List ℕ
  pub sum : ℕ

abbrev pub at : Link → List ℕ → List ℕ → ℕ → Fed
at l line up s = record { link = l; line = line; up = up; sum = s }

abbrev pub opened : List ℕ → List ℕ → Fed
opened line up = at (fresh_link usual) line up 0

-- after a call that answers r and gives o under these checks, with n mixed into the number
abbrev pub after_all : Checked → Out → Link → ℕ → Fed → Fed
after_all k o l n f = at l (left k o.line f.line) (left k o.up f.up) n

abbrev pub after_call : Checked → Out → Fed → Fed
after_call k o f =
    after_all k o (answered k o f.link).link (mix f.sum (answer_number (answered k o f.link).answer)) f

-- Every call checks for ROOM, and none changes a buffer's length: so k, of the buffers as they were lent, is for all calls.
abbrev pub byte_fed : Checked → Fed → ℕ → Fed
byte_fed k f b = after_call k (byte_out (rules_of f.link.core.choice) f.link b) f

abbrev pub tick_fed : Checked → Fed → Fed
tick_fed k f = after_call k (tick_out (rules_of f.link.core.choice) f.link) f

-- a run of bytes: its report's number and how many it took are mixed in
abbrev pub ran_by : Checked → Fed → List ℕ → Ran
ran_by k f bs = ran k (run_out (rules_of f.link.core.choice) f.link bs) f.link

abbrev pub run_fed : Checked → Fed → List ℕ → Fed
run_fed k f bs =
    after_all k (run_out (rules_of f.link.core.choice) f.link bs).out (ran_by k f bs).link
    (mix (mix f.sum (run_number (ran_by k f bs).answer)) (run_taken (ran_by k f bs).answer)) f

-- every byte in a call of its own
unfoldable pub bytes_fed : Checked → Fed → List ℕ → Fed
bytes_fed k f [] = f
bytes_fed k f (b ∷ bs) = bytes_fed k (byte_fed k f b) bs

-- n ticks
unfoldable pub ticks_fed : Checked → Fed → ℕ → Fed
ticks_fed k f zero = f
ticks_fed k f (suc n) = ticks_fed k (tick_fed k f) n

-- the first bytes, at most so many
abbrev pub part : ℕ → List ℕ → List ℕ
part most bs = take (min (length bs) most) bs

-- at most n runs of at most so many bytes, until no byte is left or a run takes none
unfoldable pub runs_fed : ℕ → Checked → ℕ → Fed → List ℕ → Fed
runs_fed zero k most f bs = f
runs_fed (suc n) k most f bs =
    pick (length bs == 0) f
    (pick (run_taken (ran_by k f (part most bs)).answer == 0) (run_fed k f (part most bs))
    (runs_fed n k most (run_fed k f (part most bs)) (drop (run_taken (ran_by k f (part most bs)).answer) bs)))

-- a session asked for, or not, with command 7; nothing is mixed in
abbrev pub asked : Bool → List ℕ → Fed → Fed
asked asks ps f =
    pick asks
    (after_all (checks f.line f.up (session_own f.link.core.job (length ps))) (open_out f.link (Some 7) (frame_of 0 7 ps))
    (answered (checks f.line f.up (session_own f.link.core.job (length ps))) (open_out f.link (Some 7) (frame_of 0 7 ps)) f.link).link
    f.sum f)
    f

-- the number thrown away
abbrev pub unsummed : Fed → Fed
unsummed f = at f.link f.line f.up 0

-- these bytes, each in a call of its own; nothing is mixed in
abbrev pub heard_fed : List ℕ → Fed → Fed
heard_fed bs f = unsummed (bytes_fed (checks f.line f.up passes) f bs)

-- what an exported call answers, and leaves in the lent buffers
pub record FedTo (f : Fed) (r : ℕ) (line' up' : List ℕ) : Type 0 where
  pub answer : r ≡ f.sum
  pub line_left : line' ≡ f.line
  pub up_left : up' ≡ f.up
