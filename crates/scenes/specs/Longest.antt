-- The histories that reach the bounds of demand 3: each copy comes due inside a frame that has just begun, and waits for its abort.
-- Assumes nothing.
use Rattle.std.specs.Prelude.{ℕ, ◌+◌, ◌-◌, ◌≡◌, List, [], ◌∷◌, ◌++◌, Option}
use Rattle.frame.specs.Frame.{START, ACK, NAK}
use Rattle.rules.specs.Rules.{Rules}
use Rattle.rules.specs.declared.Mode.{Mode}
use Rattle.rules.specs.declared.Mode.TheVariants.{Sooner, Spaced}
use Rattle.rules.specs.declared.Cause.{Cause}
use Rattle.rules.specs.declared.Cause.TheVariants.{Told, Time}
use Rattle.link.specs.Out.{Out}
use Rattle.history.specs.Perform.{What, byte, Call, took, perform, lent}
use Rattle.history.specs.History.{after}
use Rattle.history.specs.Watch.{Verdict, settled, watched}
use Rattle.scenes.specs.Scene.{silence}

-- 01 received: a frame begins
abbrev pub frame_begins : Call
frame_begins = lent (byte START)

-- the calls before the send or session
abbrev pub before : List Call
before = frame_begins ∷ []

-- A copy is given up, after a wait of so many ticks: it is lost; or 15 comes on the last tick before that.
abbrev pub given_up : Cause → ℕ → List Call
given_up Time wait = silence wait
given_up Told wait = silence (wait - 1) ++ (lent (byte NAK) ∷ [])

-- Then, one tick before the back-off ends, a frame begins; then silence: the copy comes due, and goes out with the abort.
abbrev pub round : Rules → Cause → ℕ → ℕ → List Call
round R cause size n = given_up cause (R.wait size) ++ (silence (R.back cause n - 1) ++ (frame_begins ∷ silence 1501))

-- which of the two lasts longer: in the new mode it is the 15, whose back-off is the full one
abbrev pub longer : Mode → Cause
longer Sooner = Told
longer Spaced = Time

-- from the send or session, due in the frame that has begun, to copy 4
abbrev pub to_fourth : Rules → Cause → ℕ → List Call
to_fourth R cause size = silence 1501 ++ (round R cause size 1 ++ (round R cause size 2 ++ round R cause size 3))

-- a send: copy 4 is lost too
abbrev pub longest_send : Rules → Cause → ℕ → List Call
longest_send R cause size = to_fourth R cause size ++ silence (R.wait size)

-- a session: 06 one tick before copy 4 is lost, and no response
abbrev pub longest_session : Rules → Cause → ℕ → List Call
longest_session R cause size = to_fourth R cause size ++ (silence (R.wait size - 1) ++ (lent (byte ACK) ∷ silence 5000))

-- the ticks of these histories, for a held frame of so many bytes: until a copy is given up, a round, to copy 4, and to the verdict
abbrev pub given_up_time : Cause → ℕ → ℕ
given_up_time Time wait = wait
given_up_time Told wait = wait - 1

abbrev pub round_time : Rules → Cause → ℕ → ℕ → ℕ
round_time R cause size n = given_up_time cause (R.wait size) + (R.back cause n - 1 + 1501)

abbrev pub fourth_time : Rules → Cause → ℕ → ℕ
fourth_time R cause size = 1501 + (round_time R cause size 1 + (round_time R cause size 2 + round_time R cause size 3))

abbrev pub send_time : Rules → Cause → ℕ → ℕ
send_time R cause size = fourth_time R cause size + R.wait size

abbrev pub session_time : Rules → Cause → ℕ → ℕ
session_time R cause size = fourth_time R cause size + (R.wait size - 1 + 5000)

-- a round in numbers, by the frame's time on the wire: but for that, the same calls for every frame
abbrev pub base_round : Cause → (wire quiet : ℕ) → List Call
base_round cause wire quiet = given_up cause (1600 + wire) ++ (silence quiet ++ (frame_begins ∷ silence 1501))

-- After the history `h` the call is accepted, and over the calls `k` after it the verdict comes with exactly this accepted tick;
-- four copies of the frame and no other byte went out.
pub record Reaches (R : Rules) (h : List Call) (w : What) (a : Option ℕ) (k : List Call) (f : List ℕ) (v : Verdict) (bound : ℕ) : Type 0 where
  pub gave : Out
  pub accepted : perform R (after R h) (lent w) ≡ took gave
  pub verdict : watched R a gave k ≡ settled v bound (f ++ (f ++ (f ++ f)))
