-- What the parts of a run promise each other, and what `hear_run` promises the link: how the bytes are heard, up to the first news. A reader need not
-- believe it: that the link gives `run_out` by it is proved (proofs/Hears.antt of link).
-- Assumes nothing.
use Rattle.std.specs.Prelude.{ℕ, ◌+◌, ◌-◌, ◌≤◌, ◌<◌, ◌≡◌, List, [], ◌∷◌, ltb, eqb, length, drop, set, get_or, Bool, true, false}
use Rattle.refusals.specs.Pick.{pick}
use Rattle.hearing.specs.Hearing.{heard, hear_byte, keep}
use Rattle.hearing.specs.declared.hearing.Heard.{Heard}
use Rattle.hearing.specs.declared.hearing.Hearing.{Hearing}
use Rattle.hearing.specs.declared.hearing.Hearing.TheVariants.{Hunting}
use Rattle.run.specs.declared.run.Reach.{Reach}
use Rattle.hearing.specs.declared.hearing.Event.{Event}
use Rattle.hearing.specs.declared.hearing.Event.TheVariants.{Inside, Kept, Skipped, Alone, Ended, TickHunting, TickInside, Aborted}
use Rattle.frame.specs.Frame.{START, ACK, NAK, CAN}

-- A byte has news if it is a single byte, or ends a frame.
abbrev pub has_news : Event → Bool
has_news Inside = false
has_news (Kept at) = false
has_news Skipped = false
has_news (Alone s) = true
has_news (Ended e) = true
has_news TickHunting = true
has_news TickInside = true
has_news Aborted = true

-- how far the bytes were heard, and the body that is kept
pub record Far : Type 0 where
  pub heard : Heard
  pub body : List ℕ
  pub taken : ℕ

-- behind the byte b, heard as h, with n taken
abbrev pub behind : Heard → List ℕ → ℕ → ℕ → Far
behind h body b n = record { heard = h; body = keep h.event b body; taken = n + 1 }

-- from f on
unfoldable pub hear_from : Far → List ℕ → Far
hear_from f [] = f
hear_from f (b ∷ bs) =
    pick (has_news (hear_byte b f.heard.hearing).event) (behind (hear_byte b f.heard.hearing) f.body b f.taken)
    (hear_from (behind (hear_byte b f.heard.hearing) f.body b f.taken) bs)

abbrev pub unheard : Hearing → List ℕ → Far
unheard h body = record { heard = heard h Inside; body = body; taken = 0 }

-- what the code answers and leaves
abbrev pub far : Reach → List ℕ → Far
far r body = record { heard = heard r.hearing r.event; body = body; taken = r.taken }

pub record HearRun (before : Hearing) (bytes body : List ℕ) (r : Reach) (body' : List ℕ) : Type 0 where
  pub all : far r body' ≡ hear_from (unheard before body) bytes

-- The code goes on by turns, each as far as it reaches.
abbrev pub gone : Heard → ℕ → Reach
gone h n = record { hearing = h.hearing; event = h.event; taken = n }

-- from f on through the bytes, unless f has news
abbrev pub on_from : Far → List ℕ → Far
on_from f bytes = pick (has_news f.heard.event) f (hear_from f (drop f.taken bytes))

-- there is a byte to be heard, and no news so far
pub record Quiet (bytes : List ℕ) (r : Reach) : Type 0 where
  pub there : r.taken < length bytes
  pub quiet : has_news r.event ≡ false

-- a turn: what is heard from r on is what is heard from q on
pub record Onward (bytes : List ℕ) (r : Reach) (body : List ℕ) (q : Reach) (body' : List ℕ) : Type 0 where
  pub same : on_from (far r body) bytes ≡ on_from (far q body') bytes

-- a byte that is not skipped while hunting
abbrev pub is_sign : ℕ → Bool
is_sign b = pick (eqb b START) true (pick (eqb b ACK) true (pick (eqb b NAK) true (eqb b CAN)))

-- hunting at n, with noise from i on behind it
abbrev pub skipped : Event → ℕ → ℕ → List ℕ → Far
skipped e i n body = record { heard = heard Hunting (pick (eqb n i) e Skipped); body = body; taken = n }

pub record Noise (bytes : List ℕ) (i n : ℕ) : Type 0 where
  pub from : i ≤ n
  pub within : n ≤ length bytes
  pub same : (e : Event) (body : List ℕ) → hear_from (skipped e i i body) (drop i bytes) ≡ hear_from (skipped e i n body) (drop n bytes)

-- Body bytes at once, each kept at its place.
unfoldable pub kept : List ℕ → ℕ → List ℕ → List ℕ
kept body at [] = body
kept body at (b ∷ bs) = kept (set body at b) (at + 1) bs

-- the byte of s that comes at this place of the body, or what was there
abbrev pub picked : ℕ → ℕ → List ℕ → ℕ → ℕ
picked at place s old = pick (ltb place at) old (get_or s (place - at) old)
