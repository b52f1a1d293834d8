-- Hearing by itself: its events, and the clock of a frame.
-- Assumes nothing.
use Prim.Native.Nat.{ℕ, ◌+◌, ◌-◌, ◌≤◌, ◌<◌}
use mathlib.Core.Path.{◌≡◌, refl}
use mathlib.Core.Bool.{Bool, true, false}
use native.Mathlib.Omega.{arith}
use lib.Dec.{eqb, ltb}
use borrow.Author.Tests.{ltb-true}
use Rattle.refusals.proofs.Picks.{pick_by, pick_ok}
use Rattle.hearing.specs.Hearing.{hear_byte, hear_tick, hunted, clocked, later, is_hunting}
use Rattle.hearing.specs.declared.hearing.Hearing.{Hearing}
use Rattle.hearing.specs.declared.hearing.Hearing.TheVariants.{Hunting, Head, Body}
use Rattle.hearing.specs.declared.hearing.Event.{Event}
use Rattle.hearing.specs.declared.hearing.Event.TheVariants.{Inside, Kept, Skipped, Alone, Ended, TickHunting, TickInside, Aborted}
use Rattle.hearing.specs.declared.hearing.Heard.{Heard}

-- the ticks that a frame under reception has left, at most
abbrev pub room : Hearing → ℕ
room Hunting = 0
room (Head c) = 1501 - c
room (Body p) = 1501 - p.clock

-- inside a frame, whose clock stays below 1,501
abbrev pub StillInside : Hearing → Type 0
StillInside Hunting = ⊥
StillInside (Head c) = c ≤ 1500
StillInside (Body p) = p.clock ≤ 1500

abbrev pub StillInsideIf : Bool → Hearing → Type 0
StillInsideIf true h = Unit {0}
StillInsideIf false h = StillInside h

-- whether it hunts or not, the clock is in range
abbrev pub InTime : Hearing → Type 0
InTime h = StillInsideIf (is_hunting h) h

-- what an event tells the job of the frame's clock before and after it
pub record Stays (h h' : Hearing) : Type 0 where
  pub on : StillInside h → StillInside h'
  pub down : StillInside h → room h' ≤ room h

pub record TickPasses (hunting : Bool) (h h' : Hearing) : Type 0 where
  pub within : StillInsideIf hunting h'
  pub small : room h' ≤ 1500
  pub on : StillInside h → StillInside h'
  pub down : StillInside h → room h' + 1 ≤ room h

pub record Aborts (h h' : Hearing) : Type 0 where
  pub small : room h' ≤ 1500
  pub had : StillInside h → 0 < room h

pub record Alones (h h' : Hearing) : Type 0 where
  pub out : StillInside h → ⊥
  pub small : room h' ≤ 1500

abbrev pub Tells : Event → Hearing → Hearing → Type 0
Tells Inside h h' = Stays h h'
Tells (Kept at) h h' = Stays h h'
Tells Skipped h h' = StillInside h → ⊥
Tells (Alone s) h h' = Alones h h'
Tells (Ended e) h h' = Unit {0}
Tells TickHunting h h' = TickPasses true h h'
Tells TickInside h h' = TickPasses false h h'
Tells Aborted h h' = Aborts h h'

-- how many ticks an event is
abbrev pub ticks_at : Event → ℕ
ticks_at Inside = 0
ticks_at (Kept at) = 0
ticks_at Skipped = 0
ticks_at (Alone s) = 0
ticks_at (Ended e) = 0
ticks_at TickHunting = 1
ticks_at TickInside = 1
ticks_at Aborted = 1

-- what all of reception's steps keep
pub record Steps (t : ℕ) (h : Hearing) (r : Heard) : Type 0 where
  pub ok : InTime r.hearing
  pub tells : Tells r.event h r.hearing
  pub time : ticks_at r.event ≡ t

hunted_steps : (b : ℕ) → Steps 0 Hunting (hunted b)
hunted_steps b =
    pick_ok (Steps 0 Hunting) (eqb b 1) _ _ (record { ok = omega arith; tells = record { on = λ i. absurd i; down = λ i. absurd i }; time = refl })
    (pick_ok (Steps 0 Hunting) (eqb b 6) _ _ alone (pick_ok (Steps 0 Hunting) (eqb b 21) _ _ alone (pick_ok (Steps 0 Hunting) (eqb b 24) _ _ alone (record { ok = tt; tells = λ i. i; time = refl }))))
  where
    alone : {s : _} → Steps 0 Hunting (record { hearing = Hunting; event = Alone s })
    alone = record { ok = tt; tells = record { out = λ i. i; small = omega arith }; time = refl }

pub byte_steps : (b : ℕ) (h : Hearing) → InTime h → Steps 0 h (hear_byte b h)
byte_steps b Hunting k = hunted_steps b
byte_steps b (Head c) k =
    pick_ok (Steps 0 (Head c)) (ltb b 3) _ _ (record { ok = tt; tells = tt; time = refl })
    (record { ok = k; tells = record { on = λ i. i; down = λ i. omega arith }; time = refl })
byte_steps b (Body p) k =
    pick_ok (Steps 0 (Body p)) (ltb p.at p.size) _ _ (record { ok = k; tells = record { on = λ i. i; down = λ i. omega arith }; time = refl })
    (record { ok = tt; tells = tt; time = refl })

-- a byte is no tick, whatever the clock stands at
abbrev NoTick : Heard → Type 0
NoTick r = ticks_at r.event ≡ 0

pub no_tick : (b : ℕ) (h : Hearing) → ticks_at (hear_byte b h).event ≡ 0
no_tick b Hunting =
    pick_ok NoTick (eqb b 1) _ _ refl (pick_ok NoTick (eqb b 6) _ _ refl (pick_ok NoTick (eqb b 21) _ _ refl (pick_ok NoTick (eqb b 24) _ _ refl refl)))
no_tick b (Head c) = pick_ok NoTick (ltb b 3) _ _ refl refl
no_tick b (Body p) = pick_ok NoTick (ltb p.at p.size) _ _ refl refl

-- a clock that passes or aborts
clocked_steps : (h h' : Hearing) (c : ℕ) → (c + 1 < 1501 → InTime h' × StillInside h') → room h' ≡ 1501 - (c + 1) → room h ≡ 1501 - c → c ≤ 1500
    → Steps 1 h (clocked (c + 1) h')
clocked_steps h h' c w r s k =
    pick_by (Steps 1 h) (ltb (c + 1) 1501) _ _
    (λ e.
    let v : c + 1 < 1501 = ltb-true (c + 1) 1501 e in
    record { ok = (w v).0; tells = record { within = (w v).1; small = omega arith; on = λ i. (w v).1; down = λ i. omega arith }; time = refl })
    (λ e. record { ok = tt; tells = record { small = omega arith; had = λ i. omega arith }; time = refl })

pub tick_steps : (h : Hearing) → InTime h → Steps 1 h (hear_tick h)
tick_steps Hunting k = record { ok = tt; tells = record { within = tt; small = omega arith; on = λ i. absurd i; down = λ i. absurd i }; time = refl }
tick_steps (Head c) k = clocked_steps (Head c) (Head (c + 1)) c (λ v. (omega arith, omega arith)) refl refl k
tick_steps (Body p) k = clocked_steps (Body p) (Body (later p)) p.clock (λ v. (omega arith, omega arith)) refl refl k
