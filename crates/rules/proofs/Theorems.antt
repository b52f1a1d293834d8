-- The numbers of sending, printed (section 5, and P2 and P4 of document 02): the wait, the time on the wire, and the back-offs after copies 1, 2
-- and 3, by the mode and the cause; and what opening without a choice chooses.
-- Assumes nothing.
use Prim.Native.Nat.{ℕ, ◌+◌, ◌-◌, ◌*◌, ◌/◌, ◌≤◌, ◌<◌, min}
use mathlib.Core.Path.{◌≡◌, refl, ap}
use mathlib.Core.Bool.{Bool, true, false}
use native.Mathlib.Omega.{arith}
use lib.Dec.{eqb}
use Rattle.refusals.proofs.Theorems.{fixed}
use Rattle.refusals.proofs.Picks.{pick_ok}
use Rattle.refusals.specs.Pick.{pick}
use Rattle.rules.specs.Rules.{is_module, usual, stand_in, spaced, back_offs, sooner_offs, back_by, wire_time, rules_of, base}
use Rattle.rules.specs.declared.Role.{Role}
use Rattle.rules.specs.declared.Role.TheVariants.{Host}
use Rattle.rules.specs.declared.Mode.{Mode}
use Rattle.rules.specs.declared.Mode.TheVariants.{Sooner, Spaced}
use Rattle.rules.specs.declared.Cause.{Cause}
use Rattle.rules.specs.declared.Cause.TheVariants.{Told, Time}
use Rattle.rules.specs.declared.Choice.{Choice}

pub is_module_determined : (role : Role) {r q : Bool} → r ≡ is_module role → q ≡ is_module role → r ≡ q
is_module_determined role = fixed

pub usual_determined : {r q : Choice} → r ≡ usual → q ≡ usual → r ≡ q
usual_determined = fixed

-- a link opened without a choice is the host, and in the new mode; so is a stand-in of which nothing more is said
pub usual_is_host : usual.role ≡ Host
usual_is_host = refl

pub usual_is_sooner : (usual.mode ≡ Sooner) × (stand_in.mode ≡ Sooner)
usual_is_sooner = (refl, refl)

-- and the old mode is named
pub spaced_is_named : (spaced.role ≡ Host) × (spaced.mode ≡ Spaced)
spaced_is_named = (refl, refl)

-- the rules are those of what was chosen
pub rules_are_of : (c : Choice) → (rules_of c).choice ≡ c
rules_are_of c = refl

pub base_is_usual : base.choice ≡ usual
base_is_usual = refl

-- a copy of a frame of so many bytes is lost at 1,600 and its time on the wire
pub wait_is_1600_and_wire : (c : Choice) (size : ℕ) → (rules_of c).wait size ≡ 1_600 + wire_time size
wait_is_1600_and_wire c size = refl

-- 25b/288 rounded up, said without a division, for every frame
pub rounded_up : (b : ℕ) → b ≤ 257 → (25 * b ≤ 288 * wire_time b) × (288 * wire_time b < 25 * b + 288)
unfolding wire_time
rounded_up b h = (omega arith, omega arith)

-- and no other number is
pub rounded_up_alone : (b w : ℕ) → b ≤ 257 → 25 * b ≤ 288 * w → 288 * w < 25 * b + 288 → w ≡ wire_time b
rounded_up_alone b w h low high =
    let r = rounded_up b h in
    omega (arith, r.0, r.1)

-- 0 for no byte, 1 for 1 to 11, 2 from 12 on; 22 for 242 to 253, 23 for 254 to 257
pub wire_times_printed : (wire_time 0 ≡ 0) × (wire_time 1 ≡ 1) × (wire_time 5 ≡ 1) × (wire_time 11 ≡ 1) × (wire_time 12 ≡ 2)
    × (wire_time 241 ≡ 21) × (wire_time 242 ≡ 22) × (wire_time 253 ≡ 22) × (wire_time 254 ≡ 23) × (wire_time 257 ≡ 23)
unfolding wire_time
wire_times_printed = (refl, refl, refl, refl, refl, refl, refl, refl, refl, refl)

-- a length above 257 counts as 257
pub counts_as_257_at_most : (b : ℕ) → wire_time (min b 257) ≡ wire_time b
unfolding wire_time
counts_as_257_at_most b =
    let e : min (min b 257) 257 ≡ min b 257 = omega arith in
    ap (λ (n : ℕ). (25 * n + 287) / 288) e

-- so no copy's time on the wire is more than 23
pub wire_at_most_23 : (b : ℕ) → wire_time b ≤ 23
unfolding wire_time
wire_at_most_23 b = omega arith

-- after copy 1, 2, 3 back off 100, 1,100, 2,100 ticks: told so, in either mode, and in the old mode for every cause
pub back_offs_are : (c : Choice) → ((rules_of c).back Told 1 ≡ 100) × ((rules_of c).back Told 2 ≡ 1_100) × ((rules_of c).back Told 3 ≡ 2_100)
back_offs_are c = (refl, refl, refl)

pub spaced_back_offs_are : (role : Role) (cause : Cause) → let R = rules_of (record { role = role; mode = Spaced }) in (R.back cause 1 ≡ 100) × (R.back cause 2 ≡ 1_100) × (R.back cause 3 ≡ 2_100)
spaced_back_offs_are role Told = (refl, refl, refl)
spaced_back_offs_are role Time = (refl, refl, refl)

-- by time, in the new mode: 0, 0, 500
pub sooner_back_offs_are : (role : Role) → let R = rules_of (record { role = role; mode = Sooner }) in (R.back Time 1 ≡ 0) × (R.back Time 2 ≡ 0) × (R.back Time 3 ≡ 500)
sooner_back_offs_are role = (refl, refl, refl)

-- which is the full back-off less the 1,600 ms already waited (6.3), whatever the frame's time on the wire was
pub sooner_subtracts_1600 : (n : ℕ) → sooner_offs n ≡ back_offs n - 1600
sooner_subtracts_1600 n = by (eqb n 1) (eqb n 2)
  where
    by : (t u : Bool) → pick t 0 (pick u 0 500) ≡ pick t 100 (pick u 1100 2100) - 1600
    by true u = refl
    by false true = refl
    by false false = refl

-- no back-off is longer than 2,100
pub back_at_most_2100 : (m : Mode) (cause : Cause) (n : ℕ) → back_by m cause n ≤ 2_100
back_at_most_2100 m cause n = by m cause
  where
    full : back_offs n ≤ 2_100
    full = pick_ok (λ (t : ℕ). t ≤ 2_100) (eqb n 1) 100 _ (omega arith) (pick_ok (λ (t : ℕ). t ≤ 2_100) (eqb n 2) 1_100 2_100 (omega arith) (omega arith))

    by : (m : Mode) (cause : Cause) → back_by m cause n ≤ 2_100
    by m Told = full
    by Sooner Time = omega (arith, full, sooner_subtracts_1600 n)
    by Spaced Time = full
