-- Reception's promises fix their answers (document 01, section 12).
--     is_awaited_determined  whether a response is the awaited one
--     said_on_determined, said_as_host_determined   what reception says of an event, and what the host says
--     sums_on_determined     the run of bad sums after an event
-- And the stand-in's one rule: what it cancels, and that it says as the host says of all else.
--     cancels_frames, cancelled_ends_the_run   a frame of Type 00 or 01 while an ACK is awaited; the run of bad sums is 0 after it
--     others_as_ever, alike                    any other end, whatever is awaited; any event, while no ACK is awaited
--     host_request, host_response              the host never cancels
-- Assumes nothing.
use mathlib.Core.Path.{◌≡◌, refl, ap}
use mathlib.Core.Bool.{Bool, false}
use mathlib.Core.List.{[], ◌∷◌}
use Prim.Native.Nat.{ℕ}
use native.Mathlib.Omega.{arith}
use Rattle.refusals.proofs.Theorems.{fixed}
use Rattle.rules.specs.declared.Role.{Role}
use Rattle.rules.specs.declared.Role.TheVariants.{Host, Module}
use Rattle.hearing.specs.declared.hearing.End.{End}
use Rattle.hearing.specs.declared.hearing.End.TheVariants as end
use Rattle.hearing.specs.declared.hearing.Event.TheVariants.{Inside, Kept, Skipped, Alone, Ended, TickHunting, TickInside, Aborted}
use Rattle.report.specs.Told.{reception_case}
use Rattle.report.specs.declared.Reception.TheVariants as reception
use Rattle.report.specs.declared.Reset.TheVariants as reset
use Rattle.reception.specs.declared.said.Awaited.TheVariants as awaited
use Rattle.hearing.specs.declared.hearing.Single.TheVariants.{Ack, Nak, Can}
use Rattle.std.specs.Prelude.{Some, None}
use Rattle.hearing.specs.declared.hearing.Event.{Event}
use Rattle.reception.specs.declared.said.Awaited.{Awaited}
use Rattle.reception.specs.declared.said.Said.{Said}
use Rattle.reception.specs.declared.sums.Sums.{Sums}
use Rattle.reception.specs.Said.{reply_bytes, saying, is_awaited, response_as, cancels, said_frame, said_end, said_on}
use Rattle.reception.specs.Sums.{run_of, sums_end, sums_on}

pub is_awaited_determined : (command : ℕ) (w : Awaited) {r q : Bool} → r ≡ is_awaited command w → q ≡ is_awaited command w → r ≡ q
is_awaited_determined command w = fixed

pub said_on_determined : (role : Role) (e : Event) (w : Awaited) {r q : Said} → r ≡ said_on role e w → q ≡ said_on role e w → r ≡ q
said_on_determined role e w = fixed

pub said_as_host_determined : (e : Event) (w : Awaited) {r q : Said} → r ≡ said_on Host e w → q ≡ said_on Host e w → r ≡ q
said_as_host_determined e w = fixed

pub sums_on_determined : (e : Event) (bad : ℕ) {r q : Sums} → r ≡ sums_on e bad → q ≡ sums_on e bad → r ≡ q
sums_on_determined e bad = fixed

-- ---- the stand-in
-- "While it waits for an ACK, a frame of type 00 or 01 with the right checksum is answered with 18, reported as cancelled and not handed up."
pub cancels_frames : (size command : ℕ)
    → (said_end Module (end.Request size) awaited.Ack ≡ saying reception.Cancelled (Some Can) 0)
    × (said_end Module (end.Response size command) awaited.Ack ≡ saying reception.Cancelled (Some Can) 0)
    × (reply_bytes (Some Can) ≡ 0x18 ∷ [])
cancels_frames size command = (refl, refl, refl)

-- "The run of bad sums still returns to 0": of whatever is cancelled.
pub cancelled_ends_the_run : (role : Role) (e : End) (w : Awaited) (n : ℕ) → (said_end role e w).reception ≡ reception.Cancelled → sums_end e n ≡ run_of 0 reset.Nothing
cancelled_ends_the_run role end.BadLength w n q = absurd (apart q)
  where
    apart : reception.BadLength ≡ reception.Cancelled → ⊥
    apart q = let z : ◌≡◌ {A = ℕ} 2 8 = ap reception_case q in omega arith
cancelled_ends_the_run role end.BadSum w n q = absurd (apart q)
  where
    apart : reception.BadSum ≡ reception.Cancelled → ⊥
    apart q = let z : ◌≡◌ {A = ℕ} 5 8 = ap reception_case q in omega arith
cancelled_ends_the_run role end.Reserved w n q = refl
cancelled_ends_the_run role (end.Request size) w n q = refl
cancelled_ends_the_run role (end.Response size command) w n q = refl

-- "Reserved types keep the old rule", and so do wrong checksums and bad lengths.
pub others_as_ever : (role : Role) (w : Awaited)
    → (said_end role end.Reserved w ≡ saying reception.Reserved (Some Ack) 0)
    × (said_end role end.BadSum w ≡ saying reception.BadSum (Some Nak) 0)
    × (said_end role end.BadLength w ≡ saying reception.BadLength None 0)
others_as_ever role w = (refl, refl, refl)

-- While it awaits no ACK the stand-in says of every event what the host says.
pub alike : (e : Event) (w : Awaited) → cancels Module w ≡ false → said_on Module e w ≡ said_on Host e w
alike Inside w q = refl
alike (Kept at) w q = refl
alike Skipped w q = refl
alike (Alone s) w q = refl
alike (Ended end.BadLength) w q = refl
alike (Ended end.BadSum) w q = refl
alike (Ended end.Reserved) w q = refl
alike (Ended (end.Request size)) w q = ap (λ (x : Bool). said_frame x reception.Frame size) q
alike (Ended (end.Response size command)) w q = ap (λ (x : Bool). said_frame x (response_as command w) size) q
alike TickHunting w q = refl
alike TickInside w q = refl
alike Aborted w q = refl

-- The host cancels nothing: "put out 06 and hand up the body", whatever is awaited.
pub host_request : (size : ℕ) (w : Awaited) → said_end Host (end.Request size) w ≡ saying reception.Frame (Some Ack) size
host_request size w = refl

pub host_response : (size command : ℕ) (w : Awaited) → said_end Host (end.Response size command) w ≡ saying (response_as command w) (Some Ack) size
host_response size command w = refl
