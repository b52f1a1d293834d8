-- What is known of a call whose checks pass.
-- Assumes nothing.
use Rattle.std.specs.Prelude.{◌≡◌, ℕ, ◌≤◌, Bool, true, false, ltb}
use mathlib.Core.Path.{refl, ap}
use native.Mathlib.Omega.{arith}
use borrow.Author.Tests.{ltb-false}
use Rattle.refusals.proofs.Picks.{neither}
use Rattle.refusals.specs.declared.Refusal.{Refusal}
use Rattle.refusals.specs.declared.Refusal.TheVariants.{Room, Busy, Kind, Long}
use Rattle.job.specs.Job.{is_open}
use Rattle.job.specs.declared.job.Job.{Job}
use Rattle.std.specs.Prelude.{Ok, Err}
use Rattle.step.specs.Checks.{Checked, passes, check, lacks_room, room_checks, send_own, session_own}

pub has_room : (line up : ℕ) → lacks_room line up ≡ false → (258 ≤ line) × (254 ≤ up)
has_room line up e =
    let n = neither (ltb line 258) (ltb up 254) e in
    (ltb-false line 258 n.0, ltb-false up 254 n.1)

abbrev place : Checked → ℕ
place (Ok t) = 0
place (Err k) = 1

pub passed : (met : Bool) (k : Refusal) (rest : Checked) → check met k rest ≡ passes → (met ≡ false) × (rest ≡ passes)
passed true k rest e = absurd (let z : ◌≡◌ {A = ℕ} 1 0 = ap place e in omega arith)
passed false k rest e = (refl, e)

pub room_passed : (line up : ℕ) (own : Checked) → room_checks line up own ≡ passes → (258 ≤ line) × (254 ≤ up) × (own ≡ passes)
room_passed line up own e =
    let p = passed (lacks_room line up) Room own e in
    let r = has_room line up p.0 in
    (r.0, r.1, p.1)

long_passed : (n : ℕ) → check (ltb 252 n) Long passes ≡ passes → n ≤ 252
long_passed n e = ltb-false 252 n (passed (ltb 252 n) Long passes e).0

pub session_passed : (j : Job) (n : ℕ) → session_own j n ≡ passes → (is_open j ≡ false) × (n ≤ 252)
session_passed j n e =
    let p = passed (is_open j) Busy _ e in
    (p.0, long_passed n p.1)

pub send_passed : (j : Job) (kind n : ℕ) → send_own j kind n ≡ passes → (is_open j ≡ false) × (kind ≤ 1) × (n ≤ 252)
send_passed j kind n e =
    let p = passed (is_open j) Busy _ e in
    let k = passed (ltb 1 kind) Kind _ p.1 in
    (p.0, ltb-false 1 kind k.0, long_passed n k.1)
