-- The step's promises fix their answers (document 01, section 12).
--     lacks_room_determined, room_determined              whether a lent buffer is too short, and ROOM where one is
--     send_checks_determined, session_checks_determined   what the checks of a send, of a session say
--     fresh_determined                                    the numbers of a fresh link
--     decide_determined, decide_tick_determined           what a byte decides, and what a tick does
--     either_determined                                   the reset of a call
--     opening_determined, restarting_determined           what an accepted send or session decides, and what a restart does
-- Assumes nothing.
use Rattle.std.specs.Prelude.{◌≡◌, ℕ, Bool, Option}
use Rattle.refusals.proofs.Theorems.{fixed}
use Rattle.hearing.specs.declared.hearing.Event.{Event}
use Rattle.job.specs.declared.job.Job.{Job}
use Rattle.rules.specs.Rules.{rules_of}
use Rattle.rules.specs.declared.Choice.{Choice}
use Rattle.report.specs.declared.Reset.{Reset}
use Rattle.step.specs.declared.numbers.Core.{Core}
use Rattle.step.specs.declared.deciding.Outcome.{Outcome}
use Rattle.step.specs.Checks.{Checked, lacks_room, room_checks, passes}
use Rattle.step.specs.Promises.{send_checks, session_checks}
use Rattle.step.specs.Core.{fresh_core}
use Rattle.step.specs.Deciding.{either, decide, opening, restarting}

pub lacks_room_determined : (line up : ℕ) {r q : Bool} → r ≡ lacks_room line up → q ≡ lacks_room line up → r ≡ q
lacks_room_determined line up = fixed

pub room_determined : (line up : ℕ) {r q : Checked} → r ≡ room_checks line up passes → q ≡ room_checks line up passes → r ≡ q
room_determined line up = fixed

pub send_checks_determined : (line up : ℕ) (j : Job) (kind n : ℕ) {r q : Checked}
    → r ≡ send_checks line up j kind n → q ≡ send_checks line up j kind n → r ≡ q
send_checks_determined line up j kind n = fixed

pub session_checks_determined : (line up : ℕ) (j : Job) (n : ℕ) {r q : Checked}
    → r ≡ session_checks line up j n → q ≡ session_checks line up j n → r ≡ q
session_checks_determined line up j n = fixed

pub fresh_determined : (c : Choice) {r q : Core} → r ≡ fresh_core c → q ≡ fresh_core c → r ≡ q
fresh_determined c = fixed

pub decide_determined : (c : Choice) (j : Job) (bad size : ℕ) (e : Event) {r q : Outcome}
    → r ≡ decide (rules_of c) size e j bad → q ≡ decide (rules_of c) size e j bad → r ≡ q
decide_determined c j bad size e = fixed

pub decide_tick_determined : (c : Choice) (j : Job) (bad size : ℕ) (e : Event) {r q : Outcome}
    → r ≡ decide (rules_of c) size e j bad → q ≡ decide (rules_of c) size e j bad → r ≡ q
decide_tick_determined c j bad size e = fixed

pub either_determined : (bad sender : Reset) {r q : Reset} → r ≡ either bad sender → q ≡ either bad sender → r ≡ q
either_determined bad sender = fixed

pub opening_determined : (hunting : Bool) (a : Option ℕ) (bad : ℕ) {r q : Outcome}
    → r ≡ opening hunting a bad → q ≡ opening hunting a bad → r ≡ q
opening_determined hunting a bad = fixed

pub restarting_determined : (j : Job) {r q : Outcome} → r ≡ restarting j → q ≡ restarting j → r ≡ q
restarting_determined j = fixed
