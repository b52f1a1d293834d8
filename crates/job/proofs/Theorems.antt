-- The job's promises fix their answers (document 01, section 12).
--     goes_on_determined                         the job goes on
--     start_determined                           the next copy, out or due
--     lose_determined                            a copy given up, by the choice and the cause, hunting or not
--     is_open_determined                         whether a send or session is open
--     on_tick_determined, on_abort_determined    a tick, and one that aborts a frame
-- Assumes nothing.
use Rattle.std.specs.Prelude.{Option}
use mathlib.Core.Path.{◌≡◌}
use mathlib.Core.Bool.{Bool}
use Prim.Native.Nat.{ℕ}
use Rattle.refusals.proofs.Theorems.{fixed}
use Rattle.report.specs.declared.Sending.{Sending}
use Rattle.job.specs.declared.job.Job.{Job}
use Rattle.job.specs.declared.job.Act.{Act}
use Rattle.rules.specs.Rules.{rules_of}
use Rattle.rules.specs.declared.Cause.{Cause}
use Rattle.rules.specs.declared.Choice.{Choice}
use Rattle.job.specs.Job.{goes_on, start, lose, is_open}
use Rattle.job.specs.Ticks.{on_tick, on_abort}

pub goes_on_determined : (j : Job) (s : Sending) {r q : Act} → r ≡ goes_on j s → q ≡ goes_on j s → r ≡ q
goes_on_determined j s = fixed

pub start_determined : (hunting : Bool) (a : Option ℕ) (n : ℕ) {r q : Act} → r ≡ start hunting a n → q ≡ start hunting a n → r ≡ q
start_determined hunting a n = fixed

pub lose_determined : (c : Choice) (cause : Cause) (hunting : Bool) (a : Option ℕ) (n : ℕ) {r q : Act}
    → r ≡ lose (rules_of c) cause hunting a n → q ≡ lose (rules_of c) cause hunting a n → r ≡ q
lose_determined c cause hunting a n = fixed

pub is_open_determined : (j : Job) {r q : Bool} → r ≡ is_open j → q ≡ is_open j → r ≡ q
is_open_determined j = fixed

pub on_tick_determined : (c : Choice) (size : ℕ) (hunting : Bool) (j : Job) {r q : Act}
    → r ≡ on_tick (rules_of c) size hunting j → q ≡ on_tick (rules_of c) size hunting j → r ≡ q
on_tick_determined c size hunting j = fixed

pub on_abort_determined : (c : Choice) (size : ℕ) (j : Job) {r q : Act} → r ≡ on_abort (rules_of c) size j → q ≡ on_abort (rules_of c) size j → r ≡ q
on_abort_determined c size j = fixed
