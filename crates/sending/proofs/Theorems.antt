-- Sending's promises fix their answers (document 01, section 12).
--     on_event_determined     what the open send or session does on an event
--     awaited_by_determined   what it waits to receive
--     awaits_determined       whether a response is the awaited one
--     on_restart_determined   what a restart abandons
-- Assumes nothing.
use mathlib.Core.Path.{◌≡◌}
use mathlib.Core.Bool.{Bool}
use Prim.Native.Nat.{ℕ}
use Rattle.refusals.proofs.Theorems.{fixed}
use Rattle.hearing.specs.declared.hearing.Event.{Event}
use Rattle.reception.specs.declared.said.Awaited.{Awaited}
use Rattle.job.specs.declared.job.Job.{Job}
use Rattle.job.specs.declared.job.Act.{Act}
use Rattle.rules.specs.Rules.{rules_of}
use Rattle.rules.specs.declared.Choice.{Choice}
use Rattle.sending.specs.Events.{on_event, awaited_by, awaits, on_restart}

pub on_event_determined : (c : Choice) (size : ℕ) (e : Event) (j : Job) {r q : Act}
    → r ≡ on_event (rules_of c) size e j → q ≡ on_event (rules_of c) size e j → r ≡ q
on_event_determined c size e j = fixed

pub awaited_by_determined : (j : Job) {r q : Awaited} → r ≡ awaited_by j → q ≡ awaited_by j → r ≡ q
awaited_by_determined j = fixed

pub awaits_determined : (wanted : ℕ) (j : Job) {r q : Bool} → r ≡ awaits wanted j → q ≡ awaits wanted j → r ≡ q
awaits_determined wanted j = fixed

pub on_restart_determined : (j : Job) {r q : Act} → r ≡ on_restart j → q ≡ on_restart j → r ≡ q
on_restart_determined j = fixed
