-- What a call decides, on numbers, before a lent byte is written: what reception says, the run of bad sums, the job's act (sections 4 to 7).
-- Assumes nothing.
use Rattle.std.specs.Prelude.{ℕ, Bool, false, Option, Some, None}
use Rattle.rules.specs.Rules.{Rules}
use Rattle.hearing.specs.declared.hearing.Event.{Event}
use Rattle.report.specs.declared.Reception.{Reception}
use Rattle.report.specs.declared.Reception.TheVariants as reception
use Rattle.report.specs.declared.Reset.{Reset}
use Rattle.report.specs.declared.Reset.TheVariants as reset
use Rattle.reception.specs.Said.{saying, said_on}
use Rattle.reception.specs.Sums.{run_of, sums_on}
use Rattle.hearing.specs.declared.hearing.Single.TheVariants.{Nak}
use Rattle.reception.specs.declared.said.Said.{Said}
use Rattle.reception.specs.declared.sums.Sums.{Sums}
use Rattle.job.specs.Job.{start}
use Rattle.job.specs.declared.job.Act.{Act}
use Rattle.job.specs.declared.job.Job.{Job}
use Rattle.job.specs.declared.job.Job.TheVariants.{Idle}
use Rattle.sending.specs.Events.{awaited_by, on_event, on_restart}
use Rattle.step.specs.declared.deciding.Outcome.{Outcome}

-- one call's reset: no call gives both
abbrev pub either : Reset → Reset → Reset
either reset.Nothing x = x
either reset.Sums x = reset.Sums
either reset.Delivery x = reset.Delivery

-- what is decided of reception, the run of bad sums and the job: all but hearing and the held frame's length
abbrev pub decided : Said → Sums → Act → Outcome
decided q z a =
    record {
      job = a.job;
      bad = z.bad;
      reception = q.reception;
      sending = a.sending;
      session = a.session;
      reset = either z.reset a.reset;
      reply = q.reply;
      copy = a.copy;
      up = q.up;
    }

-- what an event decides, for a job and a run of bad sums: reception first, then the sender and the session
abbrev pub decide : Rules → ℕ → Event → Job → ℕ → Outcome
decide R size e j bad = decided (said_on R.choice.role e (awaited_by j)) (sums_on e bad) (on_event R size e j)

-- an act with which reception has this much to say, and no byte of its own
abbrev pub acted : Reception → ℕ → Act → Outcome
acted r bad a = decided (saying r None 0) (run_of bad reset.Nothing) a

-- An accepted send while hunting puts copy 1 out at once; inside a frame it is due.
abbrev pub opening : Bool → Option ℕ → ℕ → Outcome
opening hunting a bad = acted reception.Nothing bad (start hunting a 0)

-- Restart puts out 15, makes the link fresh and reports abandoned.
abbrev pub restarting : Job → Outcome
restarting j =
    record {
      job = Idle;
      bad = 0;
      reception = reception.Nothing;
      sending = (on_restart j).sending;
      session = (on_restart j).session;
      reset = reset.Nothing;
      reply = Some Nak;
      copy = false;
      up = 0;
    }
