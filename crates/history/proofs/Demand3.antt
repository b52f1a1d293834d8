-- Demand 3 over all histories, for any rules that fit, and for those that hold.
-- Assumes nothing.
use Rattle.std.specs.Prelude.{None, Option, Some}
use Prim.Native.Nat.{ℕ, ◌+◌, ◌≤◌}
use mathlib.Core.Path.{◌≡◌, refl, subst, ◌∙◌, fun_ext}
use mathlib.Core.Bool.{Bool, true, false}
use mathlib.Core.List.{List, [], ◌∷◌, ◌++◌}
use native.Mathlib.Omega.{arith}
use native.Mathlib.Nat.{add-zero}
use lib.ListN.{length, length-append}
use lib.Seq.{take-append_seam}
use Rattle.frame.specs.Bytes.{over}
use Rattle.frame.specs.Frame.{frame_of, counted, checksum}
use Rattle.rules.specs.Rules.{Rules, back_offs, back_by, wire_time, ack_wait, rules_of}
use Rattle.rules.specs.declared.Role.TheVariants.{Host, Module}
use Rattle.rules.specs.declared.Mode.{Mode}
use Rattle.rules.specs.declared.Mode.TheVariants.{Sooner, Spaced}
use Rattle.rules.specs.declared.Cause.TheVariants.{Time}
use Rattle.rules.proofs.Theorems.{sooner_subtracts_1600}
use Rattle.rules.specs.declared.Choice.{Choice}
use Rattle.hearing.specs.Hearing.{is_hunting}
use Rattle.job.specs.Job.{start}
use Rattle.reception.specs.Said.{saying}
use Rattle.link.specs.Out.{Out, open_out}
use Rattle.step.specs.Checks.{room_checks}
use Rattle.hearing.specs.declared.hearing.Hearing.{Hearing}
use Rattle.hearing.specs.declared.hearing.Hearing.TheVariants.{Hunting, Head, Body}
use Rattle.report.specs.declared.Reception.TheVariants as reception
use Rattle.report.specs.declared.Reset.TheVariants as reset
use Rattle.link.specs.declared.link.Link.{Link}
use Rattle.history.specs.Perform.{send, session, Call, checks_of}
use Rattle.history.specs.History.{after}
use Rattle.history.specs.Watch.{abandons_in, verdict_of, watch, watched}
use Rattle.history.specs.Bound.{Fits, spare, tail, extra, bound}
use Rattle.history.specs.Demand3.{Kept, Demand3, EverySend, EverySession, send_bound, session_bound, HostDemand3, StandInDemand3}
use Rattle.history.proofs.Mix.{end as finish, IsFrame, mix_answers}
use Rattle.history.proofs.Hearing.{room, InTime}
use Rattle.history.proofs.Job.{start_ok}
use Rattle.history.proofs.Links.{Outcome, lifted}
use Rattle.history.proofs.Histories.{accepted_is, in_time}
use Rattle.history.proofs.Watching.{onward_ok, watch_ok, copies_are, copies_number, kept, watched_over, watched_there}
use Rattle.history.proofs.Once.{NotAbandoned, sofar_from, one_at_most, spent_is}
use Rattle.reception.specs.Sums.{run_of}

pub frame_is : (kind command : ℕ) (ps : List ℕ) → IsFrame (frame_of kind command ps)
unfolding frame_of
frame_is kind command ps =
    let z : ℕ = checksum (counted kind command ps) in
    record { len = length ps + 3; rest = kind ∷ command ∷ (ps ++ (z ∷ [])); is = refl; fits = omega (arith, length-append ps (z ∷ [])) }

room_most : (h : Hearing) → room h ≤ 1501
room_most Hunting = omega arith
room_most (Head c) = omega arith
room_most (Body p) = omega arith

module _ (R : Rules) (g : ℕ → ℕ) (fit : Fits R g) where
  -- an accepted send or session holds its frame, and has so many ticks at most
  pub open_gave : (l : Link) (a : Option ℕ) (f : List ℕ) → InTime l.core.hearing
      → Outcome R g f a (bound R g a (length f)) 0 0 (verdict_of a (open_out l a f)) (open_out l a f)
  unfolding open_out
  open_gave l a f i =
      let h = l.core.hearing in
      lifted R g fit f a l.body (over f l.frame) h (length f) l.core.choice (saying reception.Nothing None 0) (run_of l.core.bad reset.Nothing)
      (start (is_hunting h) a 0) (bound R g a (length f)) 0 0 i (take-append_seam f _) finish
      (start_ok R g fit (length f) (is_hunting h) h (bound R g a (length f)) 0 0 a i (omega arith) (omega (arith, room_most h)))

  open_unsaid : (l : Link) (a : Option ℕ) (f : List ℕ) → NotAbandoned (open_out l a f)
  unfolding open_out
  open_unsaid l a f = by (is_hunting l.core.hearing)
    where
      by : (hunting : Bool) → abandons_in (start hunting a 0).sending (start hunting a 0).session ≡ 0
      by true = refl
      by false = refl

  opened : (l : Link) (a : Option ℕ) (f : List ℕ) → InTime l.core.hearing → IsFrame f → (k : List Call)
      → Demand3 R a f (bound R g a (length f)) (open_out l a f) k
  opened l a f i w k =
      let o = open_out l a f in
      let c = open_gave l a f i in
      let q : Kept a f (bound R g a (length f)) (watched R a o k) =
      kept R.choice.role f a (bound R g a (length f)) (watched R a o k) w
      (onward_ok R g fit f a (verdict_of a o) (bound R g a (length f)) 0 0 o (watch R a o.link k) c (watch_ok R g fit f a k o.link)) in
      let s = sofar_from R g fit f a k (bound R g a (length f)) 0 0 o (open_unsaid l a f) c in
      record {
        once = omega (arith, s.said, one_at_most (watched R a o k));
        said = s.said;
        abandoned = s.abandoned;
        kept = q;
        few = omega (arith, s.few, copies_number w s.mix);
        equal = copies_are w s.mix;
        spent = spent_is w s.mix (watched R a o k) s.spent;
        answers = mix_answers w s.mix;
        comes = watched_over R a f (bound R g a (length f)) o k q;
        restarted = watched_there R a o k;
      }

  -- Take any history h, any send accepted after it, and any calls k after that.
  pub send_demand3 : EverySend R (bound R g None)
  send_demand3 h k line up kind command ps o e =
      let f = frame_of kind command ps in
      let l = after R h in
      subst (λ (z : Out). Demand3 R None f (bound R g None (length f)) z k)
      (accepted_is (room_checks line up (checks_of l (send kind command ps))) (open_out l None f) o e).gave
      (opened l None f (in_time R h) (frame_is kind command ps) k)

  -- The same of a session; the bound is the same for every Command.
  pub session_demand3 : EverySession R (bound R g (Some 0))
  session_demand3 h k line up command ps o e =
      let f = frame_of 0 command ps in
      let l = after R h in
      subst (λ (z : Out). Demand3 R (Some command) f (bound R g (Some command) (length f)) z k)
      (accepted_is (room_checks line up (checks_of l (session command ps))) (open_out l (Some command) f) o e).gave
      (opened l (Some command) f (in_time R h) (frame_is 0 command ps) k)

-- ---- the rules of sending, which the host and the stand-in share: one theorem over what was chosen, and so over the mode
pub rules_fit : (c : Choice) → Fits (rules_of c) (spare c.mode)
rules_fit c = record { wait = λ size. omega arith; late = late c.mode; early = early c.mode }
  where
    late : (m : Mode) (n : ℕ) → back_by m Time n ≤ spare m n
    late Sooner n = omega (arith, sooner_subtracts_1600 n)
    late Spaced n = omega arith

    early : (m : Mode) (n : ℕ) → back_offs n ≤ spare m n + 1
    early Sooner n = omega arith
    early Spaced n = omega arith

-- in numbers: the mode's, what a session's response takes more, and four times the time on the wire
bound_is : (c : Choice) (a : Option ℕ) → bound (rules_of c) (spare c.mode) a ≡ (λ size. send_bound c.mode size + extra a)
bound_is c a = fun_ext (λ size. by c.mode size)
  where
    by : (m : Mode) (size : ℕ) → 1501 + (ack_wait size + tail (ack_wait size) (spare m) 1 + extra a) ≡ send_bound m size + extra a
    by Sooner size = omega arith
    by Spaced size = omega arith

-- a session's is a send's and what its response takes more
session_more : (m : Mode) (size : ℕ) → send_bound m size + extra (Some 0) ≡ session_bound m size
session_more Sooner size = omega arith
session_more Spaced size = omega arith

pub every_send : (c : Choice) → EverySend (rules_of c) (send_bound c.mode)
every_send c = subst (EverySend (rules_of c)) (bound_is c None ∙ fun_ext (λ size. add-zero (send_bound c.mode size))) (send_demand3 (rules_of c) (spare c.mode) (rules_fit c))

pub every_session : (c : Choice) → EverySession (rules_of c) (session_bound c.mode)
every_session c = subst (EverySession (rules_of c)) (bound_is c (Some 0) ∙ fun_ext (session_more c.mode)) (session_demand3 (rules_of c) (spare c.mode) (rules_fit c))

pub host_demand3 : (m : Mode) → HostDemand3 m
host_demand3 m = (every_send (record { role = Host; mode = m }), every_session (record { role = Host; mode = m }))

pub module_demand3 : (m : Mode) → StandInDemand3 m
module_demand3 m = (every_send (record { role = Module; mode = m }), every_session (record { role = Module; mode = m }))

-- the bounds printed, of the shortest frame and of the longest: in the new mode, and in the old
pub bounds_printed : (send_bound Sooner 5 ≡ 15_702) × (session_bound Sooner 5 ≡ 20_701) × (send_bound Sooner 257 ≡ 15_790) × (session_bound Sooner 257 ≡ 20_789)
    × (send_bound Spaced 5 ≡ 15_705) × (session_bound Spaced 5 ≡ 20_704) × (send_bound Spaced 257 ≡ 15_793) × (session_bound Spaced 257 ≡ 20_792)
unfolding wire_time
bounds_printed = (refl, refl, refl, refl, refl, refl, refl, refl)
