-- The stand-in's one rule on any link, and that in all else it is the host.
--     cancels_frame                        a frame of Type 00 or 01 that ends while it waits for an ACK
--     byte_as_host, run_as_host            any byte and any run, unless it waits for an ACK
--     tick_as_host                         any tick
--     stand_ins_host                       the host that it is: of the same mode
-- A send, a session and a restart ask for no rules: they are the same by definition.
-- Assumes nothing.
use Rattle.std.specs.Prelude.{Option}
use Prim.Native.Nat.{ℕ, zero, suc, ◌+◌, ◌≤◌}
use mathlib.Core.Path.{◌≡◌, refl, ap, ap₂, sym, ◌∙◌, subst}
use mathlib.Core.Bool.{Bool, false}
use mathlib.Core.List.{List}
use native.Mathlib.Omega.{arith}
use lib.Dec.{ltb}
use borrow.Author.Tests.{eq-eqb}
use Rattle.refusals.specs.Pick.{pick}
use Rattle.refusals.proofs.Picks.{pick_ok}
use Rattle.frame.specs.Frame.{RES}
use Rattle.rules.specs.Rules.{Rules, rules_of}
use Rattle.rules.specs.declared.Mode.{Mode}
use Rattle.rules.specs.declared.Role.{Role}
use Rattle.rules.specs.declared.Role.TheVariants.{Host, Module}
use Rattle.hearing.specs.Hearing.{heard, hear_byte, hear_tick, later, ended}
use Rattle.hearing.specs.declared.hearing.Partial.{Partial}
use Rattle.hearing.specs.declared.hearing.Hearing.{Hearing}
use Rattle.hearing.specs.declared.hearing.Hearing.TheVariants.{Hunting, Head, Body}
use Rattle.hearing.specs.declared.hearing.End.{End}
use Rattle.hearing.specs.declared.hearing.End.TheVariants as end
use Rattle.hearing.specs.declared.hearing.Event.{Event}
use Rattle.hearing.specs.declared.hearing.Event.TheVariants.{Ended, TickInside, Aborted}
use Rattle.hearing.specs.declared.hearing.Heard.{Heard}
use Rattle.reception.specs.Said.{cancels, said_on}
use Rattle.reception.specs.Sums.{sums_on}
use Rattle.reception.specs.declared.said.Said.{Said}
use Rattle.reception.proofs.Theorems.{alike}
use Rattle.job.specs.Job.{still}
use Rattle.job.specs.declared.job.Act.{Act}
use Rattle.job.specs.declared.job.Job.{Job}
use Rattle.job.specs.declared.job.Job.TheVariants.{Waiting}
use Rattle.sending.specs.Events.{awaited_by, on_end}
use Rattle.step.specs.Deciding.{decided, decide}
use Rattle.step.specs.declared.deciding.Outcome.{Outcome}
use Rattle.step.specs.declared.numbers.Core.{Core}
use Rattle.step.proofs.Choices.{event_alike}
use Rattle.link.specs.Out.{Out, out, heard_out, byte_by, byte_out, tick_out, run_out}
use Rattle.link.specs.declared.link.Link.{Link}
use Rattle.link.proofs.Hears.{runs}
use Rattle.run.specs.Promises.{hear_from, unheard}
use Rattle.history.specs.Section11.{cancels_now}
use Rattle.history.specs.StandIn.{Cancels, host_of}
use Rattle.history.proofs.Section11.{checked}

-- ---- what is cancelled
-- the end of a frame, while a copy waits
waits_on : (e : End) (a : Option ℕ) (n t : ℕ) → on_end e (Waiting a n t) ≡ still (Waiting a n t)
waits_on end.BadLength a n t = refl
waits_on end.BadSum a n t = refl
waits_on end.Reserved a n t = refl
waits_on (end.Request size) a n t = refl
waits_on (end.Response size command) a n t = refl

-- of Type 00 or 01
data IsFrameEnd : End → Type 0 where
  request : (size : ℕ) → IsFrameEnd (end.Request size)
  response : (size command : ℕ) → IsFrameEnd (end.Response size command)

end_cancels : (R : Rules) (k : Core) (body frame : List ℕ) (e : End) → IsFrameEnd e → R.choice.role ≡ Module → (a : Option ℕ) (n t : ℕ)
    → Cancels (record { core = record { hearing = k.hearing; job = Waiting a n t; bad = k.bad; size = k.size; choice = k.choice }; body = body; frame = frame })
    (heard_out R (record { hearing = k.hearing; job = Waiting a n t; bad = k.bad; size = k.size; choice = k.choice }) body frame (heard Hunting (Ended e)))
end_cancels R k body frame (end.Request size) (request s) m a n t =
    record { hunting = refl; reception = simp m; line = simp m; up = simp m; bad = refl; job = refl; sending = refl; session = refl; reset = refl; news = simp m }
end_cancels R k body frame (end.Response size command) (response s c) m a n t =
    record { hunting = refl; reception = simp m; line = simp m; up = simp m; bad = refl; job = refl; sending = refl; session = refl; reset = refl; news = simp m }
end_cancels R k body frame end.BadLength f m a n t = elim f [ ]
end_cancels R k body frame end.BadSum f m a n t = elim f [ ]
end_cancels R k body frame end.Reserved f m a n t = elim f [ ]

is_frame_end : (p : Partial) (k : ℕ) → p.kind ≡ k → k ≤ RES → IsFrameEnd (ended p)
is_frame_end p zero q h = simp q (request p.size)
is_frame_end p (suc zero) q h = simp q (response p.size p.command)
is_frame_end p (suc (suc k)) q h = absurd (omega arith)

-- "While it waits for an ACK, a frame of type 00 or 01 with the right checksum is answered with 18, reported as cancelled and not handed up": judged when the
-- Checksum comes.
pub cancels_frame : (R : Rules) → R.choice.role ≡ Module → (l : Link) (b : ℕ) (p : Partial) (a : Option ℕ) (n t : ℕ) → l.core.job ≡ Waiting a n t
    → l.core.hearing ≡ Body p → p.size ≤ p.at → b ≡ p.sum → p.kind ≤ RES → Cancels l (byte_out R l b)
cancels_frame R m l b p a n t w q k e h =
    let at : Job → Link = λ j. record { core = record { hearing = l.core.hearing; job = j; bad = l.core.bad; size = l.core.size; choice = l.core.choice }; body = l.body; frame = l.frame } in
    let o : byte_out R l b ≡ byte_by R l b (heard Hunting (Ended (ended p))) =
    checked R l b p q k ∙ ap (λ (x : Bool). byte_by R l b (heard Hunting (Ended (pick x (ended p) end.BadSum)))) (eq-eqb b p.sum e) in
    subst (Cancels l) (sym o)
    (subst (λ (j : Job). Cancels (at j) (byte_by R (at j) b (heard Hunting (Ended (ended p))))) (sym w)
    (end_cancels R l.core l.body l.frame (ended p) (is_frame_end p p.kind refl h) m a n t))

-- ---- in all else it is the host
said_alike : (role : Role) (e : Event) (j : Job) → cancels role (awaited_by j) ≡ false → said_on role e (awaited_by j) ≡ said_on Host e (awaited_by j)
said_alike Host e j q = refl
said_alike Module e j q = alike e (awaited_by j) q

decide_alike : (R : Rules) (size : ℕ) (e : Event) (j : Job) (bad : ℕ) → cancels_now R j ≡ false → decide R size e j bad ≡ decide (host_of R) size e j bad
decide_alike R size e j bad q = ap₂ (λ (s : Said) (x : Act). decided s (sums_on e bad) x) (said_alike R.choice.role e j q) (event_alike R (host_of R).choice size e j)

heard_alike : (R : Rules) (k : Core) (body frame : List ℕ) (h : Heard) → cancels_now R k.job ≡ false → heard_out R k body frame h ≡ heard_out (host_of R) k body frame h
heard_alike R k body frame h q = ap (λ (o : Outcome). out body frame h.hearing k.size k.choice o) (decide_alike R k.size h.event k.job k.bad q)

pub byte_as_host : (R : Rules) (l : Link) (b : ℕ) → cancels_now R l.core.job ≡ false → byte_out R l b ≡ byte_out (host_of R) l b
unfolding byte_out
byte_as_host R l b q = heard_alike R l.core _ l.frame (hear_byte b l.core.hearing) q

pub run_as_host : (R : Rules) (l : Link) (bs : List ℕ) → cancels_now R l.core.job ≡ false → run_out R l bs ≡ run_out (host_of R) l bs
run_as_host R l bs q =
    let f = hear_from (unheard l.core.hearing l.body) bs in
    runs R l bs ∙ ap (λ (o : Out). record { out = o; taken = f.taken }) (heard_alike R l.core f.body l.frame f.heard q) ∙ sym (runs (host_of R) l bs)

-- a tick says nothing that hangs on the role
tick_said : (role : Role) (h : Hearing) (j : Job) → said_on role (hear_tick h).event (awaited_by j) ≡ said_on Host (hear_tick h).event (awaited_by j)
tick_said role Hunting j = refl
tick_said role (Head c) j = pick_ok (λ (x : Heard). said_on role x.event (awaited_by j) ≡ said_on Host x.event (awaited_by j)) (ltb (c + 1) 1501) (heard (Head (c + 1)) TickInside) (heard Hunting Aborted) refl refl
tick_said role (Body p) j = pick_ok (λ (x : Heard). said_on role x.event (awaited_by j) ≡ said_on Host x.event (awaited_by j)) (ltb (p.clock + 1) 1501) (heard (Body (later p)) TickInside) (heard Hunting Aborted) refl refl

pub tick_as_host : (R : Rules) (l : Link) → tick_out R l ≡ tick_out (host_of R) l
unfolding tick_out
tick_as_host R l =
    let k = l.core in
    let h = hear_tick k.hearing in
    ap (λ (o : Outcome). out l.body l.frame h.hearing k.size k.choice o)
    (ap₂ (λ (s : Said) (x : Act). decided s (sums_on h.event k.bad) x) (tick_said R.choice.role k.hearing k.job) (event_alike R (host_of R).choice k.size h.event k.job))

-- The stand-in has the modes too: the host that it is in all else is the host of its mode.
pub stand_ins_host : (m : Mode) → host_of (rules_of (record { role = Module; mode = m })) ≡ rules_of (record { role = Host; mode = m })
stand_ins_host m = refl
