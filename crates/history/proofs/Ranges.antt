-- On links reached from opening no guard is ever met: every number is in its range.
-- Assumes nothing.
use Rattle.std.specs.Prelude.{None, Option, Some}
use Prim.Native.Nat.{ℕ, ◌+◌, ◌≤◌, ◌<◌}
use mathlib.Core.Path.{◌≡◌, refl, sym, ◌∙◌, subst}
use mathlib.Core.Bool.{Bool, true, false}
use mathlib.Core.List.{List, []}
use native.Mathlib.Omega.{arith}
use lib.Bits.{xor_lt}
use lib.Dec.{ltb, eqb}
use lib.ListN.{length, take}
use borrow.Author.Tests.{ltb-true, ltb-false}
use Rattle.frame.specs.Frame.{MAX_BODY, frame_of}
use Rattle.frame.proofs.Over.{over_length}
use Rattle.frame.proofs.Theorems.{frame_bounds}
use Rattle.rules.specs.declared.Choice.{Choice}
use Rattle.rules.specs.Rules.{Rules, rules_of}
use Rattle.rules.specs.declared.Cause.{Cause}
use Rattle.rules.specs.declared.Cause.TheVariants.{Told, Time}
use Rattle.rules.proofs.Theorems.{back_at_most_2100}
use Rattle.hearing.specs.Hearing.{hear_byte, hear_tick, hunted, is_hunting}
use Rattle.hearing.proofs.Theorems.{keep_length}
use Rattle.job.specs.Job.{start, lose}
use Rattle.job.specs.Ticks.{on_tick, on_abort}
use Rattle.sending.specs.Events.{on_single, on_end, release, awaits, on_event}
use Rattle.reception.specs.Sums.{sums_end, sums_on}
use Rattle.link.specs.Link.{no_body, no_frame}
use Rattle.link.specs.Out.{Out, byte_out, tick_out, open_out}
use Rattle.hearing.specs.declared.hearing.Hearing.{Hearing}
use Rattle.hearing.specs.declared.hearing.Hearing.TheVariants.{Hunting, Head, Body}
use Rattle.hearing.specs.declared.hearing.Single.{Single}
use Rattle.hearing.specs.declared.hearing.Single.TheVariants.{Ack, Nak, Can}
use Rattle.hearing.specs.declared.hearing.End.{End}
use Rattle.hearing.specs.declared.hearing.End.TheVariants as end
use Rattle.hearing.specs.declared.hearing.Event.{Event}
use Rattle.hearing.specs.declared.hearing.Event.TheVariants.{Inside, Kept, Skipped, Alone, Ended, TickHunting, TickInside, Aborted}
use Rattle.hearing.specs.declared.hearing.Heard.{Heard}
use Rattle.job.specs.declared.job.Act.{Act}
use Rattle.job.specs.declared.job.Job.{Job}
use Rattle.job.specs.declared.job.Job.TheVariants.{Idle, Due, Waiting, BackingOff, Awaiting}
use Rattle.link.specs.declared.link.Link.{Link}
use Rattle.history.specs.Perform.{Call}
use Rattle.history.specs.History.{after}
use Rattle.history.specs.Watch.{Says, none, says, both, verdict_of}
use Rattle.history.specs.Bound.{Fits, spare}
use Rattle.history.specs.Ranges.{ComeAll, IsByte, HearingIn, IsInside, JobIn, InRange}
use Rattle.history.proofs.Hearing.{StillInside, InTime, byte_steps, tick_steps}
use Rattle.refusals.proofs.Picks.{pick_by, pick_ok}
use Rattle.history.proofs.Job.{Good, due, waits, backs, awaiting}
use Rattle.history.proofs.Links.{Sends, Outcome, byte_gave, tick_gave}
use Rattle.history.proofs.Histories.{Keeps, after_keeps, Any, any_calls}
use Rattle.history.proofs.Once.{byte_rests, tick_rests}
use Rattle.history.proofs.Demand3.{open_gave, rules_fit}

-- ---- hearing
abbrev HeardIn : Heard → Type 0
HeardIn r = HearingIn r.hearing

hunted_in : (b : ℕ) → HeardIn (hunted b)
hunted_in b = pick_ok HeardIn (eqb b 1) _ _ (omega arith) (pick_ok HeardIn (eqb b 6) _ _ tt (pick_ok HeardIn (eqb b 21) _ _ tt (pick_ok HeardIn (eqb b 24) _ _ tt tt)))

byte_in_lem : (b : ℕ) (h : Hearing) → IsByte b → HearingIn h → HeardIn (hear_byte b h)
byte_in_lem b Hunting x k = hunted_in b
byte_in_lem b (Head c) x k =
    pick_by HeardIn (ltb b 3) _ _ (λ _. tt)
    (λ e.
    let v : 3 ≤ b = ltb-false b 3 e in
    record { clock = k; least = omega arith; most = omega arith; at = omega arith; sum = xor_lt 8 255 b (omega arith) x; kind = omega arith; command = omega arith })
byte_in_lem b (Body p) x k =
    pick_by HeardIn (ltb p.at p.size) _ _
    (λ e.
    let v : p.at < p.size = ltb-true _ _ e in
    record {
      clock = k.clock;
      least = k.least;
      most = k.most;
      at = omega arith;
      sum = xor_lt 8 p.sum b k.sum x;
      kind = pick_ok IsByte (eqb p.at 0) _ _ x k.kind;
      command = pick_ok IsByte (eqb p.at 1) _ _ x k.command;
    })
    (λ _. tt)

tick_in_lem : (h : Hearing) → HearingIn h → HeardIn (hear_tick h)
tick_in_lem Hunting k = tt
tick_in_lem (Head c) k = pick_by HeardIn (ltb (c + 1) 1501) _ _ (λ e. let v : c + 1 < 1501 = ltb-true _ _ e in omega arith) (λ _. tt)
tick_in_lem (Body p) k =
    pick_by HeardIn (ltb (p.clock + 1) 1501) _ _
    (λ e.
    let v : p.clock + 1 < 1501 = ltb-true _ _ e in
    record { clock = omega arith; least = k.least; most = k.most; at = k.at; sum = k.sum; kind = k.kind; command = k.command })
    (λ _. tt)

hearing_keeps : (R : Rules) → Keeps R IsByte (λ (l : Link). HearingIn l.core.hearing)
unfolding byte_out tick_out open_out
hearing_keeps R =
    record {
      byte = λ l b x k. byte_in_lem b l.core.hearing x k;
      tick = λ l k. tick_in_lem l.core.hearing k;
      begin = λ l a kind command ps n k. k;
      fresh = λ c. tt;
    }

-- ---- the run of bad sums
end_few : (e : End) (n : ℕ) → n ≤ 2 → (sums_end e n).bad ≤ 2
end_few end.BadLength n k = k
end_few end.BadSum n k = pick_by (λ (m : ℕ). m ≤ 2) (ltb n 2) _ _ (λ e. let v : n < 2 = ltb-true _ _ e in omega arith) (λ _. omega arith)
end_few end.Reserved n k = omega arith
end_few (end.Request size) n k = omega arith
end_few (end.Response size command) n k = omega arith

sums_few : (e : Event) (n : ℕ) → n ≤ 2 → (sums_on e n).bad ≤ 2
sums_few Inside n k = k
sums_few (Kept at) n k = k
sums_few Skipped n k = k
sums_few (Alone s) n k = k
sums_few (Ended e) n k = end_few e n k
sums_few TickHunting n k = k
sums_few TickInside n k = k
sums_few Aborted n k = k

bad_keeps : (R : Rules) → Keeps R Any (λ (l : Link). l.core.bad ≤ 2)
unfolding byte_out tick_out open_out
bad_keeps R =
    record {
      byte = λ l b x k. sums_few (hear_byte b l.core.hearing).event l.core.bad k;
      tick = λ l k. sums_few (hear_tick l.core.hearing).event l.core.bad k;
      begin = λ l a kind command ps n k. k;
      fresh = λ c. omega arith;
    }

-- ---- the arrays and the held frame
record Sizes (l : Link) : Type 0 where
  size : l.core.size ≤ 257
  body : length l.body ≡ 254
  frame : length l.frame ≡ 257

sizes_keeps : (R : Rules) → Keeps R Any Sizes
unfolding byte_out tick_out open_out no_body no_frame
sizes_keeps R =
    record {
      byte = λ l b x k. record { size = k.size; body = keep_length (hear_byte b l.core.hearing).event b l.body ∙ k.body; frame = k.frame };
      tick = λ l k. record { size = k.size; body = k.body; frame = k.frame };
      begin = λ l a kind command ps n k.
          let w = frame_bounds kind command ps n in
          record {
            size = w.1;
            body = k.body;
            frame = over_length (frame_of kind command ps) l.frame (omega (arith, w.1, k.frame)) ∙ k.frame;
          };
      fresh = λ c. record { size = omega arith; body = refl; frame = refl };
    }

-- after any history whatever
pub body_254 : (R : Rules) (h : List Call) → length (after R h).body ≡ MAX_BODY
body_254 R h = (after_keeps R Any Sizes (sizes_keeps R) h (any_calls h)).body

-- ---- the job: idle, or open and good
data Fine (R : Rules) (size : ℕ) (h : Hearing) (j : Job) : Type 0 where
  idle : j ≡ Idle → Fine R size h j
  active : (a : Option ℕ) → Good R size h a j → Fine R size h j

record FineOn (R : Rules) (l : Link) : Type 0 where
  time : InTime l.core.hearing
  job : Fine R l.core.size l.core.hearing l.core.job

outcome_fine : (R : Rules) (g : ℕ → ℕ) (f : List ℕ) (a : Option ℕ) (s : Says) (L n t : ℕ) (o : Out) → Outcome R g f a L n t s o
    → Fine R o.link.core.size o.link.core.hearing o.link.core.job
outcome_fine R g f a none L n t o c = active a c.sends.good
outcome_fine R g f a (says v) L n t o c = idle c.1
outcome_fine R g f a (both v w) L n t o c = absurd c

module _ (R : Rules) (g : ℕ → ℕ) (fit : Fits R g) where
  sends : (l : Link) (a : Option ℕ) → InTime l.core.hearing → Good R l.core.size l.core.hearing a l.core.job → Sends R (take l.core.size l.frame) a l
  sends l a i d = record { time = i; good = d; held = refl }

  byte_fine : (l : Link) (b : ℕ) → InTime l.core.hearing → (j : Fine R l.core.size l.core.hearing l.core.job)
      → Fine R (byte_out R l b).link.core.size (byte_out R l b).link.core.hearing (byte_out R l b).link.core.job
  byte_fine l b i (idle e) = idle (byte_rests R [] None l b e).idle
  byte_fine l b i (active a d) = outcome_fine R g _ a (verdict_of a (byte_out R l b)) _ _ 0 (byte_out R l b) (byte_gave R g fit _ a l b (sends l a i d))

  tick_fine : (l : Link) → InTime l.core.hearing → (j : Fine R l.core.size l.core.hearing l.core.job)
      → Fine R (tick_out R l).link.core.size (tick_out R l).link.core.hearing (tick_out R l).link.core.job
  tick_fine l i (idle e) = idle (tick_rests R [] None l e).idle
  tick_fine l i (active a d) = outcome_fine R g _ a (verdict_of a (tick_out R l)) _ _ 1 (tick_out R l) (tick_gave R g fit _ a l (sends l a i d))

  byte_time : (l : Link) (b : ℕ) → InTime l.core.hearing → InTime (byte_out R l b).link.core.hearing
  unfolding byte_out
  byte_time l b i = (byte_steps b l.core.hearing i).ok

  tick_time : (l : Link) → InTime l.core.hearing → InTime (tick_out R l).link.core.hearing
  unfolding tick_out
  tick_time l i = (tick_steps l.core.hearing i).ok

  open_time : (l : Link) (a : Option ℕ) (f : List ℕ) → InTime l.core.hearing → InTime (open_out l a f).link.core.hearing
  unfolding open_out
  open_time l a f i = i

  fine_keeps : Keeps R Any (FineOn R)
  fine_keeps =
      record {
        byte = λ l b x k. record { time = byte_time l b k.time; job = byte_fine l b k.time k.job };
        tick = λ l k. record { time = tick_time l k.time; job = tick_fine l k.time k.job };
        begin = λ l a kind command ps n k.
            let f = frame_of kind command ps in
            record { time = open_time l a f k.time; job = outcome_fine R g _ a (verdict_of a (open_out l a f)) _ 0 0 (open_out l a f) (open_gave R g fit l a f k.time) };
        fresh = λ c. record { time = tt; job = idle refl };
      }

-- ---- a back-off is none longer than the rules'
abbrev Short : ℕ → Job → Type 0
Short most Idle = Unit {0}
Short most (Due a n) = Unit {0}
Short most (Waiting a n e) = Unit {0}
Short most (BackingOff a n b) = b ≤ most
Short most (Awaiting c n e) = Unit {0}

module _ (R : Rules) (most : ℕ) (longest : (cause : Cause) (n : ℕ) → R.back cause n ≤ most) where
  abbrev S : Act → Type 0
  S x = Short most x.job

  start_short : (hunting : Bool) (a : Option ℕ) (n : ℕ) → S (start hunting a n)
  start_short true a n = tt
  start_short false a n = tt

  lose_short : (cause : Cause) (hunting : Bool) (a : Option ℕ) (n : ℕ) → S (lose R cause hunting a n)
  lose_short cause hunting a n =
      pick_ok S (ltb n 4) _ _ (pick_ok S (eqb (R.back cause n) 0) _ _ (start_short hunting a n) (longest cause n)) tt

  single_short : (s : Single) (j : Job) → Short most j → S (on_single R s j)
  single_short s Idle k = tt
  single_short s (Due a n) k = tt
  single_short Ack (Waiting None n e) k = tt
  single_short Ack (Waiting (Some c) n e) k = tt
  single_short Nak (Waiting a n e) k = lose_short Told true a n
  single_short Can (Waiting a n e) k = lose_short Told true a n
  single_short s (BackingOff a n b) k = k
  single_short s (Awaiting c n e) k = tt

  release_short : (j : Job) → Short most j → S (release j)
  release_short Idle k = tt
  release_short (Due a n) k = tt
  release_short (Waiting a n e) k = tt
  release_short (BackingOff a n b) k = k
  release_short (Awaiting c n e) k = tt

  end_short : (e : End) (j : Job) → Short most j → S (on_end e j)
  end_short end.BadLength j k = release_short j k
  end_short end.BadSum j k = release_short j k
  end_short end.Reserved j k = release_short j k
  end_short (end.Request size) j k = release_short j k
  end_short (end.Response size command) j k = pick_ok S (awaits command j) _ _ tt (release_short j k)

  tick_short : (size : ℕ) (hunting : Bool) (j : Job) → Short most j → S (on_tick R size hunting j)
  tick_short size hunting Idle k = tt
  tick_short size hunting (Due a n) k = tt
  tick_short size hunting (Waiting a n e) k = pick_ok S (ltb (e + 1) (R.wait size)) _ _ tt (lose_short Time hunting a n)
  tick_short size hunting (BackingOff a n b) k = pick_ok S (ltb 1 b) _ _ (omega arith) (start_short hunting a n)
  tick_short size hunting (Awaiting c n e) k = pick_ok S (ltb (e + 1) 5000) _ _ tt tt

  abort_short : (size : ℕ) (j : Job) → Short most j → S (on_abort R size j)
  abort_short size Idle k = tt
  abort_short size (Due a n) k = tt
  abort_short size (Waiting a n e) k = tick_short size true (Waiting a n e) tt
  abort_short size (BackingOff a n b) k = tick_short size true (BackingOff a n b) k
  abort_short size (Awaiting c n e) k = tick_short size true (Awaiting c n e) tt

  act_short : (size : ℕ) (e : Event) (j : Job) → Short most j → S (on_event R size e j)
  act_short size Inside j k = k
  act_short size (Kept at) j k = k
  act_short size Skipped j k = k
  act_short size (Alone s) j k = single_short s j k
  act_short size (Ended e) j k = end_short e j k
  act_short size TickHunting j k = tick_short size true j k
  act_short size TickInside j k = tick_short size false j k
  act_short size Aborted j k = abort_short size j k

  short_keeps : Keeps R Any (λ (l : Link). Short most l.core.job)
  unfolding byte_out tick_out open_out
  short_keeps =
      record {
        byte = λ l b x k. act_short l.core.size (hear_byte b l.core.hearing).event l.core.job k;
        tick = λ l k. act_short l.core.size (hear_tick l.core.hearing).event l.core.job k;
        begin = λ l a kind command ps n k. start_short (is_hunting l.core.hearing) a 0;
        fresh = λ c. tt;
      }

inside : (h : Hearing) → StillInside h → IsInside h
inside Hunting w = w
inside (Head c) w = tt
inside (Body p) w = tt

good_in : {R : Rules} {size : ℕ} {h : Hearing} {a : Option ℕ} {j : Job} (most : ℕ) → Good R size h a j → Short most j → JobIn R most size h j
good_in {h = h} most (due k w) s = (k, inside h w)
good_in most (waits p k w) s = (p, k, w)
good_in most (backs p k w) s = (p, k, w, s)
good_in most (awaiting p k w) s = (p, k, w)

job_in : {R : Rules} {size : ℕ} {h : Hearing} (most : ℕ) (j : Job) → Fine R size h j → Short most j → JobIn R most size h j
job_in {R} {size} {h} most j (idle e) s = subst (λ (x : Job). JobIn R most size h x) (sym e) tt
job_in most j (active a d) s = good_in most d s

-- for any rules that fit, and whose back-offs are at most so long
pub in_range_by : (R : Rules) (g : ℕ → ℕ) → Fits R g → (most : ℕ) → ((cause : Cause) (n : ℕ) → R.back cause n ≤ most)
    → (h : List Call) → ComeAll IsByte h → InRange R most (after R h)
in_range_by R g fit most longest h x =
    let z = after_keeps R Any Sizes (sizes_keeps R) h (any_calls h) in
    let j = after_keeps R Any (FineOn R) (fine_keeps R g fit) h (any_calls h) in
    record {
      hearing = after_keeps R IsByte (λ (l : Link). HearingIn l.core.hearing) (hearing_keeps R) h x;
      job = job_in most (after R h).core.job j.job (after_keeps R Any (λ (l : Link). Short most l.core.job) (short_keeps R most longest) h (any_calls h));
      bad = after_keeps R Any (λ (l : Link). l.core.bad ≤ 2) (bad_keeps R) h (any_calls h);
      size = z.size;
      body = z.body;
      frame = z.frame;
    }

-- On links reached from opening no guard is ever met: the rules that hold, whose longest back-off is 2,100 ticks.
pub in_range : (c : Choice) (h : List Call) → ComeAll IsByte h → InRange (rules_of c) 2100 (after (rules_of c) h)
in_range c h x = in_range_by (rules_of c) (spare c.mode) (rules_fit c) 2100 (back_at_most_2100 c.mode) h x
