-- What is said and put out until another send or session is accepted: its verdict once and no more, no copy past it, and abandoned only where a restart came before it.
-- Assumes nothing.
use Rattle.std.specs.Prelude.{Err, None, Ok, Option, Some}
use Prim.Native.Nat.{ℕ, ◌+◌, ◌≤◌}
use mathlib.Core.Path.{◌≡◌, refl, ap, ap₂, sym, ◌∙◌, subst}
use mathlib.Core.Bool.{Bool, true, false}
use mathlib.Core.List.{List, [], ◌∷◌, ◌++◌}
use native.Mathlib.Omega.{arith}
use lib.Dec.{eqb, ltb}
use lib.ListN.{length, take, replicate}
use Rattle.refusals.specs.Pick.{pick}
use Rattle.rules.specs.Rules.{Rules}
use Rattle.rules.specs.declared.Cause.{Cause}
use Rattle.rules.specs.declared.Cause.TheVariants.{Told, Time}
use Rattle.job.specs.Job.{start, fail, lose}
use Rattle.job.specs.Ticks.{on_tick, on_abort}
use Rattle.hearing.specs.Hearing.{hear_byte, hear_tick}
use Rattle.sending.specs.Events.{acknowledge, on_single, release, awaits, on_end, on_event, copies_of, abandoned_send, abandoned_ask, on_restart, awaited_by}
use Rattle.reception.specs.Said.{reply_bytes, said_on}
use Rattle.reception.specs.declared.said.Awaited.{Awaited}
use Rattle.rules.specs.declared.Role.{Role}
use Rattle.link.specs.Out.{Out, Taken, byte_out, tick_out, restart_out, news, run_from, run_out, quiet}
use Rattle.step.specs.Checks.{room_checks, Checked, passes}
use Rattle.step.proofs.Passed.{room_passed}
use Rattle.hearing.specs.declared.hearing.Hearing.{Hearing}
use Rattle.hearing.specs.declared.hearing.Single.{Single}
use Rattle.hearing.specs.declared.hearing.Single.TheVariants.{Ack, Nak, Can}
use Rattle.hearing.specs.declared.hearing.End.{End}
use Rattle.hearing.specs.declared.hearing.End.TheVariants as end
use Rattle.hearing.specs.declared.hearing.Event.{Event}
use Rattle.hearing.specs.declared.hearing.Event.TheVariants.{Inside, Kept, Skipped, Alone, Ended, TickHunting, TickInside, Aborted}
use Rattle.job.specs.declared.job.Act.{Act}
use Rattle.job.specs.declared.job.Job.{Job}
use Rattle.job.specs.declared.job.Job.TheVariants.{Idle, Due, Waiting, BackingOff, Awaiting}
use Rattle.report.specs.declared.Sending.TheVariants as sending
use Rattle.report.specs.declared.Session.TheVariants as session
use Rattle.link.specs.declared.link.Link.{Link}
use Rattle.history.specs.Perform.{What, byte, bytes, tick, send, session as session_call, restart, Call, checks_of, out_of, done_by}
use Rattle.history.specs.Cut.{nak}
use Rattle.history.specs.Bound.{Fits}
use Rattle.history.specs.Watch.{copies_in, Says, none, says, both, send_verdict, session_verdict, verdict_in, verdict_of, Watch, going, restarted_first, settled, add, onward, watch_taken, watch_done, watch, outs_taken, outs_done, outs, verdict_count, verdicts_of, abandons_in, abandons_of, lines_of, verdicts_by, abandons_by}
use Rattle.history.specs.Demand3.{Spent}
use Rattle.history.proofs.Mix.{Mix, end as finish, one, mix_append, IsFrame, mix_frames}
use Rattle.refusals.proofs.Picks.{pick_ok}
use Rattle.history.proofs.Job.{Good, due, waits, backs, awaiting, good_few, no_verdict}
use Rattle.history.proofs.Links.{Sends, Outcome, said_mix, byte_gave, tick_gave, run_gave}
use Rattle.history.proofs.Histories.{send_free, session_free}
use Rattle.history.proofs.Watching.{none_free}

-- ---- no byte and no tick says abandoned
abbrev Unsaid : Act → Type 0
Unsaid x = abandons_in x.sending x.session ≡ 0

start_unsaid : (hunting : Bool) (a : Option ℕ) (n : ℕ) → Unsaid (start hunting a n)
start_unsaid true a n = refl
start_unsaid false a n = refl

fail_unsaid : (a : Option ℕ) (n : ℕ) → Unsaid (fail a n)
fail_unsaid None n = refl
fail_unsaid (Some c) n = refl

lose_unsaid : (R : Rules) (cause : Cause) (hunting : Bool) (a : Option ℕ) (n : ℕ) → Unsaid (lose R cause hunting a n)
lose_unsaid R cause hunting a n =
    pick_ok Unsaid (ltb n 4) _ _ (pick_ok Unsaid (eqb (R.back cause n) 0) _ _ (start_unsaid hunting a n) refl) (fail_unsaid a n)

ack_unsaid : (a : Option ℕ) (n : ℕ) → Unsaid (acknowledge a n)
ack_unsaid None n = refl
ack_unsaid (Some c) n = refl

single_unsaid : (R : Rules) (s : Single) (j : Job) → Unsaid (on_single R s j)
single_unsaid R s Idle = refl
single_unsaid R s (Due a n) = refl
single_unsaid R Ack (Waiting a n e) = ack_unsaid a n
single_unsaid R Nak (Waiting a n e) = lose_unsaid R Told true a n
single_unsaid R Can (Waiting a n e) = lose_unsaid R Told true a n
single_unsaid R s (BackingOff a n b) = refl
single_unsaid R s (Awaiting c n e) = refl

release_unsaid : (j : Job) → Unsaid (release j)
release_unsaid Idle = refl
release_unsaid (Due a n) = refl
release_unsaid (Waiting a n e) = refl
release_unsaid (BackingOff a n b) = refl
release_unsaid (Awaiting c n e) = refl

end_unsaid : (e : End) (j : Job) → Unsaid (on_end e j)
end_unsaid end.BadLength j = release_unsaid j
end_unsaid end.BadSum j = release_unsaid j
end_unsaid end.Reserved j = release_unsaid j
end_unsaid (end.Request size) j = release_unsaid j
end_unsaid (end.Response size command) j = pick_ok Unsaid (awaits command j) _ _ refl (release_unsaid j)

time_unsaid : (R : Rules) (size : ℕ) (hunting : Bool) (j : Job) → Unsaid (on_tick R size hunting j)
time_unsaid R size hunting Idle = refl
time_unsaid R size hunting (Due a n) = refl
time_unsaid R size hunting (Waiting a n e) = pick_ok Unsaid (ltb (e + 1) (R.wait size)) _ _ refl (lose_unsaid R Time hunting a n)
time_unsaid R size hunting (BackingOff a n b) = pick_ok Unsaid (ltb 1 b) _ _ refl (start_unsaid hunting a n)
time_unsaid R size hunting (Awaiting c n e) = pick_ok Unsaid (ltb (e + 1) 5000) _ _ refl refl

abort_unsaid : (R : Rules) (size : ℕ) (j : Job) → Unsaid (on_abort R size j)
abort_unsaid R size Idle = refl
abort_unsaid R size (Due a n) = refl
abort_unsaid R size (Waiting a n e) = time_unsaid R size true (Waiting a n e)
abort_unsaid R size (BackingOff a n b) = time_unsaid R size true (BackingOff a n b)
abort_unsaid R size (Awaiting c n e) = time_unsaid R size true (Awaiting c n e)

act_unsaid : (R : Rules) (size : ℕ) (e : Event) (j : Job) → Unsaid (on_event R size e j)
act_unsaid R size Inside j = refl
act_unsaid R size (Kept at) j = refl
act_unsaid R size Skipped j = refl
act_unsaid R size (Alone s) j = single_unsaid R s j
act_unsaid R size (Ended e) j = end_unsaid e j
act_unsaid R size TickHunting j = time_unsaid R size true j
act_unsaid R size TickInside j = time_unsaid R size false j
act_unsaid R size Aborted j = abort_unsaid R size j

abbrev pub NotAbandoned : Out → Type 0
NotAbandoned o = abandons_in o.sending o.session ≡ 0

pub byte_unsaid : (R : Rules) (l : Link) (b : ℕ) → NotAbandoned (byte_out R l b)
unfolding byte_out
byte_unsaid R l b = act_unsaid R l.core.size (hear_byte b l.core.hearing).event l.core.job

pub tick_unsaid : (R : Rules) (l : Link) → NotAbandoned (tick_out R l)
unfolding tick_out
tick_unsaid R l = act_unsaid R l.core.size (hear_tick l.core.hearing).event l.core.job

from_unsaid : (R : Rules) (bs : List ℕ) (k : ℕ) (o : Out) → NotAbandoned o → NotAbandoned (run_from R o k bs).out
unfolding run_from
from_unsaid R [] k o q = q
from_unsaid R (b ∷ bs) k o q =
    let r = byte_unsaid R o.link b in
    pick_ok (λ (z : Taken). NotAbandoned z.out) (news (byte_out R o.link b)) _ _ r (from_unsaid R bs (k + 1) (byte_out R o.link b) r)

pub run_unsaid : (R : Rules) (l : Link) (bs : List ℕ) → NotAbandoned (run_out R l bs).out
run_unsaid R l bs = from_unsaid R bs 0 (quiet l) refl

-- a restart does, of an open send or session, in one part; its verdict is none
record Dropped (a : Option ℕ) : Type 0 where
  send : send_verdict (abandoned_send a) ≡ none
  ask : session_verdict (abandoned_ask a) ≡ none
  said : abandons_in (abandoned_send a) (abandoned_ask a) ≡ 1

dropped : (a : Option ℕ) → Dropped a
dropped None = record { send = refl; ask = refl; said = refl }
dropped (Some c) = record { send = refl; ask = refl; said = refl }

drop_none : (a b : Option ℕ) → verdict_in a (abandoned_send b) (abandoned_ask b) ≡ none
drop_none a b = no_verdict a _ _ (dropped b).send (dropped b).ask

restart_none : (a : Option ℕ) (l : Link) → verdict_of a (restart_out l) ≡ none
unfolding restart_out
restart_none a l = by l.core.job
  where
    by : (j : Job) → verdict_in a (on_restart j).sending (on_restart j).session ≡ none
    by Idle = no_verdict a sending.Nothing session.Nothing refl refl
    by (Due b n) = drop_none a b
    by (Waiting b n e) = drop_none a b
    by (BackingOff b n e) = drop_none a b
    by (Awaiting c n e) = drop_none a (Some c)

restart_says : {R : Rules} {f : List ℕ} {a : Option ℕ} {l : Link} → Sends R f a l → abandons_in (restart_out l).sending (restart_out l).session ≡ 1
unfolding restart_out
restart_says d = by d.good
  where
    by : {R : Rules} {size : ℕ} {h : Hearing} {a : Option ℕ} {j : Job} → Good R size h a j → abandons_in (on_restart j).sending (on_restart j).session ≡ 1
    by (due {a} k w) = (dropped a).said
    by (waits {a} p k w) = (dropped a).said
    by (backs {a} p k w) = (dropped a).said
    by (awaiting {c} p k w) = (dropped (Some c)).said

restart_idle : (l : Link) → (restart_out l).link.core.job ≡ Idle
unfolding restart_out
restart_idle l = refl

restart_line : (role : Role) (f : List ℕ) (l : Link) → Mix role f 0 (restart_out l).line
unfolding restart_out
restart_line role f l = one 0x15 nak finish

-- ---- nothing is open: a call leaves it so, says no verdict and not abandoned, and puts out no copy
record Still (x : Act) : Type 0 where
  send : send_verdict x.sending ≡ none
  ask : session_verdict x.session ≡ none
  idle : x.job ≡ Idle
  copy : x.copy ≡ false

act_rests : (R : Rules) (size : ℕ) (e : Event) → Still (on_event R size e Idle)
act_rests R size Inside = record { send = refl; ask = refl; idle = refl; copy = refl }
act_rests R size (Kept at) = record { send = refl; ask = refl; idle = refl; copy = refl }
act_rests R size Skipped = record { send = refl; ask = refl; idle = refl; copy = refl }
act_rests R size (Alone s) = record { send = refl; ask = refl; idle = refl; copy = refl }
act_rests R size (Ended end.BadLength) = record { send = refl; ask = refl; idle = refl; copy = refl }
act_rests R size (Ended end.BadSum) = record { send = refl; ask = refl; idle = refl; copy = refl }
act_rests R size (Ended end.Reserved) = record { send = refl; ask = refl; idle = refl; copy = refl }
act_rests R size (Ended (end.Request s)) = record { send = refl; ask = refl; idle = refl; copy = refl }
act_rests R size (Ended (end.Response s c)) = record { send = refl; ask = refl; idle = refl; copy = refl }
act_rests R size TickHunting = record { send = refl; ask = refl; idle = refl; copy = refl }
act_rests R size TickInside = record { send = refl; ask = refl; idle = refl; copy = refl }
act_rests R size Aborted = record { send = refl; ask = refl; idle = refl; copy = refl }

acts_rests : (R : Rules) (size : ℕ) (e : Event) (j : Job) → j ≡ Idle → Still (on_event R size e j)
acts_rests R size e j q = subst (λ (x : Job). Still (on_event R size e x)) (sym q) (act_rests R size e)

pub record Rests (role : Role) (f : List ℕ) (a : Option ℕ) (o : Out) : Type 0 where
  pub verdict : verdict_of a o ≡ none
  pub unsaid : NotAbandoned o
  pub line : Mix role f 0 o.line
  pub idle : o.link.core.job ≡ Idle

-- the calls of a link with nothing open, until a send or session is accepted
record Resting (role : Role) (f : List ℕ) (a : Option ℕ) (os : List Out) : Type 0 where
  line : Mix role f 0 (lines_of os)
  verdicts : verdicts_of a os ≡ 0
  abandons : abandons_of os ≡ 0

done_by_lem : (P : Watch → List Out → Type 0) (a : Option ℕ) (w : What) (l : Link) (c : Checked) (o : Out) (k : Link → Watch) (m : Link → List Out)
    → P (k l) (m l) → (c ≡ passes → P (watch_taken a w o (k o.link)) (outs_taken w o (m o.link))) → P (watch_done a w l (done_by c o) k) (outs_done w l (done_by c o) m)
done_by_lem P a w l (Ok _) o k m p q = q refl
done_by_lem P a w l (Err r) o k m p q = p

module _ (R : Rules) (f : List ℕ) (a : Option ℕ) where
  no_copy_lem : (e : Event) (w : Awaited) (x : Bool) (l : List ℕ) → x ≡ false → Mix R.choice.role f 0 (reply_bytes (said_on R.choice.role e w).reply ++ pick x l [])
  no_copy_lem e w x l q =
      subst (λ (y : Bool). Mix R.choice.role f 0 (reply_bytes (said_on R.choice.role e w).reply ++ pick y l [])) (sym q)
      (mix_append (said_mix R.choice.role f e w) finish)

  pub byte_rests : (l : Link) (b : ℕ) → l.core.job ≡ Idle → Rests R.choice.role f a (byte_out R l b)
  unfolding byte_out
  byte_rests l b q =
      let e = (hear_byte b l.core.hearing).event in
      let k = acts_rests R l.core.size e l.core.job q in
      record {
        verdict = no_verdict a _ _ k.send k.ask;
        unsaid = byte_unsaid R l b;
        line = no_copy_lem e (awaited_by l.core.job) _ (take l.core.size l.frame) k.copy;
        idle = k.idle;
      }

  pub tick_rests : (l : Link) → l.core.job ≡ Idle → Rests R.choice.role f a (tick_out R l)
  unfolding tick_out
  tick_rests l q =
      let e = (hear_tick l.core.hearing).event in
      let k = acts_rests R l.core.size e l.core.job q in
      record {
        verdict = no_verdict a _ _ k.send k.ask;
        unsaid = tick_unsaid R l;
        line = no_copy_lem e (awaited_by l.core.job) _ (take l.core.size l.frame) k.copy;
        idle = k.idle;
      }

  from_rests : (bs : List ℕ) (k : ℕ) (o : Out) → Rests R.choice.role f a o → Rests R.choice.role f a (run_from R o k bs).out
  unfolding run_from
  from_rests [] k o q = q
  from_rests (b ∷ bs) k o q =
      let r = byte_rests o.link b q.idle in
      pick_ok (λ (z : Taken). Rests R.choice.role f a z.out) (news (byte_out R o.link b)) _ _ r (from_rests bs (k + 1) (byte_out R o.link b) r)

  run_rests : (l : Link) (bs : List ℕ) → l.core.job ≡ Idle → Rests R.choice.role f a (run_out R l bs).out
  run_rests l bs q =
      from_rests bs 0 (quiet l) (record { verdict = no_verdict a sending.Nothing session.Nothing refl refl; unsaid = refl; line = finish; idle = q })

  restart_rests : (l : Link) → l.core.job ≡ Idle → Rests R.choice.role f a (restart_out l)
  unfolding restart_out
  restart_rests l q =
      record {
        verdict = restart_none a l;
        unsaid = ap (λ (j : Job). abandons_in (on_restart j).sending (on_restart j).session) q;
        line = restart_line R.choice.role f l;
        idle = restart_idle l;
      }

  rests_on : (o : Out) (os : List Out) → Rests R.choice.role f a o → Resting R.choice.role f a os → Resting R.choice.role f a (o ∷ os)
  rests_on o os r s =
      record {
        line = mix_append r.line s.line;
        verdicts = ap₂ (λ (x : Says) (n : ℕ). verdict_count x + n) r.verdict s.verdicts;
        abandons = ap₂ (λ (m n : ℕ). m + n) r.unsaid s.abandons;
      }

  none_rests : Resting R.choice.role f a []
  none_rests = record { line = finish; verdicts = refl; abandons = refl }

  rests_taken : (w : What) (l : Link) (m : Link → List Out) → l.core.job ≡ Idle → ((z : Link) → z.core.job ≡ Idle → Resting R.choice.role f a (m z))
      → Resting R.choice.role f a (outs_taken w (out_of R l w) (m (out_of R l w).link))
  rests_taken (byte b) l m q i = let r = byte_rests l b q in rests_on _ _ r (i _ r.idle)
  rests_taken (bytes bs) l m q i = let r = run_rests l bs q in rests_on _ _ r (i _ r.idle)
  rests_taken tick l m q i = let r = tick_rests l q in rests_on _ _ r (i _ r.idle)
  rests_taken (send kind command ps) l m q i = none_rests
  rests_taken (session_call command ps) l m q i = none_rests
  rests_taken restart l m q i = let r = restart_rests l q in rests_on _ _ r (i _ r.idle)

  idle_rests : (h : List Call) (l : Link) → l.core.job ≡ Idle → Resting R.choice.role f a (outs R l h)
  idle_rests [] l q = none_rests
  idle_rests (c ∷ h) l q =
      done_by_lem (λ _ os. Resting R.choice.role f a os) a c.what l (room_checks c.line c.up (checks_of l c.what)) (out_of R l c.what) (λ z. watch R a z h) (λ z. outs R z h)
      (idle_rests h l q)
      (λ _. rests_taken c.what l (λ z. outs R z h) q (idle_rests h))

-- ---- an open send or session, beside its watch: n copies had gone out before
abbrev SpentBy : ℕ → Watch → Type 0
SpentBy m (going t l) = Unit {0}
SpentBy m restarted_first = Unit {0}
SpentBy m (settled v t l) = copies_in v ≡ m

pub record Sofar (role : Role) (f : List ℕ) (a : Option ℕ) (n : ℕ) (w : Watch) (os : List Out) : Type 0 where
  pub more : ℕ
  pub mix : Mix role f more (lines_of os)
  pub few : n + more ≤ 4
  pub spent : SpentBy (n + more) w
  pub said : verdicts_of a os ≡ verdicts_by w
  pub abandoned : abandons_of os ≡ abandons_by w

add_spent : (t m n : ℕ) (l : List ℕ) (w : Watch) → m ≡ n → SpentBy m w → SpentBy n (add t l w)
add_spent t m n l (going u k) e s = tt
add_spent t m n l restarted_first e s = tt
add_spent t m n l (settled v u k) e s = s ∙ e

add_verdicts : (t : ℕ) (l : List ℕ) (w : Watch) → verdicts_by w ≡ verdicts_by (add t l w)
add_verdicts t l (going u k) = refl
add_verdicts t l restarted_first = refl
add_verdicts t l (settled v u k) = refl

add_abandons : (t : ℕ) (l : List ℕ) (w : Watch) → abandons_by w ≡ abandons_by (add t l w)
add_abandons t l (going u k) = refl
add_abandons t l restarted_first = refl
add_abandons t l (settled v u k) = refl

module _ (R : Rules) (g : ℕ → ℕ) (fit : Fits R g) (f : List ℕ) (a : Option ℕ) where
  onward_sofar : (s : Says) (L n t : ℕ) (o : Out) (w : Watch) (os : List Out) → verdict_of a o ≡ s → NotAbandoned o → Outcome R g f a L n t s o
      → (Sends R f a o.link → Sofar R.choice.role f a (copies_of o.link.core.job) w os) → (o.link.core.job ≡ Idle → Resting R.choice.role f a os)
      → Sofar R.choice.role f a n (onward s t o.line w) (o ∷ os)
  onward_sofar none L n t o w os v b c p q =
      let r = p c.sends in
      record {
        more = c.more + r.more;
        mix = mix_append c.mix r.mix;
        few = omega (arith, c.count, r.few);
        spent = add_spent t _ _ o.line w (omega (arith, c.count)) r.spent;
        said = ap (λ (x : Says). verdict_count x + verdicts_of a os) v ∙ (let e : 0 + verdicts_of a os ≡ verdicts_of a os = omega arith in e) ∙ r.said ∙ add_verdicts t o.line w;
        abandoned = ap (λ (m : ℕ). m + abandons_of os) b ∙ (let e : 0 + abandons_of os ≡ abandons_of os = omega arith in e) ∙ r.abandoned ∙ add_abandons t o.line w;
      }
  onward_sofar (says v) L n t o w os e b c p q =
      let r = q c.1 in
      record {
        more = c.0.more + 0;
        mix = mix_append c.0.mix r.line;
        few = omega (arith, c.0.count, c.0.few);
        spent = omega (arith, c.0.count);
        said = ap₂ (λ (x : Says) (m : ℕ). verdict_count x + m) e r.verdicts;
        abandoned = ap₂ (λ (m k : ℕ). m + k) b r.abandons;
      }
  onward_sofar (both v u) L n t o w os e b c p q = absurd c

  restarted : (l : Link) (os : List Out) → Sends R f a l → Resting R.choice.role f a os → Sofar R.choice.role f a (copies_of l.core.job) restarted_first (restart_out l ∷ os)
  restarted l os d r =
      record {
        more = 0;
        mix = mix_append (restart_line R.choice.role f l) r.line;
        few = omega (arith, good_few d.good);
        spent = tt;
        said = ap₂ (λ (y : Says) (n : ℕ). verdict_count y + n) (restart_none a l) r.verdicts;
        abandoned = ap₂ (λ (y n : ℕ). y + n) (restart_says d) r.abandons;
      }

  taken_sofar : (w : What) (l : Link) (k : Link → Watch) (m : Link → List Out) → Sends R f a l → checks_of l w ≡ passes
      → ((z : Link) → Sends R f a z → Sofar R.choice.role f a (copies_of z.core.job) (k z) (m z)) → ((z : Link) → z.core.job ≡ Idle → Resting R.choice.role f a (m z))
      → Sofar R.choice.role f a (copies_of l.core.job) (watch_taken a w (out_of R l w) (k (out_of R l w).link)) (outs_taken w (out_of R l w) (m (out_of R l w).link))
  taken_sofar (byte b) l k m d e i j =
      onward_sofar (verdict_of a (out_of R l (byte b))) _ _ 0 _ _ _ refl (byte_unsaid R l b) (byte_gave R g fit f a l b d) (i _) (j _)
  taken_sofar (bytes bs) l k m d e i j =
      onward_sofar (verdict_of a (out_of R l (bytes bs))) _ _ 0 _ _ _ refl (run_unsaid R l bs) (run_gave R g fit f a l bs d) (i _) (j _)
  taken_sofar tick l k m d e i j = onward_sofar (verdict_of a (out_of R l tick)) _ _ 1 _ _ _ refl (tick_unsaid R l) (tick_gave R g fit f a l d) (i _) (j _)
  taken_sofar (send kind command ps) l k m d e i j = absurd (none_free d (send_free l kind (length ps) e))
  taken_sofar (session_call command ps) l k m d e i j = absurd (none_free d (session_free l (length ps) e))
  taken_sofar restart l k m d e i j = restarted l (m (restart_out l).link) d (j _ (restart_idle l))

  open_sofar : (h : List Call) (l : Link) → Sends R f a l → Sofar R.choice.role f a (copies_of l.core.job) (watch R a l h) (outs R l h)
  open_sofar [] l d = record { more = 0; mix = finish; few = omega (arith, good_few d.good); spent = tt; said = refl; abandoned = refl }
  open_sofar (c ∷ h) l d =
      done_by_lem (Sofar R.choice.role f a (copies_of l.core.job)) a c.what l (room_checks c.line c.up (checks_of l c.what)) (out_of R l c.what) (λ z. watch R a z h) (λ z. outs R z h)
      (open_sofar h l d)
      (λ e. taken_sofar c.what l (λ z. watch R a z h) (λ z. outs R z h) d (room_passed c.line c.up (checks_of l c.what) e).2 (open_sofar h) (idle_rests R f a h))

  -- from the accepting call, which gave o
  pub sofar_from : (h : List Call) (L n t : ℕ) (o : Out) → NotAbandoned o → Outcome R g f a L n t (verdict_of a o) o
      → Sofar R.choice.role f a n (onward (verdict_of a o) t o.line (watch R a o.link h)) (o ∷ outs R o.link h)
  sofar_from h L n t o b c = onward_sofar (verdict_of a o) L n t o _ _ refl b c (open_sofar h o.link) (idle_rests R f a h o.link)

pub one_at_most : (w : Watch) → verdicts_by w ≤ 1
one_at_most (going t l) = omega arith
one_at_most restarted_first = omega arith
one_at_most (settled v t l) = omega arith

pub spent_is : {role : Role} {f line : List ℕ} {m : ℕ} → IsFrame f → Mix role f m line → (w : Watch) → SpentBy (0 + m) w → Spent f line w
spent_is i x (going t l) e = tt
spent_is i x restarted_first e = tt
spent_is {f = f} {line = line} {m = m} i x (settled v t l) e = mix_frames i x ∙ ap (λ (n : ℕ). replicate n f) (let q : m ≡ copies_in v = omega arith in q)
