-- The job by itself: the ticks left before the verdict, at most, and the copies, on every event.
-- Assumes nothing.
use Rattle.std.specs.Prelude.{None, Option, Some}
use Prim.Native.Nat.{ℕ, zero, suc, ◌+◌, ◌-◌, ◌≤◌, ◌<◌}
use mathlib.Core.Path.{◌≡◌, refl, ap, ap₂, sym, ◌∙◌, subst}
use mathlib.Core.Bool.{Bool, true, false, false≢true}
use native.Mathlib.Omega.{arith}
use native.Mathlib.Nat.{not-suc-le-zero}
use native.Mathlib.Numerals.{add-one}
use lib.Dec.{eqb, ltb}
use borrow.Author.Tests.{ltb-true, ltb-false, eqb-false, lt-ltb}
use Rattle.refusals.specs.Pick.{pick}
use Rattle.rules.specs.Rules.{Rules}
use Rattle.rules.specs.declared.Cause.{Cause}
use Rattle.rules.specs.declared.Cause.TheVariants.{Told, Time}
use Rattle.job.specs.Job.{goes_on, still, next_copy, put_out, start, fail, back_off, lose}
use Rattle.job.specs.Ticks.{awaited, on_tick, on_abort}
use Rattle.sending.specs.Events.{acknowledge, on_single, release, awaits, copies_of, respond, on_end, on_event}
use Rattle.hearing.specs.declared.hearing.Hearing.{Hearing}
use Rattle.hearing.specs.declared.hearing.Single.{Single}
use Rattle.hearing.specs.declared.hearing.Single.TheVariants.{Ack, Nak, Can}
use Rattle.hearing.specs.declared.hearing.End.{End}
use Rattle.hearing.specs.declared.hearing.End.TheVariants as end
use Rattle.hearing.specs.declared.hearing.Event.{Event}
use Rattle.hearing.specs.declared.hearing.Event.TheVariants.{Inside, Kept, Skipped, Alone, Ended, TickHunting, TickInside, Aborted}
use Rattle.job.specs.declared.job.Act.{Act}
use Rattle.job.specs.declared.job.Job.{Job}
use Rattle.job.specs.declared.job.Job.TheVariants.{Idle, Due, Waiting, BackingOff, Awaiting}
use Rattle.report.specs.declared.Reset.TheVariants as reset
use Rattle.report.specs.declared.Sending.{Sending}
use Rattle.report.specs.declared.Sending.TheVariants as sending
use Rattle.report.specs.declared.Session.TheVariants as session
use Rattle.report.specs.declared.Session.{Session}
use Rattle.history.specs.Watch.{Verdict, copies_in, is_failure, is_own, Says, none, says, both, together, beside, send_verdict, session_verdict, verdict_in}
use Rattle.history.specs.Bound.{Fits, tail, extra}
use Rattle.history.proofs.Hearing.{room, StillInside, StillInsideIf, Stays, TickPasses, Aborts, Alones, Tells, ticks_at}
use Rattle.refusals.proofs.Picks.{pick_by}

tail_law : (W : ℕ) (g : ℕ → ℕ) (n : ℕ) → 0 < n → n < 4 → tail W g n ≡ g n + 1500 + W + tail W g (suc n)
tail_law W g zero a b = absurd (not-suc-le-zero a)
tail_law W g (suc zero) a b = refl
tail_law W g (suc (suc zero)) a b = refl
tail_law W g (suc (suc (suc zero))) a b = omega arith
tail_law W g (suc (suc (suc (suc n)))) a b = absurd (omega arith)

-- neither part says a verdict
beside_none : (e : Session) → beside e none ≡ none
beside_none session.Nothing = refl
beside_none session.Waiting = refl
beside_none (session.Response n) = refl
beside_none (session.NoResponse n) = refl
beside_none (session.NotSent n) = refl
beside_none session.Abandoned = refl

pub no_verdict : (a : Option ℕ) (s : Sending) (e : Session) → send_verdict s ≡ none → session_verdict e ≡ none → verdict_in a s e ≡ none
no_verdict None s e p q = ap₂ together p q
no_verdict (Some c) s e p q = ap₂ (λ (x y : Says). together x (beside e y)) q p ∙ beside_none e

-- an open send or session, with a held frame of so many bytes
pub data Good (R : Rules) (size : ℕ) (h : Hearing) : Option ℕ → Job → Type 0 where
  due : {a : Option ℕ} {n : ℕ} → n < 4 → StillInside h → Good R size h a (Due a n)
  waits : {a : Option ℕ} {n e : ℕ} → 0 < n → n ≤ 4 → e < R.wait size → Good R size h a (Waiting a n e)
  backs : {a : Option ℕ} {n b : ℕ} → 0 < n → n < 4 → 0 < b → Good R size h a (BackingOff a n b)
  awaiting : {c n e : ℕ} → 0 < n → n ≤ 4 → e < 5000 → Good R size h (Some c) (Awaiting c n e)

-- behind copy n + 1 handed over
abbrev pub ahead : ℕ → (ℕ → ℕ) → Option ℕ → ℕ → ℕ
ahead W g a n = W + tail W g (suc n) + extra a

-- the ticks left, at most, before the verdict
abbrev pub left : Rules → (ℕ → ℕ) → ℕ → Hearing → Job → ℕ
left R g size h Idle = 0
left R g size h (Due a n) = room h + ahead (R.wait size) g a n
left R g size h (Waiting a n e) = (R.wait size - e) + (tail (R.wait size) g n + extra a)
left R g size h (BackingOff a n b) = b + 1500 + ahead (R.wait size) g a n
left R g size h (Awaiting c n e) = 5000 - e

abbrev pub ones : Bool → ℕ
ones b = pick b 1 0

-- an act in t ticks with no verdict: L ticks were left and n copies had gone out before it
pub record Going (R : Rules) (g : ℕ → ℕ) (size : ℕ) (h : Hearing) (L n t : ℕ) (a : Option ℕ) (job : Job) (copy : Bool) : Type 0 where
  pub good : Good R size h a job
  pub less : left R g size h job + t ≤ L
  pub count : copies_of job ≡ n + ones copy

-- an act with a verdict
pub record Over (L n t : ℕ) (v : Verdict) (a : Option ℕ) (job : Job) (copy : Bool) : Type 0 where
  pub soon : t ≤ L
  pub own : is_own a v ≡ true
  pub count : copies_in v ≡ n + ones copy
  pub few : copies_in v ≤ 4
  pub four : is_failure v ≡ true → copies_in v ≡ 4
  pub idle : job ≡ Idle

abbrev pub Claim : Rules → (ℕ → ℕ) → ℕ → Hearing → ℕ → ℕ → ℕ → Says → Option ℕ → Job → Bool → Type 0
Claim R g size h L n t none a job copy = Going R g size h L n t a job copy
Claim R g size h L n t (says v) a job copy = Over L n t v a job copy
Claim R g size h L n t (both v w) a job copy = ⊥

pub good_few : {R : Rules} {size : ℕ} {h : Hearing} {a : Option ℕ} {job : Job} → Good R size h a job → copies_of job ≤ 4
good_few (due n w) = omega arith
good_few (waits p n w) = n
good_few (backs p n b) = omega arith
good_few (awaiting p n e) = n

module _ (R : Rules) (g : ℕ → ℕ) (fit : Fits R g) (size : ℕ) where
  abbrev pub C : Hearing → ℕ → ℕ → ℕ → Option ℕ → Act → Type 0
  C h L n t a x = Claim R g size h L n t (verdict_in a x.sending x.session) a x.job x.copy

  goes : (h : Hearing) (L n t : ℕ) (a : Option ℕ) (x : Act) → send_verdict x.sending ≡ none → session_verdict x.session ≡ none
      → Going R g size h L n t a x.job x.copy → C h L n t a x
  goes h L n t a x p q k = subst (λ (s : Says). Claim R g size h L n t s a x.job x.copy) (sym (no_verdict a x.sending x.session p q)) k

  -- the job goes on, and no copy goes out
  holds : (h : Hearing) (L n t : ℕ) (a : Option ℕ) (job : Job) (s : Sending) → send_verdict s ≡ none → Good R size h a job → left R g size h job + t ≤ L → copies_of job ≡ n
      → C h L n t a (goes_on job s)
  holds h L n t a job s v d k e = goes h L n t a (goes_on job s) v refl (record { good = d; less = k; count = omega arith })

  put_next : (n : ℕ) → n < 4 → suc n ≡ next_copy n
  put_next n k = sym (add-one n) ∙ sym (ap (λ (x : Bool). pick x (n + 1) 4) (lt-ltb n 4 k))

  put_ok : (h : Hearing) (L n t : ℕ) (a : Option ℕ) → n < 4 → ahead (R.wait size) g a n + t ≤ L → C h L n t a (put_out a n)
  put_ok h L n t a k b =
      subst
      (λ (m : ℕ). C h L n t a (record { job = Waiting a m 0; sending = sending.Copy m; session = session.Nothing; reset = reset.Nothing; copy = true }))
      (put_next n k)
      (goes h L n t a (record { job = Waiting a (suc n) 0; sending = sending.Copy (suc n); session = session.Nothing; reset = reset.Nothing; copy = true }) refl refl
      (record { good = waits (omega arith) k (fit.wait size); less = omega arith; count = omega arith }))

  pub start_ok : (hunting : Bool) (h : Hearing) (L n t : ℕ) (a : Option ℕ) → StillInsideIf hunting h → n < 4 → room h + ahead (R.wait size) g a n + t ≤ L
      → C h L n t a (start hunting a n)
  start_ok true h L n t a i k b = put_ok h L n t a k (omega arith)
  start_ok false h L n t a i k b = holds h L n t a (Due a n) sending.Due refl (due k i) b refl

  fail_ok : (h : Hearing) (L n t : ℕ) (a : Option ℕ) → 4 ≤ n → n ≤ 4 → t ≤ L → C h L n t a (fail a n)
  fail_ok h L n t None k m b = record { soon = b; count = omega arith; few = m; four = λ _. omega arith; own = refl; idle = refl }
  fail_ok h L n t (Some c) k m b = record { soon = b; count = omega arith; few = m; four = λ _. omega arith; own = refl; idle = refl }

  off_ok : (b : ℕ) (hunting : Bool) (h : Hearing) (L n t : ℕ) (a : Option ℕ) → StillInsideIf hunting h → room h ≤ 1500 → 0 < n → n < 4
      → b + 1500 + ahead (R.wait size) g a n + t ≤ L → C h L n t a (back_off b hunting a n)
  off_ok b hunting h L n t a i r p q s =
      pick_by (C h L n t a) (eqb b 0) _ _ (λ e. start_ok hunting h L n t a i q (omega arith))
      (λ e.
      let z : b ≡ 0 → ⊥ = eqb-false b 0 e in
      holds h L n t a (BackingOff a n b) (sending.BackingOff (record { 0 = b })) refl (backs p q (omega arith)) s refl)

  lose_ok : (cause : Cause) (hunting : Bool) (h : Hearing) (L n t : ℕ) (a : Option ℕ) → StillInsideIf hunting h → room h ≤ 1500 → 0 < n → n ≤ 4
      → R.back cause n + t ≤ g n + 1 → suc (tail (R.wait size) g n + extra a) ≤ L → t ≤ 1 → C h L n t a (lose R cause hunting a n)
  lose_ok cause hunting h L n t a i r p q b s u =
      pick_by (C h L n t a) (ltb n 4) _ _
      (λ e.
      let v : n < 4 = ltb-true n 4 e in
      off_ok (R.back cause n) hunting h L n t a i r p v (omega (arith, tail_law (R.wait size) g n p v)))
      (λ e. fail_ok h L n t a (ltb-false n 4 e) q (omega arith))

  ack_ok : (h : Hearing) (L n : ℕ) (a : Option ℕ) → 0 < n → n ≤ 4 → suc (extra a) ≤ L → C h L n 0 a (acknowledge a n)
  ack_ok h L n None p q s = record { soon = omega arith; count = omega arith; few = q; four = λ e. absurd (false≢true e); own = refl; idle = refl }
  ack_ok h L n (Some c) p q s = record { good = awaiting {e = 0} p q (omega arith); less = omega arith; count = omega arith }

  -- 06, 15 or 18 comes while hunting, so no copy is due
  single_ok : (s : Single) (h h' : Hearing) {a : Option ℕ} {job : Job} → Alones h h' → Good R size h a job
      → C h' (left R g size h job) (copies_of job) 0 a (on_single R s job)
  single_ok s h h' q (due k w) = absurd (q.out w)
  single_ok Ack h h' q (waits {a} {n} {e} p k w) = ack_ok h' _ n a p k (omega arith)
  single_ok Nak h h' q (waits {a} {n} {e} p k w) =
      lose_ok Told true h' _ n 0 a tt q.small p k (omega (arith, fit.early n)) (omega arith) (omega arith)
  single_ok Can h h' q (waits {a} {n} {e} p k w) =
      lose_ok Told true h' _ n 0 a tt q.small p k (omega (arith, fit.early n)) (omega arith) (omega arith)
  single_ok s h h' q (backs {a} {n} {b} p k w) = holds h' _ n 0 a (BackingOff a n b) sending.Stray refl (backs p k w) (omega arith) refl
  single_ok s h h' q (awaiting {c} {n} {e} p k w) = holds h' _ n 0 (Some c) (Awaiting c n e) sending.Stray refl (awaiting p k w) (omega arith) refl

  release_ok : (h h' : Hearing) {a : Option ℕ} {job : Job} → Good R size h a job → C h' (left R g size h job) (copies_of job) 0 a (release job)
  release_ok h h' (due {a} {n} k w) = put_ok h' _ n 0 a k (omega arith)
  release_ok h h' (waits {a} {n} {e} p k w) = holds h' _ n 0 a (Waiting a n e) sending.Nothing refl (waits p k w) (omega arith) refl
  release_ok h h' (backs {a} {n} {b} p k w) = holds h' _ n 0 a (BackingOff a n b) sending.Nothing refl (backs p k w) (omega arith) refl
  release_ok h h' (awaiting {c} {n} {e} p k w) = holds h' _ n 0 (Some c) (Awaiting c n e) sending.Nothing refl (awaiting p k w) (omega arith) refl

  wait_ok : (hunting : Bool) (h h' : Hearing) (a : Option ℕ) (n e : ℕ) → StillInsideIf hunting h' → room h' ≤ 1500 → 0 < n → n ≤ 4 → e < R.wait size
      → C h' (left R g size h (Waiting a n e)) n 1 a (on_tick R size hunting (Waiting a n e))
  wait_ok hunting h h' a n e i r p k w =
      pick_by (C h' (left R g size h (Waiting a n e)) n 1 a) (ltb (e + 1) (R.wait size)) _ _
      (λ x.
      let v : e + 1 < R.wait size = ltb-true _ _ x in
      holds h' _ n 1 a (Waiting a n (e + 1)) sending.Nothing refl (waits p k v) (omega arith) refl)
      (λ x. lose_ok Time hunting h' _ n 1 a i r p k (omega (arith, fit.late n)) (omega arith) (omega arith))

  back_ok : (hunting : Bool) (h h' : Hearing) (a : Option ℕ) (n b : ℕ) → StillInsideIf hunting h' → room h' ≤ 1500 → 0 < n → n < 4 → 0 < b
      → C h' (left R g size h (BackingOff a n b)) n 1 a (on_tick R size hunting (BackingOff a n b))
  back_ok hunting h h' a n b i r p k w =
      pick_by (C h' (left R g size h (BackingOff a n b)) n 1 a) (ltb 1 b) _ _
      (λ x.
      let v : 1 < b = ltb-true _ _ x in
      holds h' _ n 1 a (BackingOff a n (b - 1)) sending.Nothing refl (backs p k (omega arith)) (omega arith) refl)
      (λ x. start_ok hunting h' _ n 1 a i k (omega arith))

  await_ok : (h h' : Hearing) (c n e : ℕ) → 0 < n → n ≤ 4 → e < 5000 → C h' (left R g size h (Awaiting c n e)) n 1 (Some c) (awaited c n (e + 1))
  await_ok h h' c n e p k w =
      pick_by (C h' (left R g size h (Awaiting c n e)) n 1 (Some c)) (ltb (e + 1) 5000) _ _
      (λ x.
      let v : e + 1 < 5000 = ltb-true _ _ x in
      holds h' _ n 1 (Some c) (Awaiting c n (e + 1)) sending.Nothing refl (awaiting p k v) (omega arith) refl)
      (λ x. record { soon = omega arith; count = omega arith; few = k; four = λ y. absurd (false≢true y); own = refl; idle = refl })

  tick_ok : (hunting : Bool) (h h' : Hearing) {a : Option ℕ} {job : Job} → TickPasses hunting h h' → Good R size h a job
      → C h' (left R g size h job) (copies_of job) 1 a (on_tick R size hunting job)
  tick_ok hunting h h' q (due {a} {n} k w) = holds h' _ n 1 a (Due a n) sending.Nothing refl (due k (q.on w)) (omega (arith, q.down w)) refl
  tick_ok hunting h h' q (waits {a} {n} {e} p k w) = wait_ok hunting h h' a n e q.within q.small p k w
  tick_ok hunting h h' q (backs {a} {n} {b} p k w) = back_ok hunting h h' a n b q.within q.small p k w
  tick_ok hunting h h' q (awaiting {c} {n} {e} p k w) = await_ok h h' c n e p k w

  abort_ok : (h h' : Hearing) {a : Option ℕ} {job : Job} → Aborts h h' → Good R size h a job
      → C h' (left R g size h job) (copies_of job) 1 a (on_abort R size job)
  abort_ok h h' q (due {a} {n} k w) = put_ok h' _ n 1 a k (omega (arith, q.had w))
  abort_ok h h' q (waits {a} {n} {e} p k w) = wait_ok true h h' a n e tt q.small p k w
  abort_ok h h' q (backs {a} {n} {b} p k w) = back_ok true h h' a n b tt q.small p k w
  abort_ok h h' q (awaiting {c} {n} {e} p k w) = await_ok h h' c n e p k w

  keep_ok : (h h' : Hearing) {a : Option ℕ} {job : Job} → Stays h h' → Good R size h a job → C h' (left R g size h job) (copies_of job) 0 a (still job)
  keep_ok h h' q (due {a} {n} k w) = holds h' _ n 0 a (Due a n) sending.Nothing refl (due k (q.on w)) (omega (arith, q.down w)) refl
  keep_ok h h' q (waits {a} {n} {e} p k w) = holds h' _ n 0 a (Waiting a n e) sending.Nothing refl (waits p k w) (omega arith) refl
  keep_ok h h' q (backs {a} {n} {b} p k w) = holds h' _ n 0 a (BackingOff a n b) sending.Nothing refl (backs p k w) (omega arith) refl
  keep_ok h h' q (awaiting {c} {n} {e} p k w) = holds h' _ n 0 (Some c) (Awaiting c n e) sending.Nothing refl (awaiting p k w) (omega arith) refl

  -- a response ends the session that awaits it
  response_ok : (command : ℕ) (h h' : Hearing) {a : Option ℕ} {job : Job} → Good R size h a job
      → C h' (left R g size h job) (copies_of job) 0 a (pick (awaits command job) (respond job) (release job))
  response_ok command h h' (due {a} k w) = release_ok h h' {a = a} (due k w)
  response_ok command h h' (waits {a} p k w) = release_ok h h' {a = a} (waits p k w)
  response_ok command h h' (backs {a} p k w) = release_ok h h' {a = a} (backs p k w)
  response_ok command h h' (awaiting {c} {n} {e} p k w) =
      pick_by (C h' (5000 - e) n 0 (Some c)) (eqb command c) _ _
      (λ _. record { soon = omega arith; count = omega arith; few = k; four = λ y. absurd (false≢true y); own = refl; idle = refl })
      (λ _. release_ok h h' (awaiting p k w))

  end_ok : (e : End) (h h' : Hearing) {a : Option ℕ} {job : Job} → Good R size h a job → C h' (left R g size h job) (copies_of job) 0 a (on_end e job)
  end_ok end.BadLength h h' d = release_ok h h' d
  end_ok end.BadSum h h' d = release_ok h h' d
  end_ok end.Reserved h h' d = release_ok h h' d
  end_ok (end.Request s) h h' d = release_ok h h' d
  end_ok (end.Response s c) h h' d = response_ok c h h' d

  none_within : {h h' : Hearing} → (StillInside h → ⊥) → Stays h h'
  none_within q = record { on = λ i. absurd (q i); down = λ i. absurd (q i) }

  pub act_ok : (e : Event) (h h' : Hearing) {a : Option ℕ} {job : Job} → Tells e h h' → Good R size h a job
      → C h' (left R g size h job) (copies_of job) (ticks_at e) a (on_event R size e job)
  act_ok Inside h h' q d = keep_ok h h' q d
  act_ok (Kept at) h h' q d = keep_ok h h' q d
  act_ok Skipped h h' q d = keep_ok h h' (none_within q) d
  act_ok (Alone s) h h' q d = single_ok s h h' q d
  act_ok (Ended e) h h' q d = end_ok e h h' d
  act_ok TickHunting h h' q d = tick_ok true h h' q d
  act_ok TickInside h h' q d = tick_ok false h h' q d
  act_ok Aborted h h' q d = abort_ok h h' q d

  pub left_pos : (h : Hearing) {a : Option ℕ} {job : Job} → Good R size h a job → 0 < left R g size h job
  left_pos h (due k w) = omega (arith, fit.wait size)
  left_pos h (waits p k w) = omega arith
  left_pos h (backs p k w) = omega arith
  left_pos h (awaiting p k w) = omega arith
