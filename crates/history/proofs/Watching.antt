-- An open send or session watched over any calls: the ticks left, the copies, the verdict.
-- Assumes nothing.
use Rattle.std.specs.Prelude.{Err, Ok, Option}
use Prim.Native.Nat.{ℕ, ◌+◌, ◌≤◌, ◌<◌}
use mathlib.Core.Path.{◌≡◌, refl, ap, sym, ◌∙◌, subst}
use mathlib.Core.Bool.{true, false≢true}
use mathlib.Core.List.{List, [], ◌∷◌}
use native.Mathlib.Omega.{arith}
use native.Mathlib.Nat.{zero-add}
use lib.ListN.{length, replicate, length-replicate}
use Rattle.rules.specs.Rules.{Rules}
use Rattle.rules.specs.declared.Role.{Role}
use Rattle.job.specs.Job.{is_open}
use Rattle.sending.specs.Events.{copies_of}
use Rattle.link.specs.Out.{Out}
use Rattle.step.specs.Checks.{room_checks, Checked, passes}
use Rattle.hearing.specs.declared.hearing.Hearing.{Hearing}
use Rattle.job.specs.declared.job.Job.{Job}
use Rattle.link.specs.declared.link.Link.{Link}
use Rattle.history.specs.Perform.{What, byte, bytes, tick, send, session, restart, Call, checks_of, out_of, Done, refused, took, done_by, perform}
use Rattle.history.specs.History.{next, one_tick, one_restart, accepted, ticks_in, restarts_in}
use Rattle.history.specs.Cut.{frames}
use Rattle.history.specs.Bound.{Fits}
use Rattle.history.specs.Watch.{copies_in, Says, none, says, both, verdict_of, Watch, going, restarted_first, settled, add, onward, watch_taken, watch_done, watch, watched}
use Rattle.history.specs.Demand3.{Kept, IsOver, NotRestarted}
use Rattle.history.proofs.Mix.{Mix, end as finish, mix_append, IsFrame, mix_frames}
use Rattle.history.proofs.Job.{Good, due, waits, backs, awaiting, left_pos, good_few}
use Rattle.history.proofs.Links.{Sends, left_on, Goes, Ends, Outcome, byte_gave, tick_gave, run_gave}
use Rattle.history.proofs.Histories.{send_free, session_free, Free}
use Rattle.step.proofs.Passed.{room_passed}

-- no verdict yet: n copies had gone out and L ticks were left at the start of the watch
pub record Mid (role : Role) (f : List ℕ) (L n t : ℕ) (line : List ℕ) : Type 0 where
  pub soon : t < L
  pub more : ℕ
  pub mix : Mix role f more line
  pub few : n + more ≤ 4

abbrev pub Watched : Role → List ℕ → Option ℕ → ℕ → ℕ → Watch → Type 0
Watched role f a L n (going t line) = Mid role f L n t line
Watched role f a L n restarted_first = Unit {0}
Watched role f a L n (settled v t line) = Ends role f a L n t v line

pub is_open_lem : {R : Rules} {size : ℕ} {h : Hearing} {a : Option ℕ} {job : Job} → Good R size h a job → is_open job ≡ true
is_open_lem (due k w) = refl
is_open_lem (waits p k w) = refl
is_open_lem (backs p k w) = refl
is_open_lem (awaiting p k w) = refl

-- while one is open none is accepted
pub none_free : {R : Rules} {f : List ℕ} {a : Option ℕ} {l : Link} {n : ℕ} → Sends R f a l → Free l n → ⊥
none_free d w = false≢true (sym w.idle ∙ is_open_lem d.good)

-- a call refused or accepted
done_by_lem : (P : Watch → Type 0) (a : Option ℕ) (w : What) (l : Link) (c : Checked) (o : Out) (k : Link → Watch)
    → P (k l) → (c ≡ passes → P (watch_taken a w o (k o.link))) → P (watch_done a w l (done_by c o) k)
done_by_lem P a w l (Ok _) o k p q = q refl
done_by_lem P a w l (Err r) o k p q = p

module _ (R : Rules) (g : ℕ → ℕ) (fit : Fits R g) (f : List ℕ) (a : Option ℕ) where
  abbrev OnWatch : Link → Watch → Type 0
  OnWatch l w = Watched R.choice.role f a (left_on R g l) (copies_of l.core.job) w

  add_ok : (L n t : ℕ) (o : Out) (w : Watch) → Goes R g f a L n t o → OnWatch o.link w → Watched R.choice.role f a L n (add t o.line w)
  add_ok L n t o (going u m) c k =
      record { soon = omega (arith, c.less, k.soon); more = c.more + k.more; mix = mix_append c.mix k.mix; few = omega (arith, c.count, k.few) }
  add_ok L n t o restarted_first c k = tt
  add_ok L n t o (settled v u m) c k =
      record {
        soon = omega (arith, c.less, k.soon);
        more = c.more + k.more;
        mix = mix_append c.mix k.mix;
        count = omega (arith, c.count, k.count);
        few = k.few;
        four = k.four;
        own = k.own;
      }

  pub onward_ok : (s : Says) (L n t : ℕ) (o : Out) (w : Watch) → Outcome R g f a L n t s o → (Sends R f a o.link → OnWatch o.link w)
      → Watched R.choice.role f a L n (onward s t o.line w)
  onward_ok none L n t o w c k = add_ok L n t o w c (k c.sends)
  onward_ok (says v) L n t o w c k = c.0
  onward_ok (both v u) L n t o w c k = absurd c

  taken_ok : (w : What) (l : Link) (k : Link → Watch) → Sends R f a l → checks_of l w ≡ passes → ((z : Link) → Sends R f a z → OnWatch z (k z))
      → OnWatch l (watch_taken a w (out_of R l w) (k (out_of R l w).link))
  taken_ok (byte b) l k d e i = onward_ok (verdict_of a (out_of R l (byte b))) _ _ 0 _ _ (byte_gave R g fit f a l b d) (i _)
  taken_ok (bytes bs) l k d e i = onward_ok (verdict_of a (out_of R l (bytes bs))) _ _ 0 _ _ (run_gave R g fit f a l bs d) (i _)
  taken_ok tick l k d e i = onward_ok (verdict_of a (out_of R l tick)) _ _ 1 _ _ (tick_gave R g fit f a l d) (i _)
  taken_ok (send kind command ps) l k d e i = absurd (none_free d (send_free l kind (length ps) e))
  taken_ok (session command ps) l k d e i = absurd (none_free d (session_free l (length ps) e))
  taken_ok restart l k d e i = tt

  pub watch_ok : (h : List Call) (l : Link) → Sends R f a l → OnWatch l (watch R a l h)
  watch_ok [] l d = record { soon = left_pos R g fit l.core.size l.core.hearing d.good; more = 0; mix = finish; few = omega (arith, good_few d.good) }
  watch_ok (c ∷ h) l d =
      done_by_lem (OnWatch l) a c.what l (room_checks c.line c.up (checks_of l c.what)) (out_of R l c.what) (λ z. watch R a z h) (watch_ok h l d)
      (λ e. taken_ok c.what l (λ z. watch R a z h) d (room_passed c.line c.up (checks_of l c.what) e).2 (watch_ok h))

-- ---- from the bytes' shape to the frames found
pub copies_are : {role : Role} {f : List ℕ} {n : ℕ} {l : List ℕ} → IsFrame f → Mix role f n l → frames l ≡ replicate (length (frames l)) f
copies_are {f = f} {n = n} i m = let e = mix_frames i m in e ∙ ap (λ (k : ℕ). replicate k f) (sym (ap length e ∙ length-replicate n f))

pub copies_number : {role : Role} {f : List ℕ} {n : ℕ} {l : List ℕ} → IsFrame f → Mix role f n l → length (frames l) ≡ n
copies_number {f = f} {n = n} i m = ap length (mix_frames i m) ∙ length-replicate n f

pub kept : (role : Role) (f : List ℕ) (a : Option ℕ) (L : ℕ) (w : Watch) → IsFrame f → Watched role f a L 0 w → Kept a f L w
kept role f a L (going t l) i k = record { soon = k.soon; copies = copies_are i k.mix; few = omega (arith, k.few, copies_number i k.mix) }
kept role f a L restarted_first i k = tt
kept role f a L (settled v t l) i k =
    let e : k.more ≡ copies_in v = omega (arith, k.count) in
    record { soon = k.soon; own = k.own; copies = mix_frames i k.mix ∙ ap (λ (n : ℕ). replicate n f) e; few = k.few; four = k.four }

-- ---- a watch that goes on counted every accepted tick; one that was restarted first met an accepted restart
abbrev Counts : ℕ → Watch → Type 0
Counts n (going t l) = t ≡ n
Counts n restarted_first = Unit {0}
Counts n (settled v t l) = Unit {0}

add_counts : (t n : ℕ) (l : List ℕ) (w : Watch) → Counts n w → Counts (t + n) (add t l w)
add_counts t n l (going u m) e = ap (λ (x : ℕ). t + x) e
add_counts t n l restarted_first e = tt
add_counts t n l (settled v u m) e = tt

pub onward_counts : (s : Says) (t n : ℕ) (l : List ℕ) (w : Watch) → Counts n w → Counts (t + n) (onward s t l w)
onward_counts none t n l w e = add_counts t n l w e
onward_counts (says v) t n l w e = tt
onward_counts (both v u) t n l w e = tt

taken_counts : (a : Option ℕ) (w : What) (o : Out) (n : ℕ) (k : Watch) → Counts n k → Counts (one_tick w + n) (watch_taken a w o k)
taken_counts a (byte b) o n k e = onward_counts (verdict_of a o) 0 n o.line k e
taken_counts a (bytes bs) o n k e = onward_counts (verdict_of a o) 0 n o.line k e
taken_counts a tick o n k e = onward_counts (verdict_of a o) 1 n o.line k e
taken_counts a (send kind command ps) o n k e = onward_counts (verdict_of a o) 0 n o.line k e
taken_counts a (session command ps) o n k e = onward_counts (verdict_of a o) 0 n o.line k e
taken_counts a restart o n k e = tt

done_counts : (a : Option ℕ) (w : What) (l : Link) (d : Done) (k : Link → Watch) (n : Link → ℕ) → ((z : Link) → Counts (n z) (k z))
    → Counts (accepted (one_tick w) d + n (next l d)) (watch_done a w l d k)
done_counts a w l (refused r) k n i = subst (λ (x : ℕ). Counts x (k l)) (sym (zero-add (n l))) (i l)
done_counts a w l (took o) k n i = taken_counts a w o (n o.link) (k o.link) (i o.link)

watch_counts : (R : Rules) (a : Option ℕ) (h : List Call) (l : Link) → Counts (ticks_in R l h) (watch R a l h)
watch_counts R a [] l = refl
watch_counts R a (c ∷ h) l = done_counts a c.what l (perform R l c) (λ z. watch R a z h) (λ z. ticks_in R z h) (watch_counts R a h)

over : (a : Option ℕ) (f : List ℕ) (bound n : ℕ) (w : Watch) → Kept a f bound w → Counts n w → bound ≤ n → IsOver w
over a f bound n (going t l) k e b = absurd (omega (arith, k.soon))
over a f bound n restarted_first k e b = tt
over a f bound n (settled v t l) k e b = tt

pub watched_over : (R : Rules) (a : Option ℕ) (f : List ℕ) (bound : ℕ) (o : Out) (h : List Call) → Kept a f bound (watched R a o h) → bound ≤ ticks_in R o.link h → IsOver (watched R a o h)
watched_over R a f bound o h k b =
    over a f bound (0 + ticks_in R o.link h) (watched R a o h) k (onward_counts (verdict_of a o) 0 (ticks_in R o.link h) o.line (watch R a o.link h) (watch_counts R a h o.link)) (omega arith)

onward_there : (s : Says) (t : ℕ) (l : List ℕ) (w : Watch) → NotRestarted w → NotRestarted (onward s t l w)
onward_there none t l (going u m) e = tt
onward_there none t l restarted_first e = e
onward_there none t l (settled v u m) e = tt
onward_there (says v) t l w e = tt
onward_there (both v u) t l w e = tt

taken_there : (a : Option ℕ) (w : What) (o : Out) (k : Watch) → one_restart w ≡ 0 → NotRestarted k → NotRestarted (watch_taken a w o k)
taken_there a (byte b) o k e i = onward_there (verdict_of a o) 0 o.line k i
taken_there a (bytes bs) o k e i = onward_there (verdict_of a o) 0 o.line k i
taken_there a tick o k e i = onward_there (verdict_of a o) 1 o.line k i
taken_there a (send kind command ps) o k e i = onward_there (verdict_of a o) 0 o.line k i
taken_there a (session command ps) o k e i = onward_there (verdict_of a o) 0 o.line k i
taken_there a restart o k e i = absurd (omega arith)

done_there : (a : Option ℕ) (w : What) (l : Link) (d : Done) (k : Link → Watch) (n : Link → ℕ) → ((z : Link) → n z ≡ 0 → NotRestarted (k z))
    → accepted (one_restart w) d + n (next l d) ≡ 0 → NotRestarted (watch_done a w l d k)
done_there a w l (refused r) k n i e = i l (omega arith)
done_there a w l (took o) k n i e = taken_there a w o (k o.link) (omega arith) (i o.link (omega arith))

watch_there : (R : Rules) (a : Option ℕ) (h : List Call) (l : Link) → restarts_in R l h ≡ 0 → NotRestarted (watch R a l h)
watch_there R a [] l e = tt
watch_there R a (c ∷ h) l e = done_there a c.what l (perform R l c) (λ z. watch R a z h) (λ z. restarts_in R z h) (watch_there R a h) e

pub watched_there : (R : Rules) (a : Option ℕ) (o : Out) (h : List Call) → restarts_in R o.link h ≡ 0 → NotRestarted (watched R a o h)
watched_there R a o h e = onward_there (verdict_of a o) 0 o.line (watch R a o.link h) (watch_there R a h o.link e)
