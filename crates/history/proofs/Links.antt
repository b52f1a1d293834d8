-- An open send or session on a link: what every call but a restart does to it.
-- Assumes nothing.
use Rattle.std.specs.Prelude.{None, Option, Some}
use Prim.Native.Nat.{ℕ, ◌+◌, ◌≤◌}
use mathlib.Core.Path.{◌≡◌, refl, ap, sym, ◌∙◌, subst}
use mathlib.Core.Bool.{Bool, true, false, false≢true}
use mathlib.Core.List.{List, [], ◌∷◌, ◌++◌, append-nil}
use native.Mathlib.Omega.{arith}
use lib.ListN.{take}
use Rattle.refusals.specs.Pick.{pick}
use Rattle.rules.specs.Rules.{Rules}
use Rattle.hearing.specs.Hearing.{hear_byte, hear_tick}
use Rattle.job.specs.Job.{still}
use Rattle.sending.specs.Events.{copies_of, on_event, awaited_by}
use Rattle.report.specs.Report.{news_reception, news_sending}
use Rattle.step.specs.Deciding.{decided}
use Rattle.link.specs.Out.{Out, Taken, out, byte_by, byte_out, tick_out, news, quiet, run_from, run_out, heard_out}
use Rattle.hearing.specs.declared.hearing.Hearing.{Hearing}
use Rattle.hearing.specs.declared.hearing.Event.{Event}
use Rattle.hearing.specs.declared.hearing.Event.TheVariants.{Inside, Kept, Skipped, Alone, Ended, TickHunting, TickInside, Aborted}
use Rattle.hearing.specs.declared.hearing.Heard.{Heard}
use Rattle.job.specs.declared.job.Act.{Act}
use Rattle.job.specs.declared.job.Job.{Job}
use Rattle.job.specs.declared.job.Job.TheVariants.{Idle}
use Rattle.report.specs.declared.Sending.TheVariants as sending
use Rattle.report.specs.declared.Session.TheVariants as session
use Rattle.reception.specs.declared.said.Said.{Said}
use Rattle.reception.specs.declared.sums.Sums.{Sums}
use Rattle.link.specs.declared.link.Link.{Link}
use Rattle.link.proofs.Hears.{single_news, end_news}
use Rattle.history.specs.Cut.{ack, nak, can}
use Rattle.history.specs.Watch.{Verdict, copies_in, is_failure, is_own, Says, none, says, both, verdict_in, verdict_of}
use Rattle.history.specs.Bound.{Fits}
use Rattle.history.proofs.Mix.{Mix, end as finish, one, copy, mix_append}
use Rattle.history.proofs.Hearing.{InTime, Steps, ticks_at, byte_steps, tick_steps}
use Rattle.refusals.proofs.Picks.{neither, pick_by}
use Rattle.history.proofs.Job.{Good, left, ones, Claim, no_verdict, act_ok}
use Rattle.reception.specs.Said.{reply_bytes, cancels, said_end, said_on}
use Rattle.hearing.specs.declared.hearing.End.{End}
use Rattle.hearing.specs.declared.hearing.End.TheVariants as end
use Rattle.reception.specs.declared.said.Awaited.{Awaited}
use Rattle.reception.specs.declared.said.Awaited.TheVariants as awaited
use Rattle.rules.specs.declared.Role.{Role}
use Rattle.rules.specs.declared.Role.TheVariants.{Host, Module}
use Rattle.rules.specs.declared.Choice.{Choice}
use Rattle.reception.specs.Sums.{sums_on}
use Rattle.hearing.specs.declared.hearing.Single.{Single}
use Rattle.hearing.specs.declared.hearing.Single.TheVariants as single

-- ---- a byte whose report is no more than "nothing" or "skipped" changes the job in nothing, puts nothing out and hands nothing up
pub record Calm (R : Rules) (size : ℕ) (e : Event) (j : Job) : Type 0 where
  pub job : on_event R size e j ≡ still j
  pub silent : (said_on R.choice.role e (awaited_by j)).reply ≡ None
  pub none_up : (said_on R.choice.role e (awaited_by j)).up ≡ 0

calm : (R : Rules) (size : ℕ) (e : Event) (j : Job) → ticks_at e ≡ 0 → news_reception (said_on R.choice.role e (awaited_by j)).reception ≡ false → news_sending (on_event R size e j).sending ≡ false → Calm R size e j
calm R size Inside j t p q = record { job = refl; silent = refl; none_up = refl }
calm R size (Kept at) j t p q = record { job = refl; silent = refl; none_up = refl }
calm R size Skipped j t p q = record { job = refl; silent = refl; none_up = refl }
calm R size (Alone s) j t p q = absurd (false≢true (sym q ∙ single_news R s j))
calm R size (Ended e) j t p q = absurd (false≢true (sym p ∙ end_news R.choice.role e j))
calm R size TickHunting j t p q = absurd (omega arith)
calm R size TickInside j t p q = absurd (omega arith)
calm R size Aborted j t p q = absurd (omega arith)

pub calm_byte : (R : Rules) (l : Link) (b : ℕ) (r : Heard) → ticks_at r.event ≡ 0 → news (byte_by R l b r) ≡ false → Calm R l.core.size r.event l.core.job
calm_byte R l b r t e =
    let p = neither _ _ e in
    calm R l.core.size r.event l.core.job t p.0 (neither _ _ p.1).0

pub calm_line : (R : Rules) (size : ℕ) (e : Event) (j : Job) (held : List ℕ) → Calm R size e j → reply_bytes (said_on R.choice.role e (awaited_by j)).reply ++ pick (on_event R size e j).copy held [] ≡ []
calm_line R size e j held m =
    ap (λ (y : Option Single). reply_bytes y ++ pick (on_event R size e j).copy held []) m.silent ∙ ap (λ (y : Act). pick y.copy held []) m.job

-- ---- a link with an open send or session of the frame f
pub record Sends (R : Rules) (f : List ℕ) (a : Option ℕ) (l : Link) : Type 0 where
  pub time : InTime l.core.hearing
  pub good : Good R l.core.size l.core.hearing a l.core.job
  pub held : take l.core.size l.frame ≡ f

abbrev pub left_on : Rules → (ℕ → ℕ) → Link → ℕ
left_on R g l = left R g l.core.size l.core.hearing l.core.job

-- a call in t ticks with no verdict: L ticks were left and n copies had gone out before it
pub record Goes (R : Rules) (g : ℕ → ℕ) (f : List ℕ) (a : Option ℕ) (L n t : ℕ) (o : Out) : Type 0 where
  pub sends : Sends R f a o.link
  pub less : left_on R g o.link + t ≤ L
  pub more : ℕ
  pub mix : Mix R.choice.role f more o.line
  pub count : copies_of o.link.core.job ≡ n + more

-- and with a verdict
pub record Ends (role : Role) (f : List ℕ) (a : Option ℕ) (L n t : ℕ) (v : Verdict) (line : List ℕ) : Type 0 where
  pub soon : t ≤ L
  pub own : is_own a v ≡ true
  pub more : ℕ
  pub mix : Mix role f more line
  pub count : copies_in v ≡ n + more
  pub few : copies_in v ≤ 4
  pub four : is_failure v ≡ true → copies_in v ≡ 4

abbrev pub Outcome : Rules → (ℕ → ℕ) → List ℕ → Option ℕ → ℕ → ℕ → ℕ → Says → Out → Type 0
Outcome R g f a L n t none o = Goes R g f a L n t o
Outcome R g f a L n t (says v) o = Ends R.choice.role f a L n t v o.line × (o.link.core.job ≡ Idle)
Outcome R g f a L n t (both v w) o = ⊥

-- ---- what is answered: 06 or 15; 18 by a stand-in alone
frame_mix : (role : Role) (f : List ℕ) (w : Awaited) → Mix role f 0 (reply_bytes (Some (pick (cancels role w) single.Can single.Ack)))
frame_mix Host f w = one 6 ack finish
frame_mix Module f awaited.Nothing = one 6 ack finish
frame_mix Module f awaited.Ack = one 24 (can refl) finish
frame_mix Module f (awaited.Response c) = one 6 ack finish

end_mix : (role : Role) (f : List ℕ) (e : End) (w : Awaited) → Mix role f 0 (reply_bytes (said_end role e w).reply)
end_mix role f end.BadLength w = finish
end_mix role f end.BadSum w = one 21 nak finish
end_mix role f end.Reserved w = one 6 ack finish
end_mix role f (end.Request size) w = frame_mix role f w
end_mix role f (end.Response size command) w = frame_mix role f w

pub said_mix : (role : Role) (f : List ℕ) (e : Event) (w : Awaited) → Mix role f 0 (reply_bytes (said_on role e w).reply)
said_mix role f Inside w = finish
said_mix role f (Kept at) w = finish
said_mix role f Skipped w = finish
said_mix role f (Alone s) w = finish
said_mix role f (Ended e) w = end_mix role f e w
said_mix role f TickHunting w = finish
said_mix role f TickInside w = finish
said_mix role f Aborted w = finish

copy_mix : (role : Role) (f l : List ℕ) → l ≡ f → (c : Bool) → Mix role f (ones c) (pick c l [])
copy_mix role f l e true = subst (λ (z : List ℕ). Mix role f 1 z) (append-nil f ∙ sym e) (copy finish)
copy_mix role f l e false = finish

module _ (R : Rules) (g : ℕ → ℕ) (fit : Fits R g) (f : List ℕ) (a : Option ℕ) where
  -- what the job's act comes to on the line, for any Says
  lift : (s : Says) (body frame : List ℕ) (h : Hearing) (size : ℕ) (k : Choice) (q : Said) (z : Sums) (x : Act) (L n t : ℕ) → InTime h → take size frame ≡ f
      → Mix R.choice.role f 0 (reply_bytes q.reply) → Claim R g size h L n t s a x.job x.copy
      → Outcome R g f a L n t s (out body frame h size k (decided q z x))
  lift none body frame h size k q z x L n t i e m c =
      record {
        sends = record { time = i; good = c.good; held = e };
        less = c.less;
        more = 0 + ones x.copy;
        mix = mix_append m (copy_mix R.choice.role f (take size frame) e x.copy);
        count = omega (arith, c.count);
      }
  lift (says v) body frame h size k q z x L n t i e m c = (
    record {
      soon = c.soon;
      own = c.own;
      more = 0 + ones x.copy;
      mix = mix_append m (copy_mix R.choice.role f (take size frame) e x.copy);
      count = omega (arith, c.count);
      few = c.few;
      four = c.four;
    },
    c.idle,
  )
  lift (both v w) body frame h size k q z x L n t i e m c = absurd c

  pub lifted : (body frame : List ℕ) (h : Hearing) (size : ℕ) (k : Choice) (q : Said) (z : Sums) (x : Act) (L n t : ℕ) → InTime h → take size frame ≡ f
      → Mix R.choice.role f 0 (reply_bytes q.reply) → Claim R g size h L n t (verdict_in a x.sending x.session) a x.job x.copy
      → Outcome R g f a L n t (verdict_in a x.sending x.session) (out body frame h size k (decided q z x))
  lifted body frame h size k q z x L n t i e m c = lift (verdict_in a x.sending x.session) body frame h size k q z x L n t i e m c

  -- o is what a call of t ticks gave, with so many ticks left and so many copies before it
  abbrev pub Gave : ℕ → ℕ → ℕ → Out → Type 0
  Gave L n t o = Outcome R g f a L n t (verdict_of a o) o

  on_heard : (t : ℕ) (l : Link) (body : List ℕ) (r : Heard) → Steps t l.core.hearing r → Sends R f a l
      → Gave (left_on R g l) (copies_of l.core.job) t (heard_out R l.core body l.frame r)
  on_heard t l body r k d =
      let x = on_event R l.core.size r.event l.core.job in
      lifted body l.frame r.hearing l.core.size l.core.choice (said_on R.choice.role r.event (awaited_by l.core.job)) (sums_on r.event l.core.bad) x _ _ t k.ok d.held
      (said_mix R.choice.role f r.event (awaited_by l.core.job))
      (subst
      (λ (u : ℕ). Claim R g l.core.size r.hearing (left_on R g l) (copies_of l.core.job) u (verdict_in a x.sending x.session) a x.job x.copy)
      k.time (act_ok R g fit l.core.size r.event l.core.hearing r.hearing k.tells d.good))

  pub byte_gave : (l : Link) (b : ℕ) → Sends R f a l → Gave (left_on R g l) (copies_of l.core.job) 0 (byte_out R l b)
  unfolding byte_out
  byte_gave l b d = on_heard 0 l _ (hear_byte b l.core.hearing) (byte_steps b l.core.hearing d.time) d

  pub tick_gave : (l : Link) → Sends R f a l → Gave (left_on R g l) (copies_of l.core.job) 1 (tick_out R l)
  unfolding tick_out
  tick_gave l d = on_heard 1 l l.body (hear_tick l.core.hearing) (tick_steps l.core.hearing d.time) d

  -- ---- a run of bytes: quiet bytes first, then its last
  pub record Quiet (L n : ℕ) (o : Out) : Type 0 where
    pub sends : Sends R f a o.link
    pub less : left_on R g o.link ≤ L
    pub copies : copies_of o.link.core.job ≡ n
    pub line : o.line ≡ []
    pub verdict : verdict_of a o ≡ none

  quiet_gave : (L n : ℕ) (o : Out) → Quiet L n o → Gave L n 0 o
  quiet_gave L n o q =
      subst (λ (s : Says). Outcome R g f a L n 0 s o) (sym q.verdict)
      (record { sends = q.sends; less = omega (arith, q.less); more = 0; mix = subst (λ (z : List ℕ). Mix R.choice.role f 0 z) (sym q.line) finish; count = omega (arith, q.copies) })

  weaker : (s : Says) (L L' n n' : ℕ) (o : Out) → L ≤ L' → n ≡ n' → Outcome R g f a L n 0 s o → Outcome R g f a L' n' 0 s o
  weaker none L L' n n' o h e c = record { sends = c.sends; less = omega (arith, c.less); more = c.more; mix = c.mix; count = omega (arith, c.count) }
  weaker (says v) L L' n n' o h e c =
      (record { soon = omega (arith, c.0.soon); own = c.0.own; more = c.0.more; mix = c.0.mix; count = omega (arith, c.0.count); few = c.0.few; four = c.0.four }, c.1)
  weaker (both v w) L L' n n' o h e c = absurd c

  still_none : (j : Job) → verdict_in a (still j).sending (still j).session ≡ none
  still_none j = no_verdict a sending.Nothing session.Nothing refl refl

  quiet_byte : (L n : ℕ) (l : Link) (b : ℕ) → Sends R f a l → left_on R g l ≤ L → copies_of l.core.job ≡ n → news (byte_out R l b) ≡ false → Quiet L n (byte_out R l b)
  unfolding byte_out
  quiet_byte L n l b d h e w =
      let r = hear_byte b l.core.hearing in
      let k = byte_steps b l.core.hearing d.time in
      let x = on_event R l.core.size r.event l.core.job in
      let m = calm_byte R l b r k.time w in
      let v : verdict_in a x.sending x.session ≡ none = ap (λ (y : Act). verdict_in a y.sending y.session) m.job ∙ still_none l.core.job in
      let c : Goes R g f a (left_on R g l) (copies_of l.core.job) 0 (byte_out R l b) = subst (λ (s : Says). Outcome R g f a (left_on R g l) (copies_of l.core.job) 0 s (byte_out R l b)) v (byte_gave l b d) in
      record {
        sends = c.sends;
        less = omega (arith, c.less);
        copies = ap (λ (y : Act). copies_of y.job) m.job ∙ e;
        line = calm_line R l.core.size r.event l.core.job (take l.core.size l.frame) m;
        verdict = v;
      }

  from_gave : (bs : List ℕ) (k L n : ℕ) (o : Out) → Quiet L n o → Gave L n 0 (run_from R o k bs).out
  unfolding run_from
  from_gave [] k L n o q = quiet_gave L n o q
  from_gave (b ∷ bs) k L n o q =
      pick_by (λ (z : Taken). Gave L n 0 z.out) (news (byte_out R o.link b)) _ _
      (λ _. weaker (verdict_of a (byte_out R o.link b)) _ L _ n (byte_out R o.link b) q.less q.copies (byte_gave o.link b q.sends))
      (λ w. from_gave bs (k + 1) L n (byte_out R o.link b) (quiet_byte L n o.link b q.sends q.less q.copies w))

  pub run_gave : (l : Link) (bs : List ℕ) → Sends R f a l → Gave (left_on R g l) (copies_of l.core.job) 0 (run_out R l bs).out
  run_gave l bs d =
      from_gave bs 0 _ _ (quiet l) (record { sends = d; less = omega arith; copies = refl; line = refl; verdict = still_none l.core.job })
