-- Section 11's errors to shut out, and section 4's answers, on any link whatever.
-- Assumes nothing.
use Rattle.std.specs.Prelude.{None, Option, Some}
use Prim.Native.Nat.{ℕ, ◌+◌, ◌≤◌, ◌<◌}
use mathlib.Core.Path.{◌≡◌, refl, ap, sym, ◌∙◌, subst}
use mathlib.Core.Bool.{Bool, false}
use mathlib.Core.List.{List, [], ◌∷◌, ◌++◌}
use native.Mathlib.Omega.{arith}
use lib.Dec.{ltb, eqb}
use lib.ListN.{take}
use borrow.Author.Tests.{ltb-true, ltb-false, lt-ltb, le-ltb, eq-eqb, ne_eqb}
use Rattle.frame.specs.Frame.{ACK, NAK, MIN_LENGTH}
use Rattle.refusals.specs.Pick.{pick}
use Rattle.rules.specs.Rules.{Rules}
use Rattle.hearing.specs.Hearing.{heard, hear_byte, hear_tick, begun, more, ended}
use Rattle.job.specs.Job.{put_out}
use Rattle.job.specs.Ticks.{on_tick, on_abort}
use Rattle.sending.specs.Events.{release, awaits, on_end, on_event, awaited_by}
use Rattle.reception.specs.Said.{reply_bytes, cancels, said_end, said_on}
use Rattle.rules.specs.declared.Role.{Role}
use Rattle.rules.specs.declared.Role.TheVariants.{Host, Module}
use Rattle.link.specs.Out.{Out, byte_by, byte_out, tick_out, heard_out}
use Rattle.hearing.specs.declared.hearing.Partial.{Partial}
use Rattle.hearing.specs.declared.hearing.Hearing.{Hearing}
use Rattle.hearing.specs.declared.hearing.Hearing.TheVariants.{Hunting, Head, Body}
use Rattle.hearing.specs.declared.hearing.End.{End}
use Rattle.hearing.specs.declared.hearing.End.TheVariants as end
use Rattle.hearing.specs.declared.hearing.Event.TheVariants.{Inside, Kept, Ended, TickInside, Aborted}
use Rattle.hearing.specs.declared.hearing.Heard.{Heard}
use Rattle.job.specs.declared.job.Act.{Act}
use Rattle.job.specs.declared.job.Job.{Job}
use Rattle.job.specs.declared.job.Job.TheVariants.{Idle, Due, Waiting, BackingOff, Awaiting}
use Rattle.report.specs.declared.Reception.TheVariants as reception
use Rattle.link.specs.declared.link.Link.{Link}
use Rattle.history.specs.Ranges.{IsInside}
use Rattle.history.specs.Section11.{clock_of, cancels_now, NothingOrCopy, EndsAs, InFrame, unended, ends, Ticked, counts, aborts, GoesOut, end_answer, DueByte, stays, leaves, DueTick, still_due, out_by_abort, AtMostCopy, no_copy, one_copy}
use Rattle.refusals.proofs.Picks.{through, pick_by, pick_ok}
use Rattle.hearing.specs.declared.hearing.Single.{Single}
use Rattle.hearing.specs.declared.hearing.Single.TheVariants as single

-- ---- what a byte inside a frame can be
data InsideByte (h : Hearing) : Heard → Type 0 where
  at_length : {h' : Hearing} → IsInside h' → clock_of h' ≡ clock_of h → InsideByte h (heard h' Inside)
  at_body : {h' : Hearing} (at : ℕ) → IsInside h' → clock_of h' ≡ clock_of h → InsideByte h (heard h' (Kept at))
  at_end : (e : End) → InsideByte h (heard Hunting (Ended e))

inside_byte : (b : ℕ) (h : Hearing) → IsInside h → InsideByte h (hear_byte b h)
inside_byte b Hunting i = absurd i
inside_byte b (Head c) i = pick_ok (InsideByte (Head c)) (ltb b 3) _ _ (at_end end.BadLength) (at_length tt refl)
inside_byte b (Body p) i =
    pick_ok (InsideByte (Body p)) (ltb p.at p.size) _ _ (at_body p.at tt refl) (at_end (pick (eqb b p.sum) (ended p) end.BadSum))

release_says : (j : Job) → NothingOrCopy (release j).sending
release_says Idle = tt
release_says (Due a n) = tt
release_says (Waiting a n e) = tt
release_says (BackingOff a n b) = tt
release_says (Awaiting c n e) = tt

end_says : (e : End) (j : Job) → NothingOrCopy (on_end e j).sending
end_says end.BadLength j = release_says j
end_says end.BadSum j = release_says j
end_says end.Reserved j = release_says j
end_says (end.Request size) j = release_says j
end_says (end.Response size command) j = pick_ok (λ (x : Act). NothingOrCopy x.sending) (awaits command j) _ _ tt (release_says j)

end_waits : (e : End) (j : Job) (a : Option ℕ) (n t : ℕ) → j ≡ Waiting a n t → (on_end e j).job ≡ Waiting a n t
end_waits end.BadLength j a n t q = ap (λ (x : Job). (release x).job) q
end_waits end.BadSum j a n t q = ap (λ (x : Job). (release x).job) q
end_waits end.Reserved j a n t q = ap (λ (x : Job). (release x).job) q
end_waits (end.Request size) j a n t q = ap (λ (x : Job). (release x).job) q
end_waits (end.Response size command) j a n t q = ap (λ (x : Job). (on_end (end.Response size command) x).job) q

ends_as : (R : Rules) (l : Link) (b : ℕ) (e : End) → EndsAs R l (byte_by R l b (heard Hunting (Ended e))) e
ends_as R l b e = record { hunting = refl; sending = end_says e l.core.job; reception = refl; waits = end_waits e l.core.job }

in_frame : (R : Rules) (l : Link) (b : ℕ) (r : Heard) → InsideByte l.core.hearing r → InFrame R l (byte_by R l b r)
in_frame R l b r (at_length i c) =
    unended (record { inside = i; clock = c; job = refl; sending = refl; session = refl; reception = refl; reset = refl; line = refl; up = refl })
in_frame R l b r (at_body at i c) =
    unended (record { inside = i; clock = c; job = refl; sending = refl; session = refl; reception = refl; reset = refl; line = refl; up = refl })
in_frame R l b r (at_end e) = ends e (ends_as R l b e)

-- "Taking 06 inside a body as the awaited ACK." Inside a frame no byte is taken by the sender: it leaves the job as it was and says nothing, or ends the frame, and then at most a due copy goes out, and a send that waits for its ACK waits on.
pub inside_frame : (R : Rules) (l : Link) (b : ℕ) → IsInside l.core.hearing → InFrame R l (byte_out R l b)
unfolding byte_out
inside_frame R l b i = in_frame R l b (hear_byte b l.core.hearing) (inside_byte b l.core.hearing i)

data InsideTick (h : Hearing) : Heard → Type 0 where
  ticks_on : {h' : Hearing} → IsInside h' → clock_of h' ≡ clock_of h + 1 → clock_of h < 1500 → InsideTick h (heard h' TickInside)
  ticks_over : 1500 ≤ clock_of h → InsideTick h (heard Hunting Aborted)

inside_tick : (h : Hearing) → IsInside h → InsideTick h (hear_tick h)
inside_tick Hunting i = absurd i
inside_tick (Head c) i =
    pick_by (InsideTick (Head c)) (ltb (c + 1) 1501) _ _ (λ e. let v : c + 1 < 1501 = ltb-true _ _ e in ticks_on tt refl (omega arith))
    (λ e. let v : 1501 ≤ c + 1 = ltb-false _ _ e in ticks_over (omega arith))
inside_tick (Body p) i =
    pick_by (InsideTick (Body p)) (ltb (p.clock + 1) 1501) _ _ (λ e. let v : p.clock + 1 < 1501 = ltb-true _ _ e in ticks_on tt refl (omega arith))
    (λ e. let v : 1501 ≤ p.clock + 1 = ltb-false _ _ e in ticks_over (omega arith))

ticked : (R : Rules) (l : Link) (r : Heard) → InsideTick l.core.hearing r → Ticked l (heard_out R l.core l.body l.frame r)
ticked R l r (ticks_on i c k) = counts i c k
ticked R l r (ticks_over k) = aborts refl refl k

pub inside_ticks : (R : Rules) (l : Link) → IsInside l.core.hearing → Ticked l (tick_out R l)
unfolding tick_out
inside_ticks R l i = ticked R l (hear_tick l.core.hearing) (inside_tick l.core.hearing i)

goes_out : (R : Rules) (l : Link) (body answer : List ℕ) (a : Option ℕ) (n : ℕ) (r : Heard) → reply_bytes (said_on R.choice.role r.event (awaited_by l.core.job)).reply ≡ answer
    → on_event R l.core.size r.event l.core.job ≡ put_out a n → GoesOut a n answer l (heard_out R l.core body l.frame r)
goes_out R l body answer a n r s x =
    let held = take l.core.size l.frame in
    let reply = reply_bytes (said_on R.choice.role r.event (awaited_by l.core.job)).reply in
    record {
      line = ap (λ (y : Act). reply ++ pick y.copy held []) x ∙ ap (λ (y : List ℕ). y ++ held) s;
      sending = ap (λ (y : Act). y.sending) x;
      job = ap (λ (y : Act). y.job) x;
    }

pub end_reply : (R : Rules) (e : End) (j : Job) → reply_bytes (said_end R.choice.role e (awaited_by j)).reply ≡ end_answer (cancels_now R j) e
end_reply R end.BadLength j = refl
end_reply R end.BadSum j = refl
end_reply R end.Reserved j = refl
end_reply R (end.Request size) j = through (λ (s : Single). reply_bytes (Some s)) (cancels_now R j) single.Can single.Ack
end_reply R (end.Response size command) j = through (λ (s : Single). reply_bytes (Some s)) (cancels_now R j) single.Can single.Ack

-- nothing is cancelled but while an ACK is awaited, and by the host never
pub only_while_waiting : (role : Role) (j : Job) → ((a : Option ℕ) (n t : ℕ) → j ≡ Waiting a n t → ⊥) → cancels role (awaited_by j) ≡ false
only_while_waiting Host j k = refl
only_while_waiting Module Idle k = refl
only_while_waiting Module (Due a n) k = refl
only_while_waiting Module (Waiting a n e) k = absurd (k a n e refl)
only_while_waiting Module (BackingOff a n b) k = refl
only_while_waiting Module (Awaiting c n e) k = refl

pub host_never : (j : Job) → cancels Host (awaited_by j) ≡ false
host_never j = refl

due_cancels_none : (role : Role) (a : Option ℕ) (n : ℕ) → cancels role (awaited_by (Due a n)) ≡ false
due_cancels_none Host a n = refl
due_cancels_none Module a n = refl

end_puts : (e : End) (a : Option ℕ) (n : ℕ) → on_end e (Due a n) ≡ put_out a n
end_puts end.BadLength a n = refl
end_puts end.BadSum a n = refl
end_puts end.Reserved a n = refl
end_puts (end.Request size) a n = refl
end_puts (end.Response size command) a n = refl

due_in_frame : (R : Rules) (l : Link) (b : ℕ) (a : Option ℕ) (n : ℕ) (r : Heard) → l.core.job ≡ Due a n → InsideByte l.core.hearing r → DueByte R a n l (byte_by R l b r)
due_in_frame R l b a n r q (at_length i c) =
    stays (record { inside = i; clock = c; job = refl; sending = refl; session = refl; reception = refl; reset = refl; line = refl; up = refl })
due_in_frame R l b a n r q (at_body at i c) =
    stays (record { inside = i; clock = c; job = refl; sending = refl; session = refl; reception = refl; reset = refl; line = refl; up = refl })
due_in_frame R l b a n r q (at_end e) =
    let none : cancels_now R l.core.job ≡ false = ap (cancels_now R) q ∙ due_cancels_none R.choice.role a n in
    leaves e (ends_as R l b e)
    (goes_out R l l.body (end_answer false e) a n (heard Hunting (Ended e)) (end_reply R e l.core.job ∙ ap (λ (x : Bool). end_answer x e) none) (ap (on_end e) q ∙ end_puts e a n))

pub due_byte : (R : Rules) (l : Link) (b : ℕ) (a : Option ℕ) (n : ℕ) → l.core.job ≡ Due a n → IsInside l.core.hearing → DueByte R a n l (byte_out R l b)
unfolding byte_out
due_byte R l b a n q i = due_in_frame R l b a n (hear_byte b l.core.hearing) q (inside_byte b l.core.hearing i)

due_in_tick : (R : Rules) (l : Link) (a : Option ℕ) (n : ℕ) (r : Heard) → l.core.job ≡ Due a n → InsideTick l.core.hearing r
    → DueTick a n l (heard_out R l.core l.body l.frame r)
due_in_tick R l a n r q (ticks_on i c k) = still_due i (ap (λ (j : Job). (on_tick R l.core.size false j).job) q)
due_in_tick R l a n r q (ticks_over k) = out_by_abort refl (goes_out R l l.body [] a n (heard Hunting Aborted) refl (ap (on_abort R l.core.size) q))

pub due_tick : (R : Rules) (l : Link) (a : Option ℕ) (n : ℕ) → l.core.job ≡ Due a n → IsInside l.core.hearing → DueTick a n l (tick_out R l)
unfolding tick_out
due_tick R l a n q i = due_in_tick R l a n (hear_tick l.core.hearing) q (inside_tick l.core.hearing i)

pub at_most : (l : Link) (c : Bool) → AtMostCopy l (pick c (take l.core.size l.frame) [])
at_most l c = pick_ok (AtMostCopy l) c _ _ one_copy no_copy

tick_puts : (R : Rules) (l : Link) (r : Heard) → ((j : Job) → (said_on R.choice.role r.event (awaited_by j)).reply ≡ None) → AtMostCopy l (heard_out R l.core l.body l.frame r).line
tick_puts R l r s =
    let c = (on_event R l.core.size r.event l.core.job).copy in
    subst (λ (y : Option Single). AtMostCopy l (reply_bytes y ++ pick c (take l.core.size l.frame) [])) (sym (s l.core.job)) (at_most l c)

abbrev Silent : Role → Heard → Type 0
Silent role r = (j : Job) → (said_on role r.event (awaited_by j)).reply ≡ None

tick_silent : (role : Role) (h : Hearing) → Silent role (hear_tick h)
tick_silent role Hunting = λ j. refl
tick_silent role (Head c) = pick_ok (Silent role) (ltb (c + 1) 1501) _ _ (λ j. refl) (λ j. refl)
tick_silent role (Body p) = pick_ok (Silent role) (ltb (p.clock + 1) 1501) _ _ (λ j. refl) (λ j. refl)

-- "Answering an aborted frame with 15, which 6.2.1 forbids." No tick puts out a single byte: nothing, or a copy.
pub tick_answers : (R : Rules) (l : Link) → AtMostCopy l (tick_out R l).line
unfolding tick_out
tick_answers R l = tick_puts R l (hear_tick l.core.hearing) (tick_silent R.choice.role l.core.hearing)

-- the byte that ends a frame is answered as end_answer says, and behind that stands a copy or nothing
pub record Answers (R : Rules) (l : Link) (o : Out) (e : End) : Type 0 where
  pub behind : List ℕ
  pub copy : AtMostCopy l behind
  pub line : o.line ≡ end_answer (cancels_now R l.core.job) e ++ behind

end_answers : (R : Rules) (l : Link) (b : ℕ) (e : End) → Answers R l (byte_by R l b (heard Hunting (Ended e))) e
end_answers R l b e =
    let c = (on_end e l.core.job).copy in
    record { behind = pick c (take l.core.size l.frame) []; copy = at_most l c; line = ap (λ (y : List ℕ). y ++ pick c (take l.core.size l.frame) []) (end_reply R e l.core.job) }

right_is : (p : Partial) → end_answer false (ended p) ≡ 6 ∷ []
right_is p =
    pick_ok (λ (e : End). end_answer false e ≡ 6 ∷ []) (eqb p.kind 0) _ _ refl (pick_ok (λ (e : End). end_answer false e ≡ 6 ∷ []) (eqb p.kind 1) _ _ refl refl)

pub byte_at : (R : Rules) (l : Link) (b : ℕ) (h : Hearing) → l.core.hearing ≡ h → byte_out R l b ≡ byte_by R l b (hear_byte b h)
unfolding byte_out
byte_at R l b h q = ap (λ (x : Hearing). byte_by R l b (hear_byte b x)) q

-- the Checksum's byte
pub checked : (R : Rules) (l : Link) (b : ℕ) (p : Partial) → l.core.hearing ≡ Body p → p.size ≤ p.at
    → byte_out R l b ≡ byte_by R l b (heard Hunting (Ended (pick (eqb b p.sum) (ended p) end.BadSum)))
checked R l b p q k =
    byte_at R l b (Body p) q
    ∙ ap (λ (x : Bool). byte_by R l b (pick x (heard (Body (more p b)) (Kept p.at)) (heard Hunting (Ended (pick (eqb b p.sum) (ended p) end.BadSum))))) (le-ltb p.at p.size k)

-- "Checksum right: put out 06", whatever the Type, where nothing is cancelled
pub right_answer : (R : Rules) (l : Link) (b : ℕ) (p : Partial) → cancels_now R l.core.job ≡ false → l.core.hearing ≡ Body p → p.size ≤ p.at → b ≡ p.sum
    → (behind : List ℕ) × AtMostCopy l behind × ((byte_out R l b).line ≡ ACK ∷ behind)
right_answer R l b p x q k e =
    let w = end_answers R l b (ended p) in
    let o : byte_out R l b ≡ byte_by R l b (heard Hunting (Ended (ended p))) =
    checked R l b p q k ∙ ap (λ (x : Bool). byte_by R l b (heard Hunting (Ended (pick x (ended p) end.BadSum)))) (eq-eqb b p.sum e) in
    (w.behind, w.copy, ap (λ (z : Out). z.line) o ∙ w.line ∙ ap (λ (z : List ℕ). z ++ w.behind) (ap (λ (y : Bool). end_answer y (ended p)) x ∙ right_is p))

-- so by the host, always
pub host_right_answer : (R : Rules) → R.choice.role ≡ Host → (l : Link) (b : ℕ) (p : Partial) → l.core.hearing ≡ Body p → p.size ≤ p.at → b ≡ p.sum
    → (behind : List ℕ) × AtMostCopy l behind × ((byte_out R l b).line ≡ ACK ∷ behind)
host_right_answer R h l b p = right_answer R l b p (ap (λ (r : Role). cancels r (awaited_by l.core.job)) h)

-- "Checksum wrong: put out 15, report bad sum", and nothing is handed up
pub wrong_answer : (R : Rules) (l : Link) (b : ℕ) (p : Partial) → l.core.hearing ≡ Body p → p.size ≤ p.at → (b ≡ p.sum → ⊥)
    → (behind : List ℕ) × AtMostCopy l behind × ((byte_out R l b).line ≡ NAK ∷ behind) × ((byte_out R l b).reception ≡ reception.BadSum) × ((byte_out R l b).up ≡ [])
wrong_answer R l b p q k e =
    let w = end_answers R l b end.BadSum in
    let o : byte_out R l b ≡ byte_by R l b (heard Hunting (Ended end.BadSum)) =
    checked R l b p q k ∙ ap (λ (x : Bool). byte_by R l b (heard Hunting (Ended (pick x (ended p) end.BadSum)))) (ne_eqb b p.sum e) in
    (w.behind, w.copy, ap (λ (x : Out). x.line) o ∙ w.line, ap (λ (x : Out). x.reception) o, ap (λ (x : Out). x.up) o)

-- "Length below 3: report bad length, hunt again. No byte is put out" but a due copy
pub short_answer : (R : Rules) (l : Link) (b c : ℕ) → l.core.hearing ≡ Head c → b < MIN_LENGTH
    → AtMostCopy l (byte_out R l b).line × ((byte_out R l b).reception ≡ reception.BadLength) × ((byte_out R l b).link.core.hearing ≡ Hunting)
short_answer R l b c q k =
    let o : byte_out R l b ≡ byte_by R l b (heard Hunting (Ended end.BadLength)) =
    byte_at R l b (Head c) q ∙ ap (λ (x : Bool). byte_by R l b (pick x (heard Hunting (Ended end.BadLength)) (heard (Body (begun c b)) Inside))) (lt-ltb b 3 k) in
    (subst (λ (x : Out). AtMostCopy l x.line) (sym o) (at_most l (release l.core.job).copy), ap (λ (x : Out). x.reception) o, ap (λ (x : Out). x.link.core.hearing) o)
