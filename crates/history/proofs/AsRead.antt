-- Whole frames: bytes that come whole to a link that hunts end as the frame reader reads them, in whatever calls they come.
-- Assumes nothing.
use Rattle.std.specs.Prelude.{Result, Ok, Err}
use Prim.Native.Nat.{ℕ, zero, suc, ◌+◌, ◌-◌, ◌≤◌, ◌<◌}
use mathlib.Core.Path.{◌≡◌, refl, ap, ap₂, sym, ◌∙◌, subst}
use mathlib.Core.Bool.{Bool, true, false, false≢true}
use mathlib.Core.List.{List, [], ◌∷◌, ◌++◌, append_assoc}
use native.Mathlib.Omega.{arith}
use lib.Dec.{ltb, eqb}
use lib.ListN.{length, take, drop, get_or, length-append}
use lib.Seq.{take_at, take-nil, get_or_at}
use borrow.Author.Tests.{ltb-true, ltb-false, lt-ltb, le-ltb, eqb-true, eqb-false, eq-eqb, ne_eqb}
use Rattle.refusals.specs.Pick.{pick}
use Rattle.frame.specs.Bytes.{fold}
use Rattle.frame.specs.Frame.{START, ACK, CAN, MAX_PARAMETERS, MIN_LENGTH, MAX_BODY, counted, checksum, frame_of}
use Rattle.refusals.specs.declared.Refusal.{Refusal}
use Rattle.refusals.specs.declared.Refusal.TheVariants as refusal
use Rattle.reading.specs.Reader.{read, frame_parts, measured_of, parameters_of}
use Rattle.reading.proofs.Theorems.{read_built}
use Rattle.reading.specs.declared.reader.Parts.{Parts}
use Rattle.rules.specs.Rules.{Rules}
use Rattle.hearing.specs.Hearing.{heard, hear_byte, hear_tick, begun, more, ended, later, keep}
use Rattle.sending.specs.Events.{release, awaits, on_end, awaited_by}
use Rattle.report.specs.Report.{news_reception, news_sending, news_session, news_reset}
use Rattle.step.specs.Checks.{room_checks, Checked}
use Rattle.link.specs.Out.{Out, byte_by, byte_out, tick_out, open_out, news, quiet, run_from, run_out}
use Rattle.hearing.specs.declared.hearing.Partial.{Partial}
use Rattle.hearing.specs.declared.hearing.Hearing.{Hearing}
use Rattle.hearing.specs.declared.hearing.Hearing.TheVariants.{Hunting, Head, Body}
use Rattle.hearing.specs.declared.hearing.End.{End}
use Rattle.hearing.specs.declared.hearing.End.TheVariants as end
use Rattle.hearing.specs.declared.hearing.Event.{Event}
use Rattle.hearing.specs.declared.hearing.Event.TheVariants.{Inside, Kept, Skipped, Alone, Ended, TickHunting, TickInside, Aborted}
use Rattle.hearing.specs.declared.hearing.Heard.{Heard}
use Rattle.job.specs.declared.job.Act.{Act}
use Rattle.job.specs.declared.job.Job.{Job}
use Rattle.job.specs.declared.job.Job.TheVariants.{Idle, Due, Waiting, BackingOff, Awaiting}
use Rattle.report.specs.declared.Reception.{Reception}
use Rattle.report.specs.declared.Reception.TheVariants as reception
use Rattle.link.specs.declared.link.Link.{Link}
use Rattle.history.specs.Perform.{What, byte, bytes, tick, send, session, restart, Call, checks_of, out_of, Done, refused, took, done_by, perform}
use Rattle.history.specs.History.{next, run, after, one_tick, one_restart, accepted, ticks_in, restarts_in}
use Rattle.history.specs.Received.{feed, taken_by, if_taken, received}
use Rattle.history.specs.Runs.{SameSender}
use Rattle.history.specs.Section11.{cancels_now, end_answer}
use Rattle.history.specs.Whole.{Whole, short, full, from_first, clock_in, ComesWhole, due_copy, Ending, frame_report, FrameEnds, EndsBy, AsRead, RunAsRead}
use Rattle.refusals.proofs.Picks.{pick_by, pick_ok}
use Rattle.history.proofs.Histories.{accepted_is}
use Rattle.hearing.proofs.Theorems.{keep_length}
use Rattle.history.proofs.Ranges.{body_254}
use Rattle.history.proofs.Section11.{end_reply, byte_at, checked}
use Rattle.history.proofs.Bodies.{partial_of, begun_is, more_is, kept_more}
use Rattle.history.proofs.Runs.{quiet_by_report, run_bytes, run_feeds, taken_is, quiet_sender}
use Rattle.reception.specs.Said.{said_end}

-- ---- bytes that come whole, seen from their Length on
data Measured (len : ℕ) (rest : List ℕ) : Type 0 where
  small : len < 3 → length rest ≡ 0 → Measured len rest
  large : 3 ≤ len → len ≤ 255 → length rest ≡ len → Measured len rest

measured : (xs rest : List ℕ) (len : ℕ) → Whole xs → xs ≡ 1 ∷ len ∷ rest → Measured len rest
measured xs rest len (short n e k) q =
    let u : ◌≡◌ {A = List ℕ} (1 ∷ len ∷ rest) (1 ∷ n ∷ []) = sym q ∙ e in
    let v : len ≡ n = ap (λ (s : List ℕ). get_or s 1 0) u in
    small (omega arith) (ap (λ (s : List ℕ). length (drop 2 s)) u)
measured xs rest len (full n s e k m d) q =
    let u : ◌≡◌ {A = List ℕ} (1 ∷ len ∷ rest) (1 ∷ n ∷ s) = sym q ∙ e in
    let v : len ≡ n = ap (λ (s : List ℕ). get_or s 1 0) u in
    let w : length rest ≡ length s = ap (λ (s : List ℕ). length (drop 2 s)) u in
    large (omega arith) (omega arith) (omega arith)

starts : (xs : List ℕ) → Whole xs → (get_or xs 0 0 ≡ 1) × (1 < length xs)
starts xs (short n e k) = (ap (λ (s : List ℕ). get_or s 0 0) e, let v : length xs ≡ 2 = ap length e in omega arith)
starts xs (full n s e k m d) = (ap (λ (s : List ℕ). get_or s 0 0) e, let v : length xs ≡ suc (suc (length s)) = ap length e in omega arith)

-- 01 and any Length below 3 are whole, and so are 01, any other Length and as many bytes
pub short_is_whole : (len : ℕ) → len < MIN_LENGTH → Whole (START ∷ len ∷ [])
short_is_whole len k = short len refl k

pub full_is_whole : (len : ℕ) (rest : List ℕ) → MIN_LENGTH ≤ len → len ≤ 255 → length rest ≡ len → Whole (START ∷ len ∷ rest)
full_is_whole len rest k m n = full len rest refl k m n

-- every frame is whole, and so is what the frame reader accepts
pub frame_is_whole : (kind command : ℕ) (ps : List ℕ) → length ps ≤ MAX_PARAMETERS → Whole (frame_of kind command ps)
unfolding frame_of
frame_is_whole kind command ps k =
    full (length ps + 3) (kind ∷ command ∷ (ps ++ (checksum (counted kind command ps) ∷ []))) refl (omega arith) (omega arith) (omega (arith, length-append ps (checksum (counted kind command ps) ∷ [])))

pub read_is_whole : (xs : List ℕ) (kind command n : ℕ) → read xs ≡ Ok (frame_parts kind command n) → get_or xs 1 0 < 256 → Whole xs
read_is_whole xs kind command n e k =
    let b = read_built xs kind command n e in
    let small : n ≤ 252 = b.3 k in
    let m : length (parameters_of xs n) ≡ n = b.1 in
    subst Whole (sym b.0) (frame_is_whole kind command (parameters_of xs n) (omega arith))

-- ---- where a link stands that waits for the bytes zs, the last ones of xs: its frame's clock is at most t; d is the link's body array
record InBody (xs : List ℕ) (t : ℕ) (d zs : List ℕ) (p : Partial) : Type 0 where
  len : ℕ
  bs : List ℕ
  clock : ℕ
  came : xs ≡ 1 ∷ len ∷ (bs ++ zs)
  is : p ≡ partial_of clock len bs
  time : clock ≤ t
  kept : take (length bs) d ≡ bs

abbrev StandsAt : List ℕ → ℕ → List ℕ → List ℕ → Hearing → Type 0
StandsAt xs t d zs Hunting = xs ≡ zs
StandsAt xs t d zs (Head clock) = (clock ≤ t) × (xs ≡ 1 ∷ zs)
StandsAt xs t d zs (Body p) = InBody xs t d zs p

record Expects (xs : List ℕ) (t : ℕ) (zs : List ℕ) (l : Link) : Type 0 where
  hears : StandsAt xs t l.body zs l.core.hearing
  body : length l.body ≡ 254

longer_hears : (xs d zs : List ℕ) (t u : ℕ) (h : Hearing) → t ≤ u → StandsAt xs t d zs h → StandsAt xs u d zs h
longer_hears xs d zs t u Hunting k e = e
longer_hears xs d zs t u (Head c) k e = let v : c ≤ t = e.0 in (omega arith, e.1)
longer_hears xs d zs t u (Body p) k e =
    record { len = e.len; bs = e.bs; clock = e.clock; came = e.came; is = e.is; time = omega (arith, e.time); kept = e.kept }

longer : (xs zs : List ℕ) (t u : ℕ) (l : Link) → t ≤ u → Expects xs t zs l → Expects xs u zs l
longer xs zs t u l k e = record { hears = longer_hears xs l.body zs t u l.core.hearing k e.hears; body = e.body }

-- while all of them are to come the link hunts, and no clock runs
anew_hears : (xs d zs : List ℕ) (t u : ℕ) (h : Hearing) → length zs ≡ length xs → StandsAt xs t d zs h → StandsAt xs u d zs h
anew_hears xs d zs t u Hunting k e = e
anew_hears xs d zs t u (Head c) k e = let v : length xs ≡ suc (length zs) = ap length e.1 in absurd (omega arith)
anew_hears xs d zs t u (Body p) k e =
    let v : length xs ≡ suc (suc (length (e.bs ++ zs))) = ap length e.came in
    absurd (omega (arith, length-append e.bs zs))

anew : (xs zs : List ℕ) (t u : ℕ) (l : Link) → length zs ≡ length xs → Expects xs t zs l → Expects xs u zs l
anew xs zs t u l k e = record { hears = anew_hears xs l.body zs t u l.core.hearing k e.hears; body = e.body }

begins : (xs : List ℕ) (l : Link) → l.core.hearing ≡ Hunting → length l.body ≡ 254 → Expects xs 0 xs l
begins xs l q r = record { hears = subst (StandsAt xs 0 l.body xs) (sym q) refl; body = r }

-- ---- a byte that is not the last: it is taken into the frame
abbrev IsTaken : Event → Type 0
IsTaken Inside = Unit {0}
IsTaken (Kept at) = Unit {0}
IsTaken Skipped = ⊥
IsTaken (Alone s) = ⊥
IsTaken (Ended e) = ⊥
IsTaken TickHunting = ⊥
IsTaken TickInside = ⊥
IsTaken Aborted = ⊥

abbrev StandsAfter : List ℕ → ℕ → List ℕ → ℕ → List ℕ → Heard → Type 0
StandsAfter xs t d b zs r = IsTaken r.event × StandsAt xs t (keep r.event b d) zs r.hearing

byte_hears : (xs : List ℕ) (t : ℕ) (d : List ℕ) (b : ℕ) (zs : List ℕ) (h : Hearing) → Whole xs → 0 < length zs → length d ≡ 254
    → StandsAt xs t d (b ∷ zs) h → StandsAfter xs t d b zs (hear_byte b h)
byte_hears xs t d b zs Hunting w n r e =
    let f : b ≡ 1 = ap (λ (s : List ℕ). get_or s 0 0) (sym e) ∙ (starts xs w).0 in
    subst (λ (y : ℕ). StandsAfter xs t d y zs (hear_byte y Hunting)) (sym f) (tt, (omega arith, e ∙ ap (λ (y : ℕ). y ∷ zs) f))
byte_hears xs t d b zs (Head c) w n r e = by (measured xs zs b w e.1)
  where
    by : Measured b zs → StandsAfter xs t d b zs (hear_byte b (Head c))
    by (small k m) = absurd (omega arith)
    by (large k m s) =
        pick_by (StandsAfter xs t d b zs) (ltb b 3) _ _ (λ v. let z : b < 3 = ltb-true b 3 v in absurd (omega arith))
        (λ _. (tt, record { len = b; bs = []; clock = c; came = e.1; is = begun_is c b; time = e.0; kept = refl }))
byte_hears xs t d b zs (Body p) w n r e = by (measured xs (e.bs ++ (b ∷ zs)) e.len w e.came)
  where
    by : Measured e.len (e.bs ++ (b ∷ zs)) → StandsAfter xs t d b zs (hear_byte b (Body p))
    by (small k m) = absurd (omega (arith, length-append e.bs (b ∷ zs)))
    by (large k m s) =
        let at : p.at ≡ length e.bs = ap (λ (q : Partial). q.at) e.is in
        let size : p.size ≡ e.len - 1 = ap (λ (q : Partial). q.size) e.is in
        let all : length e.bs + suc (length zs) ≡ e.len = sym (length-append e.bs (b ∷ zs)) ∙ s in
        pick_by (StandsAfter xs t d b zs) (ltb p.at p.size) _ _
        (λ _. (
          tt,
          record {
            len = e.len;
            bs = e.bs ++ (b ∷ []);
            clock = e.clock;
            came = e.came ∙ ap (λ (y : List ℕ). 1 ∷ e.len ∷ y) (sym (append_assoc e.bs (b ∷ []) zs));
            is = ap (λ (q : Partial). more q b) e.is ∙ more_is e.clock e.len e.bs b;
            time = e.time;
            kept = kept_more d e.bs p.at b at (omega arith) e.kept;
          },
        ))
        (λ v. let z : p.size ≤ p.at = ltb-false _ _ v in absurd (omega arith))

byte_expects : (R : Rules) (xs : List ℕ) (t b : ℕ) (zs : List ℕ) (l : Link) → Whole xs → 0 < length zs → Expects xs t (b ∷ zs) l → Expects xs t zs (byte_out R l b).link
unfolding byte_out
byte_expects R xs t b zs l w n e =
    record {
      hears = (byte_hears xs t l.body b zs l.core.hearing w n e.body e.hears).1;
      body = keep_length (hear_byte b l.core.hearing).event b l.body ∙ e.body;
    }

taken_news : (R : Rules) (l : Link) (b : ℕ) (h : Hearing) (e : Event) → IsTaken e → news (byte_by R l b (heard h e)) ≡ false
taken_news R l b h Inside i = refl
taken_news R l b h (Kept at) i = refl
taken_news R l b h Skipped i = absurd i
taken_news R l b h (Alone s) i = absurd i
taken_news R l b h (Ended e) i = absurd i
taken_news R l b h TickHunting i = absurd i
taken_news R l b h TickInside i = absurd i
taken_news R l b h Aborted i = absurd i

byte_news : (R : Rules) (xs : List ℕ) (t b : ℕ) (zs : List ℕ) (l : Link) → Whole xs → 0 < length zs → Expects xs t (b ∷ zs) l → news (byte_out R l b) ≡ false
unfolding byte_out
byte_news R xs t b zs l w n e =
    let r = hear_byte b l.core.hearing in
    taken_news R l b r.hearing r.event (byte_hears xs t l.body b zs l.core.hearing w n e.body e.hears).0

-- it says nothing, so that it leaves the sender as it was
byte_sender : (R : Rules) (xs : List ℕ) (t b : ℕ) (zs : List ℕ) (l : Link) → Whole xs → 0 < length zs → Expects xs t (b ∷ zs) l → SameSender l (byte_out R l b).link
byte_sender R xs t b zs l w n e =
    let q = quiet_by_report R l b (byte_news R xs t b zs l w n e) in
    record { job = q.job; held = q.held }

-- all of the bytes ys before zs
feed_expects : (R : Rules) (xs : List ℕ) (t : ℕ) (ys zs : List ℕ) (l : Link) → Whole xs → 0 < length zs → Expects xs t (ys ++ zs) l → Expects xs t zs (feed R l ys)
feed_expects R xs t [] zs l w n e = e
feed_expects R xs t (y ∷ ys) zs l w n e =
    feed_expects R xs t ys zs (byte_out R l y).link w n (byte_expects R xs t y (ys ++ zs) l w (omega (arith, length-append ys zs)) e)

feed_sender : (R : Rules) (xs : List ℕ) (t : ℕ) (ys zs : List ℕ) (l : Link) → Whole xs → 0 < length zs → Expects xs t (ys ++ zs) l → SameSender l (feed R l ys)
feed_sender R xs t [] zs l w n e = record { job = refl; held = refl }
feed_sender R xs t (y ∷ ys) zs l w n e =
    let z = (byte_out R l y).link in
    let m : 0 < length (ys ++ zs) = omega (arith, length-append ys zs) in
    let f = byte_sender R xs t y (ys ++ zs) l w m e in
    let g = feed_sender R xs t ys zs z w n (byte_expects R xs t y (ys ++ zs) l w m e) in
    record { job = g.job ∙ f.job; held = g.held ∙ f.held }

-- ---- a tick
tick_hears : (xs : List ℕ) (t : ℕ) (d zs : List ℕ) (h : Hearing) → t + 1 ≤ 1500 → StandsAt xs t d zs h → StandsAt xs (t + 1) d zs (hear_tick h).hearing
tick_hears xs t d zs Hunting k e = e
tick_hears xs t d zs (Head c) k e =
    let v : c ≤ t = e.0 in
    pick_by (λ (r : Heard). StandsAt xs (t + 1) d zs r.hearing) (ltb (c + 1) 1501) _ _ (λ _. (omega arith, e.1))
    (λ f. let z : 1501 ≤ c + 1 = ltb-false _ _ f in absurd (omega arith))
tick_hears xs t d zs (Body p) k e =
    let v : p.clock ≡ e.clock = ap (λ (q : Partial). q.clock) e.is in
    pick_by (λ (r : Heard). StandsAt xs (t + 1) d zs r.hearing) (ltb (p.clock + 1) 1501) _ _
    (λ _. record { len = e.len; bs = e.bs; clock = e.clock + 1; came = e.came; is = ap later e.is; time = omega (arith, e.time); kept = e.kept })
    (λ f. let z : 1501 ≤ p.clock + 1 = ltb-false _ _ f in absurd (omega (arith, e.time)))

-- ---- every call but a restart
what_expects : (R : Rules) (xs : List ℕ) (t : ℕ) (zs : List ℕ) (l : Link) (w : What) → Whole xs → 0 < length zs → one_restart w ≡ 0 → t + one_tick w ≤ 1500
    → Expects xs t (taken_by R l w ++ zs) l → Expects xs (t + one_tick w) zs (out_of R l w).link
unfolding tick_out open_out
what_expects R xs t zs l (byte b) w n r k e = longer xs zs t (t + 0) _ (omega arith) (byte_expects R xs t b zs l w n e)
what_expects R xs t zs l (bytes bs) w n r k e =
    let m = (run_out R l bs).taken in
    longer xs zs t (t + 0) _ (omega arith) (subst (Expects xs t zs) (sym (run_feeds R l bs)) (feed_expects R xs t (take m bs) zs l w n e))
what_expects R xs t zs l tick w n r k e = record { hears = tick_hears xs t l.body zs l.core.hearing k e.hears; body = e.body }
what_expects R xs t zs l (send kind command ps) w n r k e = longer xs zs t (t + 0) _ (omega arith) (record { hears = e.hears; body = e.body })
what_expects R xs t zs l (session command ps) w n r k e = longer xs zs t (t + 0) _ (omega arith) (record { hears = e.hears; body = e.body })
what_expects R xs t zs l restart w n r k e = absurd (omega arith)

done_expects : (R : Rules) (xs : List ℕ) (t : ℕ) (zs : List ℕ) (l : Link) (w : What) (c : Checked) → Whole xs → 0 < length zs
    → accepted (one_restart w) (done_by c (out_of R l w)) ≡ 0 → t + accepted (one_tick w) (done_by c (out_of R l w)) ≤ 1500
    → Expects xs t (if_taken (done_by c (out_of R l w)) (taken_by R l w) ++ zs) l
    → Expects xs (t + accepted (one_tick w) (done_by c (out_of R l w))) zs (next l (done_by c (out_of R l w)))
done_expects R xs t zs l w (Ok _) v n r k e = what_expects R xs t zs l w v n r k e
done_expects R xs t zs l w (Err q) v n r k e = longer xs zs t (t + 0) l (omega arith) e

call_expects : (R : Rules) (xs : List ℕ) (t : ℕ) (zs : List ℕ) (l : Link) (c : Call) → Whole xs → 0 < length zs
    → accepted (one_restart c.what) (perform R l c) ≡ 0 → t + accepted (one_tick c.what) (perform R l c) ≤ 1500
    → Expects xs t (if_taken (perform R l c) (taken_by R l c.what) ++ zs) l
    → Expects xs (t + accepted (one_tick c.what) (perform R l c)) zs (next l (perform R l c))
call_expects R xs t zs l c w n r k e = done_expects R xs t zs l c.what (room_checks c.line c.up (checks_of l c.what)) w n r k e

-- ---- any calls: zs is what is to come behind them
calls_expect : (R : Rules) (xs : List ℕ) (t : ℕ) (k : List Call) (zs : List ℕ) (l : Link) → Whole xs → 0 < length zs → restarts_in R l k ≡ 0
    → t + ticks_in R l k ≤ 1500 → Expects xs t (received R l k ++ zs) l → Expects xs (t + ticks_in R l k) zs (run R l k)
calls_expect R xs t [] zs l w n r k e = longer xs zs t (t + 0) l (omega arith) e
calls_expect R xs t (c ∷ h) zs l w n r k e =
    let z = next l (perform R l c) in
    let a = if_taken (perform R l c) (taken_by R l c.what) in
    let rest = received R z h in
    let m = accepted (one_tick c.what) (perform R l c) in
    let f : Expects xs (t + m) (rest ++ zs) z =
    call_expects R xs t (rest ++ zs) l c w (omega (arith, length-append rest zs)) (omega arith) (omega arith) (subst (λ (s : List ℕ). Expects xs t s l) (append_assoc a rest zs) e) in
    longer xs zs (t + m + ticks_in R z h) (t + (m + ticks_in R z h)) _ (omega arith) (calls_expect R xs (t + m) h zs z w n (omega arith) (omega arith) f)

-- a call that takes a byte is no tick
takes_no_tick : (R : Rules) (l : Link) (w : What) (d : Done) → 0 < length (if_taken d (taken_by R l w)) → accepted (one_tick w) d ≡ 0
takes_no_tick R l w (refused q) k = refl
takes_no_tick R l (byte b) (took o) k = refl
takes_no_tick R l (bytes bs) (took o) k = refl
takes_no_tick R l tick (took o) k = absurd (omega arith)
takes_no_tick R l (send kind command ps) (took o) k = refl
takes_no_tick R l (session command ps) (took o) k = refl
takes_no_tick R l restart (took o) k = refl

-- the first of the calls took the bytes a in n ticks and left the link z
one_expects : (R : Rules) (xs a : List ℕ) (n : ℕ) (h : List Call) (zs : List ℕ) (z : Link) → Whole xs → 0 < length zs → restarts_in R z h ≡ 0
    → from_first a (ticks_in R z h) (clock_in R z h) ≤ 1500 → (a ++ received R z h) ++ zs ≡ xs → (0 < length a → n ≡ 0) → Expects xs n (received R z h ++ zs) z
    → (clock_in R z h ≤ 1500 → received R z h ++ zs ≡ xs → Expects xs 0 xs z → Expects xs (clock_in R z h) zs (run R z h))
    → Expects xs (from_first a (ticks_in R z h) (clock_in R z h)) zs (run R z h)
one_expects R xs [] n h zs z w s r k q i e on =
    on k q (subst (λ (y : List ℕ). Expects xs 0 y z) q (anew xs (received R z h ++ zs) n 0 z (ap length q) e))
one_expects R xs (b ∷ bs) n h zs z w s r k q i e on =
    let m : n ≡ 0 = i (omega arith) in
    longer xs zs (0 + ticks_in R z h) (ticks_in R z h) _ (omega arith)
    (calls_expect R xs 0 h zs z w s r (omega arith) (subst (λ (t : ℕ). Expects xs t (received R z h ++ zs) z) m e))

-- from a link for which all of them are to come
all_expect : (R : Rules) (xs : List ℕ) (k : List Call) (zs : List ℕ) (l : Link) → Whole xs → 0 < length zs → restarts_in R l k ≡ 0 → clock_in R l k ≤ 1500
    → received R l k ++ zs ≡ xs → Expects xs 0 xs l → Expects xs (clock_in R l k) zs (run R l k)
all_expect R xs [] zs l w n r k q e = subst (λ (y : List ℕ). Expects xs 0 y l) (sym q) e
all_expect R xs (c ∷ h) zs l w n r k q e =
    let z = next l (perform R l c) in
    let a = if_taken (perform R l c) (taken_by R l c.what) in
    let rest = received R z h in
    let m = accepted (one_tick c.what) (perform R l c) in
    let few : m ≤ 1 = once c.what (perform R l c) in
    let f : Expects xs (0 + m) (rest ++ zs) z =
    call_expects R xs 0 (rest ++ zs) l c w (omega (arith, length-append rest zs)) (omega arith) (omega arith) (subst (λ (y : List ℕ). Expects xs 0 y l) (sym (sym (append_assoc a rest zs) ∙ q)) e) in
    one_expects R xs a (0 + m) h zs z w n (omega arith) k q (λ s. let v : m ≡ 0 = takes_no_tick R l c.what (perform R l c) s in omega arith) f
    (λ v p x. all_expect R xs h zs z w n (omega arith) v p x)
  where
    once : (w : What) (d : Done) → accepted (one_tick w) d ≤ 1
    once w (refused q) = omega arith
    once (byte b) (took o) = omega arith
    once (bytes bs) (took o) = omega arith
    once tick (took o) = omega arith
    once (send kind command ps) (took o) = omega arith
    once (session command ps) (took o) = omega arith
    once restart (took o) = omega arith

-- ---- the last byte: what the end of a frame gives
release_copy : (j : Job) (held : List ℕ) → pick (release j).copy held [] ≡ due_copy j held
release_copy Idle held = refl
release_copy (Due a n) held = refl
release_copy (Waiting a n e) held = refl
release_copy (BackingOff a n b) held = refl
release_copy (Awaiting c n e) held = refl

response_copy : (size command : ℕ) (j : Job) (held : List ℕ) → pick (on_end (end.Response size command) j).copy held [] ≡ due_copy j held
response_copy size command Idle held = refl
response_copy size command (Due a n) held = refl
response_copy size command (Waiting a n e) held = refl
response_copy size command (BackingOff a n b) held = refl
response_copy size command (Awaiting c n e) held = pick_ok (λ (x : Act). pick x.copy held [] ≡ []) (eqb command c) _ _ refl refl

end_copy : (e : End) (j : Job) (held : List ℕ) → pick (on_end e j).copy held [] ≡ due_copy j held
end_copy end.BadLength j held = release_copy j held
end_copy end.BadSum j held = release_copy j held
end_copy end.Reserved j held = release_copy j held
end_copy (end.Request size) j held = release_copy j held
end_copy (end.Response size command) j held = response_copy size command j held

ending : (R : Rules) (l : Link) (b : ℕ) (e : End) (up : List ℕ) → take (said_end R.choice.role e (awaited_by l.core.job)).up l.body ≡ up
    → Ending l.core.job (take l.core.size l.frame) (said_end R.choice.role e (awaited_by l.core.job)).reception (end_answer (cancels_now R l.core.job) e) up
    (byte_by R l b (heard Hunting (Ended e)))
ending R l b e up u =
    let j = l.core.job in
    let held = take l.core.size l.frame in
    record {
      hunting = refl;
      reception = refl;
      line = ap (λ (y : List ℕ). y ++ pick (on_end e j).copy held []) (end_reply R e j) ∙ ap (λ (y : List ℕ). end_answer (cancels_now R j) e ++ y) (end_copy e j held);
      up = u;
    }

-- what the reader says of them
reads_short : (len : ℕ) → len < 3 → read (1 ∷ len ∷ []) ≡ Err refusal.Length
reads_short len k = simp (lt-ltb len 3 k)

eqb_turned : (a b : ℕ) → eqb a b ≡ eqb b a
eqb_turned a b = pick_by (λ (t : Bool). eqb a b ≡ t) (eqb b a) true false (λ e. eq-eqb a b (sym (eqb-true b a e))) (λ e. ne_eqb a b (λ q. eqb-false b a e (sym q))) ∙ same (eqb b a)
  where
    same : (t : Bool) → pick t true false ≡ t
    same true = refl
    same false = refl

abbrev reads_as : ℕ → ℕ → ℕ → Bool → Result Parts Refusal
reads_as kind command n right = pick right (pick (ltb 1 kind) (Err refusal.Kind) (Ok (frame_parts kind command n))) (Err refusal.Sum)

reads_measured : (xs : List ℕ) (len : ℕ) → get_or xs 0 0 ≡ 1 → get_or xs 1 0 ≡ len → 3 ≤ len → length xs ≡ len + 2 → read xs ≡ measured_of xs len
reads_measured xs len f c k n =
    let some : length xs ≡ 0 → ⊥ = λ e. omega arith in
    let more : length xs ≡ 1 → ⊥ = λ e. omega arith in
    simp (
      ne_eqb (length xs) 0 some,
      f,
      ne_eqb (length xs) 1 more,
      c,
      le-ltb len 3 k,
      le-ltb (length xs) (len + 2) (omega arith),
      le-ltb (len + 2) (length xs) (omega arith),
    )

reads_full : (len b x y : ℕ) (ps : List ℕ) → len ≡ length ps + 3
    → read (1 ∷ len ∷ x ∷ y ∷ (ps ++ (b ∷ []))) ≡ reads_as x y (len - 3) (eqb b (fold 255 (len ∷ x ∷ y ∷ ps)))
reads_full len b x y ps e =
    let xs : List ℕ = 1 ∷ len ∷ x ∷ y ∷ (ps ++ (b ∷ [])) in
    reads_measured xs len refl refl (omega arith) (omega (arith, length-append ps (b ∷ [])))
    ∙ ap₂ (λ (s : List ℕ) (c : ℕ). reads_as x y (len - 3) (eqb (fold 255 s) c))
    (take_at (len ∷ x ∷ y ∷ ps) (b ∷ []) len (omega arith))
    (get_or_at (1 ∷ len ∷ x ∷ y ∷ ps) b [] 0 (len + 1) (omega arith))
    ∙ ap (reads_as x y (len - 3)) (eqb_turned (fold 255 (len ∷ x ∷ y ∷ ps)) b)

-- a right Checksum, by the Type
abbrev RightEnds : Rules → Link → ℕ → ℕ → ℕ → ℕ → ℕ → List ℕ → Type 0
RightEnds R l b clock len x y ps =
    AsRead R l (1 ∷ len ∷ x ∷ y ∷ (ps ++ (b ∷ []))) (reads_as x y (len - 3) true) (byte_by R l b (heard Hunting (Ended (ended (partial_of clock len (x ∷ y ∷ ps))))))

body_up : (d : List ℕ) (b len x y : ℕ) (ps : List ℕ) → len ≡ length ps + 3 → take (suc (suc (length ps))) d ≡ x ∷ y ∷ ps
    → take (len - 1) d ≡ x ∷ y ∷ parameters_of (1 ∷ len ∷ x ∷ y ∷ (ps ++ (b ∷ []))) (len - 3)
body_up d b len x y ps e k =
    let n : len - 1 ≡ suc (suc (length ps)) = omega arith in
    ap (λ (i : ℕ). take i d) n ∙ k ∙ ap (λ (s : List ℕ). x ∷ y ∷ s) (sym (take_at ps (b ∷ []) (len - 3) (omega arith)))

-- Type 00 or 01: handed up, or cancelled
frame_ends : (x : Bool) (j : Job) (held : List ℕ) (kind command size : ℕ) (ps d : List ℕ) (o : Out) {r : Reception} → r ≡ frame_report kind command j → take size d ≡ kind ∷ command ∷ ps
    → Ending j held (pick x reception.Cancelled r) (pick x (CAN ∷ []) (ACK ∷ [])) (take (pick x 0 size) d) o → FrameEnds x j held kind command ps o
frame_ends true j held kind command size ps d o e u w = w
frame_ends false j held kind command size ps d o e u w =
    record { hunting = w.hunting; reception = w.reception ∙ e; line = w.line; up = w.up ∙ u }

reserved_ends : (R : Rules) (l : Link) (b clock len x y : ℕ) (ps : List ℕ) → 2 ≤ x → RightEnds R l b clock len x y ps
reserved_ends R l b clock len x y ps k =
    let xs : List ℕ = 1 ∷ len ∷ x ∷ y ∷ (ps ++ (b ∷ [])) in
    let p = partial_of clock len (x ∷ y ∷ ps) in
    let zeroth : x ≡ 0 → ⊥ = λ e. omega arith in
    let first : x ≡ 1 → ⊥ = λ e. omega arith in
    let e : ended p ≡ end.Reserved =
    ap (λ (t : Bool). pick t (end.Request (len - 1)) (pick (eqb x 1) (end.Response (len - 1) y) end.Reserved)) (ne_eqb x 0 zeroth)
    ∙ ap (λ (t : Bool). pick t (end.Response (len - 1) y) end.Reserved) (ne_eqb x 1 first) in
    subst (λ (t : Bool). AsRead R l xs (pick t (Err refusal.Kind) (Ok (frame_parts x y (len - 3)))) (byte_by R l b (heard Hunting (Ended (ended p))))) (sym (lt-ltb 1 x k))
    (subst (λ (z : End). AsRead R l xs (Err refusal.Kind) (byte_by R l b (heard Hunting (Ended z)))) (sym e) (ending R l b end.Reserved [] refl))

right_ends : (R : Rules) (l : Link) (b clock len x y : ℕ) (ps : List ℕ) → len ≡ length ps + 3 → take (suc (suc (length ps))) l.body ≡ x ∷ y ∷ ps
    → RightEnds R l b clock len x y ps
right_ends R l b clock len zero y ps e k =
    frame_ends (cancels_now R l.core.job) l.core.job _ 0 y (len - 1) _ l.body _ refl (body_up l.body b len 0 y ps e k) (ending R l b (end.Request (len - 1)) _ refl)
right_ends R l b clock len (suc zero) y ps e k =
    frame_ends (cancels_now R l.core.job) l.core.job _ 1 y (len - 1) _ l.body _ refl (body_up l.body b len 1 y ps e k) (ending R l b (end.Response (len - 1) y) _ refl)
right_ends R l b clock len (suc (suc x)) y ps e k = reserved_ends R l b clock len (suc (suc x)) y ps (omega arith)

-- right or not
sum_ends : (R : Rules) (l : Link) (b clock len x y : ℕ) (ps : List ℕ) (right : Bool) → len ≡ length ps + 3 → take (suc (suc (length ps))) l.body ≡ x ∷ y ∷ ps
    → AsRead R l (1 ∷ len ∷ x ∷ y ∷ (ps ++ (b ∷ []))) (reads_as x y (len - 3) right)
    (byte_by R l b (heard Hunting (Ended (pick right (ended (partial_of clock len (x ∷ y ∷ ps))) end.BadSum))))
sum_ends R l b clock len x y ps true e k = right_ends R l b clock len x y ps e k
sum_ends R l b clock len x y ps false e k = ending R l b end.BadSum [] refl

full_ends : (R : Rules) (l : Link) (b clock len : ℕ) (bs : List ℕ) → l.core.hearing ≡ Body (partial_of clock len bs) → 3 ≤ len → length bs + 1 ≡ len
    → take (length bs) l.body ≡ bs → AsRead R l (1 ∷ len ∷ (bs ++ (b ∷ []))) (read (1 ∷ len ∷ (bs ++ (b ∷ [])))) (byte_out R l b)
full_ends R l b clock len [] q k n d = absurd (omega arith)
full_ends R l b clock len (x ∷ []) q k n d = absurd (omega arith)
full_ends R l b clock len (x ∷ y ∷ ps) q k n d =
    let xs : List ℕ = 1 ∷ len ∷ x ∷ y ∷ (ps ++ (b ∷ [])) in
    let p = partial_of clock len (x ∷ y ∷ ps) in
    let e : len ≡ length ps + 3 = omega arith in
    subst (λ (r : Result Parts Refusal). AsRead R l xs r (byte_out R l b)) (sym (reads_full len b x y ps e))
    (subst (AsRead R l xs (reads_as x y (len - 3) (eqb b p.sum))) (sym (checked R l b p q (omega arith)))
    (sum_ends R l b clock len x y ps (eqb b p.sum) e d))

short_ends : (R : Rules) (l : Link) (b c : ℕ) → l.core.hearing ≡ Head c → b < 3 → AsRead R l (1 ∷ b ∷ []) (read (1 ∷ b ∷ [])) (byte_out R l b)
short_ends R l b c q k =
    let o : byte_out R l b ≡ byte_by R l b (heard Hunting (Ended end.BadLength)) =
    byte_at R l b (Head c) q ∙ ap (λ (x : Bool). byte_by R l b (pick x (heard Hunting (Ended end.BadLength)) (heard (Body (begun c b)) Inside))) (lt-ltb b 3 k) in
    subst (λ (r : Result Parts Refusal). AsRead R l (1 ∷ b ∷ []) r (byte_out R l b)) (sym (reads_short b k))
    (subst (AsRead R l (1 ∷ b ∷ []) (Err refusal.Length)) (sym o) (ending R l b end.BadLength [] refl))

last_hears : (R : Rules) (xs : List ℕ) (t b : ℕ) (l : Link) (h : Hearing) → l.core.hearing ≡ h → Whole xs → StandsAt xs t l.body (b ∷ []) h
    → AsRead R l xs (read xs) (byte_out R l b)
last_hears R xs t b l Hunting q w e = let v : length xs ≡ 1 = ap length e in let m : 1 < length xs = (starts xs w).1 in absurd (omega arith)
last_hears R xs t b l (Head c) q w e = by (measured xs [] b w e.1)
  where
    by : Measured b [] → AsRead R l xs (read xs) (byte_out R l b)
    by (small k n) = subst (λ (s : List ℕ). AsRead R l s (read s) (byte_out R l b)) (sym e.1) (short_ends R l b c q k)
    by (large k m n) = absurd (omega arith)
last_hears R xs t b l (Body p) q w e = by (measured xs (e.bs ++ (b ∷ [])) e.len w e.came)
  where
    by : Measured e.len (e.bs ++ (b ∷ [])) → AsRead R l xs (read xs) (byte_out R l b)
    by (small k n) = absurd (omega (arith, length-append e.bs (b ∷ [])))
    by (large k m n) =
        subst (λ (s : List ℕ). AsRead R l s (read s) (byte_out R l b)) (sym e.came)
        (full_ends R l b e.clock e.len e.bs (q ∙ ap Body e.is) k (sym (length-append e.bs (b ∷ [])) ∙ n) e.kept)

last_byte : (R : Rules) (xs : List ℕ) (t b : ℕ) (l : Link) → Whole xs → Expects xs t (b ∷ []) l → AsRead R l xs (read xs) (byte_out R l b)
last_byte R xs t b l w e = last_hears R xs t b l l.core.hearing refl w e.hears

same_sender : (R : Rules) (l z : Link) → SameSender l z → (xs : List ℕ) (r : Result Parts Refusal) (o : Out) → AsRead R z xs r o → AsRead R l xs r o
same_sender R l z s xs r o a =
    subst (λ (j : Job). EndsBy (cancels_now R j) j (take l.core.size l.frame) xs r o) s.job
    (subst (λ (held : List ℕ). EndsBy (cancels_now R z.core.job) z.core.job held xs r o) s.held a)

-- ---- the call that takes the last byte: a run takes it with quiet bytes before it, which leave the sender as it was
last_call : (R : Rules) (xs : List ℕ) (t : ℕ) (l : Link) (w : What) → Whole xs → 0 < length (taken_by R l w) → Expects xs t (taken_by R l w) l
    → AsRead R l xs (read xs) (out_of R l w)
last_call R xs t l (byte b) w n e = last_byte R xs t b l w e
last_call R xs t l (bytes []) w n e =
    let none : List ℕ = [] in
    let z : length (take (run_out R l []).taken none) ≡ 0 = ap length (take-nil (run_out R l []).taken) in
    absurd (omega arith)
last_call R xs t l (bytes (b ∷ bs)) w n e =
    let u = run_bytes R l b bs in
    let z = feed R l u.before in
    let s = quiet_sender R u.before l u.quiet in
    let f : Expects xs t (u.last ∷ []) z =
    feed_expects R xs t u.before (u.last ∷ []) l w (omega arith) (subst (λ (y : List ℕ). Expects xs t y l) (taken_is R l (b ∷ bs) (run_out R l (b ∷ bs)) u) e) in
    subst (AsRead R l xs (read xs)) (sym u.out)
    (same_sender R l z s xs (read xs) (byte_out R z u.last) (last_byte R xs t u.last z w f))
last_call R xs t l tick w n e = absurd (omega arith)
last_call R xs t l (send kind command ps) w n e = absurd (omega arith)
last_call R xs t l (session command ps) w n e = absurd (omega arith)
last_call R xs t l restart w n e = absurd (omega arith)

-- Bytes that come whole to a link that hunts end as bad length, bad sum, reserved or handed up, with the answer on the line, exactly as the frame reader reads them.
pub received_as_read : (R : Rules) (l : Link) (k : List Call) (c : Call) (o : Out) (xs : List ℕ) → l.core.hearing ≡ Hunting → length l.body ≡ MAX_BODY
    → ComesWhole R l k c xs → perform R (run R l k) c ≡ took o → AsRead R (run R l k) xs (read xs) o
received_as_read R l k c o xs q r w p =
    let z = run R l k in
    let a = accepted_is (room_checks c.line c.up (checks_of z c.what)) (out_of R z c.what) o p in
    subst (AsRead R z xs (read xs)) a.gave
    (last_call R xs (clock_in R l k) z c.what w.whole w.last
    (all_expect R xs k (taken_by R z c.what) l w.whole w.last w.restarts w.ticks w.bytes (begins xs l q r)))

-- and so after any history behind which the link hunts
pub history_as_read : (R : Rules) (h k : List Call) (c : Call) (o : Out) (xs : List ℕ) → (after R h).core.hearing ≡ Hunting
    → ComesWhole R (after R h) k c xs → perform R (run R (after R h) k) c ≡ took o → AsRead R (run R (after R h) k) xs (read xs) o
history_as_read R h k c o xs q w p = received_as_read R (after R h) k c o xs q (body_254 R h) w p

-- ---- the same, given one by one
pub fed_as_read : (R : Rules) (l : Link) (ys : List ℕ) (b : ℕ) → l.core.hearing ≡ Hunting → length l.body ≡ MAX_BODY → Whole (ys ++ (b ∷ []))
    → AsRead R l (ys ++ (b ∷ [])) (read (ys ++ (b ∷ []))) (byte_out R (feed R l ys) b)
fed_as_read R l ys b q r w =
    let xs = ys ++ (b ∷ []) in
    let e = begins xs l q r in
    same_sender R l (feed R l ys) (feed_sender R xs 0 ys (b ∷ []) l w (omega arith) e) xs (read xs) (byte_out R (feed R l ys) b)
    (last_byte R xs 0 b (feed R l ys) w (feed_expects R xs 0 ys (b ∷ []) l w (omega arith) e))

-- ---- and in one run, whatever stands behind them in it
ending_news : {j : Job} {held answer up : List ℕ} {r : Reception} {o : Out} → Ending j held r answer up o → news_reception r ≡ true → news o ≡ true
ending_news {o = o} e n = ap (λ (x : Bool). pick x true (pick (news_sending o.sending) true (pick (news_session o.session) true (news_reset o.reset)))) (ap news_reception e.reception ∙ n)

frame_news : (x : Bool) (j : Job) (held : List ℕ) (kind command : ℕ) (ps : List ℕ) (o : Out) → FrameEnds x j held kind command ps o → news o ≡ true
frame_news true j held kind command ps o e = ending_news e refl
frame_news false j held kind command ps o e =
    ending_news e
    (pick_ok (λ (x : Reception). news_reception x ≡ true) (eqb kind 0) _ _ refl
    (pick_ok (λ (x : Reception). news_reception x ≡ true) (awaits command j) _ _ refl refl))

as_read_news : (R : Rules) (l : Link) (xs : List ℕ) (r : Result Parts Refusal) (o : Out) → AsRead R l xs r o → news o ≡ true
as_read_news R l xs (Err refusal.Room) o e = absurd e
as_read_news R l xs (Err refusal.Busy) o e = absurd e
as_read_news R l xs (Err refusal.Kind) o e = ending_news e refl
as_read_news R l xs (Err refusal.Long) o e = absurd e
as_read_news R l xs (Err refusal.Short) o e = absurd e
as_read_news R l xs (Err refusal.Start) o e = absurd e
as_read_news R l xs (Err refusal.Length) o e = ending_news e refl
as_read_news R l xs (Err refusal.Tail) o e = absurd e
as_read_news R l xs (Err refusal.Sum) o e = ending_news e refl
as_read_news R l xs (Err refusal.Form) o e = absurd e
as_read_news R l xs (Err refusal.Range) o e = absurd e
as_read_news R l xs (Ok r) o e = frame_news (cancels_now R l.core.job) l.core.job _ r.kind r.command _ o e

from_as_read : (R : Rules) (xs : List ℕ) (t b : ℕ) (zs behind : List ℕ) (n : ℕ) (o : Out) → Whole xs → Expects xs t (b ∷ zs) o.link
    → RunAsRead R o.link xs (n + suc (length zs)) (run_from R o n (b ∷ (zs ++ behind)))
unfolding run_from
from_as_read R xs t b [] behind n o w e =
    let a = last_byte R xs t b o.link w e in
    pick_by (RunAsRead R o.link xs (n + 1)) (news (byte_out R o.link b)) _ _ (λ _. record { taken = refl; out = a })
    (λ f. absurd (false≢true (sym f ∙ as_read_news R o.link xs (read xs) (byte_out R o.link b) a)))
from_as_read R xs t b (z ∷ zs) behind n o w e =
    let f = byte_news R xs t b (z ∷ zs) o.link w (omega arith) e in
    let i = from_as_read R xs t z zs behind (n + 1) (byte_out R o.link b) w (byte_expects R xs t b (z ∷ zs) o.link w (omega arith) e) in
    let s = byte_sender R xs t b (z ∷ zs) o.link w (omega arith) e in
    pick_by (RunAsRead R o.link xs (n + suc (suc (length zs)))) (news (byte_out R o.link b)) _ _ (λ g. absurd (false≢true (sym f ∙ g)))
    (λ _. record { taken = i.taken ∙ omega arith; out = same_sender R o.link (byte_out R o.link b).link s xs (read xs) _ i.out })

-- it takes these bytes and no more
pub run_as_read : (R : Rules) (l : Link) (xs behind : List ℕ) → l.core.hearing ≡ Hunting → length l.body ≡ MAX_BODY → Whole xs
    → RunAsRead R l xs (length xs) (run_out R l (xs ++ behind))
run_as_read R l [] behind q r w = let m = (starts [] w).1 in absurd (omega (arith, m))
run_as_read R l (b ∷ zs) behind q r w =
    let u = from_as_read R (b ∷ zs) 0 b zs behind 0 (quiet l) w (begins (b ∷ zs) l q r) in
    record { taken = u.taken ∙ omega arith; out = u.out }
