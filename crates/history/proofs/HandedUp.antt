-- In any history, what a byte hands up is the body of a frame that the frame reader accepts, and whose bytes are the last received.
-- Assumes nothing.
use Rattle.std.specs.Prelude.{Err, Ok}
use Prim.Native.Nat.{ℕ, zero, suc, ◌+◌, ◌-◌, ◌≤◌, ◌<◌}
use mathlib.Core.Path.{◌≡◌, refl, ap, sym, ◌∙◌, subst}
use mathlib.Core.Bool.{Bool, true, false}
use mathlib.Core.List.{List, [], ◌∷◌, ◌++◌, append-nil, append_assoc}
use native.Mathlib.Omega.{arith}
use lib.Dec.{ltb, eqb}
use lib.ListN.{length, take, length-append}
use borrow.Author.Tests.{ltb-true, ltb-false, eqb-true}
use Rattle.refusals.specs.Pick.{pick}
use Rattle.frame.specs.Bytes.{fold}
use Rattle.frame.specs.Frame.{frame_of}
use Rattle.reading.proofs.Theorems.{built_reads}
use Rattle.rules.specs.Rules.{Rules}
use Rattle.rules.specs.declared.Choice.{Choice}
use Rattle.hearing.specs.Hearing.{heard, hear_byte, hear_tick, hunted, more, ended, later, keep}
use Rattle.link.specs.Link.{fresh_link, no_body}
use Rattle.link.specs.Out.{Out, Taken, byte_by, byte_out, tick_out, open_out, restart_out, run_out, heard_out}
use Rattle.step.specs.Checks.{room_checks, Checked}
use Rattle.hearing.specs.declared.hearing.Partial.{Partial}
use Rattle.hearing.specs.declared.hearing.Hearing.{Hearing}
use Rattle.hearing.specs.declared.hearing.Hearing.TheVariants.{Hunting, Head, Body}
use Rattle.hearing.specs.declared.hearing.End.{End}
use Rattle.hearing.specs.declared.hearing.Event.TheVariants.{Ended}
use Rattle.hearing.specs.declared.hearing.Heard.{Heard}
use Rattle.link.specs.declared.link.Link.{Link}
use Rattle.history.specs.Perform.{What, byte, bytes, tick, send, session, restart, Call, checks_of, out_of, done_by, perform}
use Rattle.history.specs.History.{next, run, after}
use Rattle.history.specs.Ranges.{All, Comes, ComeAll, IsByte}
use Rattle.history.specs.Received.{feed, taken_by, if_taken, received}
use Rattle.history.specs.Section11.{cancels_now}
use Rattle.history.specs.HandedUp.{FrameUp, HandedUp, nothing, frame}
use Rattle.refusals.proofs.Picks.{pick_by, pick_ok}
use Rattle.hearing.proofs.Theorems.{keep_length}
use Rattle.history.proofs.Bodies.{partial_of, begun_is, more_is, kept_more}
use Rattle.history.proofs.Runs.{run_empty, run_bytes, taken_is, run_feeds}

-- ---- the frame under reception is made of the last bytes received; d is the link's body array
record InBody (xs d : List ℕ) (p : Partial) : Type 0 where
  before : List ℕ
  len : ℕ
  bs : List ℕ
  came : xs ≡ before ++ (1 ∷ len ∷ bs)
  clock : ℕ
  is : p ≡ partial_of clock len bs
  least : 3 ≤ len
  most : len ≤ 255
  fits : length bs ≤ len - 1
  kept : take (length bs) d ≡ bs

abbrev TraceIn : List ℕ → List ℕ → Hearing → Type 0
TraceIn xs d Hunting = Unit {0}
TraceIn xs d (Head clock) = (before : List ℕ) × (xs ≡ before ++ (1 ∷ []))
TraceIn xs d (Body p) = InBody xs d p

record Traced (xs : List ℕ) (l : Link) : Type 0 where
  hears : TraceIn xs l.body l.core.hearing
  body : length l.body ≡ 254

-- ---- a byte
abbrev TraceAfter : List ℕ → List ℕ → ℕ → Heard → Type 0
TraceAfter xs d b r = TraceIn (xs ++ (b ∷ [])) (keep r.event b d) r.hearing

hunted_hears : (xs d : List ℕ) (b : ℕ) → TraceAfter xs d b (hunted b)
hunted_hears xs d b =
    pick_by (TraceAfter xs d b) (eqb b 1) _ _ (λ e. (xs, ap (λ (y : ℕ). xs ++ (y ∷ [])) (eqb-true b 1 e)))
    (λ _. pick_ok (TraceAfter xs d b) (eqb b 6) _ _ tt (pick_ok (TraceAfter xs d b) (eqb b 21) _ _ tt (pick_ok (TraceAfter xs d b) (eqb b 24) _ _ tt tt)))

came_more : (xs before ys : List ℕ) (b : ℕ) → xs ≡ before ++ ys → xs ++ (b ∷ []) ≡ before ++ (ys ++ (b ∷ []))
came_more xs before ys b e = ap (λ (z : List ℕ). z ++ (b ∷ [])) e ∙ append_assoc before ys (b ∷ [])

byte_hears : (xs d : List ℕ) (b : ℕ) (h : Hearing) → IsByte b → length d ≡ 254 → TraceIn xs d h → TraceAfter xs d b (hear_byte b h)
byte_hears xs d b Hunting x r t = hunted_hears xs d b
byte_hears xs d b (Head clock) x r t =
    pick_by (TraceAfter xs d b) (ltb b 3) _ _ (λ _. tt)
    (λ e.
    let v : 3 ≤ b = ltb-false b 3 e in
    record {
      before = t.0;
      len = b;
      bs = [];
      came = came_more xs t.0 (1 ∷ []) b t.1;
      clock = clock;
      is = begun_is clock b;
      least = v;
      most = omega arith;
      fits = omega arith;
      kept = refl;
    })
byte_hears xs d b (Body p) x r t =
    let at : p.at ≡ length t.bs = ap (λ (q : Partial). q.at) t.is in
    let size : p.size ≡ t.len - 1 = ap (λ (q : Partial). q.size) t.is in
    pick_by (TraceAfter xs d b) (ltb p.at p.size) _ _
    (λ e.
    let v : p.at < p.size = ltb-true _ _ e in
    record {
      before = t.before;
      len = t.len;
      bs = t.bs ++ (b ∷ []);
      came = came_more xs t.before (1 ∷ t.len ∷ t.bs) b t.came;
      clock = t.clock;
      is = ap (λ (q : Partial). more q b) t.is ∙ more_is t.clock t.len t.bs b;
      least = t.least;
      most = t.most;
      fits = omega (arith, length-append t.bs (b ∷ []));
      kept = kept_more d t.bs p.at b at (omega (arith, t.most)) t.kept;
    })
    (λ _. tt)

byte_traced : (R : Rules) (xs : List ℕ) (l : Link) (b : ℕ) → IsByte b → Traced xs l → Traced (xs ++ (b ∷ [])) (byte_out R l b).link
unfolding byte_out
byte_traced R xs l b x t =
    record {
      hears = byte_hears xs l.body b l.core.hearing x t.body t.hears;
      body = keep_length (hear_byte b l.core.hearing).event b l.body ∙ t.body;
    }

feed_traced : (R : Rules) (bs xs : List ℕ) (l : Link) → All IsByte bs → Traced xs l → Traced (xs ++ bs) (feed R l bs)
feed_traced R [] xs l x t = subst (λ (z : List ℕ). Traced z l) (sym (append-nil xs)) t
feed_traced R (b ∷ bs) xs l x t =
    subst (λ (z : List ℕ). Traced z (feed R (byte_out R l b).link bs)) (append_assoc xs (b ∷ []) bs)
    (feed_traced R bs (xs ++ (b ∷ [])) (byte_out R l b).link x.1 (byte_traced R xs l b x.0 t))

-- ---- a tick
abbrev TickHears : List ℕ → List ℕ → Heard → Type 0
TickHears xs d r = TraceIn xs d r.hearing

tick_hears : (xs d : List ℕ) (h : Hearing) → TraceIn xs d h → TickHears xs d (hear_tick h)
tick_hears xs d Hunting t = tt
tick_hears xs d (Head c) t = pick_ok (TickHears xs d) (ltb (c + 1) 1501) _ _ t tt
tick_hears xs d (Body p) t =
    pick_ok (TickHears xs d) (ltb (p.clock + 1) 1501) _ _
    (record {
      before = t.before;
      len = t.len;
      bs = t.bs;
      came = t.came;
      clock = t.clock + 1;
      is = ap later t.is;
      least = t.least;
      most = t.most;
      fits = t.fits;
      kept = t.kept;
    })
    tt

-- ---- every call, and every history
same_bytes : (xs : List ℕ) (l : Link) → Traced xs l → Traced (xs ++ []) l
same_bytes xs l t = subst (λ (z : List ℕ). Traced z l) (sym (append-nil xs)) t

all_take : (B : ℕ → Type 0) (n : ℕ) (bs : List ℕ) → All B bs → All B (take n bs)
all_take B zero bs x = tt
all_take B (suc n) [] x = tt
all_take B (suc n) (b ∷ bs) x = (x.0, all_take B n bs x.1)

what_traced : (R : Rules) (xs : List ℕ) (l : Link) (w : What) → Comes IsByte w → Traced xs l → Traced (xs ++ taken_by R l w) (out_of R l w).link
unfolding tick_out open_out restart_out no_body
what_traced R xs l (byte b) x t = byte_traced R xs l b x t
what_traced R xs l (bytes bs) x t =
    let n = (run_out R l bs).taken in
    subst (Traced (xs ++ take n bs)) (sym (run_feeds R l bs)) (feed_traced R (take n bs) xs l (all_take IsByte n bs x) t)
what_traced R xs l tick x t = same_bytes xs _ (record { hears = tick_hears xs l.body l.core.hearing t.hears; body = t.body })
what_traced R xs l (send kind command ps) x t = same_bytes xs _ (record { hears = t.hears; body = t.body })
what_traced R xs l (session command ps) x t = same_bytes xs _ (record { hears = t.hears; body = t.body })
what_traced R xs l restart x t = same_bytes xs _ (record { hears = tt; body = refl })

done_traced : (xs bs : List ℕ) (l : Link) (c : Checked) (o : Out) → Traced xs l → Traced (xs ++ bs) o.link → Traced (xs ++ if_taken (done_by c o) bs) (next l (done_by c o))
done_traced xs bs l (Ok _) o t u = u
done_traced xs bs l (Err k) o t u = same_bytes xs l t

history_traced : (R : Rules) (h : List Call) (xs : List ℕ) (l : Link) → ComeAll IsByte h → Traced xs l → Traced (xs ++ received R l h) (run R l h)
history_traced R [] xs l x t = same_bytes xs l t
history_traced R (c ∷ h) xs l x t =
    let ys = if_taken (perform R l c) (taken_by R l c.what) in
    let z = next l (perform R l c) in
    subst (λ (y : List ℕ). Traced y (run R z h)) (append_assoc xs ys (received R z h))
    (history_traced R h (xs ++ ys) z x.1
    (done_traced xs (taken_by R l c.what) l (room_checks c.line c.up (checks_of l c.what)) (out_of R l c.what) t (what_traced R xs l c.what x.0 t)))

fresh_traced : (c : Choice) → Traced [] (fresh_link c)
unfolding no_body
fresh_traced c = record { hears = tt; body = refl }

-- ---- the byte that hands up
-- the body is whole and the Checksum right: the last bytes are a frame
record WholeFrame (xs d : List ℕ) (p : Partial) : Type 0 where
  before : List ℕ
  kind : ℕ
  command : ℕ
  ps : List ℕ
  came : xs ≡ before ++ frame_of kind command ps
  body : take p.size d ≡ kind ∷ command ∷ ps
  type : p.kind ≡ kind

whole_by : (xs d before : List ℕ) (len clock b : ℕ) (bs : List ℕ) → xs ≡ before ++ (1 ∷ len ∷ bs) → 3 ≤ len → length bs ≡ len - 1 → take (length bs) d ≡ bs
    → b ≡ fold 255 (len ∷ bs) → WholeFrame (xs ++ (b ∷ [])) d (partial_of clock len bs)
unfolding frame_of
whole_by xs d before len clock b [] c k n e q = absurd (omega arith)
whole_by xs d before len clock b (x ∷ []) c k n e q = absurd (omega arith)
whole_by xs d before len clock b (x ∷ y ∷ ps) c k n e q =
    let m : len ≡ length ps + 3 = omega arith in
    record {
      before = before;
      kind = x;
      command = y;
      ps = ps;
      came =
          came_more xs before (1 ∷ len ∷ x ∷ y ∷ ps) b c
          ∙ ap (λ (z : ℕ). before ++ (1 ∷ len ∷ x ∷ y ∷ (ps ++ (z ∷ [])))) q
          ∙ ap (λ (z : ℕ). before ++ (1 ∷ z ∷ x ∷ y ∷ (ps ++ (fold 255 (z ∷ x ∷ y ∷ ps) ∷ [])))) m;
      body = ap (λ (i : ℕ). take i d) (sym n) ∙ e;
      type = refl;
    }

whole : (xs d : List ℕ) (p : Partial) (b : ℕ) → InBody xs d p → p.size ≤ p.at → b ≡ p.sum → WholeFrame (xs ++ (b ∷ [])) d p
whole xs d p b t k q =
    let at : p.at ≡ length t.bs = ap (λ (z : Partial). z.at) t.is in
    let size : p.size ≡ t.len - 1 = ap (λ (z : Partial). z.size) t.is in
    subst (WholeFrame (xs ++ (b ∷ [])) d) (sym t.is)
    (whole_by xs d t.before t.len t.clock b t.bs t.came t.least (omega (arith, t.fits)) t.kept (q ∙ ap (λ (z : Partial). z.sum) t.is))

frame_up : (xs : List ℕ) (p : Partial) (d : List ℕ) (o : Out) → WholeFrame xs d p → p.kind ≤ 1 → o.up ≡ take p.size d → FrameUp xs o
frame_up xs p d o w k u =
    record {
      before = w.before;
      kind = w.kind;
      command = w.command;
      ps = w.ps;
      came = w.came;
      reads = (built_reads w.kind w.command w.ps (omega (arith, w.type))).0;
      up = u ∙ w.body;
    }

-- or the frame is cancelled, and nothing is handed up
up_or_none : (xs : List ℕ) (p : Partial) (d : List ℕ) (o : Out) (x : Bool) → WholeFrame xs d p → p.kind ≤ 1 → o.up ≡ take (pick x 0 p.size) d → HandedUp xs o
up_or_none xs p d o true w k u = nothing u
up_or_none xs p d o false w k u = frame (frame_up xs p d o w k u)

abbrev Hands : List ℕ → Rules → Link → ℕ → Heard → Type 0
Hands xs R l b r = HandedUp (xs ++ (b ∷ [])) (byte_by R l b r)

right_hands : (xs : List ℕ) (R : Rules) (l : Link) (b : ℕ) (p : Partial) → WholeFrame (xs ++ (b ∷ [])) l.body p → Hands xs R l b (heard Hunting (Ended (ended p)))
right_hands xs R l b p w =
    pick_by (λ (e : End). Hands xs R l b (heard Hunting (Ended e))) (eqb p.kind 0) _ _
    (λ e. let k : p.kind ≡ 0 = eqb-true _ _ e in up_or_none _ p l.body _ (cancels_now R l.core.job) w (omega arith) refl)
    (λ _.
    pick_by (λ (e : End). Hands xs R l b (heard Hunting (Ended e))) (eqb p.kind 1) _ _
    (λ e. let k : p.kind ≡ 1 = eqb-true _ _ e in up_or_none _ p l.body _ (cancels_now R l.core.job) w (omega arith) refl)
    (λ _. nothing refl))

hands : (xs : List ℕ) (R : Rules) (l : Link) (b : ℕ) (h : Hearing) → TraceIn xs l.body h → Hands xs R l b (hear_byte b h)
hands xs R l b Hunting t =
    pick_ok (Hands xs R l b) (eqb b 1) _ _ (nothing refl)
    (pick_ok (Hands xs R l b) (eqb b 6) _ _ (nothing refl) (pick_ok (Hands xs R l b) (eqb b 21) _ _ (nothing refl) (pick_ok (Hands xs R l b) (eqb b 24) _ _ (nothing refl) (nothing refl))))
hands xs R l b (Head c) t = pick_ok (Hands xs R l b) (ltb b 3) _ _ (nothing refl) (nothing refl)
hands xs R l b (Body p) t =
    pick_by (Hands xs R l b) (ltb p.at p.size) _ _ (λ _. nothing refl)
    (λ e.
    pick_by (λ (z : End). Hands xs R l b (heard Hunting (Ended z))) (eqb b p.sum) _ _
    (λ s. right_hands xs R l b p (whole xs l.body p b t (ltb-false _ _ e) (eqb-true _ _ s))) (λ _. nothing refl))

byte_hands : (R : Rules) (xs : List ℕ) (l : Link) (b : ℕ) → Traced xs l → HandedUp (xs ++ (b ∷ [])) (byte_out R l b)
unfolding byte_out
byte_hands R xs l b t = hands xs R l b l.core.hearing t.hears

all_front : (B : ℕ → Type 0) (bs cs : List ℕ) → All B (bs ++ cs) → All B bs
all_front B [] cs x = tt
all_front B (b ∷ bs) cs x = (x.0, all_front B bs cs x.1)

run_hands : (R : Rules) (xs : List ℕ) (l : Link) (bs : List ℕ) → All IsByte bs → Traced xs l → HandedUp (xs ++ take (run_out R l bs).taken bs) (run_out R l bs).out
run_hands R xs l [] x t = nothing (ap (λ (z : Taken). z.out.up) (run_empty R l))
run_hands R xs l (b ∷ bs) x t =
    let u = run_bytes R l b bs in
    let k = feed_traced R u.before xs l (all_front IsByte u.before (u.last ∷ u.behind) (subst (All IsByte) u.parts x)) t in
    subst (λ (o : Out). HandedUp (xs ++ take (run_out R l (b ∷ bs)).taken (b ∷ bs)) o) (sym u.out)
    (subst (λ (ys : List ℕ). HandedUp ys (byte_out R (feed R l u.before) u.last))
    (append_assoc xs u.before (u.last ∷ []) ∙ ap (λ (z : List ℕ). xs ++ z) (sym (taken_is R l (b ∷ bs) (run_out R l (b ∷ bs)) u)))
    (byte_hands R (xs ++ u.before) (feed R l u.before) u.last k))

abbrev HandsNone : Rules → Link → Heard → Type 0
HandsNone R l r = (heard_out R l.core l.body l.frame r).up ≡ []

tick_hands : (R : Rules) (l : Link) (h : Hearing) → HandsNone R l (hear_tick h)
tick_hands R l Hunting = refl
tick_hands R l (Head c) = pick_ok (HandsNone R l) (ltb (c + 1) 1501) _ _ refl refl
tick_hands R l (Body p) = pick_ok (HandsNone R l) (ltb (p.clock + 1) 1501) _ _ refl refl

what_hands : (R : Rules) (xs : List ℕ) (l : Link) (w : What) → Comes IsByte w → Traced xs l → HandedUp (xs ++ taken_by R l w) (out_of R l w)
unfolding tick_out open_out restart_out
what_hands R xs l (byte b) x t = byte_hands R xs l b t
what_hands R xs l (bytes bs) x t = run_hands R xs l bs x t
what_hands R xs l tick x t = nothing (tick_hands R l l.core.hearing)
what_hands R xs l (send kind command ps) x t = nothing refl
what_hands R xs l (session command ps) x t = nothing refl
what_hands R xs l restart x t = nothing refl

-- After any history, any call hands up nothing, or the body of a frame that the frame reader accepts and whose bytes are the last received.
pub handed_up : (R : Rules) (h : List Call) (w : What) → ComeAll IsByte h → Comes IsByte w → HandedUp (received R (fresh_link R.choice) h ++ taken_by R (after R h) w) (out_of R (after R h) w)
handed_up R h w x y =
    let l = fresh_link R.choice in
    what_hands R (received R l h) (after R h) w y (history_traced R h [] l x (fresh_traced R.choice))
