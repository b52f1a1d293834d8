-- Section 7: a run of bytes equals the same bytes given one by one, as far as it takes them.
-- Assumes nothing.
use Prim.Native.Nat.{ℕ, ◌+◌}
use mathlib.Core.Path.{◌≡◌, refl, ap, sym, ◌∙◌}
use mathlib.Core.Bool.{false, false≢true}
use mathlib.Core.List.{List, [], ◌∷◌, ◌++◌, append-nil, append_assoc}
use native.Mathlib.Omega.{arith}
use lib.ListN.{take, length-append}
use lib.Seq.{take_at}
use Rattle.rules.specs.Rules.{Rules}
use Rattle.hearing.specs.Hearing.{hear_byte, keep}
use Rattle.link.specs.Out.{Out, Taken, byte_out, news, quiet, run_from, run_out}
use Rattle.job.specs.declared.job.Act.{Act}
use Rattle.link.specs.declared.link.Link.{Link}
use Rattle.history.specs.Received.{feed, fed_line, fed_up}
use Rattle.history.specs.Runs.{QuietByte, QuietAll, Until, SameSender}
use Rattle.history.proofs.Hearing.{no_tick}
use Rattle.refusals.proofs.Picks.{pick_by}
use Rattle.history.proofs.Links.{calm_byte, calm_line}

-- on any link
pub quiet_by_report : (R : Rules) (l : Link) (b : ℕ) → news (byte_out R l b) ≡ false → QuietByte l (byte_out R l b)
unfolding byte_out
quiet_by_report R l b e =
    let r = hear_byte b l.core.hearing in
    let m = calm_byte R l b r (no_tick b l.core.hearing) e in
    record {
      report = e;
      line = calm_line R l.core.size r.event l.core.job (take l.core.size l.frame) m;
      up = ap (λ (n : ℕ). take n (keep r.event b l.body)) m.none_up;
      job = ap (λ (x : Act). x.job) m.job;
      held = refl;
    }

until : (R : Rules) (bs : List ℕ) (b n : ℕ) (o : Out) → Until R o.link n (b ∷ bs) (run_from R o n (b ∷ bs))
unfolding run_from
until R [] b n o =
    pick_by (Until R o.link n (b ∷ [])) (news (byte_out R o.link b)) _ _
    (λ e. record { before = []; last = b; behind = []; parts = refl; quiet = tt; stops = λ _. refl; taken = refl; out = refl })
    (λ e. record { before = []; last = b; behind = []; parts = refl; quiet = tt; stops = λ _. refl; taken = refl; out = refl })
until R (c ∷ bs) b n o =
    pick_by (Until R o.link n (b ∷ c ∷ bs)) (news (byte_out R o.link b)) _ _
    (λ e. record { before = []; last = b; behind = c ∷ bs; parts = refl; quiet = tt; stops = λ f. absurd (false≢true (sym f ∙ e)); taken = refl; out = refl })
    (λ e.
    let u = until R bs c (n + 1) (byte_out R o.link b) in
    record {
      before = b ∷ u.before;
      last = u.last;
      behind = u.behind;
      parts = ap (λ (x : List ℕ). b ∷ x) u.parts;
      quiet = (quiet_by_report R o.link b e, u.quiet);
      stops = u.stops;
      taken = u.taken ∙ (omega arith);
      out = u.out;
    })

-- "An empty run takes 0 and reports nothing."
pub run_empty : (R : Rules) (l : Link) → run_out R l [] ≡ record { out = quiet l; taken = 0 }
unfolding run_from
run_empty R l = refl

pub run_bytes : (R : Rules) (l : Link) (b : ℕ) (bs : List ℕ) → Until R l 0 (b ∷ bs) (run_out R l (b ∷ bs))
run_bytes R l b bs = until R bs b 0 (quiet l)

pub feed_append : (R : Rules) (bs cs : List ℕ) (l : Link) → feed R l (bs ++ cs) ≡ feed R (feed R l bs) cs
feed_append R [] cs l = refl
feed_append R (b ∷ bs) cs l = feed_append R bs cs (byte_out R l b).link

-- the bytes taken
pub taken_is : (R : Rules) (l : Link) (bs : List ℕ) (t : Taken) (u : Until R l 0 bs t) → take t.taken bs ≡ u.before ++ (u.last ∷ [])
taken_is R l bs t u =
    let m = u.before ++ (u.last ∷ []) in
    ap (take t.taken) (u.parts ∙ sym (append_assoc u.before (u.last ∷ []) u.behind))
    ∙ take_at m u.behind t.taken (omega (arith, length-append u.before (u.last ∷ []), u.taken))

-- "It equals the same bytes given one by one": the link that it gives
pub run_feeds : (R : Rules) (l : Link) (bs : List ℕ) → (run_out R l bs).out.link ≡ feed R l (take (run_out R l bs).taken bs)
run_feeds R l [] = ap (λ (t : Taken). t.out.link) (run_empty R l) ∙ ap (λ (t : Taken). feed R l (take t.taken [])) (sym (run_empty R l))
run_feeds R l (b ∷ bs) =
    let t = run_out R l (b ∷ bs) in
    let u = run_bytes R l b bs in
    ap (λ (o : Out). o.link) u.out ∙ sym (feed_append R u.before (u.last ∷ []) l) ∙ ap (feed R l) (sym (taken_is R l (b ∷ bs) t u))

-- what the bytes before the last put out and hand up is nothing
quiet_line : (R : Rules) (bs cs : List ℕ) (l : Link) → QuietAll R l bs → fed_line R l (bs ++ cs) ≡ fed_line R (feed R l bs) cs
quiet_line R [] cs l q = refl
quiet_line R (b ∷ bs) cs l q =
    let z = (byte_out R l b).link in
    ap (λ (x : List ℕ). x ++ fed_line R z (bs ++ cs)) q.0.line ∙ quiet_line R bs cs z q.1

quiet_up : (R : Rules) (bs cs : List ℕ) (l : Link) → QuietAll R l bs → fed_up R l (bs ++ cs) ≡ fed_up R (feed R l bs) cs
quiet_up R [] cs l q = refl
quiet_up R (b ∷ bs) cs l q =
    let z = (byte_out R l b).link in
    ap (λ (x : List ℕ). x ++ fed_up R z (bs ++ cs)) q.0.up ∙ quiet_up R bs cs z q.1

-- "It equals the same bytes given one by one": the bytes that it puts out
pub run_lines : (R : Rules) (l : Link) (bs : List ℕ) → (run_out R l bs).out.line ≡ fed_line R l (take (run_out R l bs).taken bs)
run_lines R l [] = ap (λ (t : Taken). t.out.line) (run_empty R l) ∙ ap (λ (t : Taken). fed_line R l (take t.taken [])) (sym (run_empty R l))
run_lines R l (b ∷ bs) =
    let u = run_bytes R l b bs in
    ap (λ (o : Out). o.line) u.out ∙ sym (append-nil _) ∙ sym (quiet_line R u.before (u.last ∷ []) l u.quiet)
    ∙ ap (fed_line R l) (sym (taken_is R l (b ∷ bs) (run_out R l (b ∷ bs)) u))

-- and those that it hands up
pub run_ups : (R : Rules) (l : Link) (bs : List ℕ) → (run_out R l bs).out.up ≡ fed_up R l (take (run_out R l bs).taken bs)
run_ups R l [] = ap (λ (t : Taken). t.out.up) (run_empty R l) ∙ ap (λ (t : Taken). fed_up R l (take t.taken [])) (sym (run_empty R l))
run_ups R l (b ∷ bs) =
    let u = run_bytes R l b bs in
    ap (λ (o : Out). o.up) u.out ∙ sym (append-nil _) ∙ sym (quiet_up R u.before (u.last ∷ []) l u.quiet)
    ∙ ap (fed_up R l) (sym (taken_is R l (b ∷ bs) (run_out R l (b ∷ bs)) u))

-- the sender behind quiet bytes is the one before them
pub quiet_sender : (R : Rules) (bs : List ℕ) (l : Link) → QuietAll R l bs → SameSender l (feed R l bs)
quiet_sender R [] l q = record { job = refl; held = refl }
quiet_sender R (b ∷ bs) l q =
    let s = quiet_sender R bs (byte_out R l b).link q.1 in
    record { job = s.job ∙ q.0.job; held = s.held ∙ q.0.held }
