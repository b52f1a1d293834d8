-- What every call keeps, every history keeps; so the clock of a frame stays in range.
-- Assumes nothing.
use Rattle.std.specs.Prelude.{Err, None, Ok, Option, Some}
use Prim.Native.Nat.{ℕ, ◌+◌, ◌≤◌}
use mathlib.Core.Path.{◌≡◌, refl}
use mathlib.Core.Bool.{false}
use mathlib.Core.List.{List, [], ◌∷◌}
use lib.ListN.{length}
use Rattle.frame.specs.Frame.{MAX_PARAMETERS, frame_of}
use Rattle.rules.specs.Rules.{Rules}
use Rattle.rules.specs.declared.Choice.{Choice}
use Rattle.job.specs.Job.{is_open}
use Rattle.link.specs.Link.{fresh_link}
use Rattle.link.specs.Out.{Out, Taken, byte_out, tick_out, open_out, restart_out, news, run_from, quiet}
use Rattle.step.specs.Checks.{send_own, session_own, room_checks, Checked, passes}
use Rattle.step.proofs.Passed.{room_passed, session_passed, send_passed}
use Rattle.link.specs.declared.link.Link.{Link}
use Rattle.history.specs.Perform.{What, byte, bytes, tick, send, session, restart, Call, checks_of, out_of, took, done_by, perform}
use Rattle.history.specs.History.{next, run, after}
use Rattle.history.specs.Ranges.{All, Comes, ComeAll}
use Rattle.history.proofs.Hearing.{InTime, byte_steps, tick_steps}
use Rattle.refusals.proofs.Picks.{pick_ok}

-- an accepted send or session found nothing open, and has at most 252 parameters
pub record Free (l : Link) (n : ℕ) : Type 0 where
  pub idle : is_open l.core.job ≡ false
  pub fits : n ≤ MAX_PARAMETERS

pub send_free : (l : Link) (kind n : ℕ) → send_own l.core.job kind n ≡ passes → Free l n
send_free l kind n e =
    let p = send_passed l.core.job kind n e in
    record { idle = p.0; fits = p.2 }

pub session_free : (l : Link) (n : ℕ) → session_own l.core.job n ≡ passes → Free l n
session_free l n e =
    let p = session_passed l.core.job n e in
    record { idle = p.0; fits = p.1 }

-- an accepted call passed its checks, and gave what the link's definitions say
pub record Accepted (c : Checked) (o o' : Out) : Type 0 where
  pub checks : c ≡ passes
  pub gave : o ≡ o'

pub accepted_is : (c : Checked) (o o' : Out) → done_by c o ≡ took o' → Accepted c o o'
accepted_is (Ok _) o o' e = record { checks = refl; gave = cc }
accepted_is (Err k) o o' e = record { checks = cc; gave = cc }

-- ---- a property of links that every accepted call keeps, where the bytes that come are all of a kind B
pub record Keeps (R : Rules) (B : ℕ → Type 0) (P : Link → Type 0) : Type 0 where
  pub byte : (l : Link) (b : ℕ) → B b → P l → P (byte_out R l b).link
  pub tick : (l : Link) → P l → P (tick_out R l).link
  pub begin : (l : Link) (a : Option ℕ) (kind command : ℕ) (ps : List ℕ) → length ps ≤ MAX_PARAMETERS → P l → P (open_out l a (frame_of kind command ps)).link
  pub fresh : (c : Choice) → P (fresh_link c)

module _ (R : Rules) (B : ℕ → Type 0) (P : Link → Type 0) (keeps : Keeps R B P) where
  run_keeps : (bs : List ℕ) (k : ℕ) (o : Out) → All B bs → P o.link → P (run_from R o k bs).out.link
  unfolding run_from
  run_keeps [] k o x p = p
  run_keeps (b ∷ bs) k o x p =
      let q : P (byte_out R o.link b).link = keeps.byte o.link b x.0 p in
      pick_ok (λ (z : Taken). P z.out.link) (news (byte_out R o.link b)) _ _ q (run_keeps bs (k + 1) (byte_out R o.link b) x.1 q)

  what_keeps : (l : Link) (w : What) → Comes B w → checks_of l w ≡ passes → P l → P (out_of R l w).link
  unfolding restart_out
  what_keeps l (byte b) x e p = keeps.byte l b x p
  what_keeps l (bytes bs) x e p = run_keeps bs 0 (quiet l) x p
  what_keeps l tick x e p = keeps.tick l p
  what_keeps l (send kind command ps) x e p = keeps.begin l None kind command ps (send_free l kind (length ps) e).fits p
  what_keeps l (session command ps) x e p = keeps.begin l (Some command) 0 command ps (session_free l (length ps) e).fits p
  what_keeps l restart x e p = keeps.fresh l.core.choice

  done_keeps : (l : Link) (c : Checked) (o : Out) → P l → (c ≡ passes → P o.link) → P (next l (done_by c o))
  done_keeps l (Ok _) o p q = q refl
  done_keeps l (Err k) o p q = p

  pub history_keeps : (h : List Call) (l : Link) → ComeAll B h → P l → P (run R l h)
  history_keeps [] l x p = p
  history_keeps (c ∷ h) l x p =
      history_keeps h (next l (perform R l c)) x.1
      (done_keeps l (room_checks c.line c.up (checks_of l c.what)) (out_of R l c.what) p
      (λ e. what_keeps l c.what x.0 (room_passed c.line c.up (checks_of l c.what) e).2 p))

  pub after_keeps : (h : List Call) → ComeAll B h → P (after R h)
  after_keeps h x = history_keeps h (fresh_link R.choice) x (keeps.fresh R.choice)

-- ---- any bytes
abbrev pub Any : ℕ → Type 0
Any b = Unit {0}

any_bytes : (bs : List ℕ) → All Any bs
any_bytes [] = tt
any_bytes (b ∷ bs) = (tt, any_bytes bs)

any_call : (w : What) → Comes Any w
any_call (byte b) = tt
any_call (bytes bs) = any_bytes bs
any_call tick = tt
any_call (send kind command ps) = tt
any_call (session command ps) = tt
any_call restart = tt

pub any_calls : (h : List Call) → ComeAll Any h
any_calls [] = tt
any_calls (c ∷ h) = (any_call c.what, any_calls h)

-- ---- the clock of a frame under reception stays below 1,501
time_keeps : (R : Rules) → Keeps R Any (λ (l : Link). InTime l.core.hearing)
unfolding byte_out tick_out open_out
time_keeps R =
    record {
      byte = λ l b x p. (byte_steps b l.core.hearing p).ok;
      tick = λ l p. (tick_steps l.core.hearing p).ok;
      begin = λ l a kind command ps n p. p;
      fresh = λ c. tt;
    }

pub in_time : (R : Rules) (h : List Call) → InTime (after R h).core.hearing
in_time R h = after_keeps R Any (λ (l : Link). InTime l.core.hearing) (time_keeps R) h (any_calls h)
