-- The ranges of the numbers in a link that comes from opening: no guard of the code is ever met on it.
-- Assumes nothing.
use Rattle.std.specs.Prelude.{ℕ, ◌≤◌, ◌<◌, ◌≡◌, List, [], ◌∷◌, length}
use Rattle.rules.specs.Rules.{Rules}
use Rattle.hearing.specs.declared.hearing.Partial.{Partial}
use Rattle.hearing.specs.declared.hearing.Hearing.{Hearing}
use Rattle.hearing.specs.declared.hearing.Hearing.TheVariants.{Hunting, Head, Body}
use Rattle.job.specs.declared.job.Job.{Job}
use Rattle.job.specs.declared.job.Job.TheVariants.{Idle, Due, Waiting, BackingOff, Awaiting}
use Rattle.link.specs.declared.link.Link.{Link}
use Rattle.history.specs.Perform.{What, byte, bytes, tick, send, session, restart, Call}
use Rattle.frame.specs.Frame.{MAX_BODY, MAX_FRAME}

-- ---- histories in which every received byte is of a kind B
abbrev pub All : (ℕ → Type 0) → List ℕ → Type 0
All B [] = Unit {0}
All B (b ∷ bs) = B b × All B bs

abbrev pub Comes : (ℕ → Type 0) → What → Type 0
Comes B (byte b) = B b
Comes B (bytes bs) = All B bs
Comes B tick = Unit {0}
Comes B (send kind command ps) = Unit {0}
Comes B (session command ps) = Unit {0}
Comes B restart = Unit {0}

abbrev pub ComeAll : (ℕ → Type 0) → List Call → Type 0
ComeAll B [] = Unit {0}
ComeAll B (c ∷ h) = Comes B c.what × ComeAll B h

abbrev pub IsByte : ℕ → Type 0
IsByte b = b < 256

-- ---- ranges
-- The clock stays below 1,501; a body has 2 to 254 bytes, and not more have come.
pub record PartialIn (p : Partial) : Type 0 where
  pub clock : p.clock ≤ 1500
  pub least : 2 ≤ p.size
  pub most : p.size ≤ MAX_BODY
  pub at : p.at ≤ p.size
  pub sum : p.sum < 256
  pub kind : p.kind < 256
  pub command : p.command < 256

abbrev pub HearingIn : Hearing → Type 0
HearingIn Hunting = Unit {0}
HearingIn (Head clock) = clock ≤ 1500
HearingIn (Body p) = PartialIn p

abbrev pub IsInside : Hearing → Type 0
IsInside Hunting = ⊥
IsInside (Head clock) = Unit {0}
IsInside (Body p) = Unit {0}

-- The copies are at most 4, and fewer than 4 while one is to come; a copy is due only inside a frame; no count of ticks is at its end.
-- Here most is the longest back-off of the rules.
abbrev pub JobIn : Rules → ℕ → ℕ → Hearing → Job → Type 0
JobIn R most size h Idle = Unit {0}
JobIn R most size h (Due a n) = (n < 4) × IsInside h
JobIn R most size h (Waiting a n e) = (0 < n) × (n ≤ 4) × (e < R.wait size)
JobIn R most size h (BackingOff a n b) = (0 < n) × (n < 4) × (0 < b) × (b ≤ most)
JobIn R most size h (Awaiting c n e) = (0 < n) × (n ≤ 4) × (e < 5000)

pub record InRange (R : Rules) (most : ℕ) (l : Link) : Type 0 where
  pub hearing : HearingIn l.core.hearing
  pub job : JobIn R most l.core.size l.core.hearing l.core.job
  pub bad : l.core.bad ≤ 2
  pub size : l.core.size ≤ MAX_FRAME
  pub body : length l.body ≡ MAX_BODY
  pub frame : length l.frame ≡ MAX_FRAME
