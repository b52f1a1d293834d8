-- Section 11's errors to shut out, and section 4's answers: what a byte or a tick does inside a frame, on any link whatever.
-- Assumes nothing.
use Rattle.std.specs.Prelude.{ℕ, ◌+◌, ◌≤◌, ◌<◌, ◌≡◌, Bool, false, List, [], ◌∷◌, ◌++◌, take, Option}
use Rattle.frame.specs.Frame.{ACK, NAK, CAN}
use Rattle.hearing.specs.declared.hearing.Hearing.{Hearing}
use Rattle.hearing.specs.declared.hearing.Hearing.TheVariants.{Hunting, Head, Body}
use Rattle.hearing.specs.declared.hearing.End.{End}
use Rattle.hearing.specs.declared.hearing.End.TheVariants as end
use Rattle.job.specs.Job.{next_copy}
use Rattle.job.specs.declared.job.Job.{Job}
use Rattle.job.specs.declared.job.Job.TheVariants.{Due, Waiting}
use Rattle.refusals.specs.Pick.{pick}
use Rattle.rules.specs.Rules.{Rules}
use Rattle.sending.specs.Events.{awaited_by}
use Rattle.reception.specs.Said.{cancels, said_end}
use Rattle.report.specs.declared.Reception.TheVariants as reception
use Rattle.report.specs.declared.Reset.TheVariants as reset
use Rattle.report.specs.declared.Sending.{Sending}
use Rattle.report.specs.declared.Sending.TheVariants as sending
use Rattle.report.specs.declared.Session.TheVariants as session
use Rattle.link.specs.Out.{Out}
use Rattle.link.specs.declared.link.Link.{Link}
use Rattle.history.specs.Ranges.{IsInside}

abbrev pub clock_of : Hearing → ℕ
clock_of Hunting = 0
clock_of (Head c) = c
clock_of (Body p) = p.clock

-- ---- a byte inside a frame, on the link l, which gives o
-- It leaves the frame unended: nothing is said, put out or handed up, and the job is the same.
pub record GoesOn (l : Link) (o : Out) : Type 0 where
  pub inside : IsInside o.link.core.hearing
  -- "Starting the frame clock again at each byte: a slow line never aborts." It does not start again.
  pub clock : clock_of o.link.core.hearing ≡ clock_of l.core.hearing
  pub job : o.link.core.job ≡ l.core.job
  pub sending : o.sending ≡ sending.Nothing
  pub session : o.session ≡ session.Nothing
  pub reception : o.reception ≡ reception.Nothing
  pub reset : o.reset ≡ reset.Nothing
  pub line : o.line ≡ []
  pub up : o.up ≡ []

-- the sender says nothing, or puts out the copy that was due
abbrev pub NothingOrCopy : Sending → Type 0
NothingOrCopy sending.Nothing = Unit {0}
NothingOrCopy sending.Stray = ⊥
NothingOrCopy sending.Due = ⊥
NothingOrCopy (sending.Copy n) = Unit {0}
NothingOrCopy (sending.BackingOff t) = ⊥
NothingOrCopy (sending.Acknowledged n) = ⊥
NothingOrCopy (sending.Failed n) = ⊥
NothingOrCopy sending.Abandoned = ⊥

-- the byte ends the frame as e
pub record EndsAs (R : Rules) (l : Link) (o : Out) (e : End) : Type 0 where
  pub hunting : o.link.core.hearing ≡ Hunting
  pub sending : NothingOrCopy o.sending
  pub reception : o.reception ≡ (said_end R.choice.role e (awaited_by l.core.job)).reception
  -- a send that waits for its ACK waits on, whatever the byte is: a Checksum of 06, too
  pub waits : (a : Option ℕ) (n t : ℕ) → l.core.job ≡ Waiting a n t → o.link.core.job ≡ Waiting a n t

-- "Taking 06 inside a body as the awaited ACK." Inside a frame no byte is taken by the sender.
pub data InFrame (R : Rules) (l : Link) (o : Out) : Type 0 where
  unended : GoesOn l o → InFrame R l o
  ends : (e : End) → EndsAs R l o e → InFrame R l o

-- ---- a tick inside a frame
-- "Each tick inside a frame adds 1 to its clock. The tick that makes it 1,501 aborts the frame."
pub data Ticked (l : Link) (o : Out) : Type 0 where
  counts : IsInside o.link.core.hearing → clock_of o.link.core.hearing ≡ clock_of l.core.hearing + 1 → clock_of l.core.hearing < 1500 → Ticked l o
  aborts : o.link.core.hearing ≡ Hunting → o.reception ≡ reception.Abort → 1500 ≤ clock_of l.core.hearing → Ticked l o

-- ---- "Dropping a copy that came due inside a frame." The call that ends the reception, whichever end it is, puts it out behind the 06 or 15, if there is one.
pub record GoesOut (a : Option ℕ) (n : ℕ) (answer : List ℕ) (l : Link) (o : Out) : Type 0 where
  pub line : o.line ≡ answer ++ take l.core.size l.frame
  pub sending : o.sending ≡ sending.Copy (next_copy n)
  pub job : o.link.core.job ≡ Waiting a (next_copy n) 0

-- a link of these rules with this job cancels a frame of Type 00 or 01: a stand-in that waits for an ACK
abbrev pub cancels_now : Rules → Job → Bool
cancels_now R j = cancels R.choice.role (awaited_by j)

-- what a frame's end is answered with: "Checksum right: put out 06. Checksum wrong: put out 15. Length below 3: no byte is put out."
-- And a frame of Type 00 or 01 that is cancelled: 18.
abbrev pub end_answer : (cancelled : Bool) → End → List ℕ
end_answer x end.BadLength = []
end_answer x end.BadSum = NAK ∷ []
end_answer x end.Reserved = ACK ∷ []
end_answer x (end.Request size) = pick x (CAN ∷ []) (ACK ∷ [])
end_answer x (end.Response size command) = pick x (CAN ∷ []) (ACK ∷ [])

-- a byte inside a frame, with a copy due: nothing is cancelled
pub data DueByte (R : Rules) (a : Option ℕ) (n : ℕ) (l : Link) (o : Out) : Type 0 where
  stays : GoesOn l o → DueByte R a n l o
  leaves : (e : End) → EndsAs R l o e → GoesOut a n (end_answer false e) l o → DueByte R a n l o

-- and a tick: the copy stays due inside the frame, or goes out by the abort
pub data DueTick (a : Option ℕ) (n : ℕ) (l : Link) (o : Out) : Type 0 where
  still_due : IsInside o.link.core.hearing → o.link.core.job ≡ Due a n → DueTick a n l o
  out_by_abort : o.reception ≡ reception.Abort → GoesOut a n [] l o → DueTick a n l o

-- ---- the answers
-- bytes that are a copy of the held frame, or none
pub data AtMostCopy (l : Link) : List ℕ → Type 0 where
  no_copy : AtMostCopy l []
  one_copy : AtMostCopy l (take l.core.size l.frame)
