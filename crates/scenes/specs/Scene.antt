-- A scene: calls on a fresh link, each lent what it needs, and what is seen of them, with the ticks.
-- Assumes nothing.
use Rattle.std.specs.Prelude.{ℕ, zero, suc, ◌+◌, Bool, true, false, List, [], ◌∷◌, eqb, length}
use Rattle.refusals.specs.Pick.{pick}
use Rattle.refusals.specs.declared.Refusal.{Refusal}
use Rattle.rules.specs.Rules.{Rules}
use Rattle.link.specs.Link.{fresh_link}
use Rattle.link.specs.Out.{Out, news}
use Rattle.report.specs.declared.Reception.{Reception}
use Rattle.report.specs.declared.Reset.{Reset}
use Rattle.report.specs.declared.Sending.{Sending}
use Rattle.report.specs.declared.Session.{Session}
use Rattle.link.specs.declared.link.Link.{Link}
use Rattle.history.specs.Perform.{tick, Call, lent, Done, refused, took, perform}
use Rattle.history.specs.History.{next, one_tick, accepted}

-- n ticks and no byte
abbrev pub silence : ℕ → List Call
silence zero = []
silence (suc n) = lent tick ∷ silence n

-- what a call says, after so many accepted ticks in all: its report's four parts and the bytes for the line, or its refusal
pub data Seen : Type 0 where
  said : (ticks : ℕ) → Reception → Sending → Session → Reset → (line : List ℕ) → Seen
  refusal : (ticks : ℕ) → Refusal → Seen

-- A call is shown if its report is more than "nothing" or "skipped", and if it put out bytes.
abbrev pub is_shown : Out → Bool
is_shown o = pick (news o) true (pick (eqb (length o.line) 0) false true)

abbrev pub seen_done : ℕ → Done → List Seen → List Seen
seen_done t (refused k) rest = refusal t k ∷ rest
seen_done t (took o) rest = pick (is_shown o) (said t o.reception o.sending o.session o.reset o.line ∷ rest) rest

-- over these calls, from a link, with so many ticks before
abbrev pub seen_from : Rules → Link → ℕ → List Call → List Seen
seen_from R l t [] = []
seen_from R l t (c ∷ h) =
    seen_done (t + accepted (one_tick c.what) (perform R l c)) (perform R l c)
    (seen_from R (next l (perform R l c)) (t + accepted (one_tick c.what) (perform R l c)) h)

-- from opening
abbrev pub seen : Rules → List Call → List Seen
seen R h = seen_from R (fresh_link R.choice) 0 h
