-- Section 7: a run of bytes, and the same bytes given one by one.
-- Assumes nothing.
use Rattle.std.specs.Prelude.{ℕ, suc, ◌+◌, ◌≡◌, false, List, [], ◌∷◌, ◌++◌, length, take}
use Rattle.rules.specs.Rules.{Rules}
use Rattle.link.specs.Out.{Out, Taken, byte_out, news}
use Rattle.link.specs.declared.link.Link.{Link}
use Rattle.history.specs.Received.{feed}

-- a byte's report is no more than "nothing" or "skipped": it put out nothing and handed up nothing, and left the sender as it was
pub record QuietByte (l : Link) (o : Out) : Type 0 where
  pub report : news o ≡ false
  pub line : o.line ≡ []
  pub up : o.up ≡ []
  pub job : o.link.core.job ≡ l.core.job
  pub held : take o.link.core.size o.link.frame ≡ take l.core.size l.frame

-- so are all of these bytes, given one by one
abbrev pub QuietAll : Rules → Link → List ℕ → Type 0
QuietAll R l [] = Unit {0}
QuietAll R l (b ∷ bs) = QuietByte l (byte_out R l b) × QuietAll R (byte_out R l b).link bs

-- "A run of bytes stops behind the first byte whose report is more than "nothing" or "skipped" and says how many were taken; its report is that of the last byte taken."
pub record Until (R : Rules) (l : Link) (n : ℕ) (bs : List ℕ) (t : Taken) : Type 0 where
  pub before : List ℕ
  pub last : ℕ
  pub behind : List ℕ
  pub parts : bs ≡ before ++ (last ∷ behind)
  pub quiet : QuietAll R l before
  -- it stops only at the end or behind news
  pub stops : news (byte_out R (feed R l before) last) ≡ false → behind ≡ []
  pub taken : t.taken ≡ n + suc (length before)
  pub out : t.out ≡ byte_out R (feed R l before) last

-- the sender behind quiet bytes is the one before them
pub record SameSender (l l' : Link) : Type 0 where
  pub job : l'.core.job ≡ l.core.job
  pub held : take l'.core.size l'.frame ≡ take l.core.size l.frame
