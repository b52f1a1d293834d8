-- The stand-in (document 02, P5): what the byte does that ends a frame which it cancels, and the same link as a host.
-- Assumes nothing.
use Rattle.std.specs.Prelude.{◌≡◌, true, [], ◌∷◌}
use Rattle.frame.specs.Frame.{CAN}
use Rattle.rules.specs.Rules.{Rules, chosen}
use Rattle.rules.specs.declared.Role.TheVariants.{Host}
use Rattle.hearing.specs.declared.hearing.Hearing.TheVariants.{Hunting}
use Rattle.report.specs.declared.Reception.TheVariants as reception
use Rattle.report.specs.declared.Reset.TheVariants as reset
use Rattle.report.specs.declared.Sending.TheVariants as sending
use Rattle.report.specs.declared.Session.TheVariants as session
use Rattle.link.specs.Out.{Out, news}
use Rattle.link.specs.declared.link.Link.{Link}

-- on the link l, giving o: "answered with 18, reported as cancelled and not handed up, and the run of bad sums still returns to 0"
pub record Cancels (l : Link) (o : Out) : Type 0 where
  pub hunting : o.link.core.hearing ≡ Hunting
  pub reception : o.reception ≡ reception.Cancelled
  pub line : o.line ≡ CAN ∷ []
  pub up : o.up ≡ []
  pub bad : o.link.core.bad ≡ 0
  -- the send or session goes on as it was, with the same copy and the same elapsed wait, and nothing is said of it
  pub job : o.link.core.job ≡ l.core.job
  pub sending : o.sending ≡ sending.Nothing
  pub session : o.session ≡ session.Nothing
  pub reset : o.reset ≡ reset.Nothing
  -- a run of bytes stops behind that byte
  pub news : news o ≡ true

-- the same rules of sending, for a host in the same mode
abbrev pub host_of : Rules → Rules
host_of R = chosen (record { role = Host; mode = R.choice.mode }) R
