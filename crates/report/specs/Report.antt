-- Section 7: which cases of a report's parts are more than "nothing" or "skipped", at which a run of bytes stops.
-- Assumes nothing.
use Rattle.std.specs.Prelude.{Bool, true, false}
use Rattle.report.specs.declared.Reception.{Reception}
use Rattle.report.specs.declared.Reception.TheVariants as reception
use Rattle.report.specs.declared.Sending.{Sending}
use Rattle.report.specs.declared.Sending.TheVariants as sending
use Rattle.report.specs.declared.Session.{Session}
use Rattle.report.specs.declared.Session.TheVariants as session
use Rattle.report.specs.declared.Reset.{Reset}
use Rattle.report.specs.declared.Reset.TheVariants as reset

abbrev pub news_reception : Reception → Bool
news_reception reception.Nothing = false
news_reception reception.Skipped = false
news_reception reception.BadLength = true
news_reception reception.Frame = true
news_reception reception.Reserved = true
news_reception reception.BadSum = true
news_reception reception.Abort = true
news_reception reception.StrayResponse = true
news_reception reception.Cancelled = true

abbrev pub news_sending : Sending → Bool
news_sending sending.Nothing = false
news_sending sending.Stray = true
news_sending sending.Due = true
news_sending (sending.Copy n) = true
news_sending (sending.BackingOff t) = true
news_sending (sending.Acknowledged n) = true
news_sending (sending.Failed n) = true
news_sending sending.Abandoned = true

abbrev pub news_session : Session → Bool
news_session session.Nothing = false
news_session session.Waiting = true
news_session (session.Response n) = true
news_session (session.NoResponse n) = true
news_session (session.NotSent n) = true
news_session session.Abandoned = true

abbrev pub news_reset : Reset → Bool
news_reset reset.Nothing = false
news_reset reset.Sums = true
news_reset reset.Delivery = true
