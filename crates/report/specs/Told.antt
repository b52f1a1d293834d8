-- Section 7: each case of a report's four parts by its place in the lists there, from 0, and its value (0 where a case has none).
-- Assumes nothing.
use Rattle.std.specs.Prelude.{ℕ, List, [], ◌∷◌}
use Rattle.report.specs.declared.Reset.{Reset}
use Rattle.report.specs.declared.Reset.TheVariants as reset
use Rattle.report.specs.declared.Sending.{Sending}
use Rattle.report.specs.declared.Sending.TheVariants as sending
use Rattle.report.specs.declared.Session.{Session}
use Rattle.report.specs.declared.Session.TheVariants as session
use Rattle.report.specs.declared.Reception.{Reception}
use Rattle.report.specs.declared.Reception.TheVariants as reception
use Rattle.report.specs.declared.Report.{Report}

-- Reception: nothing, skipped, the ends of section 4, stray response; and cancelled, which a stand-in says in their place.
abbrev pub reception_case : Reception → ℕ
reception_case reception.Nothing = 0
reception_case reception.Skipped = 1
reception_case reception.BadLength = 2
reception_case reception.Frame = 3
reception_case reception.Reserved = 4
reception_case reception.BadSum = 5
reception_case reception.Abort = 6
reception_case reception.StrayResponse = 7
reception_case reception.Cancelled = 8

-- Sending: nothing, stray, due, copy put out (its number), backing off (ticks), acknowledged or failed (copies), abandoned.
abbrev pub sending_case : Sending → ℕ
sending_case sending.Nothing = 0
sending_case sending.Stray = 1
sending_case sending.Due = 2
sending_case (sending.Copy n) = 3
sending_case (sending.BackingOff t) = 4
sending_case (sending.Acknowledged n) = 5
sending_case (sending.Failed n) = 6
sending_case sending.Abandoned = 7

abbrev pub sending_value : Sending → ℕ
sending_value sending.Nothing = 0
sending_value sending.Stray = 0
sending_value sending.Due = 0
sending_value (sending.Copy n) = n
sending_value (sending.BackingOff t) = t.0
sending_value (sending.Acknowledged n) = n
sending_value (sending.Failed n) = n
sending_value sending.Abandoned = 0

-- Session: nothing, waiting for the response, the three verdicts (copies), abandoned.
abbrev pub session_case : Session → ℕ
session_case session.Nothing = 0
session_case session.Waiting = 1
session_case (session.Response n) = 2
session_case (session.NoResponse n) = 3
session_case (session.NotSent n) = 4
session_case session.Abandoned = 5

abbrev pub session_value : Session → ℕ
session_value session.Nothing = 0
session_value session.Waiting = 0
session_value (session.Response n) = n
session_value (session.NoResponse n) = n
session_value (session.NotSent n) = n
session_value session.Abandoned = 0

-- Reset with its reason: nothing, sums, delivery.
abbrev pub reset_case : Reset → ℕ
reset_case reset.Nothing = 0
reset_case reset.Sums = 1
reset_case reset.Delivery = 2

-- A report is one record of four parts; beside them stand the numbers of bytes for the line and handed up.
abbrev pub report_told : Report → List ℕ
report_told r =
    reception_case r.reception
    ∷ sending_case r.sending
    ∷ sending_value r.sending
    ∷ session_case r.session
    ∷ session_value r.session
    ∷ reset_case r.reset
    ∷ r.line
    ∷ r.up
    ∷ []
