-- The words for each case of a report's four parts, with its value behind a colon where it has one. Document 01 says nothing of text,
-- so these are our own definitions; docs/linkplay.md lists the words.
-- Assumes nothing.
use Rattle.std.specs.Prelude.{ℕ, List, ◌++◌, codes, decimal}
use Rattle.report.specs.declared.Reset.{Reset}
use Rattle.report.specs.declared.Reset.TheVariants as reset
use Rattle.report.specs.declared.Sending.{Sending}
use Rattle.report.specs.declared.Sending.TheVariants as sending
use Rattle.report.specs.declared.Session.{Session}
use Rattle.report.specs.declared.Session.TheVariants as session
use Rattle.report.specs.declared.Reception.{Reception}
use Rattle.report.specs.declared.Reception.TheVariants as reception

abbrev pub reception_text : Reception → List ℕ
reception_text reception.Nothing = codes "nothing"
reception_text reception.Skipped = codes "skipped"
reception_text reception.BadLength = codes "badlen"
reception_text reception.Frame = codes "frame"
reception_text reception.Reserved = codes "reserved"
reception_text reception.BadSum = codes "badsum"
reception_text reception.Abort = codes "abort"
reception_text reception.StrayResponse = codes "strayresponse"
reception_text reception.Cancelled = codes "cancelled"

-- with the number of the copy, the back-off in milliseconds, the number of copies
abbrev pub sending_text : Sending → List ℕ
sending_text sending.Nothing = codes "nothing"
sending_text sending.Stray = codes "stray"
sending_text sending.Due = codes "due"
sending_text (sending.Copy n) = codes "copy:" ++ decimal n
sending_text (sending.BackingOff t) = codes "backoff:" ++ decimal t.0
sending_text (sending.Acknowledged n) = codes "acked:" ++ decimal n
sending_text (sending.Failed n) = codes "failed:" ++ decimal n
sending_text sending.Abandoned = codes "abandoned"

-- the verdicts with the number of copies
abbrev pub session_text : Session → List ℕ
session_text session.Nothing = codes "nothing"
session_text session.Waiting = codes "waiting"
session_text (session.Response n) = codes "response:" ++ decimal n
session_text (session.NoResponse n) = codes "noresponse:" ++ decimal n
session_text (session.NotSent n) = codes "notsent:" ++ decimal n
session_text session.Abandoned = codes "abandoned"

abbrev pub reset_text : Reset → List ℕ
reset_text reset.Nothing = codes "none"
reset_text reset.Sums = codes "sums"
reset_text reset.Delivery = codes "delivery"
