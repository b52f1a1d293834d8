-- Answers as numbers, for languages that know no Rattle enum.
-- Assumes nothing.
use Rattle.std.specs.Prelude.{◌≡◌, ℕ, ◌+◌, ◌*◌, ◌%◌, ◌^◌, List, [], ◌∷◌, length, Result, Ok, Err}
use Rattle.refusals.specs.Refusals.{number_of}
use Rattle.frame.specs.Builder.{built_of, left_by}
use Rattle.frame.specs.Frame.{frame_of}
use Rattle.refusals.specs.declared.Refusal.{Refusal}
use Rattle.reading.specs.declared.reader.Parts.{Parts}
use Rattle.report.specs.declared.Reception.{Reception}
use Rattle.report.specs.declared.Sending.{Sending}
use Rattle.report.specs.declared.Session.{Session}
use Rattle.report.specs.declared.Reset.{Reset}
use Rattle.report.specs.declared.Report.{Report}
use Rattle.report.specs.Told.{reception_case, sending_case, sending_value, session_case, session_value, reset_case}
use Rattle.link.specs.declared.calls.Run.{Run}
use Rattle.tally.specs.Tally.{open_bytes}
use Rattle.tally.specs.declared.Tally.{Tally}

-- One number more: three times the sum and the number, modulo 2 ^ 64.
abbrev pub mix : ℕ → ℕ → ℕ
mix sum n = (((sum + sum) % 2 ^ 64 + sum) % 2 ^ 64 + n) % 2 ^ 64

-- A refused call: a million and the refusal's number.
abbrev pub refused_number : Refusal → ℕ
refused_number k = 1000000 + number_of k

-- Each case by its number, and eight times its value.
abbrev pub reception_number : Reception → ℕ
reception_number r = reception_case r

abbrev pub sending_number : Sending → ℕ
sending_number s = sending_case s + 8 * sending_value s

abbrev pub session_number : Session → ℕ
session_number s = session_case s + 8 * session_value s

abbrev pub reset_number : Reset → ℕ
reset_number r = reset_case r

abbrev pub report_number : Report → ℕ
report_number r =
    mix
    (mix
    (mix (mix (mix (reception_number r.reception) (sending_number r.sending)) (session_number r.session)) (reset_number r.reset))
    r.line)
    r.up

abbrev pub answer_number : Result Report Refusal → ℕ
answer_number (Err k) = refused_number k
answer_number (Ok r) = report_number r

abbrev pub run_number : Result Run Refusal → ℕ
run_number (Err k) = refused_number k
run_number (Ok r) = report_number r.report

-- how many bytes a run took; a refused one none
abbrev pub run_taken : Result Run Refusal → ℕ
run_taken (Err k) = 0
run_taken (Ok r) = r.taken

abbrev pub built_number : Result ℕ Refusal → ℕ
built_number (Err k) = refused_number k
built_number (Ok n) = n

abbrev pub parts_number : Parts → ℕ
parts_number p = 65536 * p.kind + 256 * p.command + p.count

abbrev pub reading_number : Result Parts Refusal → ℕ
reading_number (Err k) = refused_number k
reading_number (Ok p) = parts_number p

-- what building answers and leaves
pub record BuiltAs (kind command : ℕ) (ps lent : List ℕ) (r : ℕ) (lent' : List ℕ) : Type 0 where
  pub answer : r ≡ built_number (built_of kind (length ps) (length lent))
  pub left : lent' ≡ left_by (built_of kind (length ps) (length lent)) (frame_of kind command ps) lent

-- the counts in the order printed, and the bytes of an unfinished frame
abbrev pub counts_of : Tally → List ℕ
counts_of t =
    t.counts.ack
    ∷ t.counts.nak
    ∷ t.counts.can
    ∷ t.counts.frames
    ∷ t.counts.badsum
    ∷ t.counts.badlen
    ∷ t.counts.reserved
    ∷ t.counts.skipped
    ∷ open_bytes t.hearing
    ∷ []
