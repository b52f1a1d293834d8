-- What is told of a report is all of it (section 7), and so it is in words.
--     report_back          the report from what is told of it; report_told_injective: so no two reports are told alike
--     reception_text_back, sending_text_back, session_text_back, reset_text_back   each part from its text: the case at the place
--                          that the numbers give it, and its value; reception_text_injective and the others: so no two are worded alike
--     report_told_determined   what `report_told` answers; reception_text_determined and the others: what is written of each part
-- Assumes nothing.
use mathlib.Core.Path.{◌≡◌, refl, sym, ap, ap₂, ◌∙◌}
use mathlib.Core.List.{List, [], ◌∷◌}
use Prim.Native.Nat.{ℕ, ◌^◌, ◌<◌}
use lib.Dec.{eqb}
use lib.ListN.{drop, get_or}
use Rattle.std.specs.List.{position_or_len}
use Rattle.std.specs.Prelude.{codes}
use Rattle.std.specs.Str.Parse.{digits_value}
use Rattle.std.proofs.lemmas.Fmt.{decimal_is_IsNumeral}
use Rattle.refusals.proofs.Theorems.{fixed}
use Rattle.report.specs.declared.Reset.{Reset}
use Rattle.report.specs.declared.Reset.TheVariants as reset
use Rattle.report.specs.declared.Sending.{Sending}
use Rattle.report.specs.declared.Sending.TheVariants as sending
use Rattle.report.specs.declared.Session.{Session}
use Rattle.report.specs.declared.Session.TheVariants as session
use Rattle.report.specs.declared.Reception.{Reception}
use Rattle.report.specs.declared.Reception.TheVariants as reception
use Rattle.report.specs.declared.Report.{Report}
use Rattle.report.specs.Told.{reception_case, sending_case, sending_value, session_case, session_value, reset_case, report_told}
use Rattle.report.specs.Texts.{reception_text, sending_text, session_text, reset_text}

-- ---- Section 7: the lists, and the case at a place in them, with its value

abbrev reception_at : ℕ → Reception
reception_at i =
    get_or
    (reception.Nothing
    ∷ reception.Skipped
    ∷ reception.BadLength
    ∷ reception.Frame
    ∷ reception.Reserved
    ∷ reception.BadSum
    ∷ reception.Abort
    ∷ reception.StrayResponse
    ∷ reception.Cancelled
    ∷ [])
    i
    reception.Nothing

abbrev sending_at : ℕ → ℕ → Sending
sending_at i v =
    get_or
    (sending.Nothing
    ∷ sending.Stray
    ∷ sending.Due
    ∷ sending.Copy v
    ∷ sending.BackingOff (record { 0 = v })
    ∷ sending.Acknowledged v
    ∷ sending.Failed v
    ∷ sending.Abandoned
    ∷ [])
    i
    sending.Nothing

abbrev session_at : ℕ → ℕ → Session
session_at i v =
    get_or
    (session.Nothing
    ∷ session.Waiting
    ∷ session.Response v
    ∷ session.NoResponse v
    ∷ session.NotSent v
    ∷ session.Abandoned
    ∷ [])
    i
    session.Nothing

abbrev reset_at : ℕ → Reset
reset_at i = get_or (reset.Nothing ∷ reset.Sums ∷ reset.Delivery ∷ []) i reset.Nothing

abbrev of_parts : Reception → Sending → Session → Reset → ℕ → ℕ → Report
of_parts a b c d line up = record { reception = a; sending = b; session = c; reset = d; line = line; up = up }

-- the report that is told so
abbrev pub report_at : List ℕ → Report
report_at told =
    of_parts
    (reception_at (get_or told 0 0))
    (sending_at (get_or told 1 0) (get_or told 2 0))
    (session_at (get_or told 3 0) (get_or told 4 0))
    (reset_at (get_or told 5 0))
    (get_or told 6 0)
    (get_or told 7 0)

reception_back : (r : Reception) → reception_at (reception_case r) ≡ r
reception_back reception.Nothing = refl
reception_back reception.Skipped = refl
reception_back reception.BadLength = refl
reception_back reception.Frame = refl
reception_back reception.Reserved = refl
reception_back reception.BadSum = refl
reception_back reception.Abort = refl
reception_back reception.StrayResponse = refl
reception_back reception.Cancelled = refl

sending_back : (s : Sending) → sending_at (sending_case s) (sending_value s) ≡ s
sending_back sending.Nothing = refl
sending_back sending.Stray = refl
sending_back sending.Due = refl
sending_back (sending.Copy n) = refl
sending_back (sending.BackingOff t) = refl
sending_back (sending.Acknowledged n) = refl
sending_back (sending.Failed n) = refl
sending_back sending.Abandoned = refl

session_back : (s : Session) → session_at (session_case s) (session_value s) ≡ s
session_back session.Nothing = refl
session_back session.Waiting = refl
session_back (session.Response n) = refl
session_back (session.NoResponse n) = refl
session_back (session.NotSent n) = refl
session_back session.Abandoned = refl

reset_back : (r : Reset) → reset_at (reset_case r) ≡ r
reset_back reset.Nothing = refl
reset_back reset.Sums = refl
reset_back reset.Delivery = refl

pub report_back : (r : Report) → report_at (report_told r) ≡ r
report_back r =
    let c = session_at (session_case r.session) (session_value r.session) in
    let d = reset_at (reset_case r.reset) in
    ap₂ (λ (a : Reception) (b : Sending). of_parts a b c d r.line r.up) (reception_back r.reception) (sending_back r.sending)
    ∙ ap₂ (λ (c : Session) (d : Reset). of_parts r.reception r.sending c d r.line r.up) (session_back r.session) (reset_back r.reset)

pub report_told_injective : (r q : Report) → report_told r ≡ report_told q → r ≡ q
report_told_injective r q e = sym (report_back r) ∙ ap report_at e ∙ report_back q

-- ---- The words: one character of a text tells its case, by the place of that case in section 7's list, and what stands behind the
-- colon its value

-- the place among these letters of the one that stands at i
abbrev place_by : List ℕ → ℕ → List ℕ → ℕ
place_by letters i text = position_or_len (λ (c : ℕ). eqb c (get_or text i 0)) letters

-- the number behind the first n characters
abbrev number_behind : ℕ → List ℕ → ℕ
number_behind n text = digits_value 10 (drop n text)

-- the fourth of each: noThing and so on
abbrev reception_read : List ℕ → Reception
reception_read text = reception_at (place_by (codes "hplmesrac") 3 text)

-- the third, and how much stands before the number
abbrev sending_read : List ℕ → Sending
sending_read text =
    let i = place_by (codes "trepckia") 2 text in
    sending_at i (number_behind (get_or (0 ∷ 0 ∷ 0 ∷ 5 ∷ 8 ∷ 6 ∷ 7 ∷ 0 ∷ []) i 0) text)

abbrev session_read : List ℕ → Session
session_read text =
    let i = place_by (codes "htpesn") 3 text in
    session_at i (number_behind (get_or (0 ∷ 0 ∷ 9 ∷ 11 ∷ 8 ∷ 0 ∷ []) i 0) text)

abbrev reset_read : List ℕ → Reset
reset_read text = reset_at (place_by (codes "nsd") 0 text)

pub reception_text_back : (r : Reception) → reception_read (reception_text r) ≡ r
reception_text_back reception.Nothing = refl
reception_text_back reception.Skipped = refl
reception_text_back reception.BadLength = refl
reception_text_back reception.Frame = refl
reception_text_back reception.Reserved = refl
reception_text_back reception.BadSum = refl
reception_text_back reception.Abort = refl
reception_text_back reception.StrayResponse = refl
reception_text_back reception.Cancelled = refl

pub sending_text_back : (s : Sending) → sending_value s < 2 ^ 64 → sending_read (sending_text s) ≡ s
sending_text_back sending.Nothing h = refl
sending_text_back sending.Stray h = refl
sending_text_back sending.Due h = refl
sending_text_back (sending.Copy n) h = ap sending.Copy ((decimal_is_IsNumeral n h).1)
sending_text_back (sending.BackingOff t) h = ap (λ (v : ℕ). sending.BackingOff (record { 0 = v })) ((decimal_is_IsNumeral t.0 h).1)
sending_text_back (sending.Acknowledged n) h = ap sending.Acknowledged ((decimal_is_IsNumeral n h).1)
sending_text_back (sending.Failed n) h = ap sending.Failed ((decimal_is_IsNumeral n h).1)
sending_text_back sending.Abandoned h = refl

pub session_text_back : (s : Session) → session_value s < 2 ^ 64 → session_read (session_text s) ≡ s
session_text_back session.Nothing h = refl
session_text_back session.Waiting h = refl
session_text_back (session.Response n) h = ap session.Response ((decimal_is_IsNumeral n h).1)
session_text_back (session.NoResponse n) h = ap session.NoResponse ((decimal_is_IsNumeral n h).1)
session_text_back (session.NotSent n) h = ap session.NotSent ((decimal_is_IsNumeral n h).1)
session_text_back session.Abandoned h = refl

pub reset_text_back : (r : Reset) → reset_read (reset_text r) ≡ r
reset_text_back reset.Nothing = refl
reset_text_back reset.Sums = refl
reset_text_back reset.Delivery = refl

pub reception_text_injective : (r q : Reception) → reception_text r ≡ reception_text q → r ≡ q
reception_text_injective r q e = sym (reception_text_back r) ∙ ap reception_read e ∙ reception_text_back q

pub sending_text_injective : (s t : Sending) → sending_value s < 2 ^ 64 → sending_value t < 2 ^ 64 → sending_text s ≡ sending_text t → s ≡ t
sending_text_injective s t h k e = sym (sending_text_back s h) ∙ ap sending_read e ∙ sending_text_back t k

pub session_text_injective : (s t : Session) → session_value s < 2 ^ 64 → session_value t < 2 ^ 64 → session_text s ≡ session_text t → s ≡ t
session_text_injective s t h k e = sym (session_text_back s h) ∙ ap session_read e ∙ session_text_back t k

pub reset_text_injective : (r q : Reset) → reset_text r ≡ reset_text q → r ≡ q
reset_text_injective r q e = sym (reset_text_back r) ∙ ap reset_read e ∙ reset_text_back q

-- ---- Determinacy: the promise of `report_told`, and that of what is written of a part, leave one answer

pub report_told_determined : (report : Report) {r q : List ℕ} → r ≡ report_told report → q ≡ report_told report → r ≡ q
report_told_determined report = fixed

pub reception_text_determined : (part : Reception) {r q : List ℕ} → r ≡ reception_text part → q ≡ reception_text part → r ≡ q
reception_text_determined part = fixed

pub sending_text_determined : (part : Sending) {r q : List ℕ} → r ≡ sending_text part → q ≡ sending_text part → r ≡ q
sending_text_determined part = fixed

pub session_text_determined : (part : Session) {r q : List ℕ} → r ≡ session_text part → q ≡ session_text part → r ≡ q
session_text_determined part = fixed

pub reset_text_determined : (part : Reset) {r q : List ℕ} → r ≡ reset_text part → q ≡ reset_text part → r ≡ q
reset_text_determined part = fixed
