-- The promises of the exported functions fix their answers and every lent byte (document 01, section 12).
--     fed_to_determined   the three functions of exports_in_place, and the three of exports_by_value
--     built_determined    sarnaqel_build
--     read_determined     sarnaqel_read
--     count_determined    sarnaqel_count: the nine counts that it leaves
--     mix_determined, answer_number_determined, tale_determined   mix, answer_number, tale_of, for both
-- Assumes nothing.
use Rattle.std.proofs.Common.{◌≡◌, ℕ, List, Result, ap, ◌∙◌}
use Rattle.refusals.proofs.Theorems.{fixed}
use Rattle.reading.specs.Reader.{read}
use Rattle.tally.specs.Tally.{fresh}
use Rattle.counting.specs.Counting.{count}
use Rattle.refusals.specs.declared.Refusal.{Refusal}
use Rattle.report.specs.declared.Report.{Report}
use Rattle.link.specs.declared.calls.Run.{Run}
use Rattle.exports.specs.declared.numbers.Tale.{Tale}
use Rattle.exports.specs.Numbers.{mix, answer_number, run_number, run_taken, reading_number, BuiltAs, counts_of}
use Rattle.exports.specs.Feeding.{Fed, FedTo}

pub fed_to_determined : {f : Fed} {r q : ℕ} {a b c d : List ℕ} → FedTo f r a b → FedTo f q c d → (r ≡ q) × (a ≡ c) × (b ≡ d)
fed_to_determined x y = (fixed x.answer y.answer, fixed x.line_left y.line_left, fixed x.up_left y.up_left)

pub built_determined : {kind command : ℕ} {ps lent : List ℕ} {r q : ℕ} {a b : List ℕ}
    → BuiltAs kind command ps lent r a → BuiltAs kind command ps lent q b → (r ≡ q) × (a ≡ b)
built_determined x y = (fixed x.answer y.answer, fixed x.left y.left)

pub read_determined : (bytes : List ℕ) {r q : ℕ} → r ≡ reading_number (read bytes) → q ≡ reading_number (read bytes) → r ≡ q
read_determined bytes = fixed

pub count_determined : (input : List ℕ) {a b : List ℕ} → a ≡ counts_of (count fresh input) → b ≡ counts_of (count fresh input) → a ≡ b
count_determined input = fixed

pub mix_determined : (sum number : ℕ) {r q : ℕ} → r ≡ mix sum number → q ≡ mix sum number → r ≡ q
mix_determined sum number = fixed

pub answer_number_determined : (a : Result Report Refusal) {r q : ℕ} → r ≡ answer_number a → q ≡ answer_number a → r ≡ q
answer_number_determined a = fixed

pub tale_determined : (a : Result Run Refusal) {r q : Tale} → (r.number ≡ run_number a) × (r.taken ≡ run_taken a)
    → (q.number ≡ run_number a) × (q.taken ≡ run_taken a) → r ≡ q
tale_determined a {r} {q} x y =
    let told : ℕ → ℕ → Tale = λ n t. record { number = n; taken = t } in
    ap (λ (n : ℕ). told n r.taken) (fixed x.0 y.0)
    ∙ ap (told q.number) (fixed x.1 y.1)
