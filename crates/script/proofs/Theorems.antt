-- What holds of the definitions of this crate, over all inputs.
-- Assumes nothing.
use Rattle.std.proofs.Common.{◌≡◌, ℕ, ◌-◌, List, [], ◌∷◌, length, get_or, sym, ap, ◌∙◌, arith}
use Rattle.std.proofs.lemmas.List.{length-append}
use Rattle.std.proofs.Math.Seq.{get_or-append_seam}
use Rattle.arrayvec.specs.ArrayVec.{ArrayVec, array_vec_len}
use Rattle.refusals.proofs.Theorems.{fixed}
use Rattle.script.specs.declared.table.Call.{Call}
use Rattle.script.specs.Output.{Ends}
use Rattle.script.specs.Table.{call_name}

-- what is the last stands at the last place
pub ends_at_last : (waiting : ArrayVec ℕ) (c : ℕ) → Ends waiting c → get_or waiting.items (array_vec_len waiting - 1) 0 ≡ c
ends_at_last waiting c e =
    let k : array_vec_len waiting - 1 ≡ length e.0 = omega (arith, ap length e.1, length-append e.0 (c ∷ [])) in
    ap (λ i. get_or waiting.items i 0) k ∙ ap (λ xs. get_or xs (length e.0) 0) e.1 ∙ get_or-append_seam e.0 c [] 0

-- so it is one character alone
pub ends_determined : (waiting : ArrayVec ℕ) (c d : ℕ) → Ends waiting c → Ends waiting d → c ≡ d
ends_determined waiting c d e f = sym (ends_at_last waiting c e) ∙ ends_at_last waiting d f

-- the name that a call answers under is one text
pub call_name_determined : (call : Call) {r q : List ℕ} → r ≡ call_name call → q ≡ call_name call → r ≡ q
call_name_determined call = fixed
