-- `capabilities_of` meets its contract: the ones summed are the number of supported functions.
-- Assumes nothing.
use Rattle.std.proofs.Common.{◌≡◌, ◌≤◌, length, ap, ◌∙◌, arith, length-drop}
use Rattle.masks.specs.Mask.{ones_in}
use Rattle.capabilities.specs.Capabilities.{function_mask, supported}
use Rattle.std.proofs.lemmas.List.{take_rest}
use Rattle.masks.proofs.Layouts.{bytes_from}
use Rattle.masks.proofs.Masks.{ones_supported}
use Rattle.capabilities.proofs.Layouts.{answer_by}
use Rattle.capabilities.proofs.capabilities_of.Goals as goal

pub returns : goal.returns
returns c =
    let body = c.args.body.now in
    let few : length (function_mask body) ≤ 32 = omega (arith, length-drop 10 body) in
    let count : c.ones_in.result ≡ supported body =
    c.ones_in.ensures ∙ ap ones_in (take_rest body 10)
    ∙ ones_supported (function_mask body) (bytes_from 10 body (λ i. (c.type_inv.body i).fits)) few c.requires.clear in
    answer_by c.word.ensures c.word-2.ensures c.word-3.ensures count
