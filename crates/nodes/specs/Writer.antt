-- Document 02, P5: the node list response is written as the body that is handed up; a body that its reader would refuse is refused alike.
-- Assumes nothing.
use Rattle.std.specs.Prelude.{ℕ, List, [], ◌∷◌, ◌++◌, length, Result}
use Rattle.refusals.specs.declared.Refusal.{Refusal}
use Rattle.frame.specs.Frame.{RES}
use Rattle.masks.specs.Written.{Write}
use Rattle.nodes.specs.Nodes.{NODE_LIST, is_node_list}
use Rattle.nodes.specs.declared.Controller.{Controller}

-- Type, Command, version, capabilities, the number of mask bytes, the mask, chip type, chip version
unfoldable pub node_body : Controller → List ℕ → List ℕ
node_body c mask =
    RES ∷ NODE_LIST ∷ c.version ∷ c.capabilities ∷ length mask ∷ (mask ++ (c.chip_type ∷ c.chip_version ∷ []))

-- written if its own reader takes it
abbrev pub WriteNodes : List ℕ → List ℕ → Result ℕ Refusal → List ℕ → Type 0
WriteNodes body lent r lent' = Write (is_node_list body) body lent r lent'
