-- Section 8, Node list RES (002, 7.4): version, capabilities, 29, 29 mask bytes, chip type, chip version; or with 0 for 29 and no mask.
-- Assumes nothing.
use Rattle.std.specs.Prelude.{ℕ, ◌+◌, ◌≡◌, Bool, false, List, [], ◌∷◌, ltb, eqb, length, get_or, take, drop, Result, Ok, Err}
use Rattle.refusals.specs.Pick.{pick}
use Rattle.frame.specs.Bytes.{over}
use Rattle.refusals.specs.Refusals.{number_of}
use Rattle.refusals.specs.declared.Refusal.{Refusal}
use Rattle.refusals.specs.declared.Refusal.TheVariants as refusal
use Rattle.masks.specs.Response.{is_response}
use Rattle.masks.specs.Mask.{marked}
use Rattle.nodes.specs.declared.NodeList.{NodeList}
use Rattle.nodes.specs.declared.Controller.{Controller}

-- command 02
abbrev pub NODE_LIST : ℕ
NODE_LIST = 0x02

-- the bytes of a mask; with Type and Command a body has 36 bytes, or 7 with no mask
abbrev pub NODE_MASK : ℕ
NODE_MASK = 29

abbrev pub FULL_LIST : ℕ
FULL_LIST = 36

abbrev pub EMPTY_LIST : ℕ
EMPTY_LIST = 7

-- node k, 1 to 232; the list needs room for 232
abbrev pub LAST_NODE : ℕ
LAST_NODE = 232

abbrev pub LIST_ROOM : ℕ
LIST_ROOM = 232

abbrev pub is_node_list : List ℕ → Bool
is_node_list body =
    pick (is_response body NODE_LIST)
    (pick (eqb (length body) FULL_LIST)
    (eqb (get_or body 4 0) NODE_MASK)
    (pick (eqb (length body) EMPTY_LIST)
    (eqb (get_or body 4 0) 0)
    false))
    false

-- the mask, of so many bytes
abbrev pub node_mask : List ℕ → List ℕ
node_mask body = take (get_or body 4 0) (drop 5 body)

-- node k, 1 to 232, stands as a function does; nodes are listed in rising order
abbrev pub nodes_of : List ℕ → List ℕ
nodes_of body = marked (node_mask body) LAST_NODE

-- what stands around the mask
abbrev pub controller_of : List ℕ → Controller
controller_of body = record {
  version = get_or body 2 0;
  capabilities = get_or body 3 0;
  chip_type = get_or body (get_or body 4 0 + 5) 0;
  chip_version = get_or body (get_or body 4 0 + 6) 0;
}

abbrev pub node_answer : List ℕ → NodeList
node_answer body = record { controller = controller_of body; count = length (nodes_of body) }

-- the number of the refusal; of an answer 0 and its values
abbrev pub nodes_told : Result NodeList Refusal → List ℕ
nodes_told (Err k) = number_of k ∷ []
nodes_told (Ok l) = 0 ∷ l.controller.version ∷ l.controller.capabilities ∷ l.count ∷ l.controller.chip_type ∷ l.controller.chip_version ∷ []

-- ROOM before FORM; the list needs room for 232
abbrev pub node_list_of : List ℕ → ℕ → Result NodeList Refusal
node_list_of body room =
    pick (ltb room LIST_ROOM) (Err refusal.Room)
    (pick (is_node_list body) (Ok (node_answer body)) (Err refusal.Form))

-- the lent list after the call
abbrev pub list_left : Result NodeList Refusal → List ℕ → List ℕ → List ℕ
list_left (Err k) nodes lent = lent
list_left (Ok l) nodes lent = over nodes lent

pub record ReadNodes (body lent : List ℕ) (r : Result NodeList Refusal) (lent' : List ℕ) : Type 0 where
  pub answer : r ≡ node_list_of body (length lent)
  pub left : lent' ≡ list_left (node_list_of body (length lent)) (nodes_of body) lent
