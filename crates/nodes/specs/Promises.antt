-- What the parts of `read_nodes` promise each other.
-- Assumes nothing.
use Rattle.std.specs.Prelude.{ℕ, ◌+◌, ◌≤◌, ◌≡◌, List, length, get_or}
use Rattle.frame.specs.Bytes.{over}
use Rattle.masks.specs.Mask.{marked}
use Rattle.nodes.specs.declared.NodeList.{NodeList}
use Rattle.nodes.specs.Nodes.{nodes_of, node_answer, NODE_MASK, EMPTY_LIST, LAST_NODE}

-- what the layouts say of a body
pub record OfNodeList (body : List ℕ) : Type 0 where
  pub few : get_or body 4 0 ≤ NODE_MASK
  pub size : length body ≡ get_or body 4 0 + EMPTY_LIST

-- what is answered and written of a body of one of the layouts
pub record Fill (body lent : List ℕ) (r : NodeList) (lent' : List ℕ) : Type 0 where
  pub answer : r ≡ node_answer body
  pub left : lent' ≡ over (nodes_of body) lent

-- what the loop over a mask writes and answers
pub record ListNodes (mask lent : List ℕ) (n : ℕ) (lent' : List ℕ) : Type 0 where
  pub count : n ≡ length (marked mask LAST_NODE)
  pub left : lent' ≡ over (marked mask LAST_NODE) lent
