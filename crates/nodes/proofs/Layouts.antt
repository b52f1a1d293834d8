-- What a body of one of the layouts is known to have.
-- Assumes nothing.
use mathlib.Core.Path.{◌≡◌}
use mathlib.Core.Bool.{true}
use mathlib.Core.List.{List}
use Prim.Native.Nat.{ℕ, ◌≤◌}
use borrow.Author.Tests.{le-ltb}
use Rattle.std.specs.Prelude.{Ok}
use Rattle.nodes.specs.Nodes.{is_node_list, node_answer, node_list_of}

-- what a body of its layout gives
pub node_list_yes : (body : List ℕ) (room : ℕ) → 232 ≤ room → is_node_list body ≡ true → node_list_of body room ≡ Ok (node_answer body)
node_list_yes body room h e = rw (le-ltb room 232 h, e)
