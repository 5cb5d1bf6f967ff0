-- What the functions that read a case's tables into shapes promise.
use Rattle.std.specs.Prelude.{◌≡◌, List, ℕ, ◌+◌, length, take}
use Rattle.cases.specs.File.{node_limit}
use Rattle.cases.specs.Action.{Action}
use Rattle.cases.specs.internal.Checks.{nodes_in}
use Rattle.translate.specs.declared.Shape.{Shape}
use Rattle.translate.specs.internal.Shapes.{table_shapes}

-- an array starts with the shapes of all nodes
pub record HoldsShapes (action : ℕ → Action) (part : List ℕ) (f : ℕ) (shapes : List Shape) : Type 0 where
  pub long : length shapes ≡ node_limit + 1
  pub starts : take (length (table_shapes action (nodes_in part f))) shapes ≡ table_shapes action (nodes_in part f)
