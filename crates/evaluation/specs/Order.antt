-- Demand 3: the answer owes nothing to the order of work (01, "Free runs": "Demand 3 is one claim about whole orders and trees").
-- Assumes nothing.
use Rattle.std.specs.Prelude.{◌≡◌, List, map, ℕ}
use Rattle.std.proofs.Math.Option.{Option, some}
use Rattle.run.specs.Run.{RunEnd, ended, met, results_of}
use Rattle.run.specs.Tree.{Tree}
use Rattle.run.specs.Ways.{OrderOf, TreesAllowed, free_run}
use Rattle.elementwise.specs.Elementwise.{Tensor}
use Rattle.ops.specs.Ops.{hlo}
use Rattle.ops.specs.Typed.{StartsAtIdentity}
use Rattle.values.specs.Values.{values_of}
use Rattle.verify.specs.Verify.{verdict}
use Rattle.nodes.specs.Nodes.{nodes_of}
use Rattle.layout.specs.Layout.{value_in, tensors_in}
use Rattle.evaluation.specs.Evaluated.{tensors_of}

-- What is claimed of a free run's end by the bench's answer, the refusal's number and the store afterwards. Results: the run's table holds for every
-- input and op the tensor that stands in the store, and its results are the store's. A zero divisor: the run meets one.
pub record Claimed (text : List ℕ) (number : ℕ) (store : List ℕ) (e : RunEnd Tensor ℕ) : Type 0 where
  pub values : number ≡ 0 → e ≡ ended (map some (tensors_in (values_of text) store (values_of text).count))
  pub returned : number ≡ 0 → results_of (nodes_of text).returns e ≡ some (map (value_in (values_of text) store) (nodes_of text).returns)
  pub zero-divisor : number ≡ 12 → (t : List (Option Tensor)) × (k : ℕ) × (element : ℕ) × (e ≡ met t k element)

-- For an accepted text whose reductions all start from a constant that is their operation's identity, of every free run: any order that lists each
-- op once after those that define its operands, any trees that 000 allows for each element of a reduction.
unfoldable pub OrderFreeAnswer : List ℕ → List ℕ → ℕ → List ℕ → Type 0
OrderFreeAnswer text inputs number store =
    (verdict text).number ≡ 0 → StartsAtIdentity (nodes_of text)
    → (order : List ℕ) → OrderOf hlo (nodes_of text) order → (trees : ℕ → ℕ → Tree) → TreesAllowed hlo (nodes_of text) trees
    → Claimed text number store (free_run hlo (nodes_of text) (tensors_of text inputs) order trees 0)
