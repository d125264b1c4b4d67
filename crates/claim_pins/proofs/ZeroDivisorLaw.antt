-- What the claim of demand 3 gives where the bench answers 12, to one who takes it as a hypothesis, of any text: a run in any order and by any trees meets a
-- zero divisor (01, "Free runs": "An op with a zero divisor meets it, adds nothing and ends the run").
-- Assumes nothing.
use mathlib.Core.Path.{◌≡◌, refl}
use mathlib.Core.List.{List}
use mathlib.Core.Option.{Option}
use Prim.Native.Nat.{ℕ}
use Rattle.run.specs.Run.{met}
use Rattle.run.specs.Tree.{Tree}
use Rattle.run.specs.Ways.{OrderOf, TreesAllowed, free_run}
use Rattle.elementwise.specs.Elementwise.{Tensor}
use Rattle.ops.specs.Ops.{hlo}
use Rattle.ops.specs.Typed.{StartsAtIdentity}
use Rattle.verify.specs.Verify.{verdict}
use Rattle.nodes.specs.Nodes.{nodes_of}
use Rattle.evaluation.specs.Evaluated.{tensors_of}
use Rattle.evaluation.specs.Order.{OrderFreeAnswer}

pub zero-divisor-met : (text inputs store : List ℕ) → (verdict text).number ≡ 0 → StartsAtIdentity (nodes_of text) → OrderFreeAnswer text inputs 12 store
    → (order : List ℕ) → OrderOf hlo (nodes_of text) order → (trees : ℕ → ℕ → Tree) → TreesAllowed hlo (nodes_of text) trees
    → (t : List (Option Tensor)) × (k : ℕ) × (element : ℕ) × (free_run hlo (nodes_of text) (tensors_of text inputs) order trees 0 ≡ met t k element)
unfolding OrderFreeAnswer
zero-divisor-met text inputs store accepted starts claim order o trees t = (claim accepted starts order o trees t).zero-divisor refl
