-- Demand 3: the answer owes nothing to the order of work (01, "Free runs": "Demand 3 is one claim about whole orders and trees").
-- Assumes nothing.
use Rattle.std.specs.Prelude.{ℕ, ◌≡◌, List, [], map, get_or}
use Rattle.std.proofs.Math.Option.{Option, some}
use Rattle.elementwise.specs.Elementwise.{Tensor}
use Rattle.run.specs.Tree.{Tree}
use Rattle.run.specs.Run.{RunEnd, ended, met, results_of}
use Rattle.run.specs.Ways.{OrderOf, TreesAllowed, free_run}
use Rattle.ops.specs.Ops.{hlo}
use Rattle.ops.specs.Typed.{StartsAtIdentity}
use Rattle.verifier.specs.Verdict.{verdict_of}
use Rattle.answers.specs.WrittenNodes.{values_written, program_written}
use Rattle.answers.specs.Answered.{tensors_from, inputs_written}

-- What is claimed of a free run's end by the bench's answer, the refusal's number and the store afterwards. Results: the run's table holds for every
-- input and op the tensor that stands in the store, and its results are the store's. A zero divisor: the run meets one.
pub record AnswerStands (text : List ℕ) (number : ℕ) (store : List ℕ) (e : RunEnd Tensor ℕ) : Type 0 where
  pub values : number ≡ 0 → e ≡ ended (map some (tensors_from (values_written text) store))
  pub returned : number ≡ 0 → results_of (program_written text).returns e ≡ some (map (λ i. get_or (tensors_from (values_written text) store) i []) (program_written text).returns)
  pub zero-divisor : number ≡ 12 → (t : List (Option Tensor)) × (k : ℕ) × (element : ℕ) × (e ≡ met t k element)

-- For an accepted text whose reductions all start from a constant that is their operation's identity, of every free run: any order that lists each
-- op once after those that define its operands, any trees that 000 allows for each element of a reduction.
unfoldable pub FreeOfOrder : List ℕ → List ℕ → ℕ → List ℕ → Type 0
FreeOfOrder text inputs number store =
    (verdict_of text).number ≡ 0 → StartsAtIdentity (program_written text)
    → (order : List ℕ) → OrderOf hlo (program_written text) order → (trees : ℕ → ℕ → Tree) → TreesAllowed hlo (program_written text) trees
    → AnswerStands text number store (free_run hlo (program_written text) (tensors_from (inputs_written text) inputs) order trees 0)
