-- What the claim of demand 3 gives to one who takes it as a hypothesis, of any text: results in any order, results by any trees, and every op's tensor
-- (01, "Free runs": "Demand 3 is one claim about whole orders and trees, not one for each op").
-- Assumes nothing.
use mathlib.Core.Path.{◌≡◌, refl, sym, ap, ◌∙◌}
use mathlib.Core.List.{List, map}
use mathlib.Core.Option.{Option, none, some}
use Prim.Native.Nat.{ℕ, zero, suc, ◌<◌}
use native.Mathlib.Nat.{not-suc-le-zero, le_of_suc-le-suc}
use lib.ListN.{length, get_or}
use Rattle.lists.specs.Lists.{tab}
use Rattle.run.specs.Run.{RunEnd, ended, met, stuck, results_of}
use Rattle.run.specs.Tree.{Tree, count_from, comb}
use Rattle.run.specs.Ways.{OrderOf, TreesAllowed, sizes_at, free_run}
use Rattle.run.proofs.WaysLaw.{text-is-order, combs-allowed}
use Rattle.elementwise.specs.Elementwise.{Tensor}
use Rattle.ops.specs.Ops.{hlo}
use Rattle.ops.specs.Typed.{StartsAtIdentity}
use Rattle.values.specs.Values.{values_of}
use Rattle.verify.specs.Verify.{verdict}
use Rattle.nodes.specs.Nodes.{nodes_of}
use Rattle.nodes.proofs.AcceptedLaw.{accepted-program}
use Rattle.layout.specs.Layout.{value_in, tensors_in}
use Rattle.evaluation.specs.Evaluated.{tensors_of}
use Rattle.evaluation.specs.Order.{OrderFreeAnswer}

-- what the table holds for value i at a run's end
abbrev pub held_for : ℕ → RunEnd Tensor ℕ → Option Tensor
held_for i (ended t) = get_or t i none
held_for i (met t k w) = get_or t i none
held_for i (stuck k) = none

held_at : (n : ℕ) (f : ℕ → Tensor) (i : ℕ) → i < n → get_or (map some (tab n f)) i none ≡ some (f i)
held_at zero f i h = absurd (not-suc-le-zero h)
held_at (suc n) f zero h = refl
held_at (suc n) f (suc i) h = held_at n (λ k. f (suc k)) i (le_of_suc-le-suc h)

-- an accepted text whose reductions start from identities, and a store of results of which demand 3 is claimed
module _ (text inputs store : List ℕ) (accepted : (verdict text).number ≡ 0) (starts : StartsAtIdentity (nodes_of text))
    (claim : OrderFreeAnswer text inputs 0 store) where
  abbrev pub ran_by : List ℕ → (ℕ → ℕ → Tree) → RunEnd Tensor ℕ
  ran_by order trees = free_run hlo (nodes_of text) (tensors_of text inputs) order trees 0

  -- the text's own order, and the fold's own trees
  abbrev pub text_order : List ℕ
  text_order = count_from 0 (length (nodes_of text).ops)

  abbrev pub fold_trees : ℕ → ℕ → Tree
  fold_trees k i = comb (get_or (sizes_at hlo (nodes_of text) k) i 0)

  in-text-order : OrderOf hlo (nodes_of text) text_order
  in-text-order = text-is-order hlo (nodes_of text) (accepted-program text accepted).scoped

  by-folds : TreesAllowed hlo (nodes_of text) fold_trees
  by-folds = combs-allowed hlo (nodes_of text)

  -- any other order has the results of the text's
  pub any_order : (order : List ℕ) → OrderOf hlo (nodes_of text) order
      → results_of (nodes_of text).returns (ran_by order fold_trees) ≡ results_of (nodes_of text).returns (ran_by text_order fold_trees)
  unfolding OrderFreeAnswer
  any_order order o =
      (claim accepted starts order o fold_trees by-folds).returned refl ∙ sym ((claim accepted starts text_order in-text-order fold_trees by-folds).returned refl)

  -- any other trees have the results of the fold's
  pub any-trees : (trees : ℕ → ℕ → Tree) → TreesAllowed hlo (nodes_of text) trees
      → results_of (nodes_of text).returns (ran_by text_order trees) ≡ results_of (nodes_of text).returns (ran_by text_order fold_trees)
  unfolding OrderFreeAnswer
  any-trees trees t =
      (claim accepted starts text_order in-text-order trees t).returned refl ∙ sym ((claim accepted starts text_order in-text-order fold_trees by-folds).returned refl)

  -- the table holds the store's tensor of every value, whether the return names it or not
  pub every-tensor : (i : ℕ) → i < (values_of text).count → held_for i (ran_by text_order fold_trees) ≡ some (value_in (values_of text) store i)
  unfolding OrderFreeAnswer
  every-tensor i h =
      let table : ran_by text_order fold_trees ≡ ended (map some (tensors_in (values_of text) store (values_of text).count)) =
      (claim accepted starts text_order in-text-order fold_trees by-folds).values refl in
      ap (held_for i) table ∙ held_at (values_of text).count (value_in (values_of text) store) i h

  -- together: runs end alike, whatever their orders and trees
  pub runs-alike : (one other : List ℕ) → OrderOf hlo (nodes_of text) one → OrderOf hlo (nodes_of text) other
      → (these those : ℕ → ℕ → Tree) → TreesAllowed hlo (nodes_of text) these → TreesAllowed hlo (nodes_of text) those
      → ran_by one these ≡ ran_by other those
  unfolding OrderFreeAnswer
  runs-alike one other a b these those s t = (claim accepted starts one a these s).values refl ∙ sym ((claim accepted starts other b those t).values refl)
