-- Reductions from a start that is not the identity: a run goes by its trees, the evaluation by the fold (01, "Reductions", "Free runs").
-- Assumes nothing.
use mathlib.Core.Path.{◌≡◌, refl}
use mathlib.Core.List.{List, [], ◌∷◌, map}
use mathlib.Core.Option.{some}
use Prim.Native.Nat.{ℕ, zero, suc}
use lib.IntN.{pos}
use Rattle.lists.specs.Lists.{first_where}
use Rattle.element.specs.Types.{value_of, wrap_to, slot_for}
use Rattle.element.specs.declared.ElementType.TheVariants.{I32}
use Rattle.scalar.specs.Ops.{add_of, multiply_of, maximum_of, lt_of}
use Rattle.scalar.specs.declared.Body.{Body}
use Rattle.scalar.specs.declared.Body.TheVariants.{Add, Multiply, Maximum, Xor}
use Rattle.elementwise.specs.Elementwise.{Tensor}
use Rattle.run.specs.Tree.{Tree, leaf, node, start, element, comb}
use Rattle.run.specs.Run.{Out, gives, RunProgram, ended}
use Rattle.run.specs.Ways.{by_fold, by_trees, free_run}
use Rattle.ops.specs.OpAttributes.{attributes_by}
use Rattle.ops.specs.declared.Kind.TheVariants.{Reduce}
use Rattle.ops.specs.Ops.{TensorType, Node, way_of, hlo}

abbrev i32 : List ℕ → TensorType
i32 dims = record { element = I32; dims = dims }

-- 2x2 reduced over dimension 1
abbrev reduce_by : Body → Node
reduce_by body =
    record {
      kind = Reduce body;
      result = i32 (2 ∷ []);
      from = i32 (2 ∷ 2 ∷ []) ∷ i32 [] ∷ [];
      attributes = attributes_by (Reduce body) (pos 1 ∷ []) [];
      values = [];
      operands = 0 ∷ 1 ∷ [];
    }

-- [[1, 2], [3, 4]]
abbrev square : Tensor
square = 1 ∷ 2 ∷ 3 ∷ 4 ∷ []

-- element 0 of the result: the start before each element; element 1: no start
abbrev apart : ℕ → Tree
apart zero = node (node (leaf start) (leaf (element 0))) (node (leaf start) (leaf (element 1)))
apart (suc i) = node (leaf (element 0)) (leaf (element 1))

-- a body, a start value, what the fold gives and what the trees give
pub record TreePin : Type 0 where
  pub body : Body
  pub from : ℕ
  pub folded : Tensor
  pub by_the_trees : Tensor

abbrev tree_pin : Body → ℕ → Tensor → Tensor → TreePin
tree_pin body from folded by_the_trees = record { body = body; from = from; folded = folded; by_the_trees = by_the_trees }

unfoldable pub tree_pins : List TreePin
tree_pins =
    tree_pin Add 10 (13 ∷ 17 ∷ []) (23 ∷ 7 ∷ []) ∷
    tree_pin Multiply 2 (4 ∷ 24 ∷ []) (8 ∷ 12 ∷ []) ∷
    tree_pin Maximum 5 (5 ∷ 5 ∷ []) (5 ∷ 4 ∷ []) ∷
    tree_pin Xor 1 (2 ∷ 6 ∷ []) (3 ∷ 7 ∷ []) ∷
    []

-- what the fold and the trees give; what the pin has
abbrev pub reduced_both : TreePin → Out Tensor ℕ × Out Tensor ℕ
reduced_both p =
    let way = way_of (reduce_by p.body) (Reduce p.body) (square ∷ (p.from ∷ []) ∷ []) in
    (by_fold hlo way, by_trees hlo apart way)

abbrev pub told_both : TreePin → Out Tensor ℕ × Out Tensor ℕ
told_both p = (gives p.folded, gives p.by_the_trees)

pub trees-pinned : map reduced_both tree_pins ≡ map told_both tree_pins
unfolding tree_pins first_where add_of multiply_of maximum_of lt_of wrap_to slot_for value_of
trees-pinned = refl

-- op 0 by these trees, op 1 by the fold's, in another order than the text's
abbrev two_sums : RunProgram Node
two_sums = record { inputs = 2; ops = reduce_by Add ∷ reduce_by Add ∷ []; returns = [] }

abbrev trees_of : ℕ → ℕ → Tree
trees_of zero i = apart i
trees_of (suc k) i = comb 2

pub run-by-trees : free_run hlo two_sums (square ∷ (10 ∷ []) ∷ []) (1 ∷ 0 ∷ []) trees_of 0
    ≡ ended (some square ∷ some (10 ∷ []) ∷ some (23 ∷ 7 ∷ []) ∷ some (13 ∷ 17 ∷ []) ∷ [])
unfolding first_where add_of wrap_to slot_for value_of
run-by-trees = refl
