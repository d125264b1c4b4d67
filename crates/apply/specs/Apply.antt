-- What doing one op leaves in its stretch, and what it asks.
-- Assumes nothing.
use Rattle.std.specs.Prelude.{◌≡◌, List, [], ◌∷◌, map, ℕ, ◌^◌, ◌≤◌, ◌<◌, eqb, length, take, ℤ}
use Rattle.lists.specs.Lists.{All}
use Rattle.run.specs.Run.{Out}
use Rattle.run.specs.Ways.{by_fold}
use Rattle.shape.specs.Index.{at}
use Rattle.shape.specs.Dims.{dims_of, Sized, Fills}
use Rattle.shape.specs.Whole.{number_of}
use Rattle.maps.specs.Holds.{Stretches, ReshapeHolds, TransposeHolds, SliceHolds, PadHolds, DynamicSliceHolds, IotaHolds}
use Rattle.reduction.specs.Rows.{ReduceStretches}
use Rattle.elementwise.specs.Elementwise.{Tensor, TwoSized, SelectSized, ClampSized}
use Rattle.ops.specs.declared.Move.{Move}
use Rattle.ops.specs.declared.Move.TheVariants.{Reshape, BroadcastInDim, Transpose, Slice, Reverse}
use Rattle.ops.specs.declared.Kind.{Kind}
use Rattle.ops.specs.declared.Kind.TheVariants.{Constant, Iota, Elementwise, Pairwise, Quotient, Compare, Convert, Select, Clamp, Moved, Pad, Concatenate, DynamicSlice, Reduce}
use Rattle.ops.specs.OpAttributes.{attributes_by}
use Rattle.ops.specs.Ops.{Node, way_of, hlo}
use Rattle.apply.specs.declared.Task.{Task}

-- the numbers of an array's first n patterns
abbrev pub numbers_in : ℕ → List ℕ → List ℤ
numbers_in n l = map number_of (take n l)

-- the op of a class that a task is; the dimensions of operand 1 play no part in what it gives
abbrev pub node_of : Kind → Task → Node
node_of kind k =
    record {
      kind = kind;
      result = record { element = k.element; dims = dims_of k.to };
      from = record { element = k.source; dims = dims_of k.from }
          ∷ record { element = k.index; dims = [] }
          ∷ record { element = k.element; dims = dims_of k.last } ∷ [];
      attributes = attributes_by kind (numbers_in k.count k.first) (numbers_in k.from.rank k.second);
      values = [];
      operands = [];
    }

-- the operands' tensors: of dynamic_slice, operand 0 and the starts, one for each of its dimensions
abbrev pub task_tensors : Task → Kind → List ℕ → Tensor → Tensor → Tensor → List Tensor
task_tensors k DynamicSlice starts x y z = x ∷ map (λ s. s ∷ []) (take k.from.rank starts)
task_tensors k Constant starts x y z = x ∷ y ∷ z ∷ []
task_tensors k Iota starts x y z = x ∷ y ∷ z ∷ []
task_tensors k (Elementwise op) starts x y z = x ∷ y ∷ z ∷ []
task_tensors k (Pairwise op) starts x y z = x ∷ y ∷ z ∷ []
task_tensors k (Quotient op) starts x y z = x ∷ y ∷ z ∷ []
task_tensors k (Compare d) starts x y z = x ∷ y ∷ z ∷ []
task_tensors k Convert starts x y z = x ∷ y ∷ z ∷ []
task_tensors k Select starts x y z = x ∷ y ∷ z ∷ []
task_tensors k Clamp starts x y z = x ∷ y ∷ z ∷ []
task_tensors k (Moved m) starts x y z = x ∷ y ∷ z ∷ []
task_tensors k Pad starts x y z = x ∷ y ∷ z ∷ []
task_tensors k Concatenate starts x y z = x ∷ y ∷ z ∷ []
task_tensors k (Reduce body) starts x y z = x ∷ y ∷ z ∷ []

-- what the op gives
abbrev pub task_outcome : Task → Kind → List ℕ → Tensor → Tensor → Tensor → Out Tensor ℕ
task_outcome k kind starts x y z = by_fold hlo (way_of (node_of kind k) kind (task_tensors k kind starts x y z))

-- an array's first n patterns are those of numbers that are not negative
abbrev pub AreNatural : ℕ → List ℕ → Type 0
AreNatural n l = All (λ w. w < 2 ^ 63) (take n l)

-- What is asked: the stretches fit their shapes, and 000's constraints hold where the work needs them.
abbrev pub MoveReady : Task → Move → Tensor → List ℕ → Type 0
MoveReady k Reshape x out = Stretches k.from k.to x out × ReshapeHolds (dims_of k.from) (dims_of k.to)
MoveReady k BroadcastInDim x out = Stretches k.from k.to x out × (k.count ≡ k.from.rank) × AreNatural k.count k.first
MoveReady k Transpose x out =
    Stretches k.from k.to x out × (k.count ≡ k.from.rank)
    × TransposeHolds (take k.from.rank k.first) (dims_of k.from) (dims_of k.to) × AreNatural k.count k.first
MoveReady k Slice x out =
    Stretches k.from k.to x out × (k.count ≡ k.from.rank)
    × SliceHolds (take k.from.rank k.first) (take k.from.rank k.limit) (take k.from.rank k.second) (dims_of k.from) (dims_of k.to)
    × AreNatural k.count k.first × AreNatural k.from.rank k.second
MoveReady k Reverse x out = Stretches k.to k.to x out × (k.count ≤ 6) × AreNatural k.count k.first

abbrev pub TaskReady : Task → Kind → Tensor → Tensor → Tensor → List ℕ → Type 0
TaskReady k Constant x y z out = ⊥
TaskReady k Concatenate x y z out = ⊥
TaskReady k (Quotient op) x y z out = ⊥
TaskReady k Iota x y z out = Sized k.to × Fills out k.to × IotaHolds (at k.first 0) (dims_of k.to) × (k.count ≡ 1)
TaskReady k (Elementwise op) x y z out = Fills out k.to × (length x ≡ length out)
TaskReady k (Pairwise op) x y z out = Fills out k.to × TwoSized (length out) x y
TaskReady k (Compare d) x y z out = Fills out k.to × TwoSized (length out) x y
TaskReady k Convert x y z out = Fills out k.to × (length x ≡ length out)
TaskReady k Select x y z out = Fills out k.to × SelectSized (eqb (length (dims_of k.from)) 0) (length out) x y z
TaskReady k Clamp x y z out =
    Fills out k.to × ClampSized (eqb (length (dims_of k.from)) 0) (eqb (length (dims_of k.last)) 0) (length out) x y z
TaskReady k (Moved m) x y z out = MoveReady k m x out
TaskReady k Pad x y z out =
    Stretches k.from k.to x out × PadHolds (take k.from.rank k.second) (dims_of k.from) (dims_of k.to) × (k.count ≡ k.from.rank)
    × AreNatural k.from.rank k.second
TaskReady k DynamicSlice x y z out = Stretches k.from k.to x out × DynamicSliceHolds (dims_of k.from) (dims_of k.to)
TaskReady k (Reduce body) x y z out = ReduceStretches k.from k.to k.count x out × AreNatural k.count k.first
