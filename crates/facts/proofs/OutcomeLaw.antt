-- What the task of an accepted op gives is what its op gives.
-- Assumes nothing.
use mathlib.Core.Path.{◌≡◌, refl}
use mathlib.Core.List.{List, map}
use Prim.Native.Nat.{ℕ, ◌≤◌, ◌<◌}
use native.Mathlib.Decide.{dec_lt}
use native.Mathlib.Omega.{arith}
use lib.ListN.{get_or, take, drop}
use Rattle.run.specs.Ways.{by_fold}
use Rattle.shape.specs.Dims.{dims_of}
use Rattle.maps.specs.Formulas.{dynamic_sliced}
use Rattle.elementwise.specs.Elementwise.{Tensor}
use Rattle.ops.specs.declared.Move.{Move}
use Rattle.ops.specs.declared.Move.TheVariants.{Reshape, BroadcastInDim, Transpose, Slice, Reverse}
use Rattle.ops.specs.declared.Kind.{Kind}
use Rattle.ops.specs.declared.Kind.TheVariants.{Constant, Iota, Elementwise, Pairwise, Quotient, Compare, Convert, Select, Clamp, Moved, Pad, Concatenate, DynamicSlice, Reduce}
use Rattle.ops.specs.Ops.{operand_element, moved, way_of, hlo}
use Rattle.apply.specs.Apply.{node_of, task_outcome}
use Rattle.apply.proofs.ApplyLaw.{singles}
use Rattle.dimrules.specs.Types.{type_at}
use Rattle.opcheck.specs.declared.Operation.{Operation}
use Rattle.opcheck.specs.Accepted.{Granted}
use Rattle.facts.specs.Facts.{move_rule, AcceptedAs, task_of, node_for, DoneByTask, ArgumentsRead}
use Rattle.facts.proofs.NodeLaw.{element-at, dims-at}

module _ (o : Operation) (values : Tensor) (operands : List ℕ) where
  moved_same : (m : Move) (x : Tensor) → 0 < o.arity → Granted (move_rule m) o
      → moved (node_of (Moved m) (task_of (Moved m) o)) m x ≡ moved (node_for (Moved m) o values operands) m x
  moved_same Reshape x l g = rw (dims-at (Moved Reshape) o values operands 0 l)
  moved_same BroadcastInDim x l g = rw (dims-at (Moved BroadcastInDim) o values operands 0 l)
  moved_same Transpose x l g = rw (dims-at (Moved Transpose) o values operands 0 l)
  moved_same Slice x l g = rw (dims-at (Moved Slice) o values operands 0 l, g.counts.2)
  moved_same Reverse x l g = refl

  -- without starts their type plays no part
  starts-type : AcceptedAs DynamicSlice o → (l x : List ℕ)
      → dynamic_sliced (type_at o.types 1).element l (dims_of (type_at o.types 0).shape) (dims_of o.result.shape) x
      ≡ dynamic_sliced (operand_element (node_for DynamicSlice o values operands) 1) l (dims_of (type_at o.types 0).shape) (dims_of o.result.shape) x
  starts-type a l x = by-arity (dec_lt 1 o.arity)
    where
      by-arity : Dec (1 < o.arity)
          → dynamic_sliced (type_at o.types 1).element l (dims_of (type_at o.types 0).shape) (dims_of o.result.shape) x
          ≡ dynamic_sliced (operand_element (node_for DynamicSlice o values operands) 1) l (dims_of (type_at o.types 0).shape) (dims_of o.result.shape) x
      by-arity (yes b) = rw (element-at DynamicSlice o values operands 1 b)
      by-arity (no b) =
          let e : (type_at o.types 0).shape.rank ≡ 0 = (let s = a.granted.starts in omega arith) in
          rw e

  pub outcome-is : (kind : Kind) → AcceptedAs kind o → DoneByTask kind → (args : List Tensor) (starts : List ℕ) (x y z : Tensor) → ArgumentsRead o args x y z
      → (kind ≡ DynamicSlice → map (λ s. get_or s 0 0) (drop 1 args) ≡ take (type_at o.types 0).shape.rank starts)
      → task_outcome (task_of kind o) kind starts x y z ≡ by_fold hlo (way_of (node_for kind o values operands) kind args)
  outcome-is Constant a n args starts x y z g s = absurd n
  outcome-is (Quotient op) a n args starts x y z g s = absurd n
  outcome-is Concatenate a n args starts x y z g s = absurd n
  outcome-is Iota a n args starts x y z g s = refl
  outcome-is (Elementwise op) a n args starts x y z g s = rw (g.operand-0 a.least)
  outcome-is (Pairwise op) a n args starts x y z g s = let l : 2 ≤ o.arity = a.least in rw (g.operand-0 (omega arith), g.operand-1 l)
  outcome-is (Compare d) a n args starts x y z g s =
      let l : 2 ≤ o.arity = a.least in
      rw (element-at (Compare d) o values operands 0 (omega arith), g.operand-0 (omega arith), g.operand-1 l)
  outcome-is Convert a n args starts x y z g s = rw (element-at Convert o values operands 0 a.least, g.operand-0 a.least)
  outcome-is Select a n args starts x y z g s =
      let l : 3 ≤ o.arity = a.least in
      rw (dims-at Select o values operands 0 (omega arith), g.operand-0 (omega arith), g.operand-1 (omega arith), g.operand-2 l)
  outcome-is Clamp a n args starts x y z g s =
      let l : 3 ≤ o.arity = a.least in
      rw (dims-at Clamp o values operands 0 (omega arith), dims-at Clamp o values operands 2 l, g.operand-0 (omega arith), g.operand-1 (omega arith), g.operand-2 l)
  outcome-is (Moved m) a n args starts x y z g s = rw (g.operand-0 a.least, moved_same m x a.least a.granted)
  outcome-is Pad a n args starts x y z g s =
      let l : 2 ≤ o.arity = a.least in
      rw (dims-at Pad o values operands 0 (omega arith), a.granted.counts.2, g.operand-0 (omega arith), g.operand-1 l)
  outcome-is DynamicSlice a n args starts x y z g s =
      rw (dims-at DynamicSlice o values operands 0 a.least, g.operand-0 a.least, s refl, singles, starts-type a (take (type_at o.types 0).shape.rank starts) x)
  outcome-is (Reduce body) a n args starts x y z g s =
      let l : 2 ≤ o.arity = a.least in
      rw (dims-at (Reduce body) o values operands 0 (omega arith), g.operand-0 (omega arith), g.operand-1 l)
