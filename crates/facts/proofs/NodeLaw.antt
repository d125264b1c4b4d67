-- The op of an accepted op has what its class asks of its types, lists and values.
-- Assumes nothing.
use mathlib.Core.Path.{◌≡◌, refl, sym, ap, ◌∙◌, subst}
use mathlib.Core.List.{List}
use Prim.Native.Nat.{ℕ, ◌≤◌, ◌<◌}
use native.Mathlib.Omega.{arith}
use lib.Dec.{eqb}
use lib.ListN.{length, get_or, take}
use Rattle.lists.specs.Lists.{All}
use Rattle.lists.proofs.TabLaw.{length-tab, get_or-tab}
use Rattle.lists.proofs.AllLaw.{all-tab}
use Rattle.element.specs.Types.{SlotHolds}
use Rattle.element.specs.declared.ElementType.{ElementType}
use Rattle.shape.specs.Index.{size}
use Rattle.shape.specs.Dims.{dims_of}
use Rattle.reduction.specs.Rows.{ReduceHolds}
use Rattle.elementwise.specs.Elementwise.{Tensor, Holds, spread_size}
use Rattle.ops.specs.declared.Move.{Move}
use Rattle.ops.specs.declared.Move.TheVariants.{Reshape, BroadcastInDim, Transpose, Slice, Reverse}
use Rattle.ops.specs.declared.Kind.{Kind}
use Rattle.ops.specs.declared.Kind.TheVariants.{Constant, Iota, Elementwise, Pairwise, Quotient, Compare, Convert, Select, Clamp, Moved, Pad, Concatenate, DynamicSlice, Reduce}
use Rattle.ops.specs.OpAttributes.{naturals}
use Rattle.ops.proofs.NaturalLaw.{naturals-numbers}
use Rattle.apply.specs.Apply.{AreNatural}
use Rattle.ops.specs.Ops.{TensorType as NodeType, no_tensor_type, operand_element, operand_dims, is_single}
use Rattle.ops.specs.Typed.{OperandOf, Operand, NodeGranted}
use Rattle.dimrules.specs.Dims.{list_of}
use Rattle.dimrules.specs.Types.{type_at}
use Rattle.rules.specs.Facts.{SameTypesHolds}
use Rattle.opcheck.specs.declared.Operation.{Operation}
use Rattle.opcheck.specs.Accepted.{Granted}
use Rattle.facts.specs.Facts.{Shaped, move_rule, AcceptedAs, node_type, integers_of, node_for}
use Rattle.facts.proofs.BridgeLaw.{alike_size, natural-below}
use Rattle.facts.proofs.AlikeLaw.{SpreadTo, result-alike, same-sizes, select-sizes, clamp-sizes, unary-alike}
use Rattle.facts.proofs.HoldsLaw.{reduce-holds}

-- the same elements under a type with the same meaning
pub hold-as : {t u : ElementType} {n m : ℕ} {x : Tensor} → t ≡ u → n ≡ m → Holds t n x → Holds u m x
hold-as {t} {u} {n} {m} {x} e q h = record { sized = h.sized ∙ q; ranged = subst (λ (v : ElementType). All (SlotHolds v) x) e h.ranged }

move-element : (m : Move) (o : Operation) → Granted (move_rule m) o → (type_at o.types 0).element ≡ o.result.element
move-element Reshape o g = g.element
move-element BroadcastInDim o g = g.element
move-element Transpose o g = g.element
move-element Slice o g = g.element
move-element Reverse o g = g.types.element

module _ (kind : Kind) (o : Operation) (values : Tensor) (operands : List ℕ) where
  type-at : (j : ℕ) → j < o.arity → get_or (node_for kind o values operands).from j no_tensor_type ≡ node_type (type_at o.types j)
  type-at j l = get_or-tab o.arity (λ i. node_type (type_at o.types i)) j no_tensor_type l

  pub element-at : (j : ℕ) → j < o.arity → operand_element (node_for kind o values operands) j ≡ (type_at o.types j).element
  element-at j l = ap (λ (t : NodeType). t.element) (type-at j l)

  pub dims-at : (j : ℕ) → j < o.arity → operand_dims (node_for kind o values operands) j ≡ dims_of (type_at o.types j).shape
  dims-at j l = ap (λ (t : NodeType). t.dims) (type-at j l)

  operand-of : (j : ℕ) → j < o.arity → (type_at o.types j).element ≡ o.result.element → OperandOf (node_for kind o values operands) j o.result.element
  operand-of j l e =
      record {
        there = rw (length-tab o.arity (λ i. node_type (type_at o.types i))) l;
        element = element-at j l ∙ e;
      }

  operand : (j n : ℕ) → j < o.arity → (type_at o.types j).element ≡ o.result.element → size (dims_of (type_at o.types j).shape) ≡ n
      → Operand (node_for kind o values operands) j o.result.element n
  operand j n l e q = record { of = operand-of j l e; count = ap size (dims-at j l) ∙ q }

  spread-operand : (j : ℕ) → j < o.arity → (type_at o.types j).element ≡ o.result.element → SpreadTo o j
      → Operand (node_for kind o values operands) j o.result.element (spread_size (is_single (node_for kind o values operands) j) (size (dims_of o.result.shape)))
  spread-operand j l e q =
      record {
        of = operand-of j l e;
        count = subst (λ (s : List ℕ). size s ≡ spread_size (eqb (length s) 0) (size (dims_of o.result.shape))) (sym (dims-at j l)) q;
      }

  -- an operand of rank 0
  single-operand : (j : ℕ) → j < o.arity → Shaped o → (type_at o.types j).element ≡ o.result.element → (type_at o.types j).shape.rank ≡ 0
      → Operand (node_for kind o values operands) j o.result.element 1
  single-operand j l h e q = operand j 1 l e (ap (λ (n : ℕ). size (take n (type_at o.types j).shape.dims)) q)

  two_operands : 1 < o.arity → Shaped o → SameTypesHolds o.types o.arity o.result
      → Operand (node_for kind o values operands) 0 o.result.element (size (dims_of o.result.shape))
      × Operand (node_for kind o values operands) 1 o.result.element (size (dims_of o.result.shape))
  two_operands l h g =
      let s = same-sizes o h l g in
      (operand 0 _ (omega arith) (sym (g.operands 0 (omega arith)).element) s.0, operand 1 _ l (sym (g.operands 1 l).element) s.1)

  reduce-shape : 0 < o.arity → AreNatural o.a.count o.a.list
      → ReduceHolds (list_of o.a) (dims_of (type_at o.types 0).shape) (dims_of o.result.shape)
      → ReduceHolds (naturals (integers_of o.a)) (operand_dims (node_for kind o values operands) 0) (dims_of o.result.shape)
  reduce-shape l n g =
      subst (λ (ds : List ℕ). ReduceHolds ds (operand_dims (node_for kind o values operands) 0) (dims_of o.result.shape)) (sym (naturals-numbers (list_of o.a) n))
      (subst (λ (s : List ℕ). ReduceHolds (list_of o.a) s (dims_of o.result.shape)) (sym (dims-at 0 l)) g)

pub constant-holds : (o : Operation) (values : Tensor) → AcceptedAs Constant o → Holds o.value.element (size (dims_of o.value.shape)) values
    → Holds o.result.element (size (dims_of o.result.shape)) values
constant-holds o values a h =
    hold-as a.granted.element (alike_size o.value.shape o.result.shape a.shaped.value a.shaped.result a.granted.shape) h

-- every class; a constant's values are of the type of its `value`
pub node-granted : (kind : Kind) (o : Operation) → AcceptedAs kind o → (values : Tensor) (operands : List ℕ)
    → (kind ≡ Constant → Holds o.value.element (size (dims_of o.value.shape)) values) → NodeGranted (node_for kind o values operands) kind
node-granted Constant o a vs os c = constant-holds o vs a (c refl)
node-granted Iota o a vs os c = tt
node-granted (Elementwise op) o a vs os c =
    let g = unary-alike op o a.least a.granted in
    operand (Elementwise op) o vs os 0 _ a.least (sym g.element) (result-alike o a.shaped 0 (omega arith) g.shape)
node-granted (Pairwise op) o a vs os c = two_operands (Pairwise op) o vs os a.least a.shaped a.granted
node-granted (Quotient op) o a vs os c = two_operands (Quotient op) o vs os a.least a.shaped a.granted
node-granted (Compare d) o a vs os c = a.boolean refl
node-granted Convert o a vs os c = tt
node-granted Select o a vs os c =
    let l : 3 ≤ o.arity = a.least in
    let g = a.granted in
    let s = select-sizes o a.shaped g in (
      operand Select o vs os 1 _ (omega arith) g.result.element s.1,
      operand Select o vs os 2 _ l (sym g.choices.element ∙ g.result.element) s.2,
    )
node-granted Clamp o a vs os c =
    let l : 3 ≤ o.arity = a.least in
    let g = a.granted in
    let s = clamp-sizes o a.shaped g in (
      spread-operand Clamp o vs os 0 (omega arith) (g.below ∙ g.result.element) s.0,
      operand Clamp o vs os 1 _ (omega arith) g.result.element s.1,
      spread-operand Clamp o vs os 2 l (sym g.above ∙ g.result.element) s.2,
    )
node-granted (Moved m) o a vs os c = operand-of (Moved m) o vs os 0 a.least (move-element m o a.granted)
node-granted Pad o a vs os c =
    let l : 2 ≤ o.arity = a.least in
    let g = a.granted in
    (operand-of Pad o vs os 0 (omega arith) g.element, single-operand Pad o vs os 1 l a.shaped (sym g.start ∙ g.element) (a.scalars refl 1 (omega arith) l))
node-granted Concatenate o a vs os c =
    all-tab (λ t. t.element ≡ o.result.element) o.arity (λ j. node_type (type_at o.types j)) (λ j l. sym (a.granted.elements j l))
node-granted DynamicSlice o a vs os c = operand-of DynamicSlice o vs os 0 a.least a.granted.element
node-granted (Reduce body) o a vs os c =
    let l : 2 ≤ o.arity = a.least in
    let g = a.granted in
    let h = a.shaped in (
      operand-of (Reduce body) o vs os 0 (omega arith) g.element,
      single-operand (Reduce body) o vs os 1 l h (sym g.start ∙ g.element) (a.scalars refl 1 (omega arith) l),
      reduce-shape (Reduce body) o vs os (omega arith) (natural-below o.a h.a (type_at o.types 0).shape (h.types 0 (omega arith)) g.listed.below)
          (reduce-holds o.a (type_at o.types 0) (type_at o.types 1) o.left o.right o.result (h.types 0 (omega arith)) h.result g),
    )
