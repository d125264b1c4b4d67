-- Every op gives values of its result's type, and a reduction from its identity gathers as the order theorem asks.
-- Assumes nothing.
use mathlib.Core.Path.{◌≡◌, refl, sym, ◌∙◌, subst}
use mathlib.Core.List.{List, [], ◌∷◌, map}
use Prim.Native.Nat.{ℕ, zero, suc, ◌<◌}
use native.Mathlib.Nat.{not-suc-le-zero, le_of_suc-le-suc}
use native.Mathlib.Omega.{arith}
use lib.ListN.{length, get_or, drop, length-map}
use Rattle.lists.specs.Lists.{All, tab, pick, first_where}
use Rattle.lists.proofs.TabLaw.{length-tab}
use mathlib.Core.Bool.{Bool, true, false}
use lib.Dec.{ltb}
use borrow.Author.Tests.{ltb-true}
use Rattle.division.specs.declared.Division.{Division}
use Rattle.run.specs.Tree.{Tree, fold, MonoidOn}
use Rattle.run.specs.Run.{Out, gives, stops}
use Rattle.run.specs.Ways.{by_fold, by_trees, Gathers}
use Rattle.element.specs.Types.{SlotHolds}
use Rattle.element.specs.declared.ElementType.{ElementType}
use Rattle.element.proofs.Ends.{zero-value}
use Rattle.element.proofs.Range.{wrapped-value}
use Rattle.scalar.specs.Body.{body_of, identity_of}
use Rattle.scalar.specs.declared.Body.{Body}
use Rattle.scalar.proofs.Reduce.{body-reducible, body_closed}
use Rattle.shape.specs.Index.{size}
use Rattle.maps.specs.Formulas.{gathered, broadcast_index, transpose_index, slice_index, reverse_index, pad_index, dynamic_index}
use Rattle.maps.proofs.ClosedLaw.{all-gathered, all-reshaped, all-concatenated}
use Rattle.reduction.specs.Rows.{rows_of}
use Rattle.reduction.proofs.RowLaw.{rows-length, row-sizes, all-rows, all-folds}
use Rattle.elementwise.specs.Elementwise.{Tensor, Holds, compare_at, is_zero, division_at}
use Rattle.elementwise.proofs.DivideLaw.{value-at}
use Rattle.elementwise.proofs.HoldsLaw.{tab-holds, unary-holds, binary-holds, compare-holds, convert-holds, select-holds, clamp-holds, divided-holds}
use Rattle.ops.specs.OpAttributes.{natural, naturals}
use Rattle.ops.specs.declared.Move.{Move}
use Rattle.ops.specs.declared.Move.TheVariants.{Reshape, BroadcastInDim, Transpose, Slice, Reverse}
use Rattle.ops.specs.declared.Kind.{Kind}
use Rattle.ops.specs.declared.Kind.TheVariants.{Constant, Iota, Elementwise, Pairwise, Quotient, Compare, Convert, Select, Clamp, Moved, Pad, Concatenate, DynamicSlice, Reduce}
use Rattle.ops.specs.Ops.{TensorType, no_tensor_type, Node, element_of, result_dims, element_count, operand_element, operand_dims, is_single, moved, way_of, row_sizes_of, hlo}
use Rattle.ops.specs.Typed.{OperandOf, Operand, NodeGranted, HoldAll}

hold_at : (ts : List TensorType) (xs : List Tensor) → HoldAll ts xs → (j : ℕ) → j < length ts
    → Holds (get_or ts j no_tensor_type).element (size (get_or ts j no_tensor_type).dims) (get_or xs j [])
hold_at [] xs h j q = absurd (not-suc-le-zero q)
hold_at (t ∷ ts) [] h j q = absurd h
hold_at (t ∷ ts) (x ∷ xs) h zero q = h.0
hold_at (t ∷ ts) (x ∷ xs) h (suc j) q = hold_at ts xs h.1 j (le_of_suc-le-suc q)

-- tensors whose elements are all of one type
all_of : (t : ElementType) (ts : List TensorType) (xs : List Tensor) → HoldAll ts xs → All (λ u. u.element ≡ t) ts → All (All (SlotHolds t)) xs
all_of t [] [] h a = tt
all_of t [] (x ∷ xs) h a = absurd h
all_of t (u ∷ ts) [] h a = absurd h
all_of t (u ∷ ts) (x ∷ xs) h a = (subst (λ (e : ElementType). All (SlotHolds e) x) a.0 h.0.ranged, all_of t ts xs h.1 a.1)

given : {t : ElementType} {n : ℕ} {v w : Tensor} → Holds t n v → ◌≡◌ {A = Out Tensor ℕ} (gives v) (gives w) → Holds t n w
given {t} {n} {v} {w} h e = let z : v ≡ w = cc in subst (Holds t n) z h

gathered-holds : (t : ElementType) (f : (ℕ → ℕ) → ℕ → ℕ) (from to x : List ℕ) (z : ℕ) → All (SlotHolds t) x → SlotHolds t z → Holds t (size to) (gathered f from to x z)
gathered-holds t f from to x z a q = record { sized = length-tab (size to) _; ranged = all-gathered (SlotHolds t) (zero-value t) f from to x z a q }

never : {v : Tensor} {e : ℕ} → ◌≡◌ {A = Out Tensor ℕ} (gives v) (stops e) → ⊥
never q = let z : ◌≡◌ {A = ℕ} 0 1 = cc in omega arith

monoid : (body : Body) (t : ElementType) → MonoidOn (SlotHolds t) (body_of body t) (identity_of body t)
monoid body t =
    let r = body-reducible body t in
    record { closed = r.closed; ok-unit = r.neutral; unit_left = r.left; unit-right = r.right; assoc = r.assoc }

-- an op on operands of its operands' types
module _ (o : Node) (args : List Tensor) (h : HoldAll o.from args) where
  values_of : {t : ElementType} (j : ℕ) → OperandOf o j t → All (SlotHolds t) (get_or args j [])
  values_of {t} j g = subst (λ (e : ElementType). All (SlotHolds e) (get_or args j [])) g.element (hold_at o.from args h j g.there).ranged

  holds_of : {t : ElementType} {n : ℕ} (j : ℕ) → Operand o j t n → Holds t n (get_or args j [])
  holds_of j g = record { sized = (hold_at o.from args h j g.of.there).sized ∙ g.count; ranged = values_of j g.of }

  from-operand : (f : (ℕ → ℕ) → ℕ → ℕ) (from : List ℕ) → OperandOf o 0 (element_of o) → Holds (element_of o) (element_count o) (gathered f from (result_dims o) (get_or args 0 []) 0)
  from-operand f from g = gathered-holds (element_of o) f from (result_dims o) (get_or args 0 []) 0 (values_of 0 g) (zero-value (element_of o))

  moved_holds : (m : Move) → OperandOf o 0 (element_of o) → Holds (element_of o) (element_count o) (moved o m (get_or args 0 []))
  moved_holds Reshape g =
      record {
        sized = length-tab (element_count o) _;
        ranged = all-reshaped (SlotHolds (element_of o)) (zero-value (element_of o)) (operand_dims o 0) (result_dims o) (get_or args 0 []) (values_of 0 g);
      }
  moved_holds BroadcastInDim g = from-operand (broadcast_index (naturals o.attributes.broadcast_dimensions) (operand_dims o 0)) (operand_dims o 0) g
  moved_holds Transpose g = from-operand (transpose_index (naturals o.attributes.permutation)) (operand_dims o 0) g
  moved_holds Slice g = from-operand (slice_index (naturals o.attributes.start_indices) (naturals o.attributes.strides)) (operand_dims o 0) g
  moved_holds Reverse g = from-operand (reverse_index (naturals o.attributes.dimensions) (result_dims o)) (result_dims o) g

  rows-of : (body : Body) → NodeGranted o (Reduce body) → All (All (SlotHolds (element_of o))) (rows_of (naturals o.attributes.dimensions) (operand_dims o 0) (result_dims o) (get_or args 0 []))
  rows-of body g =
      all-rows (SlotHolds (element_of o)) (naturals o.attributes.dimensions) (operand_dims o 0) (result_dims o) (get_or args 0 []) g.2
      (hold_at o.from args h 0 g.0.there).sized (values_of 0 g.0)

  -- what an op gives is of its result's type
  pub result-holds : (kind : Kind) → NodeGranted o kind → (v : Tensor) → by_fold hlo (way_of o kind args) ≡ gives v → Holds (element_of o) (element_count o) v
  result-holds Constant g v = given g
  result-holds Iota g v = given (tab-holds (element_of o) (element_count o) _ (λ k q. wrapped-value (element_of o) _))
  result-holds (Elementwise op) g v = given (unary-holds (element_of o) (element_count o) op (holds_of 0 g))
  result-holds (Pairwise op) g v = given (binary-holds (element_of o) (element_count o) op (holds_of 0 g.0) (holds_of 1 g.1))
  result-holds (Quotient op) g v = divided-holds (element_of o) (element_count o) op (get_or args 0 []) (get_or args 1 []) v
  result-holds (Compare d) g v =
      given (subst (λ (t : ElementType). Holds t (element_count o) (tab (element_count o) (compare_at d (operand_element o 0) (get_or args 0 []) (get_or args 1 [])))) (sym g)
      (compare-holds (operand_element o 0) (element_count o) d (get_or args 0 []) (get_or args 1 [])))
  result-holds Convert g v = given (convert-holds (element_of o) (element_count o) (operand_element o 0) (get_or args 0 []))
  result-holds Select g v = given (select-holds (element_of o) (element_count o) (is_single o 0) (get_or args 0 []) (holds_of 1 g.0) (holds_of 2 g.1))
  result-holds Clamp g v =
      given (clamp-holds (element_of o) (element_count o) (is_single o 0) (is_single o 2) (holds_of 0 g.0) (holds_of 1 g.1) (holds_of 2 g.2))
  result-holds (Moved m) g v = given (moved_holds m g)
  result-holds Pad g v =
      given (gathered-holds (element_of o) (pad_index o.attributes.edge_padding_low (naturals o.attributes.interior_padding) (operand_dims o 0)) (operand_dims o 0) (result_dims o) (get_or args 0 []) (get_or (get_or args 1 []) 0 0)
      (values_of 0 g.0) (value-at (holds_of 1 g.1) 0 (omega arith)))
  result-holds Concatenate g v =
      given (record {
        sized = length-tab (element_count o) _;
        ranged = all-concatenated (SlotHolds (element_of o)) (zero-value (element_of o)) (natural o.attributes.dimension) (map (λ t. t.dims) o.from) args (result_dims o)
            (all_of (element_of o) o.from args h g);
      })
  result-holds DynamicSlice g v =
      given (from-operand (dynamic_index (operand_element o 1) (map (λ s. get_or s 0 0) (drop 1 args)) (operand_dims o 0) (result_dims o)) (operand_dims o 0) g)
  result-holds (Reduce body) g v =
      let rows = rows_of (naturals o.attributes.dimensions) (operand_dims o 0) (result_dims o) (get_or args 0 []) in
      let start = get_or (get_or args 1 []) 0 0 in
      given (record {
        sized = length-map rows (fold (body_of body (element_of o)) start) ∙ rows-length (naturals o.attributes.dimensions) (operand_dims o 0) (result_dims o) (get_or args 0 []);
        ranged = all-folds (SlotHolds (element_of o)) (body_of body (element_of o)) start (body_closed body (element_of o)) (value-at (holds_of 1 g.1) 0 (omega arith)) rows
            (rows-of body g);
      })

  -- a reduction whose start is its operation's identity
  pub gathers-of : (kind : Kind) → NodeGranted o kind → ((body : Body) → kind ≡ Reduce body → get_or (get_or args 1 []) 0 0 ≡ identity_of body (element_of o))
      → Gathers (SlotHolds (element_of o)) (row_sizes_of o kind) (way_of o kind args)
  gathers-of (Reduce body) g s = (
    subst (MonoidOn (SlotHolds (element_of o)) (body_of body (element_of o))) (sym (s body refl)) (monoid body (element_of o)),
    rows-of body g,
    row-sizes (naturals o.attributes.dimensions) (operand_dims o 0) (result_dims o) (get_or args 0 []),
  )
  gathers-of Constant g s = tt
  gathers-of Iota g s = tt
  gathers-of (Elementwise op) g s = tt
  gathers-of (Pairwise op) g s = tt
  gathers-of (Quotient op) g s = tt
  gathers-of (Compare d) g s = tt
  gathers-of Convert g s = tt
  gathers-of Select g s = tt
  gathers-of Clamp g s = tt
  gathers-of (Moved m) g s = tt
  gathers-of Pad g s = tt
  gathers-of Concatenate g s = tt
  gathers-of DynamicSlice g s = tt

-- an op stops, by whatever trees, only at a zero divisor: at the first
pub stops-at-zero : (o : Node) (args : List Tensor) (trees : ℕ → Tree) (kind : Kind) (e : ℕ) → by_trees hlo trees (way_of o kind args) ≡ stops e
    → (op : Division) × (kind ≡ Quotient op) × (e ≡ first_where is_zero (get_or args 1 [])) × (e < element_count o)
stops-at-zero o args trees (Quotient op) e q = go (ltb (first_where is_zero (get_or args 1 [])) (element_count o)) refl q
  where
    go : (b : Bool) → ltb (first_where is_zero (get_or args 1 [])) (element_count o) ≡ b
        → ◌≡◌ {A = Out Tensor ℕ} (pick b (stops (first_where is_zero (get_or args 1 []))) (gives (tab (element_count o) (division_at op (element_of o) (get_or args 0 []) (get_or args 1 []))))) (stops e)
        → (p : Division) × (Quotient op ≡ Quotient p) × (e ≡ first_where is_zero (get_or args 1 [])) × (e < element_count o)
    go true l r =
        let z : first_where is_zero (get_or args 1 []) ≡ e = cc in
        (op, refl, sym z, subst (λ (n : ℕ). n < element_count o) z (ltb-true _ _ l))
    go false l r = absurd (let z : ◌≡◌ {A = ℕ} 0 1 = cc in omega arith)
stops-at-zero o args trees Constant e q = absurd (never q)
stops-at-zero o args trees Iota e q = absurd (never q)
stops-at-zero o args trees (Elementwise op) e q = absurd (never q)
stops-at-zero o args trees (Pairwise op) e q = absurd (never q)
stops-at-zero o args trees (Compare d) e q = absurd (never q)
stops-at-zero o args trees Convert e q = absurd (never q)
stops-at-zero o args trees Select e q = absurd (never q)
stops-at-zero o args trees Clamp e q = absurd (never q)
stops-at-zero o args trees (Moved m) e q = absurd (never q)
stops-at-zero o args trees Pad e q = absurd (never q)
stops-at-zero o args trees Concatenate e q = absurd (never q)
stops-at-zero o args trees DynamicSlice e q = absurd (never q)
stops-at-zero o args trees (Reduce body) e q = absurd (never q)
