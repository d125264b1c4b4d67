-- The classes with functions of their own: what a quotient, a concatenate and a constant require.
-- Assumes nothing.
use mathlib.Core.Path.{◌≡◌, sym, ap, ◌∙◌, subst}
use mathlib.Core.List.{List}
use Prim.Native.Nat.{ℕ, ◌+◌, ◌≤◌, ◌<◌}
use native.Mathlib.Omega.{arith}
use lib.ListN.{length, get_or}
use lib.IntN.{pos}
use Rattle.lists.proofs.TabLaw.{tab-cong, map-tab}
use Rattle.run.specs.Run.{gives}
use Rattle.run.specs.Ways.{by_fold}
use Rattle.division.specs.declared.Division.{Division}
use Rattle.shape.specs.Index.{at, size}
use Rattle.shape.specs.Dims.{dims_of, Sized, Fills}
use Rattle.shape.specs.declared.Shape.{Shape}
use Rattle.maps.specs.Concatenation.{no_shape, shapes_of, concatenated}
use Rattle.maps.specs.Holds.{ConcatenateHolds, InputsLaid}
use Rattle.maps.proofs.AttributeLaw.{numbers-at}
use Rattle.elementwise.specs.Elementwise.{Tensor, Holds, divided}
use Rattle.ops.specs.declared.Kind.TheVariants.{Constant, Quotient, Concatenate}
use Rattle.ops.specs.OpAttributes.{natural}
use Rattle.ops.proofs.NaturalLaw.{natural-number}
use Rattle.ops.specs.Ops.{TensorType as NodeType, way_of, hlo}
use Rattle.dimrules.specs.Dims.{list_of, num}
use Rattle.dimrules.specs.Types.{type_at}
use Rattle.opcheck.specs.declared.Operation.{Operation}
use Rattle.facts.specs.Facts.{AcceptedAs, node_type, integers_of, node_for, ArgumentsRead}
use Rattle.facts.proofs.BridgeLaw.{lone, alike_size}
use Rattle.facts.proofs.AlikeLaw.{same-sizes}
use Rattle.facts.proofs.HoldsLaw.{dims_from, concatenate-holds}
use Rattle.facts.proofs.NodeLaw.{hold-as}

-- what elementwise::division_into requires
pub quotient-ready : (op : Division) (o : Operation) → AcceptedAs (Quotient op) o → (x y out : Tensor)
    → Holds (type_at o.types 0).element (size (dims_of (type_at o.types 0).shape)) x
    → Holds (type_at o.types 1).element (size (dims_of (type_at o.types 1).shape)) y
    → Fills out o.result.shape → Holds o.result.element (length out) x × Holds o.result.element (length out) y
quotient-ready op o a x y out p q f =
    let l : 2 ≤ o.arity = a.least in
    let s = same-sizes o a.shaped l a.granted in (
      hold-as (sym (a.granted.operands 0 (omega arith)).element) (s.0 ∙ sym f) p,
      hold-as (sym (a.granted.operands 1 l).element) (s.1 ∙ sym f) q,
    )

-- and what it gives is what the op gives
pub quotient_is : (op : Division) (o : Operation) → AcceptedAs (Quotient op) o → (values : Tensor) (operands : List ℕ) (args : List Tensor) (x y z out : Tensor)
    → ArgumentsRead o args x y z → Fills out o.result.shape
    → by_fold hlo (way_of (node_for (Quotient op) o values operands) (Quotient op) args) ≡ divided op o.result.element (length out) x y
quotient_is op o a values operands args x y z out g f = let l : 2 ≤ o.arity = a.least in rw (g.operand-0 (omega arith), g.operand-1 l, f)

-- a constant's stretch has one slot for each element of its `value`
pub constant-ready : (o : Operation) → AcceptedAs Constant o → (out : Tensor) → Fills out o.result.shape → Fills out o.value.shape
constant-ready o a out f =
    f ∙ sym (alike_size o.value.shape o.result.shape a.shaped.value a.shaped.result a.granted.shape)

-- what maps::concatenate requires, of inputs that lie in the store at places
module _ (o : Operation) (a : AcceptedAs Concatenate o) (shapes : List Shape)
    (same : (j : ℕ) → j < o.arity → get_or shapes j no_shape ≡ (type_at o.types j).shape) where
  -- the dimensions of the inputs, by their shapes
  shapes-are : shapes_of shapes o.arity ≡ dims_from o
  shapes-are = tab-cong o.arity (λ j. dims_of (get_or shapes j no_shape)) (λ j. dims_of (type_at o.types j).shape) (λ j l. ap dims_of (same j l))

  pub concatenate-ready : ConcatenateHolds (at o.a.list 0) (shapes_of shapes o.arity) (dims_of o.result.shape)
  concatenate-ready =
      subst (λ (s : List (List ℕ)). ConcatenateHolds (at o.a.list 0) s (dims_of o.result.shape))
      (sym shapes-are)
      (subst (λ (k : ℕ). ConcatenateHolds k (dims_from o) (dims_of o.result.shape)) (lone o.a a.number) (concatenate-holds o a.shaped _ a.granted))

  pub concatenate-inputs : (x : Tensor) (places : List ℕ)
      → ((j : ℕ) → j < o.arity → at places j + size (dims_of (type_at o.types j).shape) ≤ length x) → InputsLaid x shapes places o.arity
  concatenate-inputs x places laid =
      let few : o.arity ≤ 8 = a.shaped.arity in
      record {
        few = few;
        sized = λ j l. subst Sized (sym (same j l)) (a.shaped.types j (omega arith)).sized;
        laid = λ j l. subst (λ (s : Shape). at places j + size (dims_of s) ≤ length x) (sym (same j l)) (laid j l);
      }

  -- what it gives is what the op gives
  pub concatenate-is : (values : Tensor) (operands : List ℕ) (args : List Tensor)
      → by_fold hlo (way_of (node_for Concatenate o values operands) Concatenate args)
      ≡ gives (concatenated (at o.a.list 0) (shapes_of shapes o.arity) args (dims_of o.result.shape))
  concatenate-is values operands args =
      ap (λ (s : List (List ℕ)). gives (concatenated (natural (get_or (integers_of o.a) 0 (pos 0))) s args (dims_of o.result.shape)))
      (map-tab (λ (t : NodeType). t.dims) o.arity (λ j. node_type (type_at o.types j)) ∙ sym shapes-are)
      ∙ ap (λ (k : ℕ). gives (concatenated k (shapes_of shapes o.arity) args (dims_of o.result.shape))) along
    where
      -- dimension is below the rank
      along : natural (get_or (integers_of o.a) 0 (pos 0)) ≡ at o.a.list 0
      along =
          ap natural (sym (numbers-at (list_of o.a) 0)) ∙ natural-number (num o.a 0) (omega (arith, a.granted.along, a.shaped.result.sized.rank))
          ∙ lone o.a a.number
