-- What the claim of demand 3 gives of a text with an input, to one who takes it as a hypothesis: a run in an order and by a tree that are not the
-- evaluation's ends with these numbers.
-- Assumes nothing.
use mathlib.Core.Path.{◌≡◌, refl, sym, ap, ◌∙◌, subst}
use mathlib.Core.List.Memᴰ
use mathlib.Core.List.{List, [], ◌∷◌, map}
use mathlib.Core.Option.{Option, some}
use Prim.Native.Nat.{ℕ, zero, suc, ◌≤◌, ◌<◌}
use lib.IntN.{pos}
use native.Mathlib.Omega.{arith}
use lib.IntN.{pos}
use Rattle.lists.specs.Lists.{first_where}
use Rattle.run.specs.Run.{RunProgram, count, ended, results_of}
use Rattle.run.specs.Tree.{Tree, leaf, node, start, element}
use Rattle.run.specs.Ways.{OrderOf, TreesAllowed, free_run}
use Rattle.run.proofs.TableLaw.{count-other}
use Rattle.element.specs.declared.ElementType.TheVariants.{I8}
use Rattle.scalar.specs.declared.Unary.TheVariants.{Negate}
use Rattle.scalar.specs.declared.Body.TheVariants.{Add}
use Rattle.elementwise.specs.Elementwise.{Tensor}
use Rattle.ops.specs.declared.Kind.TheVariants.{Constant, Elementwise, Reduce}
use Rattle.ops.specs.OpAttributes.{no_attributes, attributes_by}
use Rattle.ops.specs.Ops.{TensorType, Node, hlo}
use Rattle.ops.specs.Typed.{StartsAtIdentity}
use Rattle.scan.specs.Ascii.{ascii}
use Rattle.optable.specs.Table.{said_at}
use Rattle.values.specs.Values.{values_of}
use Rattle.offsets.specs.Offsets.{size_at, offset_at}
use Rattle.verify.specs.Verify.{verdict}
use Rattle.nodes.specs.Nodes.{nodes_of}
use Rattle.layout.specs.Layout.{value_in, tensors_in}
use Rattle.evaluation.specs.Evaluated.{tensors_of}
use Rattle.evaluation.specs.Order.{OrderFreeAnswer}
use Rattle.start_examples.proofs.Computing.{reading}
use Rattle.start_examples.proofs.IdentityTest.{starts-true}

-- the sum of an input's negated elements: value 1 is the negation, value 2 the start, value 3 the sum
unfoldable pub negated_sum : List ℕ
negated_sum = ascii "func.func @m(%x: tensor<3xi8>) -> tensor<i8> {%n = \"stablehlo.negate\"(%x) : (tensor<3xi8>) -> tensor<3xi8> %z = \"stablehlo.constant\"() {value = dense<0> : tensor<i8>} : () -> tensor<i8> %r = \"stablehlo.reduce\"(%n, %z) ({^b(%p: tensor<i8>, %q: tensor<i8>): %s = \"stablehlo.add\"(%p, %q) : (tensor<i8>, tensor<i8>) -> tensor<i8> \"stablehlo.return\"(%s) : (tensor<i8>) -> ()}) {dimensions = array<i64: 0>} : (tensor<3xi8>, tensor<i8>) -> tensor<i8> \"func.return\"(%r) : (tensor<i8>) -> ()}"

abbrev one : TensorType
one = record { element = I8; dims = [] }

abbrev three : TensorType
three = record { element = I8; dims = 3 ∷ [] }

-- its program
abbrev pub ops : RunProgram Node
ops =
    record {
      inputs = 1;
      ops =
          record { kind = Elementwise Negate; result = three; from = three ∷ []; attributes = no_attributes; values = []; operands = 0 ∷ [] }
          ∷ record { kind = Constant; result = one; from = []; attributes = no_attributes; values = 0 ∷ []; operands = [] }
          ∷ record { kind = Reduce Add; result = one; from = three ∷ one ∷ []; attributes = attributes_by (Reduce Add) (pos 0 ∷ []) []; values = []; operands = 1 ∷ 2 ∷ [] }
          ∷ [];
      returns = 3 ∷ [];
    }

-- the input, and the store after evaluating: 5, 100, 100; -5, -100, -100; 0; -205 taken into i8
abbrev pub input : List ℕ
input = 5 ∷ 100 ∷ 100 ∷ []

abbrev pub negated : List ℕ
negated = 18446744073709551611 ∷ 18446744073709551516 ∷ 18446744073709551516 ∷ []

abbrev pub store : List ℕ
store = 5 ∷ 100 ∷ 100 ∷ 18446744073709551611 ∷ 18446744073709551516 ∷ 18446744073709551516 ∷ 0 ∷ 51 ∷ []

-- the start first
abbrev pub order : List ℕ
order = 1 ∷ 0 ∷ 2 ∷ []

-- the last two elements first, and the start before them
abbrev pub trees : ℕ → ℕ → Tree
trees k i = node (leaf (element 0)) (node (leaf start) (node (leaf (element 1)) (leaf (element 2))))

-- ---- the text, computed

accepted : (verdict negated_sum).number ≡ 0
unfolding negated_sum reading said_at
accepted = refl

is-ops : nodes_of negated_sum ≡ ops
unfolding negated_sum reading said_at
is-ops = refl

values-are : tensors_in (values_of negated_sum) store (values_of negated_sum).count ≡ input ∷ negated ∷ (0 ∷ []) ∷ (51 ∷ []) ∷ []
unfolding negated_sum reading said_at values_of size_at offset_at
values-are = refl

result-is : value_in (values_of negated_sum) store 3 ≡ 51 ∷ []
unfolding negated_sum reading said_at values_of size_at offset_at
result-is = refl

-- ---- its order and trees

starts : StartsAtIdentity ops
starts = starts-true ops refl

is-order : OrderOf hlo ops order
is-order =
    record {
      each-once = once;
      no_other = other;
      operands-first = (tt, ((Memᴰ.tail (Memᴰ.head refl), tt), ((Memᴰ.head refl, (Memᴰ.tail (Memᴰ.head refl), tt)), tt)));
    }
  where
    once : (k : ℕ) → k < 3 → count k order ≡ 1
    once zero h = refl
    once (suc zero) h = refl
    once (suc (suc zero)) h = refl
    once (suc (suc (suc k))) h = absurd (omega arith)

    other : (k : ℕ) → 3 ≤ k → count k order ≡ 0
    other k h = count-other k 1 (0 ∷ 2 ∷ []) (omega arith) ∙ count-other k 0 (2 ∷ []) (omega arith) ∙ count-other k 2 [] (omega arith)

allowed : TreesAllowed hlo ops trees
unfolding first_where
allowed (suc (suc zero)) h zero q = refl
allowed (suc (suc zero)) h (suc i) q = absurd (omega arith)
allowed zero h i q = absurd (omega arith)
allowed (suc zero) h i q = absurd (omega arith)
allowed (suc (suc (suc k))) h i q = absurd (omega arith)

-- ---- from the claim

-- the table: input, negation, start and sum; and the result
abbrev pub Ran : List Tensor → List (Option Tensor) → Type 0
Ran results table =
    let end = free_run hlo (nodes_of negated_sum) (tensors_of negated_sum input) order trees 0 in
    (results_of (nodes_of negated_sum).returns end ≡ some results) × (end ≡ ended table)

pub claim-used : OrderFreeAnswer negated_sum input 0 store → Ran ((51 ∷ []) ∷ []) (some input ∷ some negated ∷ some (0 ∷ []) ∷ some (51 ∷ []) ∷ [])
unfolding OrderFreeAnswer
claim-used claim =
    let c = claim accepted (subst StartsAtIdentity (sym is-ops) starts) order (subst (λ (p : RunProgram Node). OrderOf hlo p order) (sym is-ops) is-order)
    trees (subst (λ (p : RunProgram Node). TreesAllowed hlo p trees) (sym is-ops) allowed) in (
      c.returned refl ∙ ap (λ (p : RunProgram Node). some (map (value_in (values_of negated_sum) store) p.returns)) is-ops ∙ ap (λ (v : Tensor). some (v ∷ [])) result-is,
      c.values refl ∙ ap (λ (ts : List Tensor). ended (map some ts)) values-are,
    )
