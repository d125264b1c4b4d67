-- A program of paper 01's ops, evaluated and run freely: an input of shape 2x3 is added to itself and divided by another, and reduced by add over
-- dimension 1.
-- Assumes nothing.
use mathlib.Core.Path.{◌≡◌, refl, subst}
use mathlib.Core.List.{List, [], ◌∷◌, map}
use mathlib.Core.Option.{none, some}
use Prim.Native.Nat.{ℕ, zero, suc, ◌+◌}
use native.Mathlib.Omega.{arith}
use lib.ListN.{get_or, get_elem?}
use lib.IntN.{ℤ, pos}
use Rattle.run.specs.Run.{Scoped}
use Rattle.run.specs.Ways.{language_of, OrderFree}
use Rattle.element.proofs.Ends.{zero-value}
use Rattle.scalar.specs.Body.{identity_of}
use Rattle.scalar.specs.declared.Body.{Body}
use Rattle.elementwise.specs.Elementwise.{Tensor, Holds}
use Rattle.ops.specs.Typed.{Operand, NodeGranted, value_type_at, Accepted, StartsAtIdentity}
use Rattle.ops.proofs.ProgramLaw.{hlo-order-free}
use Rattle.lists.specs.Lists.{first_where}
use Rattle.run.specs.Tree.{Tree, leaf, node, start, element}
use Rattle.run.specs.Run.{RunProgram, results, stopped, ended, met}
use Rattle.run.specs.Ways.{evaluation, free_run}
use Rattle.element.specs.Types.{value_of, wrap_to, slot_for}
use Rattle.element.specs.declared.ElementType.TheVariants.{I32}
use Rattle.division.specs.Division.{division_of}
use Rattle.division.specs.declared.Division.TheVariants.{Divide}
use Rattle.scalar.specs.Ops.{add_of}
use Rattle.scalar.specs.declared.Binary.TheVariants.{Add as Plus}
use Rattle.scalar.specs.declared.Body.TheVariants.{Add}
use Rattle.ops.specs.OpAttributes.{attributes_by}
use Rattle.ops.specs.declared.Kind.{Kind}
use Rattle.ops.specs.declared.Kind.TheVariants.{Constant, Pairwise, Quotient, Reduce}
use Rattle.ops.specs.Ops.{TensorType, Node, element_of, hlo}

abbrev i32 : List ℕ → TensorType
i32 dims = record { element = I32; dims = dims }

abbrev op : Kind → List ℕ → List (List ℕ) → List ℤ → List ℕ → List ℕ → Node
op kind dims from dimensions values operands =
    record { kind = kind; result = i32 dims; from = types from; attributes = attributes_by kind dimensions []; values = values; operands = operands }
  where
    types : List (List ℕ) → List TensorType
    types [] = []
    types (s ∷ ss) = i32 s ∷ types ss

abbrev square : List ℕ
square = 2 ∷ 3 ∷ []

abbrev op0 : Node
op0 = op Constant [] [] [] (0 ∷ []) []

abbrev op1 : Node
op1 = op (Pairwise Plus) square (square ∷ square ∷ []) [] [] (0 ∷ 0 ∷ [])

abbrev op2 : Node
op2 = op (Quotient Divide) square (square ∷ square ∷ []) [] [] (3 ∷ 1 ∷ [])

abbrev op3 : Node
op3 = op (Reduce Add) (2 ∷ []) (square ∷ [] ∷ []) (pos 1 ∷ []) [] (4 ∷ 2 ∷ [])

abbrev sums : RunProgram Node
sums =
    record {
      inputs = 2;
      ops = op0 ∷ op1 ∷ op2 ∷ op3 ∷ [];
      returns = 5 ∷ [];
    }

abbrev x : List ℕ
x = 1 ∷ 2 ∷ 3 ∷ 4 ∷ 5 ∷ 6 ∷ []

abbrev two : List ℕ
two = 2 ∷ 2 ∷ 2 ∷ 2 ∷ 2 ∷ 2 ∷ []

abbrev doubled : List ℕ
doubled = 2 ∷ 4 ∷ 6 ∷ 8 ∷ 10 ∷ 12 ∷ []

evaluated : evaluation hlo sums (x ∷ two ∷ []) 0 ≡ results (x ∷ two ∷ (0 ∷ []) ∷ doubled ∷ x ∷ (6 ∷ 15 ∷ []) ∷ [])
unfolding first_where add_of division_of wrap_to slot_for value_of
evaluated = refl

-- not the text's order, and a tree that uses the start twice
abbrev order : List ℕ
order = 1 ∷ 2 ∷ 0 ∷ 3 ∷ []

abbrev trees : ℕ → ℕ → Tree
trees k i = node (node (leaf start) (leaf (element 0))) (node (leaf (element 1)) (node (leaf (element 2)) (leaf start)))

ran : free_run hlo sums (x ∷ two ∷ []) order trees 0
    ≡ ended (some x ∷ some two ∷ some (0 ∷ []) ∷ some doubled ∷ some x ∷ some (6 ∷ 15 ∷ []) ∷ [])
unfolding first_where add_of division_of wrap_to slot_for value_of
ran = refl

-- a zero divisor at element 1
abbrev zeros : List ℕ
zeros = 2 ∷ 0 ∷ 2 ∷ 0 ∷ 2 ∷ 2 ∷ []

refused : evaluation hlo sums (x ∷ zeros ∷ []) 0 ≡ stopped (x ∷ zeros ∷ (0 ∷ []) ∷ doubled ∷ []) 2 1
unfolding first_where add_of division_of wrap_to slot_for value_of
refused = refl

met-too : free_run hlo sums (x ∷ zeros ∷ []) order trees 0 ≡ met (some x ∷ some zeros ∷ none ∷ some doubled ∷ none ∷ none ∷ []) 2 1
unfolding first_where add_of division_of wrap_to slot_for value_of
met-too = refl

-- The premises can be met -----------------------------------------------------------------------------------------------------

abbrev types : List TensorType
types = i32 square ∷ i32 square ∷ []

-- what holds of each of the four ops holds of every op
each : (P : Node → Type 0) → P op0 → P op1 → P op2 → P op3 → (k : ℕ) (o : Node) → get_elem? sums.ops k ≡ some o → P o
each P a b c d zero o e = let z : op0 ≡ o = cc in subst P z a
each P a b c d (suc zero) o e = let z : op1 ≡ o = cc in subst P z b
each P a b c d (suc (suc zero)) o e = let z : op2 ≡ o = cc in subst P z c
each P a b c d (suc (suc (suc zero))) o e = let z : op3 ≡ o = cc in subst P z d
each P a b c d (suc (suc (suc (suc k)))) o e = absurd (let z : ◌≡◌ {A = ℕ} 0 1 = cc in omega arith)

accepted : Accepted types sums
unfolding first_where
accepted =
    record {
      inputs = refl;
      scoped = scoped;
      returned = (omega arith, tt);
      written = each (λ o. o.from ≡ map (value_type_at types sums) o.operands) refl refl refl refl;
      granted = each (λ o. NodeGranted o o.kind) (record { sized = refl; ranged = (zero-value I32, tt) }) (at0, at1) (at0, at1)
          (record { there = omega arith; element = refl }, record { of = record { there = omega arith; element = refl }; count = refl }, record { shape = refl });
    }
  where
    at0 : {kind : Kind} {operands : List ℕ} → Operand (op kind square (square ∷ square ∷ []) [] [] operands) 0 I32 6
    at0 = record { of = record { there = omega arith; element = refl }; count = refl }

    at1 : {kind : Kind} {operands : List ℕ} → Operand (op kind square (square ∷ square ∷ []) [] [] operands) 1 I32 6
    at1 = record { of = record { there = omega arith; element = refl }; count = refl }

    scoped : Scoped (language_of hlo) 2 sums.ops
    scoped zero h = tt
    scoped (suc zero) h = (omega arith, (omega arith, tt))
    scoped (suc (suc zero)) h = (omega arith, (omega arith, tt))
    scoped (suc (suc (suc zero))) h = (omega arith, (omega arith, tt))
    scoped (suc (suc (suc (suc k)))) h = absurd (omega arith)

abbrev Starts : Body → Node → Type 0
Starts body o = o.kind ≡ Reduce body
    → (j : ℕ) × (c : Node) × (get_elem? sums.ops j ≡ some c) × (c.kind ≡ Constant) × (get_or o.operands 1 0 ≡ 2 + j)
    × (get_or c.values 0 0 ≡ identity_of body (element_of o))

starts : StartsAtIdentity sums
starts k o body e =
    each (Starts body)
    (λ q. absurd (let z : ◌≡◌ {A = ℕ} 0 1 = cc in omega arith))
    (λ q. absurd (let z : ◌≡◌ {A = ℕ} 0 1 = cc in omega arith))
    (λ q. absurd (let z : ◌≡◌ {A = ℕ} 0 1 = cc in omega arith))
    (λ q.
    let z : Add ≡ body = cc in
    (0, op0, refl, refl, refl, subst (λ (b : Body). 0 ≡ identity_of b I32) z refl))
    k o e

-- demand 3 for this program, on all its inputs
pub sums-free : (x y : Tensor) → Holds I32 6 x → Holds I32 6 y → OrderFree hlo sums (x ∷ y ∷ []) 0
sums-free x y h g = hlo-order-free types sums accepted starts (x ∷ y ∷ []) (h, (g, tt)) 0
