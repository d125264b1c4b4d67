-- What the verifier grants of the ops of a program, and the premise of demand 3.
-- Assumes nothing.
use Rattle.std.specs.Prelude.{◌≡◌, List, [], ◌∷◌, ◌++◌, map, ℕ, ◌+◌, ◌<◌, length, get_or}
use Rattle.std.proofs.Math.Option.{some}
use Rattle.std.proofs.Math.ListN.{get_elem?}
use Rattle.lists.specs.Lists.{All}
use Rattle.run.specs.Run.{RunProgram, Scoped}
use Rattle.run.specs.Ways.{language_of}
use Rattle.element.specs.declared.ElementType.{ElementType}
use Rattle.element.specs.declared.ElementType.TheVariants.{I1}
use Rattle.scalar.specs.Body.{identity_of}
use Rattle.scalar.specs.declared.Body.{Body}
use Rattle.shape.specs.Index.{size}
use Rattle.reduction.specs.Rows.{ReduceHolds}
use Rattle.elementwise.specs.Elementwise.{Tensor, Holds, spread_size}
use Rattle.ops.specs.OpAttributes.{naturals}
use Rattle.ops.specs.declared.Kind.{Kind}
use Rattle.ops.specs.declared.Kind.TheVariants.{Constant, Iota, Elementwise, Pairwise, Quotient, Compare, Convert, Select, Clamp, Moved, Pad, Concatenate, DynamicSlice, Reduce}
use Rattle.ops.specs.Ops.{TensorType, no_tensor_type, Node, hlo, element_of, result_dims, element_count, operand_element, operand_dims, is_single}

-- operand j is there, with elements of this type
pub record OperandOf (o : Node) (j : ℕ) (t : ElementType) : Type 0 where
  pub there : j < length o.from
  pub element : operand_element o j ≡ t

-- and with this many
pub record Operand (o : Node) (j : ℕ) (t : ElementType) (n : ℕ) : Type 0 where
  pub of : OperandOf o j t
  pub count : size (operand_dims o j) ≡ n

-- What an op's types and constraints in 000 grant of its operands' types, its attribute lists and a constant's elements, as far as the type
-- of its result needs them.
abbrev pub NodeGranted : (o : Node) → Kind → Type 0
NodeGranted o Constant = Holds (element_of o) (element_count o) o.values
NodeGranted o Iota = Unit {0}
NodeGranted o (Elementwise op) = Operand o 0 (element_of o) (element_count o)
NodeGranted o (Pairwise op) = Operand o 0 (element_of o) (element_count o) × Operand o 1 (element_of o) (element_count o)
NodeGranted o (Quotient op) = Operand o 0 (element_of o) (element_count o) × Operand o 1 (element_of o) (element_count o)
NodeGranted o (Compare d) = element_of o ≡ I1
NodeGranted o Convert = Unit {0}
NodeGranted o Select = Operand o 1 (element_of o) (element_count o) × Operand o 2 (element_of o) (element_count o)
NodeGranted o Clamp =
    Operand o 0 (element_of o) (spread_size (is_single o 0) (element_count o)) × Operand o 1 (element_of o) (element_count o)
    × Operand o 2 (element_of o) (spread_size (is_single o 2) (element_count o))
NodeGranted o (Moved m) = OperandOf o 0 (element_of o)
NodeGranted o Pad = OperandOf o 0 (element_of o) × Operand o 1 (element_of o) 1
NodeGranted o Concatenate = All (λ t. t.element ≡ element_of o) o.from
NodeGranted o DynamicSlice = OperandOf o 0 (element_of o)
NodeGranted o (Reduce body) = OperandOf o 0 (element_of o) × Operand o 1 (element_of o) 1 × ReduceHolds (naturals o.attributes.dimensions) (operand_dims o 0) (result_dims o)

-- tensors of these types, one by one
abbrev pub HoldAll : List TensorType → List Tensor → Type 0
HoldAll [] [] = Unit {0}
HoldAll [] (x ∷ xs) = ⊥
HoldAll (t ∷ ts) [] = ⊥
HoldAll (t ∷ ts) (x ∷ xs) = Holds t.element (size t.dims) x × HoldAll ts xs

-- a program whose inputs have the types `types`
module _ (types : List TensorType) (p : RunProgram Node) where
  -- the type of value i: the inputs come first, then each op's result
  abbrev pub value_type_at : ℕ → TensorType
  value_type_at i = get_or (types ++ map (λ o. o.result) p.ops) i no_tensor_type

  -- operands and results name earlier values, every op has its operands' types as they were defined, and meets its class's grants
  pub record Accepted : Type 0 where
    pub inputs : length types ≡ p.inputs
    pub scoped : Scoped (language_of hlo) p.inputs p.ops
    pub returned : All (λ i. i < p.inputs + length p.ops) p.returns
    pub written : (k : ℕ) (o : Node) → get_elem? p.ops k ≡ some o → o.from ≡ map value_type_at o.operands
    pub granted : (k : ℕ) (o : Node) → get_elem? p.ops k ≡ some o → NodeGranted o o.kind

-- "A reduction's start is a constant where a constant op defines it": every reduction starts from a constant that is its operation's identity
abbrev pub StartsAtIdentity : RunProgram Node → Type 0
StartsAtIdentity p = (k : ℕ) (o : Node) (body : Body) → get_elem? p.ops k ≡ some o → o.kind ≡ Reduce body
    → (j : ℕ) × (c : Node) × (get_elem? p.ops j ≡ some c) × (c.kind ≡ Constant) × (get_or o.operands 1 0 ≡ p.inputs + j)
    × (get_or c.values 0 0 ≡ identity_of body (element_of o))
