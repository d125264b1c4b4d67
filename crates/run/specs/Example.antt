-- A small set of ops over numbers, and two programs, on which the order theorem is worked.
-- Assumes nothing.
use Rattle.std.specs.Prelude.{List, [], ◌∷◌, ℕ, zero, suc, ◌/◌, eqb, ltb, get_or}
use Rattle.lists.specs.Lists.{pick, tab, first_where}
use Rattle.run.specs.Tree.{Tree, leaf, node, start, element}
use Rattle.run.specs.Run.{Out, gives, stops, RunProgram}
use Rattle.run.specs.Ways.{Way, plain, gather, OpSet}

abbrev pub SmallTensor : Type 0
SmallTensor = List ℕ

-- the left number unless it is 0: associative, and not commutative
abbrev pub leading : ℕ → ℕ → ℕ
leading zero b = b
leading (suc a) b = suc a

-- its identity
abbrev pub nothing : ℕ
nothing = 0

-- a constant; n quotients of two values; the leading one of a value's n numbers, from a start value
pub data SmallOp : Type 0 where
  constant : SmallTensor → SmallOp
  divide : ℕ → ℕ → ℕ → SmallOp
  first : ℕ → ℕ → ℕ → SmallOp

abbrev pub small_operands : SmallOp → List ℕ
small_operands (constant xs) = []
small_operands (divide n x y) = x ∷ y ∷ []
small_operands (first n x s) = x ∷ s ∷ []

abbrev pub quotients : ℕ → SmallTensor → SmallTensor → Out SmallTensor ℕ
quotients n x y =
    let zero_at = first_where (λ d. eqb d 0) y in
    pick (ltb zero_at n) (stops zero_at) (gives (tab n (λ i. get_or x i 0 / get_or y i 0)))

abbrev pub small_way : SmallOp → List SmallTensor → Way SmallTensor ℕ ℕ
small_way (constant xs) args = plain (gives xs)
small_way (divide n x y) args = plain (quotients n (get_or args 0 []) (get_or args 1 []))
small_way (first n x s) args = gather leading (get_or (get_or args 1 []) 0 0) (get_or args 0 [] ∷ [])

abbrev pub small_rows : SmallOp → List ℕ
small_rows (constant xs) = []
small_rows (divide n x y) = []
small_rows (first n x s) = n ∷ []

abbrev pub numbers : OpSet
numbers =
    record {
      Op = SmallOp;
      Value = SmallTensor;
      Stop = ℕ;
      Element = ℕ;
      operands = small_operands;
      turns = λ v. 0;
      blank = [];
      value_of = λ xs. xs;
      row_sizes = small_rows;
      way = λ o args b. small_way o args;
    }

-- an input of 3 numbers is value 0; value 4 is the leading one of their halves
abbrev pub halves : RunProgram SmallOp
halves =
    record {
      inputs = 1;
      ops = constant (nothing ∷ []) ∷ constant (2 ∷ 2 ∷ 2 ∷ []) ∷ divide 3 0 2 ∷ first 3 3 1 ∷ [];
      returns = 4 ∷ [];
    }

-- not the text's order
abbrev pub order : List ℕ
order = 1 ∷ 2 ∷ 0 ∷ 3 ∷ []

-- not the fold's tree: it uses the start twice
abbrev pub trees : ℕ → ℕ → Tree
trees k i = node (node (leaf start) (leaf (element 0))) (node (leaf (element 1)) (node (leaf start) (leaf (element 2))))

-- the first input by each of two others
abbrev pub twice : RunProgram SmallOp
twice = record { inputs = 3; ops = divide 2 0 1 ∷ divide 2 0 2 ∷ []; returns = 3 ∷ 4 ∷ [] }
