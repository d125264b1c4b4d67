-- Sets of ops whose reductions may be run by any allowed trees, their free runs, and the claim that order and trees do not matter (01, "Free runs").
-- Assumes nothing.
use Rattle.std.specs.Prelude.{◌≡◌, List, [], ◌∷◌, map, ℕ, zero, suc, ◌+◌, ◌≤◌, ◌<◌, length, get_or}
use Rattle.std.proofs.Math.Option.{some}
use Rattle.std.proofs.Math.ListN.{get_elem?}
use Rattle.lists.specs.Lists.{All}
use Rattle.run.specs.Tree.{Tree, count_from, Allowed, fold, tree_value, MonoidOn}
use Rattle.run.specs.Run.{Out, gives, Language, RunProgram, Answer, evaluate, RunEnd, first_table, run, on_option, Order, Scoped, Claim}

-- An op has its result outright, or stops; or it gathers: each element of its result is made of a row of elements from a start value by an
-- operation, as in a reduction. A are values, B stops, E elements.
pub data Way (A B E : Type 0) : Type 0 where
  plain : Out A B → Way A B E
  gather : (E → E → E) → E → List (List E) → Way A B E

-- A set of ops given by their ways.
pub record OpSet : Type 1 where
  pub Op : Type 0
  pub Value : Type 0
  pub Stop : Type 0
  pub Element : Type 0
  -- as in Language
  pub operands : Op → List ℕ
  pub turns : Value → ℕ
  pub blank : Value
  -- the value whose tensor has these elements, with nothing to report beside it
  pub value_of : List Element → Value
  -- the lengths of the rows that an op gathers, one for each result element; none for another op
  pub row_sizes : Op → List ℕ
  -- an op on its operands, with what is left of the budget
  pub way : Op → List Value → ℕ → Way Value Stop Element

-- each row by its own tree
abbrev pub tree_values : {E : Type 0} → (E → E → E) → E → (ℕ → Tree) → List (List E) → List E
tree_values f s trees [] = []
tree_values f s trees (xs ∷ rows) = tree_value f s xs (trees zero) ∷ tree_values f s (λ i. trees (suc i)) rows

-- a tree for each row, allowed for its length: "each result element of a reduction has its own tree"
abbrev pub TreesFor : List ℕ → (ℕ → Tree) → Type 0
TreesFor sizes trees = (i : ℕ) → i < length sizes → Allowed (get_or sizes i 0) (trees i)

module _ (S : OpSet) where
  -- the evaluation's way: a fold of each row
  abbrev pub by_fold : Way S.Value S.Stop S.Element → Out S.Value S.Stop
  by_fold (plain r) = r
  by_fold (gather f s rows) = gives (S.value_of (map (fold f s) rows))

  -- a free run's way: "a reduction by its trees"
  abbrev pub by_trees : (ℕ → Tree) → Way S.Value S.Stop S.Element → Out S.Value S.Stop
  by_trees trees (plain r) = r
  by_trees trees (gather f s rows) = gives (S.value_of (tree_values f s trees rows))

  abbrev pub language_of : Language
  language_of =
      record {
        Op = S.Op;
        Value = S.Value;
        Stop = S.Stop;
        operands = S.operands;
        turns = S.turns;
        blank = S.blank;
        meaning = λ o args b. by_fold (S.way o args b);
      }

  abbrev pub evaluation : RunProgram S.Op → List S.Value → ℕ → Answer S.Value S.Stop
  evaluation p inputs b = evaluate language_of p.ops inputs b

  -- "A free run is fed an accepted program, its inputs, an order and trees": trees k i is the tree of op k's result element i
  abbrev pub free_run : RunProgram S.Op → List S.Value → List ℕ → (ℕ → ℕ → Tree) → ℕ → RunEnd S.Value S.Stop
  free_run p inputs order trees b =
      run language_of p.inputs p.ops (λ k o args left. by_trees (trees k) (S.way o args left)) order (first_table inputs (length p.ops)) b

  abbrev pub OrderOf : RunProgram S.Op → List ℕ → Type 0
  OrderOf p order = Order language_of p.inputs p.ops order

  abbrev pub sizes_at : RunProgram S.Op → ℕ → List ℕ
  sizes_at p k = on_option (get_elem? p.ops k) [] S.row_sizes

  abbrev pub TreesAllowed : RunProgram S.Op → (ℕ → ℕ → Tree) → Type 0
  TreesAllowed p trees = (k : ℕ) → k < length p.ops → TreesFor (sizes_at p k) (trees k)

  -- Demand 3, of a program on its inputs with a budget: one claim about all orders and all families of trees.
  abbrev pub OrderFree : RunProgram S.Op → List S.Value → ℕ → Type 0
  OrderFree p inputs b =
      (order : List ℕ) → OrderOf p order → (trees : ℕ → ℕ → Tree) → TreesAllowed p trees
      → Claim language_of p.returns (evaluation p inputs b) (free_run p inputs order trees b)

-- What it rests on ----------------------------------------------------------------------------------------------------------

-- values fit their numbers, one by one
abbrev pub AllFit : {A : Type 0} → (ℕ → A → Type 0) → List ℕ → List A → Type 0
AllFit Fits [] [] = Unit {0}
AllFit Fits [] (v ∷ vs) = ⊥
AllFit Fits (i ∷ is) [] = ⊥
AllFit Fits (i ∷ is) (v ∷ vs) = Fits i v × AllFit Fits is vs

-- a way that gathers rows of these lengths, all of valid elements, by an operation that is associative on them with the start as identity
abbrev pub Gathers : {A B E : Type 0} → (E → Type 0) → List ℕ → Way A B E → Type 0
Gathers valid sizes (plain r) = Unit {0}
Gathers valid sizes (gather f s rows) = MonoidOn valid f s × All (All valid) rows × (map length rows ≡ sizes)

-- What the ops of a program owe, where `Fits i v` says that v can be value number i, and `Valid o` which elements op o can gather: operands and
-- results name earlier values; on operands that fit, an op's result fits and takes its turns from any budget that has them, and gathers in
-- a way that trees cannot alter.
pub record Premises (S : OpSet) (p : RunProgram S.Op) (Fits : ℕ → S.Value → Type 0) (Valid : S.Op → S.Element → Type 0) : Type 0 where
  pub scoped : Scoped (language_of S) p.inputs p.ops
  pub returned : All (λ i. i < p.inputs + length p.ops) p.returns
  pub fits : (k : ℕ) (o : S.Op) → get_elem? p.ops k ≡ some o → (args : List S.Value) → AllFit Fits (S.operands o) args
      → (b : ℕ) (v : S.Value) → by_fold S (S.way o args b) ≡ gives v → Fits (p.inputs + k) v
  pub gathers : (k : ℕ) (o : S.Op) → get_elem? p.ops k ≡ some o → (args : List S.Value) → AllFit Fits (S.operands o) args
      → (b : ℕ) → Gathers (Valid o) (S.row_sizes o) (S.way o args b)
  pub costs : (k : ℕ) (o : S.Op) → get_elem? p.ops k ≡ some o → (args : List S.Value) → AllFit Fits (S.operands o) args
      → (b : ℕ) (v : S.Value) → by_fold S (S.way o args b) ≡ gives v → S.turns v ≤ b
  pub enough : (k : ℕ) (o : S.Op) → get_elem? p.ops k ≡ some o → (args : List S.Value) → AllFit Fits (S.operands o) args
      → (b c : ℕ) (v : S.Value) → by_fold S (S.way o args b) ≡ gives v → S.turns v ≤ c → by_fold S (S.way o args c) ≡ gives v

-- the inputs fit their numbers, and are as many as the program has
abbrev pub InputsFit : {O A : Type 0} → RunProgram O → (ℕ → A → Type 0) → List A → Type 0
InputsFit p Fits inputs = AllFit Fits (count_from 0 p.inputs) inputs
