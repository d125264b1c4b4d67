-- Programs over any set of ops, their evaluation in text order, and their free runs (01, "Free runs").
-- Assumes nothing.
use Rattle.std.specs.Prelude.{◌≡◌, ℕ, zero, suc, ◌+◌, ◌-◌, ◌≤◌, ◌<◌, eqb, length, get_or, set, replicate}
use mathlib.Core.List.{List, [], ◌∷◌, ◌++◌, map, Memᴰ}
use Rattle.std.proofs.Math.Option.{Option, none, some}
use Rattle.std.proofs.Math.ListN.{get_elem?}
use Rattle.lists.specs.Lists.{All, pick}
use Rattle.run.specs.Tree.{count_from}

-- Programs ----------------------------------------------------------------------------------------------------------------

-- an op gives a value, or stops
pub data Out (A B : Type 0) : Type 0 where
  gives : A → Out A B
  stops : B → Out A B

module _ {A B C : Type 0} where
  abbrev pub on_out : Out A B → (A → C) → (B → C) → C
  on_out (gives v) f g = f v
  on_out (stops w) f g = g w

-- A set of ops.
pub record Language : Type 1 where
  pub Op : Type 0
  -- what an op leaves behind: its tensor, and the counts that are reported beside it
  pub Value : Type 0
  -- why an op stops: the element whose divisor is zero, or that the budget is spent
  pub Stop : Type 0
  -- the numbers of the values that an op names as its operands
  pub operands : Op → List ℕ
  -- what making the value took from the budget
  pub turns : Value → ℕ
  -- what is read where there is no value
  pub blank : Value
  -- an op on its operands, with what is left of the budget
  pub meaning : Op → List Value → ℕ → Out Value Stop

-- A program over the ops O: how many inputs it has, its ops in text order, and the values that its return names. A value goes by its number:
-- the inputs come first, then each op's result in text order.
pub record RunProgram (O : Type 0) : Type 0 where
  pub inputs : ℕ
  pub ops : List O
  pub returns : List ℕ

-- Evaluation in text order ------------------------------------------------------------------------------------------------

-- the values of inputs and ops; or those made before the op that stopped, the number of that op, and why
pub data Answer (A B : Type 0) : Type 0 where
  results : List A → Answer A B
  stopped : List A → ℕ → B → Answer A B

module _ (L : Language) where
  -- the values of these numbers
  abbrev pub values_at : List L.Value → List ℕ → List L.Value
  values_at vs is = map (λ i. get_or vs i L.blank) is

  -- the ops from number k on, after the values vs, with budget b
  abbrev pub evaluate_from : ℕ → List L.Op → List L.Value → ℕ → Answer L.Value L.Stop
  evaluate_from k [] vs b = results vs
  evaluate_from k (o ∷ os) vs b =
      on_out (L.meaning o (values_at vs (L.operands o)) b)
      (λ v. evaluate_from (suc k) os (vs ++ v ∷ []) (b - L.turns v))
      (λ w. stopped vs k w)

  abbrev pub evaluate : List L.Op → List L.Value → ℕ → Answer L.Value L.Stop
  evaluate ops inputs b = evaluate_from 0 ops inputs b

-- Free runs ---------------------------------------------------------------------------------------------------------------

-- A table has a place for each value, which holds it or is free. A run goes through its whole order; or an op stops it, and its table stays as
-- it is ("adds nothing and ends the run"); or an op finds an operand's place free.
pub data RunEnd (A B : Type 0) : Type 0 where
  ended : List (Option A) → RunEnd A B
  met : List (Option A) → ℕ → B → RunEnd A B
  stuck : ℕ → RunEnd A B

abbrev pub on_option : {A C : Type 0} → Option A → C → (A → C) → C
on_option none c f = c
on_option (some a) c f = f a

module _ {A : Type 0} where
  -- the values at these places of a table, where all of them hold one
  abbrev pub read_all : List (Option A) → List ℕ → Option (List A)
  read_all t [] = some []
  read_all t (i ∷ is) = on_option (get_or t i none) none (λ v. on_option (read_all t is) none (λ vs. some (v ∷ vs)))

  -- "Its table holds the inputs at first": then a free place for each of n ops
  abbrev pub first_table : List A → ℕ → List (Option A)
  first_table inputs n = map some inputs ++ replicate n none

  -- "Results are what the return names."
  abbrev pub results_of : {B : Type 0} → List ℕ → RunEnd A B → Option (List A)
  results_of returns (ended t) = read_all t returns
  results_of returns (met t k w) = none
  results_of returns (stuck k) = none

-- how often a list names k
abbrev pub count : ℕ → List ℕ → ℕ
count k [] = zero
count k (j ∷ js) = pick (eqb k j) (suc (count k js)) (count k js)

-- how a run does an op on its operands with a budget: as its meaning says, or by trees
abbrev pub Step : Language → Type 0
Step L = L.Op → List L.Value → ℕ → Out L.Value L.Stop

-- the number of op k's result after m inputs
abbrev pub result_at : ℕ → ℕ → ℕ
result_at m k = m + k

-- of a program with m inputs and these ops
module _ (L : Language) (m : ℕ) (ops : List L.Op) where
  -- "Each op in turn reads its operands there and adds its result"
  abbrev pub run : (ℕ → Step L) → List ℕ → List (Option L.Value) → ℕ → RunEnd L.Value L.Stop
  run step [] t b = ended t
  run step (k ∷ ks) t b =
      on_option (get_elem? ops k) (stuck k) (λ o.
      on_option (read_all t (L.operands o)) (stuck k) (λ args.
      on_out (step k o args b)
      (λ v. run step ks (set t (result_at m k) (some v)) (b - L.turns v))
      (λ w. met t k w)))

  abbrev pub operands_at : ℕ → List ℕ
  operands_at k = on_option (get_elem? ops k) [] L.operands

  -- each op of the list stands after those that define its operands, where the values `known` are there before them all
  abbrev pub OperandsFirst : List ℕ → List ℕ → Type 0
  OperandsFirst known [] = Unit {0}
  OperandsFirst known (k ∷ ks) = All (λ i. Memᴰ i known) (operands_at k) × OperandsFirst (result_at m k ∷ known) ks

  -- "The order lists each op once, return and body ops aside, after those that define its operands"
  pub record Order (order : List ℕ) : Type 0 where
    pub each-once : (k : ℕ) → k < length ops → count k order ≡ 1
    pub no_other : (k : ℕ) → length ops ≤ k → count k order ≡ 0
    pub operands-first : OperandsFirst (count_from 0 m) order

  -- every operand of every op is an input or an earlier op's result
  abbrev pub Scoped : Type 0
  Scoped = (k : ℕ) → k < length ops → All (λ i. i < m + k) (operands_at k)

-- What is claimed of a free run's end by the evaluation's answer. Results: it ends, its table holds the evaluation's values and nothing else, and
-- its results are the evaluation's. A stop: it meets one.
abbrev pub Claim : (L : Language) → List ℕ → Answer L.Value L.Stop → RunEnd L.Value L.Stop → Type 0
Claim L returns (results vs) e = (e ≡ ended (map some vs)) × (results_of returns e ≡ some (values_at L vs returns))
Claim L returns (stopped vs k w) e = (t : List (Option L.Value)) × (j : ℕ) × (u : L.Stop) × (e ≡ met t j u)
