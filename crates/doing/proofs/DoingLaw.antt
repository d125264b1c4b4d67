-- One op on operands that stand in the slots: what its function requires, and that what it leaves is what the op gives.
-- Assumes nothing.
use mathlib.Core.Path.{◌≡◌, refl, sym, ap, ◌∙◌, subst}
use mathlib.Core.List.{List, [], ◌∷◌, ◌++◌, append-nil, map}
use mathlib.Core.Bool.{Bool, true}
use Prim.Native.Nat.{ℕ, zero, suc, ◌+◌, ◌-◌, ◌≤◌, ◌<◌}
use native.Mathlib.Numerals.{add-one}
use native.Mathlib.Omega.{arith}
use lib.ListN.{length, get_or, take, drop, replicate, drop_of_length-le}
use lib.Seq.{get_or-take, get_or-drop}
use borrow.Author.Tests.{lt-ltb, le-ltb}
use Rattle.lists.specs.Lists.{tab}
use Rattle.lists.proofs.TabLaw.{get_or-tab, tab-cong, map-tab}
use Rattle.run.specs.Run.{Out, gives, stops, on_out}
use Rattle.division.specs.declared.Division.{Division}
use Rattle.shape.specs.Index.{at, size}
use Rattle.shape.specs.Dims.{dims_of, Fills}
use Rattle.shape.specs.declared.Shape.{Shape}
use Rattle.maps.specs.Concatenation.{no_shape, shapes_of, inputs_in, concatenated}
use Rattle.maps.specs.Holds.{ConcatenateHolds, InputsLaid}
use Rattle.elementwise.specs.Elementwise.{Tensor, Holds, step_numbers, out_numbers, divided, Divides}
use Rattle.std.specs.Prelude.{Ok, Err}
use Rattle.elementwise.specs.declared.ZeroDivisor.{ZeroDivisor}
use Rattle.ops.specs.declared.Kind.{Kind}
use Rattle.ops.specs.declared.Kind.TheVariants.{Constant, Iota, Elementwise, Pairwise, Quotient, Compare, Convert, Select, Clamp, Moved, Pad, Concatenate, DynamicSlice, Reduce}
use Rattle.apply.specs.Apply.{TaskReady, task_outcome}
use Rattle.apply.specs.declared.Task.{Task}
use Rattle.dense.specs.Dense.{dense_value}
use Rattle.dense.specs.Filled.{Filled as Memory, filled, filled_by}
use Rattle.dense.proofs.LengthLaw.{dense-length}
use Rattle.dimrules.specs.Types.{type_at}
use Rattle.opcheck.specs.declared.Operation.{Operation}
use Rattle.facts.specs.Facts.{AcceptedAs, DoneByTask, task_of, Stretched, ArgumentsRead}
use Rattle.facts.proofs.OtherLaw.{quotient-ready, quotient_is, constant-ready, concatenate-ready, concatenate-inputs, concatenate-is}
use Rattle.facts.proofs.OutcomeLaw.{outcome-is}
use Rattle.facts.proofs.ReadyLaw.{ready}
use Rattle.doing.specs.Doing.{size_of, arg_in, args_in, arguments_at, operand_in, start_in, op_gives, OperandsPlaced, Done, Gives, Answers}

-- a kind that is none of the three is done by a task
pub by-task : (kind : Kind) → (kind ≡ Constant → ⊥) → ((op : Division) → kind ≡ Quotient op → ⊥) → (kind ≡ Concatenate → ⊥) → DoneByTask kind
by-task Constant a b c = absurd (a refl)
by-task (Quotient op) a b c = absurd (b op refl)
by-task Concatenate a b c = absurd (c refl)
by-task Iota a b c = tt
by-task (Elementwise op) a b c = tt
by-task (Pairwise op) a b c = tt
by-task (Compare d) a b c = tt
by-task Convert a b c = tt
by-task Select a b c = tt
by-task Clamp a b c = tt
by-task (Moved m) a b c = tt
by-task Pad a b c = tt
by-task DynamicSlice a b c = tt
by-task (Reduce body) a b c = tt

-- ---- answers

-- an op that gives its tensor
pub given : {number : ℕ} {m : Out Tensor ℕ} {old new : List ℕ} → m ≡ gives new → Done number m (Ok tt) old new
given {number} {m} {old} {new} e = subst (λ (k : Out Tensor ℕ). Done number k (Ok tt) old new) (sym e) (record { answers = refl; leaves = refl })

pub gives-done : (kind : Kind) (o : Operation) (args : List Tensor) {number : ℕ} {old new : List ℕ} → Gives kind o args new → Answers number kind o args (Ok tt) old new
gives-done kind o args g values = given (g values)

-- a division that met no zero divisor, and one that did, whose stretch was set to zeros
kept : {number : ℕ} (m : Out Tensor ℕ) (f : ℕ → Tensor) {old new : List ℕ} → step_numbers (Ok tt) ≡ out_numbers number m → new ≡ on_out m (λ v. v) f → Done number m (Ok tt) old new
kept (gives v) f e q = record { answers = e; leaves = q }
kept (stops k) f e q = absurd (let z : ◌≡◌ {A = ℕ} 0 12 = ap (λ n. n.0) e in omega arith)

zeroed : {number : ℕ} (m : Out Tensor ℕ) {e : ZeroDivisor} {old new : List ℕ} → step_numbers (Err e) ≡ out_numbers number m → new ≡ replicate (length old) 0 → Done number m (Err e) old new
zeroed (gives v) e q = absurd (let z : ◌≡◌ {A = ℕ} 12 0 = ap (λ n. n.0) e in omega arith)
zeroed (stops k) e q = record { answers = e; leaves = q }

take-tab : (n m : ℕ) (f : ℕ → ℕ) → n ≤ m → take n (tab m f) ≡ tab n f
take-tab zero m f h = refl
take-tab (suc n) zero f h = absurd (omega arith)
take-tab (suc n) (suc m) f h = ap (λ (l : List ℕ). f zero ∷ l) (take-tab n m (λ k. f (suc k)) (omega arith))

module _ (o : Operation) (places slots : List ℕ) where
  -- operand j, which begins at from and has n slots
  pub part-lent : (j : ℕ) → j < o.arity → {n : ℕ} → n ≡ size_of o j → take (at places j + n - at places j) (drop (at places j) slots) ≡ operand_in o places slots j
  part-lent j l {n} e = let m : at places j + n - at places j ≡ size_of o j = omega arith in rw (lt-ltb j o.arity l, m)

  pub part-inside : OperandsPlaced o places slots → (j : ℕ) → j < o.arity → {n : ℕ} → n ≡ size_of o j → at places j + n ≤ length slots
  part-inside p j l e = omega (arith, p.inside j l)

  pub none_lent : (j : ℕ) → o.arity ≤ j → [] ≡ operand_in o places slots j
  none_lent j l = rw (le-ltb j o.arity l)

  lent : (j : ℕ) → j < o.arity → operand_in o places slots j ≡ arg_in o places slots j
  lent j l = rw (lt-ltb j o.arity l)

  arg-at : (j : ℕ) → j < o.arity → get_or (args_in o places slots) j [] ≡ operand_in o places slots j
  arg-at j l = get_or-tab o.arity (arg_in o places slots) j [] l ∙ sym (lent j l)

  arguments : ArgumentsRead o (args_in o places slots) (operand_in o places slots 0) (operand_in o places slots 1) (operand_in o places slots 2)
  arguments = record { operand-0 = arg-at 0; operand-1 = arg-at 1; operand-2 = arg-at 2 }

  module _ (p : OperandsPlaced o places slots) where
    held : (j : ℕ) → j < o.arity → Holds (type_at o.types j).element (size_of o j) (operand_in o places slots j)
    held j l = subst (Holds (type_at o.types j).element (size_of o j)) (sym (lent j l)) (p.holds j l)

    stretched : (out : Tensor) → Fills out o.result.shape → Stretched o (operand_in o places slots 0) (operand_in o places slots 1) (operand_in o places slots 2) out
    stretched out f = record { operand-0 = λ l. (held 0 l).sized; operand-1 = λ l. (held 1 l).sized; operand-2 = λ l. (held 2 l).sized; result = f }

  -- ---- a task

  starts-are : AcceptedAs DynamicSlice o
      → map (λ s. get_or s 0 0) (drop 1 (args_in o places slots)) ≡ take (type_at o.types 0).shape.rank (tab 6 (start_in places slots))
  starts-are a =
      let n = (type_at o.types 0).shape.rank in
      let m : o.arity ≡ suc n = (let s = a.granted.starts in let l : 1 ≤ o.arity = a.least in omega arith) in
      ap (λ (k : ℕ). map (λ s. get_or s 0 0) (drop 1 (tab k (arg_in o places slots)))) m
      ∙ map-tab (λ (s : Tensor). get_or s 0 0) n (λ i. arg_in o places slots (suc i))
      ∙ tab-cong n (λ i. get_or (arg_in o places slots (suc i)) 0 0) (start_in places slots) (λ i l. start i (a.scalars refl (suc i) (omega arith) (omega arith)))
      ∙ sym (take-tab n 6 (start_in places slots) (let b = (a.shaped.types 0 (omega arith)).sized.rank in omega arith))
    where
      start : (i : ℕ) → (type_at o.types (suc i)).shape.rank ≡ 0 → get_or (arg_in o places slots (suc i)) 0 0 ≡ start_in places slots i
      start i e =
          let s : size_of o (suc i) ≡ 1 = ap (λ (r : ℕ). size (take r (type_at o.types (suc i)).shape.dims)) e in
          get_or-take (size_of o (suc i)) (drop (at places (suc i)) slots) 0 0 (omega arith)
          ∙ get_or-drop (at places (suc i)) slots 0 0
          ∙ ap (λ (q : ℕ). at slots q) (let z : at places (suc i) + 0 ≡ at places (suc i) = omega arith in z)
          ∙ ap (λ (j : ℕ). at slots (at places j)) (sym (add-one i))

  module _ (kind : Kind) (a : AcceptedAs kind o) (n : DoneByTask kind) {k : Task} (t : k ≡ task_of kind o)
      {x y z : Tensor} (ex : x ≡ operand_in o places slots 0) (ey : y ≡ operand_in o places slots 1) (ez : z ≡ operand_in o places slots 2) where
    pub task-ready : OperandsPlaced o places slots → (out : Tensor) → Fills out o.result.shape → TaskReady k k.kind x y z out
    task-ready p out f = rw (t, ex, ey, ez) (ready kind o a n _ _ _ out (stretched p out f))

    pub task-gives : {starts new : List ℕ} → starts ≡ tab 6 (start_in places slots) → task_outcome k k.kind starts x y z ≡ gives new → Gives kind o (args_in o places slots) new
    unfolding op_gives
    task-gives {starts} {new} es e values =
        sym (outcome-is o values [] kind a n (args_in o places slots) (tab 6 (start_in places slots)) _ _ _ arguments
        (λ d. starts-are (subst (λ (k : Kind). AcceptedAs k o) d a)))
        ∙ (rw (t, ex, ey, ez, es) at e)

  -- ---- a quotient

  module _ (op : Division) (a : AcceptedAs (Quotient op) o) {x y : Tensor} (ex : x ≡ operand_in o places slots 0) (ey : y ≡ operand_in o places slots 1)
      (old : List ℕ) (f : Fills old o.result.shape) where
    pub quotient-lent : OperandsPlaced o places slots → Holds o.result.element (length old) x × Holds o.result.element (length old) y
    quotient-lent p = let l : 2 ≤ o.arity = a.least in rw (ex, ey) (quotient-ready op o a _ _ old (held p 0 (omega arith)) (held p 1 l) f)

    is-divided : (values : Tensor) → op_gives (Quotient op) o values (args_in o places slots) ≡ divided op o.result.element (length old) x y
    unfolding op_gives
    is-divided values = rw (ex, ey) (quotient_is op o a values [] (args_in o places slots) _ _ _ old arguments f)

    pub quotient-filled : {number : ℕ} {mid : List ℕ} → Divides number op o.result.element x y (Ok tt) old mid → Answers number (Quotient op) o (args_in o places slots) (Ok tt) old mid
    quotient-filled {number} {mid} d values = subst (λ (m : Out Tensor ℕ). Done number m (Ok tt) old mid) (sym (is-divided values)) (kept _ _ d.answers d.leaves)

    pub quotient-zeroed : {number : ℕ} {z : ZeroDivisor} {mid new : List ℕ} → Divides number op o.result.element x y (Err z) old mid → length mid ≡ length old → new ≡ replicate (length mid) 0
        → Answers number (Quotient op) o (args_in o places slots) (Err z) old new
    quotient-zeroed {number} {z} {mid} {new} d l q values =
        subst (λ (m : Out Tensor ℕ). Done number m (Err z) old new) (sym (is-divided values)) (zeroed _ d.answers (q ∙ ap (λ (n : ℕ). replicate n 0) l))

  -- ---- concatenate

  module _ (a : AcceptedAs Concatenate o) {shapes : List Shape} (e : shapes ≡ tab 8 (λ j. (type_at o.types j).shape)) where
    same : (j : ℕ) → j < o.arity → get_or shapes j no_shape ≡ (type_at o.types j).shape
    same j l =
        ap (λ (s : List Shape). get_or s j no_shape) e
        ∙ get_or-tab 8 (λ i. (type_at o.types i).shape) j no_shape (let b = a.shaped.arity in omega arith)

    pub concatenate-lent : OperandsPlaced o places slots
        → InputsLaid slots shapes places o.arity × ConcatenateHolds (at o.a.list 0) (shapes_of shapes o.arity) (dims_of o.result.shape)
    concatenate-lent p = (concatenate-inputs o a shapes same slots places p.inside, concatenate-ready o a shapes same)

    inputs_are : inputs_in slots shapes places o.arity ≡ args_in o places slots
    inputs_are =
        tab-cong o.arity (λ j. take (size (dims_of (get_or shapes j no_shape))) (drop (at places j) slots)) (arg_in o places slots)
        (λ j l. ap (λ (s : Shape). take (size (dims_of s)) (drop (at places j) slots)) (same j l))

    pub concatenate-gives : {new : List ℕ}
        → new ≡ concatenated (at o.a.list 0) (shapes_of shapes o.arity) (inputs_in slots shapes places o.arity) (dims_of o.result.shape)
        → Gives Concatenate o (args_in o places slots) new
    unfolding op_gives
    concatenate-gives q values = concatenate-is o a shapes same values [] (args_in o places slots) ∙ ap gives (rw (← inputs_are) (sym q))

-- ---- a constant

-- all of the stretch is filled by a dense value of the type
pub read_whole : (o : Operation) → AcceptedAs Constant o → (text : List ℕ) (literal : ℕ) (old : List ℕ) {r : Bool} {new : List ℕ}
    → (dense_value o.value.element (dims_of o.value.shape) text literal).ok ≡ true → Fills old o.result.shape
    → filled r new ≡ filled_by (dense_value o.value.element (dims_of o.value.shape) text literal) old → new ≡ arguments_at o text literal
read_whole o a text literal old {r} {new} ok f e =
    let v = arguments_at o text literal in
    let n : length v ≡ size (dims_of o.value.shape) = dense-length o.value.element (dims_of o.value.shape) text literal ok in
    let d : drop (length v) old ≡ [] = drop_of_length-le old {i = length v} (let q : length old ≡ size (dims_of o.value.shape) = constant-ready o a old f in omega arith) in
    ap (λ (m : Memory). m.slots) e ∙ ap (λ (l : List ℕ). v ++ l) d ∙ append-nil v

pub constant-gives : (o : Operation) (args : List Tensor) {values new : Tensor} → new ≡ values → op_gives Constant o values args ≡ gives new
unfolding op_gives
constant-gives o args e = ap gives (sym e)
