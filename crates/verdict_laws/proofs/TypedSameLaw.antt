-- Refusal 7: none of 01's seven reasons holds of an op exactly where the code's typing takes it.
-- Assumes nothing.
use mathlib.Core.Path.{◌≡◌, refl, sym, ap, ◌∙◌}
use mathlib.Core.List.{List, [], ◌∷◌, map}
use mathlib.Core.Bool.{Bool, true, false, not, ◌&&◌, ◌||◌, false≢true}
use Prim.Native.Nat.{ℕ, zero, suc, ◌+◌, ◌<◌, ◌≤◌, min}
use Prim.Native.Nat.{suc-le-suc}
use native.Mathlib.Nat.{not-suc-le-zero, le_of_suc-le-suc, zero-lt-suc}
use native.Mathlib.Omega.{arith}
use lib.Dec.{eqb, ltb, leb}
use lib.ListN.{length, get_or, length-map}
use borrow.Author.Tests.{eqb-true, eq-eqb, ne_eqb, lt-ltb}
use Rattle.lists.specs.Lists.{pick, tab, first_where}
use Rattle.lists.proofs.TestLaw.{both_true}
use Rattle.lists.proofs.TabLaw.{get_or-tab}
use Rattle.scope.specs.Scope.{same_at}
use Rattle.dimrules.specs.Count.{everywhere}
use Rattle.dimrules.specs.Types.{same_type, type_at, no_type}
use Rattle.dimrules.specs.declared.TensorType.{TensorType}
use Rattle.dimrules.proofs.CountLaw.{holds_at}
use Rattle.optable.specs.declared.Row.{Row}
use Rattle.optable.specs.Table.{OpRow, row_of, ops}
use Rattle.optable.specs.Takes.{takes, operand_taken, result_taken}
use Rattle.program.specs.declared.Parts.{Parts}
use Rattle.places.specs.Places.{operand_name, operand_type, result_name, result_type, attribute_name, body_open, count_of, place_of, type_in, type_of_part, blank_type}
use Rattle.values.specs.declared.Value.{Value}
use Rattle.values.specs.Values.{no_value}
use Rattle.opcheck.specs.Judged.{taken_at, taken_by_tables}
use Rattle.opcheck.specs.declared.Operation.{Operation}
use Rattle.attributes.specs.Attributes.{attributes_fit}
use Rattle.bodies.specs.Bodies.{body_fits}
use Rattle.operands.specs.Operands.{value_named, arity_of, operand_typed, operands_typed}
use Rattle.typing.specs.Typing.{types_of, operation_of, results_are, bodies_fit, in_table, typed_op}
use Rattle.syntax.specs.Readings.{Reading}
use Rattle.source.specs.Source.{OpText, body_from}
use Rattle.verifier.specs.AttributeRules.{first_token, pairwise, some_of}
use Rattle.verifier.specs.BodyForm.{has_length, of_body_form}
use Rattle.verifier.specs.Reasons.{value_of_name, wrong_number, other_operand_type, wrong_attribute, wrong_dense, operand_taken_by, operands_taken, not_taken, wrong_body, op_typed}
use Rattle.source_laws.specs.Listed.{PartWhole, PartListed, SameParts, first_place}
use Rattle.verdict_laws.proofs.TestsLaw.{same_tests, and-true, not-not, none_of_two, none-of-three, holds-below, pair-at, pair-length, at_pair, first-by-number}

-- the values before an op as a list, each with its number
pub record KnownBefore (values : List Value) (n : ℕ) (known : List Value) : Type 0 where
  pub count : length known ≡ n
  pub held : (i : ℕ) → i < n → get_or known i no_value ≡ get_or values i no_value

-- a name stands for one value, by its number
pub value_same : (text : List ℕ) (values known : List Value) (n : ℕ) → KnownBefore values n known → (a : ℕ) → value_named text values n a ≡ value_of_name text known a
unfolding value_named
value_same text values known n k a =
    first-by-number (λ v. same_at text v.name a) no_value known n (λ i. same_at text (get_or values i no_value).name a) (sym k.count)
    (λ i q. ap (λ (v : Value). same_at text v.name a) (sym (k.held i q)))

all-six : {a b c d e f : Bool} → a ≡ true → b ≡ true → c ≡ true → d ≡ true → e ≡ true → f ≡ true → a && b && c && d && e && f ≡ true
all-six p q r s t u = rw (p, q, r, s, t, u) refl

not-not-or : (a : Bool) → not (not a || false) ≡ a
not-not-or true = refl
not-not-or false = refl

-- ---- lists of types against the op's Inputs table

taken_at_lem : (text : List ℕ) (r : OpRow) (j : ℕ) (ts : List ℕ) → operands_taken text r j ts ≡ true → (i : ℕ) → i < length ts → operand_taken_by r (j + i) (type_in text (get_or ts i 0)) ≡ true
taken_at_lem text r j [] e i h = absurd (not-suc-le-zero h)
taken_at_lem text r j (t ∷ ts) e zero h =
    let z : j + 0 ≡ j = omega arith in
    rw z (both_true (operand_taken_by r j (type_in text t)) (operands_taken text r (suc j) ts) e).0
taken_at_lem text r j (t ∷ ts) e (suc i) h =
    let z : j + suc i ≡ suc j + i = omega arith in
    rw z (taken_at_lem text r (suc j) ts (both_true (operand_taken_by r j (type_in text t)) (operands_taken text r (suc j) ts) e).1 i (le_of_suc-le-suc h))

at-taken : (text : List ℕ) (r : OpRow) (j : ℕ) (ts : List ℕ) → ((i : ℕ) → i < length ts → operand_taken_by r (j + i) (type_in text (get_or ts i 0)) ≡ true) → operands_taken text r j ts ≡ true
at-taken text r j [] h = refl
at-taken text r j (t ∷ ts) h =
    let z : j + 0 ≡ j = omega arith in
    and-true (operand_taken_by r j (type_in text t)) (operands_taken text r (suc j) ts)
    (rw z at (h zero (zero-lt-suc (length ts))))
    (at-taken text r (suc j) ts (λ i q. let w : suc j + i ≡ j + suc i = omega arith in rw w (h (suc i) (suc-le-suc q))))

-- ---- an op

module _ (text : List ℕ) (op : Parts) (o : OpText) (same : SameParts op o) where
  pub arity-is : arity_of op ≡ length o.operands
  unfolding arity_of
  arity-is =
      let few = same.operands.few in
      let z : min (length o.operands) 8 ≡ length o.operands = omega arith in
      ap (λ (c : ℕ). min c 8) same.operands.count ∙ z

  -- "of results (one; return: none)"
  pub results_same : (k : ℕ) → results_are k op ≡ has_length o.results k && has_length o.result_types k
  unfolding results_are
  results_same k = rw (same.results.count, same.result_types.count) refl

  module _ (values known : List Value) (n : ℕ) (k : KnownBefore values n known)
      (before : (j : ℕ) → j < length o.operands → value_named text values n (get_or o.operands j 0) < n) where
    abbrev typed_pair : ℕ → ℕ → Bool
    typed_pair name t = same_type (type_in text t) (get_or known (value_of_name text known name) no_value).ty

    operand-at : (j : ℕ) → j < length o.operands → operand_typed text op values n j ≡ typed_pair (get_or o.operands j 0) (get_or o.operand_types j 0)
    unfolding operand_typed type_of_part
    operand-at j h =
        let few = same.operands.few in
        let i = value_named text values n (get_or o.operands j 0) in
        let inside : ltb i n ≡ true = lt-ltb i n (before j h) in
        let value : get_or values i no_value ≡ get_or known (value_of_name text known (get_or o.operands j 0)) no_value =
        sym (k.held i (before j h)) ∙ ap (λ (m : ℕ). get_or known m no_value) (value_same text values known n k (get_or o.operands j 0)) in
        rw (same.operands.place j (omega arith), same.operand_types.place j (omega arith), inside, value) refl

    -- "a written operand type that isn't that of its definition"
    pub operands_same : operands_typed text op values n ≡ not (other_operand_type text known o)
    unfolding operands_typed
    operands_same =
        same_tests (operands_typed text op values n) (pairwise typed_pair o.operands o.operand_types) to from
        ∙ sym (not-not (pairwise typed_pair o.operands o.operand_types))
      where
        to : operands_typed text op values n ≡ true → pairwise typed_pair o.operands o.operand_types ≡ true
        to e =
            let first = both_true (ltb (count_of op operand_name) 9 && eqb (count_of op operand_type) (count_of op operand_name)) (everywhere (arity_of op) (operand_typed text op values n)) e in
            let lengths = eqb-true (count_of op operand_type) (count_of op operand_name) (both_true (ltb (count_of op operand_name) 9) (eqb (count_of op operand_type) (count_of op operand_name)) first.0).1 in
            at_pair typed_pair o.operands o.operand_types (sym same.operand_types.count ∙ lengths ∙ same.operands.count)
            (λ j h. sym (operand-at j h) ∙ holds_at (arity_of op) (operand_typed text op values n) first.1 j (rw arity-is h))

        from : pairwise typed_pair o.operands o.operand_types ≡ true → operands_typed text op values n ≡ true
        from e =
            let few = same.operands.few in
            let counted = same.operands.count in
            let less : ltb (count_of op operand_name) 9 ≡ true = lt-ltb (count_of op operand_name) 9 (omega arith) in
            let lengths : count_of op operand_type ≡ count_of op operand_name = same.operand_types.count ∙ pair-length typed_pair o.operands o.operand_types e ∙ sym same.operands.count in
            and-true (ltb (count_of op operand_name) 9 && eqb (count_of op operand_type) (count_of op operand_name)) (everywhere (arity_of op) (operand_typed text op values n))
            (and-true (ltb (count_of op operand_name) 9) (eqb (count_of op operand_type) (count_of op operand_name)) less (eq-eqb (count_of op operand_type) (count_of op operand_name) lengths))
            (holds-below (arity_of op) (operand_typed text op values n) (λ j h. let l : j < length o.operands = rw arity-is at h in operand-at j l ∙ pair-at typed_pair o.operands o.operand_types e j l))

  -- a type for each operand
  pub operands-long : (values : List Value) (n : ℕ) → operands_typed text op values n ≡ true → length o.operand_types ≡ length o.operands
  unfolding operands_typed
  operands-long values n e =
      let first = both_true (ltb (count_of op operand_name) 9 && eqb (count_of op operand_type) (count_of op operand_name)) (everywhere (arity_of op) (operand_typed text op values n)) e in
      let lengths = eqb-true (count_of op operand_type) (count_of op operand_name) (both_true (ltb (count_of op operand_name) 9) (eqb (count_of op operand_type) (count_of op operand_name)) first.0).1 in
      sym same.operand_types.count ∙ lengths ∙ same.operands.count

  -- ---- the op with its row of the op table

  module _ (r : OpRow) (place : ℕ) where
    abbrev row : Row
    row = row_of place r

    abbrev q : Operation
    q = operation_of text op row

    type-read : (j : ℕ) → j < length o.operands → type_at q.types j ≡ type_in text (get_or o.operand_types j 0)
    unfolding operation_of types_of type_of_part
    type-read j h =
        let few = same.operands.few in
        let inside : ltb j (arity_of op) ≡ true = lt-ltb j (arity_of op) (rw arity-is h) in
        get_or-tab 8 (types_of text op) j no_type (omega arith) ∙ rw (inside, same.operand_types.place j (omega arith)) refl

    operand-taken : (j : ℕ) → j < length o.operands → taken_at row q j ≡ operand_taken_by r j (type_in text (get_or o.operand_types j 0))
    unfolding taken_at operand_taken
    operand-taken j h = rw (type-read j h) refl

    result-taken : result_taken row q.result.element ≡ takes r.result (type_in text (first_token o.result_types)).element
    unfolding operation_of result_taken type_of_part
    result-taken = rw (same.result_types.place 0 (omega arith)) refl

    -- "an element type or rank that the op's Inputs or Outputs table in 000 doesn't take"
    operands-taken : length o.operand_types ≡ length o.operands → everywhere (arity_of op) (taken_at row q) ≡ operands_taken text r 0 o.operand_types
    operands-taken l =
        same_tests (everywhere (arity_of op) (taken_at row q)) (operands_taken text r 0 o.operand_types)
        (λ e. at-taken text r 0 o.operand_types (λ i h. let m : i < length o.operands = rw l at h in let z : 0 + i ≡ i = omega arith in rw z (sym (operand-taken i m) ∙ holds_at (arity_of op) (taken_at row q) e i (rw arity-is m))))
        (λ e. holds-below (arity_of op) (taken_at row q) (λ i h. let m : i < length o.operands = rw arity-is at h in let z : 0 + i ≡ i = omega arith in operand-taken i m ∙ (rw z at (taken_at_lem text r 0 o.operand_types e i (rw l m)))))

    tables-same : length o.operand_types ≡ length o.operands →
        taken_by_tables row q ≡ leb r.least (length o.operands) && leb (length o.operands) r.most && operands_taken text r 0 o.operand_types
        && takes r.result (type_in text (first_token o.result_types)).element
    unfolding taken_by_tables operation_of
    tables-same l = rw (operands-taken l, result-taken, arity-is) refl

    -- "or of bodies"; "a reduction body faulty inside or not of the form below"
    module _ (formed : r.body ≡ true → length o.bodies ≡ 1 → body_fits text (place_of op body_open 0) ≡ of_body_form text (body_from (get_or o.bodies 0 []))) where
      abbrev wanted : ℕ
      wanted = pick r.body 1 0

      bodies-counted : eqb (count_of op body_open) wanted ≡ has_length o.bodies wanted
      bodies-counted =
          same_tests (eqb (count_of op body_open) wanted) (has_length o.bodies wanted)
          (λ e. eq-eqb (length o.bodies) wanted (let c = counted in let z = eqb-true (count_of op body_open) wanted e in let s = small r.body in omega arith))
          (λ e. eq-eqb (count_of op body_open) wanted (let c = counted in let z = eqb-true (length o.bodies) wanted e in let s = small r.body in omega arith))
        where
          small : (b : Bool) → pick b 1 0 ≤ 1
          small true = omega arith
          small false = omega arith

          counted : count_of op body_open ≡ min (length o.bodies) 9
          counted = same.bodies.count ∙ ap (λ (k : ℕ). min k 9) (length-map o.bodies first_place)

      bodies-same : bodies_fit text op row ≡ has_length o.bodies wanted && not (wrong_body text o)
      unfolding bodies_fit
      bodies-same = rw bodies-counted (by r.body refl o.bodies refl)
        where
          by : (b : Bool) → r.body ≡ b → (bs : List (List Reading)) → o.bodies ≡ bs →
              has_length bs (pick b 1 0) && pick b (body_fits text (place_of op body_open 0)) true ≡ has_length bs (pick b 1 0) && not (some_of (λ body. not (of_body_form text (body_from body))) bs)
          by true e [] f = refl
          by true e (x ∷ []) f =
              let one : length o.bodies ≡ 1 = ap (λ (l : List (List Reading)). length l) f in
              let z : body_fits text (place_of op body_open 0) ≡ of_body_form text (body_from x) = formed e one ∙ ap (λ (l : List (List Reading)). of_body_form text (body_from (get_or l 0 []))) f in
              rw z (sym (not-not-or (of_body_form text (body_from x))))
          by true e (x ∷ (y ∷ bs)) f = let z : eqb (suc (suc (length bs))) 1 ≡ false = ne_eqb (suc (suc (length bs))) 1 (λ h. omega arith) in rw z refl
          by false e [] f = refl
          by false e (x ∷ bs) f = let z : eqb (suc (length bs)) 0 ≡ false = ne_eqb (suc (length bs)) 0 (λ h. omega arith) in rw z refl

      module _ (values known : List Value) (n : ℕ) (k : KnownBefore values n known)
          (before : (j : ℕ) → j < length o.operands → value_named text values n (get_or o.operands j 0) < n)
          (there : in_table text op ≡ true)
          (fit : attributes_fit text op row ≡ not (wrong_attribute text r.required r.optional o) && not (wrong_dense text o)) where
        abbrev taken : Bool
        taken = operands_taken text r 0 o.operand_types && takes r.result (type_in text (first_token o.result_types)).element

        abbrev counts : Bool
        counts = leb r.least (length o.operands) && leb (length o.operands) r.most

        abbrev results : Bool
        results = has_length o.results 1 && has_length o.result_types 1

        long : operands_typed text op values n ≡ true → length o.operand_types ≡ length o.operands
        long e = pair-length (typed_pair values known n k before) o.operands o.operand_types (sym (not-not (pairwise (typed_pair values known n k before) o.operands o.operand_types)) ∙ sym (operands_same values known n k before) ∙ e)

        number-right : not (wrong_number r.least r.most 1 wanted o) ≡ counts && results && has_length o.bodies wanted
        number-right = none-of-three counts results (has_length o.bodies wanted)

        taken-right : not (not_taken text r o) ≡ taken
        taken-right = none_of_two (operands_taken text r 0 o.operand_types) (takes r.result (type_in text (first_token o.result_types)).element)

        pub typed-same : typed_op text op row values n ≡ op_typed text r known o
        unfolding typed_op op_typed
        typed-same = same_tests (typed_op text op row values n) (op_typed text r known o) to from
          where
            to : typed_op text op row values n ≡ true → op_typed text r known o ≡ true
            to e =
                let e5 = both_true (in_table text op && operands_typed text op values n && results_are 1 op && attributes_fit text op row && taken_by_tables row q) (bodies_fit text op row) e in
                let e4 = both_true (in_table text op && operands_typed text op values n && results_are 1 op && attributes_fit text op row) (taken_by_tables row q) e5.0 in
                let e3 = both_true (in_table text op && operands_typed text op values n && results_are 1 op) (attributes_fit text op row) e4.0 in
                let e2 = both_true (in_table text op && operands_typed text op values n) (results_are 1 op) e3.0 in
                let e1 = both_true (in_table text op) (operands_typed text op values n) e2.0 in
                let l = long e1.1 in
                let t = both_true (counts && operands_taken text r 0 o.operand_types) (takes r.result (type_in text (first_token o.result_types)).element) (sym (tables-same l) ∙ e4.1) in
                let c = both_true counts (operands_taken text r 0 o.operand_types) t.0 in
                let b = both_true (has_length o.bodies wanted) (not (wrong_body text o)) (sym bodies-same ∙ e5.1) in
                let a = both_true (not (wrong_attribute text r.required r.optional o)) (not (wrong_dense text o)) (sym fit ∙ e3.1) in
                let m : counts && results && has_length o.bodies wanted ≡ true =
                and-true (counts && results) (has_length o.bodies wanted) (and-true counts results c.0 (sym (results_same 1) ∙ e2.1)) b.0 in
                all-six (number-right ∙ m) (sym (operands_same values known n k before) ∙ e1.1) a.0 a.1
                (taken-right ∙ and-true (operands_taken text r 0 o.operand_types) (takes r.result (type_in text (first_token o.result_types)).element) c.1 t.1) b.1

            from : op_typed text r known o ≡ true → typed_op text op row values n ≡ true
            from e =
                let w = not (wrong_number r.least r.most 1 wanted o) in
                let x = not (other_operand_type text known o) in
                let y = not (wrong_attribute text r.required r.optional o) in
                let z = not (wrong_dense text o) in
                let e5 = both_true (w && x && y && z && not (not_taken text r o)) (not (wrong_body text o)) e in
                let e4 = both_true (w && x && y && z) (not (not_taken text r o)) e5.0 in
                let e3 = both_true (w && x && y) z e4.0 in
                let e2 = both_true (w && x) y e3.0 in
                let e1 = both_true w x e2.0 in
                let operands = operands_same values known n k before ∙ e1.1 in
                let l = long operands in
                let m = both_true (counts && results) (has_length o.bodies wanted) (sym number-right ∙ e1.0) in
                let c = both_true counts results m.0 in
                let t = both_true (operands_taken text r 0 o.operand_types) (takes r.result (type_in text (first_token o.result_types)).element) (sym taken-right ∙ e4.1) in
                all-six there operands (results_same 1 ∙ c.1) (fit ∙ and-true y z e2.1 e3.1)
                (tables-same l ∙ and-true (counts && operands_taken text r 0 o.operand_types) (takes r.result (type_in text (first_token o.result_types)).element)
                (and-true counts (operands_taken text r 0 o.operand_types) c.0 t.0) t.1)
                (bodies-same ∙ and-true (has_length o.bodies wanted) (not (wrong_body text o)) m.1 e5.1)
