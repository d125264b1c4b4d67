-- Refusal 7 of the return: none of 01's reasons holds of it exactly where the code's typing takes it.
-- Assumes nothing.
use mathlib.Core.Path.{◌≡◌, refl, sym, ap, ◌∙◌}
use mathlib.Core.List.{List, [], ◌∷◌, map}
use mathlib.Core.Bool.{Bool, true, false, not, ◌&&◌, ◌||◌, false≢true}
use Prim.Native.Nat.{ℕ, zero, suc, ◌+◌, ◌<◌, ◌≤◌, min}
use native.Mathlib.Omega.{arith}
use lib.Dec.{eqb, ltb, leb}
use lib.ListN.{length, get_or, length-map}
use borrow.Author.Tests.{eqb-true, eq-eqb, ne_eqb, lt-ltb, le-leb}
use Rattle.lists.proofs.TestLaw.{both_true}
use Rattle.dimrules.specs.Count.{everywhere}
use Rattle.dimrules.specs.Types.{same_type}
use Rattle.dimrules.proofs.CountLaw.{holds_at}
use Rattle.program.specs.declared.Parts.{Parts}
use Rattle.places.specs.Places.{operand_name, operand_type, attribute_name, body_open, output_type, count_of, place_of, type_in, type_of_part}
use Rattle.values.specs.declared.Value.{Value}
use Rattle.operands.specs.Operands.{value_named, arity_of, operands_typed}
use Rattle.typing.specs.Typing.{results_are}
use Rattle.outputs.specs.Outputs.{returned_at, returns_header, typed_return}
use Rattle.source.specs.Source.{AttributeText, OpText}
use Rattle.verifier.specs.AttributeRules.{first_token, pairwise, some_of, doubled_attribute, foreign_attribute, unlike_kind}
use Rattle.verifier.specs.BodyForm.{has_length}
use Rattle.values.specs.Values.{no_value}
use Rattle.verifier.specs.Reasons.{value_of_name, wrong_number, other_operand_type, wrong_attribute, other_return_types, return_typed}
use Rattle.source_laws.specs.Listed.{PartWhole, SameParts, first_place}
use Rattle.verdict_laws.proofs.TestsLaw.{same_tests, and-true, not-not, none-of-three, holds-below, pair-at, pair-length, at_pair}
use Rattle.verdict_laws.proofs.TypedSameLaw.{KnownBefore, arity-is, results_same, operands_same}

-- a list is empty where the count that stands for it is 0
none-counted : (n : ℕ) → eqb (min n 9) 0 ≡ eqb n 0
none-counted n =
    same_tests (eqb (min n 9) 0) (eqb n 0)
    (λ e. eq-eqb n 0 (let z = eqb-true (min n 9) 0 e in omega arith))
    (λ e. eq-eqb (min n 9) 0 (let z = eqb-true n 0 e in omega arith))

foreign-wrong : (d k : Bool) (f : Bool) → f ≡ true → not (false || d || f || k) ≡ false
foreign-wrong true k f e = refl
foreign-wrong false k f e = rw e refl

-- every attribute is foreign to the return
no-attributes : (text : List ℕ) (o : OpText) → not (wrong_attribute text [] [] o) ≡ has_length o.attributes 0
no-attributes text o = by o.attributes
  where
    by : (attrs : List AttributeText) → not (false || doubled_attribute text attrs || foreign_attribute text [] attrs || some_of (unlike_kind text) attrs) ≡ has_length attrs 0
    by [] = refl
    by (a ∷ attrs) =
        let z : eqb (suc (length attrs)) 0 ≡ false = ne_eqb (suc (length attrs)) 0 (λ h. omega arith) in
        foreign-wrong (doubled_attribute text (a ∷ attrs)) (some_of (unlike_kind text) (a ∷ attrs)) (foreign_attribute text [] (a ∷ attrs)) refl ∙ sym z

module _ (text : List ℕ) (op : Parts) (o : OpText) (same : SameParts op o) (header : Parts) (outputs : List ℕ) (listed : PartWhole header output_type outputs) where
  abbrev same_written : ℕ → ℕ → Bool
  same_written t u = same_type (type_in text t) (type_in text u)

  returned-at : (j : ℕ) → j < 8 → returned_at text op header j ≡ same_written (get_or o.operand_types j 0) (get_or outputs j 0)
  unfolding returned_at type_of_part
  returned-at j h = rw (same.operand_types.place j h, listed.place j h) refl

  attributes-none : eqb (count_of op attribute_name) 0 ≡ has_length o.attributes 0
  attributes-none =
      let c : count_of op attribute_name ≡ min (length o.attributes) 9 = same.attributes.count ∙ ap (λ (k : ℕ). min k 9) (length-map o.attributes (λ a. first_token a.names)) in
      rw c (none-counted (length o.attributes))

  bodies-none : eqb (count_of op body_open) 0 ≡ has_length o.bodies 0
  bodies-none =
      let c : count_of op body_open ≡ min (length o.bodies) 9 = same.bodies.count ∙ ap (λ (k : ℕ). min k 9) (length-map o.bodies first_place) in
      rw c (none-counted (length o.bodies))

  -- "return types that aren't the header's", where there is a type for each operand
  header-same : length o.operand_types ≡ length o.operands → returns_header text op header ≡ pairwise same_written o.operand_types outputs
  unfolding returns_header
  header-same l =
      same_tests (returns_header text op header) (pairwise same_written o.operand_types outputs)
      (λ e.
      let two = both_true (eqb (count_of op operand_name) (count_of header output_type)) (everywhere (arity_of op) (returned_at text op header)) e in
      let c = eqb-true (count_of op operand_name) (count_of header output_type) two.0 in
      at_pair same_written o.operand_types outputs (sym listed.count ∙ sym c ∙ same.operands.count ∙ sym l)
      (λ j h. let few = same.operand_types.few in sym (returned-at j (omega arith)) ∙ holds_at (arity_of op) (returned_at text op header) two.1 j (rw (arity-is text op o same) (rw l at h))))
      (λ e.
      let c : count_of op operand_name ≡ count_of header output_type = same.operands.count ∙ sym l ∙ sym (pair-length same_written o.operand_types outputs e) ∙ sym listed.count in
      and-true (eqb (count_of op operand_name) (count_of header output_type)) (everywhere (arity_of op) (returned_at text op header)) (eq-eqb (count_of op operand_name) (count_of header output_type) c)
      (holds-below (arity_of op) (returned_at text op header)
      (λ j h.
      let few = same.operands.few in
      let m : j < length o.operands = rw (arity-is text op o same) at h in
      returned-at j (omega arith) ∙ pair-at same_written o.operand_types outputs e j (rw l m))))

  module _ (values known : List Value) (n : ℕ) (k : KnownBefore values n known)
      (before : (j : ℕ) → j < length o.operands → value_named text values n (get_or o.operands j 0) < n) where
    abbrev x : Bool
    x = not (other_operand_type text known o)

    abbrev y : Bool
    y = pairwise same_written o.operand_types outputs

    abbrev results : Bool
    results = has_length o.results 0 && has_length o.result_types 0

    abbrev as_defined : ℕ → ℕ → Bool
    as_defined name t = same_type (type_in text t) (get_or known (value_of_name text known name) no_value).ty

    long : x ≡ true → length o.operand_types ≡ length o.operands
    long e = pair-length as_defined o.operands o.operand_types (sym (not-not (pairwise as_defined o.operands o.operand_types)) ∙ e)

    pub return-same : typed_return text op header values n ≡ return_typed text outputs known o
    unfolding typed_return return_typed
    return-same = same_tests (typed_return text op header values n) (return_typed text outputs known o) to from
      where
        counts : Bool
        counts = leb 0 (length o.operands) && leb (length o.operands) (length outputs)

        right : not (wrong_number 0 (length outputs) 0 0 o) ≡ counts && results && has_length o.bodies 0
        right = none-of-three counts results (has_length o.bodies 0)

        to : typed_return text op header values n ≡ true → return_typed text outputs known o ≡ true
        to e =
            let e4 = both_true (operands_typed text op values n && results_are 0 op && eqb (count_of op attribute_name) 0 && eqb (count_of op body_open) 0) (returns_header text op header) e in
            let e3 = both_true (operands_typed text op values n && results_are 0 op && eqb (count_of op attribute_name) 0) (eqb (count_of op body_open) 0) e4.0 in
            let e2 = both_true (operands_typed text op values n && results_are 0 op) (eqb (count_of op attribute_name) 0) e3.0 in
            let e1 = both_true (operands_typed text op values n) (results_are 0 op) e2.0 in
            let typed : x ≡ true = sym (operands_same text op o same values known n k before) ∙ e1.0 in
            let l = long typed in
            let h : y ≡ true = sym (header-same l) ∙ e4.1 in
            let lengths = pair-length same_written o.operand_types outputs h in
            let c : counts ≡ true = and-true (leb 0 (length o.operands)) (leb (length o.operands) (length outputs)) (le-leb 0 (length o.operands) (omega arith)) (le-leb (length o.operands) (length outputs) (omega arith)) in
            let m : counts && results && has_length o.bodies 0 ≡ true =
            and-true (counts && results) (has_length o.bodies 0) (and-true counts results c (sym (results_same text op o same 0) ∙ e1.1)) (sym bodies-none ∙ e3.1) in
            rw (right ∙ m, typed, no-attributes text o ∙ sym attributes-none ∙ e2.1, not-not y ∙ h) refl

        from : return_typed text outputs known o ≡ true → typed_return text op header values n ≡ true
        from e =
            let w = not (wrong_number 0 (length outputs) 0 0 o) in
            let e3 = both_true (w && x && not (wrong_attribute text [] [] o)) (not (other_return_types text outputs o)) e in
            let e2 = both_true (w && x) (not (wrong_attribute text [] [] o)) e3.0 in
            let e1 = both_true w x e2.0 in
            let l = long e1.1 in
            let m = both_true (counts && results) (has_length o.bodies 0) (sym right ∙ e1.0) in
            let c = both_true counts results m.0 in
            let typed : operands_typed text op values n ≡ true = operands_same text op o same values known n k before ∙ e1.1 in
            rw (typed, results_same text op o same 0 ∙ c.1, attributes-none ∙ sym (no-attributes text o) ∙ e2.1, bodies-none ∙ m.1, header-same l ∙ sym (not-not y) ∙ e3.1) refl
