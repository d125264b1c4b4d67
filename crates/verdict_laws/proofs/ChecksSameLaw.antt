-- Refusal 8: the constraints of an op on the types and the attributes that are written are those that the code looks at, where the op is typed.
-- Assumes nothing.
use mathlib.Core.Path.{◌≡◌, refl, sym, ap, ◌∙◌, subst}
use mathlib.Core.List.{List, [], ◌∷◌, ◌++◌, map}
use mathlib.Core.Bool.{Bool, true, false, ◌&&◌}
use Prim.Native.Nat.{ℕ, zero, suc, ◌+◌, ◌-◌, ◌<◌, ◌≤◌, ◌^◌}
use native.Mathlib.Nat.{not-suc-le-zero, le_of_suc-le-suc, zero-lt-suc}
use native.Mathlib.Omega.{arith}
use lib.Dec.{eqb, ltb}
use lib.IntN.{ℤ, pos}
use lib.ListN.{length, get_or, drop, length-map}
use borrow.Author.Tests.{lt-ltb, ltb-true, ltb-false}
use Rattle.lists.specs.Lists.{pick, tab, first_where}
use Rattle.lists.proofs.TestLaw.{both_true}
use Rattle.lists.proofs.TabLaw.{get_or-tab, tab-get_or, tab-cong}
use Rattle.text.specs.Names.{same_bytes}
use Rattle.dimrules.specs.Dims.{num}
use Rattle.dimrules.specs.Types.{type_at, no_type}
use Rattle.dimrules.specs.declared.Numbers.{Numbers}
use Rattle.dimrules.specs.declared.TensorType.{TensorType}
use Rattle.dimrules.specs.Whole.{number_of}
use Rattle.optable.specs.declared.Row.{Row}
use Rattle.optable.specs.declared.Rule.{Rule}
use Rattle.optable.specs.declared.Rule.TheVariants.{SameTypes, Abs, Broadcast, Clamp, Compare, Concatenate, Constant, Convert, DynamicSlice, Iota, Pad, Reduce, Reshape, Reverse, Select, Slice, Transpose}
use Rattle.optable.specs.Table.{OpRow, ops, row_of, value, iota_dimension, broadcast_dimensions, permutation, start_indices, limit_indices, strides, dimension, edge_padding_low, edge_padding_high, interior_padding, dimensions, slice_sizes, comparison_direction, compare_type, attributes, attribute_names}
use Rattle.optable.specs.Names.{same, name_place}
use Rattle.program.specs.declared.Parts.{Parts}
use Rattle.places.specs.Places.{body_open, place_of, type_in, type_of_part, blank_type}
use Rattle.checks.specs.Check.{Check}
use Rattle.checks.specs.Formula.{ints}
use Rattle.op_checks.specs.OpChecks.{types_from}
use Rattle.opcheck.specs.Judged.{checks_by}
use Rattle.opcheck.specs.declared.Operation.{Operation}
use Rattle.attributes.specs.Attributes.{attribute_numbers, choice_of, dense_type}
use Rattle.bodies.specs.Bodies.{argument_type}
use Rattle.operands.specs.Operands.{arity_of}
use Rattle.typing.specs.Typing.{types_of, body_type, operation_of}
use Rattle.source.specs.Source.{OpText, body_from}
use Rattle.verifier.specs.AttributeRules.{first_token, attribute_with, numbers_named, choice_named_by, type_written}
use Rattle.verifier.specs.ConstraintRules.{operand_types_of, operand_type_of, result_type_of, list_attribute, number_attribute, argument_type_of, checks_written}
use Rattle.verifier.specs.Verdict.{no_op}
use Rattle.source_laws.specs.Listed.{SameParts}
use Rattle.text.proofs.NameLaw.{same_bytes_lem}
use Rattle.verdict_laws.proofs.TypedSameLaw.{arity-is}

-- ---- the attributes that a rule's rows must have

abbrev pub required_by : Rule → List ℕ
required_by SameTypes = []
required_by Abs = []
required_by Broadcast = broadcast_dimensions ∷ []
required_by Clamp = []
required_by Compare = comparison_direction ∷ []
required_by Concatenate = dimension ∷ []
required_by Constant = value ∷ []
required_by Convert = []
required_by DynamicSlice = slice_sizes ∷ []
required_by Iota = iota_dimension ∷ []
required_by Pad = edge_padding_low ∷ edge_padding_high ∷ interior_padding ∷ []
required_by Reduce = dimensions ∷ []
required_by Reshape = []
required_by Reverse = dimensions ∷ []
required_by Select = []
required_by Slice = start_indices ∷ limit_indices ∷ strides ∷ []
required_by Transpose = permutation ∷ []

each : (OpRow → Bool) → List OpRow → Bool
each t [] = true
each t (o ∷ os) = t o && each t os

each_at : (t : OpRow → Bool) (os : List OpRow) → each t os ≡ true → (i : ℕ) → i < length os → t (get_or os i no_op) ≡ true
unfolding each
each_at t [] e i h = absurd (not-suc-le-zero h)
each_at t (o ∷ os) e zero h = (both_true (t o) (each t os) e).0
each_at t (o ∷ os) e (suc i) h = each_at t os (both_true (t o) (each t os) e).1 i (le_of_suc-le-suc h)

all-required : each (λ o. same_bytes o.required (required_by o.rule)) ops ≡ true
unfolding each ops same_bytes attributes attribute_names name_place same first_where
all-required = refl

pub required-is : (i : ℕ) → i < length ops → (get_or ops i no_op).required ≡ required_by (get_or ops i no_op).rule
required-is i h = same_bytes_lem (get_or ops i no_op).required (required_by (get_or ops i no_op).rule) (each_at (λ o. same_bytes o.required (required_by o.rule)) ops all-required i h)

-- a reduce alone has a body
reduces : Rule → Bool
reduces SameTypes = false
reduces Abs = false
reduces Broadcast = false
reduces Clamp = false
reduces Compare = false
reduces Concatenate = false
reduces Constant = false
reduces Convert = false
reduces DynamicSlice = false
reduces Iota = false
reduces Pad = false
reduces Reduce = true
reduces Reshape = false
reduces Reverse = false
reduces Select = false
reduces Slice = false
reduces Transpose = false

implied : Bool → Bool → Bool
implied true b = b
implied false b = true

all-bodies : each (λ o. implied (reduces o.rule) o.body) ops ≡ true
unfolding each ops reduces implied
all-bodies = refl

pub body_is : (i : ℕ) → i < length ops → (get_or ops i no_op).rule ≡ Reduce → (get_or ops i no_op).body ≡ true
unfolding reduces implied
body_is i h e = let z = each_at (λ o. implied (reduces o.rule) o.body) ops all-bodies i h in rw e at z

-- a list of numbers as whole numbers, and its first
first-number : (a : Numbers) → number_of (num a 0) ≡ get_or (ints a) 0 (pos 0)
first-number a = go a.count refl
  where
    go : (n : ℕ) → a.count ≡ n → number_of (num a 0) ≡ get_or (tab n (λ d. number_of (num a d))) 0 (pos 0)
    go zero e = rw e refl
    go (suc n) e = refl

-- ---- an op, where its parts are those of the lists

module _ (text : List ℕ) (op : Parts) (o : OpText) (same : SameParts op o) (r : OpRow) (place : ℕ) (long : length o.operand_types ≡ length o.operands) where
  abbrev row : Row
  row = row_of place r

  abbrev q : Operation
  q = operation_of text op row

  pub type-at : (j : ℕ) → j < 8 → type_at q.types j ≡ operand_type_of text o j
  unfolding operation_of types_of type_of_part
  type-at j h = get_or-tab 8 (types_of text op) j no_type h ∙ go o.operand_types refl (ltb j (arity_of op)) refl
    where
      map_at : (ts : List ℕ) (j : ℕ) → j < length ts → get_or (map (type_in text) ts) j blank_type ≡ type_in text (get_or ts j 0)
      map_at [] j h = absurd (not-suc-le-zero h)
      map_at (t ∷ ts) zero h = refl
      map_at (t ∷ ts) (suc j) h = map_at ts j (le_of_suc-le-suc h)

      map-past : (ts : List ℕ) (j : ℕ) → length ts ≤ j → get_or (map (type_in text) ts) j blank_type ≡ blank_type
      map-past [] j h = refl
      map-past (t ∷ ts) zero h = absurd (let z : suc (length ts) ≤ 0 = h in omega arith)
      map-past (t ∷ ts) (suc j) h = map-past ts j (let z : suc (length ts) ≤ suc j = h in omega arith)

      go : (ts : List ℕ) → o.operand_types ≡ ts → (b : Bool) → ltb j (arity_of op) ≡ b → pick b (type_in text (place_of op 3 j)) blank_type ≡ get_or (map (type_in text) o.operand_types) j blank_type
      go ts e true l =
          let a = arity-is text op o same in
          let m : j < length o.operand_types = let z = ltb-true j (arity_of op) l in omega arith in
          ap (type_in text) (same.operand_types.place j h) ∙ sym (map_at o.operand_types j m)
      go ts e false l =
          let a = arity-is text op o same in
          let m : length o.operand_types ≤ j = let z = ltb-false j (arity_of op) l in omega arith in
          sym (map-past o.operand_types j m)

  pub types-all : types_from q.types 0 q.arity ≡ operand_types_of text o
  unfolding operation_of
  types-all = types-by 0 (arity_of op) (map (type_in text) o.operand_types) (arity-few) (λ j h. let z : j ≡ 0 + j = omega arith in ap (operand_type_of text o) z) (arity-long)
    where
      arity-few : 0 + arity_of op ≤ 8
      arity-few = let a = arity-is text op o same in let f = same.operands.few in omega arith

      arity-long : length (map (type_in text) o.operand_types) ≡ arity_of op
      arity-long = length-map o.operand_types (type_in text) ∙ long ∙ sym (arity-is text op o same)

      types-by : (k n : ℕ) (l : List TensorType) → k + n ≤ 8 → ((j : ℕ) → j < n → get_or l j blank_type ≡ operand_type_of text o (k + j)) → length l ≡ n → types_from (operation_of text op row).types k n ≡ l
      types-by k n l few e m =
          tab-cong n (λ j. type_at (operation_of text op row).types (k + j)) (λ j. get_or l j blank_type) (λ j h. type-at (k + j) (omega arith) ∙ sym (e j h))
          ∙ ap (λ (c : ℕ). tab c (λ j. get_or l j blank_type)) (sym m) ∙ tab-get_or l blank_type

  pub types-rest : types_from q.types 1 (q.arity - 1) ≡ drop 1 (operand_types_of text o)
  unfolding operation_of
  types-rest = go o.operand_types refl
    where
      arity : arity_of op ≡ length o.operand_types
      arity = arity-is text op o same ∙ sym long

      few : arity_of op ≤ 8
      few = let a = arity-is text op o same in let f = same.operands.few in omega arith

      go : (ts : List ℕ) → o.operand_types ≡ ts → types_from (operation_of text op row).types 1 (arity_of op - 1) ≡ drop 1 (map (type_in text) o.operand_types)
      go [] e =
          let a = arity in
          let none : arity_of op - 1 ≡ 0 = let z = ap (λ (l : List ℕ). length l) e in omega arith in
          ap (λ (n : ℕ). tab n (λ j. type_at (operation_of text op row).types (1 + j))) none ∙ ap (λ (l : List ℕ). drop 1 (map (type_in text) l)) (sym e)
      go (t ∷ ts) e =
          let a = arity in
          let f = few in
          let n : arity_of op - 1 ≡ length ts = let z : length o.operand_types ≡ suc (length ts) = ap (λ (l : List ℕ). length l) e in omega arith in
          let m : length (map (type_in text) ts) ≡ length ts = length-map ts (type_in text) in
          ap (λ (n : ℕ). tab n (λ j. type_at (operation_of text op row).types (1 + j))) n
          ∙ tab-cong (length ts) (λ j. type_at (operation_of text op row).types (1 + j)) (λ j. get_or (map (type_in text) ts) j blank_type)
          (λ j h. type-at (1 + j) (omega arith) ∙ ap (λ (l : List ℕ). get_or (map (type_in text) l) (1 + j) blank_type) e ∙ (let w : 1 + j ≡ suc j = omega arith in ap (λ (i : ℕ). get_or (type_in text t ∷ map (type_in text) ts) i blank_type) w))
          ∙ ap (λ (c : ℕ). tab c (λ j. get_or (map (type_in text) ts) j blank_type)) (sym m) ∙ tab-get_or (map (type_in text) ts) blank_type
          ∙ ap (λ (l : List ℕ). drop 1 (map (type_in text) l)) (sym e)

  pub result-at : q.result ≡ result_type_of text o
  unfolding operation_of type_of_part
  result-at = ap (type_in text) (same.result_types.place 0 (omega arith))

  -- what is read of its attributes and of its body
  pub record Read : Type 0 where
    pub numbers : (k : ℕ) → ints (attribute_numbers text op k) ≡ numbers_named text k o.attributes
    pub choice : choice_of text op compare_type ≡ choice_named_by text compare_type o.attributes
    pub dense : r.rule ≡ Constant → dense_type text op value ≡ type_written text (attribute_with text value o.attributes)
    pub argument : r.rule ≡ Reduce → (j : ℕ) → j < 2 → body_type text op row j ≡ argument_type_of text o j

  pub checks-same : (rule : Rule) → r.rule ≡ rule → r.required ≡ required_by r.rule → Read → checks_by rule q ≡ checks_written text o rule
  unfolding checks_by checks_written operation_of
  checks-same SameTypes e n s = rw (types-all, result-at) refl
  checks-same Abs e n s = rw (type-at 0 (omega arith), result-at) refl
  checks-same Broadcast e n s = rw (type-at 0 (omega arith), result-at, s.numbers row.a, n, e) refl
  checks-same Clamp e n s = rw (type-at 0 (omega arith), type-at 1 (omega arith), type-at 2 (omega arith), result-at) refl
  checks-same Compare e n s = rw (type-at 0 (omega arith), type-at 1 (omega arith), result-at, s.choice) refl
  checks-same Concatenate e n s = rw (types-all, result-at, first-number q.a, s.numbers row.a, n, e) refl
  checks-same Constant e n s = rw (result-at, s.dense e) refl
  checks-same Convert e n s = rw (type-at 0 (omega arith), result-at) refl
  checks-same DynamicSlice e n s = rw (types-rest, type-at 0 (omega arith), result-at, s.numbers row.a, n, e) refl
  checks-same Iota e n s = rw (result-at, first-number q.a, s.numbers row.a, n, e) refl
  checks-same Pad e n s = rw (type-at 0 (omega arith), type-at 1 (omega arith), result-at, s.numbers row.a, s.numbers row.b, s.numbers row.c, n, e) refl
  checks-same Reduce e n s = rw (type-at 0 (omega arith), type-at 1 (omega arith), result-at, s.argument e 0 (omega arith), s.argument e 1 (omega arith), s.numbers row.a, n, e) refl
  checks-same Reshape e n s = rw (type-at 0 (omega arith), result-at) refl
  checks-same Reverse e n s = rw (type-at 0 (omega arith), result-at, s.numbers row.a, n, e) refl
  checks-same Select e n s = rw (type-at 0 (omega arith), type-at 1 (omega arith), type-at 2 (omega arith), result-at) refl
  checks-same Slice e n s = rw (type-at 0 (omega arith), result-at, s.numbers row.a, s.numbers row.b, s.numbers row.c, n, e) refl
  checks-same Transpose e n s = rw (type-at 0 (omega arith), result-at, s.numbers row.a, n, e) refl
