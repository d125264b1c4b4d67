-- What is read of any op is within the sizes of 01; and what attributes that fit their row give of the attribute that must stand first.
-- Assumes nothing.
use mathlib.Core.Path.{◌≡◌, refl}
use mathlib.Core.Bool.{Bool, true, false, ◌&&◌}
use mathlib.Core.List.{List, [], ◌∷◌}
use Prim.Native.Nat.{ℕ, suc, ◌<◌}
use native.Mathlib.Nat.{not-suc-le-zero, le_of_suc-le-suc}
use lib.Dec.{ltb, eqb}
use lib.ListN.{length, get_or}
use borrow.Author.Tests.{ltb-true, eqb-true, eq-eqb}
use Rattle.lists.proofs.TestLaw.{both_true}
use Rattle.lists.specs.Lists.{pick, tab, first_where, all_below}
use Rattle.lists.proofs.SearchLaw.{all-at}
use Rattle.lists.proofs.TabLaw.{length-tab, get_or-tab}
use Rattle.shape.specs.Index.{size}
use Rattle.shape.specs.Dims.{dims_of}
use Rattle.elementwise.specs.Elementwise.{Holds}
use Rattle.optable.specs.Table.{value, iota_dimension, dimension, comparison_direction, DenseKind, Number, Direction, no_attribute, attributes, attribute_names, attribute_kind, choice_kind, ops, row_at}
use Rattle.optable.specs.Find.{same, name_place, slot_in}
use Rattle.optable.specs.declared.Row.{Row}
use Rattle.optable.specs.declared.Rule.{Rule}
use Rattle.optable.specs.declared.Rule.TheVariants as rule
use Rattle.optable.specs.declared.Rule.TheVariants.{Compare as CompareRule, Concatenate as ConcatenateRule, Constant as ConstantRule, Iota as IotaRule}
use Rattle.attribute.specs.Attribute.{form_at, choice_at, dense_tokens}
use Rattle.dense.proofs.LengthLaw.{dense-length, dense-values}
use Rattle.dimrules.specs.declared.TensorType.{TensorType}
use Rattle.program.specs.declared.Parts.{Parts}
use Rattle.places.specs.Places.{operand_type, result_type, attribute_name, body_open, place_of, blank_type, type_in, type_of_part}
use Rattle.places.proofs.TypeInLaw.{type-in-sized, type-in-six}
use Rattle.attributes.specs.Attributes.{attributes_of, attribute_of, stands_at, stands, choice_fits, dense_fits, kind_fits, attribute_fits, needed_at, attributes_fit, name_of, numbers_by, attribute_numbers, choice_of, dense_type}
use Rattle.attributes.proofs.AttributesLaw.{numbers-few, numbers-six, dense-type-sized, dense-type-six, attributes-each, attributes-needed}
use Rattle.bodies.proofs.BodiesLaw.{argument-six}
use Rattle.operands.specs.Operands.{arity_of}
use Rattle.typing.specs.Typing.{types_of, body_type, operation_of}
use Rattle.operands.proofs.OperandsLaw.{arity-few}
use Rattle.typing.proofs.TypingLaw.{types-at, type-sized, body-sized}
use Rattle.facts.specs.Facts.{SixDims, ShapeRead, ListRead, Shaped}
use Rattle.nodes.specs.Nodes.{dense_elements}

-- ---- sizes

pub part-read : (text : List ℕ) (p : Parts) (k j : ℕ) → ShapeRead (type_of_part text p k j).shape
unfolding type_of_part
part-read text p k j = record { sized = type-in-sized text (place_of p k j); six = type-in-six text (place_of p k j) }

pick-six : (b : Bool) (x y : TensorType) → SixDims x.shape → SixDims y.shape → SixDims (pick b x y).shape
pick-six true x y p q = p
pick-six false x y p q = q

operand_read : (text : List ℕ) (op : Parts) (j : ℕ) → ShapeRead (types_of text op j).shape
unfolding types_of
operand_read text op j =
    record { sized = type-sized text op j; six = pick-six (ltb j (arity_of op)) (type_of_part text op operand_type j) blank_type (part-read text op operand_type j).six refl }

argument-read : (text : List ℕ) (op : Parts) (row : Row) (j : ℕ) → ShapeRead (body_type text op row j).shape
unfolding body_type
argument-read text op row j =
    record { sized = body-sized text op row j; six = pick-six row.body _ blank_type (argument-six text (place_of op body_open 0) j) refl }

list_read : (text : List ℕ) (op : Parts) (k : ℕ) → ListRead (attribute_numbers text op k)
list_read text op k = record { few = numbers-few text op k; six = numbers-six text op k }

pub operation-shaped : (text : List ℕ) (op : Parts) (row : Row) → Shaped (operation_of text op row)
unfolding operation_of
operation-shaped text op row =
    record {
      arity = arity-few op;
      eight = length-tab 8 (types_of text op);
      types = λ j h. rw (types-at text op j h) (operand_read text op j);
      result = part-read text op result_type 0;
      value = record { sized = dense-type-sized text op value; six = dense-type-six text op value };
      left = argument-read text op row 0;
      right = argument-read text op row 1;
      a = list_read text op row.a;
      b = list_read text op row.b;
      c = list_read text op row.c;
    }

-- ---- the attribute that must stand first

-- a number for each rule, so that two are compared by computation
unfoldable pub rule_code : Rule → ℕ
rule_code rule.SameTypes = 0
rule_code rule.Abs = 1
rule_code rule.Broadcast = 2
rule_code rule.Clamp = 3
rule_code rule.Compare = 4
rule_code rule.Concatenate = 5
rule_code rule.Constant = 6
rule_code rule.Convert = 7
rule_code rule.DynamicSlice = 8
rule_code rule.Iota = 9
rule_code rule.Pad = 10
rule_code rule.Reduce = 11
rule_code rule.Reshape = 12
rule_code rule.Reverse = 13
rule_code rule.Select = 14
rule_code rule.Slice = 15
rule_code rule.Transpose = 16

-- attribute k must stand first in a row of these constraints
abbrev asks : Rule → ℕ → Row → Bool
asks r k row = pick (eqb (rule_code row.rule) (rule_code r)) (ltb 0 row.needed && eqb row.a k) true

-- so in each of the table's rows
first-asked : (r : Rule) (k : ℕ) → all_below (length ops) (λ i. asks r k (row_at i)) ≡ true → (i : ℕ) → i < length ops → (row_at i).rule ≡ r → (0 < (row_at i).needed) × ((row_at i).a ≡ k)
first-asked r k all i l e =
    let row = row_at i in
    let h = both_true (ltb 0 row.needed) (eqb row.a k) (rw (eq-eqb (rule_code row.rule) (rule_code r) (rw e)) at (all-at (length ops) (λ i. asks r k (row_at i)) i all l)) in
    (ltb-true 0 row.needed h.0, eqb-true row.a k h.1)

constant-asks : all_below (length ops) (λ i. asks ConstantRule value (row_at i)) ≡ true
unfolding all_below row_at ops rule_code attributes attribute_names name_place first_where same
constant-asks = refl

iota-asks : all_below (length ops) (λ i. asks IotaRule iota_dimension (row_at i)) ≡ true
unfolding all_below row_at ops rule_code attributes attribute_names name_place first_where same
iota-asks = refl

concatenate-asks : all_below (length ops) (λ i. asks ConcatenateRule dimension (row_at i)) ≡ true
unfolding all_below row_at ops rule_code attributes attribute_names name_place first_where same
concatenate-asks = refl

compare-asks : all_below (length ops) (λ i. asks CompareRule comparison_direction (row_at i)) ≡ true
unfolding all_below row_at ops rule_code attributes attribute_names name_place first_where same
compare-asks = refl

-- what is found passes the test
found-passes : (t : ℕ → Bool) (s : List ℕ) → first_where t s < length s → t (get_or s (first_where t s) 0) ≡ true
unfolding first_where
found-passes t [] l = absurd (not-suc-le-zero l)
found-passes t (x ∷ xs) l = by-test (t x) refl l (found-passes t xs)
  where
    by-test : (b : Bool) → t x ≡ b → pick b 0 (suc (first_where t xs)) < suc (length xs)
        → (first_where t xs < length xs → t (get_or xs (first_where t xs) 0) ≡ true) → t (get_or (x ∷ xs) (pick b 0 (suc (first_where t xs))) 0) ≡ true
    by-test true e l ih = e
    by-test false e l ih = ih (le_of_suc-le-suc l)

-- an attribute that stands is there, at the place where it was found
stands-there : (text : List ℕ) (op : Parts) (k : ℕ) → stands text op k ≡ true → (stands_at text op k < attributes_of op) × (attribute_of text op (stands_at text op k) ≡ k)
unfolding stands stands_at
stands-there text op k e =
    let n = attributes_of op in
    let t : ℕ → Bool = λ j. eqb (attribute_of text op j) k in
    let f = first_where t (tab n (λ j. j)) in
    let l : f < n = ltb-true f n e in
    let p : t (get_or (tab n (λ j. j)) f 0) ≡ true = found-passes t (tab n (λ j. j)) (rw (length-tab n (λ (j : ℕ). j)) l) in
    (l, eqb-true (attribute_of text op f) k (rw (get_or-tab n (λ j. j) f 0 l) at p))

module _ (text : List ℕ) (op : Parts) (i : ℕ) (l : i < length ops) (fit : attributes_fit text op (row_at i) ≡ true) where
  first-stands : (k : ℕ) → (0 < (row_at i).needed) × ((row_at i).a ≡ k) → stands text op k ≡ true
  unfolding needed_at
  first-stands k h = rw h.1 at (attributes-needed text op (row_at i) fit 0 h.0)

  -- a number alone is the only one of its list
  one_of : (k : ℕ) → attribute_kind k ≡ Number → (0 < (row_at i).needed) × ((row_at i).a ≡ k) → (attribute_numbers text op (row_at i).a).count ≡ 1
  unfolding attribute_numbers numbers_by
  one_of k e h = rw (h.1, first-stands k h, e)

  pub iota-number : (row_at i).rule ≡ IotaRule → (attribute_numbers text op (row_at i).a).count ≡ 1
  unfolding attribute_kind attributes attribute_names name_place first_where same
  iota-number e = one_of iota_dimension refl (first-asked IotaRule iota_dimension iota-asks i l e)

  pub concatenate-number : (row_at i).rule ≡ ConcatenateRule → (attribute_numbers text op (row_at i).a).count ≡ 1
  unfolding attribute_kind attributes attribute_names name_place first_where same
  concatenate-number e = one_of dimension refl (first-asked ConcatenateRule dimension concatenate-asks i l e)

  -- the value of an attribute that stands is of the attribute's kind
  kind_fits_lem : (k : ℕ) → stands text op k ≡ true → kind_fits text (name_of text op k) (attribute_kind k) ≡ true
  unfolding attribute_fits name_of
  kind_fits_lem k e =
      let s = stands-there text op k e in
      let j = stands_at text op k in
      let f = attributes-each text op (row_at i) fit j s.0 in
      let a = attribute_of text op j in
      let g : kind_fits text (place_of op attribute_name j) (attribute_kind k) ≡ true =
      rw s.1 at (both_true (ltb a no_attribute && ltb (slot_in (row_at i) a) 3 && eqb (stands_at text op a) j) (kind_fits text (place_of op attribute_name j) (attribute_kind a)) f).1 in
      rw e g

  -- the value of a constant is read whole
  value-fits : stands text op value ≡ true → dense_fits text (name_of text op value) ≡ true
  unfolding kind_fits attribute_kind attributes attribute_names name_place first_where same
  value-fits e =
      let name = name_of text op value in
      (both_true (eqb (form_at text name) DenseKind) (dense_fits text name) (kind_fits_lem value e)).1

  -- a compare has its comparison_direction
  pub compare-choice : (row_at i).rule ≡ CompareRule → choice_kind (choice_of text op comparison_direction) ≡ Direction
  unfolding choice_of kind_fits choice_fits attribute_kind attributes attribute_names name_place first_where same
  compare-choice e =
      let s = first-stands comparison_direction (first-asked CompareRule comparison_direction compare-asks i l e) in
      let name = name_of text op comparison_direction in
      let c = choice_kind (choice_at text name).choice in
      rw s (eqb-true c Direction (both_true (eqb (form_at text name) Direction) (eqb c Direction) (kind_fits_lem comparison_direction s)).1)

  -- a constant has its dense value, which is one of its type
  pub constant-reads : (row_at i).rule ≡ ConstantRule → (stands text op value ≡ true) × (dense_fits text (name_of text op value) ≡ true)
  constant-reads e = let s = first-stands value (first-asked ConstantRule value constant-asks i l e) in (s, value-fits s)

  pub constant-elements : (row_at i).rule ≡ ConstantRule → Holds (dense_type text op value).element (size (dims_of (dense_type text op value).shape)) (dense_elements text op)
  unfolding dense_type dense_fits dense_elements
  constant-elements e =
      let s = first-stands value (first-asked ConstantRule value constant-asks i l e) in
      let c = dense_tokens text (name_of text op value) in
      let t = type_in text c.ty in
      rw s (record { sized = dense-length t.element (dims_of t.shape) text c.literal (value-fits s); ranged = dense-values t.element (dims_of t.shape) text c.literal (value-fits s) })
