-- An op of an accepted text as evaluating takes it: by what is written, and by what the code reads.
-- Assumes nothing.
use mathlib.Core.Path.{◌≡◌, refl, sym, ap, ◌∙◌, subst}
use mathlib.Core.List.{List, [], ◌∷◌, ◌++◌, map}
use mathlib.Core.Bool.{Bool, true, false, not, ◌&&◌, ◌||◌, false≢true}
use Prim.Native.Nat.{ℕ, zero, suc, ◌+◌, ◌-◌, ◌<◌, ◌≤◌, min}
use native.Mathlib.Nat.{not-suc-le-zero, le_of_suc-le-suc}
use native.Mathlib.Omega.{arith}
use lib.Dec.{eqb, ltb}
use lib.IntN.{ℤ, pos}
use lib.ListN.{length, get_or, take, length-take}
use borrow.Author.Tests.{eqb-true}
use Rattle.lists.specs.Lists.{pick, tab}
use Rattle.lists.proofs.TestLaw.{both_true}
use Rattle.lists.proofs.TabLaw.{tab-get_or, tab-cong, map-tab}
use Rattle.scan.specs.Bytes.{among}
use Rattle.shape.specs.Whole.{number_of}
use Rattle.dimrules.specs.Dims.{list_of, num}
use Rattle.dimrules.specs.Types.{type_at}
use Rattle.dimrules.specs.declared.Numbers.{Numbers}
use Rattle.dimrules.specs.declared.TensorType.{TensorType}
use Rattle.elementwise.specs.Elementwise.{Tensor}
use Rattle.scalar.specs.declared.Direction.{Direction}
use Rattle.ops.specs.declared.Kind.{Kind}
use Rattle.ops.specs.OpAttributes.{OpAttributes, attributes_by}
use Rattle.ops.specs.Ops.{Node, TensorType as NodeType}
use Rattle.optable.specs.declared.Row.{Row}
use Rattle.optable.specs.declared.Class.{Class}
use Rattle.optable.specs.declared.Class.TheVariants as class
use Rattle.optable.specs.Table.{OpRow, ops, row_of as row_for, value, comparison_direction, direction_at, no_attribute}
use Rattle.judge.specs.Judge.{text_refusal}
use Rattle.program.specs.declared.Parts.{Parts}
use Rattle.program.specs.Program.{program_of}
use Rattle.places.specs.Places.{operand_name, body_open, count_of, place_of}
use Rattle.values.specs.declared.Value.{Value}
use Rattle.attributes.specs.Attributes.{stands, attributes_fit, attribute_numbers}
use Rattle.bodies.specs.Bodies.{body_row}
use Rattle.operands.specs.Operands.{value_named, arity_of}
use Rattle.opcheck.specs.declared.Operation.{Operation}
use Rattle.typing.specs.Typing.{row_named_in, operation_of, typed_op, bodies_fit}
use Rattle.facts.specs.Facts.{kind_by, node_type, integers_of, node_for, ListRead, Shaped}
use Rattle.nodes.specs.Nodes.{reducer_at, op_kind, dense_elements, operands_of, node_at}
use Rattle.nodes.proofs.TypedLaw.{TypedParts, typed-parts}
use Rattle.source.specs.Source.{AttributeText, OpText, op_from, body_from}
use Rattle.verifier.specs.AttributeRules.{attribute_number, attribute_with, no_attribute_text, numbers_written, numbers_named, choice_named_by, dense_written, missing_attribute, doubled_attribute, foreign_attribute, unlike_kind, some_of}
use Rattle.verifier.specs.BodyForm.{op_number}
use Rattle.verifier.specs.Reasons.{value_of_name, wrong_attribute, wrong_dense}
use Rattle.verifier.specs.ConstraintRules.{operand_types_of, result_type_of}
use Rattle.verifier.specs.Verdict.{no_op, row_written}
use Rattle.source_laws.specs.Listed.{SameParts, first_place}
use Rattle.source_laws.specs.Pieces.{op_place}
use Rattle.attribute_laws.specs.AttributesRead.{wholes, AttributesNamed}
use Rattle.verdict_laws.proofs.TypedSameLaw.{KnownBefore, value_same, arity-is, operands-long}
use Rattle.verdict_laws.proofs.ChecksSameLaw.{types-all, result-at}
use Rattle.verdict_laws.proofs.JoinLaw.{vs, op, o, same, row_same}
use Rattle.verdict_laws.proofs.VerdictLaw.{inside, fit, named, one-body, bodies-one}
use Rattle.answers.specs.WrittenNodes.{kind_written, attributes_written, elements_written, node_written}
use Rattle.answers.proofs.NodeSameLaw.{kind-same, attributes-same, row-right, right_row, no_other, placed, read_by, read_names, class-body}

-- ---- lists

wholes-are : (a : Numbers) → ListRead a → wholes a ≡ integers_of a
wholes-are a r =
    let s = r.six in
    let f = r.few in
    let l : length (list_of a) ≡ a.count = length-take a.count a.list ∙ (let z : min a.count (length a.list) ≡ a.count = omega arith in z) in
    ap (λ (n : ℕ). tab n (λ d. number_of (num a d))) (sym l) ∙ sym (map-tab number_of (length (list_of a)) (λ d. get_or (list_of a) d 0)) ∙ ap (map number_of) (tab-get_or (list_of a) 0)

-- an attribute that is foreign to the row does not stand
none-with : (text allowed : List ℕ) (attrs : List AttributeText) → foreign_attribute text allowed attrs ≡ false → (n : ℕ) → among allowed n ≡ false → attribute_with text n attrs ≡ no_attribute_text
none-with text allowed [] e n f = refl
none-with text allowed (a ∷ attrs) e n f = go (λ q. none-with text allowed attrs q n f) (eqb (attribute_number text a) n) refl
  where
    parts : (x y : Bool) → not x || y ≡ false → (x ≡ true) × (y ≡ false)
    parts true y e = (refl, e)
    parts false y e = absurd (false≢true (sym e))

    go : (foreign_attribute text allowed attrs ≡ false → attribute_with text n attrs ≡ no_attribute_text) → (b : Bool) → eqb (attribute_number text a) n ≡ b → pick b a (attribute_with text n attrs) ≡ no_attribute_text
    go rest true q =
        let w = (parts (among allowed (attribute_number text a)) (foreign_attribute text allowed attrs) e).0 in
        let z : among allowed n ≡ true = rw (eqb-true (attribute_number text a) n q) at w in
        absurd (false≢true (sym f ∙ z))
    go rest false q = rest (parts (among allowed (attribute_number text a)) (foreign_attribute text allowed attrs) e).1

no-foreign : (m d f k : Bool) → not (m || d || f || k) ≡ true → f ≡ false
no-foreign true d f k e = absurd (false≢true e)
no-foreign false true f k e = absurd (false≢true e)
no-foreign false false true k e = absurd (false≢true e)
no-foreign false false false k e = refl

-- ---- operands

pub operands-at : (text : List ℕ) (read : (text_refusal text).number ≡ 0) (k : ℕ) → k < (program_of text).count → (known : List Value) → KnownBefore (vs text read).list ((vs text read).inputs + k) known →
    operands_of text (op text read k) (vs text read).list ((vs text read).inputs + k) ≡ map (value_of_name text known) (o text read k).operands
unfolding operands_of
operands-at text read k h known before =
    let s = same text read k h in
    let f = s.operands.few in
    let a = arity-is text (op text read k) (o text read k) s in
    let names = (o text read k).operands in
    ap (λ (n : ℕ). tab n (λ j. value_named text (vs text read).list ((vs text read).inputs + k) (place_of (op text read k) operand_name j))) a
    ∙ tab-cong (length names) (λ j. value_named text (vs text read).list ((vs text read).inputs + k) (place_of (op text read k) operand_name j)) (λ j. value_of_name text known (get_or names j 0))
    (λ j l. ap (value_named text (vs text read).list ((vs text read).inputs + k)) (s.operands.place j (omega arith)) ∙ value_same text (vs text read).list known ((vs text read).inputs + k) before (get_or names j 0))
    ∙ sym (map-tab (value_of_name text known) (length names) (λ j. get_or names j 0)) ∙ ap (map (value_of_name text known)) (tab-get_or names 0)

-- ---- an op

node-from : {a b : Kind} {r s : NodeType} {f g : List NodeType} {x y : OpAttributes} {v w : Tensor} {m n : List ℕ} → a ≡ b → r ≡ s → f ≡ g → x ≡ y → v ≡ w → m ≡ n →
    ◌≡◌ {A = Node} (record { kind = a; result = r; from = f; attributes = x; values = v; operands = m }) (record { kind = b; result = s; from = g; attributes = y; values = w; operands = n })
node-from e1 e2 e3 e4 e5 e6 = rw (e1, e2, e3, e4, e5, e6) refl

module _ (text : List ℕ) (read : (text_refusal text).number ≡ 0) (k : ℕ) (h : k + 1 < (program_of text).count)
    (typed : typed_op text (op text read k) (row_named_in text (op text read k)) (vs text read).list ((vs text read).inputs + k) ≡ true)
    (shaped : Shaped (operation_of text (op text read k) (row_named_in text (op text read k))))
    (known : List Value) (before : KnownBefore (vs text read).list ((vs text read).inputs + k) known) where
  abbrev o-k : OpText
  o-k = o text read k

  abbrev op-k : Parts
  op-k = op text read k

  abbrev r : OpRow
  r = row_written text o-k

  abbrev parts : TypedParts text op-k (row_named_in text op-k) (vs text read).list ((vs text read).inputs + k)
  parts = typed-parts text op-k (row_named_in text op-k) (vs text read).list ((vs text read).inputs + k) typed

  abbrev attributes-read : AttributesNamed text op-k o-k.attributes
  attributes-read = named text read k h typed

  row_is : (place : ℕ) × (row_named_in text op-k ≡ row_for place r)
  row_is = row_same text read k h

  abbrev allowed : List ℕ
  allowed = r.required ++ r.optional

  abbrev N : ℕ → List ℤ
  N n = numbers_named text n o-k.attributes

  foreign-none : foreign_attribute text allowed o-k.attributes ≡ false
  foreign-none =
      let z = (both_true (not (wrong_attribute text r.required r.optional o-k)) (not (wrong_dense text o-k)) (sym (fit text read k h) ∙ parts.attributes)).0 in
      no-foreign (missing_attribute text r.required o-k.attributes) (doubled_attribute text o-k.attributes) (foreign_attribute text allowed o-k.attributes) (some_of (unlike_kind text) o-k.attributes) z

  absent : (n : ℕ) → among allowed n ≡ false → N n ≡ []
  absent n f = ap (λ (a : AttributeText). numbers_written text a) (none-with text allowed o-k.attributes foreign-none n f)

  long : length o-k.operand_types ≡ length o-k.operands
  long = operands-long text op-k o-k (same text read k (omega arith)) (vs text read).list ((vs text read).inputs + k) parts.operands

  kind-is : op_kind text op-k ≡ kind_written text o-k
  unfolding op_kind kind_written
  kind-is =
      rw row_is.1
      (kind-same (direction_at _) (direction_at _) (reducer_at _) (reducer_at _) r.class
      (λ e. ap direction_at attributes-read.direction)
      (λ e. ap reducer_at (one-body text read k h (bodies-one text read k h typed (class-body (op_number text o-k) (inside text read k h) e))).row))

  result-is : node_type (operation_of text op-k (row_named_in text op-k)).result ≡ node_type (result_type_of text o-k)
  result-is = rw row_is.1 (ap node_type (result-at text op-k o-k (same text read k (omega arith)) r row_is.0 long))

  from_is : tab (operation_of text op-k (row_named_in text op-k)).arity (λ j. node_type (type_at (operation_of text op-k (row_named_in text op-k)).types j)) ≡ map node_type (operand_types_of text o-k)
  from_is =
      rw row_is.1
      (tab-cong (operation_of text op-k (row_for row_is.0 r)).arity (λ j. node_type (type_at (operation_of text op-k (row_for row_is.0 r)).types j)) (λ j. node_type (type_at (operation_of text op-k (row_for row_is.0 r)).types (0 + j)))
      (λ j l. let z : j ≡ 0 + j = omega arith in ap (λ (i : ℕ). node_type (type_at (operation_of text op-k (row_for row_is.0 r)).types i)) z)
      ∙ sym (map-tab node_type (operation_of text op-k (row_for row_is.0 r)).arity (λ j. type_at (operation_of text op-k (row_for row_is.0 r)).types (0 + j)))
      ∙ ap (map node_type) (types-all text op-k o-k (same text read k (omega arith)) r row_is.0 long))

  numbers-are : (n : ℕ) → ListRead (attribute_numbers text op-k n) → integers_of (attribute_numbers text op-k n) ≡ N n
  numbers-are n l = sym (wholes-are (attribute_numbers text op-k n) l) ∙ attributes-read.numbers n

  attributes-are : attributes_by (op_kind text op-k) (integers_of (operation_of text op-k (row_named_in text op-k)).a) (integers_of (operation_of text op-k (row_named_in text op-k)).c) ≡ attributes_written text o-k
  unfolding attributes_written operation_of right_row op_kind
  attributes-are =
      let right = both_true (no_other allowed (read_by r.class) read_names) (placed allowed (read_by r.class)) (row-right (op_number text o-k) (inside text read k h)) in
      let a : integers_of (attribute_numbers text op-k (row_named_in text op-k).a) ≡ N (get_or allowed 0 no_attribute) = numbers-are (row_named_in text op-k).a shaped.a ∙ ap (λ (w : Row). N w.a) row_is.1 in
      let c : integers_of (attribute_numbers text op-k (row_named_in text op-k).c) ≡ N (get_or allowed 2 no_attribute) = numbers-are (row_named_in text op-k).c shaped.c ∙ ap (λ (w : Row). N w.c) row_is.1 in
      rw (a, c, row_is.1) (attributes-same N allowed absent r.class _ _ right.0 right.1)

  elements-are : dense_elements text op-k ≡ elements_written text o-k
  unfolding elements_written dense_elements
  elements-are = go (stands text op-k value) refl
    where
      go : (b : Bool) → stands text op-k value ≡ b → dense_elements text op-k ≡ elements_written text o-k
      go true e = attributes-read.elements e ∙ sym (rw (attributes-read.dense e) refl)
      go false e = rw (e, attributes-read.absent e) refl

  operands-are : operands_of text op-k (vs text read).list ((vs text read).inputs + k) ≡ map (value_of_name text known) o-k.operands
  operands-are = operands-at text read k (omega arith) known before

  pub node-same : node_at text (program_of text) (vs text read) k ≡ node_written text known o-k
  unfolding node_at node_written
  node-same = node-from kind-is result-is from_is attributes-are elements-are operands-are
