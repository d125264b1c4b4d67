-- Of an accepted text (refusal 0): what a reduce is evaluated with, and run with by any tree, is what its body computes from its text.
-- Assumes nothing.
use mathlib.Core.Path.{◌≡◌, refl, sym, ap, ◌∙◌}
use mathlib.Core.Bool.{Bool, true, false, ◌&&◌, false≢true}
use mathlib.Core.List.{List}
use Prim.Native.Nat.{ℕ, ◌+◌, ◌<◌}
use native.Mathlib.Omega.{arith}
use lib.Dec.{eqb}
use lib.ListN.{length, get_or}
use borrow.Author.Tests.{eqb-true, ltb-true}
use Rattle.lists.specs.Lists.{pick, All}
use Rattle.lists.proofs.TestLaw.{both_true}
use Rattle.run.specs.Tree.{fold, Tree, tree_value}
use Rattle.element.specs.Types.{SlotHolds}
use Rattle.scalar.specs.Body.{body_of}
use Rattle.scalar.specs.declared.Body.{Body}
use Rattle.scalar.specs.declared.Direction.{Direction}
use Rattle.scalar.proofs.Reduce.{body_closed}
use Rattle.ops.specs.declared.Kind.TheVariants.{Reduce}
use Rattle.ops.specs.Ops.{element_of}
use Rattle.optable.specs.declared.Class.{Class}
use Rattle.optable.specs.declared.Class.TheVariants as class
use Rattle.optable.specs.Table.{comparison_direction, ops, direction_at}
use Rattle.judge.specs.Judge.{text_refusal}
use Rattle.program.specs.declared.Parts.{Parts}
use Rattle.program.specs.declared.Program.{Program as Places}
use Rattle.program.specs.Parts.{op_at, body_at}
use Rattle.program.specs.Program.{program_of}
use Rattle.places.specs.Places.{op_name, result_name, operand_name, operand_type, result_type, attribute_name, body_open, input_name, input_type, count_of, place_of}
use Rattle.scope.specs.Scope.{same_at}
use Rattle.values.specs.declared.Value.{Value as Named}
use Rattle.values.specs.declared.Values.{Values}
use Rattle.values.specs.Values.{ops_of, values_in}
use Rattle.attributes.specs.Attributes.{choice_of}
use Rattle.bodies.specs.Bodies.{inner_op, has_count, body_counted, op_counted, row_named, is_reducer, on_both, returns_it, one_type, formed, body_fits, body_row}
use Rattle.typing.specs.Typing.{row_named_in, bodies_fit, in_table, typed_op}
use Rattle.facts.specs.Facts.{has_body, kind_by}
use Rattle.facts.proofs.AcceptedLaw.{row-for}
use Rattle.verify.specs.Verify.{program_refusal, verdict}
use Rattle.nodes.specs.Nodes.{reducer_at, op_kind, node_at}
use Rattle.nodes.proofs.TypedLaw.{typed-parts}
use Rattle.nodes.proofs.VerdictLaw.{both_zero}
use Rattle.nodes.proofs.AcceptedLaw.{accepted-count, accepted-names, accepted-stands}
use Rattle.body_meaning.specs.BodyValue.{body_value}
use Rattle.body_meaning.proofs.BodyValueLaw.{body-value}
use Rattle.body_meaning.proofs.ArgumentLaw.{arguments-apart}
use Rattle.body_meaning.proofs.GatherLaw.{same-tree, same_fold}

-- ---- a body of the form

first_of : (a b c d e f g h i : Bool) → a && b && c && d && e && f && g && h && i ≡ true → a ≡ true
first_of true b c d e f g h i q = refl
first_of false b c d e f g h i q = absurd (false≢true q)

-- it has two arguments
two-arguments : (text : List ℕ) (at : ℕ) → body_fits text at ≡ true → count_of (body_at text at) input_name ≡ 2
unfolding body_fits formed body_counted has_count
two-arguments text at e =
    let body = body_at text at in
    let op = inner_op text body in
    let c = body_counted body in
    let d = op_counted body op in
    let r = is_reducer (row_named text (place_of body op_name 0)) in
    let h = (both_true c d (both_true (c && d) r (both_true (c && d && r) (on_both text body) (both_true (c && d && r && on_both text body) (returns_it text body) (both_true (c && d && r && on_both text body && returns_it text body) (one_type text body) e).0).0).0).0).0 in
    eqb-true (count_of body input_name) 2
    (first_of (eqb (count_of body input_name) 2) (eqb (count_of body input_type) 2) (eqb (count_of body op_name) 2) (eqb (count_of body result_name) 1) (eqb (count_of body operand_name) 3)
    (eqb (count_of body operand_type) 3) (eqb (count_of body result_type) 1) (eqb (count_of body attribute_name) 0) (eqb (count_of body body_open) 0) h)

-- ---- a reduce

-- of the classes a reduce alone has an operation, its body's
gathers : (d : Direction) (b body : Body) (c : Class) → kind_by d b c ≡ Reduce body → b ≡ body
gathers d b body class.Reduce e = cc
gathers d b body class.Constant e = let z : ◌≡◌ {A = ℕ} 0 1 = cc in absurd (omega arith)
gathers d b body class.Iota e = let z : ◌≡◌ {A = ℕ} 0 1 = cc in absurd (omega arith)
gathers d b body (class.Elementwise op) e = let z : ◌≡◌ {A = ℕ} 0 1 = cc in absurd (omega arith)
gathers d b body (class.Pairwise op) e = let z : ◌≡◌ {A = ℕ} 0 1 = cc in absurd (omega arith)
gathers d b body (class.Quotient op) e = let z : ◌≡◌ {A = ℕ} 0 1 = cc in absurd (omega arith)
gathers d b body class.Compare e = let z : ◌≡◌ {A = ℕ} 0 1 = cc in absurd (omega arith)
gathers d b body class.Convert e = let z : ◌≡◌ {A = ℕ} 0 1 = cc in absurd (omega arith)
gathers d b body class.Select e = let z : ◌≡◌ {A = ℕ} 0 1 = cc in absurd (omega arith)
gathers d b body class.Clamp e = let z : ◌≡◌ {A = ℕ} 0 1 = cc in absurd (omega arith)
gathers d b body (class.Moved m) e = let z : ◌≡◌ {A = ℕ} 0 1 = cc in absurd (omega arith)
gathers d b body class.Pad e = let z : ◌≡◌ {A = ℕ} 0 1 = cc in absurd (omega arith)
gathers d b body class.Concatenate e = let z : ◌≡◌ {A = ℕ} 0 1 = cc in absurd (omega arith)
gathers d b body class.DynamicSlice e = let z : ◌≡◌ {A = ℕ} 0 1 = cc in absurd (omega arith)

-- its body stands, and is of the form
record Bodied (text : List ℕ) (op : Parts) : Type 0 where
  one : count_of op body_open ≡ 1
  fits : body_fits text (place_of op body_open 0) ≡ true

module _ (text : List ℕ) (op : Parts) (values : List Named) (n : ℕ) (typed : typed_op text op (row_named_in text op) values n ≡ true) (body : Body) (is : op_kind text op ≡ Reduce body) where
  has_body_lem : (row_named_in text op).body ≡ true
  unfolding row_named_in op_kind in_table
  has_body_lem =
      let d = direction_at (choice_of text op comparison_direction) in
      let b = reducer_at (body_row text (place_of op body_open 0)) in
      let row = row_named text (place_of op op_name 0) in
      let l = ltb-true row (length ops) (typed-parts text op (row_named_in text op) values n typed).table in
      (row-for d b row l).body ∙ ap has_body is

  reduce-bodied : Bodied text op
  unfolding bodies_fit
  reduce-bodied =
      let row = row_named_in text op in
      let h = both_true (eqb (count_of op body_open) (pick row.body 1 0)) (pick row.body (body_fits text (place_of op body_open 0)) true) (typed-parts text op row values n typed).bodies in
      record { one = eqb-true (count_of op body_open) 1 (rw has_body_lem at h.0); fits = rw has_body_lem at h.1 }

  reduce-operation : reducer_at (body_row text (place_of op body_open 0)) ≡ body
  unfolding op_kind
  reduce-operation =
      gathers (direction_at (choice_of text op comparison_direction)) (reducer_at (body_row text (place_of op body_open 0))) body (row_named_in text op).class is

-- ---- an accepted text

module _ (text : List ℕ) (e : (verdict text).number ≡ 0) where
  abbrev p : Places
  p = program_of text

  abbrev vs : Values
  vs = values_in text (program_of text)

  abbrev op_of : ℕ → Parts
  op_of k = op_at text (get_or (program_of text).ops k 0)

  -- where the body of op k opens
  abbrev pub brace_of : ℕ → ℕ
  brace_of k = place_of (op_of k) body_open 0

  text-passes : (text_refusal text).number ≡ 0
  unfolding verdict
  text-passes = (both_zero (text_refusal text).number (program_refusal text p vs) (text_refusal text) refl e).0

  module _ (k : ℕ) (l : k < ops_of p) (body : Body) (is : (node_at text p vs k).kind ≡ Reduce body) where
    kind-is : op_kind text (op_of k) ≡ Reduce body
    unfolding node_at
    kind-is = is

    bodied : Bodied text (op_of k)
    bodied = reduce-bodied text (op_of k) vs.list (vs.inputs + k) (accepted-stands text e k l).typed body kind-is

    -- refusal 6: the names of the body's two arguments differ
    differ : same_at text (place_of (body_at text (brace_of k)) input_name 0) (place_of (body_at text (brace_of k)) input_name 1) ≡ false
    differ =
        let c = accepted-count text e in
        let one = bodied.one in
        arguments-apart text text-passes vs.list (vs.inputs + k) k (omega arith) (accepted-names text e k (omega arith)) 0 (omega arith) (omega arith)
        (two-arguments text (brace_of k) bodied.fits)

    -- the operation that op k gathers with is its body's text, on values of its element type
    pub accepted-body : (x y : ℕ) → SlotHolds (element_of (node_at text p vs k)) x → SlotHolds (element_of (node_at text p vs k)) y
        → body_of body (element_of (node_at text p vs k)) x y ≡ body_value text (brace_of k) (element_of (node_at text p vs k)) x y
    accepted-body x y u v =
        let t = element_of (node_at text p vs k) in
        let o = reduce-operation text (op_of k) vs.list (vs.inputs + k) (accepted-stands text e k l).typed body kind-is in
        ap (λ (b : Body). body_of b t x y) (sym o) ∙ sym (body-value text (brace_of k) bodied.fits differ t x y u v)

    -- so "a node the body on its left and right value", by any tree
    pub accepted-tree : (start : ℕ) (elements : List ℕ) → SlotHolds (element_of (node_at text p vs k)) start → All (SlotHolds (element_of (node_at text p vs k))) elements → (tree : Tree)
        → tree_value (body_of body (element_of (node_at text p vs k))) start elements tree ≡ tree_value (body_value text (brace_of k) (element_of (node_at text p vs k))) start elements tree
    accepted-tree start elements u a =
        let t = element_of (node_at text p vs k) in
        same-tree (SlotHolds t) (body_of body t) (body_value text (brace_of k) t) (body_closed body t) accepted-body start elements u a

    -- and "Evaluation folds from the start value, once, over elements in ascending order"
    pub accepted-fold : (start : ℕ) (elements : List ℕ) → SlotHolds (element_of (node_at text p vs k)) start → All (SlotHolds (element_of (node_at text p vs k))) elements
        → fold (body_of body (element_of (node_at text p vs k))) start elements ≡ fold (body_value text (brace_of k) (element_of (node_at text p vs k))) start elements
    accepted-fold start elements u a =
        let t = element_of (node_at text p vs k) in
        same_fold (SlotHolds t) (body_of body t) (body_value text (brace_of k) t) (body_closed body t) accepted-body start elements u a
