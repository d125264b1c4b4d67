-- In an accepted text no two values have one name (01, refusal 6: "value name defined twice"), and so a name stands for one value.
-- Assumes nothing.
use mathlib.Core.Path.{◌≡◌, refl, sym, ap, subst, ◌∙◌}
use mathlib.Core.List.{List}
use mathlib.Core.Bool.{Bool, true, false}
use Prim.Native.Nat.{ℕ, zero, suc, ◌+◌, ◌-◌, ◌<◌, ◌≤◌}
use native.Mathlib.Omega.{arith}
use native.Mathlib.Decide.{dec_lt}
use native.Mathlib.Numerals.{add-one}
use lib.Dec.{eqb}
use lib.ListN.{get_or}
use borrow.Author.Tests.{eqb-true, eq-eqb, lt-ltb, le-ltb}
use Rattle.lists.specs.Lists.{tab}
use Rattle.lists.proofs.TabLaw.{length-tab, get_or-tab}
use Rattle.lists.proofs.TestLaw.{both_true}
use Rattle.lists.proofs.SearchLaw.{Passed, passed_none, passed-next, passed_here}
use Rattle.text.specs.Names.{same_bytes, name_bytes, same_name}
use Rattle.text.proofs.NameLaw.{same_bytes_lem, bytes_same}
use Rattle.judge.specs.Judge.{text_refusal}
use Rattle.program.specs.declared.Program.{Program}
use Rattle.program.specs.Parts.{op_at}
use Rattle.program.specs.Program.{names_op, program_of}
use Rattle.places.specs.Places.{input_name, result_name, result_type, count_of, place_of}
use Rattle.values.specs.declared.Value.{Value}
use Rattle.values.specs.declared.Values.{Values}
use Rattle.values.specs.Values.{no_value, input_value, result_value, inputs_of, ops_of, value_at, values_in}
use Rattle.values.proofs.ValuesLaw.{value-stands}
use Rattle.scope.specs.Scope.{name_at, same_at}
use Rattle.known.specs.Known.{known_names, inputs_fault}
use Rattle.operands.specs.Operands.{value_named}
use Rattle.scope_laws.proofs.OuterScopeLaw.{not-both}
use Rattle.scope_laws.proofs.Theorems.{inputs_apart}
use Rattle.grammar.specs.Symbols.{OpName}
use Rattle.reading_laws.proofs.OpsLaw.{few_bytes, read-program}
use Rattle.names.proofs.SameLaw.{names_same}
use Rattle.names.proofs.FreshLaw.{hidden-known, results-fresh}
use Rattle.typing.specs.Typing.{row_named_in, results_are}
use Rattle.opwise.specs.Opwise.{by_name, ops_from}
use Rattle.verify.specs.Verify.{program_refusal, verdict}
use Rattle.nodes.proofs.TypedLaw.{typed-parts}
use Rattle.nodes.proofs.VerdictLaw.{both_zero}
use Rattle.nodes.proofs.AcceptedLaw.{accepted-count, accepted-names, accepted-stands}

-- names that are the same as one name are the same
same-join : (text : List ℕ) (a b c : ℕ) → same_at text a c ≡ true → same_at text b c ≡ true → same_at text a b ≡ true
unfolding same_at same_name
same-join text a b c p q =
    let f = name_at text in
    let x = both_true (eqb (f a).len (f c).len) (same_bytes (name_bytes text (f a)) (name_bytes text (f c))) p in
    let y = both_true (eqb (f b).len (f c).len) (same_bytes (name_bytes text (f b)) (name_bytes text (f c))) q in
    let l : (f a).len ≡ (f b).len = eqb-true (f a).len (f c).len x.0 ∙ sym (eqb-true (f b).len (f c).len y.0) in
    let m : name_bytes text (f b) ≡ name_bytes text (f a) = same_bytes_lem (name_bytes text (f b)) (name_bytes text (f c)) y.1 ∙ sym (same_bytes_lem (name_bytes text (f a)) (name_bytes text (f c)) x.1) in
    rw (eq-eqb (f a).len (f b).len l, m) (bytes_same (name_bytes text (f a)))

module _ (text : List ℕ) where
  abbrev p : Program
  p = program_of text

  abbrev vs : Values
  vs = values_in text (program_of text)

  -- the first byte of value i's name
  abbrev name_of : ℕ → ℕ
  name_of i = (get_or (values_in text (program_of text)).list i no_value).name

  value-count : vs.count ≡ inputs_of p + ops_of p
  unfolding values_in
  value-count = refl

  -- the inputs come first, then each op's result
  pub input-name : (i : ℕ) → i < inputs_of p → name_of i ≡ place_of p.header input_name i
  unfolding value_at input_value
  input-name i h = let c = value-count in ap (λ (v : Value). v.name) (value-stands text p i (omega arith)) ∙ rw (lt-ltb i (inputs_of p) h)

  pub result-name : (k : ℕ) → k < ops_of p → name_of (inputs_of p + k) ≡ place_of (op_at text (get_or p.ops k 0)) result_name 0
  unfolding value_at result_value
  result-name k h =
      let i = inputs_of p + k in
      let c = value-count in
      let z : i - inputs_of p ≡ k = omega arith in
      ap (λ (v : Value). v.name) (value-stands text p i (omega arith)) ∙ rw (le-ltb i (inputs_of p) (omega arith), z)

  module _ (e : (verdict text).number ≡ 0) where
    reading-passes : (text_refusal text).number ≡ 0
    unfolding verdict
    reading-passes = (both_zero (text_refusal text).number (program_refusal text p vs) (text_refusal text) refl e).0

    -- "duplicate input names": none
    inputs-pass : (inputs_fault text p.header (inputs_of p)).refusal ≡ 0
    unfolding verdict program_refusal by_name values_in
    inputs-pass =
        let q = (both_zero (text_refusal text).number (program_refusal text p vs) (text_refusal text) refl e).1 in
        let f = inputs_fault text p.header vs.inputs in
        (both_zero f.refusal (ops_from text p vs p.count 0) (by_name f) refl q).0

    one_name : (k : ℕ) → k < ops_of p → count_of (op_at text (get_or p.ops k 0)) result_name ≡ 1
    unfolding results_are
    one_name k l =
        let op = op_at text (get_or p.ops k 0) in
        let t = typed-parts text op (row_named_in text op) vs.list (vs.inputs + k) (accepted-stands text e k l).typed in
        eqb-true (count_of op result_name) 1 (both_true (eqb (count_of op result_name) 1) (eqb (count_of op result_type) 1) t.results).0

    -- the result of op k has none of the names before it
    result-apart : (k : ℕ) → k < ops_of p → (i : ℕ) → i < inputs_of p + k → same_at text (name_of i) (name_of (inputs_of p + k)) ≡ false
    unfolding values_in names_op
    result-apart k l i h =
        let at = get_or p.ops k 0 in
        let n = vs.inputs + k in
        let c = accepted-count text e in
        let few = few_bytes text reading-passes in
        let o = (read-program text reading-passes).each k (omega arith) in
        let r = one_name k l in
        let g = sym (ap (λ (f : _). f.refusal) (names_same text few n at)) ∙ accepted-names text e k (omega arith) in
        let f = results-fresh text OpName at (known_names vs.list n) few refl o g 0 (omega arith) (omega arith) in
        rw (result-name k l) (hidden-known text vs.list (place_of (op_at text at) result_name 0) n i h f)

    -- no two values have one name
    pub names_apart : (i j : ℕ) → i < j → j < (values_in text (program_of text)).count →
        same_at text (get_or (values_in text (program_of text)).list i no_value).name (get_or (values_in text (program_of text)).list j no_value).name ≡ false
    unfolding values_in
    names_apart i j h l = go (dec_lt j (inputs_of p))
      where
        go : Dec (j < inputs_of p) → same_at text (name_of i) (name_of j) ≡ false
        go (yes g) = rw (input-name i (omega arith), input-name j g) (inputs_apart text (inputs_of p) i j inputs-pass h g)
        go (no g) =
            let z : inputs_of p + (j - inputs_of p) ≡ j = omega arith in
            subst (λ (m : ℕ). same_at text (name_of i) (name_of m) ≡ false) z (result-apart (j - inputs_of p) (omega arith) i (omega arith))

    -- a name that is value i's stands for value i
    pub name-of-one : (n i a : ℕ) → i < n → i < (values_in text (program_of text)).count →
        same_at text (get_or (values_in text (program_of text)).list i no_value).name a ≡ true → value_named text (values_in text (program_of text)).list n a ≡ i
    unfolding value_named
    name-of-one n i a h l q =
        sym (passed_here has (tab n (λ i. i)) i (rw (length-tab n (λ (i : ℕ). i)) h) (rw (get_or-tab n (λ i. i) i 0 h) q) (earlier i (omega arith)))
      where
        has : ℕ → Bool
        has i = same_at text (name_of i) a

        other : (m : ℕ) → m < i → (b : Bool) → has m ≡ b → has m ≡ false
        other m g true w = not-both (same_at text (name_of m) (name_of i)) (names_apart m i g l) (same-join text (name_of m) (name_of i) a w q)
        other m g false w = w

        earlier : (m : ℕ) → m ≤ i → Passed has (tab n (λ i. i)) m
        earlier zero g = passed_none has (tab n (λ i. i))
        earlier (suc m) g =
            rw (← add-one m)
            (passed-next has (tab n (λ i. i)) m (rw (length-tab n (λ (i : ℕ). i)) (omega arith)) (rw (get_or-tab n (λ i. i) m 0 (omega arith)) (other m (omega arith) (has m) refl)) (earlier m (omega arith)))
