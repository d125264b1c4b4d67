-- The values that the code notes of a text that reading passes are those that the function's lists define.
-- Assumes nothing.
use mathlib.Core.Path.{◌≡◌, refl, sym, ap, ◌∙◌}
use mathlib.Core.List.{List, [], ◌∷◌, ◌++◌, map, append_assoc, append-nil}
use Prim.Native.Nat.{ℕ, zero, suc, ◌+◌, ◌-◌, ◌≤◌, ◌<◌, suc-le-suc}
use native.Mathlib.Nat.{not-suc-le-zero, le_of_suc-le-suc, zero-lt-suc, add-suc}
use native.Mathlib.Omega.{arith}
use lib.ListN.{length, get_or, take}
use lib.Seq.{take-suc}
use borrow.Author.Tests.{lt-ltb, le-ltb}
use Rattle.judge.specs.Judge.{text_refusal}
use Rattle.program.specs.declared.Program.{Program}
use Rattle.program.specs.Program.{program_of}
use Rattle.places.specs.Places.{type_of_part}
use Rattle.values.specs.declared.Value.{Value}
use Rattle.values.specs.declared.Values.{Values}
use Rattle.values.specs.Values.{no_value, input_value, result_value, inputs_of, ops_of, value_at, values_in}
use Rattle.values.proofs.ValuesLaw.{value-stands, count-few, list-long}
use Rattle.source.specs.Source.{OpText, op_from, FunctionText, function_of}
use Rattle.verifier.specs.DefinedValues.{value_with, values_with, inputs_defined, result_defined}
use Rattle.reading_laws.proofs.OpsLaw.{read-program}
use Rattle.source_laws.specs.ListedValues.{SameValues}
use Rattle.source_laws.proofs.SameLaw.{ops-count, same_parts}
use Rattle.source_laws.proofs.HeaderLaw.{same-header}

-- ---- names and types in pairs

pub with-length : (text names types : List ℕ) → length types ≡ length names → length (values_with text names types) ≡ length names
with-length text [] types e = refl
with-length text (n ∷ names) [] e = absurd (omega arith)
with-length text (n ∷ names) (t ∷ types) e = ap (λ (m : ℕ). suc m) (with-length text names types (omega arith))

pub with-get : (text names types : List ℕ) (i : ℕ) (d : Value) → length types ≡ length names → i < length names → get_or (values_with text names types) i d ≡ value_with text (get_or names i 0) (get_or types i 0)
with-get text [] types i d e h = absurd (not-suc-le-zero h)
with-get text (n ∷ names) [] i d e h = absurd (omega arith)
with-get text (n ∷ names) (t ∷ types) zero d e h = refl
with-get text (n ∷ names) (t ∷ types) (suc i) d e h = with-get text names types i d (omega arith) (le_of_suc-le-suc h)

-- ---- lists of values

take_same : (l m : List Value) → length m ≤ length l → ((i : ℕ) → i < length m → get_or l i no_value ≡ get_or m i no_value) → take (length m) l ≡ m
take_same l [] h f = refl
take_same [] (y ∷ m) h f = absurd (not-suc-le-zero h)
take_same (x ∷ l) (y ∷ m) h f =
    ap (λ (v : Value). v ∷ take (length m) l) (f zero (zero-lt-suc (length m))) ∙
    ap (λ (r : List Value). y ∷ r) (take_same l m (le_of_suc-le-suc h) (λ i g. f (suc i) (suc-le-suc g)))

map-append : (g : OpText → Value) (xs ys : List OpText) → map g (xs ++ ys) ≡ map g xs ++ map g ys
map-append g [] ys = refl
map-append g (x ∷ xs) ys = ap (λ (l : List Value). g x ∷ l) (map-append g xs ys)

-- ---- the values of a text

module _ (text : List ℕ) (e : (text_refusal text).number ≡ 0) where
  abbrev p : Program
  p = program_of text

  abbrev vs : Values
  vs = values_in text (program_of text)

  abbrev f : FunctionText
  f = function_of text

  inputs-length : length (inputs_defined text f) ≡ length f.inputs
  unfolding inputs_defined
  inputs-length = with-length text f.inputs f.input_types (same-header text e).even

  inputs_are : inputs_of p ≡ length f.inputs
  unfolding inputs_of
  inputs_are = let i = (same-header text e).inputs in let c = i.count in let m = i.few in omega arith

  ops-are : ops_of p + 1 ≡ length f.ops
  unfolding ops_of
  ops-are = let r = read-program text e in let a = r.least in let b = r.most in let c = ops-count text e in omega arith

  values-inputs : vs.inputs ≡ inputs_of p
  unfolding values_in
  values-inputs = refl

  values-count : vs.count ≡ inputs_of p + ops_of p
  unfolding values_in
  values-count = refl

  input-at : (i : ℕ) → i < inputs_of p → value_at text p i ≡ value_with text (get_or f.inputs i 0) (get_or f.input_types i 0)
  unfolding value_at input_value type_of_part
  input-at i h =
      let s = same-header text e in
      let n = inputs_are in
      let m = s.inputs.few in
      let a = s.inputs.place i (omega arith) in
      let b = s.input_types.place i (omega arith) in
      rw (lt-ltb i (inputs_of p) h, a, b)

  result-at : (k : ℕ) → k < ops_of p → (d : OpText) → value_at text p (inputs_of p + k) ≡ result_defined text (get_or f.ops k d)
  unfolding value_at result_value type_of_part result_defined
  result-at k h d =
      let z : inputs_of p + k - inputs_of p ≡ k = omega arith in
      let c = ops-count text e in
      let o = ops-are in
      let s = same_parts text e k (omega arith) d in
      let a = s.results.place 0 (omega arith) in
      let b = s.result_types.place 0 (omega arith) in
      rw (le-ltb (inputs_of p + k) (inputs_of p) (omega arith), z, a, b)

  same-input : (i : ℕ) → i < vs.inputs → (d : Value) → get_or vs.list i no_value ≡ get_or (inputs_defined text f) i d
  unfolding inputs_defined
  same-input i h d =
      let a = values-inputs in
      let b = values-count in
      let n = inputs_are in
      value-stands text p i (omega arith) ∙ (input-at i (omega arith) ∙ sym (with-get text f.inputs f.input_types i d (same-header text e).even (omega arith)))

  same-result : (k : ℕ) → k + 1 < length f.ops → (d : OpText) → get_or vs.list (vs.inputs + k) no_value ≡ result_defined text (get_or f.ops k d)
  same-result k h d =
      let a = values-inputs in
      let b = values-count in
      let o = ops-are in
      let z : vs.inputs + k ≡ inputs_of p + k = omega arith in
      ap (λ (i : ℕ). get_or vs.list i no_value) z ∙ (value-stands text p (inputs_of p + k) (omega arith) ∙ result-at k (omega arith) d)

  inputs-first : take vs.inputs vs.list ≡ inputs_defined text f
  inputs-first =
      let a = values-inputs in
      let n = inputs_are in
      let m = inputs-length in
      let s = (same-header text e).inputs.few in
      let l = list-long text p in
      let z : vs.inputs ≡ length (inputs_defined text f) = omega arith in
      ap (λ (i : ℕ). take i vs.list) z ∙ take_same vs.list (inputs_defined text f) (omega arith) (λ i h. same-input i (omega arith) no_value)

  known-before : (k : ℕ) → k < length f.ops → take (vs.inputs + k) vs.list ≡ inputs_defined text f ++ map (result_defined text) (take k f.ops)
  known-before zero h =
      let z : vs.inputs + 0 ≡ vs.inputs = omega arith in
      ap (λ (i : ℕ). take i vs.list) z ∙ (inputs-first ∙ sym (append-nil (inputs_defined text f)))
  known-before (suc k) h =
      let i = known-before k (omega arith) in
      let b = values-count in
      let a = values-inputs in
      let o = ops-are in
      let c = count-few text p in
      let l = list-long text p in
      let d = op_from [] in
      let q : take (suc k) f.ops ≡ take k f.ops ++ (get_or f.ops k d ∷ []) = take-suc f.ops k d (omega arith) in
      let x : take (suc (vs.inputs + k)) vs.list ≡ take (vs.inputs + k) vs.list ++ (get_or vs.list (vs.inputs + k) no_value ∷ []) = take-suc vs.list (vs.inputs + k) no_value (omega arith) in
      ap (λ (n : ℕ). take n vs.list) (add-suc vs.inputs k) ∙
      (x ∙
      (ap (λ (m : List Value). m ++ (get_or vs.list (vs.inputs + k) no_value ∷ [])) i ∙
      (ap (λ (v : Value). (inputs_defined text f ++ map (result_defined text) (take k f.ops)) ++ (v ∷ [])) (same-result k (omega arith) d) ∙
      (append_assoc (inputs_defined text f) (map (result_defined text) (take k f.ops)) (result_defined text (get_or f.ops k d) ∷ []) ∙
      ap (λ (m : List Value). inputs_defined text f ++ m)
      (sym (ap (map (result_defined text)) q ∙ map-append (result_defined text) (take k f.ops) (get_or f.ops k d ∷ [])))))))

  -- the values of a text that reading passes
  pub same-values : SameValues text (values_in text (program_of text)) (function_of text)
  same-values =
      let a = values-inputs in
      let b = values-count in
      let n = inputs_are in
      let m = inputs-length in
      let o = ops-are in
      record { inputs = omega arith; count = omega arith; input = same-input; result = same-result; before = known-before }
