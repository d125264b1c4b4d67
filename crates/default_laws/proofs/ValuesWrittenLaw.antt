-- What stands for a value that the text does not give (`no_value`, `result_value` of an op without results, `tensor<i1>` for its type): the values before an op that
-- is judged are those that the text writes, each with its name and its type (01: "The inputs come first, then each op's result in text order").
-- Assumes nothing.
use mathlib.Core.Path.{◌≡◌, sym, ap, ◌∙◌}
use mathlib.Core.List.{List, [], ◌∷◌}
use mathlib.Core.Bool.{Bool}
use Prim.Native.Nat.{ℕ, ◌+◌, ◌-◌, ◌<◌, min}
use native.Mathlib.Omega.{arith}
use lib.Dec.{T}
use lib.ListN.{get_or}
use borrow.Author.Tests.{lt-ltb, le-ltb}
use Rattle.grammar.specs.Symbols.{among_symbols}
use Rattle.grammar.proofs.TableTest.{both_left, both_right, both-make}
use Rattle.grammar.proofs.Within.{all_in, all_pass, member-passes, yields_within}
use Rattle.syntax.specs.Roles.{roles_of}
use Rattle.syntax.specs.OpsAlone.{Outline}
use Rattle.judge.specs.Judge.{text_refusal}
use Rattle.program.specs.declared.Parts.{Parts}
use Rattle.program.specs.declared.Program.{Program}
use Rattle.program.specs.Parts.{part_of, no_parts, depth_after, parts_from, op_at}
use Rattle.program.specs.Program.{program_of}
use Rattle.program.proofs.PlaceLaw.{head_set, head-closed}
use Rattle.places.specs.Places.{input_name, input_type, result_name, result_type, count_of, place_of}
use Rattle.values.specs.declared.Values.{Values}
use Rattle.values.specs.Values.{no_value, input_value, result_value, inputs_of, value_at, values_in}
use Rattle.reading_laws.proofs.CountLaw.{wide-none, flat, flat-count, of_part, yields-even}
use Rattle.reading_laws.proofs.OpsLaw.{outlined, at_places}
use Rattle.default_laws.specs.Written.{said}
use Rattle.default_laws.proofs.WrittenLaw.{type-written, header-written, all-inputs, all-ops}
use Rattle.default_laws.proofs.OperandLaw.{value_before}
use Rattle.default_laws.proofs.EarlierLaw.{AllPass, one-result-before}

-- ---- as many names of inputs as types

pass-in : (f : ℕ → Bool) (set ls : List ℕ) → T (all_pass f set) → T (all_in set ls) → T (all_pass f ls)
pass-in f set [] t u = tt
pass-in f set (l ∷ ls) t u =
    both-make (f l) (all_pass f ls) (member-passes f set l t (both_left (among_symbols set l) (all_in set ls) u)) (pass-in f set ls t (both_right (among_symbols set l) (all_in set ls) u))

module _ (text : List ℕ) (o : Outline text) where
  header-flat : T (all_pass flat (roles_of o.header))
  unfolding depth_after
  header-flat = pass-in flat head_set (roles_of o.header) tt (yields_within head_set head-closed o.head tt)

  header-even : count_of (parts_from 0 no_parts 0 o.header) input_name ≡ count_of (parts_from 0 no_parts 0 o.header) input_type
  unfolding part_of no_parts count_of
  header-even =
      let a = flat-count o.header no_parts input_name wide-none (omega arith) header-flat in
      let b = flat-count o.header no_parts input_type wide-none (omega arith) header-flat in
      let c : of_part input_name (roles_of o.header) + 0 ≡ of_part input_type (roles_of o.header) + 0 = yields-even o.head in
      let d : of_part input_name (roles_of o.header) ≡ of_part input_type (roles_of o.header) = omega arith in
      a ∙ (ap (λ (n : ℕ). min (0 + n) 9) d ∙ sym b)

module _ (text : List ℕ) (read : (text_refusal text).number ≡ 0) where
  abbrev p : Program
  p = program_of text

  abbrev vs : Values
  vs = values_in text (program_of text)

  abbrev op : ℕ → Parts
  op k = op_at text (get_or p.ops k 0)

  pub inputs-even : count_of p.header input_name ≡ count_of p.header input_type
  inputs-even =
      let o = outlined text read in
      let h : p.header ≡ parts_from 0 no_parts 0 o.header = (at_places text read o).header in
      ap (λ (q : Parts). count_of q input_name) h ∙ (header-even text o ∙ sym (ap (λ (q : Parts). count_of q input_type) h))

  -- ---- the values

  -- value i is input i
  pub input-written : (i : ℕ) → i < count_of p.header input_name →
      get_or vs.list i no_value ≡ record { name = place_of p.header input_name i; ty = said text (place_of p.header input_type i) }
  unfolding values_in value_at input_value
  input-written i l =
      let n = all-inputs text read in
      let m = inputs-even in
      let c = all-ops text read in
      let s = value_before text read 0 (omega arith) i (omega arith) in
      let w = header-written text read input_type i tt (omega arith) in
      s ∙ rw (lt-ltb i (inputs_of p) (omega arith), w)

  -- value inputs + i is the result of op i, for each op before one that is judged
  pub result-written : (k : ℕ) → k < p.count → AllPass text p vs k → (i : ℕ) → i < k →
      get_or vs.list (vs.inputs + i) no_value ≡ record { name = place_of (op i) result_name 0; ty = said text (place_of (op i) result_type 0) }
  unfolding values_in value_at result_value
  result-written k h before i l =
      let one = (one-result-before text p vs k h before i l).1 in
      let s = value_before text read k h (inputs_of p + i) (omega arith) in
      let z : inputs_of p + i - inputs_of p ≡ i = omega arith in
      let w = type-written text read i (omega arith) result_type 0 tt (omega arith) in
      s ∙ rw (le-ltb (inputs_of p + i) (inputs_of p) (omega arith), z, w)
