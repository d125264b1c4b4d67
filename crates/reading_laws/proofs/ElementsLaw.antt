-- Size 3 of a text without refusals 1 to 4: where each op has one result type, the inputs and results have at most 8,192 elements together.
-- Assumes nothing.
use mathlib.Core.Path.{◌≡◌, refl, sym, ap, ◌∙◌}
use mathlib.Core.List.{List, [], ◌∷◌, ◌++◌, map, map-append}
use mathlib.Core.Bool.{Bool, true}
use Prim.Native.Nat.{ℕ, zero, suc, ◌+◌, ◌-◌, ◌<◌, ◌≤◌, min, suc-le-suc}
use native.Mathlib.Nat.{zero-lt-suc, add-zero, add-suc}
use native.Mathlib.Omega.{arith}
use lib.Dec.{T, eqb, eqb→eq, ltb}
use lib.ListN.{length, get_or}
use borrow.Author.Tests.{lt-ltb, le-ltb}
use Rattle.lists.specs.Lists.{pick, All, concat}
use Rattle.text.specs.declared.Token.{Token}
use Rattle.shape.specs.Index.{size}
use Rattle.shape.specs.Dims.{dims_of}
use Rattle.grammar.specs.Symbols.{leaf_count, OpName, Op, among_symbols}
use Rattle.grammar.specs.Grammar.{Production}
use Rattle.grammar.specs.Leaves.{Yields, nothing, itself, right}
use Rattle.grammar.proofs.TableTest.{both, both_left, both_right, both-make, up-to}
use Rattle.grammar.proofs.Within.{all_in, all_pass, member-passes, yields_within}
use Rattle.syntax.specs.Readings.{Reading, reading, readings_of, readings}
use Rattle.syntax.specs.Roles.{roles_of}
use Rattle.syntax.specs.OpsAlone.{Naming, unnamed, results, OpParts, OpAlone, Outline}
use Rattle.dimrules.specs.Count.{sum_below}
use Rattle.judge.specs.declared.tally.Tally.{Tally}
use Rattle.judge.specs.Tally.{at_start}
use Rattle.judge.specs.Judge.{text_refusal}
use Rattle.judge.proofs.Theorems.{Each, accepted-each}
use Rattle.program.specs.declared.Parts.{Parts}
use Rattle.program.specs.declared.Program.{Program}
use Rattle.program.specs.Parts.{part_of, no_parts, depth_after, parts_from, parts_of, parts_at, op_at}
use Rattle.program.specs.Program.{program_of}
use Rattle.program.proofs.PlaceLaw.{head_set, head-closed}
use Rattle.places.specs.Places.{input_name, input_type, result_type, count_of, place_of, type_of_part}
use Rattle.values.specs.declared.Values.{Values}
use Rattle.values.specs.Values.{input_value, result_value, inputs_of, ops_of, value_at, values_in}
use Rattle.values.proofs.ValuesLaw.{value-stands}
use Rattle.offsets.specs.Offsets.{size_at, offset_at, needed_of}
use Rattle.reading_laws.proofs.DepthLaw.{depth_through, yields-depth, depth-append}
use Rattle.reading_laws.proofs.TallyLaw.{tally_after, tally-append, each_append, tally-depth, elements-grow, Few}
use Rattle.reading_laws.proofs.OpsLaw.{few_bytes, outlined, all-few, few-ops, at_places, op-count, op-place}
use Rattle.reading_laws.proofs.CountLaw.{none-counted, wide-none, flat, flat-count, of_part, yields-even}
use Rattle.reading_laws.proofs.HeldLaw.{sum_same, elements_in, held, counted_in, held-counted}

-- ---- sums

sum-front : (n : ℕ) (f : ℕ → ℕ) → sum_below (suc n) f ≡ f 0 + sum_below n (λ j. f (suc j))
sum-front zero f = omega arith
sum-front (suc n) f = let a = sum-front n f in omega arith

sum-split : (n m : ℕ) (f : ℕ → ℕ) → sum_below (n + m) f ≡ sum_below n f + sum_below m (λ j. f (n + j))
sum-split n zero f = let a = ap (λ (k : ℕ). sum_below k f) (add-zero n) in omega arith
sum-split n (suc m) f =
    let a = ap (λ (k : ℕ). sum_below k f) (add-suc n m) in
    let b = sum-split n m f in
    omega arith

-- ---- tests of roles

all_pass_lem : (f : ℕ → Bool) {ss ls : List ℕ} → ((l : ℕ) → l < leaf_count → T (f l)) → Yields ss ls → T (all_pass f ls)
all_pass_lem f h nothing = tt
all_pass_lem f h (itself {leaf} {ls = ls} l y) = both-make (f leaf) (all_pass f ls) (h leaf l) (all_pass_lem f h y)
all_pass_lem f h (right m y) = all_pass_lem f h y

pass-in : (f : ℕ → Bool) (set ls : List ℕ) → T (all_pass f set) → T (all_in set ls) → T (all_pass f ls)
pass-in f set [] t u = tt
pass-in f set (l ∷ ls) t u =
    both-make (f l) (all_pass f ls) (member-passes f set l t (both_left (among_symbols set l) (all_in set ls) u)) (pass-in f set ls t (both_right (among_symbols set l) (all_in set ls) u))

module _ (text : List ℕ) where
  -- ---- one op

  -- each type of a result of an op is counted
  result-counted : (l : ℕ) → l < leaf_count → T (counted_in text result_type l)
  unfolding part_of
  result-counted l h = up-to leaf_count (λ l. counted_in text result_type l) l tt h

  abbrev op_elements : ℕ → ℕ
  op_elements at = elements_in text (place_of (op_at text at) result_type 0)

  none-held : (k : ℕ) → held text no_parts k ≡ 0
  none-held k = ap (λ (n : ℕ). sum_below (min n 8) (λ i. elements_in text (place_of no_parts k i))) (none-counted k)

  module _ (role at : ℕ) (o : OpAlone text role at) where
    op-depth : depth_through 0 (roles_of (readings_of Op text at)) ≡ 0
    unfolding depth_after
    op-depth = yields-depth o.leaves.leaves 0

    op-counted : T (all_pass (counted_in text result_type) (roles_of (readings_of Op text at)))
    op-counted = all_pass_lem (counted_in text result_type) result-counted o.leaves.leaves

    op-parts : length text ≤ 65536 → op_at text at ≡ parts_from 0 no_parts 0 (readings_of Op text at)
    unfolding op_at parts_at parts_of
    op-parts h = rw (le-ltb 65536 (length text) h)

    op-elements : length text ≤ 65536 → (s : Tally) → s.depth ≡ 0 → Each text s (readings_of Op text at) → count_of (op_at text at) result_type ≡ 1 →
        s.elements + op_elements at ≤ (tally_after text s (readings_of Op text at)).elements
    op-elements h s d e c =
        let xs = readings_of Op text at in
        let g = held-counted text result_type xs no_parts s wide-none (omega arith) e op-counted in
        let x : held text (parts_from 0 no_parts s.depth xs) result_type ≡ held text (op_at text at) result_type =
        ap (λ (q : Parts). held text q result_type) (ap (λ (n : ℕ). parts_from 0 no_parts n xs) d ∙ sym (op-parts h)) in
        let y : held text (op_at text at) result_type ≡ 0 + op_elements at = ap (λ (n : ℕ). sum_below (min n 8) (λ i. elements_in text (place_of (op_at text at) result_type i))) c in
        omega (arith, g, x, y, none-held result_type)

  ops-elements : length text ≤ 65536 → (ops : List ℕ) (s : Tally) → All (OpAlone text OpName) ops → s.depth ≡ 0 → Each text s (concat (map (readings_of Op text) ops)) →
      ((k : ℕ) → k < length ops → count_of (op_at text (get_or ops k 0)) result_type ≡ 1) →
      s.elements + sum_below (length ops) (λ k. op_elements (get_or ops k 0)) ≤ (tally_after text s (concat (map (readings_of Op text) ops))).elements
  unfolding concat
  ops-elements h [] s a d e c = omega arith
  ops-elements h (at ∷ ops) s a d e c =
      let xs = readings_of Op text at in
      let ys = concat (map (readings_of Op text) ops) in
      let t = tally_after text s xs in
      let b = each_append text xs ys s e in
      let z : t.depth ≡ 0 = tally-depth text xs s ∙ (ap (λ (n : ℕ). depth_through n (roles_of xs)) d ∙ op-depth OpName at a.0) in
      let f = op-elements OpName at a.0 h s d b.0 (c 0 (zero-lt-suc (length ops))) in
      let g = ops-elements h ops t a.1 z b.1 (λ k l. c (suc k) (suc-le-suc l)) in
      rw (tally-append text xs ys s) (omega (arith, f, g, sum-front (length ops) (λ k. op_elements (get_or (at ∷ ops) k 0))))

  -- ---- the header

  module _ (o : Outline text) where
    header-in : T (all_in head_set (roles_of o.header))
    header-in = yields_within head_set head-closed o.head tt

    header-flat : T (all_pass flat (roles_of o.header))
    unfolding depth_after
    header-flat = pass-in flat head_set (roles_of o.header) tt header-in

    header-counted : T (all_pass (counted_in text input_type) (roles_of o.header))
    unfolding part_of
    header-counted = pass-in (counted_in text input_type) head_set (roles_of o.header) tt header-in

    abbrev header : Parts
    header = parts_from 0 no_parts 0 o.header

    -- as many names as types
    header-even : count_of header input_name ≡ count_of header input_type
    unfolding part_of no_parts count_of
    header-even =
        let a = flat-count o.header no_parts input_name wide-none (omega arith) header-flat in
        let b = flat-count o.header no_parts input_type wide-none (omega arith) header-flat in
        let c : of_part input_name (roles_of o.header) + 0 ≡ of_part input_type (roles_of o.header) + 0 = yields-even o.head in
        let d : of_part input_name (roles_of o.header) ≡ of_part input_type (roles_of o.header) = omega arith in
        a ∙ (ap (λ (n : ℕ). min (0 + n) 9) d ∙ sym b)

    header-depth : (tally_after text at_start o.header).depth ≡ 0
    unfolding depth_after
    header-depth = tally-depth text o.header at_start ∙ yields-depth o.head 0

    header-elements : Each text at_start o.header → held text header input_type ≤ (tally_after text at_start o.header).elements
    header-elements e =
        let g = held-counted text input_type o.header no_parts at_start wide-none (omega arith) e header-counted in
        omega (arith, g, none-held input_type)

  -- ---- all values

  abbrev p : Program
  p = program_of text

  abbrev vs : Values
  vs = values_in text (program_of text)

  before-all : (i : ℕ) → i < inputs_of p + ops_of p → i < vs.count
  unfolding values_in
  before-all i h = h

  input-size : (i : ℕ) → i < inputs_of p → size_at vs i ≡ elements_in text (place_of p.header input_type i)
  unfolding size_at value_at input_value type_of_part
  input-size i h = rw (value-stands text p i (before-all i (omega arith)), lt-ltb i (inputs_of p) h)

  result-size : (k : ℕ) → k < ops_of p → size_at vs (inputs_of p + k) ≡ op_elements (get_or p.ops k 0)
  unfolding size_at value_at result_value type_of_part
  result-size k h =
      let z : inputs_of p + k - inputs_of p ≡ k = omega arith in
      rw (value-stands text p (inputs_of p + k) (before-all (inputs_of p + k) (omega arith)), le-ltb (inputs_of p + k) (inputs_of p) (omega arith), z)

  needed-sum : needed_of vs ≡ sum_below (inputs_of p + ops_of p) (size_at vs)
  unfolding needed_of offset_at values_in
  needed-sum = refl

  module _ (e : (text_refusal text).number ≡ 0) (one : (k : ℕ) → k < ops_of p → count_of (op_at text (get_or p.ops k 0)) result_type ≡ 1) (o : Outline text) where
    inputs-sum : sum_below (inputs_of p) (size_at vs) ≡ held text (header o) input_type
    unfolding inputs_of
    inputs-sum =
        let h : p.header ≡ header o = (at_places text e o).header in
        sum_same (inputs_of p) (size_at vs) (λ i. elements_in text (place_of p.header input_type i)) input-size ∙
        (ap (λ (q : Parts). sum_below (min (count_of q input_name) 8) (λ i. elements_in text (place_of q input_type i))) h ∙
        ap (λ (n : ℕ). sum_below (min n 8) (λ i. elements_in text (place_of (header o) input_type i))) (header-even o))

    ops-are : ops_of p ≡ length o.ops
    unfolding ops_of
    ops-are = omega (arith, op-count text e o, few-ops text e o)

    one_type : (k : ℕ) → k < length o.ops → count_of (op_at text (get_or o.ops k 0)) result_type ≡ 1
    one_type k h = rw (op-place text e o k h) at (one k (rw ops-are h))

    results-sum : sum_below (ops_of p) (λ k. size_at vs (inputs_of p + k)) ≡ sum_below (length o.ops) (λ k. op_elements (get_or o.ops k 0))
    results-sum =
        sum_same (ops_of p) (λ k. size_at vs (inputs_of p + k)) (λ k. op_elements (get_or o.ops k 0))
        (λ k h. result-size k h ∙ ap op_elements (op-place text e o k (rw ops-are at h))) ∙
        ap (λ (n : ℕ). sum_below n (λ k. op_elements (get_or o.ops k 0))) ops-are

    by-outline : needed_of vs ≤ 8192
    by-outline =
        let ys = concat (map (readings_of Op text) o.ops) in
        let zs = readings_of Op text o.last ++ o.closing in
        let t = tally_after text at_start o.header in
        let u = tally_after text t ys in
        let q : tally_after text at_start (readings text) ≡ tally_after text u zs =
        ap (λ (l : List Reading). tally_after text at_start l) o.whole ∙ (tally-append text o.header (ys ++ zs) at_start ∙ tally-append text ys zs t) in
        let f : (tally_after text u zs).elements ≤ 8192 = rw q at (all-few text e).elements in
        let a : Each text at_start (o.header ++ (ys ++ zs)) = rw o.whole at (accepted-each text e) in
        let b = each_append text o.header (ys ++ zs) at_start a in
        let c = each_append text ys zs t b.1 in
        let g = ops-elements (few_bytes text e) o.ops t o.each (header-depth o) c.0 one_type in
        let h = header-elements o b.0 in
        omega (arith, f, g, h, elements-grow text zs u, needed-sum, sum-split (inputs_of p) (ops_of p) (size_at vs), inputs-sum, results-sum)

  -- "Inputs and op results together at most 8,192 elements", where each op has one result type
  pub few-elements : (text_refusal text).number ≡ 0 → ((k : ℕ) → k < ops_of p → count_of (op_at text (get_or p.ops k 0)) result_type ≡ 1) → needed_of vs ≤ 8192
  few-elements e one = by-outline e one (outlined text e)
