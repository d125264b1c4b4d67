-- The rows of the op table by the attributes of each op: those that must stand first, then those that may be absent.
-- Assumes nothing.
use mathlib.Core.Path.{refl}
use mathlib.Core.List.{List, [], ◌∷◌, ◌++◌}
use mathlib.Core.Bool.{Bool, true, ◌&&◌}
use Prim.Native.Nat.{ℕ, zero, suc, ◌+◌, ◌<◌}
use native.Mathlib.Nat.{not-suc-le-zero, le_of_suc-le-suc}
use native.Mathlib.Omega.{arith}
use lib.Dec.{T, ltb, eqb, eqb→eq, ltb→lt}
use lib.ListN.{length, get_or}
use borrow.Author.Tests.{lt-ltb}
use Rattle.lists.specs.Lists.{first_where}
use Rattle.scan.specs.Bytes.{among}
use Rattle.grammar.proofs.TableTest.{both, both_left, both_right, implies, implied, up_to, up-to, true-T}
use Rattle.optable.specs.Table.{OpRow, ops, row_of, rows_from, row_at, no_row, no_attribute, attributes, attribute_names}
use Rattle.optable.specs.Names.{same, name_place}
use Rattle.optable.specs.Find.{slot_in}
use Rattle.optable.specs.declared.Row.{Row}
use Rattle.attributes.specs.Attributes.{needed_at}
use Rattle.source_laws.proofs.ListedLaw.{same_bool, same-equal}
use Rattle.attribute_laws.proofs.FitLaw.{RowNames}

-- what an op's row has of its attributes
abbrev allowed_test : Row → List ℕ → ℕ → Bool
allowed_test row names k = same_bool (ltb k no_attribute && ltb (slot_in row k) 3) (among names k)

abbrev needed_test : Row → List ℕ → ℕ → Bool
needed_test row required s = implies (ltb s (length required)) (eqb (needed_at row s) (get_or required s 0))

abbrev row_test : OpRow → Bool
row_test o =
    let row = row_of 0 o in
    both (up_to 16 (allowed_test row (o.required ++ o.optional))) (both (ltb (length o.required) 4) (up_to 4 (needed_test row o.required)))

abbrev each_op : List OpRow → Bool
each_op [] = true
each_op (o ∷ os) = both (row_test o) (each_op os)

row-names : (at : ℕ) (o : OpRow) → T (row_test o) → RowNames (row_of at o) o.required o.optional
unfolding slot_in needed_at attributes
row-names at o t =
    let names = o.required ++ o.optional in
    let a = up_to 16 (allowed_test (row_of 0 o) names) in
    let b = ltb (length o.required) 4 in
    let c = up_to 4 (needed_test (row_of 0 o) o.required) in
    let u = both_right a (both b c) t in
    record {
      allowed = λ k h. same-equal _ _ (up-to 16 (allowed_test (row_of 0 o) names) k (both_left a (both b c) t) (omega arith));
      needed = refl;
      each = λ s h.
          let n = ltb→lt (length o.required) 4 (both_left b c u) in
          eqb→eq _ _ (implied (ltb s (length o.required)) (eqb (needed_at (row_of 0 o) s) (get_or o.required s 0)) (up-to 4 (needed_test (row_of 0 o) o.required) s (both_right b c u) (omega arith))
          (true-T _ (lt-ltb s (length o.required) h)));
    }

rows_named : (at : ℕ) (os : List OpRow) (i : ℕ) (d : OpRow) → T (each_op os) → i < length os → RowNames (get_or (rows_from at os) i no_row) (get_or os i d).required (get_or os i d).optional
rows_named at [] i d t h = absurd (not-suc-le-zero h)
rows_named at (o ∷ os) zero d t h = row-names at o (both_left (row_test o) (each_op os) t)
rows_named at (o ∷ os) (suc i) d t h = rows_named (at + length o.name) os i d (both_right (row_test o) (each_op os) t) (le_of_suc-le-suc h)

tested : T (each_op ops)
unfolding ops slot_in needed_at attributes attribute_names name_place same first_where same_bool
tested = tt

-- row i of the op table and the attributes of op i
pub row_named : (i : ℕ) (d : OpRow) → i < length ops → RowNames (row_at i) (get_or ops i d).required (get_or ops i d).optional
unfolding row_at
row_named i d h = rows_named 0 ops i d tested h
