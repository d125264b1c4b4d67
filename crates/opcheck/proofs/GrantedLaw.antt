-- From a verdict without a broken constraint to what the op grants; and from one by the tables to what they take.
-- Assumes nothing.
use mathlib.Core.Path.{◌≡◌, sym, ◌∙◌}
use mathlib.Core.Bool.{true, ◌&&◌}
use Prim.Native.Nat.{ℕ, ◌≤◌, ◌<◌}
use lib.Dec.{leb}
use lib.ListN.{length}
use borrow.Author.Tests.{leb-true}
use Rattle.lists.proofs.TestLaw.{both_true}
use Rattle.dimrules.specs.Count.{everywhere}
use Rattle.dimrules.specs.Dims.{num}
use Rattle.dimrules.specs.Types.{type_at}
use Rattle.dimrules.proofs.CountLaw.{holds_at}
use Rattle.rule_laws.proofs.TypesLaw.{same-same-types, same-abs, same-constant, same-convert, same-reshape, same-compare, same_select, same-clamp}
use Rattle.rule_laws.proofs.SliceLaw.{same-slice}
use Rattle.rule_laws.proofs.PadLaw.{same-pad}
use Rattle.rule_laws.proofs.TransposeLaw.{same-transpose}
use Rattle.rule_laws.proofs.ReduceLaw.{same-reduce}
use Rattle.rule_laws.proofs.BroadcastLaw.{same-broadcast}
use Rattle.rule_laws.proofs.ReverseLaw.{held-reverse}
use Rattle.rule_laws.proofs.DynamicLaw.{same-dynamic-slice}
use Rattle.rule_laws.proofs.JoinLaw.{same-concatenate, same-iota}
use Rattle.optable.specs.Takes.{result_taken}
use Rattle.optable.specs.declared.Row.{Row}
use Rattle.optable.specs.declared.Rule.{Rule}
use Rattle.optable.specs.declared.Rule.TheVariants.{SameTypes, Abs, Broadcast, Clamp, Compare, Concatenate, Constant, Convert, DynamicSlice, Iota, Pad, Reduce, Reshape, Reverse, Select, Slice, Transpose}
use Rattle.rules.proofs.FactLaw.{same-types-law, abs-law, constant-law, convert-law, iota-law, reshape-law, compare-law, select_law, clamp-law, reverse-law, transpose-law, broadcast-law, slice-law, pad-law, concatenate-law, dynamic-slice-law, reduce-law}
use Rattle.opcheck.specs.declared.Operation.{Operation}
use Rattle.opcheck.specs.Judged.{taken_at, taken_by_tables, checks_by, broken_by}
use Rattle.opcheck.specs.Accepted.{Granted}

-- the attribute list of reverse, broadcast_in_dim, transpose and reduce is as long as its count
pub granted : (rule : Rule) (o : Operation) → o.a.count ≤ length o.a.list → broken_by rule o ≡ 0 → Granted rule o
unfolding broken_by checks_by
granted SameTypes o few e = same-types-law _ _ _ (sym (same-same-types o.types o.arity o.result) ∙ e)
granted Abs o few e = abs-law _ _ (sym (same-abs (type_at o.types 0) o.result) ∙ e)
granted Broadcast o few e = broadcast-law _ _ _ (sym (same-broadcast (type_at o.types 0) o.a o.result few) ∙ e)
granted Clamp o few e = clamp-law _ _ _ _ (sym (same-clamp (type_at o.types 0) (type_at o.types 1) (type_at o.types 2) o.result) ∙ e)
granted Compare o few e = compare-law _ _ _ _ (sym (same-compare (type_at o.types 0) (type_at o.types 1) o.choice o.result) ∙ e)
granted Concatenate o few e = concatenate-law _ _ _ _ (sym (same-concatenate o.types o.arity (num o.a 0) o.result) ∙ e)
granted Constant o few e = constant-law _ _ (sym (same-constant o.value o.result) ∙ e)
granted Convert o few e = convert-law _ _ (sym (same-convert (type_at o.types 0) o.result) ∙ e)
granted DynamicSlice o few e = dynamic-slice-law _ _ _ _ (sym (same-dynamic-slice o.types o.arity o.a o.result) ∙ e)
granted Iota o few e = iota-law _ _ (sym (same-iota (num o.a 0) o.result) ∙ e)
granted Pad o few e = pad-law _ _ _ _ _ _ (sym (same-pad (type_at o.types 0) (type_at o.types 1) o.a o.b o.c o.result) ∙ e)
granted Reduce o few e = reduce-law _ _ _ _ _ _ (sym (same-reduce (type_at o.types 0) (type_at o.types 1) o.left o.right o.a o.result few) ∙ e)
granted Reshape o few e = reshape-law _ _ (sym (same-reshape (type_at o.types 0) o.result) ∙ e)
granted Reverse o few e = reverse-law _ _ _ (held-reverse (type_at o.types 0) o.a o.result few e)
granted Select o few e = select_law _ _ _ _ (sym (same_select (type_at o.types 0) (type_at o.types 1) (type_at o.types 2) o.result) ∙ e)
granted Slice o few e = slice-law _ _ _ _ _ (sym (same-slice (type_at o.types 0) o.a o.b o.c o.result) ∙ e)
granted Transpose o few e = transpose-law _ _ _ (sym (same-transpose (type_at o.types 0) o.a o.result few) ∙ e)

pub record Taken (row : Row) (o : Operation) : Type 0 where
  pub least : row.least ≤ o.arity
  pub most : o.arity ≤ row.most
  pub operands : (j : ℕ) → j < o.arity → taken_at row o j ≡ true
  pub result : result_taken row o.result.element ≡ true

pub taken : (row : Row) (o : Operation) → taken_by_tables row o ≡ true → Taken row o
unfolding taken_by_tables
taken row o e =
    let h = both_true (leb row.least o.arity && leb o.arity row.most && everywhere o.arity (taken_at row o)) (result_taken row o.result.element) e in
    let g = both_true (leb row.least o.arity && leb o.arity row.most) (everywhere o.arity (taken_at row o)) h.0 in
    let f = both_true (leb row.least o.arity) (leb o.arity row.most) g.0 in
    record {
      least = leb-true row.least o.arity f.0;
      most = leb-true o.arity row.most f.1;
      operands = holds_at o.arity (taken_at row o) g.1;
      result = h.1;
    }
