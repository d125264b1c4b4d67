-- What stands for the type of an operand past the arity, for the arguments' types of an op without a body, for the dense type, the choice and the numbers of
-- attributes that a row does not have decides nothing: refusals 7 and 8 are the same for any other types and numbers there.
-- Assumes nothing.
use mathlib.Core.Path.{◌≡◌, refl}
use mathlib.Core.List.{List}
use mathlib.Core.Bool.{Bool, true, ◌&&◌}
use Prim.Native.Nat.{ℕ, ◌+◌, ◌-◌, ◌<◌, ◌≤◌}
use native.Mathlib.Omega.{arith}
use lib.Dec.{ltb, leb}
use lib.ListN.{length}
use borrow.Author.Tests.{ltb-true, leb-true}
use Rattle.lists.specs.Lists.{all_below, first_where}
use Rattle.lists.proofs.TestLaw.{both_true}
use Rattle.lists.proofs.TabLaw.{tab-cong}
use Rattle.lists.proofs.SearchLaw.{all-at}
use Rattle.optable.specs.Names.{same, name_place}
use Rattle.optable.specs.Table.{attributes, attribute_names, value, compare_type, ops, row_at}
use Rattle.optable.specs.Find.{slot_in}
use Rattle.optable.specs.declared.Row.{Row}
use Rattle.optable.specs.declared.Rule.{Rule}
use Rattle.optable.specs.declared.Rule.TheVariants.{SameTypes, Abs, Broadcast, Clamp, Compare, Concatenate, Constant, Convert, DynamicSlice, Iota, Pad, Reduce, Reshape, Reverse, Select, Slice, Transpose}
use Rattle.dimrules.specs.Count.{everywhere}
use Rattle.dimrules.specs.Types.{type_at}
use Rattle.op_checks.specs.OpChecks.{types_from}
use Rattle.opcheck.specs.Judged.{taken_at, taken_by_tables, checks_by, broken_by}
use Rattle.opcheck.specs.declared.Operation.{Operation}
use Rattle.optable.specs.Takes.{result_taken}
use Rattle.program.specs.declared.Parts.{Parts}
use Rattle.places.specs.Places.{op_name, place_of}
use Rattle.values.specs.declared.Value.{Value}
use Rattle.bodies.specs.Bodies.{row_named}
use Rattle.typing.specs.Typing.{row_named_in, operation_of, in_table, typed_op}
use Rattle.nodes.proofs.TypedLaw.{typed-parts}
use Rattle.default_laws.specs.Unread.{AsFar}
use Rattle.default_laws.proofs.EverywhereLaw.{everywhere-same}

-- ---- what a list of constraints names

-- so many first operands
abbrev operands_named : Rule → ℕ
operands_named SameTypes = 0
operands_named Abs = 1
operands_named Broadcast = 1
operands_named Clamp = 3
operands_named Compare = 2
operands_named Concatenate = 0
operands_named Constant = 0
operands_named Convert = 1
operands_named DynamicSlice = 1
operands_named Iota = 0
operands_named Pad = 2
operands_named Reduce = 2
operands_named Reshape = 1
operands_named Reverse = 1
operands_named Select = 3
operands_named Slice = 1
operands_named Transpose = 1

-- so many of the numbers a, b, c
abbrev numbers_named : Rule → ℕ
numbers_named SameTypes = 0
numbers_named Abs = 0
numbers_named Broadcast = 1
numbers_named Clamp = 0
numbers_named Compare = 0
numbers_named Concatenate = 1
numbers_named Constant = 0
numbers_named Convert = 0
numbers_named DynamicSlice = 1
numbers_named Iota = 1
numbers_named Pad = 3
numbers_named Reduce = 1
numbers_named Reshape = 0
numbers_named Reverse = 1
numbers_named Select = 0
numbers_named Slice = 3
numbers_named Transpose = 1

-- what else it names is what the row has
abbrev else_named : Rule → Row → Bool
else_named SameTypes row = true
else_named Abs row = true
else_named Broadcast row = true
else_named Clamp row = true
else_named Compare row = ltb (slot_in row compare_type) 3
else_named Concatenate row = true
else_named Constant row = ltb (slot_in row value) 3
else_named Convert row = true
else_named DynamicSlice row = true
else_named Iota row = true
else_named Pad row = true
else_named Reduce row = row.body
else_named Reshape row = true
else_named Reverse row = true
else_named Select row = true
else_named Slice row = true
else_named Transpose row = true

-- a row has what its constraints name
abbrev has_named : Row → Bool
has_named row = leb (operands_named row.rule) row.least && leb (numbers_named row.rule) row.needed && else_named row.rule row

all_have : all_below (length ops) (λ i. has_named (row_at i)) ≡ true
unfolding all_below row_at ops slot_in first_where name_place attribute_names attributes same
all_have = refl

-- ---- the constraints

module _ (row : Row) (o q : Operation) (s : AsFar row o q) where
  named : (j : ℕ) → j < o.arity → type_at o.types j ≡ type_at q.types j
  named j l = s.types j (omega arith)

  -- the types of n operands from k on
  types_same : (k n : ℕ) → k + n ≤ o.arity → types_from o.types k n ≡ types_from q.types k n
  types_same k n h = tab-cong n (λ j. type_at o.types (k + j)) (λ j. type_at q.types (k + j)) (λ j l. named (k + j) (omega arith))

  by-rule : (rule : Rule) → operands_named rule ≤ o.arity → numbers_named rule ≤ row.needed → else_named rule row ≡ true → broken_by rule o ≡ broken_by rule q
  unfolding broken_by checks_by
  by-rule SameTypes h g e = let t = types_same 0 o.arity (omega arith) in let n = s.arity in let r = s.result in rw (t, n, r)
  by-rule Abs h g e = let x = named 0 (omega arith) in let r = s.result in rw (x, r)
  by-rule Broadcast h g e = let x = named 0 (omega arith) in let a = s.a (omega arith) in let r = s.result in rw (x, a, r)
  by-rule Clamp h g e = let x = named 0 (omega arith) in let y = named 1 (omega arith) in let z = named 2 (omega arith) in let r = s.result in rw (x, y, z, r)
  by-rule Compare h g e = let x = named 0 (omega arith) in let y = named 1 (omega arith) in let c = s.choice (ltb-true _ 3 e) in let r = s.result in rw (x, y, c, r)
  by-rule Concatenate h g e = let t = types_same 0 o.arity (omega arith) in let n = s.arity in let a = s.a (omega arith) in let r = s.result in rw (t, n, a, r)
  by-rule Constant h g e = let l = ltb-true (slot_in row value) 3 e in let v = s.value (omega arith) in let r = s.result in rw (v, r)
  by-rule Convert h g e = let x = named 0 (omega arith) in let r = s.result in rw (x, r)
  by-rule DynamicSlice h g e =
      let x = named 0 (omega arith) in let t = types_same 1 (o.arity - 1) (omega arith) in let n = s.arity in let a = s.a (omega arith) in let r = s.result in rw (x, t, n, a, r)
  by-rule Iota h g e = let a = s.a (omega arith) in let r = s.result in rw (a, r)
  by-rule Pad h g e =
      let x = named 0 (omega arith) in let y = named 1 (omega arith) in let a = s.a (omega arith) in let b = s.b (omega arith) in let c = s.c (omega arith) in let r = s.result in rw (x, y, a, b, c, r)
  by-rule Reduce h g e =
      let x = named 0 (omega arith) in let y = named 1 (omega arith) in let l = s.left e in let m = s.right e in let a = s.a (omega arith) in let r = s.result in rw (x, y, l, m, a, r)
  by-rule Reshape h g e = let x = named 0 (omega arith) in let r = s.result in rw (x, r)
  by-rule Reverse h g e = let x = named 0 (omega arith) in let a = s.a (omega arith) in let r = s.result in rw (x, a, r)
  by-rule Select h g e = let x = named 0 (omega arith) in let y = named 1 (omega arith) in let z = named 2 (omega arith) in let r = s.result in rw (x, y, z, r)
  by-rule Slice h g e =
      let x = named 0 (omega arith) in let a = s.a (omega arith) in let b = s.b (omega arith) in let c = s.c (omega arith) in let r = s.result in rw (x, a, b, c, r)
  by-rule Transpose h g e = let x = named 0 (omega arith) in let a = s.a (omega arith) in let r = s.result in rw (x, a, r)

  -- what the tables of 000 take (refusal 7)
  pub taken-same : taken_by_tables row o ≡ taken_by_tables row q
  unfolding taken_by_tables taken_at
  taken-same =
      let t = everywhere-same o.arity (taken_at row o) (taken_at row q) (λ j l. let x = named j l in rw x) in
      let n = s.arity in
      let r = s.result in
      rw (t, n, r)

-- refusal 8 of an op of the table that has its least number of operands
pub missing-unread : (i : ℕ) → i < length ops → (o q : Operation) → (row_at i).least ≤ o.arity → AsFar (row_at i) o q → broken_by (row_at i).rule o ≡ broken_by (row_at i).rule q
missing-unread i l o q least s =
    let row = row_at i in
    let t = all-at (length ops) (λ i. has_named (row_at i)) i all_have l in
    let h = both_true (leb (operands_named row.rule) row.least && leb (numbers_named row.rule) row.needed) (else_named row.rule row) t in
    let g = both_true (leb (operands_named row.rule) row.least) (leb (numbers_named row.rule) row.needed) h.0 in
    let m : operands_named row.rule ≤ row.least = leb-true _ _ g.0 in
    let k : numbers_named row.rule ≤ row.needed = leb-true _ _ g.1 in
    by-rule row o q s row.rule (omega arith) k h.1

-- so of an op that is typed: what stands for a type or a number that its row has no place for is not read
pub typed-unread : (text : List ℕ) (op : Parts) (values : List Value) (n : ℕ) → typed_op text op (row_named_in text op) values n ≡ true → (q : Operation) →
    AsFar (row_named_in text op) (operation_of text op (row_named_in text op)) q → broken_by (row_named_in text op).rule (operation_of text op (row_named_in text op)) ≡ broken_by (row_named_in text op).rule q
unfolding row_named_in in_table taken_by_tables
typed-unread text op values n typed q s =
    let row = row_named_in text op in
    let o = operation_of text op row in
    let t = typed-parts text op row values n typed in
    let few = leb row.least o.arity in
    let most = leb o.arity row.most in
    let each = everywhere o.arity (taken_at row o) in
    let h = (both_true (few && most && each) (result_taken row o.result.element) t.taken).0 in
    let g = (both_true few most (both_true (few && most) each h).0).0 in
    missing-unread (row_named text (place_of op op_name 0)) (ltb-true _ _ t.table) o q (leb-true row.least o.arity g) s
