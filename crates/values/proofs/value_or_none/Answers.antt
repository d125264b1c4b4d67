use Prim.Native.Nat.{◌+◌}
use Rattle.values.specs.Values.{inputs_of, ops_of}
use native.Mathlib.Omega.{arith}
use borrow.Author.Tests.{lt-ltb, le-ltb}
use Rattle.lists.proofs.SearchLaw.{pick_first}
use Rattle.values.proofs.ValuesLaw.{inputs-small, ops-small}
use Rattle.values.proofs.value_or_none.Goals as goal

pub overflow_add-inputs_of : goal.overflow_add-inputs_of
overflow_add-inputs_of c =
    let p = c.args.p in
    omega (arith, c.ops_of.ensures, c.inputs_of.ensures, inputs-small p, ops-small p)

pub returns-then-i-inputs_of : goal.returns-then-i-inputs_of
returns-then-i-inputs_of c =
    let p = c.args.p in
    pick_first _ _ _ _ (lt-ltb _ (inputs_of p + ops_of p) (omega (arith, c.ops_of.ensures, c.inputs_of.ensures))) c.value_at.ensures

pub returns : goal.returns
returns c = simp (← c.no_value.ensures, le-ltb _ _ c.if-i-inputs_of.false, ← c.ops_of.ensures, ← c.inputs_of.ensures)
