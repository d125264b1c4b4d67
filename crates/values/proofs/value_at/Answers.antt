use borrow.Author.Tests.{lt-ltb, le-ltb}
use Rattle.values.specs.Values.{value_at}
use native.Mathlib.Omega.{arith}
use Rattle.values.proofs.ValuesLaw.{inputs-small, ops-small}
use Rattle.values.proofs.value_at.Goals as goal

pub input_value-requires : goal.input_value-requires
input_value-requires c = omega (arith, c.inputs_of-n.ensures, inputs-small c.args.p)

pub returns-then-i-n : goal.returns-then-i-n
unfolding value_at
returns-then-i-n c = simp (← c.input_value.ensures, lt-ltb _ _ c.if-i-n.true, ← c.inputs_of-n.ensures)

pub returns : goal.returns
unfolding value_at
returns c = simp (← c.result_value.ensures, ← c.op_at.ensures, le-ltb _ _ c.if-i-n.false, ← c.inputs_of-n.ensures)

pub offset_bounds-p-i : goal.offset_bounds-p-i
offset_bounds-p-i c = omega (arith, c.inputs_of-n.ensures, ops-small c.args.p)

pub bounds-p-i : goal.bounds-p-i
bounds-p-i c = omega (arith, c.inputs_of-n.ensures, ops-small c.args.p)
