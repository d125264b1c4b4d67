use mathlib.Core.Path.{refl}
use Rattle.nodes.specs.Nodes.{op_kind}
use Rattle.kinds.proofs.kind_of.Goals as goal

pub returns-in-Constant : goal.returns-in-Constant
unfolding op_kind
returns-in-Constant c = rw (← c.row_of-class.ensures, c.in-Constant.is) refl

pub returns-in-Iota : goal.returns-in-Iota
unfolding op_kind
returns-in-Iota c = rw (← c.row_of-class.ensures, c.in-Iota.is) refl

pub returns-in-Elementwise : goal.returns-in-Elementwise
unfolding op_kind
returns-in-Elementwise c = rw (← c.row_of-class.ensures, c.in-Elementwise.is) refl

pub returns-in-Pairwise : goal.returns-in-Pairwise
unfolding op_kind
returns-in-Pairwise c = rw (← c.row_of-class.ensures, c.in-Pairwise.is) refl

pub returns-in-Quotient : goal.returns-in-Quotient
unfolding op_kind
returns-in-Quotient c = rw (← c.row_of-class.ensures, c.in-Quotient.is) refl

pub returns-in-Compare : goal.returns-in-Compare
unfolding op_kind
returns-in-Compare c = rw (← c.row_of-class.ensures, c.in-Compare.is) c.compare_of.ensures

pub returns-in-Convert : goal.returns-in-Convert
unfolding op_kind
returns-in-Convert c = rw (← c.row_of-class.ensures, c.in-Convert.is) refl

pub returns-in-Select : goal.returns-in-Select
unfolding op_kind
returns-in-Select c = rw (← c.row_of-class.ensures, c.in-Select.is) refl

pub returns-in-Clamp : goal.returns-in-Clamp
unfolding op_kind
returns-in-Clamp c = rw (← c.row_of-class.ensures, c.in-Clamp.is) refl

pub returns-in-Moved : goal.returns-in-Moved
unfolding op_kind
returns-in-Moved c = rw (← c.row_of-class.ensures, c.in-Moved.is) refl

pub returns-in-Pad : goal.returns-in-Pad
unfolding op_kind
returns-in-Pad c = rw (← c.row_of-class.ensures, c.in-Pad.is) refl

pub returns-in-Concatenate : goal.returns-in-Concatenate
unfolding op_kind
returns-in-Concatenate c = rw (← c.row_of-class.ensures, c.in-Concatenate.is) refl

pub returns-in-DynamicSlice : goal.returns-in-DynamicSlice
unfolding op_kind
returns-in-DynamicSlice c = rw (← c.row_of-class.ensures, c.in-DynamicSlice.is) refl

pub returns-in-Reduce : goal.returns-in-Reduce
unfolding op_kind
returns-in-Reduce c = rw (← c.row_of-class.ensures, c.in-Reduce.is) c.reduce_of.ensures
