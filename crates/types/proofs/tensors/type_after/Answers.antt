use Rattle.std.proofs.Common.{arith}
use Rattle.types.specs.Tensors.{foreign, type_after}
use Rattle.types.proofs.ShapeLaw.{shape-within, none-found}
use Rattle.types.proofs.tensors.type_after.Goals as goal

pub slice_bounds-bytes-count : goal.slice_bounds-bytes-count
slice_bounds-bytes-count c = let b = shape-within _ _ _ c.shape_end-end.ensures c.requires in omega arith

pub slice_bounds-bytes-start : goal.slice_bounds-bytes-start
slice_bounds-bytes-start c = let b = shape-within _ _ _ c.shape_end-end.ensures c.requires in omega arith

pub slice_bounds-bytes-end : goal.slice_bounds-bytes-end
slice_bounds-bytes-end c = let b = shape-within _ _ _ c.shape_end-end.ensures c.requires in omega arith

pub returns-in_err-element : goal.returns-in_err-element
unfolding type_after foreign
returns-in_err-element c = rw c.from_residual.ensures (simp (← c.shape_end-end.ensures, ← c.type_close.ensures, ← c.in_err-element.ensures))

pub returns-then-contains : goal.returns-then-contains
unfolding type_after foreign
returns-then-contains c = simp (← c.shape_end-end.ensures, ← c.type_close.ensures, ← c.in_ok-element.ensures, none-found, ← c.contains.ensures.value, c.if-contains.true)

pub returns-else-contains : goal.returns-else-contains
unfolding type_after
returns-else-contains c = simp (← c.shape_end-end.ensures, ← c.type_close.ensures, ← c.in_ok-element.ensures, none-found, ← c.contains.ensures.value, c.if-contains.false, ← c.typed_by.ensures)
