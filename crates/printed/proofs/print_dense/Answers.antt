use mathlib.Core.Path.{◌∙◌}
use native.Mathlib.Omega.{arith}
use Rattle.printed.specs.Printed.{printed}
use Rattle.printed.proofs.PrintLaw.{then-lay, whole-size, whole-value}
use Rattle.printed.proofs.LengthLaw.{printed-length}
use Rattle.laid.proofs.LaidLaw.{lay-room}
use Rattle.shape.specs.Dims.{dims_of}
use lib.ListN.{length, length-take}
use Prim.Native.Nat.{◌≤◌}
use Rattle.printed.proofs.print_dense.Goals as goal

pub put_lists-r-requires : goal.put_lists-r-requires
put_lists-r-requires c =
    let a = c.args in
    let z = whole-size a.e a.shape.dims a.shape.rank in omega (arith, z, c.requires.0.rank, c.requires.1)

pub returns : goal.returns
unfolding printed
returns c =
    let a = c.args in
    let l : length (dims_of a.shape) ≤ 6 = let m = length-take a.shape.rank a.shape.dims in omega (arith, m, c.requires.0.rank) in
    let n = printed-length a.e (dims_of a.shape) a.slots.now l c.requires.0.volume in
    then-lay _ _ _ _ _ c.put_text-a.ensures
    (then-lay _ _ _ _ _ (c.put_lists-r.ensures.1 ∙ whole-value a.e a.shape.dims a.shape.rank a.slots.now _)
    (then-lay _ _ _ _ _ c.put_text-b.ensures
    (then-lay _ _ _ _ _ c.put_shape-c.ensures
    (then-lay _ _ _ _ _ c.put_element-d.ensures c.put_text.ensures))))
    ∙ lay-room (printed a.e (dims_of a.shape) a.slots.now) a.from a.out.now (omega (arith, n, c.requires.2))
