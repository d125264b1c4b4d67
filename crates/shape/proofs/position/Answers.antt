use Prim.Native.Nat.{◌+◌}
use mathlib.Core.Path.{◌≡◌}
use native.Mathlib.Omega.{arith}
use native.Mathlib.Nat.{zero-mul, zero-add}
use lib.ListN.{length}
use Rattle.shape.specs.Dims.{dims_of}
use Rattle.shape.proofs.IndexLaw.{ravel-lt, size-le-volume, within-drop}
use Rattle.shape.proofs.DimensionLaw.{drop-next, rest-cons, rest_all, ravel-turn}
use borrow.Author.Rules.{rules}
use Rattle.shape.proofs.position.Goals as goal

pub loop-d-init : goal.loop-d-init
loop-d-init c =
    let six : length c.args.s.dims ≡ 6 = search rules in
    (omega arith, omega arith, omega arith, rw (zero-mul, zero-add))

pub overflow_mul-p : goal.overflow_mul-p
overflow_mul-p c =
    let l = c.loop-d in
    let a = c.args in
    let w = c.requires.1 in
    let e = rest-cons a.s.dims _ _ c.loop-d-test.true l.invariant.1 in
    let t = ravel-turn e (drop-next a.index l.d (search rules)) (within-drop (l.d + 1) (dims_of a.s) a.index w) l.p _ l.invariant.3 in
    omega (arith, t.0, ravel-lt (dims_of a.s) a.index w, size-le-volume (dims_of a.s))

pub overflow_add-p : goal.overflow_add-p
overflow_add-p c =
    let l = c.loop-d in
    let a = c.args in
    let w = c.requires.1 in
    let e = rest-cons a.s.dims _ _ c.loop-d-test.true l.invariant.1 in
    let t = ravel-turn e (drop-next a.index l.d (search rules)) (within-drop (l.d + 1) (dims_of a.s) a.index w) l.p _ l.invariant.3 in
    omega (arith, t.0, ravel-lt (dims_of a.s) a.index w, size-le-volume (dims_of a.s))

pub loop-d-preserved : goal.loop-d-preserved
loop-d-preserved c =
    let l = c.loop-d in
    let a = c.args in
    let w = c.requires.1 in
    let e = rest-cons a.s.dims _ _ c.loop-d-test.true l.invariant.1 in
    let t = ravel-turn e (drop-next a.index l.d (search rules)) (within-drop (l.d + 1) (dims_of a.s) a.index w) l.p _ l.invariant.3 in
    (omega arith, l.invariant.1, omega (arith, t.0, ravel-lt (dims_of a.s) a.index w, size-le-volume (dims_of a.s)), t.1)

pub returns : goal.returns
returns c = omega (arith, rw (rest_all c.args.s.dims _ _ c.loop-d-test.false) at c.loop-d.invariant.3)
