use Prim.Native.Nat.{◌-◌}
use mathlib.Core.Path.{◌≡◌}
use native.Mathlib.Omega.{arith}
use lib.ListN.{length}
use Rattle.known.proofs.KnownLaw.{laying-first, laying-next, laying-end}
use Rattle.known.proofs.lay_names.Goals as goal

pub loop-k-init : goal.loop-k-init
loop-k-init c = (omega arith, laying-first _ _)

pub overflow_sub-top : goal.overflow_sub-top
overflow_sub-top c = omega (arith, c.loop-k.invariant.1.at, c.requires.1)

pub offset_bounds-entries-top : goal.offset_bounds-entries-top
offset_bounds-entries-top c = omega (arith, c.loop-k.invariant.1.at, c.loop-k.invariant.1.size)

pub bounds-entries-top : goal.bounds-entries-top
bounds-entries-top c = omega (arith, c.loop-k.invariant.1.at, c.loop-k.invariant.1.size, c.requires.1)

pub loop-k-preserved : goal.loop-k-preserved
loop-k-preserved c =
    let s = c in
    let long : length s.args.values.list ≡ 264 = s.well_formed.0.1.1.1.1.0.1.0.1 in
    (omega arith, laying-next _ c.loop-k.invariant.1 (omega (arith, s.requires.1)) (omega (arith, s.requires.0)))

pub shape_of-entries : goal.shape_of-entries
shape_of-entries c = c.loop-k.invariant.1.size

pub returns : goal.returns
returns c =
    let s = c in
    let v = c.loop-k.invariant.1 in
    let e : c.loop-k.k ≡ s.args.n = omega arith in
    laying-end e v
