use Prim.Native.Nat.{◌≤◌, ◌<◌}
use native.Mathlib.Omega.{arith}
use Rattle.steps.proofs.StepsLaw.{step-asks, step-means, few-values}
use Rattle.steps.proofs.op_step.Goals as goal

pub offset_bounds-p-k : goal.offset_bounds-p-k
offset_bounds-p-k c =
    let few_ : (c.args.k < 256) × (c.args.vs.inputs ≤ 8) = (few-values _ _ _ _ c.requires.accepts.0 c.args.k c.args.slots.now c.requires.accepts.1) in
    omega (arith, (few_).0)

pub bounds-p-k : goal.bounds-p-k
bounds-p-k c =
    let few_ : (c.args.k < 256) × (c.args.vs.inputs ≤ 8) = (few-values _ _ _ _ c.requires.accepts.0 c.args.k c.args.slots.now c.requires.accepts.1) in
    omega (arith, (few_).0)

pub overflow_add-vs : goal.overflow_add-vs
overflow_add-vs c =
    let few_ : (c.args.k < 256) × (c.args.vs.inputs ≤ 8) = (few-values _ _ _ _ c.requires.accepts.0 c.args.k c.args.slots.now c.requires.accepts.1) in
    let f = few_ in omega arith

pub places_of-places-requires : goal.places_of-places-requires
places_of-places-requires c =
    let few_ : (c.args.k < 256) × (c.args.vs.inputs ≤ 8) = (few-values _ _ _ _ c.requires.accepts.0 c.args.k c.args.slots.now c.requires.accepts.1) in
    let s = c in
    let f = few_ in
    (omega arith, s.requires.accepts.0.offsets)

pub do_op-requires : goal.do_op-requires
do_op-requires c =
    let s = c in
    let h = step-asks _ _ _ _ s.requires.accepts.0 s.args.k s.args.slots.now s.requires.accepts.1 s.requires.values_held.0 s.args.out.now s.requires.values_held.1 in
    rw (
      c.places_of-places.ensures,
      c.literal_of-literal.ensures,
      c.kind_of-kind.ensures,
      c.operation_of-o.ensures,
      c.row_of.ensures,
      c.op_at-op.ensures,
    ) h

pub returns : goal.returns
returns c =
    let b = c in
    let s = b in
    let d =
    rw (
      b.places_of-places.ensures,
      b.literal_of-literal.ensures,
      b.kind_of-kind.ensures,
      b.operation_of-o.ensures,
      b.row_of.ensures,
      b.op_at-op.ensures,
    ) at c.do_op.ensures in
    rw (step-means _ _ _ _ s.requires.accepts.0 s.args.k s.args.slots.now s.requires.accepts.1 s.requires.values_held.0) d
