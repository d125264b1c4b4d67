use Prim.Native.Nat.{◌+◌, ◌-◌, ◌≤◌, ◌<◌}
use mathlib.Core.Path.{◌≡◌, refl, ◌∙◌}
use native.Mathlib.Omega.{arith}
use lib.ListN.{length, get_or}
use Rattle.values.specs.Values.{ops_of}
use Rattle.offsets.specs.Offsets.{offset_at}
use Rattle.offsets.proofs.OffsetsLaw.{offset_read}
use Rattle.steps.proofs.StepsLaw.{few-values}
use Rattle.evaluation.proofs.FillLaw.{zeros-put}
use Rattle.evaluation.proofs.RunLaw.{run-start, run-held, run-next, run-stopped, run-within, run_end, run_small}
use Rattle.store_ops.proofs.run_ops.Goals as goal

pub loop-k-init : goal.loop-k-init
loop-k-init c = (refl, refl, run-start _ _ _ _ c.requires.0 c.args.done.now c.args.store.now c.requires.2)

pub fill-requires : goal.fill-requires
fill-requires c =
    let below_ : c.loop-k.k < ops_of c.args.p = (omega (arith, c.loop-k-test.true, c.ops_of-n.ensures)) in
    let v = c.loop-k.invariant in record {
      accepts = (c.requires.0, below_, run-held _ _ _ _ c.requires.0 _ _ _ _ _ v.2);
      vs_in_bounds = (omega (arith, v.0, c.requires.2.room), omega (arith, v.1, c.requires.2.space), run_small _ _ _ _ c.requires.0);
    }

pub loop-k-preserved : goal.loop-k-preserved
loop-k-preserved c =
    let below_ : c.loop-k.k < ops_of c.args.p = (omega (arith, c.loop-k-test.true, c.ops_of-n.ensures)) in
    let v = c.loop-k.invariant in
    (c.fill.auto.done ∙ v.0, c.fill.auto.store ∙ v.1, run-next _ _ _ _ c.requires.0 _ _ _ _ _ v.2 below_ _ _ _ c.fill.ensures c.in_default.is)

pub offset_bounds-starts-vs : goal.offset_bounds-starts-vs
offset_bounds-starts-vs c =
    let below_ : c.loop-k.k < ops_of c.args.p = (omega (arith, c.loop-k-test.true, c.ops_of-n.ensures)) in
    let few_ : (c.loop-k.k < 256) × (c.args.vs.inputs ≤ 8) = (few-values _ _ _ _ c.requires.0 c.loop-k.k c.args.done.now below_) in
    let f = few_ in omega arith

pub bounds-starts-vs : goal.bounds-starts-vs
bounds-starts-vs c =
    let below_ : c.loop-k.k < ops_of c.args.p = (omega (arith, c.loop-k-test.true, c.ops_of-n.ensures)) in
    let few_ : (c.loop-k.k < 256) × (c.args.vs.inputs ≤ 8) = (few-values _ _ _ _ c.requires.0 c.loop-k.k c.args.done.now below_) in
    let f = few_ in omega arith

pub overflow_add-vs : goal.overflow_add-vs
overflow_add-vs c =
    let below_ : c.loop-k.k < ops_of c.args.p = (omega (arith, c.loop-k-test.true, c.ops_of-n.ensures)) in
    let few_ : (c.loop-k.k < 256) × (c.args.vs.inputs ≤ 8) = (few-values _ _ _ _ c.requires.0 c.loop-k.k c.args.done.now below_) in
    let f = few_ in omega arith

pub offset_bounds-store-starts : goal.offset_bounds-store-starts
offset_bounds-store-starts c =
    let below_ : c.loop-k.k < ops_of c.args.p = (omega (arith, c.loop-k-test.true, c.ops_of-n.ensures)) in
    let few_ : (c.loop-k.k < 256) × (c.args.vs.inputs ≤ 8) = (few-values _ _ _ _ c.requires.0 c.loop-k.k c.args.done.now below_) in
    let start_ : get_or c.args.starts (c.args.vs.inputs + c.loop-k.k) 0 ≡ offset_at c.args.vs (c.args.vs.inputs + c.loop-k.k) =
    (let f = few_ in offset_read c.args.vs c.args.starts c.requires.0.offsets (c.args.vs.inputs + c.loop-k.k) (omega arith)) in
    let within_ : (get_or c.args.starts (c.args.vs.inputs + c.loop-k.k) 0 ≤ c.args.needed) × (c.args.needed ≤ length c.fill.new.store) =
    (omega (arith, start_, run-within _ _ _ _ c.requires.0 c.loop-k.k (let b = below_ in omega arith), c.requires.1), omega (arith, c.fill.auto.store, c.loop-k.invariant.1, c.requires.1, c.requires.2.space)) in
    let s : c.args.needed ≤ 8192 = omega (arith, run_small _ _ _ _ c.requires.0, c.requires.1) in
    let w = (within_).0 in
    omega (arith, w, s)

pub slice_bounds-fill-count : goal.slice_bounds-fill-count
slice_bounds-fill-count c =
    let below_ : c.loop-k.k < ops_of c.args.p = (omega (arith, c.loop-k-test.true, c.ops_of-n.ensures)) in
    let few_ : (c.loop-k.k < 256) × (c.args.vs.inputs ≤ 8) = (few-values _ _ _ _ c.requires.0 c.loop-k.k c.args.done.now below_) in
    let start_ : get_or c.args.starts (c.args.vs.inputs + c.loop-k.k) 0 ≡ offset_at c.args.vs (c.args.vs.inputs + c.loop-k.k) =
    (let f = few_ in offset_read c.args.vs c.args.starts c.requires.0.offsets (c.args.vs.inputs + c.loop-k.k) (omega arith)) in
    let within_ : (get_or c.args.starts (c.args.vs.inputs + c.loop-k.k) 0 ≤ c.args.needed) × (c.args.needed ≤ length c.fill.new.store) =
    (omega (arith, start_, run-within _ _ _ _ c.requires.0 c.loop-k.k (let b = below_ in omega arith), c.requires.1), omega (arith, c.fill.auto.store, c.loop-k.invariant.1, c.requires.1, c.requires.2.space)) in
    (within_).0

pub slice_bounds-fill-start : goal.slice_bounds-fill-start
slice_bounds-fill-start c =
    let below_ : c.loop-k.k < ops_of c.args.p = (omega (arith, c.loop-k-test.true, c.ops_of-n.ensures)) in
    let few_ : (c.loop-k.k < 256) × (c.args.vs.inputs ≤ 8) = (few-values _ _ _ _ c.requires.0 c.loop-k.k c.args.done.now below_) in
    let start_ : get_or c.args.starts (c.args.vs.inputs + c.loop-k.k) 0 ≡ offset_at c.args.vs (c.args.vs.inputs + c.loop-k.k) =
    (let f = few_ in offset_read c.args.vs c.args.starts c.requires.0.offsets (c.args.vs.inputs + c.loop-k.k) (omega arith)) in
    let within_ : (get_or c.args.starts (c.args.vs.inputs + c.loop-k.k) 0 ≤ c.args.needed) × (c.args.needed ≤ length c.fill.new.store) =
    (omega (arith, start_, run-within _ _ _ _ c.requires.0 c.loop-k.k (let b = below_ in omega arith), c.requires.1), omega (arith, c.fill.auto.store, c.loop-k.invariant.1, c.requires.1, c.requires.2.space)) in
    (within_).0

pub returns-in-Err : goal.returns-in-Err
returns-in-Err c =
    let below_ : c.loop-k.k < ops_of c.args.p = (omega (arith, c.loop-k-test.true, c.ops_of-n.ensures)) in
    let few_ : (c.loop-k.k < 256) × (c.args.vs.inputs ≤ 8) = (few-values _ _ _ _ c.requires.0 c.loop-k.k c.args.done.now below_) in
    let start_ : get_or c.args.starts (c.args.vs.inputs + c.loop-k.k) 0 ≡ offset_at c.args.vs (c.args.vs.inputs + c.loop-k.k) =
    (let f = few_ in offset_read c.args.vs c.args.starts c.requires.0.offsets (c.args.vs.inputs + c.loop-k.k) (omega arith)) in
    let within_ : (get_or c.args.starts (c.args.vs.inputs + c.loop-k.k) 0 ≤ c.args.needed) × (c.args.needed ≤ length c.fill.new.store) =
    (omega (arith, start_, run-within _ _ _ _ c.requires.0 c.loop-k.k (let b = below_ in omega arith), c.requires.1), omega (arith, c.fill.auto.store, c.loop-k.invariant.1, c.requires.1, c.requires.2.space)) in
    let v = c.loop-k.invariant in
    run-stopped _ _ _ _ c.requires.0 _ _ _ _ _ v.2 below_ _ _ _ c.fill.ensures c.in-Err.z _ _ _ c.in-Err.is (omega (arith, v.1, c.requires.2.space))
    (rw (c.fill-in-Err.ensures.after (λ y h. h)) (zeros-put _ _ c.fill.new.store (within_).0 (within_).1)) start_ c.requires.1

pub returns : goal.returns
returns c = run_end _ _ _ _ c.requires.0 _ _ c.loop-k.k _ _ c.loop-k.invariant.2 (omega (arith, c.ops_of-n.ensures, c.loop-k-test.false, c.loop-k.auto.k-end))
