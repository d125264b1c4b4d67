use Prim.Native.Nat.{ℕ, ◌+◌, ◌≤◌, ◌<◌}
use native.Mathlib.Omega.{arith}
use lib.ListN.{length, get_or}
use Rattle.offsets.proofs.OffsetsLaw.{offset_read}
use Rattle.steps.proofs.StepsLaw.{few-values, step-read, step-counted}
use Rattle.evaluation.specs.State.{Stretch}
use Rattle.evaluation.proofs.FillLaw.{stretch-of, written_as}
use Rattle.store_ops.proofs.fill.Goals as goal

pub overflow_add-i : goal.overflow_add-i
overflow_add-i c =
    let few_ : (c.args.k < 256) × (c.args.vs.inputs ≤ 8) = (few-values _ _ _ _ c.requires.accepts.0 c.args.k c.args.done.now c.requires.accepts.1) in
    let f = few_ in omega arith

pub offset_bounds-starts-i : goal.offset_bounds-starts-i
offset_bounds-starts-i c =
    let few_ : (c.args.k < 256) × (c.args.vs.inputs ≤ 8) = (few-values _ _ _ _ c.requires.accepts.0 c.args.k c.args.done.now c.requires.accepts.1) in
    let f = few_ in omega arith

pub bounds-starts-i : goal.bounds-starts-i
bounds-starts-i c =
    let few_ : (c.args.k < 256) × (c.args.vs.inputs ≤ 8) = (few-values _ _ _ _ c.requires.accepts.0 c.args.k c.args.done.now c.requires.accepts.1) in
    let f = few_ in omega arith

pub value_size-requires : goal.value_size-requires
value_size-requires c =
    let few_ : (c.args.k < 256) × (c.args.vs.inputs ≤ 8) = (few-values _ _ _ _ c.requires.accepts.0 c.args.k c.args.done.now c.requires.accepts.1) in
    let s = c in
    let f = few_ in
    (omega arith, step-read _ _ _ _ s.requires.accepts.0 s.args.k s.args.done.now)

pub overflow_add-end : goal.overflow_add-end
overflow_add-end c =
    let few_ : (c.args.k < 256) × (c.args.vs.inputs ≤ 8) = (few-values _ _ _ _ c.requires.accepts.0 c.args.k c.args.done.now c.requires.accepts.1) in
    let StretchOf_ : ℕ → Type 0 = (λ n. let a = c.args in
    let i = a.vs.inputs + a.k in
    Stretch a.vs i (get_or a.starts i 0) (get_or a.starts i 0 + n) (length a.done.now) (length a.store.now)) in
    let stretch_ : StretchOf_ c.value_size.result = (let s = c in
    let a = s.args in
    let f = few_ in
    stretch-of a.vs (a.vs.inputs + a.k) _ c.value_size.result (length a.done.now) (length a.store.now)
    (offset_read a.vs a.starts s.requires.accepts.0.offsets (a.vs.inputs + a.k) (omega arith)) c.value_size.ensures
    (step-counted _ _ _ _ s.requires.accepts.0 a.k a.done.now s.requires.accepts.1) s.requires.vs_in_bounds.0 s.requires.vs_in_bounds.1 s.requires.vs_in_bounds.2) in
    omega (arith, (stretch_).small)

pub fill_at-requires : goal.fill_at-requires
fill_at-requires c =
    let few_ : (c.args.k < 256) × (c.args.vs.inputs ≤ 8) = (few-values _ _ _ _ c.requires.accepts.0 c.args.k c.args.done.now c.requires.accepts.1) in
    let StretchOf_ : ℕ → Type 0 = (λ n. let a = c.args in
    let i = a.vs.inputs + a.k in
    Stretch a.vs i (get_or a.starts i 0) (get_or a.starts i 0 + n) (length a.done.now) (length a.store.now)) in
    let stretch_ : StretchOf_ c.value_size.result = (let s = c in
    let a = s.args in
    let f = few_ in
    stretch-of a.vs (a.vs.inputs + a.k) _ c.value_size.result (length a.done.now) (length a.store.now)
    (offset_read a.vs a.starts s.requires.accepts.0.offsets (a.vs.inputs + a.k) (omega arith)) c.value_size.ensures
    (step-counted _ _ _ _ s.requires.accepts.0 a.k a.done.now s.requires.accepts.1) s.requires.vs_in_bounds.0 s.requires.vs_in_bounds.1 s.requires.vs_in_bounds.2) in
    let s = c in
    record { accepts = s.requires.accepts; stretch = stretch_ }

pub returns : goal.returns
returns c =
    let few_ : (c.args.k < 256) × (c.args.vs.inputs ≤ 8) = (few-values _ _ _ _ c.requires.accepts.0 c.args.k c.args.done.now c.requires.accepts.1) in
    let StretchOf_ : ℕ → Type 0 = (λ n. let a = c.args in
    let i = a.vs.inputs + a.k in
    Stretch a.vs i (get_or a.starts i 0) (get_or a.starts i 0 + n) (length a.done.now) (length a.store.now)) in
    let stretch_ : StretchOf_ c.value_size.result = (let s = c in
    let a = s.args in
    let f = few_ in
    stretch-of a.vs (a.vs.inputs + a.k) _ c.value_size.result (length a.done.now) (length a.store.now)
    (offset_read a.vs a.starts s.requires.accepts.0.offsets (a.vs.inputs + a.k) (omega arith)) c.value_size.ensures
    (step-counted _ _ _ _ s.requires.accepts.0 a.k a.done.now s.requires.accepts.1) s.requires.vs_in_bounds.0 s.requires.vs_in_bounds.1 s.requires.vs_in_bounds.2) in
    let b = c in
    let t = stretch_ in
    written_as t.start t.stop b.fill_at.ensures
