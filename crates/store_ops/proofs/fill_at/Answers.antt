use Prim.Native.Nat.{◌+◌, ◌-◌, ◌≤◌}
use mathlib.Core.Path.{◌≡◌, ◌∙◌, sym}
use borrow.Author.Rules.{rules}
use Rattle.std.specs.Prelude.{Err}
use Rattle.offsets.specs.Offsets.{size_at}
use Rattle.steps.proofs.StepsLaw.{step-holds}
use Rattle.evaluation.proofs.FillLaw.{stretch-order, lent_length, filled, unfilled}
use Rattle.store_ops.proofs.fill_at.Goals as goal

pub slice_bounds-op_step-count : goal.slice_bounds-op_step-count
slice_bounds-op_step-count c =
    let in_order_ : (c.args.at ≤ c.args.end) × (c.args.end - c.args.at ≡ size_at c.args.vs (c.args.vs.inputs + c.args.k)) = (stretch-order _ _ _ _ _ _ c.requires.stretch) in
    (in_order_).0

pub slice_bounds-op_step-start : goal.slice_bounds-op_step-start
slice_bounds-op_step-start c =
    let in_order_ : (c.args.at ≤ c.args.end) × (c.args.end - c.args.at ≡ size_at c.args.vs (c.args.vs.inputs + c.args.k)) = (stretch-order _ _ _ _ _ _ c.requires.stretch) in
    (in_order_).0

pub op_step-requires : goal.op_step-requires
op_step-requires c =
    let in_order_ : (c.args.at ≤ c.args.end) × (c.args.end - c.args.at ≡ size_at c.args.vs (c.args.vs.inputs + c.args.k)) = (stretch-order _ _ _ _ _ _ c.requires.stretch) in
    record { accepts = (c.requires.accepts.0, c.requires.accepts.1); values_held = (c.requires.accepts.2, lent_length c.args.at c.args.end c.args.store.now (in_order_).0 c.requires.stretch.within ∙ (in_order_).1) }

pub returns-in_err-op_step : goal.returns-in_err-op_step
returns-in_err-op_step c =
    let in_order_ : (c.args.at ≤ c.args.end) × (c.args.end - c.args.at ≡ size_at c.args.vs (c.args.vs.inputs + c.args.k)) = (stretch-order _ _ _ _ _ _ c.requires.stretch) in
    let same : c.from_residual.result ≡ Err c.in_err-op_step.field-0.0 = search rules in
    rw same (unfilled c.args.at c.args.end c.args.store.now (in_order_).0 c.requires.stretch.within c.args.done.now _ _ _ _ c.op_step.ensures c.in_err-op_step.was)

pub returns : goal.returns
returns c =
    let in_order_ : (c.args.at ≤ c.args.end) × (c.args.end - c.args.at ≡ size_at c.args.vs (c.args.vs.inputs + c.args.k)) = (stretch-order _ _ _ _ _ _ c.requires.stretch) in
    filled c.args.at c.args.end c.args.store.now (in_order_).0 c.requires.stretch.within c.args.done.now _ _ _ _
    (λ v e. (step-holds _ _ _ _ c.requires.accepts.0 _ _ c.requires.accepts.1 c.requires.accepts.2 v e).sized ∙ sym (in_order_).1)
    c.op_step.ensures c.in_ok-op_step.was c.copy_from_slice.ensures.after

pub slice_bounds-copy_from_slice-count : goal.slice_bounds-copy_from_slice-count
slice_bounds-copy_from_slice-count c =
    let in_order_ : (c.args.at ≤ c.args.end) × (c.args.end - c.args.at ≡ size_at c.args.vs (c.args.vs.inputs + c.args.k)) = (stretch-order _ _ _ _ _ _ c.requires.stretch) in
    (in_order_).0

pub slice_bounds-copy_from_slice-start : goal.slice_bounds-copy_from_slice-start
slice_bounds-copy_from_slice-start c =
    let in_order_ : (c.args.at ≤ c.args.end) × (c.args.end - c.args.at ≡ size_at c.args.vs (c.args.vs.inputs + c.args.k)) = (stretch-order _ _ _ _ _ _ c.requires.stretch) in
    (in_order_).0

pub slice_bounds-copy_from_slice-count-2 : goal.slice_bounds-copy_from_slice-count-2
slice_bounds-copy_from_slice-count-2 c =
    let in_order_ : (c.args.at ≤ c.args.end) × (c.args.end - c.args.at ≡ size_at c.args.vs (c.args.vs.inputs + c.args.k)) = (stretch-order _ _ _ _ _ _ c.requires.stretch) in
    (in_order_).0

pub slice_bounds-copy_from_slice-start-2 : goal.slice_bounds-copy_from_slice-start-2
slice_bounds-copy_from_slice-start-2 c =
    let in_order_ : (c.args.at ≤ c.args.end) × (c.args.end - c.args.at ≡ size_at c.args.vs (c.args.vs.inputs + c.args.k)) = (stretch-order _ _ _ _ _ _ c.requires.stretch) in
    (in_order_).0
