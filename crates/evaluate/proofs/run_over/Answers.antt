use mathlib.Core.Path.{◌∙◌}
use Prim.Native.Nat.{◌≤◌}
use native.Mathlib.Omega.{arith}
use lib.ListN.{length}
use Rattle.offsets.specs.Offsets.{needed_of}
use Rattle.steps.specs.Steps.{Accepts}
use Rattle.evaluation.proofs.RunLaw.{text-read, run_small, slots-fit, copied-started, copied-ran}
use Rattle.evaluate.proofs.run_over.Goals as goal

pub offsets_of-starts-requires : goal.offsets_of-starts-requires
offsets_of-starts-requires c = rw c.requires.text_value.2 (text-read _)

pub copy_front-requires : goal.copy_front-requires
copy_front-requires c =
    let accepts_ : Accepts c.args.text.now c.args.p c.args.vs c.offsets_of-starts.result = (let h = c.requires.text_value in record { verdict = h.0; program = h.1; values = h.2; offsets = c.offsets_of-starts.ensures }) in
    let room_ : (needed_of c.args.vs ≤ length c.args.done.now) × (needed_of c.args.vs ≤ length c.args.store.now) = (let s = c in
    let small = run_small _ _ _ _ (accepts_) in
    (omega (arith, s.requires.done_len.0, small), omega (arith, s.requires.text_value.3, s.requires.done_len.1))) in
    let fit_ : (length c.args.inputs.now ≤ length c.args.done.now) × (length c.args.inputs.now ≤ length c.args.store.now) = (let s = c in slots-fit _ _ _ _ (accepts_) s.args.inputs.now s.args.done.now s.args.store.now s.requires.inputs_len.0 s.requires.inputs_len.1 (room_).0 (room_).1) in
    (fit_).0

pub copy_front-requires-2 : goal.copy_front-requires-2
copy_front-requires-2 c =
    let accepts_ : Accepts c.args.text.now c.args.p c.args.vs c.offsets_of-starts.result = (let h = c.requires.text_value in record { verdict = h.0; program = h.1; values = h.2; offsets = c.offsets_of-starts.ensures }) in
    let room_ : (needed_of c.args.vs ≤ length c.args.done.now) × (needed_of c.args.vs ≤ length c.args.store.now) = (let s = c in
    let small = run_small _ _ _ _ (accepts_) in
    (omega (arith, s.requires.done_len.0, small), omega (arith, s.requires.text_value.3, s.requires.done_len.1))) in
    let fit_ : (length c.args.inputs.now ≤ length c.args.done.now) × (length c.args.inputs.now ≤ length c.args.store.now) = (let s = c in slots-fit _ _ _ _ (accepts_) s.args.inputs.now s.args.done.now s.args.store.now s.requires.inputs_len.0 s.requires.inputs_len.1 (room_).0 (room_).1) in
    (fit_).1

pub run_ops-requires : goal.run_ops-requires
run_ops-requires c =
    let accepts_ : Accepts c.args.text.now c.args.p c.args.vs c.offsets_of-starts.result = (let h = c.requires.text_value in record { verdict = h.0; program = h.1; values = h.2; offsets = c.offsets_of-starts.ensures }) in
    let room_ : (needed_of c.args.vs ≤ length c.args.done.now) × (needed_of c.args.vs ≤ length c.args.store.now) = (let s = c in
    let small = run_small _ _ _ _ (accepts_) in
    (omega (arith, s.requires.done_len.0, small), omega (arith, s.requires.text_value.3, s.requires.done_len.1))) in
    let o = c in
    let s = o in (
      accepts_,
      s.requires.text_value.3,
      rw (c.copy_front.ensures, c.copy_front-2.ensures)
          (copied-started _ _ _ _ (accepts_) s.args.inputs.now s.args.done.now s.args.store.now s.requires.inputs_len.0 s.requires.inputs_len.1 (room_).0 (room_).1),
    )

pub returns : goal.returns
returns c =
    let accepts_ : Accepts c.args.text.now c.args.p c.args.vs c.offsets_of-starts.result = (let h = c.requires.text_value in record { verdict = h.0; program = h.1; values = h.2; offsets = c.offsets_of-starts.ensures }) in
    let room_ : (needed_of c.args.vs ≤ length c.args.done.now) × (needed_of c.args.vs ≤ length c.args.store.now) = (let s = c in
    let small = run_small _ _ _ _ (accepts_) in
    (omega (arith, s.requires.done_len.0, small), omega (arith, s.requires.text_value.3, s.requires.done_len.1))) in
    let o = c in
    let s = o in
    c.run_ops.ensures ∙ rw c.copy_front-2.ensures
    (copied-ran _ _ _ _ (accepts_) s.args.inputs.now s.args.done.now s.args.store.now s.requires.inputs_len.0 s.requires.inputs_len.1 (room_).0 (room_).1)
