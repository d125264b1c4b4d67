use native.Mathlib.Omega.{arith}
use Rattle.inputs.specs.Inputs.{input_slots}
use Rattle.offsets.proofs.OffsetsLaw.{offset_read}
use Rattle.inputs.proofs.input_slots.Goals as goal

pub returns : goal.returns
unfolding input_slots
returns c =
    let vs = c.args.vs in
    offset_read vs c.offsets_of.result c.offsets_of.ensures vs.inputs (omega (arith, c.requires.1))
