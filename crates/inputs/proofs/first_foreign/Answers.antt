use mathlib.Core.Path.{sym, ◌∙◌}
use Prim.Native.Nat.{◌<◌}
use native.Mathlib.Omega.{arith}
use Rattle.dimrules.proofs.CountLaw.{reach-none, reach-next, reach_here, reach-end}
use Rattle.inputs.specs.Inputs.{input_slots, slot_fits, first_foreign}
use Rattle.inputs.proofs.first_foreign.Goals as goal

pub loop-s-init : goal.loop-s-init
loop-s-init c = let a = c.args in (omega arith, reach-none (input_slots a.vs) (slot_fits a.vs a.inputs.now))

pub slot_fits-requires : goal.slot_fits-requires
slot_fits-requires c = (c.offsets_of-offsets.ensures, c.requires.1, c.loop-s-test.true)

pub returns-then-not-slot_fits : goal.returns-then-not-slot_fits
unfolding first_foreign
returns-then-not-slot_fits c =
    let s = c in
    let l : c.loop-s.s < input_slots s.args.vs = rw (← s.requires.2) c.loop-s-test.true in record {
      lowest = reach_here (input_slots s.args.vs) (slot_fits s.args.vs s.args.inputs.now) c.loop-s.s c.loop-s.invariant.1 l (sym c.slot_fits.ensures ∙ c.if-not-slot_fits.true);
      within = l;
    }

pub loop-s-preserved : goal.loop-s-preserved
loop-s-preserved c =
    let s = c in (
      omega arith,
      reach-next (input_slots s.args.vs) (slot_fits s.args.vs s.args.inputs.now) c.loop-s.s
          c.loop-s.invariant.1 (rw (← s.requires.2) c.loop-s-test.true)
          (sym c.slot_fits.ensures ∙ c.if-not-slot_fits.false),
    )

pub returns : goal.returns
unfolding first_foreign
returns c =
    let s = c in
    record {
      lowest = reach-end (input_slots s.args.vs) (slot_fits s.args.vs s.args.inputs.now) c.loop-s.s c.loop-s.invariant.1 (rw (← s.requires.2) c.loop-s-test.false) (rw (← s.requires.2) c.loop-s.invariant.0);
      within = tt;
    }
