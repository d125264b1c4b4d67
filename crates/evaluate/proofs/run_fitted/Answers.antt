use mathlib.Core.Path.{sym, ◌∙◌}
use Prim.Native.Nat.{◌≤◌}
use native.Mathlib.Omega.{arith}
use Rattle.offsets.specs.Offsets.{ValuesRead}
use Rattle.values.proofs.ValuesLaw.{text-inputs}
use Rattle.evaluation.proofs.RunLaw.{text-read}
use Rattle.evaluation.proofs.FittedLaw.{refuses-9, refuses-10, refuses-11, fits}
use Rattle.evaluate.proofs.run_fitted.Goals as goal

pub needed_of-needed-requires : goal.needed_of-needed-requires
needed_of-needed-requires c =
    let read_ : ValuesRead c.args.vs × (c.args.vs.inputs ≤ 8) = (rw c.requires.2 (text-read _, text-inputs _)) in
    (read_).0

pub returns-then-store-needed : goal.returns-then-store-needed
returns-then-store-needed c =
    let s = c in
    let n = c.needed_of-needed.ensures in
    rw n (refuses-9 _ _ _ s.args.vs s.requires.2 (omega (arith, n, c.if-store-needed.true)))

pub input_slots-slots-requires : goal.input_slots-slots-requires
input_slots-slots-requires c =
    let read_ : ValuesRead c.args.vs × (c.args.vs.inputs ≤ 8) = (rw c.requires.2 (text-read _, text-inputs _)) in
    read_

pub returns-then-inputs-slots : goal.returns-then-inputs-slots
returns-then-inputs-slots c =
    let s = c in
    let m = c.input_slots-slots.ensures in
    let n = c.needed_of-needed.ensures in
    rw m (refuses-10 _ _ _ s.args.vs s.requires.2 (omega (arith, n, c.if-store-needed.false)) (λ e. c.if-inputs-slots.true (e ∙ sym m)))

pub first_foreign-requires : goal.first_foreign-requires
first_foreign-requires c =
    let read_ : ValuesRead c.args.vs × (c.args.vs.inputs ≤ 8) = (rw c.requires.2 (text-read _, text-inputs _)) in
    ((read_).0, (read_).1, c.if-inputs-slots.false ∙ c.input_slots-slots.ensures)

pub returns-in-Some : goal.returns-in-Some
returns-in-Some c =
    let f = c.in-Some.ensures.lowest in
    let m = c.input_slots-slots.ensures in
    let n = c.needed_of-needed.ensures in
    rw f (refuses-11 _ _ _ c.args.vs c.requires.2 (omega (arith, n, c.if-store-needed.false)) (c.if-inputs-slots.false ∙ m) (omega (arith, f, c.in-Some.ensures.within)))

pub run_program-requires : goal.run_program-requires
run_program-requires c =
    let f = c.in_default.ensures.lowest in
    record {
      text_value = (c.requires.0, c.requires.1, c.requires.2, c.needed_of-needed.ensures);
      inputs_len = (c.if-inputs-slots.false ∙ c.input_slots-slots.ensures, sym f, omega (arith, c.if-store-needed.false));
    }

pub returns : goal.returns
returns c =
    let f = c.in_default.ensures.lowest in
    let n = c.needed_of-needed.ensures in
    c.run_program.ensures ∙ fits _ _ _ c.args.vs c.requires.2 (omega (arith, n, c.if-store-needed.false)) (c.if-inputs-slots.false ∙ c.input_slots-slots.ensures) (omega (arith, f))
