use mathlib.Core.Path.{◌≡◌, ap, ◌∙◌}
use Prim.Native.Nat.{ℕ}
use native.Mathlib.Omega.{arith}
use lib.ListN.{length, get_or}
use Rattle.element.specs.Types.{is_value}
use Rattle.values.specs.declared.Value.{Value}
use Rattle.values.specs.Values.{no_value}
use Rattle.values.proofs.ValuesLaw.{any-default}
use Rattle.inputs.specs.Inputs.{input_of, slot_fits}
use Rattle.inputs.proofs.InputsLaw.{input-le}
use Rattle.inputs.proofs.slot_fits.Goals as goal

pub offset_bounds-vs-input_of : goal.offset_bounds-vs-input_of
offset_bounds-vs-input_of c =
    let s = c in
    omega (arith, s.requires.1, c.input_of.ensures, input-le s.args.vs s.args.s)

pub bounds-vs-input_of : goal.bounds-vs-input_of
bounds-vs-input_of c =
    let s = c in
    omega (arith, s.requires.1, c.input_of.ensures, input-le s.args.vs s.args.s)

pub returns : goal.returns
unfolding slot_fits
returns c =
    let read_ : (i : ℕ) (d : Value) → i ≡ input_of c.args.vs c.args.s → get_or c.args.vs.list i d ≡ get_or c.args.vs.list i no_value = (λ i d e. let long : length c.args.vs.list ≡ 264 = c.well_formed.0.1.1.1.1.0.1.0.1 in
    any-default c.args.vs.list i d no_value (omega (arith, c.requires.1, long, e, input-le c.args.vs c.args.s))) in
    let s = c in
    let i = c.input_of in
    c.is_value.ensures
    ∙ ap (λ (v : Value). is_value v.ty.element (get_or s.args.inputs.now s.args.s 0)) (read_ i.result _ i.ensures)
    ∙ ap (λ (k : ℕ). is_value (get_or s.args.vs.list k no_value).ty.element (get_or s.args.inputs.now s.args.s 0)) i.ensures
