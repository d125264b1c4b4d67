use Rattle.std.proofs.Common.{sym, ◌∙◌, ap₂, to_z-of_z, w64, SFits}
use lib.Signed.{lt_z}
use Rattle.scalar.specs.Ops.{lt_of}
use Rattle.element.proofs.Signed.{signed-is, value-signed, value-unsigned}
use Rattle.scalar.proofs.less.Goals as goal

pub returns-then-is_signed : goal.returns-then-is_signed
unfolding lt_of
returns-then-is_signed c =
    let s = c in
    let e = sym c.is_signed.ensures ∙ c.if-is_signed.true in
    let x : SFits w64 c.cast_signed.result = record { sfits = c.cast_signed.type_inv } in
    let y : SFits w64 c.cast_signed-then-is_signed.result = record { sfits = c.cast_signed-then-is_signed.type_inv } in
    ap₂ lt_z (to_z-of_z x ∙ c.cast_signed.ensures ∙ signed-is s.args.a ∙ sym (value-signed s.args.t s.args.a e))
    (to_z-of_z y ∙ c.cast_signed-then-is_signed.ensures ∙ signed-is s.args.b ∙ sym (value-signed s.args.t s.args.b e))

pub returns-else-is_signed : goal.returns-else-is_signed
unfolding lt_of
returns-else-is_signed c =
    let s = c in
    let e = sym c.is_signed.ensures ∙ c.if-is_signed.false in
    rw (value-unsigned s.args.t s.args.a e, value-unsigned s.args.t s.args.b e)
