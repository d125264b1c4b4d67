use mathlib.Core.Path.{◌∙◌}
use Rattle.division.proofs.Dispatch.{cast-fits, cast-not-zero, divided-slot}
use Rattle.division.proofs.divide_signed.Goals as goal

pub divide_numbers-requires : goal.divide_numbers-requires
divide_numbers-requires c =
    let a = c.args in
    let r = c.requires in
    let x = c.cast_signed in
    let y = c.cast_signed-2 in (
      r.0,
      (
        cast-fits a.t r.0 a.a r.1.0 x.type_inv x.ensures,
        (cast-fits a.t r.0 a.b r.1.1.0 y.type_inv y.ensures, cast-not-zero a.t r.0 a.b c.ranges.b.fits r.1.1.1 y.type_inv y.ensures),
      ),
    )

pub returns : goal.returns
returns c =
    let a = c.args in
    let x = c.cast_signed in
    let y = c.cast_signed-2 in
    let d = c.divide_numbers in
    c.cast_unsigned.ensures ∙ divided-slot a.t c.requires.0 a.op a.a a.b x.type_inv x.ensures y.type_inv y.ensures d.type_inv d.ensures
