use mathlib.Core.Path.{◌∙◌, sym}
use native.Mathlib.Omega.{arith}
use Rattle.shape.specs.Dims.{dims_of}
use Rattle.shape.proofs.IndexLaw.{ravel-lt}
use Rattle.shape.proofs.ElementLaw.{is_within-true}
use Rattle.shape.proofs.element_at.Goals as goal

pub position-requires : goal.position-requires
position-requires c =
    let a = c.args in
    (c.requires.0, is_within-true (dims_of a.s) a.index (sym c.within.ensures ∙ c.if-within.true))

pub offset_bounds-x-position : goal.offset_bounds-x-position
offset_bounds-x-position c =
    let a = c.args in
    let inside = is_within-true (dims_of a.s) a.index (sym c.within.ensures ∙ c.if-within.true) in
    omega (arith, ravel-lt (dims_of a.s) a.index inside, c.position.ensures)

pub bounds-x-position : goal.bounds-x-position
bounds-x-position c =
    let a = c.args in
    let inside = is_within-true (dims_of a.s) a.index (sym c.within.ensures ∙ c.if-within.true) in
    omega (arith, ravel-lt (dims_of a.s) a.index inside, c.position.ensures)
