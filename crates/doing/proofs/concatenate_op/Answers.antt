use Rattle.doing.proofs.DoingLaw.{concatenate-lent, concatenate-gives}
use Rattle.doing.proofs.concatenate_op.Goals as goal

pub concatenate-requires : goal.concatenate-requires
concatenate-requires c =
    let e = c in
    let a = e.args in
    let h = concatenate-lent a.o a.places a.slots.now e.requires.0 c.shapes_of.ensures e.requires.1 in
    (e.requires.0.shaped.result.sized, e.requires.2, h.0, h.1)

pub returns : goal.returns
returns c =
    let e = c in
    let a = e.args in
    concatenate-gives a.o a.places a.slots.now e.requires.0 c.shapes_of.ensures c.concatenate.ensures
