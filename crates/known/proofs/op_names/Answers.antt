use Rattle.known.proofs.KnownLaw.{names-said}
use Rattle.known.proofs.op_names.Goals as goal

pub returns : goal.returns
returns c =
    let b = c in
    let l = b in
    names-said _ _ _ _ _ _ l.requires.3 l.lay_names.ensures b.names_in.ensures
