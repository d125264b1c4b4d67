use mathlib.Core.Path.{refl}
use Rattle.doing.proofs.DoingLaw.{read_whole}
use Rattle.facts.proofs.OtherLaw.{constant-ready}
use Rattle.doing.proofs.constant_op.Goals as goal

pub read_dense-requires : goal.read_dense-requires
read_dense-requires c =
    let e = c in
    (e.requires.0.shaped.value.sized.rank, constant-ready e.args.o e.requires.0 e.args.out.now e.requires.2)

pub returns : goal.returns
returns c =
    let e = c in
    read_whole e.args.o e.requires.0 _ _ e.args.out.now (e.requires.1 refl) e.requires.2 c.read_dense.ensures
