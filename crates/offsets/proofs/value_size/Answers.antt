use mathlib.Core.Path.{◌≡◌, ap, ◌∙◌}
use native.Mathlib.Omega.{arith}
use lib.ListN.{length, get_or}
use Rattle.shape.specs.Index.{size}
use Rattle.shape.specs.Dims.{dims_of}
use Rattle.values.specs.declared.Value.{Value}
use Rattle.values.specs.Values.{no_value}
use Rattle.values.proofs.ValuesLaw.{any-default}
use Rattle.offsets.specs.Offsets.{size_at}
use Rattle.offsets.proofs.value_size.Goals as goal

pub size_of-requires : goal.size_of-requires
size_of-requires c =
    let read_ : (d : Value) → get_or c.args.vs.list c.args.i d ≡ get_or c.args.vs.list c.args.i no_value = (λ d. let long : length c.args.vs.list ≡ 264 = c.well_formed.0.1.1.1.1.0.1.0.1 in
    any-default c.args.vs.list c.args.i d no_value (omega (arith, c.requires.0, long))) in
    let s = c in
    rw (read_ _) (s.requires.1.sized s.args.i s.requires.0)

pub returns : goal.returns
unfolding size_at
returns c =
    let read_ : (d : Value) → get_or c.args.vs.list c.args.i d ≡ get_or c.args.vs.list c.args.i no_value = (λ d. let long : length c.args.vs.list ≡ 264 = c.well_formed.0.1.1.1.1.0.1.0.1 in
    any-default c.args.vs.list c.args.i d no_value (omega (arith, c.requires.0, long))) in
    c.size_of.ensures ∙ ap (λ (v : Value). size (dims_of v.ty.shape)) (read_ _)
