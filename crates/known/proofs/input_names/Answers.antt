use mathlib.Core.Path.{◌≡◌}
use native.Mathlib.Omega.{arith}
use lib.ListN.{length}
use Rattle.known.proofs.KnownLaw.{inputs-said}
use borrow.Author.Rules.{rules}
use Rattle.known.proofs.input_names.Goals as goal

pub slice_bounds-inputs_in-end : goal.slice_bounds-inputs_in-end
slice_bounds-inputs_in-end c =
    let long : length c.args.header.at ≡ 88 = search rules in
    omega (arith, c.requires.0)

pub returns : goal.returns
returns c =
    let s = c in
    let long : length s.args.header.at ≡ 88 = search rules in
    inputs-said _ _ _ s.requires.0 long c.inputs_in.ensures
