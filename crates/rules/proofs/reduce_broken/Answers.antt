use mathlib.Core.Path.{◌≡◌}
use Prim.Native.Nat.{◌≤◌}
use native.Mathlib.Omega.{arith}
use lib.ListN.{length}
use Rattle.rule_laws.proofs.Tests.{reduce_tests}
use Rattle.rule_laws.proofs.ReduceLaw.{same-reduce}
use borrow.Author.Rules.{rules}
use mathlib.Core.Bool.{◌&&◌}
use borrow.Author.Tests.{eq-eqb, ne_eqb}
use lib.Dec.{eqb}
use Rattle.dimrules.specs.Types.{same_element}
use Rattle.dimrules.specs.Count.{everywhere}
use Rattle.dimrules.specs.Dims.{dim_test}
use Rattle.dimrules.specs.declared.DimTest.TheVariants.{Kept}
use Rattle.rules.proofs.reduce_broken.Goals as goal
use Rattle.rules.proofs.reduce_broken.Goals.{then-is_argument, else-is_argument, then-r-kept, else-r-kept}

pub returns : goal.returns
unfolding reduce_tests
returns c =
    let a = c.args in
    let g = c.well_formed.1.1.1.1.0 in
    let six : length a.dimensions.list ≡ 6 = search rules in
    let few : a.dimensions.count ≤ length a.dimensions.list = omega (arith, six, c.requires.1) in
    let c6 : c.if-is_argument.c6 ≡ ((same_element a.x a.a && eqb a.a.shape.rank 0) && (same_element a.x a.b && eqb a.b.shape.rank 0)) = elim c.if-is_argument.branch [
      | then-is_argument w ↦ simp (← c.is_argument.ensures, w.if-is_argument.true, w.is_argument-c6.ensures, w.c6-is)
      | else-is_argument w ↦ simp (← c.is_argument.ensures, w.if-is_argument.false, w.c6-is)
    ] in
    let c7 : c.if-r-kept.c7 ≡ (eqb a.r.shape.rank c.kept_below-kept.result && everywhere a.x.shape.rank (dim_test Kept c.sides_of-s.result)) = elim c.if-r-kept.branch [
      | then-r-kept w ↦ simp (eq-eqb _ _ w.if-r-kept.true, w.all_dims-c7.ensures, w.c7-is)
      | else-r-kept w ↦ simp (ne_eqb _ _ w.if-r-kept.false, w.c7-is)
    ] in
    rw (same-reduce a.x a.v a.a a.b a.dimensions a.r few) (simp (c.first_broken.ensures, c6, c7, c.same_element-c8.ensures, c.all_dims-c5.ensures, c.all_dims-c4.ensures, c.same_element-c2.ensures, c.kept_below-kept.ensures, c.sides_of-s.ensures))
