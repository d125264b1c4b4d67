use mathlib.Core.Path.{◌≡◌}
use Prim.Native.Nat.{◌≤◌}
use native.Mathlib.Omega.{arith}
use lib.ListN.{length}
use Rattle.rule_laws.proofs.Tests.{transpose_tests}
use Rattle.rule_laws.proofs.TransposeLaw.{same-transpose}
use borrow.Author.Rules.{rules}
use mathlib.Core.Bool.{◌&&◌}
use borrow.Author.Tests.{eq-eqb, ne_eqb}
use lib.Dec.{eqb}
use Rattle.dimrules.specs.Count.{everywhere}
use Rattle.dimrules.specs.Dims.{dim_test}
use Rattle.dimrules.specs.declared.DimTest.TheVariants.{Below, Unique, Moved}
use Rattle.rules.proofs.transpose_broken.Goals as goal
use Rattle.rules.proofs.transpose_broken.Goals.{then-permutation-rank, else-permutation-rank, then-all_dims, else-all_dims, then-r-rank, else-r-rank}

pub returns : goal.returns
unfolding transpose_tests
returns c =
    let a = c.args in
    let g = c.well_formed.1.0 in
    let six : length a.permutation.list ≡ 6 = search rules in
    let few : a.permutation.count ≤ length a.permutation.list = omega (arith, six, c.requires.1) in
    let inside : c.if-permutation-rank.value ≡ (eqb a.permutation.count a.x.shape.rank && everywhere a.x.shape.rank (dim_test Below c.sides_of-s.result)) = elim c.if-permutation-rank.branch [
      | then-permutation-rank w ↦ simp (eq-eqb _ _ w.if-permutation-rank.true, w.all_dims.ensures, w.value-is)
      | else-permutation-rank w ↦ simp (ne_eqb _ _ w.if-permutation-rank.false, w.value-is)
    ] in
    let c2 : c.if-all_dims.c2 ≡ (eqb a.permutation.count a.x.shape.rank && everywhere a.x.shape.rank (dim_test Below c.sides_of-s.result) && everywhere a.x.shape.rank (dim_test Unique c.sides_of-s.result)) = elim c.if-all_dims.branch [
      | then-all_dims w ↦ simp (← inside, w.if-all_dims.true, w.all_dims-c2.ensures, w.c2-is)
      | else-all_dims w ↦ simp (← inside, w.if-all_dims.false, w.c2-is)
    ] in
    let c3 : c.if-r-rank.c3 ≡ (eqb a.r.shape.rank a.x.shape.rank && everywhere a.x.shape.rank (dim_test Moved c.sides_of-s.result)) = elim c.if-r-rank.branch [
      | then-r-rank w ↦ simp (eq-eqb _ _ w.if-r-rank.true, w.all_dims-c3.ensures, w.c3-is)
      | else-r-rank w ↦ simp (ne_eqb _ _ w.if-r-rank.false, w.c3-is)
    ] in
    rw (same-transpose a.x a.permutation a.r few) (simp (c.first_broken.ensures, c2, c3, c.same_element-c1.ensures, c.sides_of-s.ensures))
