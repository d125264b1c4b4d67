use Rattle.rule_laws.proofs.Tests.{slice_tests}
use Rattle.rule_laws.proofs.SliceLaw.{same-slice}
use mathlib.Core.Path.{◌≡◌}
use mathlib.Core.Bool.{◌&&◌}
use borrow.Author.Tests.{eq-eqb, ne_eqb}
use lib.Dec.{eqb}
use Rattle.dimrules.specs.Count.{everywhere}
use Rattle.dimrules.specs.Dims.{dim_test}
use Rattle.dimrules.specs.declared.DimTest.TheVariants.{Ceiling}
use Rattle.rules.proofs.slice_broken.Goals as goal
use Rattle.rules.proofs.slice_broken.Goals.{then-r-rank, else-r-rank}

pub returns : goal.returns
unfolding slice_tests
returns c =
    let a = c.args in
    let c5 : c.if-r-rank.c5 ≡ (eqb a.r.shape.rank a.x.shape.rank && everywhere a.x.shape.rank (dim_test Ceiling c.sides_of-s.result)) = elim c.if-r-rank.branch [
      | then-r-rank w ↦ simp (eq-eqb _ _ w.if-r-rank.true, w.all_dims-c5.ensures, w.c5-is)
      | else-r-rank w ↦ simp (ne_eqb _ _ w.if-r-rank.false, w.c5-is)
    ] in
    rw (same-slice a.x a.start a.limit a.strides a.r) (simp (c.first_broken.ensures, c5, c.all_dims-c4.ensures, c.all_dims-c3.ensures, c.three_of-c2.ensures, c.same_element-c1.ensures, c.sides_of-s.ensures))
