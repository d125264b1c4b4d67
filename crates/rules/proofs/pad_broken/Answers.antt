use Rattle.rule_laws.proofs.Tests.{pad_tests}
use Rattle.rule_laws.proofs.PadLaw.{same-pad}
use mathlib.Core.Path.{◌≡◌}
use mathlib.Core.Bool.{◌&&◌}
use borrow.Author.Tests.{eq-eqb, ne_eqb}
use lib.Dec.{eqb}
use Rattle.dimrules.specs.Types.{same_element}
use Rattle.dimrules.specs.Count.{everywhere}
use Rattle.dimrules.specs.Dims.{dim_test}
use Rattle.dimrules.specs.declared.DimTest.TheVariants.{Padded}
use Rattle.rules.proofs.pad_broken.Goals as goal
use Rattle.rules.proofs.pad_broken.Goals.{then-same_element, else-same_element, then-r-rank, else-r-rank}

pub returns : goal.returns
unfolding pad_tests
returns c =
    let a = c.args in
    let c1 : c.if-same_element.c1 ≡ (same_element a.x a.v && same_element a.x a.r) = elim c.if-same_element.branch [
      | then-same_element w ↦ simp (← c.same_element.ensures, w.if-same_element.true, w.same_element-c1.ensures, w.c1-is)
      | else-same_element w ↦ simp (← c.same_element.ensures, w.if-same_element.false, w.c1-is)
    ] in
    let c4 : c.if-r-rank.c4 ≡ (eqb a.r.shape.rank a.x.shape.rank && everywhere a.x.shape.rank (dim_test Padded c.sides_of-s.result)) = elim c.if-r-rank.branch [
      | then-r-rank w ↦ simp (eq-eqb _ _ w.if-r-rank.true, w.all_dims-c4.ensures, w.c4-is)
      | else-r-rank w ↦ simp (ne_eqb _ _ w.if-r-rank.false, w.c4-is)
    ] in
    rw (same-pad a.x a.v a.low a.high a.interior a.r) (simp (c.first_broken.ensures, c1, c4, c.all_dims-c3.ensures, c.three_of-c2.ensures, c.sides_of-s.ensures))
