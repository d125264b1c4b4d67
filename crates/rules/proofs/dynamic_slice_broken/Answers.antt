use Rattle.rule_laws.proofs.Tests.{dynamic_slice_tests}
use Rattle.rule_laws.proofs.DynamicLaw.{same-dynamic-slice}
use mathlib.Core.Path.{◌≡◌}
use mathlib.Core.Bool.{◌&&◌}
use borrow.Author.Tests.{eq-eqb, ne_eqb}
use lib.Dec.{eqb}
use Rattle.dimrules.specs.Types.{type_at}
use Rattle.dimrules.specs.Count.{everywhere}
use Rattle.dimrules.specs.Dims.{dim_test}
use Rattle.dimrules.specs.declared.DimTest.TheVariants.{SizeIs}
use Rattle.rules.proofs.dynamic_slice_broken.Goals as goal
use Rattle.rules.proofs.dynamic_slice_broken.Goals.{then-starts-rank, else-starts-rank, then-r-rank, else-r-rank}

pub returns : goal.returns
unfolding dynamic_slice_tests
returns c =
    let a = c.args in
    let c2 : c.if-starts-rank.c2 ≡ (eqb c.saturating_sub-starts.result (type_at a.types 0).shape.rank && eqb a.sizes.count (type_at a.types 0).shape.rank) = elim c.if-starts-rank.branch [
      | then-starts-rank w ↦ simp (eq-eqb _ _ w.if-starts-rank.true, w.c2-is)
      | else-starts-rank w ↦ simp (ne_eqb _ _ w.if-starts-rank.false, w.c2-is)
    ] in
    let c5 : c.if-r-rank.c5 ≡ (eqb a.r.shape.rank (type_at a.types 0).shape.rank && everywhere (type_at a.types 0).shape.rank (dim_test SizeIs c.sides_of-s.result)) = elim c.if-r-rank.branch [
      | then-r-rank w ↦ simp (eq-eqb _ _ w.if-r-rank.true, w.all_dims-c5.ensures, w.c5-is)
      | else-r-rank w ↦ simp (ne_eqb _ _ w.if-r-rank.false, w.c5-is)
    ] in
    rw (same-dynamic-slice _ a.arity a.sizes a.r) (simp (c.first_broken.ensures, c2, c5, c.all_dims-c4.ensures, c.all_types-c3.ensures, c.same_element-c1.ensures, c.sides_of-s.ensures, c.saturating_sub-starts.ensures))
