-- What stands in the definitions for a missing attribute and for a compare without a direction: an op that is typed (refusal 7 does not hold of it) does not
-- meet it. That a reduce has a body of one of the seven operations is `typed-reducer` of the crate nodes.
-- Assumes nothing.
use mathlib.Core.Path.{◌≡◌, refl}
use mathlib.Core.List.{List}
use mathlib.Core.Bool.{Bool, true, false}
use Prim.Native.Nat.{ℕ, ◌<◌}
use native.Mathlib.Omega.{arith}
use lib.Dec.{ltb, eqb}
use borrow.Author.Tests.{ltb-true, eqb-true}
use Rattle.lists.specs.Lists.{pick}
use Rattle.lists.proofs.TestLaw.{both_true}
use Rattle.scalar.specs.declared.Direction.{Direction as CompareDirection}
use Rattle.optable.specs.Table.{Direction, comparison_direction, no_choice, choice_kind, kind_said, said_at}
use Rattle.optable.specs.declared.Row.{Row}
use Rattle.optable.specs.declared.Class.TheVariants.{Compare}
use Rattle.optable.specs.declared.Choice.{Choice}
use Rattle.optable.specs.declared.Choice.TheVariants.{Compares, Signed, Unsigned}
use Rattle.program.specs.declared.Parts.{Parts}
use Rattle.places.specs.Places.{result_name, result_type, body_open, count_of, place_of}
use Rattle.values.specs.declared.Value.{Value}
use Rattle.attributes.specs.Attributes.{stands, needed_at, choice_of}
use Rattle.attributes.proofs.AttributesLaw.{attributes-needed}
use Rattle.bodies.specs.Bodies.{body_fits}
use Rattle.typing.specs.Typing.{row_named_in, results_are, bodies_fit, typed_op}
use Rattle.nodes.proofs.TypedLaw.{typed-parts, typed-direction}

module _ (text : List ℕ) (op : Parts) (row : Row) (values : List Value) (n : ℕ) (typed : typed_op text op row values n ≡ true) where
  -- "No other attribute may be absent": each that the row needs stands, so that no list, no choice and tensor<i1> for a missing one are not read
  pub needed-stand : (s : ℕ) → s < row.needed → stands text op (needed_at row s) ≡ true
  needed-stand = attributes-needed text op row (typed-parts text op row values n typed).attributes

  -- "a wrong number .. of results (one ..)": a name and a type
  pub one-result : (count_of op result_name ≡ 1) × (count_of op result_type ≡ 1)
  unfolding results_are
  one-result =
      let r = both_true (eqb (count_of op result_name) 1) (eqb (count_of op result_type) 1) (typed-parts text op row values n typed).results in
      (eqb-true (count_of op result_name) 1 r.0, eqb-true (count_of op result_type) 1 r.1)

  -- ".. or of bodies": one, of the form, so that what is read of a body is read of that
  pub one-body : row.body ≡ true → (count_of op body_open ≡ 1) × (body_fits text (place_of op body_open 0) ≡ true)
  unfolding bodies_fit
  one-body e =
      let b = (typed-parts text op row values n typed).bodies in
      let r = both_true (eqb (count_of op body_open) 1) (body_fits text (place_of op body_open 0)) (rw e at b) in
      (eqb-true (count_of op body_open) 1 r.0, r.1)

-- ---- a choice that is a direction

said-direction : (c : Choice) → kind_said c ≡ Direction → (d : CompareDirection) × (c ≡ Compares d)
said-direction (Compares d) e = (d, refl)
said-direction Signed e = absurd (omega arith)
said-direction Unsigned e = absurd (omega arith)

-- choice c is one of the table's and says a direction
pub record Directed (c : ℕ) : Type 0 where
  pub listed : c < no_choice
  pub direction : CompareDirection
  pub says : said_at c ≡ Compares direction

pub directed : (c : ℕ) → choice_kind c ≡ Direction → Directed c
unfolding choice_kind
directed c e = by_place (ltb c no_choice) refl e
  where
    by_place : (b : Bool) → ltb c no_choice ≡ b → pick b (kind_said (said_at c)) 0 ≡ Direction → Directed c
    by_place true t e = let d = said-direction (said_at c) e in record { listed = ltb-true c no_choice t; direction = d.0; says = d.1 }
    by_place false t e = absurd (omega arith)

-- "comparison_direction" must stand, with a choice of its kind: a compare that is typed has a direction, and EQ for none is not read
pub compare-directed : (text : List ℕ) (op : Parts) (values : List Value) (n : ℕ) → typed_op text op (row_named_in text op) values n ≡ true → (row_named_in text op).class ≡ Compare →
    Directed (choice_of text op comparison_direction)
compare-directed text op values n typed e = directed (choice_of text op comparison_direction) (typed-direction text op values n typed e)
