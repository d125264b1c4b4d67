-- Two operations that differ at most in what a row of the op table has no place for: the types of operands past the arity, the numbers of attributes that the row
-- does not need, the choice and the dense type of a row without such an attribute, the arguments' types of a row without a body.
-- Assumes nothing.
use Rattle.std.specs.Prelude.{ℕ, ◌<◌, ◌≡◌, true}
use Rattle.optable.specs.Table.{value, compare_type}
use Rattle.optable.specs.Find.{slot_in}
use Rattle.optable.specs.declared.Row.{Row}
use Rattle.dimrules.specs.Types.{type_at}
use Rattle.opcheck.specs.declared.Operation.{Operation}

pub record AsFar (row : Row) (o q : Operation) : Type 0 where
  pub arity : o.arity ≡ q.arity
  pub types : (j : ℕ) → j < o.arity → type_at o.types j ≡ type_at q.types j
  pub result : o.result ≡ q.result
  pub a : 0 < row.needed → o.a ≡ q.a
  pub b : 1 < row.needed → o.b ≡ q.b
  pub c : 2 < row.needed → o.c ≡ q.c
  pub choice : slot_in row compare_type < 3 → o.choice ≡ q.choice
  pub value : slot_in row value < 3 → o.value ≡ q.value
  pub left : row.body ≡ true → o.left ≡ q.left
  pub right : row.body ≡ true → o.right ≡ q.right
