-- One op against the values before it and its row of the op table: refusals 7 and 8.
-- Assumes nothing.
use Rattle.std.specs.Prelude.{ℕ, List, Result, Ok, Err, Bool, true, ◌&&◌, ltb, eqb, length}
use Rattle.lists.specs.Lists.{pick, tab}
use Rattle.optable.specs.Table.{value, compare_type, ops, row_at}
use Rattle.optable.specs.declared.Row.{Row}
use Rattle.program.specs.declared.Parts.{Parts}
use Rattle.dimrules.specs.declared.TensorType.{TensorType}
use Rattle.opcheck.specs.Judged.{taken_by_tables, broken_by}
use Rattle.opcheck.specs.declared.Operation.{Operation}
use Rattle.places.specs.Places.{op_name, result_name, operand_type, result_type, body_open, count_of, place_of, blank_type, type_of_part}
use Rattle.values.specs.declared.Value.{Value}
use Rattle.operands.specs.Operands.{arity_of, operands_typed}
use Rattle.attributes.specs.Attributes.{attributes_fit, attribute_numbers, choice_of, dense_type}
use Rattle.bodies.specs.Bodies.{row_named, body_fits, argument_type}
use Rattle.typing.specs.declared.OpFault.{OpFault}
use Rattle.typing.specs.declared.OpFault.TheVariants.{Typing, Constraint}

-- ---- what is read of an op

-- its row of the op table
unfoldable pub row_named_in : List ℕ → Parts → Row
row_named_in text op = row_at (row_named text (place_of op op_name 0))

-- the types of its operands as written
unfoldable pub types_of : List ℕ → Parts → ℕ → TensorType
types_of text op j = pick (ltb j (arity_of op)) (type_of_part text op operand_type j) blank_type

-- the type of argument j of its body
unfoldable pub body_type : List ℕ → Parts → Row → ℕ → TensorType
body_type text op row j = pick row.body (argument_type text (place_of op body_open 0) j) blank_type

unfoldable pub operation_of : List ℕ → Parts → Row → Operation
operation_of text op row =
    record {
      arity = arity_of op;
      types = tab 8 (types_of text op);
      result = type_of_part text op result_type 0;
      a = attribute_numbers text op row.a;
      b = attribute_numbers text op row.b;
      c = attribute_numbers text op row.c;
      choice = choice_of text op compare_type;
      value = dense_type text op value;
      left = body_type text op row 0;
      right = body_type text op row 1;
    }

-- ---- typing

-- "a wrong number .. of results (one; return: none)": names and types
unfoldable pub results_are : ℕ → Parts → Bool
results_are n op = eqb (count_of op result_name) n && eqb (count_of op result_type) n

-- "or of bodies"; "a reduction body faulty inside or not of the form"
unfoldable pub bodies_fit : List ℕ → Parts → Row → Bool
bodies_fit text op row = eqb (count_of op body_open) (pick row.body 1 0) && pick row.body (body_fits text (place_of op body_open 0)) true

-- an op of the op table (reading has refused every other name)
unfoldable pub in_table : List ℕ → Parts → Bool
in_table text op = ltb (row_named text (place_of op op_name 0)) (length ops)

-- none of the reasons of refusal 7 holds of an op
unfoldable pub typed_op : List ℕ → Parts → Row → List Value → ℕ → Bool
typed_op text op row values n =
    in_table text op
    -- "a written operand type that isn't that of its definition"
    && operands_typed text op values n
    -- "a wrong number .. of results (one; return: none)"
    && results_are 1 op
    -- "an attribute missing, doubled, foreign to the op or of the wrong kind; a dense value of other sizes, kind or range than its type"
    && attributes_fit text op row
    -- "a wrong number of operands"; "an element type or rank that the op's Inputs or Outputs table in 000 doesn't take"
    && taken_by_tables row (operation_of text op row)
    -- "or of bodies"; "a reduction body faulty inside or not of the form"
    && bodies_fit text op row

-- ---- refusals 7 and 8

-- a refusal of kind 7 or 8 and its B; 0: none
pub record Judged : Type 0 where
  pub refusal : ℕ
  pub b : ℕ

-- the two numbers of what the code answers
abbrev pub judged_of : Result (Unit {0}) OpFault → Judged
judged_of (Ok u) = record { refusal = 0; b = 0 }
judged_of (Err Typing) = record { refusal = 7; b = 0 }
judged_of (Err (Constraint c)) = record { refusal = 8; b = c }

unfoldable pub op_judged : List ℕ → Parts → List Value → ℕ → Judged
op_judged text op values n =
    let row = row_named_in text op in
    let c = broken_by row.rule (operation_of text op row) in
    pick (typed_op text op row values n) (record { refusal = pick (eqb c 0) 0 8; b = c }) (record { refusal = 7; b = 0 })
