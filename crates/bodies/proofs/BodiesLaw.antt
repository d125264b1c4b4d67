-- What a body of the form gives: its op is one of the seven, and its arguments are of one type.
-- Assumes nothing.
use mathlib.Core.Path.{◌≡◌}
use mathlib.Core.Bool.{Bool, true, ◌&&◌}
use mathlib.Core.List.{List}
use Prim.Native.Nat.{ℕ}
use lib.ListN.{length}
use Rattle.lists.proofs.TestLaw.{both_true}
use Rattle.shape.specs.Dims.{Sized}
use Rattle.program.specs.Parts.{body_at}
use Rattle.dimrules.specs.Types.{same_type}
use Rattle.places.specs.Places.{op_name, operand_type, result_type, input_type, place_of, type_of_part}
use Rattle.places.proofs.TypeInLaw.{type-in-six, part-sized}
use Rattle.bodies.specs.Bodies.{inner_op, body_counted, op_counted, row_named, is_reducer, on_both, returns_it, as_first, one_type, formed, body_fits, argument_type, body_row}

pub argument-sized : (text : List ℕ) (at j : ℕ) → Sized (argument_type text at j).shape
unfolding argument_type
argument-sized text at j = part-sized text (body_at text at) input_type j

pub argument-six : (text : List ℕ) (at j : ℕ) → length (argument_type text at j).shape.dims ≡ 6
unfolding argument_type type_of_part
argument-six text at j = type-in-six text (place_of (body_at text at) input_type j)

third : (a b c d e f : Bool) → a && b && c && d && e && f ≡ true → c ≡ true
third a b c d e f h =
    (both_true (a && b) c (both_true (a && b && c) d (both_true (a && b && c && d) e (both_true (a && b && c && d && e) f h).0).0).0).1

first : (a b c d e : Bool) → a && b && c && d && e ≡ true → a ≡ true
first a b c d e h = (both_true a b (both_true (a && b) c (both_true (a && b && c) d (both_true (a && b && c && d) e h).0).0).0).0

-- "one op of add, multiply, maximum, minimum, and, or, xor"
pub fits-reducer : (text : List ℕ) (at : ℕ) → body_fits text at ≡ true → is_reducer (body_row text at) ≡ true
unfolding body_fits formed body_row
fits-reducer text at h =
    let body = body_at text at in
    third (body_counted body) (op_counted body (inner_op text body)) (is_reducer (row_named text (place_of body op_name 0))) (on_both text body) (returns_it text body) (one_type text body) h

pub fits-alike : (text : List ℕ) (at : ℕ) → body_fits text at ≡ true → same_type (argument_type text at 0) (argument_type text at 1) ≡ true
unfolding body_fits formed one_type as_first argument_type
fits-alike text at h =
    let body = body_at text at in
    first (as_first text body input_type 1) (as_first text body operand_type 0) (as_first text body operand_type 1) (as_first text body operand_type 2) (as_first text body result_type 0)
    (both_true (body_counted body && op_counted body (inner_op text body) && is_reducer (row_named text (place_of body op_name 0)) && on_both text body && returns_it text body) (one_type text body) h).1
