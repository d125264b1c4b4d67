-- What is read of any op is within the sizes of 01.
-- Assumes nothing.
use Prim.Native.Nat.{ℕ, zero, suc, ◌<◌, ◌≤◌}
use mathlib.Core.Path.{◌≡◌, refl, ap, ◌∙◌, sym}
use mathlib.Core.Bool.{Bool, true, false, ◌&&◌}
use mathlib.Core.List.{List}
use native.Mathlib.Omega.{arith}
use lib.ListN.{length, get_or, replicate}
use lib.Dec.{ltb, eqb, eqb-suc-zero}
use Rattle.std.specs.Prelude.{Option, Some, None, Ok, Err}
use Rattle.lists.specs.Lists.{pick, tab}
use Rattle.lists.proofs.TabLaw.{get_or-tab}
use Rattle.shape.specs.Dims.{Sized}
use Rattle.optable.specs.Table.{value, compare_type}
use Rattle.optable.specs.declared.Row.{Row}
use Rattle.program.specs.declared.Parts.{Parts}
use Rattle.dimrules.specs.Types.{type_at, no_type}
use Rattle.dimrules.specs.declared.TensorType.{TensorType}
use Rattle.opcheck.specs.Judged.{ReadSizes}
use Rattle.places.specs.Places.{operand_name, operand_type, result_type, body_open, count_of, place_of, blank_type, type_of_part}
use Rattle.places.proofs.TypeInLaw.{type-in-sized, type-in-six, blank-sized, part-sized}
use Rattle.attributes.proofs.AttributesLaw.{numbers-few, dense-type-sized}
use Rattle.bodies.specs.Bodies.{argument_type}
use Rattle.bodies.proofs.BodiesLaw.{argument-sized}
use Rattle.operands.specs.Operands.{arity_of}
use Rattle.operands.proofs.OperandsLaw.{arity-few}
use Rattle.rules.specs.Constraint.{constraint_of}
use Rattle.typing.specs.declared.OpFault.{OpFault}
use Rattle.typing.specs.declared.OpFault.TheVariants.{Constraint}
use Rattle.typing.specs.Typing.{Judged, judged_of, types_of, body_type, operation_of}

-- ---- sizes

pick-sized : (b : Bool) (x y : TensorType) → Sized x.shape → Sized y.shape → Sized (pick b x y).shape
pick-sized true x y p q = p
pick-sized false x y p q = q

pub type-sized : (text : List ℕ) (op : Parts) (j : ℕ) → Sized (types_of text op j).shape
unfolding types_of
type-sized text op j = pick-sized (ltb j (arity_of op)) (type_of_part text op operand_type j) blank_type (part-sized text op operand_type j) blank-sized

pub body-sized : (text : List ℕ) (op : Parts) (row : Row) (j : ℕ) → Sized (body_type text op row j).shape
unfolding body_type
body-sized text op row j = pick-sized row.body (argument_type text (place_of op body_open 0) j) blank_type (argument-sized text (place_of op body_open 0) j) blank-sized

pub types-at : (text : List ℕ) (op : Parts) (j : ℕ) → j < 8 → type_at (tab 8 (types_of text op)) j ≡ types_of text op j
types-at text op j h = get_or-tab 8 (types_of text op) j no_type h

pub read-sizes : (text : List ℕ) (op : Parts) (row : Row) → ReadSizes (operation_of text op row)
unfolding operation_of
read-sizes text op row =
    record {
      arity = arity-few op;
      types = λ j h. rw (types-at text op j h) (type-sized text op j);
      result = part-sized text op result_type 0;
      value = dense-type-sized text op value;
      numbers = numbers-few text op row.a;
    }

pub and-true : (a : Bool) → a && true ≡ a
and-true true = refl
and-true false = refl

pub few : (text : List ℕ) (op : Parts) (row : Row) → (operation_of text op row).arity ≤ 8
few text op row = (read-sizes text op row).arity

-- ---- refusal 8 by the number of the constraint

abbrev numbered : ℕ → Judged
numbered k = record { refusal = pick (eqb k 0) 0 8; b = k }

pub some-judged : (k n : ℕ) → Some n ≡ constraint_of k → judged_of (Err (Constraint n)) ≡ numbered k
some-judged zero n e = cc
some-judged (suc k) n e = let q : n ≡ suc k = cc in rw (q, eqb-suc-zero k) refl

pub none-judged : (k : ℕ) → None ≡ constraint_of k → judged_of (Ok tt) ≡ numbered k
none-judged zero e = refl
none-judged (suc k) e = cc
