-- 01, refusal 7: its seven reasons, in its order. An op is typed where none holds of it.
-- Assumes nothing.
use Rattle.std.specs.Prelude.{ℕ, suc, List, [], ◌∷◌, ◌++◌, Bool, true, false, not, ◌&&◌, ◌||◌, leb, eqb, length, get_or}
use Rattle.lists.specs.Lists.{pick, first_where}
use Rattle.scope.specs.Scope.{same_at}
use Rattle.dimrules.specs.declared.TensorType.{TensorType}
use Rattle.dimrules.specs.Types.{same_type}
use Rattle.places.specs.Places.{type_in}
use Rattle.values.specs.declared.Value.{Value}
use Rattle.values.specs.Values.{no_value}
use Rattle.optable.specs.Table.{OpRow, ops}
use Rattle.optable.specs.Takes.{takes}
use Rattle.source.specs.Source.{OpText, body_from}
use Rattle.verifier.specs.AttributeRules.{first_token, pairwise, some_of, missing_attribute, doubled_attribute, foreign_attribute, unlike_kind, unfit_dense}
use Rattle.verifier.specs.BodyForm.{has_length, of_body_form}

-- the number of the value that a name stands for
abbrev pub value_of_name : List ℕ → List Value → ℕ → ℕ
value_of_name text known name = first_where (λ v. same_at text v.name name) known

-- 1. "a wrong number of operands (concatenate: any, none breaks C3; dynamic_slice: from 1), of results (one; return: none) or of bodies"
abbrev pub wrong_number : ℕ → ℕ → ℕ → ℕ → OpText → Bool
wrong_number least most results bodies op =
    not (leb least (length op.operands) && leb (length op.operands) most)
    || not (has_length op.results results && has_length op.result_types results)
    || not (has_length op.bodies bodies)

-- 2. "a written operand type that isn't that of its definition": one for each operand
abbrev pub other_operand_type : List ℕ → List Value → OpText → Bool
other_operand_type text known op =
    not (pairwise (λ name t. same_type (type_in text t) (get_or known (value_of_name text known name) no_value).ty) op.operands op.operand_types)

-- 3. "an attribute missing, doubled, foreign to the op or of the wrong kind"
abbrev pub wrong_attribute : List ℕ → List ℕ → List ℕ → OpText → Bool
wrong_attribute text required optional op =
    missing_attribute text required op.attributes
    || doubled_attribute text op.attributes
    || foreign_attribute text (required ++ optional) op.attributes
    || some_of (unlike_kind text) op.attributes

-- 4. "a dense value of other sizes, kind or range than its type"
abbrev pub wrong_dense : List ℕ → OpText → Bool
wrong_dense text op = some_of (unfit_dense text) op.attributes

-- 5. "an element type or rank that the op's Inputs or Outputs table in 000 doesn't take"
abbrev pub operand_taken_by : OpRow → ℕ → TensorType → Bool
operand_taken_by row j t =
    pick (eqb j 0) (takes row.first t.element) (takes row.rest t.element && (not row.scalars || eqb t.shape.rank 0))

abbrev pub operands_taken : List ℕ → OpRow → ℕ → List ℕ → Bool
operands_taken text row j [] = true
operands_taken text row j (t ∷ types) = operand_taken_by row j (type_in text t) && operands_taken text row (suc j) types

abbrev pub not_taken : List ℕ → OpRow → OpText → Bool
not_taken text row op =
    not (operands_taken text row 0 op.operand_types) || not (takes row.result (type_in text (first_token op.result_types)).element)

-- 6. "a reduction body faulty inside or not of the form below"
abbrev pub wrong_body : List ℕ → OpText → Bool
wrong_body text op = some_of (λ body. not (of_body_form text (body_from body))) op.bodies

-- 7. "return types that aren't the header's"
abbrev pub other_return_types : List ℕ → List ℕ → OpText → Bool
other_return_types text outputs op = not (pairwise (λ t u. same_type (type_in text t) (type_in text u)) op.operand_types outputs)

-- none of them holds of an op with its row of the op table, the values `known` being defined before it
unfoldable pub op_typed : List ℕ → OpRow → List Value → OpText → Bool
op_typed text row known op =
    not (wrong_number row.least row.most 1 (pick row.body 1 0) op)
    && not (other_operand_type text known op)
    && not (wrong_attribute text row.required row.optional op)
    && not (wrong_dense text op)
    && not (not_taken text row op)
    && not (wrong_body text op)

-- none of them holds of the return, "return: none" of results; its operands are the header's outputs; no attribute is one of its own
unfoldable pub return_typed : List ℕ → List ℕ → List Value → OpText → Bool
return_typed text outputs known op =
    not (wrong_number 0 (length outputs) 0 0 op)
    && not (other_operand_type text known op)
    && not (wrong_attribute text [] [] op)
    && not (other_return_types text outputs op)
