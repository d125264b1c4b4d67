-- Refusals 0 to 8 of a text (01, "The twelve refusals"): "Refusals 1 to 4 come first .. Then duplicate input names, then op by op names (5, 6), 7, 8, the lowest C
-- number first. .. Ops count from 0, the return last".
-- Assumes nothing.
use Rattle.std.specs.Prelude.{ℕ, suc, List, [], ◌∷◌, ◌++◌, map, Bool, false, eqb, get_or, None}
use Rattle.lists.specs.Lists.{pick}
use Rattle.scope.specs.Faults.{NameFault}
use Rattle.names.specs.Names.{Checked, then_checked, checked_fault, defined, settled, names_read, input_names_fault}
use Rattle.values.specs.declared.Value.{Value}
use Rattle.optable.specs.Table.{OpRow, ops}
use Rattle.optable.specs.declared.Takes.TheVariants.{Any}
use Rattle.optable.specs.declared.Rule.TheVariants as rule
use Rattle.optable.specs.declared.Class.TheVariants.{Constant}
use Rattle.checks.specs.Check.{broken_number}
use Rattle.judge.specs.Refusals.{Refusal}
use Rattle.judge.specs.Judge.{refuse, accepted, text_refusal}
use Rattle.source.specs.Source.{OpText, FunctionText, function_of}
use Rattle.verifier.specs.DefinedValues.{inputs_defined, result_defined}
use Rattle.verifier.specs.BodyForm.{op_number}
use Rattle.verifier.specs.Reasons.{op_typed, return_typed}
use Rattle.verifier.specs.ConstraintRules.{checks_written}

-- its row of the op table: refusal 3 has answered for a name that has none
abbrev pub no_op : OpRow
no_op = record { name = []; least = 0; most = 0; required = []; optional = []; body = false; first = Any; rest = Any; scalars = false; result = Any; rule = rule.SameTypes; class = Constant; reducer = None }

abbrev pub row_written : List ℕ → OpText → OpRow
row_written text op = get_or ops (op_number text op) no_op

-- the names of values, the last one first
abbrev pub names_last_first : List Value → List ℕ
names_last_first [] = []
names_last_first (v ∷ vs) = names_last_first vs ++ (v.name ∷ [])

-- "names (5, 6)": of an op, the values `known` being defined before it
unfoldable pub names_checked : List ℕ → List Value → OpText → NameFault
names_checked text known op = checked_fault (then_checked (names_read text 0 (map defined (names_last_first known)) op.tokens) (settled text))

-- "names (5, 6), 7, 8": A of 5 and 6 is the byte of the name, of 7 and 8 the op, B of 8 "its C number in 000"
abbrev pub in_turn : NameFault → Bool → ℕ → ℕ → Refusal
in_turn names typed c k =
    pick (eqb names.refusal 0)
    (pick typed (pick (eqb c 0) accepted (refuse 8 k c)) (refuse 7 k 0))
    (refuse names.refusal names.a 0)

-- op k
unfoldable pub op_verdict : List ℕ → List Value → ℕ → OpText → Refusal
op_verdict text known k op =
    let row = row_written text op in
    in_turn (names_checked text known op) (op_typed text row known op) (broken_number (checks_written text op row.rule)) k

-- the return, op k; it has no constraints
unfoldable pub return_verdict : List ℕ → FunctionText → List Value → ℕ → OpText → Refusal
return_verdict text f known k op = in_turn (names_checked text known op) (return_typed text f.output_types known op) 0 k

-- "op by op", the return last: the first that is refused, each with the values that are defined before it
unfoldable pub ops_verdict : List ℕ → FunctionText → List Value → ℕ → List OpText → Refusal
ops_verdict text f known k [] = accepted
ops_verdict text f known k (op ∷ []) = return_verdict text f known k op
ops_verdict text f known k (op ∷ (next ∷ later)) =
    let r = op_verdict text known k op in
    let rest = ops_verdict text f (known ++ (result_defined text op ∷ [])) (suc k) (next ∷ later) in
    pick (eqb r.number 0) rest r

-- "Then duplicate input names, then op by op"
unfoldable pub function_verdict : List ℕ → FunctionText → Refusal
function_verdict text f =
    let names = input_names_fault text f.inputs in
    pick (eqb names.refusal 0) (ops_verdict text f (inputs_defined text f) 0 f.ops) (refuse names.refusal names.a 0)

-- the refusal of a text, 0 where it is accepted
unfoldable pub verdict_of : List ℕ → Refusal
verdict_of text = let r = text_refusal text in pick (eqb r.number 0) (function_verdict text (function_of text)) r
