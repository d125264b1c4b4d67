-- No op of a text that reading passes has more than eight result names, operands, operand types or result types, and no header more than eight inputs
-- or outputs (01, Sizes, 5).
-- Assumes nothing.
use mathlib.Core.Path.{◌≡◌, refl, sym, ap, subst, ◌∙◌}
use mathlib.Core.List.{List, [], ◌∷◌, ◌++◌}
use mathlib.Core.Bool.{Bool, true, false, not}
use Prim.Native.Nat.{ℕ, zero, suc, ◌+◌, ◌<◌, ◌≤◌}
use native.Mathlib.Omega.{arith}
use lib.Dec.{T, eqb}
use Rattle.lists.specs.Lists.{pick}
use Rattle.grammar.specs.Symbols.{FunctionName, InputName, InputType, OutputType, ResultName, OpName, FuncReturn, OperandName, OperandType, ResultType, BodyOpen, AttributeName, SingleNumber, ListNumber, ChoiceKind, Choice, ElementLiteral, DenseOpen, DenseClose, DenseType, func, lparen, rparen, lbrace, rbrace, langle, rangle, comma, colon, equals, arrow, dialect, array, dense, i64, Inputs, MoreInputs, Outputs, MoreOutputs, MoreResults, OpRest, Operands, MoreOperands, Middle, BodiesAfter, AttributesAfter, Body, MoreBodies, OperandTypes, MoreOperandTypes, ResultTypes, ResultTypeList, MoreResultTypes, Attributes, MoreAttributes, Value, Numbers, MoreNumbers, Dense, DenseItems, MoreItems, leaf_count, among_symbols}
use Rattle.grammar.specs.Grammar.{Production, ◌⟶◌, grammar}
use Rattle.grammar.specs.Derivation.{◌∈◌, here, there}
use Rattle.grammar.specs.Leaves.{Yields}
use Rattle.grammar.proofs.CellView.{rule-passes}
use Rattle.syntax.specs.Readings.{Reading, reading}
use Rattle.syntax.specs.Roles.{roles_of}
use Rattle.syntax.specs.OpsAlone.{Naming, unnamed, results, OpParts}
use Rattle.judge.specs.declared.tally.Tally.{Tally}
use Rattle.judge.specs.Roles.{listed_roles, item_roles, among_roles as is_among}
use Rattle.judge.proofs.Theorems.{Each}
use Rattle.program.specs.Parts.{part_of, depth_after}
use Rattle.places.specs.Places.{result_name, operand_name, operand_type, result_type, input_name, input_type, output_type}
use Rattle.part_laws.proofs.DepthLaw.{outside, keeps}
use Rattle.part_laws.proofs.YieldLaw.{those, Two}
use Rattle.part_laws.proofs.ItemLaw.{leaves-yield}
use Rattle.part_laws.proofs.PartLaw.{own, owned, without}
use Rattle.part_laws.proofs.OpLaw.{Expanded, expanded, none_in, past, few-in}

-- the symbols and roles of an op and of a header outside bodies
abbrev symbols : List ℕ
symbols =
    MoreResults ∷ OpRest ∷ Operands ∷ MoreOperands ∷ Middle ∷ BodiesAfter ∷ AttributesAfter ∷ Body ∷ MoreBodies ∷ OperandTypes ∷ MoreOperandTypes ∷ ResultTypes ∷ ResultTypeList ∷
    MoreResultTypes ∷ Attributes ∷ MoreAttributes ∷ Value ∷ Numbers ∷ MoreNumbers ∷ Dense ∷ DenseItems ∷ MoreItems ∷ Inputs ∷ MoreInputs ∷ Outputs ∷ MoreOutputs ∷
    FunctionName ∷ InputName ∷ InputType ∷ OutputType ∷ ResultName ∷ OpName ∷ FuncReturn ∷ OperandName ∷ OperandType ∷ ResultType ∷ BodyOpen ∷ AttributeName ∷ SingleNumber ∷ ListNumber ∷
    ChoiceKind ∷ Choice ∷ ElementLiteral ∷ DenseOpen ∷ DenseClose ∷ DenseType ∷ func ∷ lparen ∷ rparen ∷ lbrace ∷ rbrace ∷ langle ∷ rangle ∷ comma ∷ colon ∷ equals ∷ arrow ∷ dialect ∷
    array ∷ dense ∷ i64 ∷ []

-- those of them that are not named
abbrev but : List ℕ → List ℕ → List ℕ
but gone [] = []
but gone (x ∷ xs) = pick (among_symbols gone x) (but gone xs) (x ∷ but gone xs)

-- those that yield no token of part k: all but the symbols of the part's own list
abbrev others : List ℕ → List ℕ
others gone = but gone symbols

abbrev pub no_names : List ℕ
no_names = others (ResultName ∷ MoreResults ∷ [])

abbrev pub no_operands : List ℕ
no_operands = others (OpRest ∷ Operands ∷ MoreOperands ∷ OperandName ∷ [])

abbrev pub no_operand_types : List ℕ
no_operand_types = others (OpRest ∷ OperandTypes ∷ MoreOperandTypes ∷ OperandType ∷ [])

abbrev pub no_result_types : List ℕ
no_result_types = others (OpRest ∷ ResultTypes ∷ ResultTypeList ∷ MoreResultTypes ∷ ResultType ∷ [])

abbrev pub no_inputs : List ℕ
no_inputs = others (Inputs ∷ MoreInputs ∷ InputName ∷ InputType ∷ [])

abbrev pub no_outputs : List ℕ
no_outputs = others (Outputs ∷ MoreOutputs ∷ OutputType ∷ [])

pub keeps-names : (p : Production) → p ∈ grammar → T (keeps no_names p)
unfolding grammar depth_after
keeps-names p m = rule-passes (keeps no_names) m tt

pub keeps-operands : (p : Production) → p ∈ grammar → T (keeps no_operands p)
unfolding grammar depth_after
keeps-operands p m = rule-passes (keeps no_operands) m tt

pub keeps-operand-types : (p : Production) → p ∈ grammar → T (keeps no_operand_types p)
unfolding grammar depth_after
keeps-operand-types p m = rule-passes (keeps no_operand_types) m tt

pub keeps-result-types : (p : Production) → p ∈ grammar → T (keeps no_result_types p)
unfolding grammar depth_after
keeps-result-types p m = rule-passes (keeps no_result_types) m tt

pub keeps-inputs : (p : Production) → p ∈ grammar → T (keeps no_inputs p)
unfolding grammar depth_after
keeps-inputs p m = rule-passes (keeps no_inputs) m tt

pub keeps-outputs : (p : Production) → p ∈ grammar → T (keeps no_outputs p)
unfolding grammar depth_after
keeps-outputs p m = rule-passes (keeps no_outputs) m tt

abbrev pub no_return : List ℕ
no_return = others (FuncReturn ∷ [])

pub keeps-no-return : (p : Production) → p ∈ grammar → T (keeps no_return p)
unfolding grammar depth_after
keeps-no-return p m = rule-passes (keeps no_return) m tt

abbrev pub anywhere : List ℕ
anywhere = others []

pub keeps-anywhere : (p : Production) → p ∈ grammar → T (keeps anywhere p)
unfolding grammar depth_after
keeps-anywhere p m = rule-passes (keeps anywhere) m tt

-- a member of two, or of one
two : {p a b : Production} (C : Production → Type 0) → p ∈ (a ∷ b ∷ []) → C a → C b → C p
two C here x y = x
two C (there here) x y = y
two C (there (there m)) x y = elim m [ ]

only : {p a : Production} (C : Production → Type 0) → p ∈ (a ∷ []) → C a → C p
only C here x = x
only C (there m) x = elim m [ ]

-- the readings of an op after its name
module _ (text : List ℕ) (s : Tally) (xs : List Reading) (each : Each text s xs) where
  pub rest-operands : Yields (OpRest ∷ []) (roles_of xs) → owned operand_name 0 (roles_of xs) ≤ 8
  unfolding grammar part_of depth_after is_among
  rest-operands d =
      let e = expanded [] (omega arith) d in
      only (λ (p : Production). Yields (p.right ++ []) (roles_of xs) → owned operand_name 0 (roles_of xs) ≤ 8) e.alternative
      (λ y.
      let g = expanded (lparen ∷ []) {s = Operands} {post = rparen ∷ Middle ∷ colon ∷ lparen ∷ OperandTypes ∷ rparen ∷ arrow ∷ ResultTypes ∷ []} (omega arith) y in
      two (λ (p : Production). Yields ((lparen ∷ []) ++ (p.right ++ (rparen ∷ Middle ∷ colon ∷ lparen ∷ OperandTypes ∷ rparen ∷ arrow ∷ ResultTypes ∷ []))) (roles_of xs) → owned operand_name 0 (roles_of xs) ≤ 8) g.alternative
      (λ z. few-in operand_name no_operands keeps-operands tt OperandName [] MoreOperands (omega arith) tt refl refl refl tt (λ ms. omega arith) (λ ms. omega arith) text s xs (lparen ∷ []) (rparen ∷ Middle ∷ colon ∷ lparen ∷ OperandTypes ∷ rparen ∷ arrow ∷ ResultTypes ∷ []) tt tt z each)
      (λ z. let n = none_in operand_name no_operands keeps-operands tt {ss = lparen ∷ rparen ∷ Middle ∷ colon ∷ lparen ∷ OperandTypes ∷ rparen ∷ arrow ∷ ResultTypes ∷ []} tt z in omega arith)
      g.yields)
      e.yields

  pub rest-operand-types : Yields (OpRest ∷ []) (roles_of xs) → owned operand_type 0 (roles_of xs) ≤ 8
  unfolding grammar part_of depth_after is_among
  rest-operand-types d =
      let e = expanded [] (omega arith) d in
      only (λ (p : Production). Yields (p.right ++ []) (roles_of xs) → owned operand_type 0 (roles_of xs) ≤ 8) e.alternative
      (λ y.
      let g = expanded (lparen ∷ Operands ∷ rparen ∷ Middle ∷ colon ∷ lparen ∷ []) {s = OperandTypes} {post = rparen ∷ arrow ∷ ResultTypes ∷ []} (omega arith) y in
      two (λ (p : Production). Yields ((lparen ∷ Operands ∷ rparen ∷ Middle ∷ colon ∷ lparen ∷ []) ++ (p.right ++ (rparen ∷ arrow ∷ ResultTypes ∷ []))) (roles_of xs) → owned operand_type 0 (roles_of xs) ≤ 8) g.alternative
      (λ z. few-in operand_type no_operand_types keeps-operand-types tt OperandType [] MoreOperandTypes (omega arith) tt refl refl refl tt (λ ms. omega arith) (λ ms. omega arith) text s xs (lparen ∷ Operands ∷ rparen ∷ Middle ∷ colon ∷ lparen ∷ []) (rparen ∷ arrow ∷ ResultTypes ∷ []) tt tt z each)
      (λ z. let n = none_in operand_type no_operand_types keeps-operand-types tt {ss = lparen ∷ Operands ∷ rparen ∷ Middle ∷ colon ∷ lparen ∷ rparen ∷ arrow ∷ ResultTypes ∷ []} tt z in omega arith)
      g.yields)
      e.yields

  -- "result types in `( )`, or one bare"
  listed-types : Yields ((lparen ∷ Operands ∷ rparen ∷ Middle ∷ colon ∷ lparen ∷ OperandTypes ∷ rparen ∷ arrow ∷ []) ++ (lparen ∷ ResultTypeList ∷ rparen ∷ [])) (roles_of xs) → owned result_type 0 (roles_of xs) ≤ 8
  unfolding grammar part_of depth_after is_among
  listed-types y =
      let g = expanded (lparen ∷ Operands ∷ rparen ∷ Middle ∷ colon ∷ lparen ∷ OperandTypes ∷ rparen ∷ arrow ∷ lparen ∷ []) {s = ResultTypeList} {post = rparen ∷ []} (omega arith) y in
      two (λ (p : Production). Yields ((lparen ∷ Operands ∷ rparen ∷ Middle ∷ colon ∷ lparen ∷ OperandTypes ∷ rparen ∷ arrow ∷ lparen ∷ []) ++ (p.right ++ (rparen ∷ []))) (roles_of xs) → owned result_type 0 (roles_of xs) ≤ 8) g.alternative
      (λ z. few-in result_type no_result_types keeps-result-types tt ResultType [] MoreResultTypes (omega arith) tt refl refl refl tt (λ ms. omega arith) (λ ms. omega arith) text s xs (lparen ∷ Operands ∷ rparen ∷ Middle ∷ colon ∷ lparen ∷ OperandTypes ∷ rparen ∷ arrow ∷ lparen ∷ []) (rparen ∷ []) tt tt z each)
      (λ z. let n = none_in result_type no_result_types keeps-result-types tt {ss = lparen ∷ Operands ∷ rparen ∷ Middle ∷ colon ∷ lparen ∷ OperandTypes ∷ rparen ∷ arrow ∷ lparen ∷ rparen ∷ []} tt z in omega arith)
      g.yields

  pub rest-result-types : Yields (OpRest ∷ []) (roles_of xs) → owned result_type 0 (roles_of xs) ≤ 8
  unfolding grammar part_of depth_after
  rest-result-types d =
      let e = expanded [] (omega arith) d in
      only (λ (p : Production). Yields (p.right ++ []) (roles_of xs) → owned result_type 0 (roles_of xs) ≤ 8) e.alternative
      (λ y.
      let g = expanded (lparen ∷ Operands ∷ rparen ∷ Middle ∷ colon ∷ lparen ∷ OperandTypes ∷ rparen ∷ arrow ∷ []) {s = ResultTypes} {post = []} (omega arith) y in
      two (λ (p : Production). Yields ((lparen ∷ Operands ∷ rparen ∷ Middle ∷ colon ∷ lparen ∷ OperandTypes ∷ rparen ∷ arrow ∷ []) ++ (p.right ++ [])) (roles_of xs) → owned result_type 0 (roles_of xs) ≤ 8) g.alternative (λ z. listed-types z)
      (λ z.
      let t = past result_type no_result_types keeps-result-types tt (lparen ∷ Operands ∷ rparen ∷ Middle ∷ colon ∷ lparen ∷ OperandTypes ∷ rparen ∷ arrow ∷ []) {ss = ResultType ∷ []} tt z in
      let f : t.0.second ≡ ResultType ∷ [] = leaves-yield (ResultType ∷ []) tt t.0.behind in
      let o = ap (owned result_type 0) f in
      let one : owned result_type 0 (ResultType ∷ []) ≡ 1 = refl in
      let x = t.1 in
      omega arith)
      g.yields)
      e.yields

  -- result names before an op's name
  pub names-few : Yields (ResultName ∷ MoreResults ∷ equals ∷ []) (roles_of xs) → owned result_name 0 (roles_of xs) ≤ 8
  unfolding grammar part_of depth_after is_among
  names-few d =
      few-in result_name no_names keeps-names tt ResultName [] MoreResults (omega arith) tt refl refl refl tt (λ ms. omega arith) (λ ms. omega arith) text s xs [] (equals ∷ []) tt tt d each

  -- ---- a header
  pub head-inputs : (k : ℕ) → T (without k no_inputs) → ((ms : List ℕ) → owned k 0 (comma ∷ InputName ∷ colon ∷ InputType ∷ ms) ≤ 1 + owned k 0 ms) →
      ((ms : List ℕ) → owned k 0 (InputName ∷ colon ∷ InputType ∷ ms) ≤ 1 + owned k 0 ms) →
      Yields (func ∷ FunctionName ∷ lparen ∷ Inputs ∷ rparen ∷ Outputs ∷ lbrace ∷ []) (roles_of xs) → owned k 0 (roles_of xs) ≤ 8
  unfolding grammar depth_after is_among
  head-inputs k free once first-once d =
      let g = expanded (func ∷ FunctionName ∷ lparen ∷ []) {s = Inputs} {post = rparen ∷ Outputs ∷ lbrace ∷ []} (omega arith) d in
      two (λ (p : Production). Yields ((func ∷ FunctionName ∷ lparen ∷ []) ++ (p.right ++ (rparen ∷ Outputs ∷ lbrace ∷ []))) (roles_of xs) → owned k 0 (roles_of xs) ≤ 8) g.alternative
      (λ z. few-in k no_inputs keeps-inputs free InputName (colon ∷ InputType ∷ []) MoreInputs (omega arith) tt refl refl refl tt once first-once text s xs (func ∷ FunctionName ∷ lparen ∷ []) (rparen ∷ Outputs ∷ lbrace ∷ []) tt tt z each)
      (λ z. let n = none_in k no_inputs keeps-inputs free {ss = func ∷ FunctionName ∷ lparen ∷ rparen ∷ Outputs ∷ lbrace ∷ []} tt z in omega arith)
      g.yields

  pub head-outputs : Yields (func ∷ FunctionName ∷ lparen ∷ Inputs ∷ rparen ∷ Outputs ∷ lbrace ∷ []) (roles_of xs) → owned output_type 0 (roles_of xs) ≤ 8
  unfolding grammar part_of depth_after is_among
  head-outputs d =
      let g = expanded (func ∷ FunctionName ∷ lparen ∷ Inputs ∷ rparen ∷ []) {s = Outputs} {post = lbrace ∷ []} (omega arith) d in
      two (λ (p : Production). Yields ((func ∷ FunctionName ∷ lparen ∷ Inputs ∷ rparen ∷ []) ++ (p.right ++ (lbrace ∷ []))) (roles_of xs) → owned output_type 0 (roles_of xs) ≤ 8) g.alternative
      (λ z. few-in output_type no_outputs keeps-outputs tt OutputType [] MoreOutputs (omega arith) tt refl refl refl tt (λ ms. omega arith) (λ ms. omega arith) text s xs (func ∷ FunctionName ∷ lparen ∷ Inputs ∷ rparen ∷ arrow ∷ []) (lbrace ∷ []) tt tt z each)
      (λ z. let n = none_in output_type no_outputs keeps-outputs tt {ss = func ∷ FunctionName ∷ lparen ∷ Inputs ∷ rparen ∷ lbrace ∷ []} tt z in omega arith)
      g.yields
