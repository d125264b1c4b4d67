-- The grammar of 000 as 01 narrows it, production by production: above each group the production of 000, and in quotes the words of 01.
-- tools/tables.py prints the code's tables from this file and Symbols.antt. Assumes nothing.
use Rattle.std.specs.Prelude.{ℕ, List, [], ◌∷◌}
use Rattle.grammar.specs.Symbols.{End, FunctionName, InputName, InputType, OutputType, ResultName, OpName, FuncReturn, OperandName, OperandType, ResultType, BodyOpen, BodyLabel, ArgumentName, ArgumentType, BodyOpName, BodyReturn, BodyClose, AttributeName, SingleNumber, ListNumber, ChoiceKind, Choice, ElementLiteral, DenseOpen, DenseClose, DenseType, func, lparen, rparen, lbrace, rbrace, langle, rangle, comma, colon, equals, arrow, dialect, array, dense, i64, Program, Inputs, MoreInputs, Outputs, MoreOutputs, Ops, NamedOps, MoreResults, OpRest, Operands, MoreOperands, Middle, BodiesAfter, AttributesAfter, Body, MoreBodies, Arguments, MoreArguments, BodyOps, NamedBodyOps, OperandTypes, MoreOperandTypes, ResultTypes, ResultTypeList, MoreResultTypes, Attributes, MoreAttributes, Value, Numbers, MoreNumbers, Dense, DenseItems, MoreItems, Op, NamedOp}

pub record Production : Type 0 where
  pub left : ℕ
  pub right : List ℕ

infix 5 ◌⟶◌
abbrev pub ◌⟶◌ : ℕ → List ℕ → Production
l ⟶ r = record { left = l; right = r }

-- An alternative starts with a leaf, or is empty and then the last.
unfoldable pub grammar : List Production
grammar =
    -- Program ::= {Func}, here one function and the end ("One StableHLO function as text").
    -- Func ::= 'func' '.' 'func' FuncId FuncInputs FuncOutputs '{' FuncBody '}'
    (Program ⟶ func ∷ FunctionName ∷ lparen ∷ Inputs ∷ rparen ∷ Outputs ∷ lbrace ∷ Ops ∷ rbrace ∷ End ∷ []) ∷
    -- FuncInputs ::= '(' [FuncInput {',' FuncInput}] ')', FuncInput ::= ValueId ':' ValueType
    (Inputs ⟶ InputName ∷ colon ∷ InputType ∷ MoreInputs ∷ []) ∷
    (Inputs ⟶ []) ∷
    (MoreInputs ⟶ comma ∷ InputName ∷ colon ∷ InputType ∷ MoreInputs ∷ []) ∷
    (MoreInputs ⟶ []) ∷
    -- FuncOutputs ::= ['->' FuncOutput {',' FuncOutput}]: "outputs after `->` split by commas", no parentheses
    (Outputs ⟶ arrow ∷ OutputType ∷ MoreOutputs ∷ []) ∷
    (Outputs ⟶ []) ∷
    (MoreOutputs ⟶ comma ∷ OutputType ∷ MoreOutputs ∷ []) ∷
    (MoreOutputs ⟶ []) ∷
    -- FuncBody ::= {Op}, Op ::= [OpOutputs] OpName OpInputs ':' OpSignature: "and `"func.return"` last; either return elsewhere is 2"
    (Ops ⟶ ResultName ∷ MoreResults ∷ equals ∷ NamedOps ∷ []) ∷
    (Ops ⟶ OpName ∷ OpRest ∷ Ops ∷ []) ∷
    (Ops ⟶ FuncReturn ∷ OpRest ∷ []) ∷
    (NamedOps ⟶ OpName ∷ OpRest ∷ Ops ∷ []) ∷
    (NamedOps ⟶ FuncReturn ∷ OpRest ∷ []) ∷
    -- OpOutputs ::= [OpOutput {',' OpOutput} '=']
    (MoreResults ⟶ comma ∷ ResultName ∷ MoreResults ∷ []) ∷
    (MoreResults ⟶ []) ∷
    -- OpInputs ::= OpInputValues OpInputFuncs OpInputAttrs, OpSignature ::= '(' [ValueType {',' ValueType}] ')' '->' ..
    (OpRest ⟶ lparen ∷ Operands ∷ rparen ∷ Middle ∷ colon ∷ lparen ∷ OperandTypes ∷ rparen ∷ arrow ∷ ResultTypes ∷ []) ∷
    -- OpInputValues ::= '(' [OpInputValue {',' OpInputValue}] ')'
    (Operands ⟶ OperandName ∷ MoreOperands ∷ []) ∷
    (Operands ⟶ []) ∷
    (MoreOperands ⟶ comma ∷ OperandName ∷ MoreOperands ∷ []) ∷
    (MoreOperands ⟶ []) ∷
    -- OpInputFuncs ::= ['(' OpInputFunc {',' OpInputFunc} ')'], OpInputAttrs ::= ['{' OpInputAttr {',' OpInputAttr} '}']:
    -- "Attributes stand in `<{ }>` before the body or `{ }` after it, not both; a body in `({ })`"
    (Middle ⟶ langle ∷ lbrace ∷ Attributes ∷ rbrace ∷ rangle ∷ BodiesAfter ∷ []) ∷
    (Middle ⟶ lparen ∷ Body ∷ MoreBodies ∷ rparen ∷ AttributesAfter ∷ []) ∷
    (Middle ⟶ lbrace ∷ Attributes ∷ rbrace ∷ []) ∷
    (Middle ⟶ []) ∷
    (BodiesAfter ⟶ lparen ∷ Body ∷ MoreBodies ∷ rparen ∷ []) ∷
    (BodiesAfter ⟶ []) ∷
    (AttributesAfter ⟶ lbrace ∷ Attributes ∷ rbrace ∷ []) ∷
    (AttributesAfter ⟶ []) ∷
    -- OpInputFunc ::= '{' Unused FuncInputs ':' FuncBody '}': "label and arguments as in 000, ops, `"stablehlo.return"`"
    (Body ⟶ BodyOpen ∷ BodyLabel ∷ lparen ∷ Arguments ∷ rparen ∷ colon ∷ BodyOps ∷ BodyClose ∷ []) ∷
    (MoreBodies ⟶ comma ∷ Body ∷ MoreBodies ∷ []) ∷
    (MoreBodies ⟶ []) ∷
    (Arguments ⟶ ArgumentName ∷ colon ∷ ArgumentType ∷ MoreArguments ∷ []) ∷
    (Arguments ⟶ []) ∷
    (MoreArguments ⟶ comma ∷ ArgumentName ∷ colon ∷ ArgumentType ∷ MoreArguments ∷ []) ∷
    (MoreArguments ⟶ []) ∷
    (BodyOps ⟶ ResultName ∷ MoreResults ∷ equals ∷ NamedBodyOps ∷ []) ∷
    (BodyOps ⟶ BodyOpName ∷ OpRest ∷ BodyOps ∷ []) ∷
    (BodyOps ⟶ BodyReturn ∷ OpRest ∷ []) ∷
    (NamedBodyOps ⟶ BodyOpName ∷ OpRest ∷ BodyOps ∷ []) ∷
    (NamedBodyOps ⟶ BodyReturn ∷ OpRest ∷ []) ∷
    -- OpSignature's types: "result types in `( )`, or one bare"
    (OperandTypes ⟶ OperandType ∷ MoreOperandTypes ∷ []) ∷
    (OperandTypes ⟶ []) ∷
    (MoreOperandTypes ⟶ comma ∷ OperandType ∷ MoreOperandTypes ∷ []) ∷
    (MoreOperandTypes ⟶ []) ∷
    (ResultTypes ⟶ lparen ∷ ResultTypeList ∷ rparen ∷ []) ∷
    (ResultTypes ⟶ ResultType ∷ []) ∷
    (ResultTypeList ⟶ ResultType ∷ MoreResultTypes ∷ []) ∷
    (ResultTypeList ⟶ []) ∷
    (MoreResultTypes ⟶ comma ∷ ResultType ∷ MoreResultTypes ∷ []) ∷
    (MoreResultTypes ⟶ []) ∷
    -- OpInputAttr ::= OpInputAttrName '=' OpInputAttrValue, one at least
    (Attributes ⟶ AttributeName ∷ equals ∷ Value ∷ MoreAttributes ∷ []) ∷
    (MoreAttributes ⟶ comma ∷ AttributeName ∷ equals ∷ Value ∷ MoreAttributes ∷ []) ∷
    (MoreAttributes ⟶ []) ∷
    -- OpInputAttrValue ::= Constant: "Number lists are `array<i64: ..>` (empty: `array<i64>`), single numbers `0 : i64` (`i64` in both, else 2),
    -- choices `#stablehlo<comparison_direction LT>`, constants `dense<..> : type`"
    (Value ⟶ SingleNumber ∷ colon ∷ i64 ∷ []) ∷
    (Value ⟶ array ∷ langle ∷ i64 ∷ Numbers ∷ rangle ∷ []) ∷
    (Value ⟶ dense ∷ langle ∷ Dense ∷ rangle ∷ colon ∷ DenseType ∷ []) ∷
    (Value ⟶ dialect ∷ langle ∷ ChoiceKind ∷ Choice ∷ rangle ∷ []) ∷
    (Numbers ⟶ colon ∷ ListNumber ∷ MoreNumbers ∷ []) ∷
    (Numbers ⟶ []) ∷
    (MoreNumbers ⟶ comma ∷ ListNumber ∷ MoreNumbers ∷ []) ∷
    (MoreNumbers ⟶ []) ∷
    -- TensorLiteral ::= 'dense' '<' (DenseLiteral | ElementLiteral) '>': "one literal for every element, or lists nested one level per dimension"
    (Dense ⟶ ElementLiteral ∷ []) ∷
    (Dense ⟶ DenseOpen ∷ DenseItems ∷ DenseClose ∷ []) ∷
    (DenseItems ⟶ ElementLiteral ∷ MoreItems ∷ []) ∷
    (DenseItems ⟶ DenseOpen ∷ DenseItems ∷ DenseClose ∷ MoreItems ∷ []) ∷
    (DenseItems ⟶ []) ∷
    (MoreItems ⟶ comma ∷ Dense ∷ MoreItems ∷ []) ∷
    (MoreItems ⟶ []) ∷
    -- Op alone: no symbol above has it; an op is read again by it from its first token
    (Op ⟶ ResultName ∷ MoreResults ∷ equals ∷ NamedOp ∷ []) ∷
    (Op ⟶ OpName ∷ OpRest ∷ []) ∷
    (Op ⟶ FuncReturn ∷ OpRest ∷ []) ∷
    (NamedOp ⟶ OpName ∷ OpRest ∷ []) ∷
    (NamedOp ⟶ FuncReturn ∷ OpRest ∷ []) ∷
    []
