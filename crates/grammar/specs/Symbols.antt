-- The grammar's alphabet: the kinds of tokens, the roles that they have in a text, the symbols that the productions define.
-- Assumes nothing.
use Rattle.std.specs.Prelude.{ℕ, Bool, true, false, List, [], ◌∷◌, eqb, get_or}
use Rattle.lists.specs.Lists.{pick}

-- Kinds: what the grammar tells apart of a token. Names are left open: a kind says no more of a name than its sigil or its quotes.
-- the end of the text
abbrev pub END : ℕ
END = 0

-- a word other than those below
abbrev pub WORD : ℕ
WORD = 1

-- a number with its sign
abbrev pub NUMBER : ℕ
NUMBER = 2

-- a name after %
abbrev pub VALUE : ℕ
VALUE = 3

-- func.func
abbrev pub FUNC : ℕ
FUNC = 4

-- #stablehlo
abbrev pub DIALECT : ℕ
DIALECT = 5

-- a quoted name other than the two returns
abbrev pub QUOTED : ℕ
QUOTED = 6

-- a tensor type
abbrev pub TYPE : ℕ
TYPE = 7

-- ->
abbrev pub ARROW : ℕ
ARROW = 8

-- a mark or byte that the grammar has nowhere
abbrev pub OTHER : ℕ
OTHER = 9

-- a name after @
abbrev pub FUNCTION : ℕ
FUNCTION = 10

-- a name after ^
abbrev pub LABEL : ℕ
LABEL = 11

-- "func.return"
abbrev pub FUNCRETURN : ℕ
FUNCRETURN = 12

-- "stablehlo.return"
abbrev pub BODYRETURN : ℕ
BODYRETURN = 13

-- array
abbrev pub ARRAY : ℕ
ARRAY = 14

-- dense
abbrev pub DENSE : ℕ
DENSE = 15

-- true, false
abbrev pub BOOLEAN : ℕ
BOOLEAN = 16

-- i64
abbrev pub I64 : ℕ
I64 = 17

-- token
abbrev pub TOKEN : ℕ
TOKEN = 18

-- tuple
abbrev pub TUPLE : ℕ
TUPLE = 19

-- (
abbrev pub LPAREN : ℕ
LPAREN = 20

-- )
abbrev pub RPAREN : ℕ
RPAREN = 21

-- {
abbrev pub LBRACE : ℕ
LBRACE = 22

-- }
abbrev pub RBRACE : ℕ
RBRACE = 23

-- <
abbrev pub LANGLE : ℕ
LANGLE = 24

-- >
abbrev pub RANGLE : ℕ
RANGLE = 25

-- [
abbrev pub LBRACKET : ℕ
LBRACKET = 26

-- ]
abbrev pub RBRACKET : ℕ
RBRACKET = 27

-- ,
abbrev pub COMMA : ℕ
COMMA = 28

-- :
abbrev pub COLON : ℕ
COLON = 29

-- =
abbrev pub EQUALS : ℕ
EQUALS = 30

-- Leaves: a token's role in a text. 0 is no role. Marks and fixed words that no later pass looks at stand last.
abbrev pub End : ℕ
End = 1

abbrev pub FunctionName : ℕ
FunctionName = 2

abbrev pub InputName : ℕ
InputName = 3

abbrev pub InputType : ℕ
InputType = 4

abbrev pub OutputType : ℕ
OutputType = 5

abbrev pub ResultName : ℕ
ResultName = 6

abbrev pub OpName : ℕ
OpName = 7

abbrev pub FuncReturn : ℕ
FuncReturn = 8

abbrev pub OperandName : ℕ
OperandName = 9

abbrev pub OperandType : ℕ
OperandType = 10

abbrev pub ResultType : ℕ
ResultType = 11

abbrev pub BodyOpen : ℕ
BodyOpen = 12

abbrev pub BodyLabel : ℕ
BodyLabel = 13

abbrev pub ArgumentName : ℕ
ArgumentName = 14

abbrev pub ArgumentType : ℕ
ArgumentType = 15

abbrev pub BodyOpName : ℕ
BodyOpName = 16

abbrev pub BodyReturn : ℕ
BodyReturn = 17

abbrev pub BodyClose : ℕ
BodyClose = 18

abbrev pub AttributeName : ℕ
AttributeName = 19

abbrev pub SingleNumber : ℕ
SingleNumber = 20

abbrev pub ListNumber : ℕ
ListNumber = 21

abbrev pub ChoiceKind : ℕ
ChoiceKind = 22

abbrev pub Choice : ℕ
Choice = 23

abbrev pub ElementLiteral : ℕ
ElementLiteral = 24

abbrev pub DenseOpen : ℕ
DenseOpen = 25

abbrev pub DenseClose : ℕ
DenseClose = 26

abbrev pub DenseType : ℕ
DenseType = 27

abbrev pub func : ℕ
func = 28

abbrev pub lparen : ℕ
lparen = 29

abbrev pub rparen : ℕ
rparen = 30

abbrev pub lbrace : ℕ
lbrace = 31

abbrev pub rbrace : ℕ
rbrace = 32

abbrev pub langle : ℕ
langle = 33

abbrev pub rangle : ℕ
rangle = 34

abbrev pub comma : ℕ
comma = 35

abbrev pub colon : ℕ
colon = 36

abbrev pub equals : ℕ
equals = 37

abbrev pub arrow : ℕ
arrow = 38

abbrev pub dialect : ℕ
dialect = 39

abbrev pub array : ℕ
array = 40

abbrev pub dense : ℕ
dense = 41

abbrev pub i64 : ℕ
i64 = 42

-- any word can be an attribute's name or a choice: names are left open
abbrev pub words : List ℕ
words = WORD ∷ ARRAY ∷ DENSE ∷ BOOLEAN ∷ I64 ∷ TOKEN ∷ TUPLE ∷ []

-- ValueType ::= TensorType | QuantizedTensorType | TokenType | TupleType. `token` and `tuple` are types of 000 that are not in 01 (refusal 3 at that word).
-- How 000 goes on after `tuple` (`<` .. `>`) never matters: the refusal stands at an earlier byte than any fault there, so the word is the whole type here.
abbrev pub value_types : List ℕ
value_types = TYPE ∷ TOKEN ∷ TUPLE ∷ []

-- the kinds of token that can have each role, by its number
unfoldable pub leaf_kinds : List (List ℕ)
leaf_kinds =
    [] ∷
    (END ∷ []) ∷  -- End
    (FUNCTION ∷ []) ∷  -- FunctionName
    (VALUE ∷ []) ∷  -- InputName
    value_types ∷  -- InputType
    value_types ∷  -- OutputType
    (VALUE ∷ []) ∷  -- ResultName
    (QUOTED ∷ []) ∷  -- OpName
    (FUNCRETURN ∷ []) ∷  -- FuncReturn
    (VALUE ∷ []) ∷  -- OperandName
    value_types ∷  -- OperandType
    value_types ∷  -- ResultType
    (LBRACE ∷ []) ∷  -- BodyOpen
    (LABEL ∷ []) ∷  -- BodyLabel
    (VALUE ∷ []) ∷  -- ArgumentName
    value_types ∷  -- ArgumentType
    (QUOTED ∷ []) ∷  -- BodyOpName
    (BODYRETURN ∷ []) ∷  -- BodyReturn
    (RBRACE ∷ []) ∷  -- BodyClose
    words ∷  -- AttributeName
    (NUMBER ∷ []) ∷  -- SingleNumber
    (NUMBER ∷ []) ∷  -- ListNumber
    words ∷  -- ChoiceKind
    words ∷  -- Choice
    (NUMBER ∷ BOOLEAN ∷ []) ∷  -- ElementLiteral
    (LBRACKET ∷ []) ∷  -- DenseOpen
    (RBRACKET ∷ []) ∷  -- DenseClose
    (TYPE ∷ []) ∷  -- DenseType
    (FUNC ∷ []) ∷  -- func
    (LPAREN ∷ []) ∷  -- lparen
    (RPAREN ∷ []) ∷  -- rparen
    (LBRACE ∷ []) ∷  -- lbrace
    (RBRACE ∷ []) ∷  -- rbrace
    (LANGLE ∷ []) ∷  -- langle
    (RANGLE ∷ []) ∷  -- rangle
    (COMMA ∷ []) ∷  -- comma
    (COLON ∷ []) ∷  -- colon
    (EQUALS ∷ []) ∷  -- equals
    (ARROW ∷ []) ∷  -- arrow
    (DIALECT ∷ []) ∷  -- dialect
    (ARRAY ∷ []) ∷  -- array
    (DENSE ∷ []) ∷  -- dense
    (I64 ∷ []) ∷  -- i64
    []

-- Symbols that the productions define.
abbrev pub Program : ℕ
Program = 43

abbrev pub Inputs : ℕ
Inputs = 44

abbrev pub MoreInputs : ℕ
MoreInputs = 45

abbrev pub Outputs : ℕ
Outputs = 46

abbrev pub MoreOutputs : ℕ
MoreOutputs = 47

abbrev pub Ops : ℕ
Ops = 48

abbrev pub NamedOps : ℕ
NamedOps = 49

abbrev pub MoreResults : ℕ
MoreResults = 50

abbrev pub OpRest : ℕ
OpRest = 51

abbrev pub Operands : ℕ
Operands = 52

abbrev pub MoreOperands : ℕ
MoreOperands = 53

abbrev pub Middle : ℕ
Middle = 54

abbrev pub BodiesAfter : ℕ
BodiesAfter = 55

abbrev pub AttributesAfter : ℕ
AttributesAfter = 56

abbrev pub Body : ℕ
Body = 57

abbrev pub MoreBodies : ℕ
MoreBodies = 58

abbrev pub Arguments : ℕ
Arguments = 59

abbrev pub MoreArguments : ℕ
MoreArguments = 60

abbrev pub BodyOps : ℕ
BodyOps = 61

abbrev pub NamedBodyOps : ℕ
NamedBodyOps = 62

abbrev pub OperandTypes : ℕ
OperandTypes = 63

abbrev pub MoreOperandTypes : ℕ
MoreOperandTypes = 64

abbrev pub ResultTypes : ℕ
ResultTypes = 65

abbrev pub ResultTypeList : ℕ
ResultTypeList = 66

abbrev pub MoreResultTypes : ℕ
MoreResultTypes = 67

abbrev pub Attributes : ℕ
Attributes = 68

abbrev pub MoreAttributes : ℕ
MoreAttributes = 69

abbrev pub Value : ℕ
Value = 70

abbrev pub Numbers : ℕ
Numbers = 71

abbrev pub MoreNumbers : ℕ
MoreNumbers = 72

abbrev pub Dense : ℕ
Dense = 73

abbrev pub DenseItems : ℕ
DenseItems = 74

abbrev pub MoreItems : ℕ
MoreItems = 75

abbrev pub Op : ℕ
Op = 76

abbrev pub NamedOp : ℕ
NamedOp = 77

-- how many kinds the code's table has room for, how many numbers are leaves, how many are symbols
abbrev pub kind_count : ℕ
kind_count = 32

abbrev pub leaf_count : ℕ
leaf_count = 43

abbrev pub symbol_count : ℕ
symbol_count = 78

-- k is one of the list
abbrev pub among_symbols : List ℕ → ℕ → Bool
among_symbols [] k = false
among_symbols (x ∷ xs) k = pick (eqb k x) true (among_symbols xs k)

-- a token of this kind can have the role
unfoldable pub matches : ℕ → ℕ → Bool
matches leaf kind = among_symbols (get_or leaf_kinds leaf []) kind
