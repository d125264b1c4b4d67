-- Value names in scope over the readings of one op: refusals 5 and 6. "Names are checked in each op as operands, body, result; the first fault answers;
-- body names are forgotten at its closing brace."
-- Assumes nothing.
use Rattle.std.specs.Prelude.{ℕ, ◌+◌, ◌-◌, List, [], ◌∷◌, Bool, true, false, not, ◌&&◌, ltb, eqb}
use Rattle.lists.specs.Lists.{pick}
use Rattle.scan.specs.Bytes.{among}
use Rattle.text.specs.Lex.{token_at}
use Rattle.text.specs.Names.{same_name}
use Rattle.text.specs.declared.names.Name.{Name}
use Rattle.grammar.specs.Symbols.{InputName, ResultName, OpName, FuncReturn, OperandName, BodyOpen, ArgumentName, BodyOpName, BodyReturn, BodyClose, comma, equals, Op}
use Rattle.syntax.specs.Readings.{Reading, readings_of}
use Rattle.scope.specs.Faults.{NameFault}

-- An entry is a number: a defined name is its first byte, less than 131,072; then the opening of a body; above it a waiting name, a result whose op is
-- still being read. The last entry stands first.
abbrev pub body : ℕ
body = 131072

abbrev pub waiting : ℕ → ℕ
waiting a = a + 131073

abbrev pub waiting_name : ℕ → ℕ
waiting_name e = e - 131073

-- the name whose first byte is a, as a whole token
unfoldable pub name_at : List ℕ → ℕ → Name
name_at text a = record { at = a; len = (token_at text a).end - a }

-- names are compared byte by byte
unfoldable pub same_at : List ℕ → ℕ → ℕ → Bool
same_at text a b = same_name text (name_at text a) (name_at text b)

-- the entry defines the name at a
unfoldable pub defines : List ℕ → ℕ → ℕ → Bool
defines text e a = ltb e body && same_at text e a

-- "defined before": outer names are visible in a body, waiting names are not
unfoldable pub visible : List ℕ → ℕ → List ℕ → Bool
visible text a [] = false
visible text a (e ∷ es) = pick (defines text e a) true (visible text a es)

-- the entries, or refusal 5 or 6 and the byte of its name
pub data Scope : Type 0 where
  scope : List ℕ → Scope
  fault : ℕ → ℕ → Scope

-- refusal 5 or 6 and the byte of its name; both 0 where no name is refused
unfoldable pub fault_of : Scope → NameFault
fault_of (scope es) = record { refusal = 0; a = 0 }
fault_of (fault n a) = record { refusal = n; a = a }

abbrev pub and_then : Scope → (List ℕ → Scope) → Scope
and_then (scope es) f = f es
and_then (fault n a) f = fault n a

-- "value name defined twice"
unfoldable pub define : List ℕ → ℕ → List ℕ → Scope
define text a es = pick (visible text a es) (fault 6 a) (scope (a ∷ es))

-- "value name not defined before"
unfoldable pub look : List ℕ → ℕ → List ℕ → Scope
look text a es = pick (visible text a es) (scope es) (fault 5 a)

-- the results of the op that ends are defined one after the other, the first one first
unfoldable pub settle : List ℕ → List ℕ → Scope
settle text [] = scope []
settle text (e ∷ es) = pick (ltb body e) (and_then (settle text es) (define text (waiting_name e))) (scope (e ∷ es))

-- "body names are forgotten at its closing brace"
unfoldable pub forget : List ℕ → List ℕ
forget [] = []
forget (e ∷ es) = pick (eqb e body) es (forget es)

-- an op begins at its first result name, or at its quoted name where it has none; before is the role of the token before
unfoldable pub begins : ℕ → ℕ → Bool
begins before role =
    pick (eqb role ResultName) (not (eqb before comma))
    (pick (among (OpName ∷ FuncReturn ∷ BodyOpName ∷ BodyReturn ∷ []) role) (not (eqb before equals)) false)

-- the op before ends where another begins, and where its body ends
unfoldable pub ends : ℕ → ℕ → Bool
ends before role = pick (eqb role BodyClose) true (begins before role)

-- what a token of this role at byte a does
unfoldable pub placed : List ℕ → ℕ → ℕ → List ℕ → Scope
placed text role a es =
    pick (among (InputName ∷ ArgumentName ∷ []) role) (define text a es)
    (pick (eqb role ResultName) (scope (waiting a ∷ es))
    (pick (eqb role OperandName) (look text a es)
    (pick (eqb role BodyOpen) (scope (body ∷ es))
    (pick (eqb role BodyClose) (scope (forget es)) (scope es)))))

unfoldable pub turned : List ℕ → ℕ → ℕ → ℕ → List ℕ → Scope
turned text before role a es = pick (ends before role) (and_then (settle text es) (placed text role a)) (placed text role a es)

-- the tokens in turn
unfoldable pub names_from : List ℕ → ℕ → List ℕ → List Reading → Scope
names_from text before es [] = scope es
names_from text before es (x ∷ xs) = and_then (turned text before x.role x.token.start es) (λ rest. names_from text x.role rest xs)

-- the names of the op whose first token is at or after byte at; its own results come last
unfoldable pub names_of : List ℕ → ℕ → List ℕ → Scope
names_of text at es = and_then (names_from text 0 es (readings_of Op text at)) (settle text)

-- "duplicate input names": 6 at the first input whose name is an earlier one's
unfoldable pub inputs_from : List ℕ → List ℕ → List ℕ → Scope
inputs_from text es [] = scope es
inputs_from text es (a ∷ places) = and_then (define text a es) (λ rest. inputs_from text rest places)
