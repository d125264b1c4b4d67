-- Value names: refusals 5 and 6 (01, "The twelve refusals": "Names are checked in each op as operands, body, result; the first fault answers; body names are
-- forgotten at its closing brace"). A name is told by its first byte.
-- Assumes nothing.
use Rattle.std.specs.Prelude.{ℕ, List, [], ◌∷◌, map, Bool, false, ◌||◌, eqb}
use Rattle.lists.specs.Lists.{pick}
use Rattle.scan.specs.Bytes.{among}
use Rattle.grammar.specs.Symbols.{InputName, ResultName, OperandName, BodyOpen, ArgumentName, BodyClose, Op}
use Rattle.syntax.specs.Readings.{Reading, readings_of}
use Rattle.scope.specs.Faults.{NameFault}
use Rattle.scope.specs.Scope.{same_at, ends}

-- a name that is defined, a body that is open, or a result whose op is still being read; of a list of entries the last one stands first
pub data Entry : Type 0 where
  defined : ℕ → Entry
  opened : Entry
  pending : ℕ → Entry

-- the entries, or refusal 5 or 6 and the byte of its name
pub data Checked : Type 0 where
  entries : List Entry → Checked
  refused : ℕ → ℕ → Checked

-- "the first fault answers"
abbrev pub then_checked : Checked → (List Entry → Checked) → Checked
then_checked (entries es) next = next es
then_checked (refused n a) next = refused n a

-- the refusal and the byte of its name; both 0 where no name is refused
unfoldable pub checked_fault : Checked → NameFault
checked_fault (entries es) = record { refusal = 0; a = 0 }
checked_fault (refused n a) = record { refusal = n; a = a }

-- the entry defines the name at byte a; names are compared byte by byte
unfoldable pub defines_name : List ℕ → ℕ → Entry → Bool
defines_name text a (defined b) = same_at text b a
defines_name text a opened = false
defines_name text a (pending b) = false

-- "defined before": in a body outer names are visible, and the results of an op that is still being read are not
unfoldable pub is_visible : List ℕ → ℕ → List Entry → Bool
is_visible text a [] = false
is_visible text a (e ∷ es) = defines_name text a e || is_visible text a es

-- 5, "value name not defined before"
unfoldable pub use_name : List ℕ → ℕ → List Entry → Checked
use_name text a es = pick (is_visible text a es) (entries es) (refused 5 a)

-- 6, "value name defined twice"
unfoldable pub define_name : List ℕ → ℕ → List Entry → Checked
define_name text a es = pick (is_visible text a es) (refused 6 a) (entries (defined a ∷ es))

-- the op ends: its results are defined, the first one first
unfoldable pub settled : List ℕ → List Entry → Checked
settled text [] = entries []
settled text (defined a ∷ es) = entries (defined a ∷ es)
settled text (opened ∷ es) = entries (opened ∷ es)
settled text (pending a ∷ es) = then_checked (settled text es) (define_name text a)

-- "body names are forgotten at its closing brace"
unfoldable pub forgotten : List Entry → List Entry
forgotten [] = []
forgotten (defined a ∷ es) = forgotten es
forgotten (opened ∷ es) = es
forgotten (pending a ∷ es) = forgotten es

-- what a token does: the name of an input or of a body's argument is defined, a result's waits for the end of its op, an operand's is looked up, a brace opens
-- a body or ends it
unfoldable pub on_token : List ℕ → ℕ → ℕ → List Entry → Checked
on_token text role a es =
    pick (among (InputName ∷ ArgumentName ∷ []) role) (define_name text a es)
    (pick (eqb role ResultName) (entries (pending a ∷ es))
    (pick (eqb role OperandName) (use_name text a es)
    (pick (eqb role BodyOpen) (entries (opened ∷ es))
    (pick (eqb role BodyClose) (entries (forgotten es)) (entries es)))))

-- one token after another of role before: an op that ends there has its results defined first
unfoldable pub token_checked : List ℕ → ℕ → ℕ → ℕ → List Entry → Checked
token_checked text before role a es = pick (ends before role) (then_checked (settled text es) (on_token text role a)) (on_token text role a es)

-- the tokens in turn
unfoldable pub names_read : List ℕ → ℕ → List Entry → List Reading → Checked
names_read text before es [] = entries es
names_read text before es (x ∷ xs) = then_checked (token_checked text before x.role x.token.start es) (λ rest. names_read text x.role rest xs)

-- the op whose first token is at or after byte at; known are the names of the values defined before it, the last one first
unfoldable pub op_names_read : List ℕ → ℕ → List ℕ → Checked
op_names_read text at known = then_checked (names_read text 0 (map defined known) (readings_of Op text at)) (settled text)

-- its refusal 5 or 6
unfoldable pub op_names_fault : List ℕ → ℕ → List ℕ → NameFault
op_names_fault text at known = checked_fault (op_names_read text at known)

-- names defined one after the other
unfoldable pub names_defined : List ℕ → List Entry → List ℕ → Checked
names_defined text es [] = entries es
names_defined text es (a ∷ places) = then_checked (define_name text a es) (λ rest. names_defined text rest places)

-- "Then duplicate input names": 6 at the first input whose name is an earlier one's
unfoldable pub input_names_fault : List ℕ → List ℕ → NameFault
input_names_fault text places = checked_fault (names_defined text [] places)
