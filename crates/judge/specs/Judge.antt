-- Refusals 1 to 4 of a text (01, "The twelve refusals").
-- Assumes nothing.
use Rattle.std.specs.Prelude.{ℕ, Bool, false, not, List, [], ◌∷◌, eqb, ltb, length}
use Rattle.lists.specs.Lists.{pick}
use Rattle.text.specs.declared.Token.{Token}
use Rattle.types.specs.Tensors.{type_of}
use Rattle.optable.specs.Table.{op_names, attribute_names, choice_kind_names, choice_names}
use Rattle.optable.specs.Find.{find_op, find_attribute, find_choice_kind, find_choice}
use Rattle.grammar.specs.Symbols.{Program, AttributeName, ChoiceKind, Choice}
use Rattle.syntax.specs.Readings.{Reading, readings_of}
use Rattle.judge.specs.Refusals.{Refusal}
use Rattle.judge.specs.declared.tally.Tally.{Tally}
use Rattle.judge.specs.Roles.{among_roles, op_roles, type_roles}
use Rattle.judge.specs.Tally.{at_start, after_token}
use Rattle.judge.specs.Sizes.{size_passed}

-- "An answer has three numbers: refusal, A, B. Unnamed ones are 0; a byte is its token's first."
abbrev pub refuse : ℕ → ℕ → ℕ → Refusal
refuse n a b = record { number = n; a = a; b = b }

abbrev pub accepted : Refusal
accepted = refuse 0 0 0

-- 3: "well-formed name of an op or type not in this paper, or of an attribute or choice its ops lack in 000; `?`, FLOAT, TOTALORDER too".
-- A name that a list of names lacks has the list's length as its place.
unfoldable pub unknown : List ℕ → ℕ → Token → Bool
unknown text role t =
    pick (among_roles op_roles role) (eqb (find_op text t.start t.end) (length op_names))
    (pick (among_roles type_roles role) (not (type_of text t.start).known)
    (pick (eqb role AttributeName) (eqb (find_attribute text t.start t.end) (length attribute_names))
    (pick (eqb role ChoiceKind) (eqb (find_choice_kind text t.start t.end) (length choice_kind_names))
    (pick (eqb role Choice) (eqb (find_choice text t.start t.end) (length choice_names)) false))))

-- one token, by the state before it: "at one byte 2, 3, 4"
unfoldable pub refusal_at : List ℕ → Tally → Reading → Refusal
refusal_at text s x =
    let size = size_passed text s x.role x.token in
    pick (not x.fits) (refuse 2 x.token.start 0)
    (pick (unknown text x.role x.token) (refuse 3 x.token.start 0)
    (pick (eqb size 0) accepted (refuse 4 x.token.start size)))

-- "the earliest byte": the first reading that is refused
unfoldable pub earliest : List ℕ → Tally → List Reading → Refusal
earliest text s [] = accepted
earliest text s (x ∷ xs) =
    let r = refusal_at text s x in
    let later = earliest text (after_token text s x.role x.token) xs in
    pick (eqb r.number 0) later r

-- "Refusals 1 to 4 come first: 1, then the earliest byte"; 1: "text too long", A "its length" ("Text up to 65,536 bytes").
-- Of a text that is read from byte at on.
abbrev pub refusal_from : List ℕ → ℕ → Refusal
refusal_from text at = pick (ltb 65536 (length text)) (refuse 1 (length text) 0) (earliest text at_start (readings_of Program text at))

-- the whole text
unfoldable pub text_refusal : List ℕ → Refusal
text_refusal text = refusal_from text 0
