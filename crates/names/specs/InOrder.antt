-- The names of one op in the order of 01: "Names are checked in each op as operands, body, result; the first fault answers".
-- Assumes nothing.
use Rattle.std.specs.Prelude.{ℕ, List, [], ◌∷◌, ◌++◌, map, not, ◌&&◌, eqb}
use Rattle.lists.specs.Lists.{pick}
use Rattle.grammar.specs.Symbols.{ResultName, OperandName, BodyOpen}
use Rattle.syntax.specs.Readings.{Reading}
use Rattle.program.specs.Parts.{depth_after}
use Rattle.names.specs.Names.{Entry, defined, Checked, entries, then_checked, use_name, names_read, names_defined}

-- the first bytes of the tokens of a role that stand outside bodies, inside so many of which the first token stands
unfoldable pub own_places : ℕ → ℕ → List Reading → List ℕ
own_places role depth [] = []
own_places role depth (x ∷ xs) = pick (eqb depth 0 && eqb x.role role) (x.token.start ∷ []) [] ++ own_places role (depth_after depth x.role) xs

-- the tokens of bodies, with their braces
unfoldable pub body_readings : ℕ → List Reading → List Reading
body_readings depth [] = []
body_readings depth (x ∷ xs) = pick (eqb depth 0 && not (eqb x.role BodyOpen)) [] (x ∷ []) ++ body_readings (depth_after depth x.role) xs

-- names looked up one after the other
unfoldable pub names_used : List ℕ → List Entry → List ℕ → Checked
names_used text es [] = entries es
names_used text es (a ∷ places) = then_checked (use_name text a es) (λ rest. names_used text rest places)

-- "the first fault answers"
abbrev pub first_fault : Checked → Checked → Checked
first_fault earlier later = then_checked earlier (λ _. later)

-- an op by its readings: each against the names of the values defined before it
unfoldable pub operands_body_result : List ℕ → List Reading → List ℕ → Checked
operands_body_result text xs known =
    first_fault (names_used text (map defined known) (own_places OperandName 0 xs))
    (first_fault (names_read text 0 (map defined known) (body_readings 0 xs))
    (names_defined text (map defined known) (own_places ResultName 0 xs)))
