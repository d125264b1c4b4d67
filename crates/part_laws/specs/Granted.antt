-- What holds of the header, of each op and of each body of a text that reading passes: no type, name or count of theirs is one that a definition of verifying
-- has to stand something else in for.
-- Assumes nothing.
use Rattle.std.specs.Prelude.{ℕ, ◌+◌, ◌<◌, ◌≤◌, ◌≡◌, true, List, [], ◌∷◌, T, length}
use Rattle.grammar.specs.Symbols.{among_symbols}
use Rattle.types.specs.Tensors.{type_of}
use Rattle.optable.specs.Table.{op_names}
use Rattle.optable.specs.Find.{find_op}
use Rattle.text.specs.Lex.{token_at}
use Rattle.program.specs.declared.Parts.{Parts}
use Rattle.program.specs.Parts.{body_at}
use Rattle.places.specs.Places.{op_name, result_name, operand_name, operand_type, result_type, body_open, input_name, input_type, output_type, count_of, place_of}

-- a tensor type of 01 within sizes 1 and 2 is written at a byte
pub record TypeStands (text : List ℕ) (at : ℕ) : Type 0 where
  pub known : (type_of text at).known ≡ true
  pub sized : (type_of text at).passed ≡ 0

-- the parts that are types
abbrev pub type_parts : List ℕ
type_parts = operand_type ∷ result_type ∷ input_type ∷ output_type ∷ []

-- every type that is noted
abbrev pub TypesStand : List ℕ → Parts → Type 0
TypesStand text p = (k j : ℕ) → T (among_symbols type_parts k) → j < count_of p k → j < 8 → TypeStands text (place_of p k j)

-- "At most 8 operands of an op, inputs, or results" (01, Sizes, 5): part k is whole
abbrev pub AtMostEight : Parts → List ℕ → Type 0
AtMostEight p ks = (k : ℕ) → T (among_symbols ks k) → count_of p k ≤ 8

-- an op, by its parts; and the bodies of it that are noted
pub record OpGranted (text : List ℕ) (op : Parts) : Type 0 where
  pub types : TypesStand text op
  pub few : AtMostEight op (result_name ∷ operand_name ∷ operand_type ∷ result_type ∷ [])
  pub bodies : (j : ℕ) → j < count_of op body_open → j < 8 → TypesStand text (body_at text (place_of op body_open j))

-- an op that is not the return: its name is one of the op table's
pub record NameGranted (text : List ℕ) (op : Parts) : Type 0 where
  pub stands : 0 < count_of op op_name
  pub known : find_op text (place_of op op_name 0) (token_at text (place_of op op_name 0)).end < length op_names

-- the header
pub record HeaderGranted (text : List ℕ) (header : Parts) : Type 0 where
  pub types : TypesStand text header
  pub few : AtMostEight header (input_name ∷ input_type ∷ output_type ∷ [])
