-- The body of an op as the code reads it, from its brace on, against the body by its lists of tokens.
-- Assumes nothing.
use Rattle.std.specs.Prelude.{ℕ, ◌<◌, ◌≡◌, List, [], ◌++◌, get_or}
use Rattle.grammar.specs.Symbols.{OpName, Body, Op}
use Rattle.syntax.specs.Readings.{Reading, readings_of, readings}
use Rattle.syntax.specs.OpsAlone.{OpAlone}
use Rattle.program.specs.Parts.{body_at}
use Rattle.places.specs.Places.{input_name, input_type, type_in}
use Rattle.bodies.specs.Bodies.{body_fits, argument_type, body_row}
use Rattle.source.specs.Source.{enclosed, op_from, body_from}
use Rattle.source_laws.specs.Listed.{PartListed}
use Rattle.verifier.specs.BodyForm.{op_number, of_body_form}

-- an op that is no return, read alone from a byte, with the readings that it has in the whole text
pub record OpStands (text : List ℕ) (at : ℕ) : Type 0 where
  pub alone : OpAlone text OpName at
  pub pre : List Reading
  pub post : List Reading
  pub whole : readings text ≡ pre ++ (readings_of Op text at ++ post)

-- the body whose brace is at a byte, as the code has it; and the body by the readings from its brace on
pub record SameBody (text : List ℕ) (brace : ℕ) (piece : List Reading) : Type 0 where
  pub readings : enclosed 0 piece ≡ readings_of Body text brace
  -- 9 standing for more than eight arguments, the first eight by their places
  pub arguments : PartListed (body_at text brace) input_name (body_from piece).arguments
  pub argument_types : PartListed (body_at text brace) input_type (body_from piece).argument_types
  pub types : (j : ℕ) → j < 8 → argument_type text brace j ≡ type_in text (get_or (body_from piece).argument_types j 0)
  -- 01, "Reductions": "The body has two arguments and one op of add, .. on both, each once, either way round, and returns it."
  pub form : body_fits text brace ≡ of_body_form text (body_from piece)
  -- the row in the op table of its first op
  pub row : body_row text brace ≡ op_number text (get_or (body_from piece).ops 0 (op_from []))
