-- A type as the text writes it.
-- Assumes nothing.
use Rattle.std.specs.Prelude.{ℕ, ◌<◌, ◌≡◌, List, T}
use Rattle.grammar.specs.Symbols.{among_symbols}
use Rattle.types.specs.Tensors.{type_of}
use Rattle.dimrules.specs.declared.TensorType.{TensorType}
use Rattle.program.specs.declared.Parts.{Parts}
use Rattle.places.specs.Places.{count_of, place_of, type_of_part}

-- the type that the token at a byte says
abbrev pub said : List ℕ → ℕ → TensorType
said text at = record { element = (type_of text at).element; shape = (type_of text at).shape }

-- each type of these parts that is noted is the one that its token says
abbrev pub TypesWritten : List ℕ → Parts → List ℕ → Type 0
TypesWritten text p parts = (k j : ℕ) → T (among_symbols parts k) → j < count_of p k → type_of_part text p k j ≡ said text (place_of p k j)
