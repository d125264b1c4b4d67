-- Words and names of a text compared byte by byte (01, "The text": a name with its sigil; refusals 5 and 6 go by names).
-- Assumes nothing.
use Rattle.std.specs.Prelude.{◌≡◌, Bool, true, false, List, [], ◌∷◌, map, ℕ}
use Prim.Native.String.{String}
use Rattle.scan.specs.Ascii.{ascii}
use Rattle.text.specs.Names.{word_is, same_name}
use Rattle.text.specs.declared.names.Name.{Name}

-- names of this text by their places: %a at 0, %ab at 2, %a at 5, %A at 7, @a at 9, %b at 11
abbrev name_sample : List ℕ
name_sample = ascii "%a%ab%a%A@a%b"

abbrev name_from : ℕ → ℕ → Name
name_from at len = record { at = at; len = len }

-- %a against each name of the text
abbrev pub same_names : List Bool
same_names =
    map (same_name name_sample (name_from 0 2)) (name_from 0 2 ∷ name_from 2 3 ∷ name_from 5 2 ∷ name_from 7 2 ∷ name_from 9 2 ∷ name_from 11 2 ∷ [])

-- `true` in the text `true truer`: the word itself, less of it, more of it, another word that begins so
abbrev pub words_true : List Bool
words_true =
    word_is (ascii "true") (ascii "true truer") 0 4
    ∷ word_is (ascii "true") (ascii "true truer") 0 3
    ∷ word_is (ascii "true") (ascii "true truer") 0 5
    ∷ word_is (ascii "true") (ascii "true truer") 5 10
    ∷ word_is (ascii "true") (ascii "true truer") 5 9
    ∷ word_is (ascii "True") (ascii "true truer") 0 4
    ∷ word_is (ascii "") (ascii "true truer") 4 4
    ∷ []

pub record NamePinsHold : Type 0 where
  pub names : same_names ≡ true ∷ false ∷ true ∷ false ∷ false ∷ false ∷ []
  pub words : words_true ≡ true ∷ false ∷ false ∷ false ∷ true ∷ false ∷ true ∷ []
