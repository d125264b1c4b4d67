-- Stretches of the text compared byte by byte.
-- Assumes nothing.
use Rattle.std.specs.Prelude.{ℕ, ◌-◌, List, [], ◌∷◌, Bool, true, false, ◌&&◌, length, take, drop, leb, eqb}
use Rattle.scan.specs.Bytes.{starts_with}
use Rattle.text.specs.declared.names.Name.{Name}

-- whether the bytes from start up to end are this word
unfoldable pub word_is : List ℕ → List ℕ → ℕ → ℕ → Bool
word_is word text start end = leb start end && eqb (end - start) (length word) && starts_with word (drop start text)

unfoldable pub same_bytes : List ℕ → List ℕ → Bool
same_bytes [] [] = true
same_bytes [] (y ∷ ys) = false
same_bytes (x ∷ xs) [] = false
same_bytes (x ∷ xs) (y ∷ ys) = eqb x y && same_bytes xs ys

-- the bytes of a name
unfoldable pub name_bytes : List ℕ → Name → List ℕ
name_bytes text n = take n.len (drop n.at text)

-- whether two stretches are one name
unfoldable pub same_name : List ℕ → Name → Name → Bool
same_name text a b = eqb a.len b.len && same_bytes (name_bytes text a) (name_bytes text b)
