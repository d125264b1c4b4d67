-- Memory that is written from a place on, one element after the other, as far as there is room.
-- Assumes nothing.
use Rattle.std.specs.Prelude.{ℕ, ◌+◌, List, [], ◌∷◌, ◌++◌, length, take, drop, set, ltb}
use Rattle.lists.specs.Lists.{pick}

-- the place of the next element, and what the memory holds
pub record Memory (A : Type 0) : Type 0 where
  pub place : ℕ
  pub memory : List A

-- memory of numbers
abbrev pub Laid : Type 0
Laid = Memory ℕ

abbrev pub laid : {A : Type 0} → ℕ → List A → Memory A
laid place memory = record { place = place; memory = memory }

-- one element more, where there is room for it
unfoldable pub put : {A : Type 0} → A → Memory A → Memory A
put x l = pick (ltb l.place (length l.memory)) (laid (l.place + 1) (set l.memory l.place x)) l

-- the elements of a list, one after the other
unfoldable pub lay : List ℕ → Laid → Laid
lay [] l = l
lay (x ∷ xs) l = lay xs (put x l)

-- the same from place k on where there is room for all: the rest is as it was
abbrev pub written : List ℕ → ℕ → List ℕ → Laid
written xs k old = laid (k + length xs) (take k old ++ (xs ++ drop (k + length xs) old))
