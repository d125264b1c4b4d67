-- What the reads of a text take where the input is known: a reader over memory says which bytes it still has, and standard input does not.
-- Assumes nothing.
use Rattle.std.specs.Prelude.{ℕ, ◌≡◌, ◌-◌, min, List, [], ◌++◌, length, take, Option, None, Some, ⊤}

-- of the bytes that were there the first are bs and the rest is still there, which is nothing where `End` holds
abbrev pub Took : Option (List ℕ) → Option (List ℕ) → List ℕ → Type 0 → Type 0
Took None new bs End = ⊤
Took (Some xs) None bs End = ⊥
Took (Some xs) (Some ys) bs End = (xs ≡ bs ++ ys) × (End → ys ≡ [])

-- likewise, where only the number of the bytes is told
abbrev pub TookCount : Option (List ℕ) → Option (List ℕ) → ℕ → Type 0 → Type 0
TookCount old new n End = (bs : List ℕ) × (length bs ≡ n) × Took old new bs End

-- `text` has the first bytes of xs, all that it has room for, and the others are counted up to 2^32
pub record IsKept (xs text : List ℕ) (len more : ℕ) : Type 0 where
  pub kept : take len text ≡ take (length text) xs
  pub length-kept : len ≡ min (length xs) (length text)
  pub counted : more ≡ min (length xs - length text) 4294967296
