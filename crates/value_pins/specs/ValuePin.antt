-- A computed example: what a definition gives, and what 01 or 000 says that it gives.
-- Assumes nothing.
use Rattle.std.specs.Prelude.{◌≡◌, Bool, List, [], ◌∷◌, map, ℕ, ◌-◌}
use Rattle.lists.specs.Lists.{pick}

pub record ValuePin : Type 0 where
  pub found : List ℕ
  pub told : List ℕ

abbrev pub value_pin : List ℕ → List ℕ → ValuePin
value_pin found told = record { found = found; told = told }

-- of every example: what is found is what is told
abbrev pub Pinned : List ValuePin → Type 0
Pinned pins = map (λ (p : ValuePin). p.found) pins ≡ map (λ (p : ValuePin). p.told) pins

-- the slot of -k: "a signed one modulo 2^64"
abbrev pub neg : ℕ → ℕ
neg k = 18446744073709551616 - k

-- false and true as 0 and 1
abbrev pub bits : List Bool → List ℕ
bits l = map (λ b. pick b 1 0) l

-- f on each pair of numbers that stand at one place of two lists
abbrev pub zipped : (ℕ → ℕ → ℕ) → List ℕ → List ℕ → List ℕ
zipped f [] ys = []
zipped f (x ∷ xs) [] = []
zipped f (x ∷ xs) (y ∷ ys) = f x y ∷ zipped f xs ys
