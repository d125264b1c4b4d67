-- What a division's operand is asked, as tests that compute.
-- Assumes nothing.
use Rattle.std.specs.Prelude.{◌≡◌, Bool, true, ◌&&◌, List, [], ◌∷◌, ℕ, length}
use Rattle.element.specs.Types.{is_value}
use Rattle.element.specs.declared.ElementType.{ElementType}

-- every slot is a value of the type
abbrev pub all_values : ElementType → List ℕ → Bool
all_values t [] = true
all_values t (x ∷ xs) = is_value t x && all_values t xs

-- n slots, each a value of the type
abbrev pub Held : ElementType → ℕ → List ℕ → Type 0
Held t n x = (length x ≡ n) × (all_values t x ≡ true)
