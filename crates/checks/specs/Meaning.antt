-- What tests and comparisons say, as propositions about whole numbers.
-- Assumes nothing.
use Rattle.std.specs.Prelude.{◌≡◌, ◌⊎◌, true, ℕ, ◌<◌, ℤ, ◌≤ℤ◌, ◌<ℤ◌}
use Rattle.checks.specs.Check.{Term, is, missing, Relation, equal, less, at_most, Test, compare, fact, or_else}
use Rattle.checks.specs.Formula.{Side, one, many, side_at, place_count}

abbrev pub Related : Relation → ℤ → ℤ → Type 0
Related equal a b = a ≡ b
Related less a b = a <ℤ b
Related at_most a b = a ≤ℤ b

-- a comparison that names a place that doesn't exist is broken
abbrev pub Compares : Term → Relation → Term → Type 0
Compares (is a) r (is b) = Related r a b
Compares (is a) r missing = ⊥
Compares missing r b = ⊥

abbrev pub TestHolds : Test → Type 0
TestHolds (compare a r b) = Compares a r b
TestHolds (fact b) = b ≡ true
TestHolds (or_else t u) = TestHolds t ⊎ TestHolds u

-- two lists have as many places
abbrev pub AsLong : Side → Side → Type 0
AsLong (one x) b = Unit {0}
AsLong (many l) (one y) = Unit {0}
AsLong (many l) (many m) = l.count ≡ m.count

-- a relation between two sides
abbrev pub Between : Relation → Side → Side → Type 0
Between r a b = AsLong a b × ((d : ℕ) → d < place_count a b → Compares (side_at a d) r (side_at b d))
