-- Laws of the search among roles.
-- Assumes nothing.
use mathlib.Core.Path.{◌≡◌}
use mathlib.Core.Bool.{true, false}
use mathlib.Core.List.{List}
use Prim.Native.Nat.{ℕ, ◌+◌, ◌<◌, ◌≤◌}
use native.Mathlib.Numerals.{add-one}
use lib.ListN.{length, get_or, drop, drop_of_length-le}
use lib.Seq.{drop-cons}
use borrow.Author.Tests.{eq-eqb, ne_eqb}
use Rattle.judge.specs.Roles.{among_roles}

module _ (roles : List ℕ) (role i : ℕ) where
  pub among-here : i < length roles → get_or roles i 0 ≡ role → among_roles (drop i roles) role ≡ true
  unfolding among_roles
  among-here h e = rw (drop-cons roles i 0 h, eq-eqb _ _ e)

  pub among_next : i < length roles → (get_or roles i 0 ≡ role → ⊥) → among_roles (drop i roles) role ≡ among_roles (drop (i + 1) roles) role
  unfolding among_roles
  among_next h n = rw (add-one, drop-cons roles i 0 h, ne_eqb _ _ n)

  pub among-past : length roles ≤ i → among_roles (drop i roles) role ≡ false
  unfolding among_roles
  among-past h = rw (drop_of_length-le roles h)
