-- Laws of the loops over the readings of a text: a token that fits, a token that does not fit, and how many bodies can be open.
-- Assumes nothing.
use mathlib.Core.Path.{◌≡◌, refl}
use mathlib.Core.List.{List, [], ◌∷◌}
use mathlib.Core.Bool.{Bool, true, false}
use Prim.Native.Nat.{ℕ, ◌+◌, ◌-◌, ◌≤◌}
use native.Mathlib.Omega.{arith}
use lib.Dec.{eqb}
use Rattle.lists.specs.Lists.{pick}
use Rattle.text.specs.declared.Token.{Token}
use Rattle.grammar.specs.Symbols.{BodyOpen, BodyClose}
use Rattle.syntax.specs.Readings.{Reading, reading}
use Rattle.program.specs.declared.Parts.{Parts}
use Rattle.program.specs.declared.Program.{Program}
use Rattle.program.specs.Parts.{part_of, noted, depth_after, parts_from}
use Rattle.program.specs.Program.{in_header, names_op, begins_op, naming_after, outlined, program_from}

pick_same : {A : Type 0} (b : Bool) (x : A) → pick b x x ≡ x
pick_same true x = refl
pick_same false x = refl

-- a token opens at most one body
pub depth-next : (depth role : ℕ) → depth_after depth role ≤ depth + 1
unfolding depth_after
depth-next depth role = go (eqb role BodyOpen) (eqb role BodyClose)
  where
    go : (a b : Bool) → pick a (depth + 1) (pick b (depth - 1) depth) ≤ depth + 1
    go true b = omega arith
    go false true = omega arith
    go false false = omega arith

pub parts_next : (level : ℕ) (p : Parts) (depth role : ℕ) (t : Token) (xs : List Reading) →
    parts_from level p depth (reading true role t ∷ xs) ≡ parts_from level (pick (eqb depth level) (noted p role t.start) p) (depth_after depth role) xs
unfolding parts_from
parts_next level p depth role t xs = refl

-- a token that does not fit has no role, and belongs to no part
pub parts-stop : (level : ℕ) (p : Parts) (depth : ℕ) (t : Token) → parts_from level p depth (reading false 0 t ∷ []) ≡ p
unfolding parts_from noted part_of
parts-stop level p depth t = pick_same (eqb depth level) p

pub program-next : (p : Program) (naming : Bool) (depth role : ℕ) (t : Token) (xs : List Reading) →
    program_from p naming depth (reading true role t ∷ xs) ≡
    program_from (pick (eqb depth 0) (outlined p naming role t.start) p) (pick (eqb depth 0) (naming_after naming role) naming) (depth_after depth role) xs
unfolding program_from
program-next p naming depth role t xs = refl

pub program-stop : (p : Program) (naming : Bool) (depth : ℕ) (t : Token) → program_from p naming depth (reading false 0 t ∷ []) ≡ p
unfolding program_from outlined in_header begins_op names_op
program-stop p true depth t = pick_same (eqb depth 0) p
program-stop p false depth t = pick_same (eqb depth 0) p
