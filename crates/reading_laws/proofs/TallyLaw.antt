-- The counts of sizes 3 and 4 over the readings of a text without refusals 1 to 4: within their limits at every token.
-- Assumes nothing.
use mathlib.Core.Path.{◌≡◌, refl, sym, ap, ◌∙◌}
use mathlib.Core.List.{List, [], ◌∷◌, ◌++◌}
use mathlib.Core.Bool.{Bool, true, false, ◌&&◌}
use Prim.Native.Nat.{ℕ, suc, ◌+◌, ◌≤◌}
use native.Mathlib.Omega.{arith}
use lib.Dec.{eqb, ltb}
use borrow.Author.Tests.{ltb-false}
use Rattle.lists.specs.Lists.{pick, All}
use Rattle.grammar.specs.Symbols.{OpName}
use Rattle.syntax.specs.Readings.{Reading}
use Rattle.syntax.specs.Roles.{roles_of}
use Rattle.judge.specs.declared.tally.Tally.{Tally}
use Rattle.judge.specs.Tally.{elements_at, ops_after, tally_depth, after_token}
use Rattle.judge.specs.Sizes.{type_passed, many_elements, many_ops, passes, first_passed, size_passed}
use Rattle.judge.proofs.Theorems.{Each, Sound, token-sound}
use Rattle.program.specs.Parts.{depth_after as depth_after_role}
use Rattle.reading_laws.proofs.DepthLaw.{depth_through}

-- the counts after all of the readings
abbrev pub tally_after : List ℕ → Tally → List Reading → Tally
tally_after text s [] = s
tally_after text s (x ∷ xs) = tally_after text (after_token text s x.role x.token) xs

module _ (text : List ℕ) where
  pub tally-append : (xs ys : List Reading) (s : Tally) → tally_after text s (xs ++ ys) ≡ tally_after text (tally_after text s xs) ys
  tally-append [] ys s = refl
  tally-append (x ∷ xs) ys s = tally-append xs ys (after_token text s x.role x.token)

  -- no reading of either part is refused
  pub each_append : (xs ys : List Reading) (s : Tally) → Each text s (xs ++ ys) → Each text s xs × Each text (tally_after text s xs) ys
  each_append [] ys s e = (tt, e)
  each_append (x ∷ xs) ys s e =
      let h = each_append xs ys (after_token text s x.role x.token) e.1 in
      ((e.0, h.0), h.1)

  pub tally-depth : (xs : List Reading) (s : Tally) → (tally_after text s xs).depth ≡ depth_through s.depth (roles_of xs)
  unfolding after_token tally_depth depth_after_role
  tally-depth [] s = refl
  tally-depth (x ∷ xs) s = tally-depth xs (after_token text s x.role x.token)

  -- no count falls
  ops-one : (s : Tally) (x : Reading) → s.ops ≤ (after_token text s x.role x.token).ops
  unfolding after_token ops_after
  ops-one s x = go (eqb x.role OpName)
    where
      go : (b : Bool) → s.ops ≤ pick b (s.ops + 1) s.ops
      go true = omega arith
      go false = omega arith

  pub elements-one : (s : Tally) (x : Reading) → s.elements ≤ (after_token text s x.role x.token).elements
  unfolding after_token
  elements-one s x = omega arith

  pub ops-grow : (xs : List Reading) (s : Tally) → s.ops ≤ (tally_after text s xs).ops
  ops-grow [] s = omega arith
  ops-grow (x ∷ xs) s = omega (arith, ops-one s x, ops-grow xs (after_token text s x.role x.token))

  pub elements-grow : (xs : List Reading) (s : Tally) → s.elements ≤ (tally_after text s xs).elements
  elements-grow [] s = omega arith
  elements-grow (x ∷ xs) s = omega (arith, elements-one s x, elements-grow xs (after_token text s x.role x.token))

  -- a token that passes no size
  none_passed : (n : ℕ) (bs : List Bool) → first_passed (suc n) bs ≡ 0 → All (λ b. b ≡ false) bs
  unfolding first_passed
  none_passed n [] e = tt
  none_passed n (true ∷ bs) e = absurd (omega arith)
  none_passed n (false ∷ bs) e = (refl, none_passed (suc n) bs e)

  pub passes_none : (s : Tally) (x : Reading) → size_passed text s x.role x.token ≡ 0 → All (λ b. b ≡ false) (passes text s x.role x.token)
  unfolding size_passed
  passes_none s x e = none_passed 0 (passes text s x.role x.token) e

  pub record Few (s : Tally) : Type 0 where
    pub ops : s.ops ≤ 256
    pub elements : s.elements ≤ 8192

  few-one : (s : Tally) (x : Reading) → Few s → All (λ b. b ≡ false) (passes text s x.role x.token) → Few (after_token text s x.role x.token)
  unfolding passes many_elements many_ops after_token ops_after
  few-one s x f a =
      record {
        ops = go (eqb x.role OpName) (ltb 256 (s.ops + 1)) refl a.1.1.1.0;
        elements = ltb-false 8192 (s.elements + elements_at text s x.role x.token) a.1.1.0;
      }
    where
      go : (b c : Bool) → ltb 256 (s.ops + 1) ≡ c → b && c ≡ false → pick b (s.ops + 1) s.ops ≤ 256
      go true true q e = let z : ◌≡◌ {A = ℕ} 0 1 = cc in absurd (omega arith)
      go true false q e = ltb-false 256 (s.ops + 1) q
      go false c q e = f.ops

  -- sizes 3 and 4 are kept to the last token
  pub few-after : (xs : List Reading) (s : Tally) → Few s → Each text s xs → Few (tally_after text s xs)
  few-after [] s f e = f
  few-after (x ∷ xs) s f e =
      few-after xs (after_token text s x.role x.token) (few-one s x f (passes_none s x (token-sound text s x e.0).sized)) e.1
