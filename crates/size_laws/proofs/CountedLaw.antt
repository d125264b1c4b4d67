-- The tally's ops and elements before a token: the op names and the elements of the types among the readings before it.
-- Assumes nothing.
use mathlib.Core.Path.{◌≡◌, refl, ap, ◌∙◌}
use mathlib.Core.Bool.{Bool, true, false, ◌&&◌, ◌||◌}
use mathlib.Core.List.{List, [], ◌∷◌}
use Prim.Native.Nat.{ℕ, ◌+◌, ◌≤◌, ◌<◌}
use native.Mathlib.Omega.{arith}
use lib.Dec.{eqb}
use Rattle.lists.specs.Lists.{pick}
use Rattle.text.specs.declared.Token.{Token}
use Rattle.shape.specs.Index.{size}
use Rattle.shape.specs.Dims.{dims_of}
use Rattle.types.specs.Tensors.{type_of}
use Rattle.grammar.specs.Symbols.{InputType, OpName, ResultType}
use Rattle.syntax.specs.Readings.{Reading}
use Rattle.judge.specs.declared.tally.Tally.{Tally}
use Rattle.judge.specs.Tally.{at_start, counts, elements_at, ops_after, tally_depth, after_token}
use Rattle.program.specs.Parts.{depth_after}
use Rattle.reading_laws.proofs.TallyLaw.{tally_after}
use Rattle.size_laws.specs.SizeSentences.{turned_onto, latest_first, of_role, open_bodies, counted_type, type_elements, elements_through}
use Rattle.size_laws.proofs.MachineLaw.{state_by}
use Rattle.size_laws.proofs.OpenLaw.{OpenedEach, depth-open}

module _ (text : List ℕ) where
  -- the tally after the readings, the latest first
  abbrev pub tally_of : List Reading → Tally
  tally_of [] = at_start
  tally_of (x ∷ earlier) = after_token text (tally_of earlier) x.role x.token

  tally-onto : (earlier xs : List Reading) → tally_after text (tally_of earlier) xs ≡ tally_of (turned_onto earlier xs)
  tally-onto earlier [] = refl
  tally-onto earlier (x ∷ xs) = tally-onto (x ∷ earlier) xs

  pub tally-turned : (xs : List Reading) → tally_after text at_start xs ≡ tally_of (latest_first xs)
  tally-turned xs = tally-onto [] xs

  -- ---- size 4

  one-op : (n : ℕ) (b : Bool) → pick b (n + 1) n ≡ n + pick b 1 0
  one-op n true = refl
  one-op n false = omega arith

  pub tally-ops : (earlier : List Reading) → (tally_of earlier).ops ≡ of_role OpName earlier
  unfolding after_token ops_after
  tally-ops [] = refl
  tally-ops (x ∷ earlier) = one-op (tally_of earlier).ops (eqb x.role OpName) ∙ ap (λ (n : ℕ). n + pick (eqb x.role OpName) 1 0) (tally-ops earlier)

  -- ---- size 3

  tally_state : (earlier : List Reading) → (tally_of earlier).depth ≡ state_by depth_after 0 earlier
  unfolding after_token tally_depth depth_after
  tally_state [] = refl
  tally_state (x ∷ earlier) = ap (λ (d : ℕ). depth_after d x.role) (tally_state earlier)

  pub tally-open : (earlier : List Reading) → OpenedEach earlier → (tally_of earlier).depth ≡ open_bodies earlier
  tally-open earlier k = tally_state earlier ∙ depth-open earlier k

  by_tests : (a b c : Bool) (n : ℕ) → pick (a && b && c) n 0 ≡ pick a (pick (b && c) n 0) 0
  by_tests true b c n = refl
  by_tests false b c n = refl

  elements-here : (earlier : List Reading) (x : Reading) → OpenedEach earlier → elements_at text (tally_of earlier) x.role x.token ≡ pick (counted_type earlier x) (type_elements text x) 0
  unfolding elements_at counts
  elements-here earlier x k =
      let t = type_of text x.token.start in
      by_tests (counts (tally_of earlier) x.role) t.known (eqb t.passed 0) (size (dims_of t.shape)) ∙
      ap (λ (d : ℕ). pick (eqb x.role InputType || (eqb x.role ResultType && eqb d 0)) (type_elements text x) 0) (tally-open earlier k)

  pub elements-with : (earlier : List Reading) (x : Reading) → OpenedEach earlier → (tally_of earlier).elements ≡ elements_through text earlier →
      (tally_of earlier).elements + elements_at text (tally_of earlier) x.role x.token ≡ elements_through text (x ∷ earlier)
  elements-with earlier x k e = let h = elements-here earlier x k in omega arith

  pub tally-elements : (earlier : List Reading) → OpenedEach earlier → (tally_of earlier).elements ≡ elements_through text earlier
  unfolding after_token
  tally-elements [] k = refl
  tally-elements (x ∷ earlier) k = elements-with earlier x k.1 (tally-elements earlier k.1)

  -- "the token that passes it": where the elements before it are at the limit, it is a type that is counted, and has elements
  pub passing-type : (earlier : List Reading) (x : Reading) → elements_through text earlier ≤ 8192 → 8192 < elements_through text (x ∷ earlier) →
      (counted_type earlier x ≡ true) × (8192 < elements_through text earlier + type_elements text x)
  passing-type earlier x h g = go (counted_type earlier x) refl g
    where
      go : (b : Bool) → counted_type earlier x ≡ b → 8192 < elements_through text earlier + pick b (type_elements text x) 0 →
          (counted_type earlier x ≡ true) × (8192 < elements_through text earlier + type_elements text x)
      go true e l = (e, l)
      go false e l = absurd (omega arith)
