-- How many tokens a part has: those of its role outside bodies, and no more.
-- Assumes nothing.
use mathlib.Core.Path.{◌≡◌, refl, sym, ap, subst, ◌∙◌}
use mathlib.Core.List.{List, [], ◌∷◌, ◌++◌}
use mathlib.Core.Bool.{Bool, true, false, not}
use Prim.Native.Nat.{ℕ, zero, suc, ◌+◌, ◌-◌, ◌*◌, ◌<◌, ◌≤◌, min}
use native.Mathlib.Omega.{arith}
use lib.Dec.{T, eqb, eqb→eq, ltb}
use lib.ListN.{length, get_or, set, length-set, replicate}
use lib.Seq.{get_or-set_same, get_or-set_other}
use borrow.Author.Tests.{eqb-true, eqb-false, ltb-true, ltb-false, ne_eqb}
use Rattle.lists.specs.Lists.{pick}
use Rattle.grammar.specs.Symbols.{among_symbols}
use Rattle.grammar.proofs.TableTest.{both, both_left, both_right, or, or_cases}
use Rattle.grammar.proofs.Within.{all_pass, member-passes}
use Rattle.syntax.specs.Readings.{Reading}
use Rattle.syntax.specs.Roles.{roles_of}
use Rattle.program.specs.declared.Parts.{Parts}
use Rattle.program.specs.Parts.{part_of, added_to, noted, depth_after, parts_from}
use Rattle.places.specs.Places.{count_of, place_of}
use Rattle.reading_laws.proofs.CountLaw.{Wide, noted-count, wide-noted}
use Rattle.part_laws.proofs.DepthLaw.{outside}

-- how many of the roles, from depth d on, belong to part k outside every body
abbrev pub own : ℕ → ℕ → ℕ → ℕ
own k d r = pick (eqb d 0) (pick (eqb (part_of r) k) 1 0) 0

abbrev pub owned : ℕ → ℕ → List ℕ → ℕ
owned k d [] = 0
owned k d (r ∷ rs) = own k d r + owned k (depth_after d r) rs

token-wide : (d : ℕ) (p : Parts) (role place : ℕ) → Wide p → Wide (pick (eqb d 0) (noted p role place) p)
token-wide d p role place w = go (eqb d 0)
  where
    go : (b : Bool) → Wide (pick b (noted p role place) p)
    go true = wide-noted p role place w
    go false = w

token-count : (d : ℕ) (p : Parts) (k role place : ℕ) → Wide p → k < 11 → count_of (pick (eqb d 0) (noted p role place) p) k ≡ min (count_of p k + own k d role) 9
token-count d p k role place w h = go (eqb d 0)
  where
    go : (b : Bool) → count_of (pick b (noted p role place) p) k ≡ min (count_of p k + pick b (pick (eqb (part_of role) k) 1 0) 0) 9
    go true = noted-count p role place k w h
    go false = let n = w.nine k h in omega arith

-- a part has so many tokens, nine standing for more than eight
pub parts-count : (k d : ℕ) (p : Parts) (xs : List Reading) → Wide p → k < 11 → count_of (parts_from 0 p d xs) k ≡ min (count_of p k + owned k d (roles_of xs)) 9
unfolding parts_from
parts-count k d p [] w h = let n = w.nine k h in omega arith
parts-count k d p (x ∷ xs) w h =
    let q = pick (eqb d 0) (noted p x.role x.token.start) p in
    let a = token-count d p k x.role x.token.start w h in
    let b = parts-count k (depth_after d x.role) q xs (token-wide d p x.role x.token.start w) h in
    omega arith

-- ---- roles of other parts

not-false : (b : Bool) → T (not b) → b ≡ false
not-false true t = absurd t
not-false false t = refl

-- no member of the set belongs to part k
abbrev pub without : ℕ → List ℕ → Bool
without k set = all_pass (λ r. not (eqb (part_of r) k)) set

own-none : (k : ℕ) (set : List ℕ) (d r : ℕ) → T (without k set) → T (or (ltb 0 d) (among_symbols set r)) → own k d r ≡ 0
own-none k set zero r f t = rw (not-false (eqb (part_of r) k) (member-passes (λ x. not (eqb (part_of x) k)) set r f t))
own-none k set (suc d) r f t = rw (ne_eqb (suc d) 0 (λ e. omega arith))

-- what stands outside bodies being of the set, none belongs to part k; what follows is counted from depth 0 on
pub owned-past : (k : ℕ) (set : List ℕ) → T (without k set) → (d : ℕ) (ls ms : List ℕ) → T (outside set d ls) → owned k d (ls ++ ms) ≡ owned k 0 ms
owned-past k set f d [] ms t = ap (λ (n : ℕ). owned k n ms) (eqb→eq d 0 t)
owned-past k set f d (r ∷ rs) ms t =
    let a = or (ltb 0 d) (among_symbols set r) in
    let b = outside set (depth_after d r) rs in
    let e = own-none k set d r f (both_left a b t) in
    let i = owned-past k set f (depth_after d r) rs ms (both_right a b t) in
    omega arith

-- what follows is counted from depth 0 on
pub owned-append : (k : ℕ) (set : List ℕ) (d : ℕ) (ls ms : List ℕ) → T (outside set d ls) → owned k d (ls ++ ms) ≡ owned k d ls + owned k 0 ms
owned-append k set d [] ms t = let e = ap (λ (n : ℕ). owned k n ms) (eqb→eq d 0 t) in omega arith
owned-append k set d (r ∷ rs) ms t =
    let i = owned-append k set (depth_after d r) rs ms (both_right (or (ltb 0 d) (among_symbols set r)) (outside set (depth_after d r) rs) t) in
    omega arith
