-- Which roles can stand outside the bodies of what a symbol yields. One law over the set of symbols.
-- Assumes nothing.
use mathlib.Core.Path.{◌≡◌, refl, sym, subst}
use mathlib.Core.List.{List, [], ◌∷◌, ◌++◌}
use mathlib.Core.Bool.{Bool, true, false}
use Prim.Native.Nat.{ℕ, zero, suc, ◌+◌, ◌-◌, ◌≤◌}
use native.Mathlib.Omega.{arith}
use native.Mathlib.Nat.{add-zero}
use lib.Dec.{T, eqb, eqb→eq, ltb, ltb→lt, lt→ltb, leb, leb→le}
use borrow.Author.Tests.{ne_eqb}
use Rattle.lists.specs.Lists.{pick}
use Rattle.grammar.specs.Symbols.{BodyOpen, BodyClose, leaf_count, among_symbols}
use Rattle.grammar.specs.Grammar.{Production, grammar}
use Rattle.grammar.specs.Derivation.{◌∈◌}
use Rattle.grammar.specs.Leaves.{Yields, nothing, itself, right}
use Rattle.grammar.proofs.TableTest.{both, both_left, both_right, both-make, implies, implied, or, or_cases}
use Rattle.program.specs.Parts.{depth_after}

or_left : (a b : Bool) → T a → T (or a b)
or_left true b t = tt
or_left false b t = absurd t

or_right : (a b : Bool) → T b → T (or a b)
or_right true b t = tt
or_right false b t = t

-- from depth d on: outside every body only members of the set, and every body is closed
abbrev pub outside : List ℕ → ℕ → List ℕ → Bool
outside set d [] = eqb d 0
outside set d (x ∷ xs) = both (or (ltb 0 d) (among_symbols set x)) (outside set (depth_after d x) xs)

-- a right side, at j bodies more than its symbol, whose members are bound to the set where m holds
abbrev pub relative : List ℕ → Bool → ℕ → List ℕ → Bool
relative set m j [] = eqb j 0
relative set m j (x ∷ xs) = both (or (ltb 0 j) (implies m (among_symbols set x))) (both (implies (eqb x BodyClose) (ltb 0 j)) (relative set m (depth_after j x) xs))

-- what a production has to keep
abbrev pub keeps : List ℕ → Production → Bool
keeps set p = both (leb leaf_count p.left) (relative set (among_symbols set p.left) 0 p.right)

shift-case : (d j : ℕ) (a b : Bool) → T (implies b (ltb 0 j)) → pick a (d + j + 1) (pick b (d + j - 1) (d + j)) ≡ d + pick a (j + 1) (pick b (j - 1) j)
shift-case d j true b t = omega arith
shift-case d j false true t = let h = ltb→lt 0 j t in omega arith
shift-case d j false false t = refl

depth-shift : (d j x : ℕ) → T (implies (eqb x BodyClose) (ltb 0 j)) → depth_after (d + j) x ≡ d + depth_after j x
unfolding depth_after
depth-shift d j x t = shift-case d j (eqb x BodyOpen) (eqb x BodyClose) t

high-depth : (d s : ℕ) → leaf_count ≤ s → depth_after d s ≡ d
unfolding depth_after
high-depth d s h = rw (ne_eqb s BodyOpen (λ e. omega arith), ne_eqb s BodyClose (λ e. omega arith))

module _ (set : List ℕ) where
  shifted : (m : Bool) (d : ℕ) (xs ss : List ℕ) (j : ℕ) → T (relative set m j xs) → T (or (ltb 0 d) m) → T (outside set d ss) → T (outside set (d + j) (xs ++ ss))
  shifted m d [] ss j t u v = let e : d ≡ d + j = (let q : j ≡ 0 = eqb→eq j 0 t in omega arith) in subst (λ (n : ℕ). T (outside set n ss)) e v
  shifted m d (x ∷ xs) ss j t u v =
      let a = or (ltb 0 j) (implies m (among_symbols set x)) in
      let b = implies (eqb x BodyClose) (ltb 0 j) in
      let c = relative set m (depth_after j x) xs in
      let w = both_right a (both b c) t in
      let g = or (ltb 0 (d + j)) (among_symbols set x) in
      both-make g (outside set (depth_after (d + j) x) (xs ++ ss))
      (or_cases (ltb 0 j) (implies m (among_symbols set x)) (T g) (both_left a (both b c) t)
      (λ h. let i = ltb→lt 0 j h in or_left (ltb 0 (d + j)) (among_symbols set x) (lt→ltb 0 (d + j) (omega arith)))
      (λ h. or_cases (ltb 0 d) m (T g) u
      (λ k. let i = ltb→lt 0 d k in or_left (ltb 0 (d + j)) (among_symbols set x) (lt→ltb 0 (d + j) (omega arith)))
      (λ k. or_right (ltb 0 (d + j)) (among_symbols set x) (implied m (among_symbols set x) h k))))
      (subst (λ (n : ℕ). T (outside set n (xs ++ ss))) (sym (depth-shift d j x (both_left b c w))) (shifted m d xs ss (depth_after j x) (both_right b c w) u v))

  module _ (f : (p : Production) → p ∈ grammar → T (keeps set p)) where
    by-rule : (p : Production) → p ∈ grammar → (d : ℕ) (ss : List ℕ) → T (outside set d (p.left ∷ ss)) → T (outside set d (p.right ++ ss))
    by-rule p m d ss t =
        let a = or (ltb 0 d) (among_symbols set p.left) in
        let b = outside set (depth_after d p.left) ss in
        let l = leb leaf_count p.left in
        let r = relative set (among_symbols set p.left) 0 p.right in
        let e = high-depth d p.left (leb→le leaf_count p.left (both_left l r (f p m))) in
        let v : T (outside set d ss) = subst (λ (n : ℕ). T (outside set n ss)) e (both_right a b t) in
        subst (λ (n : ℕ). T (outside set n (p.right ++ ss))) (add-zero d) (shifted (among_symbols set p.left) d p.right ss 0 (both_right l r (f p m)) (both_left a b t) v)

    -- outside bodies, the leaves of members of the set are members of it
    pub yields-outside : {ss ls : List ℕ} → Yields ss ls → (d : ℕ) → T (outside set d ss) → T (outside set d ls)
    yields-outside nothing d t = t
    yields-outside (itself {leaf} {ss} {ls} h y) d t =
        let a = or (ltb 0 d) (among_symbols set leaf) in
        let b = outside set (depth_after d leaf) ss in
        both-make a (outside set (depth_after d leaf) ls) (both_left a b t) (yields-outside y (depth_after d leaf) (both_right a b t))
    yields-outside (right {p} {ss} m y) d t = yields-outside y d (by-rule p m d ss t)

-- one after the other
pub outside-append : (set : List ℕ) (d : ℕ) (xs ys : List ℕ) → T (outside set d xs) → T (outside set 0 ys) → T (outside set d (xs ++ ys))
outside-append set d [] ys t u = subst (λ (n : ℕ). T (outside set n ys)) (sym (eqb→eq d 0 t)) u
outside-append set d (x ∷ xs) ys t u =
    let a = or (ltb 0 d) (among_symbols set x) in
    let b = outside set (depth_after d x) xs in
    both-make a (outside set (depth_after d x) (xs ++ ys)) (both_left a b t) (outside-append set (depth_after d x) xs ys (both_right a b t) u)
