-- Readings inside a body: among the readings of the whole body they are what they are from depth 0 on. One law over the set of roles that stand outside further
-- bodies.
-- Assumes nothing.
use mathlib.Core.Path.{◌≡◌, refl, sym, ap, subst, ◌∙◌}
use mathlib.Core.List.{List, [], ◌∷◌, ◌++◌}
use mathlib.Core.Bool.{Bool, true, false, not, ◌&&◌}
use Prim.Native.Nat.{ℕ, zero, suc, ◌+◌, ◌-◌}
use native.Mathlib.Omega.{arith}
use lib.Dec.{T, eqb, eqb→eq, ltb}
use borrow.Author.Tests.{eqb-true, ne_eqb}
use Rattle.lists.specs.Lists.{pick}
use Rattle.scan.specs.Bytes.{among as one_of}
use Rattle.grammar.specs.Symbols.{BodyOpen, BodyClose, among_symbols}
use Rattle.grammar.proofs.TableTest.{both_left, both_right, both-make, or}
use Rattle.syntax.specs.Readings.{Reading}
use Rattle.syntax.specs.Roles.{roles_of}
use Rattle.program.specs.Parts.{depth_after}
use Rattle.scope.specs.Scope.{begins}
use Rattle.source.specs.Source.{with_role, enclosed}
use Rattle.reading_laws.proofs.DepthLaw.{depth_through}
use Rattle.part_laws.proofs.DepthLaw.{outside, outside-append}
use Rattle.source_laws.proofs.CutLaw.{quiet}
use Rattle.source_laws.proofs.OpCutLaw.{not_T}
use Rattle.source_laws.proofs.HeaderLaw.{role-append}

pub roles-append : (xs ys : List Reading) → roles_of (xs ++ ys) ≡ roles_of xs ++ roles_of ys
roles-append [] ys = refl
roles-append (x ∷ xs) ys = ap (λ (l : List ℕ). x.role ∷ l) (roles-append xs ys)

-- readings one after the other
pub outside-both : (set : List ℕ) (d : ℕ) (xs ys : List Reading) → T (outside set d (roles_of xs)) → T (outside set 0 (roles_of ys)) → T (outside set d (roles_of (xs ++ ys)))
outside-both set d xs ys t u = subst (λ (l : List ℕ). T (outside set d l)) (sym (roles-append xs ys)) (outside-append set d (roles_of xs) (roles_of ys) t u)

same-level : (d : ℕ) → eqb (suc d) 1 ≡ eqb d 0
same-level zero = refl
same-level (suc d) = ne_eqb (suc (suc d)) 1 (λ e. omega arith) ∙ sym (ne_eqb (suc d) 0 (λ e. omega arith))

deeper-case : (d : ℕ) (a b : Bool) → (d ≡ 0 → b ≡ false) → pick a (suc d + 1) (pick b (suc d - 1) (suc d)) ≡ suc (pick a (d + 1) (pick b (d - 1) d))
deeper-case d true b f = omega arith
deeper-case zero false true f = let z : ◌≡◌ {A = ℕ} 0 1 = (let q = f refl in cc) in absurd (omega arith)
deeper-case (suc d) false true f = omega arith
deeper-case d false false f = refl

-- among the roles outside further bodies none closes one
module _ (set : List ℕ) (none : T (not (among_symbols set BodyClose))) where
  no-close : (r : ℕ) → T (among_symbols set r) → eqb r BodyClose ≡ false
  no-close r t = go (eqb r BodyClose) refl
    where
      go : (b : Bool) → eqb r BodyClose ≡ b → b ≡ false
      go true q = absurd (subst T (not_T (among_symbols set BodyClose) none) (subst (λ (n : ℕ). T (among_symbols set n)) (eqb-true r BodyClose q) t))
      go false q = refl

  pub deeper : (d r : ℕ) → T (or (ltb 0 d) (among_symbols set r)) → depth_after (suc d) r ≡ suc (depth_after d r)
  unfolding depth_after
  deeper d r t = deeper-case d (eqb r BodyOpen) (eqb r BodyClose) (λ e. no-close r (subst (λ (n : ℕ). T (or (ltb 0 n) (among_symbols set r))) e t))

  -- the body is still open after them
  pub through-inside : (d : ℕ) (ls : List ℕ) → T (outside set d ls) → depth_through (suc d) ls ≡ 1
  through-inside d [] t = ap suc (eqb→eq d 0 t)
  through-inside d (r ∷ rs) t =
      let a = or (ltb 0 d) (among_symbols set r) in
      let b = outside set (depth_after d r) rs in
      ap (λ (n : ℕ). depth_through n rs) (deeper d r (both_left a b t)) ∙ through-inside (depth_after d r) rs (both_right a b t)

  -- no op begins among them
  pub quiet-inside : (b d : ℕ) (ls : List ℕ) → T (outside set d ls) → T (quiet begins 0 b d ls) → T (quiet begins 1 b (suc d) ls)
  quiet-inside b d [] t u = tt
  quiet-inside b d (r ∷ rs) t u =
      let a = or (ltb 0 d) (among_symbols set r) in
      let o = outside set (depth_after d r) rs in
      let c = not (eqb d 0 && begins b r) in
      let k = quiet begins 0 r (depth_after d r) rs in
      both-make (not (eqb (suc d) 1 && begins b r)) (quiet begins 1 r (depth_after (suc d) r) rs)
      (subst (λ (f : Bool). T (not (f && begins b r))) (sym (same-level d)) (both_left c k u))
      (subst (λ (n : ℕ). T (quiet begins 1 r n rs)) (sym (deeper d r (both_left a o t))) (quiet-inside r (depth_after d r) rs (both_right a o t) (both_right c k u)))

  -- the tokens of some roles
  role_same : (roles : List ℕ) (d : ℕ) (xs : List Reading) → T (outside set d (roles_of xs)) → with_role roles 1 (suc d) xs ≡ with_role roles 0 d xs
  role_same roles d [] t = refl
  role_same roles d (x ∷ xs) t =
      let a = or (ltb 0 d) (among_symbols set x.role) in
      let b = outside set (depth_after d x.role) (roles_of xs) in
      let n = depth_after d x.role in
      let s = x.token.start in
      let i : with_role roles 1 (depth_after (suc d) x.role) xs ≡ with_role roles 0 n xs =
      ap (λ (m : ℕ). with_role roles 1 m xs) (deeper d x.role (both_left a b t)) ∙ role_same roles n xs (both_right a b t) in
      ap (λ (y : List ℕ). pick (eqb (suc d) 1 && one_of roles x.role) (s ∷ y) y) i
      ∙ ap (λ (f : Bool). pick (f && one_of roles x.role) (s ∷ with_role roles 0 n xs) (with_role roles 0 n xs)) (same-level d)

  pub role-inside : (roles : List ℕ) (xs zs : List Reading) → T (outside set 0 (roles_of xs)) → with_role roles 1 1 (xs ++ zs) ≡ with_role roles 0 0 xs ++ with_role roles 1 1 zs
  role-inside roles xs zs t =
      role-append roles 1 1 xs zs
      ∙ (ap (λ (n : ℕ). with_role roles 1 1 xs ++ with_role roles 1 n zs) (through-inside 0 (roles_of xs) t) ∙ ap (λ (l : List ℕ). l ++ with_role roles 1 1 zs) (role_same roles 0 xs t))

  -- the readings of a body end at its brace
  pub enclosed-inside : (d : ℕ) (xs : List Reading) (c : Reading) (others : List Reading) → T (outside set d (roles_of xs)) → c.role ≡ BodyClose →
      enclosed (suc d) (xs ++ (c ∷ others)) ≡ xs ++ (c ∷ [])
  unfolding depth_after
  enclosed-inside d [] c others t e = rw (eqb→eq d 0 t, e)
  enclosed-inside d (x ∷ xs) c others t e =
      let a = or (ltb 0 d) (among_symbols set x.role) in
      let b = outside set (depth_after d x.role) (roles_of xs) in
      let n = depth_after d x.role in
      let i = enclosed-inside n xs c others (both_right a b t) e in
      ap (λ (m : ℕ). pick (eqb m 0) (x ∷ []) (x ∷ enclosed m (xs ++ (c ∷ others)))) (deeper d x.role (both_left a b t))
      ∙ (ap (λ (f : Bool). pick f (x ∷ []) (x ∷ enclosed (suc n) (xs ++ (c ∷ others)))) (ne_eqb (suc n) 0 (λ z. omega arith)) ∙ ap (λ (l : List Reading). x ∷ l) i)
