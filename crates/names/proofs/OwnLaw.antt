-- The tokens of an op outside bodies, and those of its bodies, by the roles that can stand outside bodies.
-- Assumes nothing.
use mathlib.Core.Path.{◌≡◌, refl, sym, ap, ◌∙◌}
use mathlib.Core.List.{List, [], ◌∷◌, ◌++◌, append_assoc}
use mathlib.Core.Bool.{Bool, true, false, not, ◌&&◌}
use Prim.Native.Nat.{ℕ, zero, suc, ◌-◌}
use native.Mathlib.Omega.{arith}
use lib.Dec.{T, ltb, eqb, eqb→eq}
use borrow.Author.Tests.{ne_eqb}
use Rattle.lists.specs.Lists.{pick}
use Rattle.grammar.specs.Symbols.{BodyOpen, BodyClose, among_symbols as member}
use Rattle.grammar.proofs.TableTest.{both_left, both_right, or}
use Rattle.grammar.proofs.Within.{all_pass, member-passes}
use Rattle.syntax.specs.Readings.{Reading}
use Rattle.syntax.specs.Roles.{roles_of}
use Rattle.program.specs.Parts.{depth_after}
use Rattle.part_laws.proofs.DepthLaw.{outside}
use Rattle.names.specs.InOrder.{own_places, body_readings}

pub not_T : (b : Bool) → T (not b) → b ≡ false
not_T true t = absurd t
not_T false t = refl

-- one after the other
pub own-append : (role : ℕ) (set : List ℕ) (d : ℕ) (xs ys : List Reading) → T (outside set d (roles_of xs)) → own_places role d (xs ++ ys) ≡ own_places role d xs ++ own_places role 0 ys
unfolding own_places
own-append role set d [] ys t = ap (λ (m : ℕ). own_places role m ys) (eqb→eq d 0 t)
own-append role set d (x ∷ xs) ys t =
    let a = or (ltb 0 d) (member set x.role) in
    let b = outside set (depth_after d x.role) (roles_of xs) in
    let here = pick (eqb d 0 && eqb x.role role) (x.token.start ∷ []) [] in
    let ih = own-append role set (depth_after d x.role) xs ys (both_right a b t) in
    ap (λ (l : List ℕ). here ++ l) ih ∙ sym (append_assoc here (own_places role (depth_after d x.role) xs) (own_places role 0 ys))

pub body-append : (set : List ℕ) (d : ℕ) (xs ys : List Reading) → T (outside set d (roles_of xs)) → body_readings d (xs ++ ys) ≡ body_readings d xs ++ body_readings 0 ys
unfolding body_readings
body-append set d [] ys t = ap (λ (m : ℕ). body_readings m ys) (eqb→eq d 0 t)
body-append set d (x ∷ xs) ys t =
    let a = or (ltb 0 d) (member set x.role) in
    let b = outside set (depth_after d x.role) (roles_of xs) in
    let here = pick (eqb d 0 && not (eqb x.role BodyOpen)) [] (x ∷ []) in
    let ih = body-append set (depth_after d x.role) xs ys (both_right a b t) in
    ap (λ (l : List Reading). here ++ l) ih ∙ sym (append_assoc here (body_readings (depth_after d x.role) xs) (body_readings 0 ys))

-- a role that the set has not
pub own-none : (role : ℕ) (set : List ℕ) → T (all_pass (λ r. not (eqb r role)) set) → (d : ℕ) (xs : List Reading) → T (outside set d (roles_of xs)) → own_places role d xs ≡ []
unfolding own_places
own-none role set f d [] t = refl
own-none role set f zero (x ∷ xs) t =
    let a = or (ltb 0 0) (member set x.role) in
    let b = outside set (depth_after 0 x.role) (roles_of xs) in
    rw (not_T (eqb x.role role) (member-passes (λ r. not (eqb r role)) set x.role f (both_left a b t))) (own-none role set f (depth_after 0 x.role) xs (both_right a b t))
own-none role set f (suc d) (x ∷ xs) t =
    let a = or (ltb 0 (suc d)) (member set x.role) in
    let b = outside set (depth_after (suc d) x.role) (roles_of xs) in
    rw (ne_eqb (suc d) 0 (λ e. omega arith)) (own-none role set f (depth_after (suc d) x.role) xs (both_right a b t))

pub depth-none : (r : ℕ) → eqb r BodyOpen ≡ false → depth_after 0 r ≡ 0
unfolding depth_after
depth-none r e = rw e (go (eqb r BodyClose))
  where
    go : (b : Bool) → pick b (0 - 1) 0 ≡ 0
    go true = refl
    go false = refl

pub body-none : (set : List ℕ) → T (all_pass (λ r. not (eqb r BodyOpen)) set) → (xs : List Reading) → T (outside set 0 (roles_of xs)) → body_readings 0 xs ≡ []
unfolding body_readings
body-none set f [] t = refl
body-none set f (x ∷ xs) t =
    let a = or (ltb 0 0) (member set x.role) in
    let b = outside set (depth_after 0 x.role) (roles_of xs) in
    let e = not_T (eqb x.role BodyOpen) (member-passes (λ r. not (eqb r BodyOpen)) set x.role f (both_left a b t)) in
    let d = depth-none x.role e in
    rw (e, d) (body-none set f xs (rw d at (both_right a b t)))
