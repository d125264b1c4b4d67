-- Readings cut into pieces: nothing is lost, where each piece begins, and how a cut goes over readings that stand one after the other.
-- Assumes nothing.
use mathlib.Core.Path.{◌≡◌, refl, ap, ◌∙◌}
use mathlib.Core.List.{List, [], ◌∷◌, ◌++◌, map}
use mathlib.Core.Bool.{Bool, true, false, not, ◌&&◌, ◌||◌}
use Prim.Native.Nat.{ℕ}
use native.Mathlib.Omega.{arith}
use lib.Dec.{T, eqb}
use borrow.Author.Tests.{eqb-true, eq-eqb}
use Rattle.lists.specs.Lists.{pick, All, concat}
use Rattle.grammar.specs.Symbols.{AttributeName}
use Rattle.grammar.proofs.TableTest.{both, both_left, both_right, both-make}
use Rattle.syntax.specs.Readings.{Reading}
use Rattle.syntax.specs.Roles.{roles_of}
use Rattle.program.specs.Parts.{depth_after}
use Rattle.reading_laws.proofs.DepthLaw.{depth_through}
use Rattle.verifier.specs.AttributeRules.{first_token}
use Rattle.source.specs.Source.{with_role, Cut, cut_from, attribute_from}
use Rattle.source_laws.specs.Listed.{first_place}

-- these readings before those of a cut
abbrev pub ahead : List Reading → Cut → Cut
ahead xs c = record { before = xs ++ c.before; pieces = c.pieces }

-- a piece that begins with these readings, before a cut
abbrev pub opened : List Reading → Cut → Cut
opened xs c = record { before = []; pieces = (xs ++ c.before) ∷ c.pieces }

-- ---- one after the other

-- the last of the roles, or the one before them
abbrev pub last_role : ℕ → List ℕ → ℕ
last_role b [] = b
last_role b (r ∷ rs) = last_role r rs

pub last-append : (b : ℕ) (xs ys : List ℕ) → last_role b (xs ++ ys) ≡ last_role (last_role b xs) ys
last-append b [] ys = refl
last-append b (x ∷ xs) ys = last-append x xs ys

module _ (first : ℕ → ℕ → Bool) (level : ℕ) where
  -- no piece begins among these roles
  abbrev pub quiet : ℕ → ℕ → List ℕ → Bool
  quiet b d [] = true
  quiet b d (r ∷ rs) = both (not (eqb d level && first b r)) (quiet r (depth_after d r) rs)

  pub quiet-append : (b d : ℕ) (xs ys : List ℕ) → T (quiet b d xs) → T (quiet (last_role b xs) (depth_through d xs) ys) → T (quiet b d (xs ++ ys))
  quiet-append b d [] ys t u = u
  quiet-append b d (x ∷ xs) ys t u =
      let a = not (eqb d level && first b x) in
      let c = quiet x (depth_after d x) xs in
      both-make a (quiet x (depth_after d x) (xs ++ ys)) (both_left a c t) (quiet-append x (depth_after d x) xs ys (both_right a c t) u)

  pub cut-quiet : (b d : ℕ) (xs ys : List Reading) → T (quiet b d (roles_of xs)) →
      cut_from first level b d (xs ++ ys) ≡ ahead xs (cut_from first level (last_role b (roles_of xs)) (depth_through d (roles_of xs)) ys)
  cut-quiet b d [] ys t = refl
  cut-quiet b d (x ∷ xs) ys t =
      go (eqb d level && first b x.role) (both_left (not (eqb d level && first b x.role)) (quiet x.role (depth_after d x.role) (roles_of xs)) t)
      (cut_from first level x.role (depth_after d x.role) (xs ++ ys)) (cut_from first level (last_role x.role (roles_of xs)) (depth_through (depth_after d x.role) (roles_of xs)) ys)
      (cut-quiet x.role (depth_after d x.role) xs ys (both_right (not (eqb d level && first b x.role)) (quiet x.role (depth_after d x.role) (roles_of xs)) t))
    where
      go : (a : Bool) → T (not a) → (c e : Cut) → c ≡ ahead xs e → pick a (opened (x ∷ []) c) (ahead (x ∷ []) c) ≡ ahead (x ∷ xs) e
      go true t c e q = absurd t
      go false t c e q = ap (λ (z : Cut). ahead (x ∷ []) z) q

  -- a piece that begins with the first reading, and goes on over the others
  pub cut_opened : (b d : ℕ) (x : Reading) (xs ys : List Reading) → d ≡ level → first b x.role ≡ true → T (quiet x.role (depth_after d x.role) (roles_of xs)) →
      cut_from first level b d ((x ∷ xs) ++ ys) ≡ opened (x ∷ xs) (cut_from first level (last_role b (roles_of (x ∷ xs))) (depth_through d (roles_of (x ∷ xs))) ys)
  cut_opened b d x xs ys e f t = go (eqb d level) (first b x.role) (eq-eqb d level e) f
      (cut_from first level x.role (depth_after d x.role) (xs ++ ys)) (cut_from first level (last_role x.role (roles_of xs)) (depth_through (depth_after d x.role) (roles_of xs)) ys)
      (cut-quiet x.role (depth_after d x.role) xs ys t)
    where
      go : (a g : Bool) → a ≡ true → g ≡ true → (c e : Cut) → c ≡ ahead xs e → pick (a && g) (opened (x ∷ []) c) (ahead (x ∷ []) c) ≡ opened (x ∷ xs) e
      go true true p q c e z = ap (λ (c : Cut). opened (x ∷ []) c) z
      go true false p q c e z = let n : ◌≡◌ {A = ℕ} 0 1 = cc in absurd (omega arith)
      go false g p q c e z = let n : ◌≡◌ {A = ℕ} 0 1 = cc in absurd (omega arith)

  -- nothing is lost
  pub cut-whole : (b d : ℕ) (xs : List Reading) → (cut_from first level b d xs).before ++ concat (cut_from first level b d xs).pieces ≡ xs
  unfolding concat
  cut-whole b d [] = refl
  cut-whole b d (x ∷ xs) = go (eqb d level && first b x.role) (cut_from first level x.role (depth_after d x.role) xs) (cut-whole x.role (depth_after d x.role) xs)
    where
      go : (a : Bool) (c : Cut) → c.before ++ concat c.pieces ≡ xs → (pick a (opened (x ∷ []) c) (ahead (x ∷ []) c)).before ++ concat (pick a (opened (x ∷ []) c) (ahead (x ∷ []) c)).pieces ≡ x ∷ xs
      go true c q = ap (λ (l : List Reading). x ∷ l) q
      go false c q = ap (λ (l : List Reading). x ∷ l) q

-- ---- pieces that begin at a role

-- the piece begins with a reading of the role
abbrev pub BeginsWith : ℕ → List Reading → Type 0
BeginsWith role [] = ⊥
BeginsWith role (x ∷ xs) = x.role ≡ role

module _ (role level : ℕ) where
  -- each piece begins with a reading of the role
  pub cut-begins : (b d : ℕ) (xs : List Reading) → All (BeginsWith role) (cut_from (λ before r. eqb r role) level b d xs).pieces
  cut-begins b d [] = tt
  cut-begins b d (x ∷ xs) = go (eqb d level) (eqb x.role role) refl (cut_from (λ before r. eqb r role) level x.role (depth_after d x.role) xs) (cut-begins x.role (depth_after d x.role) xs)
    where
      go : (a g : Bool) → eqb x.role role ≡ g → (c : Cut) → All (BeginsWith role) c.pieces → All (BeginsWith role) (pick (a && g) (opened (x ∷ []) c) (ahead (x ∷ []) c)).pieces
      go true true e c h = (eqb-true x.role role e, h)
      go true false e c h = h
      go false g e c h = h

  -- the pieces begin at the tokens of the role
  pub cut-places : (b d : ℕ) (xs : List Reading) → map first_place (cut_from (λ before r. eqb r role) level b d xs).pieces ≡ with_role (role ∷ []) level d xs
  cut-places b d [] = refl
  cut-places b d (x ∷ xs) = go (eqb d level) (eqb x.role role) (cut_from (λ before r. eqb r role) level x.role (depth_after d x.role) xs) (with_role (role ∷ []) level (depth_after d x.role) xs) (cut-places x.role (depth_after d x.role) xs)
    where
      go : (a g : Bool) (c : Cut) (l : List ℕ) → map first_place c.pieces ≡ l → map first_place (pick (a && g) (opened (x ∷ []) c) (ahead (x ∷ []) c)).pieces ≡ pick (a && (g || false)) (x.token.start ∷ l) l
      go true true c l q = ap (λ (l : List ℕ). x.token.start ∷ l) q
      go true false c l q = q
      go false g c l q = q

  -- before the first piece no token of the role stands
  pub before-none : (b d : ℕ) (xs : List Reading) → with_role (role ∷ []) level d (cut_from (λ before r. eqb r role) level b d xs).before ≡ []
  before-none b d [] = refl
  before-none b d (x ∷ xs) = go (eqb d level) refl (eqb x.role role) refl (cut_from (λ before r. eqb r role) level x.role (depth_after d x.role) xs) (before-none x.role (depth_after d x.role) xs)
    where
      go : (a : Bool) → eqb d level ≡ a → (g : Bool) → eqb x.role role ≡ g → (c : Cut) → with_role (role ∷ []) level (depth_after d x.role) c.before ≡ [] →
          with_role (role ∷ []) level d (pick (a && g) (opened (x ∷ []) c) (ahead (x ∷ []) c)).before ≡ []
      go true e true f c q = refl
      go true e false f c q = rw (e, f) q
      go false e g f c q = rw e q

-- ---- attributes

-- an attribute's piece has its own name and no other
abbrev pub Named : List Reading → Type 0
Named piece = (attribute_from piece).names ≡ first_place piece ∷ []

pub attributes-named : (b : ℕ) (xs : List Reading) (d : ℕ) → All Named (cut_from (λ before r. eqb r AttributeName) 0 b d xs).pieces
unfolding depth_after
attributes-named b [] d = tt
attributes-named b (x ∷ xs) d =
    go (eqb d 0) refl (eqb x.role AttributeName) refl (cut_from (λ before r. eqb r AttributeName) 0 x.role (depth_after d x.role) xs) (before-none AttributeName 0 x.role (depth_after d x.role) xs) (attributes-named x.role xs (depth_after d x.role))
  where
    go : (a : Bool) → eqb d 0 ≡ a → (g : Bool) → eqb x.role AttributeName ≡ g → (c : Cut) → with_role (AttributeName ∷ []) 0 (depth_after d x.role) c.before ≡ [] → All Named c.pieces →
        All Named (pick (a && g) (opened (x ∷ []) c) (ahead (x ∷ []) c)).pieces
    go true e true f c q h =
        let r = eqb-true x.role AttributeName f in
        let z = eqb-true d 0 e in
        let w : with_role (AttributeName ∷ []) 0 0 c.before ≡ [] = rw (r, z) at q in
        (rw r (ap (λ (l : List ℕ). x.token.start ∷ l) w), h)
    go true e false f c q h = h
    go false e g f c q h = h

first-names : (ps : List (List Reading)) → All Named ps → map (λ a. first_token a.names) (map attribute_from ps) ≡ map first_place ps
first-names [] h = refl
first-names (p ∷ ps) h = let e : first_token (attribute_from p).names ≡ first_place p = ap (λ (l : List ℕ). first_token l) h.0 in ap (λ (n : ℕ). n ∷ map (λ a. first_token a.names) (map attribute_from ps)) e ∙ ap (λ (l : List ℕ). first_place p ∷ l) (first-names ps h.1)

-- the names of the attributes are the tokens of that role
pub attribute-names : (b d : ℕ) (xs : List Reading) → map (λ a. first_token a.names) (map attribute_from (cut_from (λ before r. eqb r AttributeName) 0 b d xs).pieces) ≡ with_role (AttributeName ∷ []) 0 d xs
attribute-names b d xs = first-names (cut_from (λ before r. eqb r AttributeName) 0 b d xs).pieces (attributes-named b xs d) ∙ cut-places AttributeName 0 b d xs
