-- Every type that is noted in a part is a type of 01 within sizes 1 and 2, and the name of an op is one of the op table's.
-- Assumes nothing.
use mathlib.Core.Path.{◌≡◌, refl, sym, ap, subst, ◌∙◌}
use mathlib.Core.List.{List, [], ◌∷◌, ◌++◌}
use mathlib.Core.Bool.{Bool, true, false, not}
use Prim.Native.Nat.{ℕ, zero, suc, ◌+◌, ◌*◌, ◌<◌, ◌≤◌}
use native.Mathlib.Omega.{arith}
use native.Mathlib.Nat.{not-suc-le-zero}
use native.Mathlib.Decide.{ℕ_discrete}
use lib.Dec.{T, eqb}
use lib.ListN.{length, get_or, set}
use borrow.Author.Tests.{eqb-true, eqb-false, not-false}
use Rattle.lists.specs.Lists.{pick, All}
use Rattle.text.specs.Lex.{token_at}
use Rattle.text.specs.declared.Token.{Token}
use Rattle.types.specs.Tensors.{type_of}
use Rattle.optable.specs.Table.{op_names}
use Rattle.optable.specs.Find.{find_op}
use Rattle.grammar.specs.Symbols.{OpName, leaf_count, among_symbols}
use Rattle.grammar.specs.Leaves.{Yields, nothing, itself, right}
use Rattle.grammar.proofs.TableTest.{both, both_left, both_right, implies, implied, up_to, up-to, T_true}
use Rattle.syntax.specs.Readings.{Reading}
use Rattle.syntax.specs.Roles.{roles_of}
use Rattle.judge.specs.declared.tally.Tally.{Tally}
use Rattle.judge.specs.Roles.{among_roles, type_roles, op_roles}
use Rattle.judge.specs.Tally.{after_token}
use Rattle.judge.specs.Sizes.{type_passed, passes}
use Rattle.judge.specs.Judge.{unknown}
use Rattle.judge.proofs.Theorems.{Each, Sound, token-sound}
use Rattle.program.specs.declared.Parts.{Parts}
use Rattle.program.specs.Parts.{part_of, noted, depth_after, parts_from}
use Rattle.places.specs.Places.{count_of, place_of, type_in}
use Rattle.reading_laws.proofs.TallyLaw.{passes_none}
use Rattle.reading_laws.proofs.HeldLaw.{small-passed}
use Rattle.reading_laws.proofs.CountLaw.{Wide, wide-noted, Added, fits, full, Noted, apart, within, noted-view, count-other, count_same, place-stays, place-new}
use Rattle.part_laws.specs.Granted.{TypeStands, type_parts}

not-true-false : (b : Bool) → T (not b) → b ≡ false
not-true-false true t = absurd t
not-true-false false t = refl

-- ---- what holds of every token of a part

abbrev pub Every : (ℕ → ℕ → Type 0) → Parts → Type 0
Every Q p = (k j : ℕ) → k < 11 → j < count_of p k → j < 8 → Q k (place_of p k j)

module _ (Q : ℕ → ℕ → Type 0) where
  newest : {p q : Parts} {place : ℕ} (k : ℕ) → Wide p → k < 11 → Q k place → count_of p k < 8 → Added p k place q → Q k (place_of q k (count_of p k))
  unfolding place_of
  newest {p} {place = place} k w h x m (fits o) = subst (λ (b : ℕ). Q k b) (sym (place-new {p = p} k place w h o)) x
  newest k w h x m (full o) = absurd (omega arith)

  every-same : {p q : Parts} {place : ℕ} (k j : ℕ) → Wide p → k < 11 → Q k place → Every Q p → Added p k place q → j < count_of q k → j < 8 → Q k (place_of q k j)
  every-same {p} {q} k j w h x e a l m = go (ℕ_discrete j (count_of p k))
    where
      go : Dec (j ≡ count_of p k) → Q k (place_of q k j)
      go (yes c) = subst (λ (b : ℕ). Q k (place_of q k b)) (sym c) (newest k w h x (omega arith) a)
      go (no c) =
          let s = count_same w h a in
          let n : j < count_of p k = omega arith in
          subst (λ (b : ℕ). Q k b) (sym (place-stays k j m (λ z. n) a)) (e k j h n m)

  every-added : {p q : Parts} {i place : ℕ} → Wide p → i < 11 → Q i place → Every Q p → Added p i place q → Every Q q
  every-added {p} {q} {i} {place} w h x e a k j g l m = go (ℕ_discrete k i)
    where
      go : Dec (k ≡ i) → Q k (place_of q k j)
      go (yes c) = every-same k j w g (subst (λ (b : ℕ). Q b place) (sym c) x) e (subst (λ (b : ℕ). Added p b place q) (sym c) a) l m
      go (no c) = subst (λ (b : ℕ). Q k b) (sym (place-stays k j m (λ z. absurd (c z)) a)) (e k j g (subst (λ (b : ℕ). j < b) (count-other k c a) l) m)

  every-noted : {p q : Parts} {r place : ℕ} → Wide p → (part_of r < 11 → Q (part_of r) place) → Every Q p → Noted p r place q → Every Q q
  every-noted w x e (apart h) = e
  every-noted w x e (within h a) = every-added w h (x h) e a

  -- the tokens at a level, each as it is asked
  abbrev pub Level : ℕ → ℕ → List Reading → Type 0
  Level level d [] = Unit {0}
  Level level d (x ∷ xs) = (d ≡ level → part_of x.role < 11 → Q (part_of x.role) x.token.start) × Level level (depth_after d x.role) xs

  pub parts-every : (level d : ℕ) (p : Parts) (xs : List Reading) → Wide p → Every Q p → Level level d xs → Every Q (parts_from level p d xs)
  unfolding parts_from
  parts-every level d p [] w e a = e
  parts-every level d p (x ∷ xs) w e a =
      let y = by_level (eqb d level) refl in
      parts-every level (depth_after d x.role) (pick (eqb d level) (noted p x.role x.token.start) p) xs y.0 y.1 a.1
    where
      by_level : (b : Bool) → eqb d level ≡ b → Wide (pick b (noted p x.role x.token.start) p) × Every Q (pick b (noted p x.role x.token.start) p)
      by_level true q = (wide-noted p x.role x.token.start w, every-noted w (a.0 (eqb-true d level q)) e (noted-view p x.role x.token.start))
      by_level false q = (w, e)

  -- where every token is as asked, those at a level are
  pub level_all : (level d : ℕ) (xs : List Reading) → All (λ x. part_of x.role < 11 → Q (part_of x.role) x.token.start) xs → Level level d xs
  level_all level d [] a = tt
  level_all level d (x ∷ xs) a = ((λ e. a.0), level_all level (depth_after d x.role) xs a.1)

-- ---- types

pub yields-leaves : {ss ls : List ℕ} → Yields ss ls → All (λ l. l < leaf_count) ls
yields-leaves nothing = tt
yields-leaves (itself h d) = (h, yields-leaves d)
yields-leaves (right m d) = yields-leaves d

-- a role whose part is one of types is that of a type
abbrev type_test : ℕ → Bool
type_test r = implies (among_symbols type_parts (part_of r)) (both (among_roles type_roles r) (not (among_roles op_roles r)))

type-role : (r : ℕ) → r < leaf_count → T (among_symbols type_parts (part_of r)) → (among_roles type_roles r ≡ true) × (among_roles op_roles r ≡ false)
unfolding part_of among_roles
type-role r h t =
    let x = implied (among_symbols type_parts (part_of r)) (both (among_roles type_roles r) (not (among_roles op_roles r))) (up-to leaf_count type_test r tt h) t in (
      T_true (among_roles type_roles r) (both_left (among_roles type_roles r) (not (among_roles op_roles r)) x),
      not-true-false (among_roles op_roles r) (both_right (among_roles type_roles r) (not (among_roles op_roles r)) x),
    )

module _ (text : List ℕ) where
  -- the parts that are types hold types
  abbrev pub Typed : ℕ → ℕ → Type 0
  Typed k a = T (among_symbols type_parts k) → TypeStands text a

  known-type : (r : ℕ) (t : Token) → among_roles type_roles r ≡ true → among_roles op_roles r ≡ false → unknown text r t ≡ false → (type_of text t.start).known ≡ true
  unfolding unknown
  known-type r t m n u = let v : not (type_of text t.start).known ≡ false = rw (n, m) at u in not-false (type_of text t.start).known v

  token-typed : (s : Tally) (x : Reading) → x.role < leaf_count → Sound text s x → Typed (part_of x.role) x.token.start
  unfolding passes type_passed
  token-typed s x h g t =
      let a = passes_none text s x g.sized in
      let m = type-role x.role h t in
      let z = small-passed text x.token.start in
      let u : eqb (type_of text x.token.start).passed 1 ≡ false = rw m.0 at a.0 in
      let v : eqb (type_of text x.token.start).passed 2 ≡ false = rw m.0 at a.1.0 in
      let p = eqb-false (type_of text x.token.start).passed 1 u in
      let q = eqb-false (type_of text x.token.start).passed 2 v in
      record { known = known-type x.role x.token m.0 m.1 g.known; sized = omega arith }

  pub all_typed : (s : Tally) (xs : List Reading) → All (λ l. l < leaf_count) (roles_of xs) → Each text s xs → All (λ x. part_of x.role < 11 → Typed (part_of x.role) x.token.start) xs
  all_typed s [] h e = tt
  all_typed s (x ∷ xs) h e = ((λ l. token-typed s x h.0 (token-sound text s x e.0)), all_typed (after_token text s x.role x.token) xs h.1 e.1)

-- where a type stands, it is the one that verifying reads
pub type-said : (text : List ℕ) (at : ℕ) → TypeStands text at → type_in text at ≡ record { element = (type_of text at).element; shape = (type_of text at).shape }
unfolding type_in
type-said text at h = rw (h.known, h.sized)
