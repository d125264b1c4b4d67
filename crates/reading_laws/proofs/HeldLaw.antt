-- Size 3 counts the elements of the types that a header's and an op's parts hold.
-- Assumes nothing.
use mathlib.Core.Path.{◌≡◌, refl, sym, ap, subst, ◌∙◌}
use mathlib.Core.List.{List, [], ◌∷◌}
use mathlib.Core.Bool.{Bool, true, false, not, ◌&&◌}
use Prim.Native.Nat.{ℕ, zero, suc, ◌+◌, ◌*◌, ◌<◌, ◌≤◌, min}
use native.Mathlib.Nat.{le_of_suc-le-suc}
use native.Mathlib.Omega.{arith}
use native.Mathlib.Decide.{ℕ_discrete}
use native.Mathlib.Numerals.{add-one}
use lib.Dec.{T, eqb, ltb, leb, eqb→eq}
use lib.ListN.{length, get_or, set, drop}
use lib.Seq.{get_or-set_same}
use borrow.Author.Tests.{eqb-true, eqb-false, eq-eqb, not-false}
use Rattle.lists.specs.Lists.{pick, All}
use Rattle.scan.specs.Ascii.{ascii}
use Rattle.scan.specs.Bytes.{starts_with}
use Rattle.scan.specs.TypeText.{shape_end}
use Rattle.scan.specs.TensorText.{type_close}
use Rattle.text.specs.declared.Token.{Token}
use Rattle.shape.specs.Index.{size, volume}
use Rattle.shape.specs.Dims.{dims_of}
use Rattle.types.specs.Tensors.{TypeRead}
use Rattle.types.specs.Tensors.{element_named, bytes_between, dimensions_from, byte_count as count_of_byte, all_fit, type_size_passed, typed, foreign, type_after, type_of}
use Rattle.grammar.specs.Symbols.{InputType, ResultType, among_symbols}
use Rattle.grammar.proofs.TableTest.{both_left, both_right, implies, implied, true-T}
use Rattle.grammar.proofs.Within.{all_pass, member-passes}
use Rattle.syntax.specs.Readings.{Reading}
use Rattle.syntax.specs.Roles.{roles_of}
use Rattle.dimrules.specs.Count.{sum_below}
use Rattle.dimrules.specs.declared.TensorType.{TensorType}
use Rattle.judge.specs.declared.tally.Tally.{Tally}
use Rattle.judge.specs.Roles.{among_roles, type_roles}
use Rattle.judge.specs.Tally.{counts, elements_at, after_token, tally_depth}
use Rattle.judge.specs.Sizes.{type_passed, passes, size_passed}
use Rattle.judge.specs.Judge.{unknown, refusal_at}
use Rattle.judge.proofs.Theorems.{Each, token-sound}
use Rattle.program.specs.declared.Parts.{Parts}
use Rattle.program.specs.Parts.{part_of, noted, depth_after, parts_from}
use Rattle.places.specs.Places.{count_of, place_of, type_in, type_of_part}
use Rattle.reading_laws.proofs.TallyLaw.{tally_after, elements-one, passes_none}
use Rattle.reading_laws.proofs.CountLaw.{Wide, wide-noted, Added, fits, full, Noted, apart, within, noted-view, count-other, place-stays, place-new}

-- ---- sums

pub sum_same : (n : ℕ) (f g : ℕ → ℕ) → ((i : ℕ) → i < n → f i ≡ g i) → sum_below n f ≡ sum_below n g
sum_same zero f g h = refl
sum_same (suc n) f g h = let a = sum_same n f g (λ i l. h i (omega arith)) in let b = h n (omega arith) in omega arith

-- ---- the elements of the type at a byte

abbrev pub elements_in : List ℕ → ℕ → ℕ
elements_in text at = size (dims_of (type_in text at).shape)

-- sizes 1 and 2 are all that a type can pass
small-sizes : (ds : List ℕ) → type_size_passed ds ≤ 2
unfolding type_size_passed
small-sizes ds = go (ltb 6 (length ds)) (all_fit ds && leb (volume ds) 4096)
  where
    go : (a b : Bool) → pick a 1 (pick b 0 2) ≤ 2
    go true b = omega arith
    go false true = omega arith
    go false false = omega arith

pub small-passed : (text : List ℕ) (at : ℕ) → (type_of text at).passed ≤ 2
unfolding type_of type_after typed foreign
small-passed text at =
    let end = shape_end text (at + 7) in
    let name = element_named text end (type_close text (at + 7)) in
    let shape = bytes_between (at + 7) end text in
    go (starts_with (ascii "tensor<") (drop at text)) (name.known && eqb (count_of_byte 63 shape) 0) (typed name.element (dimensions_from 0 shape)) (small-sizes (dimensions_from 0 shape))
  where
    go : (a b : Bool) (t : TypeRead) → t.passed ≤ 2 → (pick a (pick b t foreign) foreign).passed ≤ 2
    go true true t h = h
    go true false t h = omega arith
    go false b t h = omega arith

module _ (text : List ℕ) where
  -- a type that is known and passes neither size 1 nor size 2
  type-counts : (s : Tally) (r : ℕ) (t : Token) → counts s r ≡ true → (type_of text t.start).known ≡ true → (type_of text t.start).passed ≡ 0 →
      elements_at text s r t ≡ elements_in text t.start
  unfolding elements_at type_in
  type-counts s r t c k p = rw (c, k, p)

  module _ (s : Tally) (t : Token) where
    by-role : (r : ℕ) → among_roles type_roles r ≡ true → counts s r ≡ true → (unknown text r t ≡ false → not (type_of text t.start).known ≡ false) → unknown text r t ≡ false →
        All (λ b. b ≡ false) (passes text s r t) → elements_at text s r t ≡ elements_in text t.start
    unfolding passes type_passed
    by-role r m c u e a =
        let z = small-passed text t.start in
        let x : eqb (type_of text t.start).passed 1 ≡ false = rw m at a.0 in
        let y : eqb (type_of text t.start).passed 2 ≡ false = rw m at a.1.0 in
        let v = eqb-false (type_of text t.start).passed 1 x in
        let w = eqb-false (type_of text t.start).passed 2 y in
        type-counts s r t c (not-false (type_of text t.start).known (u e)) (omega arith)

    of-input : unknown text InputType t ≡ false → All (λ b. b ≡ false) (passes text s InputType t) → elements_at text s InputType t ≡ elements_in text t.start
    unfolding unknown among_roles counts
    of-input = by-role InputType refl refl (λ e. e)

    of-result : s.depth ≡ 0 → unknown text ResultType t ≡ false → All (λ b. b ≡ false) (passes text s ResultType t) → elements_at text s ResultType t ≡ elements_in text t.start
    unfolding unknown among_roles counts
    of-result d = by-role ResultType refl (rw d) (λ e. e)

  -- the types that size 3 counts outside bodies
  abbrev counted : ℕ → Bool
  counted r = among_symbols (InputType ∷ ResultType ∷ []) r

  token-counts : (s : Tally) (r : ℕ) (t : Token) → s.depth ≡ 0 → T (counted r) → unknown text r t ≡ false → All (λ b. b ≡ false) (passes text s r t) →
      elements_at text s r t ≡ elements_in text t.start
  token-counts s r t d c u a = go (eqb r InputType) (eqb r ResultType) refl refl c
    where
      go : (x y : Bool) → eqb r InputType ≡ x → eqb r ResultType ≡ y → T (pick x true (pick y true false)) → elements_at text s r t ≡ elements_in text t.start
      go true y e f z = let q : r ≡ InputType = eqb-true r InputType e in rw q (of-input s t (rw q at u) (rw q at a))
      go false true e f z = let q : r ≡ ResultType = eqb-true r ResultType f in rw q (of-result s t d (rw q at u) (rw q at a))
      go false false e f z = absurd z

  -- ---- the elements of the types that part k holds

  abbrev pub held : Parts → ℕ → ℕ
  held p k = sum_below (min (count_of p k) 8) (λ i. elements_in text (place_of p k i))

  held-other : {p q : Parts} {j place : ℕ} (k : ℕ) → (k ≡ j → ⊥) → Added p j place q → held q k ≡ held p k
  held-other {p} {q} k n a =
      ap (λ (c : ℕ). sum_below (min c 8) (λ i. elements_in text (place_of q k i))) (count-other k n a) ∙
      sum_same (min (count_of p k) 8) (λ i. elements_in text (place_of q k i)) (λ i. elements_in text (place_of p k i))
      (λ i h. ap (elements_in text) (place-stays k i (omega arith) (λ e. absurd (n e)) a))

  -- n of them
  abbrev held_below : Parts → ℕ → ℕ → ℕ
  held_below p k n = sum_below n (λ i. elements_in text (place_of p k i))

  held_next : (p q : Parts) (k place c : ℕ) → count_of p k ≡ c → c < 8 → count_of q k ≡ c + 1 → ((i : ℕ) → i < c → place_of q k i ≡ place_of p k i) → place_of q k c ≡ place →
      held q k ≤ held p k + elements_in text place
  held_next p q k place c e l n same last =
      let a : min (count_of q k) 8 ≡ suc c = omega arith in
      let b : min (count_of p k) 8 ≡ c = omega arith in
      let x : held_below q k c ≡ held_below p k c =
      sum_same c (λ i. elements_in text (place_of q k i)) (λ i. elements_in text (place_of p k i)) (λ i h. ap (elements_in text) (same i h)) in
      let y : elements_in text (place_of q k c) ≡ elements_in text place = ap (elements_in text) last in
      let z : held q k ≡ held_below q k c + elements_in text (place_of q k c) = ap (held_below q k) a in
      let v : held p k ≡ held_below p k c = ap (held_below p k) b in
      omega arith

  held-full : (p q : Parts) (k n : ℕ) → 8 ≤ count_of p k → count_of q k ≡ 9 → ((i : ℕ) → place_of q k i ≡ place_of p k i) → held q k ≤ held p k + n
  held-full p q k n l e same =
      let a : min (count_of q k) 8 ≡ 8 = omega arith in
      let b : min (count_of p k) 8 ≡ 8 = omega arith in
      let x : held_below q k 8 ≡ held_below p k 8 =
      sum_same 8 (λ i. elements_in text (place_of q k i)) (λ i. elements_in text (place_of p k i)) (λ i h. ap (elements_in text) (same i)) in
      let z : held q k ≡ held_below q k 8 = ap (held_below q k) a in
      let v : held p k ≡ held_below p k 8 = ap (held_below p k) b in
      omega arith

  held_same : (k place : ℕ) {p q : Parts} → Wide p → k < 11 → Added p k place q → held q k ≤ held p k + elements_in text place
  unfolding count_of place_of
  held_same k place {p} w h (fits g) =
      let q : Parts = record { count = set p.count k (count_of p k + 1); at = set p.at (8 * k + count_of p k) place } in
      held_next p q k place (count_of p k) refl g (get_or-set_same p.count k (count_of p k + 1) 0 (rw w.counts h))
      (λ i l. place-stays {p = p} {q = q} {j = k} {place = place} k i (omega arith) (λ e. l) (fits g)) (place-new k place w h g)
  held_same k place {p} w h (full g) =
      let q : Parts = record { count = set p.count k 9; at = p.at } in
      held-full p q k (elements_in text place) g (get_or-set_same p.count k 9 0 (rw w.counts h)) (λ i. refl)

  -- a token more in part k, of a type whose elements size 3 counts
  held-noted : (k : ℕ) {p q : Parts} {r place : ℕ} (n : ℕ) → Wide p → k < 11 → (part_of r ≡ k → n ≡ elements_in text place) → Noted p r place q → Dec (part_of r ≡ k) → held q k ≤ held p k + n
  held-noted k n w h f (apart g) d = omega arith
  held-noted k {p} {q} {r} {place} n w h f (within g a) (yes e) =
      rw (f e) (held_same k place w h (subst (λ (j : ℕ). Added p j place q) e a))
  held-noted k n w h f (within g a) (no e) = let z = held-other k (λ x. e (sym x)) a in omega arith

  -- a role of part k is a type that size 3 counts
  abbrev pub counted_in : ℕ → ℕ → Bool
  counted_in k r = implies (eqb (part_of r) k) (counted r)

  one_token : (k : ℕ) (p : Parts) (s : Tally) (x : Reading) (b : Bool) → eqb s.depth 0 ≡ b → Wide p → k < 11 → (refusal_at text s x).number ≡ 0 → T (counted_in k x.role) →
      held (pick b (noted p x.role x.token.start) p) k ≤ held p k + elements_at text s x.role x.token
  one_token k p s x true e w h ok t =
      let g = token-sound text s x ok in
      held-noted k (elements_at text s x.role x.token) w h
      (λ q. token-counts s x.role x.token (eqb-true s.depth 0 e) (implied (eqb (part_of x.role) k) (counted x.role) t (true-T _ (eq-eqb (part_of x.role) k q))) g.known (passes_none text s x g.sized))
      (noted-view p x.role x.token.start) (ℕ_discrete (part_of x.role) k)
  one_token k p s x false e w h ok t = omega arith

  wide-pick : (b : Bool) (p q : Parts) → Wide p → Wide q → Wide (pick b p q)
  wide-pick true p q v w = v
  wide-pick false p q v w = w

  -- what part k holds of the readings, size 3 has counted
  pub held-counted : (k : ℕ) (xs : List Reading) (p : Parts) (s : Tally) → Wide p → k < 11 → Each text s xs → T (all_pass (counted_in k) (roles_of xs)) →
      held (parts_from 0 p s.depth xs) k + s.elements ≤ held p k + (tally_after text s xs).elements
  unfolding parts_from after_token tally_depth depth_after
  held-counted k [] p s w h e t = omega arith
  held-counted k (x ∷ xs) p s w h e t =
      let q = pick (eqb s.depth 0) (noted p x.role x.token.start) p in
      let u = both_left (counted_in k x.role) (all_pass (counted_in k) (roles_of xs)) t in
      let v = both_right (counted_in k x.role) (all_pass (counted_in k) (roles_of xs)) t in
      let a = one_token k p s x (eqb s.depth 0) refl w h e.0 u in
      let b = held-counted k xs q (after_token text s x.role x.token)
      (wide-pick (eqb s.depth 0) (noted p x.role x.token.start) p (wide-noted p x.role x.token.start w) w) h e.1 v in
      omega arith
