-- What stands in the definitions for attributes past the eighth and for one of another kind: an op whose attributes fit its row does not meet it (01, refusal 7:
-- "an attribute missing, doubled, foreign to the op or of the wrong kind").
-- Assumes nothing.
use mathlib.Core.Path.{◌≡◌, refl, sym, ap, ◌∙◌}
use mathlib.Core.List.{List, [], ◌∷◌}
use mathlib.Core.Bool.{Bool, true, false, ◌&&◌}
use Prim.Native.Nat.{ℕ, suc, ◌<◌, ◌≤◌}
use native.Mathlib.Nat.{not-suc-le-zero, le_of_suc-le-suc}
use native.Mathlib.Decide.{dec_lt}
use native.Mathlib.Omega.{arith}
use lib.Dec.{ltb, eqb}
use lib.ListN.{length, get_or}
use borrow.Author.Tests.{ltb-true, eqb-true, lt-ltb}
use Rattle.lists.specs.Lists.{pick, tab, first_where}
use Rattle.lists.proofs.TestLaw.{both_true}
use Rattle.lists.proofs.TabLaw.{length-tab, get_or-tab}
use Rattle.optable.specs.Table.{no_attribute, attribute_kind}
use Rattle.optable.specs.Find.{slot_in}
use Rattle.optable.specs.declared.Row.{Row}
use Rattle.dimrules.specs.Count.{everywhere}
use Rattle.dimrules.proofs.CountLaw.{holds_at}
use Rattle.program.specs.declared.Parts.{Parts}
use Rattle.places.specs.Places.{attribute_name, count_of, place_of}
use Rattle.attributes.specs.Attributes.{attributes_of, attribute_of, stands_at, stands, kind_fits, columns, attribute_fits, needed_at, attributes_fit, name_of}
use Rattle.attributes.proofs.AttributesLaw.{attributes-each}

-- what is found passes the test
found-passes : (t : ℕ → Bool) (s : List ℕ) → first_where t s < length s → t (get_or s (first_where t s) 0) ≡ true
unfolding first_where
found-passes t [] l = absurd (not-suc-le-zero l)
found-passes t (x ∷ xs) l = by-test (t x) refl l (found-passes t xs)
  where
    by-test : (b : Bool) → t x ≡ b → pick b 0 (suc (first_where t xs)) < suc (length xs)
        → (first_where t xs < length xs → t (get_or xs (first_where t xs) 0) ≡ true) → t (get_or (x ∷ xs) (pick b 0 (suc (first_where t xs))) 0) ≡ true
    by-test true e l ih = e
    by-test false e l ih = ih (le_of_suc-le-suc l)

-- ---- at most three attributes

slot-named : (row : Row) (k : ℕ) → slot_in row k < 3 → get_or (columns row) (slot_in row k) 0 ≡ k
unfolding slot_in
slot-named row k h = eqb-true _ k (found-passes (λ a. eqb a k) (columns row) h)

-- of four numbers below three two are the same
four-below-three : (a b c d : ℕ) → a < 3 → b < 3 → c < 3 → d < 3 → (a ≡ b → ⊥) → (a ≡ c → ⊥) → (a ≡ d → ⊥) → (b ≡ c → ⊥) → (b ≡ d → ⊥) → (c ≡ d → ⊥) → ⊥
four-below-three a b c d h i j k ab ac ad bc bd cd = omega arith

module _ (text : List ℕ) (op : Parts) (row : Row) (each : everywhere (attributes_of op) (attribute_fits text op row) ≡ true) where
  abbrev slot : ℕ → ℕ
  slot j = slot_in row (attribute_of text op j)

  -- an attribute that fits has a place of its row, and is the first at which that attribute stands
  in_row : (j : ℕ) → j < attributes_of op → (slot j < 3) × (stands_at text op (get_or (columns row) (slot j) 0) ≡ j)
  unfolding attribute_fits
  in_row j l =
      let k = attribute_of text op j in
      let f = both_true (ltb k no_attribute && ltb (slot j) 3 && eqb (stands_at text op k) j) (kind_fits text (place_of op attribute_name j) (attribute_kind k))
      (holds_at (attributes_of op) (attribute_fits text op row) each j l) in
      let g = both_true (ltb k no_attribute && ltb (slot j) 3) (eqb (stands_at text op k) j) f.0 in
      let h = both_true (ltb k no_attribute) (ltb (slot j) 3) g.0 in
      let s = ltb-true (slot j) 3 h.1 in
      (s, ap (stands_at text op) (slot-named row k s) ∙ eqb-true (stands_at text op k) j g.1)

  apart : (i j : ℕ) → i < attributes_of op → j < attributes_of op → slot i ≡ slot j → i ≡ j
  apart i j l m q = sym (in_row i l).1 ∙ ap (λ (s : ℕ). stands_at text op (get_or (columns row) s 0)) q ∙ (in_row j m).1

  no-fourth : attributes_of op ≤ 3
  no-fourth = by_count (dec_lt 3 (attributes_of op))
    where
      by_count : Dec (3 < attributes_of op) → attributes_of op ≤ 3
      by_count (no h) = omega arith
      by_count (yes h) =
          let at : (j : ℕ) → j < 4 → j < attributes_of op = λ j l. omega arith in
          let other : (i j : ℕ) → i < j → j < 4 → slot i ≡ slot j → ⊥ = λ i j l m q. let e = apart i j (at i (omega arith)) (at j m) q in omega arith in
          absurd
          (four-below-three (slot 0) (slot 1) (slot 2) (slot 3)
          (in_row 0 (at 0 (omega arith))).0 (in_row 1 (at 1 (omega arith))).0 (in_row 2 (at 2 (omega arith))).0 (in_row 3 (at 3 (omega arith))).0
          (other 0 1 (omega arith) (omega arith)) (other 0 2 (omega arith) (omega arith)) (other 0 3 (omega arith) (omega arith))
          (other 1 2 (omega arith) (omega arith)) (other 1 3 (omega arith) (omega arith)) (other 2 3 (omega arith) (omega arith)))

  -- the cut of attributes at eight: where each of the first eight fits there are at most three
  pub few-attributes : count_of op attribute_name ≤ 3
  unfolding attributes_of
  few-attributes = let n = no-fourth in omega arith

-- so the test for nine decides nothing
pub nine-decides-nothing : (text : List ℕ) (op : Parts) (row : Row) →
    attributes_fit text op row ≡ everywhere (attributes_of op) (attribute_fits text op row) && everywhere row.needed (λ s. stands text op (needed_at row s))
unfolding attributes_fit
nine-decides-nothing text op row = by-fit (everywhere (attributes_of op) (attribute_fits text op row)) refl
  where
    nine : Bool
    nine = ltb (count_of op attribute_name) 9

    needed : Bool
    needed = everywhere row.needed (λ s. stands text op (needed_at row s))

    none : (b : Bool) → b && false && needed ≡ false && needed
    none true = refl
    none false = refl

    by-fit : (b : Bool) → everywhere (attributes_of op) (attribute_fits text op row) ≡ b → nine && b && needed ≡ b && needed
    by-fit true e = let few = few-attributes text op row e in rw (lt-ltb (count_of op attribute_name) 9 (omega arith))
    by-fit false e = none nine

-- ---- attributes that must stand

module _ (text : List ℕ) (op : Parts) (row : Row) (fit : attributes_fit text op row ≡ true) where
  -- an attribute that stands is there, at the place where it was found
  pub stands-there : (k : ℕ) → stands text op k ≡ true → (stands_at text op k < attributes_of op) × (attribute_of text op (stands_at text op k) ≡ k)
  unfolding stands stands_at
  stands-there k e =
      let n = attributes_of op in
      let t : ℕ → Bool = λ j. eqb (attribute_of text op j) k in
      let f = first_where t (tab n (λ j. j)) in
      let l : f < n = ltb-true f n e in
      let p : t (get_or (tab n (λ j. j)) f 0) ≡ true = found-passes t (tab n (λ j. j)) (rw (length-tab n (λ (j : ℕ). j)) l) in
      (l, eqb-true (attribute_of text op f) k (rw (get_or-tab n (λ j. j) f 0 l) at p))

  -- and its value is of its kind: nothing is read for one of another kind
  pub kind_fits_lem : (k : ℕ) → stands text op k ≡ true → kind_fits text (name_of text op k) (attribute_kind k) ≡ true
  unfolding attribute_fits name_of
  kind_fits_lem k e =
      let s = stands-there k e in
      let j = stands_at text op k in
      let f = attributes-each text op row fit j s.0 in
      let i = attribute_of text op j in
      let g = (both_true (ltb i no_attribute && ltb (slot_in row i) 3 && eqb (stands_at text op i) j) (kind_fits text (place_of op attribute_name j) (attribute_kind i)) f).1 in
      rw e (rw s.1 at g)
