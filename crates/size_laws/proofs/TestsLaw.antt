-- Each test of a size at a token holds exactly where its sentence does.
-- Assumes nothing.
use mathlib.Core.Path.{◌≡◌, refl, sym, ap, subst, ◌∙◌}
use mathlib.Core.Bool.{Bool, true, false, not, ◌&&◌}
use mathlib.Core.List.{List, [], ◌∷◌}
use Prim.Native.Nat.{ℕ, zero, suc, ◌+◌, ◌-◌, ◌≤◌, ◌^◌}
use native.Mathlib.Omega.{arith}
use lib.Dec.{eqb, ltb, leb}
use lib.IntN.{ℤ, pos, negsuc}
use lib.ListN.{length, get_or, drop}
use lib.Signed.{le_z_yes}
use borrow.Author.Tests.{eqb-true, eq-eqb, ltb-true, lt-ltb, leb-true, le-leb}
use Rattle.lists.specs.Lists.{pick, All}
use Rattle.scan.specs.Ascii.{ascii}
use Rattle.scan.specs.Bytes.{starts_with}
use Rattle.scan.specs.TypeText.{shape_end}
use Rattle.scan.specs.TensorText.{type_close}
use Rattle.text.specs.declared.Token.{Token}
use Rattle.shape.specs.Index.{volume}
use Rattle.shape.specs.Whole.{pattern_of}
use Rattle.element.specs.declared.ElementType.{ElementType}
use Rattle.types.specs.Tensors.{TypeRead}
use Rattle.types.specs.Numbers.{NumberRead}
use Rattle.types.specs.Tensors.{element_named, bytes_between, dimensions_from, byte_count, all_fit, type_size_passed, typed, foreign, type_after, type_of}
use Rattle.types.specs.Numbers.{decimal_number, is_attribute_number, pattern_in, fitting, unfit}
use Rattle.grammar.specs.Symbols.{OpName, ListNumber}
use Rattle.grammar.proofs.TableTest.{true-T, T_true}
use Rattle.syntax.specs.Readings.{Reading}
use Rattle.judge.specs.declared.tally.Tally.{Tally}
use Rattle.judge.specs.Roles.{among_roles, type_roles, number_roles, listed_roles, item_roles}
use Rattle.judge.specs.Tally.{item_number, elements_at}
use Rattle.judge.specs.Sizes.{type_passed, many_elements, many_ops, many_items, long_list, large_number, long_name, passes, first_passed, size_passed}
use Rattle.size_laws.specs.SizeSentences.{KnownType, written_dims, LimitedDims, elements_through, items_before, InSigned64, PassedAt, rank, dimensions, elements, ops, items, numbers, range, characters}
use Rattle.size_laws.proofs.OpenLaw.{OpenedEach}
use Rattle.size_laws.proofs.CountedLaw.{tally_of, tally-ops, elements-with, tally-elements}
use Rattle.size_laws.proofs.WindowLaw.{WindowedEach}
use Rattle.size_laws.proofs.ItemsLaw.{item-number}
use Rattle.size_laws.proofs.FirstLaw.{wrong}

and_both : (a b : Bool) → a && b ≡ true → (a ≡ true) × (b ≡ true)
and_both true b e = (refl, e)
and_both false b e = wrong e

and-make : (a b : Bool) → a ≡ true → b ≡ true → a && b ≡ true
and-make true b e f = f
and-make false b e f = e

not-make : (b : Bool) → (b ≡ true → ⊥) → not b ≡ true
not-make true n = absurd (n refl)
not-make false n = refl

not-both : (b : Bool) → not b ≡ true → b ≡ true → ⊥
not-both true e f = wrong e
not-both false e f = wrong f

-- ---- sizes 1 and 2

all-fits : (ds : List ℕ) → All (λ d. d ≤ 4096) ds → all_fit ds ≡ true
unfolding all_fit
all-fits [] a = refl
all-fits (d ∷ ds) a = and-make (leb d 4096) (all_fit ds) (le-leb d 4096 a.0) (all-fits ds a.1)

fits_all : (ds : List ℕ) → all_fit ds ≡ true → All (λ d. d ≤ 4096) ds
unfolding all_fit
fits_all [] e = tt
fits_all (d ∷ ds) e = let b = and_both (leb d 4096) (all_fit ds) e in (leb-true d 4096 b.0, fits_all ds b.1)

abbrev limited : List ℕ → Bool
limited ds = all_fit ds && leb (volume ds) 4096

limited-dims : (ds : List ℕ) → limited ds ≡ true → LimitedDims ds
limited-dims ds e = let b = and_both (all_fit ds) (leb (volume ds) 4096) e in record { each = fits_all ds b.0; product = leb-true (volume ds) 4096 b.1 }

dims-limited : (ds : List ℕ) → LimitedDims ds → limited ds ≡ true
dims-limited ds l = and-make (all_fit ds) (leb (volume ds) 4096) (all-fits ds l.each) (le-leb (volume ds) 4096 l.product)

-- which of the two a type passes, by four tests
abbrev type_size : Bool → Bool → Bool → Bool → ℕ
type_size a k r f = pick a (pick k (pick r 1 (pick f 0 2)) 0) 0

-- "Two at one token: the lower number": beside size 1, size 2 says nothing of the rank
first-same : (a k r f : Bool) (bs : List Bool) →
    first_passed 1 (eqb (type_size a k r f) 1 ∷ eqb (type_size a k r f) 2 ∷ bs) ≡ first_passed 1 ((a && (k && r)) ∷ (a && (k && not f)) ∷ bs)
unfolding first_passed
first-same false k r f bs = refl
first-same true false r f bs = refl
first-same true true true f bs = refl
first-same true true false true bs = refl
first-same true true false false bs = refl

-- ---- size 7

fits-is : (b : Bool) (n : ℕ) → (pick {A = NumberRead} b (fitting n) unfit).fits ≡ b
fits-is true n = refl
fits-is false n = refl

number_fits : (z : ℤ) → (pattern_in z).fits ≡ is_attribute_number z
unfolding pattern_in
number_fits z = fits-is (is_attribute_number z) (pattern_of z)

at_most : (n : ℕ) → ltb n (2 ^ 63) ≡ true → leb n (2 ^ 63 - 1) ≡ true
at_most n e = let z = ltb-true n (2 ^ 63) e in le-leb n (2 ^ 63 - 1) (omega arith)

less : (n : ℕ) → leb n (2 ^ 63 - 1) ≡ true → ltb n (2 ^ 63) ≡ true
less n e = let z = leb-true n (2 ^ 63 - 1) e in lt-ltb n (2 ^ 63) (omega arith)

in-range : (z : ℤ) → is_attribute_number z ≡ true → InSigned64 z
unfolding is_attribute_number
in-range (pos n) e = (le_z_yes tt, le_z_yes (true-T _ (at_most n e)))
in-range (negsuc n) e = (le_z_yes (true-T _ (at_most n e)), le_z_yes tt)

range-in : (z : ℤ) → InSigned64 z → is_attribute_number z ≡ true
unfolding is_attribute_number
range-in (pos n) r = less n (T_true _ r.1.le)
range-in (negsuc n) r = less n (T_true _ r.0.le)

-- ---- the eight tests

module _ (text : List ℕ) where
  type-passed : (x : Reading) → (type_of text x.token.start).passed ≡ pick (type_of text x.token.start).known (type_size_passed (written_dims text x)) 0
  unfolding type_of type_after typed foreign
  type-passed x =
      let at = x.token.start + 7 in
      let name = element_named text (shape_end text at) (type_close text at) in
      let shape = bytes_between at (shape_end text at) text in
      go (starts_with (ascii "tensor<") (drop x.token.start text)) (name.known && eqb (byte_count 63 shape) 0) (typed name.element (dimensions_from 0 shape)) refl refl
    where
      go : (a b : Bool) (t : TypeRead) → t.known ≡ true → t.passed ≡ type_size_passed (written_dims text x) →
          (pick a (pick b t foreign) foreign).passed ≡ pick (pick a (pick b t foreign) foreign).known (type_size_passed (written_dims text x)) 0
      go true true t e f = rw e f
      go true false t e f = refl
      go false b t e f = refl

  module _ (earlier : List Reading) (x : Reading) where
    abbrev is_type : Bool
    is_type = among_roles type_roles x.role

    abbrev is_known : Bool
    is_known = (type_of text x.token.start).known

    abbrev ranked : Bool
    ranked = ltb 6 (length (written_dims text x))

    -- sizes 1 to 8, each by its own sentence
    abbrev pub tests : List Bool
    tests =
        (is_type && (is_known && ranked))
        ∷ (is_type && (is_known && not (limited (written_dims text x))))
        ∷ many_elements text (tally_of text earlier) x.role x.token
        ∷ many_ops (tally_of text earlier) x.role
        ∷ many_items (tally_of text earlier) x.role
        ∷ long_list (tally_of text earlier) x.role
        ∷ large_number text x.role x.token
        ∷ long_name x.token
        ∷ []

    type-size : type_passed text x.role x.token ≡ type_size is_type is_known ranked (limited (written_dims text x))
    unfolding type_passed type_size_passed
    type-size = ap (λ (n : ℕ). pick is_type n 0) (type-passed x)

    pub size-tests : size_passed text (tally_of text earlier) x.role x.token ≡ first_passed 1 tests
    unfolding size_passed passes
    size-tests = rw type-size (first-same is_type is_known ranked (limited (written_dims text x)) _)

    known-type : (b : Bool) → is_type && (is_known && b) ≡ true → KnownType text x × (b ≡ true)
    known-type b e =
        let p = and_both is_type (is_known && b) e in
        let q = and_both is_known b p.1 in
        ((p.0, q.0), q.1)

    type-known : (b : Bool) → KnownType text x → b ≡ true → is_type && (is_known && b) ≡ true
    type-known b k e = and-make is_type (is_known && b) k.0 (and-make is_known b k.1 e)

    module _ (o : OpenedEach earlier) (w : WindowedEach (x ∷ earlier)) where
      abbrev elements_told : ℕ
      elements_told = (tally_of text earlier).elements + elements_at text (tally_of text earlier) x.role x.token

      elements-are : elements_told ≡ elements_through text (x ∷ earlier)
      elements-are = elements-with text earlier x o (tally-elements text earlier o)

      listed-number : among_roles listed_roles x.role ≡ true → item_number (tally_of text earlier) ≡ items_before x.role earlier + 1
      unfolding among_roles
      listed-number e = item-number text x earlier (go (eqb ListNumber x.role) (among_roles listed_roles x.role) e) w
        where
          go : (a b : Bool) → b ≡ true → pick a true b ≡ true
          go true b e = refl
          go false b e = e

      list-number : x.role ≡ ListNumber → item_number (tally_of text earlier) ≡ items_before ListNumber earlier + 1
      unfolding among_roles
      list-number e =
          subst (λ (r : ℕ). item_number (tally_of text earlier) ≡ items_before r earlier + 1) e (item-number text x earlier (ap (among_roles item_roles) e) w)

      test-elements : many_elements text (tally_of text earlier) x.role x.token ≡ true → PassedAt text earlier x 3
      unfolding many_elements
      test-elements e = elements (rw elements-are at (ltb-true 8192 elements_told e))

      test-ops : many_ops (tally_of text earlier) x.role ≡ true → PassedAt text earlier x 4
      unfolding many_ops
      test-ops e =
          let b = and_both (eqb x.role OpName) (ltb 256 ((tally_of text earlier).ops + 1)) e in
          let h = ltb-true 256 ((tally_of text earlier).ops + 1) b.1 in
          let q = tally-ops text earlier in
          ops (eqb-true x.role OpName b.0) (omega arith)

      test-items : many_items (tally_of text earlier) x.role ≡ true → PassedAt text earlier x 5
      unfolding many_items
      test-items e =
          let b = and_both (among_roles listed_roles x.role) (ltb 8 (item_number (tally_of text earlier))) e in
          let h = ltb-true 8 (item_number (tally_of text earlier)) b.1 in
          let q = listed-number b.0 in
          items b.0 (omega arith)

      test-numbers : long_list (tally_of text earlier) x.role ≡ true → PassedAt text earlier x 6
      unfolding long_list
      test-numbers e =
          let b = and_both (eqb x.role ListNumber) (ltb 6 (item_number (tally_of text earlier))) e in
          let r = eqb-true x.role ListNumber b.0 in
          let h = ltb-true 6 (item_number (tally_of text earlier)) b.1 in
          let q = list-number r in
          numbers r (omega arith)

      test-range : large_number text x.role x.token ≡ true → PassedAt text earlier x 7
      unfolding large_number
      test-range e =
          let z = decimal_number text x.token.start in
          let b = and_both (among_roles number_roles x.role) (not (pattern_in z).fits) e in
          range b.0 (λ r. not-both (pattern_in z).fits b.1 (number_fits z ∙ range-in z r))

      test-characters : long_name x.token ≡ true → PassedAt text earlier x 8
      unfolding long_name
      test-characters e =
          let b = and_both (eqb x.token.kind 3) (ltb 32 (x.token.end - x.token.start)) e in
          characters (eqb-true x.token.kind 3 b.0) (ltb-true 32 (x.token.end - x.token.start) b.1)

      -- a test that holds: its sentence does
      pub test-says : (k : ℕ) → get_or tests k false ≡ true → PassedAt text earlier x (suc k)
      test-says zero e = let b = known-type ranked e in rank b.0 (ltb-true 6 (length (written_dims text x)) b.1)
      test-says (suc zero) e =
          let b = known-type (not (limited (written_dims text x))) e in
          dimensions b.0 (λ l. not-both (limited (written_dims text x)) b.1 (dims-limited (written_dims text x) l))
      test-says (suc (suc zero)) e = test-elements e
      test-says (suc (suc (suc zero))) e = test-ops e
      test-says (suc (suc (suc (suc zero)))) e = test-items e
      test-says (suc (suc (suc (suc (suc zero))))) e = test-numbers e
      test-says (suc (suc (suc (suc (suc (suc zero)))))) e = test-range e
      test-says (suc (suc (suc (suc (suc (suc (suc zero))))))) e = test-characters e
      test-says (suc (suc (suc (suc (suc (suc (suc (suc k)))))))) e = wrong e

      -- a sentence that holds: its test does
      pub test-holds : {n : ℕ} → PassedAt text earlier x n → get_or tests (n - 1) false ≡ true
      unfolding many_elements many_ops many_items long_list large_number long_name
      test-holds (rank t h) = type-known ranked t (lt-ltb 6 (length (written_dims text x)) h)
      test-holds (dimensions t n) =
          type-known (not (limited (written_dims text x))) t (not-make (limited (written_dims text x)) (λ e. n (limited-dims (written_dims text x) e)))
      test-holds (elements h) = lt-ltb 8192 elements_told (rw elements-are h)
      test-holds (ops r h) =
          and-make (eqb x.role OpName) (ltb 256 ((tally_of text earlier).ops + 1)) (eq-eqb x.role OpName r)
          (lt-ltb 256 ((tally_of text earlier).ops + 1) (let q = tally-ops text earlier in omega arith))
      test-holds (items r h) =
          and-make (among_roles listed_roles x.role) (ltb 8 (item_number (tally_of text earlier))) r (lt-ltb 8 (item_number (tally_of text earlier)) (let q = listed-number r in omega arith))
      test-holds (numbers r h) =
          and-make (eqb x.role ListNumber) (ltb 6 (item_number (tally_of text earlier))) (eq-eqb x.role ListNumber r)
          (lt-ltb 6 (item_number (tally_of text earlier)) (let q = list-number r in omega arith))
      test-holds (range r n) =
          let z = decimal_number text x.token.start in
          and-make (among_roles number_roles x.role) (not (pattern_in z).fits) r (not-make (pattern_in z).fits (λ e. n (in-range z (sym (number_fits z) ∙ e))))
      test-holds (characters r h) =
          and-make (eqb x.token.kind 3) (ltb 32 (x.token.end - x.token.start)) (eq-eqb x.token.kind 3 r) (lt-ltb 32 (x.token.end - x.token.start) h)
