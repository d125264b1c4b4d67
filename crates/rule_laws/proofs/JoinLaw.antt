-- The checks of concatenate refuse what its tests refuse, with the same C number.
-- Assumes nothing.
use mathlib.Core.Path.{◌≡◌, refl, sym, ap, ◌∙◌, subst}
use mathlib.Core.List.{List}
use mathlib.Core.Bool.{Bool, true, false, ◌&&◌, ◌||◌}
use Prim.Native.Nat.{ℕ, zero, suc, ◌+◌, ◌≤◌, ◌<◌, suc-le-suc}
use native.Mathlib.Nat.{zero-lt-suc}
use native.Mathlib.Decide.{dec_lt}
use native.Mathlib.Omega.{arith}
use lib.ListN.{length}
use lib.Dec.{ltb, leb, eqb, leb-zero}
use lib.IntN.{ℤ, pos, negsuc, nat_abs}
use lib.Signed.{le_z, lt_z}
use borrow.Author.Tests.{eqb-true, eq-eqb, lt-ltb, le-ltb, ltb-true}
use Rattle.lists.specs.Lists.{pick, tab}
use Rattle.lists.proofs.TestLaw.{both_true}
use Rattle.lists.proofs.TabLaw.{tab-cong, length-tab, get_or-tab}
use Rattle.dimrules.specs.Count.{everywhere, sum_below}
use Rattle.dimrules.specs.Whole.{number_of, eq_int, below}
use Rattle.dimrules.specs.Dims.{dim, dim_test}
use Rattle.dimrules.specs.Types.{no_type, type_at, same_element, same_but_one, shapes_beside, type_test, operand_test, all_types, sum_of_dims}
use Rattle.dimrules.specs.declared.TensorType.{TensorType}
use Rattle.dimrules.specs.declared.DimTest.TheVariants.{SameExcept}
use Rattle.dimrules.specs.declared.TypeTest.TheVariants.{SameElement, SameButOne}
use Rattle.dimrules.proofs.CountLaw.{holds_at}
use Rattle.rule_laws.specs.Broken.{first_broken}
use Rattle.rule_laws.specs.Broken.{}
use Rattle.rule_laws.proofs.Tests.{concatenate_tests, iota_tests}
use Rattle.checks.specs.Check.{Term, is, equal, less, at_most, compares, fact, Check, check_holds}
use Rattle.checks.specs.Formula.{shape, rank, ◌!◌, ◌‼◌, many, int, nat, entries, ◌and◌, each, whole, exists, ◌[=]◌, ◌[<]◌, ◌[≤]◌}
use Rattle.checks.specs.Meaning.{Compares}
use Rattle.checks.proofs.CheckLaw.{and-true, same_tests, holds-once, holds-each, everywhere-all, everywhere-cong}
use Rattle.checks.proofs.MeaningLaw.{related, unrelated, compares-true, true-compares, compared-true, true-compared, and-true-both, both-and-true}
use Rattle.checks.proofs.ReadingLaw.{at-past, shape-at, shape-row-true, true-shape-row}
use Rattle.checks.specs.Check.{broken_number}
use Rattle.op_checks.specs.OpChecks.{types_from, concatenate_checks, put_at, sum_dims, iota_checks}
use Rattle.checks.proofs.TypeLaw.{dim_of}
use Rattle.rule_laws.proofs.AlikeLaw.{alike-first}
use Rattle.rule_laws.proofs.IntsLaw.{number-pos}

-- ---- a dimension that exists

named-same : (y : TensorType) (k : ℤ) → check_holds (exists (shape y ‼ is k)) ≡ (le_z (pos 0) k && lt_z k (pos (rank y)))
named-same y (negsuc p) = refl
named-same y (pos p) = by_place (dec_lt p (rank y))
  where
    by_place : Dec (p < rank y) → check_holds (exists (shape y ! p)) ≡ (leb 0 p && ltb p (rank y))
    by_place (yes h) = rw (shape-at y p h, leb-zero p, lt-ltb p (rank y) h) refl
    by_place (no h) =
        let g : rank y ≤ p = omega arith in
        rw (at-past (shape y) p (rw (length-tab (rank y) (λ (e : ℕ). pos (dim y.shape e))) g), leb-zero p, le-ltb p (rank y) g) refl

below-pos : (w n : ℕ) → below w n ≡ true → (number_of w ≡ pos w) × (w < n)
unfolding below
below-pos w n e =
    let h = both_true (le_z (pos 0) (number_of w)) (lt_z (number_of w) (pos n)) e in
    let q : number_of w ≡ pos w = number-pos w (related at_most (pos 0) (number_of w) h.0) in
    (q, ltb-true w n (subst (λ (z : ℤ). lt_z z (pos n) ≡ true) q h.1))

below-text : (w n : ℕ) → below w n ≡ (le_z (pos 0) (number_of w) && lt_z (number_of w) (pos n))
unfolding below
below-text w n = refl

one_same : (k : ℤ) (n : ℕ) → check_holds ((int (pos 0) [≤] int k) and (int k [<] nat n)) ≡ (le_z (pos 0) k && lt_z k (pos n))
one_same k n =
    same_tests _ _
    (λ e.
    let h = and-true-both (int (pos 0) [≤] int k) (int k [<] nat n) e in
    and-true (le_z (pos 0) k) (lt_z k (pos n)) (unrelated at_most (pos 0) k ((compared-true at_most (int (pos 0)) (int k) h.0).1 0 (zero-lt-suc 0))) (unrelated less k (pos n) ((compared-true less (int k) (nat n) h.1).1 0 (zero-lt-suc 0))))
    (λ e.
    let h = both_true (le_z (pos 0) k) (lt_z k (pos n)) e in
    both-and-true (int (pos 0) [≤] int k) (int k [<] nat n)
    (true-compared at_most (int (pos 0)) (int k) (tt, λ d l. related at_most (pos 0) k h.0)) (true-compared less (int k) (nat n) (tt, λ d l. related less k (pos n) h.1)))

-- ---- alike but for one dimension

long : (y : TensorType) → length (shape y) ≡ rank y
long y = length-tab (rank y) (λ e. pos (dim y.shape e))

module _ (x y : TensorType) (w : ℕ) where
  abbrev rest : Check
  rest = many (put_at (shape x) (number_of w) (is (pos 0))) [=] many (put_at (shape y) (number_of w) (is (pos 0)))

  abbrev old : ℕ → Bool
  old = dim_test SameExcept (shapes_beside x y w)

  place_same : (d : ℕ) → number_of w ≡ pos w → d < rank x → d < rank y →
      compares ((put_at (shape x) (number_of w) (is (pos 0))).term d) equal ((put_at (shape y) (number_of w) (is (pos 0))).term d) ≡ old d
  unfolding dim_test
  place_same d q h g = rw (q, shape-at x d h, shape-at y d g) (by-test (eqb d w))
    where
      by-test : (b : Bool) → compares (pick b (is (pos 0)) (is (dim_of x d))) equal (pick b (is (pos 0)) (is (dim_of y d))) ≡ (b || eqb (dim x.shape d) (dim y.shape d))
      by-test true = refl
      by-test false = refl

  but-one-same : check_holds (exists (shape y ‼ is (number_of w)) and rest) ≡ same_but_one x y w
  unfolding same_but_one
  but-one-same =
      same_tests _ _
      (λ e.
      let h = and-true-both (exists (shape y ‼ is (number_of w))) rest e in
      let c = compared-true equal (many (put_at (shape x) (number_of w) (is (pos 0)))) (many (put_at (shape y) (number_of w) (is (pos 0)))) h.1 in
      let r : rank x ≡ rank y = sym (long x) ∙ c.0 ∙ long y in
      let b : below w (rank x) ≡ true = rw r (below-is (rank y) ∙ sym (named-same y (number_of w)) ∙ h.0) in
      let q = below-pos w (rank x) b in
      and-true (eqb (rank x) (rank y) && below w (rank x)) (everywhere (rank x) old) (and-true (eqb (rank x) (rank y)) (below w (rank x)) (eq-eqb (rank x) (rank y) r) b)
      (everywhere-all (rank x) old (λ d k. sym (place_same d q.0 k (rw (sym r) k)) ∙ true-compares ((put_at (shape x) (number_of w) (is (pos 0))).term d) equal ((put_at (shape y) (number_of w) (is (pos 0))).term d) (c.1 d (rw (long x) k)))))
      (λ e.
      let h = both_true (eqb (rank x) (rank y) && below w (rank x)) (everywhere (rank x) old) e in
      let g = both_true (eqb (rank x) (rank y)) (below w (rank x)) h.0 in
      let r : rank x ≡ rank y = eqb-true (rank x) (rank y) g.0 in
      let q = below-pos w (rank x) g.1 in
      both-and-true (exists (shape y ‼ is (number_of w))) rest (named-same y (number_of w) ∙ sym (below-is (rank y)) ∙ (rw r at g.1))
      (true-compared equal (many (put_at (shape x) (number_of w) (is (pos 0)))) (many (put_at (shape y) (number_of w) (is (pos 0)))) (
        long x ∙ r ∙ sym (long y),
        λ d i.
            let k : d < rank x = rw (long x) at i in
            compares-true ((put_at (shape x) (number_of w) (is (pos 0))).term d) equal ((put_at (shape y) (number_of w) (is (pos 0))).term d) (place_same d q.0 k (rw (sym r) k) ∙ holds_at (rank x) old h.1 d k),
      )))
    where
      below-is : (n : ℕ) → below w n ≡ (le_z (pos 0) (number_of w) && lt_z (number_of w) (pos n))
      below-is n = below-text w n

-- ---- the sum along a dimension

sum-front : (n : ℕ) (g : ℕ → ℕ) → sum_below (suc n) g ≡ g 0 + sum_below n (λ k. g (suc k))
sum-front zero g = let e : 0 + g 0 ≡ g 0 + 0 = omega arith in e
sum-front (suc n) g =
    ap (λ (k : ℕ). k + g (suc n)) (sum-front n g)
    ∙ (let e : g 0 + sum_below n (λ k. g (suc k)) + g (suc n) ≡ g 0 + (sum_below n (λ k. g (suc k)) + g (suc n)) = omega arith in e)

sum_is : (n w : ℕ) (f : ℕ → TensorType) → ((j : ℕ) → j < n → w < rank (f j)) → sum_dims (tab n f) (pos w) ≡ is (pos (sum_below n (λ j. dim (f j).shape w)))
sum_is zero w f h = refl
sum_is (suc n) w f h =
    rw (shape-at (f 0) w (h 0 (zero-lt-suc n)), sum_is n w (λ j. f (suc j)) (λ j l. h (suc j) (suc-le-suc l)))
    (ap (λ (k : ℕ). is (pos k)) (sym (sum-front n (λ j. dim (f j).shape w))))

-- ---- concatenate

-- the operands of an op
abbrev operands_of : List TensorType → ℕ → List TensorType
operands_of types arity = tab arity (type_at types)

module _ (types : List TensorType) (arity w : ℕ) (r : TensorType) where
  abbrev inputs : List TensorType
  inputs = operands_of types arity

  inputs_long : length inputs ≡ arity
  inputs_long = length-tab arity (type_at types)

  input-at : (j : ℕ) → j < arity → type_at inputs j ≡ type_at types j
  input-at j h = get_or-tab arity (type_at types) j no_type h

  elements-alike : check_holds (each (length inputs) (λ j. fact (same_element (type_at inputs 0) (type_at inputs j)))) ≡ all_types SameElement 0 (type_at types 0) types 0 arity
  unfolding all_types type_test
  elements-alike =
      holds-each (length inputs) (λ j. fact (same_element (type_at inputs 0) (type_at inputs j)))
      ∙ ap (λ (n : ℕ). everywhere n (λ j. same_element (type_at inputs 0) (type_at inputs j))) inputs_long
      ∙ everywhere-cong arity (λ j. same_element (type_at inputs 0) (type_at inputs j)) (operand_test SameElement 0 (type_at types 0) types 0)
      (λ j h. let z : 0 + j ≡ j = omega arith in rw (z, input-at j h, input-at 0 (omega arith)) refl)

  abbrev but_one : TensorType → TensorType → Check
  but_one x y = exists (shape y ‼ is (number_of w)) and (many (put_at (shape x) (number_of w) (is (pos 0))) [=] many (put_at (shape y) (number_of w) (is (pos 0))))

  shapes-alike : check_holds (each (length inputs) (λ j. whole (but_one (type_at inputs 0) (type_at inputs j)))) ≡ all_types SameButOne w (type_at types 0) types 0 arity
  unfolding all_types type_test
  shapes-alike =
      holds-each (length inputs) (λ j. whole (but_one (type_at inputs 0) (type_at inputs j)))
      ∙ ap (λ (n : ℕ). everywhere n (λ j. check_holds (but_one (type_at inputs 0) (type_at inputs j)))) inputs_long
      ∙ everywhere-cong arity (λ j. check_holds (but_one (type_at inputs 0) (type_at inputs j))) (operand_test SameButOne w (type_at types 0) types 0)
      (λ j h.
      let z : 0 + j ≡ j = omega arith in
      ap (λ (t : TensorType). check_holds (but_one (type_at inputs 0) t)) (input-at j h) ∙ ap (λ (t : TensorType). check_holds (but_one t (type_at types j))) (input-at 0 (omega arith))
      ∙ but-one-same (type_at types 0) (type_at types j) w ∙ ap (λ (i : ℕ). same_but_one (type_at types 0) (type_at types i) w) (sym z))

  some_same : check_holds (nat 0 [<] nat (length inputs)) ≡ ltb 0 arity
  some_same =
      same_tests _ _
      (λ e. subst (λ (n : ℕ). ltb 0 n ≡ true) inputs_long (unrelated less (pos 0) (pos (length inputs)) ((compared-true less (nat 0) (nat (length inputs)) e).1 0 (zero-lt-suc 0))))
      (λ e. true-compared less (nat 0) (nat (length inputs)) (tt, λ d l. related less (pos 0) (pos (length inputs)) (subst (λ (n : ℕ). ltb 0 n ≡ true) (sym inputs_long) e)))

  abbrev joined : TensorType → Check
  joined x = entries (shape r) [=] many (put_at (shape x) (number_of w) (sum_dims inputs (number_of w)))

  total-same : all_types SameButOne w (type_at types 0) types 0 arity ≡ true → below w (rank (type_at types 0)) ≡ true →
      check_holds (joined (type_at types 0)) ≡ (same_but_one (type_at types 0) r w && eqb (dim r.shape w) (sum_of_dims types arity w))
  unfolding all_types type_test same_but_one dim_test sum_of_dims
  total-same a b =
      same_tests _ _
      (λ e.
      let c = shape-row-true r (length (shape x)) formula e in
      let q : rank x ≡ rank r = sym (long x) ∙ sym c.0 in
      and-true (eqb (rank x) (rank r) && below w (rank x) && everywhere (rank x) old') (eqb (dim r.shape w) T)
      (and-true (eqb (rank x) (rank r) && below w (rank x)) (everywhere (rank x) old') (and-true (eqb (rank x) (rank r)) (below w (rank x)) (eq-eqb (rank x) (rank r) q) b)
      (everywhere-all (rank x) old' (λ d k. other d (eqb d w) refl (subst (λ (z : Term). Compares (is (dim_of r d)) equal z) (worth d k) (c.1 d (rw (long x) k))))))
      (eq-eqb (dim r.shape w) T (total (subst (λ (z : Term). Compares (is (dim_of r w)) equal z) (worth w p.1) (c.1 w (rw (long x) p.1))))))
      (λ e.
      let h = both_true (eqb (rank x) (rank r) && below w (rank x) && everywhere (rank x) old') (eqb (dim r.shape w) T) e in
      let g = both_true (eqb (rank x) (rank r) && below w (rank x)) (everywhere (rank x) old') h.0 in
      let q : rank x ≡ rank r = eqb-true (rank x) (rank r) (both_true (eqb (rank x) (rank r)) (below w (rank x)) g.0).0 in
      true-shape-row r (length (shape x)) formula (sym q ∙ sym (long x)) (λ d i.
      let k : d < rank x = rw (long x) at i in
      subst (λ (z : Term). Compares (is (dim_of r d)) equal z) (sym (worth d k)) (again d (eqb d w) refl (holds_at (rank x) old' g.1 d k) (eqb-true (dim r.shape w) T h.1))))
    where
      x : TensorType
      x = type_at types 0

      T : ℕ
      T = sum_below arity (λ j. dim (type_at types j).shape w)

      old' : ℕ → Bool
      old' = dim_test SameExcept (shapes_beside x r w)

      formula : ℕ → Term
      formula d = pick (eq_int (pos d) (number_of w)) (sum_dims inputs (number_of w)) (shape x ! d)

      p : (number_of w ≡ pos w) × (w < rank x)
      p = below-pos w (rank x) b

      inside : (j : ℕ) → j < arity → w < rank (type_at types j)
      inside j h =
          let z : 0 + j ≡ j = omega arith in
          let t : (eqb (rank x) (rank (type_at types (0 + j))) && below w (rank x) && everywhere (rank x) (dim_test SameExcept (shapes_beside x (type_at types (0 + j)) w))) ≡ true = holds_at arity (operand_test SameButOne w x types 0) a j h in
          let u = both_true (eqb (rank x) (rank (type_at types (0 + j))) && below w (rank x)) (everywhere (rank x) (dim_test SameExcept (shapes_beside x (type_at types (0 + j)) w))) t in
          let v = both_true (eqb (rank x) (rank (type_at types (0 + j)))) (below w (rank x)) u.0 in
          let y : rank x ≡ rank (type_at types j) = eqb-true (rank x) (rank (type_at types (0 + j))) v.0 ∙ ap (λ (i : ℕ). rank (type_at types i)) z in
          subst (λ (n : ℕ). w < n) y p.1

      worth : (d : ℕ) → d < rank x → formula d ≡ pick (eqb d w) (is (pos T)) (is (dim_of x d))
      worth d k = rw (p.0, sum_is arity w (type_at types) inside, shape-at x d k) refl

      other : (d : ℕ) (c : Bool) → eqb d w ≡ c → Compares (is (dim_of r d)) equal (pick (eqb d w) (is (pos T)) (is (dim_of x d))) → (eqb d w || eqb (dim x.shape d) (dim r.shape d)) ≡ true
      other d true q m = rw q refl
      other d false q m =
          let n : dim_of r d ≡ dim_of x d = subst (λ (c : Bool). Compares (is (dim_of r d)) equal (pick c (is (pos T)) (is (dim_of x d)))) q m in
          rw q (eq-eqb (dim x.shape d) (dim r.shape d) (sym (ap nat_abs n)))

      total : Compares (is (dim_of r w)) equal (pick (eqb w w) (is (pos T)) (is (dim_of x w))) → dim r.shape w ≡ T
      total m =
          let n : dim_of r w ≡ pos T = subst (λ (c : Bool). Compares (is (dim_of r w)) equal (pick c (is (pos T)) (is (dim_of x w)))) (eq-eqb w w refl) m in
          ap nat_abs n

      again : (d : ℕ) (c : Bool) → eqb d w ≡ c → (eqb d w || eqb (dim x.shape d) (dim r.shape d)) ≡ true → dim r.shape w ≡ T →
          Compares (is (dim_of r d)) equal (pick (eqb d w) (is (pos T)) (is (dim_of x d)))
      again d true q m n =
          subst (λ (c : Bool). Compares (is (dim_of r d)) equal (pick c (is (pos T)) (is (dim_of x d)))) (sym q) (ap pos (ap (dim r.shape) (eqb-true d w q) ∙ n))
      again d false q m n =
          let k : eqb (dim x.shape d) (dim r.shape d) ≡ true = rw q at m in
          subst (λ (c : Bool). Compares (is (dim_of r d)) equal (pick c (is (pos T)) (is (dim_of x d)))) (sym q) (ap pos (sym (eqb-true (dim x.shape d) (dim r.shape d) k)))

  same_operands : broken_number (concatenate_checks (operands_of types arity) (number_of w) r) ≡ first_broken (concatenate_tests types arity w r)
  unfolding concatenate_checks concatenate_tests
  same_operands =
      alike-first (concatenate_checks (operands_of types arity) (number_of w) r) (concatenate_tests types arity w r) 1 (
        elements-alike,
        λ h1. (
          shapes-alike,
          λ h2. (
            some_same,
            λ h3.
                let f : type_at inputs 0 ≡ type_at types 0 = input-at 0 (ltb-true 0 arity (sym some_same ∙ h3)) in
                let c4 : check_holds ((int (pos 0) [≤] int (number_of w)) and (int (number_of w) [<] nat (rank (type_at inputs 0)))) ≡ below w (rank (type_at types 0)) =
                one_same (number_of w) (rank (type_at inputs 0)) ∙ sym (below-text w (rank (type_at inputs 0))) ∙ ap (λ (t : TensorType). below w (rank t)) f in (
                  c4,
                  λ h4. (
                    holds-once (fact (same_element (type_at inputs 0) r)) ∙ ap (λ (t : TensorType). same_element t r) f,
                    λ h5. (
                      ap (λ (t : TensorType). check_holds (joined t)) f ∙ total-same (sym shapes-alike ∙ h2) (sym c4 ∙ h4),
                      λ h6. tt,
                    ),
                  ),
                ),
          ),
        ),
      )

  operands-are : types_from types 0 arity ≡ operands_of types arity
  operands-are = tab-cong arity (λ j. type_at types (0 + j)) (type_at types) (λ j h. ap (type_at types) (let z : 0 + j ≡ j = omega arith in z))

  pub same-concatenate : broken_number (concatenate_checks (types_from types 0 arity) (number_of w) r) ≡ first_broken (concatenate_tests types arity w r)
  same-concatenate = ap (λ (xs : List TensorType). broken_number (concatenate_checks xs (number_of w) r)) operands-are ∙ same_operands

-- ---- iota

pub same-iota : (w : ℕ) (r : TensorType) → broken_number (iota_checks (number_of w) r) ≡ first_broken (iota_tests w r)
unfolding iota_checks iota_tests
same-iota w r = alike-first (iota_checks (number_of w) r) (iota_tests w r) 1 (one_same (number_of w) (rank r) ∙ sym (below-text w (rank r)), λ h1. tt)
