-- All constraints of concatenate hold if and only if what 000 says of it is true.
-- Assumes nothing.
use mathlib.Core.Path.{◌≡◌, refl, sym, ap, ◌∙◌, subst, subst₂}
use mathlib.Core.List.{List, [], ◌∷◌}
use mathlib.Core.Bool.{Bool, true, false, false≢true}
use Prim.Native.Nat.{ℕ, zero, suc, ◌+◌, ◌≤◌, ◌<◌, suc-le-suc}
use native.Mathlib.Nat.{zero-lt-suc}
use native.Mathlib.Decide.{dec_lt}
use native.Mathlib.Omega.{arith}
use lib.ListN.{length}
use lib.Dec.{leb-zero}
use lib.IntN.{ℤ, pos, negsuc, nat_abs}
use borrow.Author.Tests.{ltb-true, lt-ltb}
use Rattle.lists.specs.Lists.{pick}
use Rattle.dimrules.specs.Count.{sum_below}
use Rattle.dimrules.specs.Whole.{eq_int}
use Rattle.dimrules.specs.Dims.{dim}
use Rattle.dimrules.specs.Types.{type_at, same_element, sum_of_dims}
use Rattle.dimrules.specs.declared.TensorType.{TensorType}
use Rattle.checks.specs.Check.{Term, is, equal, less, at_most, Test, fact, Check, check_holds, broken_number}
use Rattle.checks.specs.Formula.{shape, rank, ◌!◌, ◌‼◌, terms, many, nat, entries, ◌and◌, each, whole, exists, ◌[=]◌, ◌[<]◌}
use Rattle.checks.specs.Meaning.{Compares}
use Rattle.checks.proofs.CheckLaw.{each_all, all-each}
use Rattle.checks.proofs.MeaningLaw.{eq_int-true, true-eq_int, related, unrelated, compared-true, true-compared, and-true-both, both-and-true}
use Rattle.checks.proofs.ReadingLaw.{at-past, shape-at, shape-row-true, true-shape-row, place_of}
use Rattle.checks.proofs.NumberLaw.{all_hold, none-broken}
use Rattle.checks.proofs.TypeLaw.{same-element, elements-true, true-elements, shape-long}
use Rattle.op_checks.specs.OpChecks.{concatenate_checks, put_at, sum_dims}
use Rattle.constraint_facts.specs.OpFacts.{dim_of, IsIndex, AlikeExcept, ConcatenateFacts}
use Rattle.constraint_facts.proofs.WordLaw.{element-test, below-same, index-true, true-index}

-- ---- a dimension that exists

index-pos : (p n : ℕ) → p < n → IsIndex (pos p) n
index-pos p n h = (related at_most (pos 0) (pos p) (leb-zero p), related less (pos p) (pos n) (lt-ltb p n h))

named-true : (y : TensorType) (k : ℤ) → check_holds (exists (shape y ‼ is k)) ≡ true → IsIndex k (rank y)
named-true y (negsuc p) e = absurd (false≢true e)
named-true y (pos p) e = by_place (dec_lt p (rank y))
  where
    by_place : Dec (p < rank y) → IsIndex (pos p) (rank y)
    by_place (yes h) = index-pos p (rank y) h
    by_place (no h) =
        let g : rank y ≤ p = omega arith in
        absurd (false≢true (subst (λ (n : Term). check_holds (exists n) ≡ true) (at-past (shape y) p (rw (shape-long y) g)) e))

true-named : (y : TensorType) (k : ℤ) → IsIndex k (rank y) → check_holds (exists (shape y ‼ is k)) ≡ true
true-named y k f =
    let z = place_of k (rank y) f.0 f.1 in
    rw (z.1, shape-at y z.0 z.2) refl

-- ---- alike but for one dimension

module _ (x y : TensorType) (k : ℤ) where
  abbrev zeroed : TensorType → ℕ → Term
  zeroed t d = pick (eq_int (pos d) k) (is (pos 0)) (shape t ! d)

  abbrev but_one : Check
  but_one = many (put_at (shape x) k (is (pos 0))) [=] many (put_at (shape y) k (is (pos 0)))

  abbrev Both : Bool → Term → Term → Type 0
  Both b m n = Compares (pick b (is (pos 0)) m) equal (pick b (is (pos 0)) n)

  but-one-true : check_holds but_one ≡ true → AlikeExcept k x y
  but-one-true e =
      let c = compared-true equal (many (put_at (shape x) k (is (pos 0)))) (many (put_at (shape y) k (is (pos 0)))) e in
      let r : rank x ≡ rank y = sym (shape-long x) ∙ c.0 ∙ shape-long y in
      record {
        ranks = r;
        others = λ d h q.
            let p : Both (eq_int (pos d) k) (shape x ! d) (shape y ! d) = c.1 d (below-same d (sym (shape-long x)) h) in
            by-test d (eq_int (pos d) k) refl q
            (subst₂ (λ (m n : Term). Both (eq_int (pos d) k) m n) (shape-at x d h) (shape-at y d (below-same d r h)) p);
      }
    where
      by-test : (d : ℕ) (b : Bool) → eq_int (pos d) k ≡ b → (pos d ≡ k → ⊥) → Both b (is (dim_of x d)) (is (dim_of y d)) → dim_of x d ≡ dim_of y d
      by-test d true t q p = absurd (q (eq_int-true (pos d) k t))
      by-test d false t q p = p

  true-but-one : AlikeExcept k x y → check_holds but_one ≡ true
  true-but-one f =
      true-compared equal (many (put_at (shape x) k (is (pos 0)))) (many (put_at (shape y) k (is (pos 0)))) (
        shape-long x ∙ f.ranks ∙ sym (shape-long y),
        λ d i.
            let h : d < rank x = below-same d (shape-long x) i in
            subst₂ (λ (m n : Term). Both (eq_int (pos d) k) m n) (sym (shape-at x d h)) (sym (shape-at y d (below-same d f.ranks h)))
            (by-test d h (eq_int (pos d) k) refl),
      )
    where
      by-test : (d : ℕ) → d < rank x → (b : Bool) → eq_int (pos d) k ≡ b → Both b (is (dim_of x d)) (is (dim_of y d))
      by-test d h true t = refl
      by-test d h false t = f.others d h (λ q. false≢true (sym t ∙ true-eq_int (pos d) k q))

-- ---- the sum along a dimension

sum-front : (n : ℕ) (g : ℕ → ℕ) → sum_below (suc n) g ≡ g 0 + sum_below n (λ k. g (suc k))
sum-front zero g = let e : 0 + g 0 ≡ g 0 + 0 = omega arith in e
sum-front (suc n) g =
    ap (λ (k : ℕ). k + g (suc n)) (sum-front n g)
    ∙ (let e : g 0 + sum_below n (λ k. g (suc k)) + g (suc n) ≡ g 0 + (sum_below n (λ k. g (suc k)) + g (suc n)) = omega arith in e)

sum_is : (xs : List TensorType) (p : ℕ) → ((j : ℕ) → j < length xs → p < rank (type_at xs j)) → sum_dims xs (pos p) ≡ is (pos (sum_of_dims xs (length xs) p))
unfolding sum_of_dims
sum_is [] p f = refl
sum_is (x ∷ xs) p f =
    rw (shape-at x p (f 0 (zero-lt-suc (length xs))), sum_is xs p (λ j l. f (suc j) (suc-le-suc l)))
    (ap (λ (k : ℕ). is (pos k)) (sym (sum-front (length xs) (λ j. dim (type_at (x ∷ xs) j).shape p))))

-- ---- the shape of the result

module _ (x r : TensorType) (p total : ℕ) (inside : p < rank x) where
  abbrev joined : ℕ → Term
  joined d = pick (eq_int (pos d) (pos p)) (is (pos total)) (shape x ! d)

  abbrev Joined : Type 0
  Joined = AlikeExcept (pos p) x r × (dim r.shape p ≡ total)

  joined-true : check_holds (entries (shape r) [=] many (terms (length (shape x)) joined)) ≡ true → Joined
  joined-true e =
      let w = shape-row-true r (length (shape x)) joined e in
      let q : rank x ≡ rank r = sym (shape-long x) ∙ sym w.0 in (
        record { ranks = q; others = λ d h n. by-test d (eq_int (pos d) (pos p)) refl n (at_place d h (w.1 d (below-same d (sym (shape-long x)) h))) },
        ap nat_abs (subst (λ (b : Bool). Compares (is (dim_of r p)) equal (pick b (is (pos total)) (shape x ! p))) (true-eq_int (pos p) (pos p) refl)
            (w.1 p (below-same p (sym (shape-long x)) inside))),
      )
    where
      at_place : (d : ℕ) → d < rank x → Compares (is (dim_of r d)) equal (joined d) →
          Compares (is (dim_of r d)) equal (pick (eq_int (pos d) (pos p)) (is (pos total)) (is (dim_of x d)))
      at_place d h c = subst (λ (n : Term). Compares (is (dim_of r d)) equal (pick (eq_int (pos d) (pos p)) (is (pos total)) n)) (shape-at x d h) c

      by-test : (d : ℕ) (b : Bool) → eq_int (pos d) (pos p) ≡ b → (pos d ≡ pos p → ⊥) → Compares (is (dim_of r d)) equal (pick b (is (pos total)) (is (dim_of x d))) →
          dim_of x d ≡ dim_of r d
      by-test d true t q c = absurd (q (eq_int-true (pos d) (pos p) t))
      by-test d false t q c = sym c

  true-joined : Joined → check_holds (entries (shape r) [=] many (terms (length (shape x)) joined)) ≡ true
  true-joined f =
      true-shape-row r (length (shape x)) joined (sym f.0.ranks ∙ sym (shape-long x)) (λ d i.
      let h : d < rank x = below-same d (shape-long x) i in
      subst (λ (n : Term). Compares (is (dim_of r d)) equal (pick (eq_int (pos d) (pos p)) (is (pos total)) n)) (sym (shape-at x d h))
      (by-test d h (eq_int (pos d) (pos p)) refl))
    where
      by-test : (d : ℕ) → d < rank x → (b : Bool) → eq_int (pos d) (pos p) ≡ b → Compares (is (dim_of r d)) equal (pick b (is (pos total)) (is (dim_of x d)))
      by-test d h true t = ap (dim_of r) (ap nat_abs (eq_int-true (pos d) (pos p) t)) ∙ ap pos f.1
      by-test d h false t = sym (f.0.others d h (λ q. false≢true (sym t ∙ true-eq_int (pos d) (pos p) q)))

-- ---- concatenate

module _ (inputs : List TensorType) (k : ℤ) (r : TensorType) where
  abbrev first : TensorType
  first = type_at inputs 0

  abbrev element_at : ℕ → Test
  element_at j = fact (same_element first (type_at inputs j))

  abbrev shape_check : ℕ → Check
  shape_check j = exists (shape (type_at inputs j) ‼ is k) and but_one first (type_at inputs j) k

  abbrev shape_at : ℕ → Test
  shape_at j = whole (shape_check j)

  abbrev AlikeInputs : Type 0
  AlikeInputs = (j : ℕ) → j < length inputs → IsIndex k (rank (type_at inputs j)) × AlikeExcept k first (type_at inputs j)

  abbrev joined_is : Check
  joined_is = entries (shape r) [=] many (put_at (shape first) k (sum_dims inputs k))

  abbrev Total : Type 0
  Total = AlikeExcept k first r × ((p : ℕ) → k ≡ pos p → dim r.shape p ≡ sum_of_dims inputs (length inputs) p)

  inputs-true : check_holds (each (length inputs) shape_at) ≡ true → AlikeInputs
  inputs-true e j h =
      let c = and-true-both (exists (shape (type_at inputs j) ‼ is k)) (but_one first (type_at inputs j) k) (all-each (length inputs) shape_at e j h) in
      (named-true (type_at inputs j) k c.0, but-one-true first (type_at inputs j) k c.1)

  true-inputs : AlikeInputs → check_holds (each (length inputs) shape_at) ≡ true
  true-inputs f =
      each_all (length inputs) shape_at (λ j h.
      both-and-true (exists (shape (type_at inputs j) ‼ is k)) (but_one first (type_at inputs j) k)
      (true-named (type_at inputs j) k (f j h).0) (true-but-one first (type_at inputs j) k (f j h).1))

  some-true : check_holds (nat 0 [<] nat (length inputs)) ≡ true → 0 < length inputs
  some-true e = ltb-true 0 (length inputs) (unrelated less (pos 0) (pos (length inputs)) ((compared-true less (nat 0) (nat (length inputs)) e).1 0 (zero-lt-suc 0)))

  true-some : 0 < length inputs → check_holds (nat 0 [<] nat (length inputs)) ≡ true
  true-some h = true-compared less (nat 0) (nat (length inputs)) (tt, λ d l. related less (pos 0) (pos (length inputs)) (lt-ltb 0 (length inputs) h))

  -- the sum of sizes that all exist
  total-is : (p : ℕ) → k ≡ pos p → AlikeInputs → sum_dims inputs k ≡ is (pos (sum_of_dims inputs (length inputs) p))
  total-is p q a = ap (sum_dims inputs) q ∙ sum_is inputs p (λ j h. below (rank (type_at inputs j)) (a j h).0)
    where
      below : (n : ℕ) → IsIndex k n → p < n
      below n i =
          let z = place_of k n i.0 i.1 in
          let y : z.0 ≡ p = ap nat_abs (sym z.1 ∙ q) in
          subst (λ (m : ℕ). m < n) y z.2

  abbrev JoinedAs : ℤ → Term → Type 0
  JoinedAs i z = check_holds (entries (shape r) [=] many (put_at (shape first) i z)) ≡ true

  total-true : AlikeInputs → IsIndex k (rank first) → check_holds joined_is ≡ true → Total
  total-true a i e =
      let z = place_of k (rank first) i.0 i.1 in
      let p : ℕ = z.0 in
      let g = joined-true first r p (sum_of_dims inputs (length inputs) p) z.2 (subst₂ (λ (c : ℤ) (n : Term). JoinedAs c n) z.1 (total-is p z.1 a) e) in (
        subst (λ (c : ℤ). AlikeExcept c first r) (sym z.1) g.0,
        λ m q.
            let y : p ≡ m = ap nat_abs (sym z.1 ∙ q) in
            subst (λ (n : ℕ). dim r.shape n ≡ sum_of_dims inputs (length inputs) n) y g.1,
      )

  true-total : AlikeInputs → IsIndex k (rank first) → Total → check_holds joined_is ≡ true
  true-total a i f =
      let z = place_of k (rank first) i.0 i.1 in
      let p : ℕ = z.0 in
      subst₂ (λ (c : ℤ) (n : Term). JoinedAs c n) (sym z.1) (sym (total-is p z.1 a))
      (true-joined first r p (sum_of_dims inputs (length inputs) p) z.2 (subst (λ (c : ℤ). AlikeExcept c first r) z.1 f.0, f.1 p z.1))

  pub concatenate-facts : broken_number (concatenate_checks inputs k r) ≡ 0 → ConcatenateFacts inputs k r
  unfolding concatenate_checks
  concatenate-facts e =
      let h = all_hold (concatenate_checks inputs k r) e in
      let g = h.1.1 in
      let a : AlikeInputs = inputs-true h.1.0 in
      let i : IsIndex k (rank first) = index-true k (rank first) g.1.0 in
      record {
        c1 = λ j l. same-element first (type_at inputs j) (all-each (length inputs) element_at h.0 j l);
        c2 = a;
        c3 = some-true g.0;
        c4 = i;
        c5 = elements-true first r g.1.1.0;
        c6 = total-true a i g.1.1.1.0;
      }

  pub facts-concatenate : ConcatenateFacts inputs k r → broken_number (concatenate_checks inputs k r) ≡ 0
  unfolding concatenate_checks
  facts-concatenate f =
      none-broken (concatenate_checks inputs k r) (
        each_all (length inputs) element_at (λ j l. element-test first (type_at inputs j) (f.c1 j l)),
        (
          true-inputs f.c2,
          (
            true-some f.c3,
            (true-index k (rank first) f.c4, (true-elements first r f.c5, (true-total f.c2 f.c4 f.c6, tt))),
          ),
        ),
      )
