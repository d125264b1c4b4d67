-- All constraints of reduce hold if and only if what 000 says of it is true.
-- Assumes nothing.
use mathlib.Core.Path.{◌≡◌, refl, sym, ap, ◌∙◌, subst}
use mathlib.Core.List.{List}
use mathlib.Core.Bool.{true, false, true≢false}
use Prim.Native.Nat.{ℕ, ◌<◌}
use lib.ListN.{length}
use lib.IntN.{ℤ, pos}
use Rattle.dimrules.specs.declared.TensorType.{TensorType}
use Rattle.checks.specs.Check.{Term, is, equal, Check, check_holds, broken_number}
use Rattle.checks.specs.Formula.{shape, rank, ◌!◌, ◌‼◌, dims, many, nat, entries, ◌and◌, ◌[=]◌, same_elements, member_of, axes, leaving}
use Rattle.checks.specs.Meaning.{Compares}
use Rattle.checks.proofs.MeaningLaw.{and-true-both, both-and-true}
use Rattle.checks.proofs.ReadingLaw.{shape-at, nats-true, true-nats, shape-row-true, true-shape-row, unique-true, true-unique}
use Rattle.checks.proofs.AxesLaw.{among_none, among-some, leaving-long, left_less, leaving-at, leaving-from}
use Rattle.checks.proofs.NumberLaw.{all_hold, none-broken}
use Rattle.checks.proofs.TypeLaw.{elements-true, true-elements}
use Rattle.op_checks.specs.OpChecks.{reduce_checks}
use Rattle.constraint_facts.specs.OpFacts.{dim_of, NotIn, stay_below, ReduceFacts}
use Rattle.constraint_facts.proofs.WordLaw.{indexes-true, true-indexes, below-same}

-- ---- (C7) the dimensions that stay

module _ (x : TensorType) (l : List ℤ) (r : TensorType) where
  abbrev Stay : Type 0
  Stay = (rank r ≡ stay_below l (rank x)) × ((d : ℕ) → d < rank x → NotIn d l → dim_of r (stay_below l d) ≡ dim_of x d)

  abbrev left : List ℤ
  left = leaving (axes (rank x)) l

  -- the size that the formula gives for the place of a dimension that stays
  stay-at : (d j : ℕ) → d < rank x → member_of (pos d) l ≡ false → stay_below l d ≡ j → shape x ‼ (left ! j) ≡ is (dim_of x d)
  stay-at d j k q p = ap (λ (n : Term). shape x ‼ n) (ap (λ (i : ℕ). left ! i) (sym p) ∙ leaving-at l (rank x) d k q) ∙ shape-at x d k

  stay-true : check_holds (entries (shape r) [=] many (dims x left)) ≡ true → Stay
  stay-true e =
      let w = shape-row-true r (length left) (λ j. shape x ‼ (left ! j)) e in (
        w.0 ∙ leaving-long l (rank x),
        λ d k n.
            let q : member_of (pos d) l ≡ false = among_none (pos d) l n in
            let i : stay_below l d < length left = below-same (stay_below l d) (sym (leaving-long l (rank x))) (left_less l (rank x) d k q) in
            subst (λ (n : Term). Compares (is (dim_of r (stay_below l d))) equal n) (stay-at d (stay_below l d) k q refl) (w.1 (stay_below l d) i),
      )

  true-stay : Stay → check_holds (entries (shape r) [=] many (dims x left)) ≡ true
  true-stay f =
      true-shape-row r (length left) (λ j. shape x ‼ (left ! j)) (f.0 ∙ sym (leaving-long l (rank x))) (λ j i.
      let z = leaving-from l (rank x) j (below-same j (leaving-long l (rank x)) i) in
      subst (λ (n : Term). Compares (is (dim_of r j)) equal n) (sym (stay-at z.0 j z.1 z.2 z.3))
      (ap (dim_of r) (sym z.3) ∙ f.1 z.0 z.1 (λ i h q. true≢false (sym (among-some (pos z.0) l i h q) ∙ z.2))))

-- ---- (C6) one argument of the body

module _ (x a b : TensorType) where
  abbrev body : Check
  body = same_elements x a and (nat (rank a) [=] nat 0) and same_elements x b and (nat (rank b) [=] nat 0)

  abbrev Body : Type 0
  Body = ((x.element ≡ a.element) × (rank a ≡ 0)) × ((x.element ≡ b.element) × (rank b ≡ 0))

  body-true : check_holds body ≡ true → Body
  body-true e =
      let h = and-true-both (same_elements x a and (nat (rank a) [=] nat 0) and same_elements x b) (nat (rank b) [=] nat 0) e in
      let g = and-true-both (same_elements x a and (nat (rank a) [=] nat 0)) (same_elements x b) h.0 in
      let f = and-true-both (same_elements x a) (nat (rank a) [=] nat 0) g.0 in
      ((elements-true x a f.0, nats-true (rank a) 0 f.1), (elements-true x b g.1, nats-true (rank b) 0 h.1))

  true-body : Body → check_holds body ≡ true
  true-body f =
      both-and-true (same_elements x a and (nat (rank a) [=] nat 0) and same_elements x b) (nat (rank b) [=] nat 0)
      (both-and-true (same_elements x a and (nat (rank a) [=] nat 0)) (same_elements x b)
      (both-and-true (same_elements x a) (nat (rank a) [=] nat 0) (true-elements x a f.0.0) (true-nats (rank a) 0 f.0.1))
      (true-elements x b f.1.0))
      (true-nats (rank b) 0 f.1.1)

-- ---- reduce

module _ (x v a b : TensorType) (l : List ℤ) (r : TensorType) where
  pub reduce-facts : broken_number (reduce_checks x v a b l r) ≡ 0 → ReduceFacts x v a b l r
  unfolding reduce_checks
  reduce-facts e =
      let h = all_hold (reduce_checks x v a b l r) e in
      let g = h.1.1.1 in
      record {
        c2 = elements-true x v h.1.0;
        c4 = indexes-true l (rank x) g.0;
        c5 = unique-true l g.1.0;
        c6 = body-true x a b g.1.1.0;
        c7 = stay-true x l r g.1.1.1.0;
        c8 = elements-true x r g.1.1.1.1.0;
      }

  pub facts-reduce : ReduceFacts x v a b l r → broken_number (reduce_checks x v a b l r) ≡ 0
  unfolding reduce_checks
  facts-reduce f =
      none-broken (reduce_checks x v a b l r) (
        refl,
        (
          true-elements x v f.c2,
          (
            refl,
            (
              true-indexes l (rank x) f.c4,
              (true-unique l f.c5, (true-body x a b f.c6, (true-stay x l r f.c7, (true-elements x r f.c8, tt)))),
            ),
          ),
        ),
      )
