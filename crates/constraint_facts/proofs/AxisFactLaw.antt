-- All constraints of reverse, broadcast_in_dim and transpose hold if and only if what 000 says of them is true.
-- Assumes nothing.
use mathlib.Core.Path.{◌≡◌, refl, sym, subst}
use mathlib.Core.List.{List}
use mathlib.Core.Logic.{◌⊎◌, inl, inr}
use mathlib.Core.Bool.{true}
use Prim.Native.Nat.{ℕ, ◌<◌}
use lib.ListN.{length}
use lib.IntN.{ℤ, pos}
use Rattle.dimrules.specs.declared.TensorType.{TensorType}
use Rattle.checks.specs.Check.{Term, is, equal, Test, compare, or_else, check_holds, broken_number}
use Rattle.checks.specs.Formula.{shape, rank, ◌!◌, ◌‼◌, each}
use Rattle.checks.specs.Meaning.{Compares}
use Rattle.checks.proofs.CheckLaw.{each_all, all-each}
use Rattle.checks.proofs.MeaningLaw.{passes-true, true-passes}
use Rattle.checks.proofs.ReadingLaw.{at-inside, shape-at, nats-true, true-nats, shape-row-true, true-shape-row, unique-true, true-unique, permutation-true, true-permutation}
use Rattle.checks.proofs.NumberLaw.{all_hold, none-broken}
use Rattle.checks.proofs.TypeLaw.{elements-true, true-elements}
use Rattle.op_checks.specs.OpChecks.{reverse_checks, broadcast_checks, transpose_checks}
use Rattle.constraint_facts.specs.OpFacts.{◌at◌, dim_of, IsDim, ReverseFacts, BroadcastFacts, TransposeFacts}
use Rattle.constraint_facts.proofs.WordLaw.{types-true, true-types, indexes-true, true-indexes, below-same, dim-true, true-dim}

-- ---- reverse

module _ (operand : TensorType) (dimensions : List ℤ) (result : TensorType) where
  pub reverse-facts : broken_number (reverse_checks operand dimensions result) ≡ 0 → ReverseFacts operand dimensions result
  unfolding reverse_checks
  reverse-facts e =
      let h = all_hold (reverse_checks operand dimensions result) e in
      record {
        c1 = types-true operand result h.0;
        c2 = unique-true dimensions h.1.0;
        c3 = indexes-true dimensions (rank result) h.1.1.0;
      }

  pub facts-reverse : ReverseFacts operand dimensions result → broken_number (reverse_checks operand dimensions result) ≡ 0
  unfolding reverse_checks
  facts-reverse f =
      none-broken (reverse_checks operand dimensions result)
      (true-types operand result f.c1, (true-unique dimensions f.c2, (true-indexes dimensions (rank result) f.c3, tt)))

-- ---- broadcast_in_dim

module _ (operand : TensorType) (dims : List ℤ) (result : TensorType) where
  abbrev stretch : ℕ → Test
  stretch d = or_else (compare (shape operand ! d) equal (is (pos 1))) (compare (shape operand ! d) equal (shape result ‼ (dims ! d)))

  abbrev Stretched : ℕ → Type 0
  Stretched d = (dim_of operand d ≡ pos 1) ⊎ IsDim (dim_of operand d) result (dims at d)

  abbrev Read : Term → Term → Type 0
  Read n m = Compares n equal (is (pos 1)) ⊎ Compares n equal (shape result ‼ m)

  stretch-true : length dims ≡ rank operand → check_holds (each (rank operand) stretch) ≡ true → (d : ℕ) → d < rank operand → Stretched d
  stretch-true q e d k =
      let p : Read (shape operand ! d) (dims ! d) = passes-true (stretch d) (all-each (rank operand) stretch e d k) in
      by_way (subst (λ (m : Term). Read (is (dim_of operand d)) m) (at-inside dims d (below-same d (sym q) k)) (subst (λ (n : Term). Read n (dims ! d)) (shape-at operand d k) p))
    where
      by_way : Read (is (dim_of operand d)) (is (dims at d)) → Stretched d
      by_way (inl h) = inl h
      by_way (inr h) = inr (dim-true (dim_of operand d) result (dims at d) h)

  true-stretch : length dims ≡ rank operand → ((d : ℕ) → d < rank operand → Stretched d) → check_holds (each (rank operand) stretch) ≡ true
  true-stretch q f = each_all (rank operand) stretch (λ d k. true-passes (stretch d) (at_place d k (f d k)))
    where
      by_way : (d : ℕ) → Stretched d → Read (is (dim_of operand d)) (is (dims at d))
      by_way d (inl h) = inl h
      by_way d (inr h) = inr (true-dim (dim_of operand d) result (dims at d) h)

      at_place : (d : ℕ) → d < rank operand → Stretched d → Read (shape operand ! d) (dims ! d)
      at_place d k g =
          subst (λ (n : Term). Read n (dims ! d)) (sym (shape-at operand d k))
          (subst (λ (m : Term). Read (is (dim_of operand d)) m) (sym (at-inside dims d (below-same d (sym q) k))) (by_way d g))

  pub broadcast-facts : broken_number (broadcast_checks operand dims result) ≡ 0 → BroadcastFacts operand dims result
  unfolding broadcast_checks
  broadcast-facts e =
      let h = all_hold (broadcast_checks operand dims result) e in
      let q : length dims ≡ rank operand = nats-true (length dims) (rank operand) h.1.0 in
      record {
        c1 = elements-true operand result h.0;
        c2 = q;
        c3 = indexes-true dims (rank result) h.1.1.0;
        c4 = unique-true dims h.1.1.1.0;
        c5 = stretch-true q h.1.1.1.1.0;
      }

  pub facts-broadcast : BroadcastFacts operand dims result → broken_number (broadcast_checks operand dims result) ≡ 0
  unfolding broadcast_checks
  facts-broadcast f =
      none-broken (broadcast_checks operand dims result) (
        true-elements operand result f.c1,
        (
          true-nats (length dims) (rank operand) f.c2,
          (true-indexes dims (rank result) f.c3, (true-unique dims f.c4, (true-stretch f.c2 f.c5, (refl, tt)))),
        ),
      )

-- ---- transpose

module _ (operand : TensorType) (permutation : List ℤ) (result : TensorType) where
  abbrev moved_to : ℕ → Term
  moved_to d = shape operand ‼ (permutation ! d)

  pub transpose-facts : broken_number (transpose_checks operand permutation result) ≡ 0 → TransposeFacts operand permutation result
  unfolding transpose_checks
  transpose-facts e =
      let h = all_hold (transpose_checks operand permutation result) e in
      let n = permutation-true permutation (rank operand) h.1.0 in
      let w = shape-row-true result (length permutation) moved_to h.1.1.0 in
      record {
        c1 = elements-true operand result h.0;
        c2 = (n.0, (λ d k. n.1 d (below-same d n.0 k)), (λ d i k l. n.2 d i k (below-same i n.0 l)));
        c3 = (
          w.0,
          λ d k.
              let i : d < length permutation = below-same d w.0 k in
              dim-true (dim_of result d) operand (permutation at d)
              (subst (λ (m : Term). Compares (is (dim_of result d)) equal (shape operand ‼ m)) (at-inside permutation d i) (w.1 d i)),
        );
      }

  pub facts-transpose : TransposeFacts operand permutation result → broken_number (transpose_checks operand permutation result) ≡ 0
  unfolding transpose_checks
  facts-transpose f =
      let q : length permutation ≡ rank operand = f.c2.0 in
      none-broken (transpose_checks operand permutation result) (
        true-elements operand result f.c1,
        (
          true-permutation permutation (rank operand) q (λ d k. f.c2.1 d (below-same d (sym q) k)) (λ d i k l. f.c2.2 d i k (below-same i (sym q) l)),
          (
            true-shape-row result (length permutation) moved_to f.c3.0 (λ d i.
                subst (λ (m : Term). Compares (is (dim_of result d)) equal (shape operand ‼ m)) (sym (at-inside permutation d i))
                (true-dim (dim_of result d) operand (permutation at d) (f.c3.1 d (below-same d (sym f.c3.0) i)))),
            (refl, tt),
          ),
        ),
      )
