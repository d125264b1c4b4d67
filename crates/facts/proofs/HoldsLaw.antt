-- The constraints under which the formulas of broadcast_in_dim, transpose, reduce and concatenate are 000's.
-- Assumes nothing.
use mathlib.Core.Path.{◌≡◌, refl, sym, ap, ◌∙◌, subst}
use mathlib.Core.Bool.{Bool, true, false, not, false≢true}
use mathlib.Core.List.{List, [], ◌∷◌, ◌++◌, append-nil}
use mathlib.Core.Logic.{◌⊎◌, inl, inr}
use Prim.Native.Nat.{ℕ, zero, suc, ◌+◌, ◌≤◌, ◌<◌}
use native.Mathlib.Numerals.{add-one}
use native.Mathlib.Omega.{arith}
use lib.ListN.{length, take}
use lib.Seq.{take-suc, take-length}
use Rattle.lists.specs.Lists.{pick, tab}
use Rattle.lists.proofs.AllLaw.{all-tab}
use Rattle.shape.specs.Index.{at}
use Rattle.shape.specs.Dims.{dims_of}
use Rattle.shape.specs.Place.{is_in, count_below}
use Rattle.maps.specs.Concatenation.{sum_along}
use Rattle.maps.specs.Holds.{BroadcastHolds, TransposeHolds, ConcatenateHolds}
use Rattle.reduction.specs.Rows.{collect, ReduceHolds}
use Rattle.dimrules.specs.Count.{sum_below}
use Rattle.dimrules.specs.Dims.{list_of, dim, kept_below}
use Rattle.dimrules.specs.Types.{type_at, sum_of_dims}
use Rattle.dimrules.specs.declared.TensorType.{TensorType}
use Rattle.dimrules.specs.declared.Numbers.{Numbers}
use Rattle.rules.specs.Facts.{BroadcastGranted, TransposeGranted, ReduceGranted, ConcatenateGranted}
use Rattle.opcheck.specs.declared.Operation.{Operation}
use Rattle.facts.specs.Facts.{ShapeRead, ListRead, Shaped}
use Rattle.facts.proofs.BridgeLaw.{rank_is, count-is, below-rank}

module _ (x : TensorType) (a : Numbers) (r : TensorType) (p : ShapeRead x.shape) (n : ListRead a) (q : ShapeRead r.shape) where
  pub broadcast-holds : BroadcastGranted x a r → BroadcastHolds (list_of a) (dims_of x.shape) (dims_of r.shape)
  broadcast-holds g =
      record {
        count = count-is a n ∙ g.count ∙ sym (rank_is x.shape p);
        below = λ d l. rw (rank_is r.shape q) (g.listed.below d (rw g.count (below-rank x.shape p d l)));
        sizes = λ d l. g.sizes d (below-rank x.shape p d l);
      }

  pub transpose-holds : TransposeGranted x a r → TransposeHolds (list_of a) (dims_of x.shape) (dims_of r.shape)
  transpose-holds g =
      let e : length (list_of a) ≡ x.shape.rank = count-is a n ∙ g.count in
      record {
        count = e ∙ sym (rank_is x.shape p);
        below = λ d l. rw (rank_is x.shape p) (g.listed.below d (subst (λ (k : ℕ). d < k) e l));
        unique = λ i j l m. g.listed.unique i j (subst (λ (k : ℕ). i < k) e l) (subst (λ (k : ℕ). j < k) e m);
        rank = rank_is r.shape q ∙ g.rank ∙ sym (rank_is x.shape p);
        sizes = λ d l. g.sizes d (below-rank x.shape p d l);
      }

-- ---- reduce

-- the f d that pass the test are the list's first numbers, where each stands at its place
collect-is : (t : ℕ → Bool) (f : ℕ → ℕ) (to : List ℕ) (n : ℕ) → count_below t n ≤ length to
    → ((d : ℕ) → d < n → t d ≡ true → f d ≡ at to (count_below t d)) → collect n t f ≡ take (count_below t n) to
collect-is t f to zero b h = refl
collect-is t f to (suc n) b h = by-test (t n) refl b (collect-is t f to n (omega arith) (λ d l. h d (omega arith)))
  where
    by-test : (v : Bool) → t n ≡ v → count_below t n + pick v 1 0 ≤ length to → collect n t f ≡ take (count_below t n) to
        → collect n t f ++ pick v (f n ∷ []) [] ≡ take (count_below t n + pick v 1 0) to
    by-test true e c ih =
        ap (λ (l : List ℕ). l ++ (f n ∷ [])) ih ∙ ap (λ (k : ℕ). take (count_below t n) to ++ (k ∷ [])) (h n (omega arith) e)
        ∙ sym (ap (λ (k : ℕ). take k to) (add-one (count_below t n)) ∙ take-suc to (count_below t n) 0 (omega arith))
    by-test false e c ih =
        append-nil (collect n t f) ∙ ih ∙ ap (λ (k : ℕ). take k to) (let z : count_below t n ≡ count_below t n + 0 = omega arith in z)

module _ (a : Numbers) where
  pub reduce-holds : (x v b c r : TensorType) → ShapeRead x.shape → ShapeRead r.shape → ReduceGranted x v b c a r
      → ReduceHolds (list_of a) (dims_of x.shape) (dims_of r.shape)
  unfolding kept_below
  reduce-holds x v b c r p q g =
      let kept : ℕ → Bool = λ d. not (is_in (list_of a) d) in
      let e : count_below kept (length (dims_of x.shape)) ≡ length (dims_of r.shape) =
      ap (count_below kept) (rank_is x.shape p) ∙ sym g.rank ∙ sym (rank_is r.shape q) in
      record {
        shape = sym (collect-is kept (at (dims_of x.shape)) (dims_of r.shape) (length (dims_of x.shape)) (omega arith)
            (λ d l k. placed d k (g.sizes d (below-rank x.shape p d l)))
            ∙ ap (λ (m : ℕ). take m (dims_of r.shape)) e ∙ take-length (dims_of r.shape));
      }
    where
      placed : (d : ℕ) → not (is_in (list_of a) d) ≡ true → (is_in (list_of a) d ≡ true) ⊎ (dim x.shape d ≡ dim r.shape (kept_below a d))
          → at (dims_of x.shape) d ≡ at (dims_of r.shape) (count_below (λ e. not (is_in (list_of a) e)) d)
      placed d k (inl y) = absurd (false≢true (sym (ap not y) ∙ k))
      placed d k (inr s) = s

-- ---- concatenate

sum-front : (n : ℕ) (f : ℕ → ℕ) → sum_below (suc n) f ≡ f 0 + sum_below n (λ j. f (suc j))
sum-front zero f = let z : 0 + f 0 ≡ f 0 + 0 = omega arith in z
sum-front (suc n) f = omega (arith, sum-front n f)

sum_is : (k n : ℕ) (f : ℕ → List ℕ) → sum_below n (λ j. at (f j) k) ≡ sum_along k (tab n f)
sum_is k zero f = refl
sum_is k (suc n) f = sum-front n (λ j. at (f j) k) ∙ ap (λ (m : ℕ). at (f 0) k + m) (sum_is k n (λ j. f (suc j)))

-- the dimensions of the operands
abbrev pub dims_from : Operation → List (List ℕ)
dims_from o = tab o.arity (λ j. dims_of (type_at o.types j).shape)

pub concatenate-holds : (o : Operation) → Shaped o → (k : ℕ) → ConcatenateGranted o.types o.arity k o.result → ConcatenateHolds k (dims_from o) (dims_of o.result.shape)
unfolding sum_of_dims
concatenate-holds o h k g =
    let s : ℕ → List ℕ = λ j. dims_of (type_at o.types j).shape in
    let r = dims_of o.result.shape in
    let few : o.arity ≤ 8 = h.arity in
    record {
      along = rw (rank_is o.result.shape h.result) g.along;
      ranks = all-tab (λ l. length l ≡ length r) o.arity s
          (λ j l. rank_is (type_at o.types j).shape (h.types j (omega arith)) ∙ g.ranks j l ∙ sym (rank_is o.result.shape h.result));
      others = all-tab (λ l. (d : ℕ) → d < length r → (d ≡ k → ⊥) → at l d ≡ at r d) o.arity s
          (λ j l d m ne. g.others j l d (below-rank o.result.shape h.result d m) ne);
      total = g.total ∙ sum_is k o.arity s;
    }
