-- The element types and the numbers of elements of an accepted op's operands.
-- Assumes nothing.
use mathlib.Core.Path.{◌≡◌, sym, ◌∙◌}
use mathlib.Core.Logic.{◌⊎◌, inl, inr}
use Prim.Native.Nat.{ℕ, ◌≤◌, ◌<◌}
use native.Mathlib.Omega.{arith}
use lib.ListN.{length}
use lib.Dec.{eqb}
use Rattle.scalar.specs.declared.Unary.{Unary}
use Rattle.scalar.specs.declared.Unary.TheVariants.{Negate, Abs, Sign, Not, CountLeadingZeros, Popcnt}
use Rattle.shape.specs.Index.{size}
use Rattle.shape.specs.Dims.{dims_of}
use Rattle.elementwise.specs.Elementwise.{spread_size}
use Rattle.dimrules.specs.Types.{type_at}
use Rattle.rules.specs.Facts.{AlikeShapes, AlikeTypes, SelectHolds, ClampHolds, CompareHolds, SameTypesHolds}
use Rattle.opcheck.specs.declared.Operation.{Operation}
use Rattle.opcheck.specs.Accepted.{Granted}
use Rattle.facts.specs.Facts.{Shaped, unary_rule}
use Rattle.facts.proofs.BridgeLaw.{rank_is, alike_size, spread-size}

-- as many elements as the result
abbrev pub AsResult : Operation → ℕ → Type 0
AsResult o j = size (dims_of (type_at o.types j).shape) ≡ size (dims_of o.result.shape)

-- one element, where the rank is 0, or as many as the result
abbrev pub SpreadTo : Operation → ℕ → Type 0
SpreadTo o j =
    size (dims_of (type_at o.types j).shape)
    ≡ spread_size (eqb (length (dims_of (type_at o.types j).shape)) 0) (size (dims_of o.result.shape))

module _ (o : Operation) (h : Shaped o) where
  pub result-alike : (j : ℕ) → j < 8 → AlikeShapes o.result.shape (type_at o.types j).shape → AsResult o j
  result-alike j l a = sym (alike_size o.result.shape (type_at o.types j).shape h.result (h.types j l) a)

  pub alike-result : (j : ℕ) → j < 8 → AlikeShapes (type_at o.types j).shape o.result.shape → AsResult o j
  alike-result j l a = alike_size (type_at o.types j).shape o.result.shape (h.types j l) h.result a

  beside : (i j : ℕ) → i < 8 → j < 8 → AlikeShapes (type_at o.types i).shape (type_at o.types j).shape
      → size (dims_of (type_at o.types i).shape) ≡ size (dims_of (type_at o.types j).shape)
  beside i j l m a = alike_size (type_at o.types i).shape (type_at o.types j).shape (h.types i l) (h.types j m) a

  spread-to : (j : ℕ) → j < 8 → ((type_at o.types j).shape.rank ≡ 0) ⊎ AlikeShapes (type_at o.types j).shape (type_at o.types 1).shape → AsResult o 1 → SpreadTo o j
  spread-to j l (inl e) q =
      spread-size (dims_of (type_at o.types j).shape) (size (dims_of o.result.shape)) (inl (rank_is (type_at o.types j).shape (h.types j l) ∙ e))
  spread-to j l (inr a) q = spread-size (dims_of (type_at o.types j).shape) (size (dims_of o.result.shape)) (inr (beside j 1 l (omega arith) a ∙ q))

  pub same-sizes : 2 ≤ o.arity → SameTypesHolds o.types o.arity o.result → AsResult o 0 × AsResult o 1
  same-sizes l g = (result-alike 0 (omega arith) (g.operands 0 (omega arith)).shape, result-alike 1 (omega arith) (g.operands 1 l).shape)

  pub compare-sizes : CompareHolds (type_at o.types 0) (type_at o.types 1) o.result → AsResult o 0 × AsResult o 1
  compare-sizes g =
      let p : AsResult o 0 = alike-result 0 (omega arith) g.result in
      (p, sym (beside 0 1 (omega arith) (omega arith) g.operands) ∙ p)

  pub select-sizes : SelectHolds (type_at o.types 0) (type_at o.types 1) (type_at o.types 2) o.result → SpreadTo o 0 × AsResult o 1 × AsResult o 2
  select-sizes g =
      let p : AsResult o 1 = alike-result 1 (omega arith) g.result.shape in
      (spread-to 0 (omega arith) g.predicate p, p, sym (beside 1 2 (omega arith) (omega arith) g.choices.shape) ∙ p)

  pub clamp-sizes : ClampHolds (type_at o.types 0) (type_at o.types 1) (type_at o.types 2) o.result → SpreadTo o 0 × AsResult o 1 × SpreadTo o 2
  clamp-sizes g =
      let p : AsResult o 1 = alike-result 1 (omega arith) g.result.shape in
      (spread-to 0 (omega arith) g.least p, p, spread-to 2 (omega arith) g.most p)

pub unary-alike : (op : Unary) (o : Operation) → 1 ≤ o.arity → Granted (unary_rule op) o → AlikeTypes o.result (type_at o.types 0)
unary-alike Abs o l g = g
unary-alike Negate o l g = g.operands 0 l
unary-alike Sign o l g = g.operands 0 l
unary-alike Not o l g = g.operands 0 l
unary-alike CountLeadingZeros o l g = g.operands 0 l
unary-alike Popcnt o l g = g.operands 0 l
