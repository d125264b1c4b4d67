-- The program of an accepted text, op by op: what is written is what the code runs.
-- Assumes nothing.
use mathlib.Core.Path.{◌≡◌, refl, sym, ap, ◌∙◌, subst}
use mathlib.Core.List.{List, [], ◌∷◌, ◌++◌, map}
use mathlib.Core.Bool.{Bool, true, false, not, ◌&&◌, false≢true}
use Prim.Native.Nat.{ℕ, zero, suc, ◌+◌, ◌-◌, ◌<◌, ◌≤◌, min}
use native.Mathlib.Nat.{not-suc-le-zero, le_of_suc-le-suc}
use native.Mathlib.Omega.{arith}
use lib.Dec.{eqb, ltb}
use lib.IntN.{ℤ, pos}
use lib.ListN.{length, get_or, length-map}
use borrow.Author.Tests.{eqb-true, lt-ltb}
use Rattle.lists.specs.Lists.{pick, tab, first_where}
use Rattle.lists.proofs.TestLaw.{both_true}
use Rattle.lists.proofs.TabLaw.{tab-get_or, tab-cong, map-tab}
use Rattle.scan.specs.Bytes.{among}
use Rattle.dimrules.specs.Dims.{list_of, num}
use Rattle.dimrules.specs.Types.{type_at}
use Rattle.dimrules.specs.declared.Numbers.{Numbers}
use Rattle.dimrules.specs.declared.TensorType.{TensorType}
use Rattle.scalar.specs.declared.Direction.{Direction}
use Rattle.scalar.specs.declared.Body.{Body}
use Rattle.elementwise.specs.Elementwise.{Tensor}
use Rattle.ops.specs.declared.Kind.{Kind}
use Rattle.ops.specs.declared.Kind.TheVariants.{Iota, Moved, Pad, Concatenate, Reduce}
use Rattle.ops.specs.declared.Move.{Move}
use Rattle.ops.specs.declared.Move.TheVariants as move
use Rattle.ops.specs.OpAttributes.{OpAttributes, attributes_by}
use Rattle.ops.specs.Ops.{Node, TensorType as NodeType}
use Rattle.optable.specs.declared.Class.{Class}
use Rattle.optable.specs.declared.Class.TheVariants as class
use Rattle.optable.specs.Table.{OpRow, ops, row_of as row_for, value, iota_dimension, broadcast_dimensions, permutation, start_indices, strides, dimension, edge_padding_low, interior_padding, dimensions, attributes, attribute_names, no_attribute}
use Rattle.optable.specs.Names.{same, name_place}
use Rattle.facts.specs.Facts.{kind_by, node_type, integers_of}
use Rattle.source.specs.Source.{OpText}
use Rattle.verifier.specs.AttributeRules.{numbers_named}
use Rattle.verifier.specs.ConstraintRules.{list_attribute, number_attribute}
use Rattle.verifier.specs.Verdict.{no_op}
use Rattle.answers.specs.WrittenNodes.{attributes_written}

-- a kind reads the direction of a compare alone, and the body of a reduce alone
pub kind-same : (d e : Direction) (b c : Body) (k : Class) → (k ≡ class.Compare → d ≡ e) → (k ≡ class.Reduce → b ≡ c) → kind_by d b k ≡ kind_by e c k
kind-same d e b c class.Constant f g = refl
kind-same d e b c class.Iota f g = refl
kind-same d e b c (class.Elementwise op) f g = refl
kind-same d e b c (class.Pairwise op) f g = refl
kind-same d e b c (class.Quotient op) f g = refl
kind-same d e b c class.Compare f g = rw (f refl) refl
kind-same d e b c class.Convert f g = refl
kind-same d e b c class.Select f g = refl
kind-same d e b c class.Clamp f g = refl
kind-same d e b c (class.Moved m) f g = refl
kind-same d e b c class.Pad f g = refl
kind-same d e b c class.Concatenate f g = refl
kind-same d e b c class.DynamicSlice f g = refl
kind-same d e b c class.Reduce f g = rw (g refl) refl

-- ---- attributes

-- of the attributes that evaluating reads: those that the ops of a class have
abbrev pub read_by : Class → List ℕ
read_by class.Constant = []
read_by class.Iota = iota_dimension ∷ []
read_by (class.Elementwise op) = []
read_by (class.Pairwise op) = []
read_by (class.Quotient op) = []
read_by class.Compare = []
read_by class.Convert = []
read_by class.Select = []
read_by class.Clamp = []
read_by (class.Moved move.Reshape) = []
read_by (class.Moved move.BroadcastInDim) = broadcast_dimensions ∷ []
read_by (class.Moved move.Transpose) = permutation ∷ []
read_by (class.Moved move.Slice) = start_indices ∷ strides ∷ []
read_by (class.Moved move.Reverse) = dimensions ∷ []
read_by class.Pad = edge_padding_low ∷ interior_padding ∷ []
read_by class.Concatenate = dimension ∷ []
read_by class.DynamicSlice = []
read_by class.Reduce = dimensions ∷ []

-- the nine of them
abbrev pub read_names : List ℕ
read_names = iota_dimension ∷ dimension ∷ broadcast_dimensions ∷ permutation ∷ start_indices ∷ strides ∷ edge_padding_low ∷ interior_padding ∷ dimensions ∷ []

unfoldable pub implied : Bool → Bool → Bool
implied true b = b
implied false b = true

-- of a row with these attributes: it has none of the names ns that are not among ks
unfoldable pub no_other : List ℕ → List ℕ → List ℕ → Bool
no_other allowed ks [] = true
no_other allowed ks (n ∷ ns) = implied (among allowed n) (among ks n) && no_other allowed ks ns

-- the first of ks is its first attribute, the second its third
unfoldable pub placed : List ℕ → List ℕ → Bool
placed allowed [] = true
placed allowed (k ∷ []) = eqb (get_or allowed 0 no_attribute) k
placed allowed (k ∷ (l ∷ ks)) = eqb (get_or allowed 0 no_attribute) k && eqb (get_or allowed 2 no_attribute) l

unfoldable pub right_row : OpRow → Bool
right_row r = no_other (r.required ++ r.optional) (read_by r.class) read_names && placed (r.required ++ r.optional) (read_by r.class)

each : (OpRow → Bool) → List OpRow → Bool
each t [] = true
each t (o ∷ os) = t o && each t os

each_at : (t : OpRow → Bool) (os : List OpRow) → each t os ≡ true → (i : ℕ) → i < length os → t (get_or os i no_op) ≡ true
unfolding each
each_at t [] e i h = absurd (not-suc-le-zero h)
each_at t (o ∷ os) e zero h = (both_true (t o) (each t os) e).0
each_at t (o ∷ os) e (suc i) h = each_at t os (both_true (t o) (each t os) e).1 i (le_of_suc-le-suc h)

all-rows : each right_row ops ≡ true
unfolding each right_row no_other placed implied ops attributes attribute_names name_place same first_where
all-rows = refl

pub row-right : (i : ℕ) → i < length ops → right_row (get_or ops i no_op) ≡ true
row-right i h = each_at right_row ops all-rows i h

other-absent : (allowed ks ns : List ℕ) → no_other allowed ks ns ≡ true → (j : ℕ) → j < length ns → among ks (get_or ns j 0) ≡ false → among allowed (get_or ns j 0) ≡ false
unfolding no_other implied
other-absent allowed ks [] e j h f = absurd (not-suc-le-zero h)
other-absent allowed ks (n ∷ ns) e zero h f = by (among allowed n) refl (both_true (implied (among allowed n) (among ks n)) (no_other allowed ks ns) e).0
  where
    by : (b : Bool) → among allowed n ≡ b → implied b (among ks n) ≡ true → among allowed n ≡ false
    by true q w = absurd (false≢true (sym f ∙ w))
    by false q w = q
other-absent allowed ks (n ∷ ns) e (suc j) h f = other-absent allowed ks ns (both_true (implied (among allowed n) (among ks n)) (no_other allowed ks ns) e).1 j (le_of_suc-le-suc h) f

-- the attributes by the nine lists of numbers
abbrev by_lists : List ℤ → List ℤ → List ℤ → List ℤ → List ℤ → List ℤ → List ℤ → List ℤ → List ℤ → OpAttributes
by_lists i d b p s t l n m =
    record { iota_dimension = get_or i 0 (pos 0); dimension = get_or d 0 (pos 0); broadcast_dimensions = b; permutation = p; start_indices = s; strides = t; edge_padding_low = l; interior_padding = n; dimensions = m }

abbrev by_name : (ℕ → List ℤ) → OpAttributes
by_name N = by_lists (N iota_dimension) (N dimension) (N broadcast_dimensions) (N permutation) (N start_indices) (N strides) (N edge_padding_low) (N interior_padding) (N dimensions)

nine : {i i2 d d2 b b2 p p2 s s2 t t2 l l2 n n2 m m2 : List ℤ} → i ≡ i2 → d ≡ d2 → b ≡ b2 → p ≡ p2 → s ≡ s2 → t ≡ t2 → l ≡ l2 → n ≡ n2 → m ≡ m2 →
    by_lists i d b p s t l n m ≡ by_lists i2 d2 b2 p2 s2 t2 l2 n2 m2
nine e1 e2 e3 e4 e5 e6 e7 e8 e9 = rw (e1, e2, e3, e4, e5, e6, e7, e8, e9) refl

-- which of the nine names are not among those of a class
module _ (N : ℕ → List ℤ) (allowed : List ℕ) (absent : (n : ℕ) → among allowed n ≡ false → N n ≡ []) where
  none : (ks : List ℕ) → no_other allowed ks read_names ≡ true → (j : ℕ) → j < 9 → among ks (get_or read_names j 0) ≡ false → [] ≡ N (get_or read_names j 0)
  none ks right j h f = sym (absent (get_or read_names j 0) (other-absent allowed ks read_names right j h f))

  abbrev A : List ℤ
  A = N (get_or allowed 0 no_attribute)

  abbrev C : List ℤ
  C = N (get_or allowed 2 no_attribute)

  first : (k : ℕ) → eqb (get_or allowed 0 no_attribute) k ≡ true → A ≡ N k
  first k e = ap N (eqb-true (get_or allowed 0 no_attribute) k e)

  second : (k : ℕ) → eqb (get_or allowed 2 no_attribute) k ≡ true → C ≡ N k
  second k e = ap N (eqb-true (get_or allowed 2 no_attribute) k e)

  of_none : no_other allowed (read_by class.Clamp) read_names ≡ true → placed allowed (read_by class.Clamp) ≡ true → by_lists [] [] [] [] [] [] [] [] [] ≡ by_name N
  unfolding placed attributes attribute_names name_place same first_where
  of_none right at =
      nine (none (read_by class.Clamp) right 0 (omega arith) refl) (none (read_by class.Clamp) right 1 (omega arith) refl) (none (read_by class.Clamp) right 2 (omega arith) refl) (none (read_by class.Clamp) right 3 (omega arith) refl) (none (read_by class.Clamp) right 4 (omega arith) refl) (none (read_by class.Clamp) right 5 (omega arith) refl) (none (read_by class.Clamp) right 6 (omega arith) refl) (none (read_by class.Clamp) right 7 (omega arith) refl) (none (read_by class.Clamp) right 8 (omega arith) refl)

  of-iota : no_other allowed (read_by class.Iota) read_names ≡ true → placed allowed (read_by class.Iota) ≡ true → attributes_by Iota A C ≡ by_name N
  unfolding placed attributes attribute_names name_place same first_where
  of-iota right at =
      nine (first iota_dimension at) (none (read_by class.Iota) right 1 (omega arith) refl) (none (read_by class.Iota) right 2 (omega arith) refl) (none (read_by class.Iota) right 3 (omega arith) refl) (none (read_by class.Iota) right 4 (omega arith) refl) (none (read_by class.Iota) right 5 (omega arith) refl) (none (read_by class.Iota) right 6 (omega arith) refl) (none (read_by class.Iota) right 7 (omega arith) refl) (none (read_by class.Iota) right 8 (omega arith) refl)

  of-concatenate : no_other allowed (read_by class.Concatenate) read_names ≡ true → placed allowed (read_by class.Concatenate) ≡ true → attributes_by Concatenate A C ≡ by_name N
  unfolding placed attributes attribute_names name_place same first_where
  of-concatenate right at =
      nine (none (read_by class.Concatenate) right 0 (omega arith) refl) (first dimension at) (none (read_by class.Concatenate) right 2 (omega arith) refl) (none (read_by class.Concatenate) right 3 (omega arith) refl) (none (read_by class.Concatenate) right 4 (omega arith) refl) (none (read_by class.Concatenate) right 5 (omega arith) refl) (none (read_by class.Concatenate) right 6 (omega arith) refl) (none (read_by class.Concatenate) right 7 (omega arith) refl) (none (read_by class.Concatenate) right 8 (omega arith) refl)

  of-broadcast : no_other allowed (read_by (class.Moved move.BroadcastInDim)) read_names ≡ true → placed allowed (read_by (class.Moved move.BroadcastInDim)) ≡ true → attributes_by (Moved move.BroadcastInDim) A C ≡ by_name N
  unfolding placed attributes attribute_names name_place same first_where
  of-broadcast right at =
      nine (none (read_by (class.Moved move.BroadcastInDim)) right 0 (omega arith) refl) (none (read_by (class.Moved move.BroadcastInDim)) right 1 (omega arith) refl) (first broadcast_dimensions at) (none (read_by (class.Moved move.BroadcastInDim)) right 3 (omega arith) refl) (none (read_by (class.Moved move.BroadcastInDim)) right 4 (omega arith) refl) (none (read_by (class.Moved move.BroadcastInDim)) right 5 (omega arith) refl) (none (read_by (class.Moved move.BroadcastInDim)) right 6 (omega arith) refl) (none (read_by (class.Moved move.BroadcastInDim)) right 7 (omega arith) refl) (none (read_by (class.Moved move.BroadcastInDim)) right 8 (omega arith) refl)

  of-transpose : no_other allowed (read_by (class.Moved move.Transpose)) read_names ≡ true → placed allowed (read_by (class.Moved move.Transpose)) ≡ true → attributes_by (Moved move.Transpose) A C ≡ by_name N
  unfolding placed attributes attribute_names name_place same first_where
  of-transpose right at =
      nine (none (read_by (class.Moved move.Transpose)) right 0 (omega arith) refl) (none (read_by (class.Moved move.Transpose)) right 1 (omega arith) refl) (none (read_by (class.Moved move.Transpose)) right 2 (omega arith) refl) (first permutation at) (none (read_by (class.Moved move.Transpose)) right 4 (omega arith) refl) (none (read_by (class.Moved move.Transpose)) right 5 (omega arith) refl) (none (read_by (class.Moved move.Transpose)) right 6 (omega arith) refl) (none (read_by (class.Moved move.Transpose)) right 7 (omega arith) refl) (none (read_by (class.Moved move.Transpose)) right 8 (omega arith) refl)

  of-slice : no_other allowed (read_by (class.Moved move.Slice)) read_names ≡ true → placed allowed (read_by (class.Moved move.Slice)) ≡ true → attributes_by (Moved move.Slice) A C ≡ by_name N
  unfolding placed attributes attribute_names name_place same first_where
  of-slice right at = let both = both_true (eqb (get_or allowed 0 no_attribute) start_indices) (eqb (get_or allowed 2 no_attribute) strides) at in
      nine (none (read_by (class.Moved move.Slice)) right 0 (omega arith) refl) (none (read_by (class.Moved move.Slice)) right 1 (omega arith) refl) (none (read_by (class.Moved move.Slice)) right 2 (omega arith) refl) (none (read_by (class.Moved move.Slice)) right 3 (omega arith) refl) (first start_indices both.0) (second strides both.1) (none (read_by (class.Moved move.Slice)) right 6 (omega arith) refl) (none (read_by (class.Moved move.Slice)) right 7 (omega arith) refl) (none (read_by (class.Moved move.Slice)) right 8 (omega arith) refl)

  of-pad : no_other allowed (read_by class.Pad) read_names ≡ true → placed allowed (read_by class.Pad) ≡ true → attributes_by Pad A C ≡ by_name N
  unfolding placed attributes attribute_names name_place same first_where
  of-pad right at = let both = both_true (eqb (get_or allowed 0 no_attribute) edge_padding_low) (eqb (get_or allowed 2 no_attribute) interior_padding) at in
      nine (none (read_by class.Pad) right 0 (omega arith) refl) (none (read_by class.Pad) right 1 (omega arith) refl) (none (read_by class.Pad) right 2 (omega arith) refl) (none (read_by class.Pad) right 3 (omega arith) refl) (none (read_by class.Pad) right 4 (omega arith) refl) (none (read_by class.Pad) right 5 (omega arith) refl) (first edge_padding_low both.0) (second interior_padding both.1) (none (read_by class.Pad) right 8 (omega arith) refl)

  of_reverse : no_other allowed (read_by (class.Moved move.Reverse)) read_names ≡ true → placed allowed (read_by (class.Moved move.Reverse)) ≡ true → attributes_by (Moved move.Reverse) A C ≡ by_name N
  unfolding placed attributes attribute_names name_place same first_where
  of_reverse right at =
      nine (none (read_by (class.Moved move.Reverse)) right 0 (omega arith) refl) (none (read_by (class.Moved move.Reverse)) right 1 (omega arith) refl) (none (read_by (class.Moved move.Reverse)) right 2 (omega arith) refl) (none (read_by (class.Moved move.Reverse)) right 3 (omega arith) refl) (none (read_by (class.Moved move.Reverse)) right 4 (omega arith) refl) (none (read_by (class.Moved move.Reverse)) right 5 (omega arith) refl) (none (read_by (class.Moved move.Reverse)) right 6 (omega arith) refl) (none (read_by (class.Moved move.Reverse)) right 7 (omega arith) refl) (first dimensions at)

  of-reduce : (body : Body) → no_other allowed (read_by class.Reduce) read_names ≡ true → placed allowed (read_by class.Reduce) ≡ true → attributes_by (Reduce body) A C ≡ by_name N
  unfolding placed attributes attribute_names name_place same first_where
  of-reduce body right at =
      nine (none (read_by class.Reduce) right 0 (omega arith) refl) (none (read_by class.Reduce) right 1 (omega arith) refl) (none (read_by class.Reduce) right 2 (omega arith) refl) (none (read_by class.Reduce) right 3 (omega arith) refl) (none (read_by class.Reduce) right 4 (omega arith) refl) (none (read_by class.Reduce) right 5 (omega arith) refl) (none (read_by class.Reduce) right 6 (omega arith) refl) (none (read_by class.Reduce) right 7 (omega arith) refl) (first dimensions at)

  pub attributes-same : (c : Class) (d : Direction) (b : Body) → no_other allowed (read_by c) read_names ≡ true → placed allowed (read_by c) ≡ true → attributes_by (kind_by d b c) A C ≡ by_name N
  attributes-same class.Constant d b right at = of_none right at
  attributes-same class.Iota d b right at = of-iota right at
  attributes-same (class.Elementwise op) d b right at = of_none right at
  attributes-same (class.Pairwise op) d b right at = of_none right at
  attributes-same (class.Quotient op) d b right at = of_none right at
  attributes-same class.Compare d b right at = of_none right at
  attributes-same class.Convert d b right at = of_none right at
  attributes-same class.Select d b right at = of_none right at
  attributes-same class.Clamp d b right at = of_none right at
  attributes-same (class.Moved move.Reshape) d b right at = of_none right at
  attributes-same (class.Moved move.BroadcastInDim) d b right at = of-broadcast right at
  attributes-same (class.Moved move.Transpose) d b right at = of-transpose right at
  attributes-same (class.Moved move.Slice) d b right at = of-slice right at
  attributes-same (class.Moved move.Reverse) d b right at = of_reverse right at
  attributes-same class.Pad d b right at = of-pad right at
  attributes-same class.Concatenate d b right at = of-concatenate right at
  attributes-same class.DynamicSlice d b right at = of_none right at
  attributes-same class.Reduce d b right at = of-reduce b right at

-- a row of the class of reduce has a body
is_reduce : Class → Bool
is_reduce class.Constant = false
is_reduce class.Iota = false
is_reduce (class.Elementwise op) = false
is_reduce (class.Pairwise op) = false
is_reduce (class.Quotient op) = false
is_reduce class.Compare = false
is_reduce class.Convert = false
is_reduce class.Select = false
is_reduce class.Clamp = false
is_reduce (class.Moved m) = false
is_reduce class.Pad = false
is_reduce class.Concatenate = false
is_reduce class.DynamicSlice = false
is_reduce class.Reduce = true

all-bodies : each (λ o. implied (is_reduce o.class) o.body) ops ≡ true
unfolding each is_reduce implied ops
all-bodies = refl

pub class-body : (i : ℕ) → i < length ops → (get_or ops i no_op).class ≡ class.Reduce → (get_or ops i no_op).body ≡ true
unfolding is_reduce implied
class-body i h e = let z = each_at (λ o. implied (is_reduce o.class) o.body) ops all-bodies i h in rw e at z
