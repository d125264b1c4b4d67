-- An accepted op is ready to be done: what its function requires of stretches, shapes and attribute lists holds.
-- Assumes nothing.
use mathlib.Core.Path.{◌≡◌, sym, ap, ◌∙◌, subst}
use Prim.Native.Nat.{ℕ, ◌^◌, ◌≤◌, ◌<◌}
use native.Mathlib.Omega.{arith}
use lib.ListN.{length, take}
use lib.Dec.{eqb}
use Rattle.shape.specs.Index.{at}
use Rattle.shape.specs.Dims.{dims_of, Fills}
use Rattle.shape.proofs.IndexLaw.{dim-le-volume}
use Rattle.maps.specs.Holds.{Stretches, TransposeHolds, SliceHolds, PadHolds, DynamicSliceHolds, IotaHolds}
use Rattle.elementwise.specs.Elementwise.{Tensor, spread_size, TwoSized}
use Rattle.ops.specs.declared.Move.{Move}
use Rattle.ops.specs.declared.Move.TheVariants.{Reshape, BroadcastInDim, Transpose, Slice, Reverse}
use Rattle.ops.specs.declared.Kind.{Kind}
use Rattle.ops.specs.declared.Kind.TheVariants.{Constant, Iota, Elementwise, Pairwise, Quotient, Compare, Convert, Select, Clamp, Moved, Pad, Concatenate, DynamicSlice, Reduce}
use Rattle.apply.specs.Apply.{AreNatural, MoveReady, TaskReady}
use Rattle.dimrules.specs.Dims.{list_of, num}
use Rattle.dimrules.specs.Types.{type_at}
use Rattle.dimrules.specs.declared.TensorType.{TensorType}
use Rattle.dimrules.specs.declared.Numbers.{Numbers}
use Rattle.rules.specs.Facts.{SliceGranted, PadGranted, DynamicSliceGranted}
use Rattle.opcheck.specs.declared.Operation.{Operation}
use Rattle.opcheck.specs.Accepted.{Granted}
use Rattle.facts.specs.Facts.{ShapeRead, ListRead, Shaped, move_rule, AcceptedAs, task_of, DoneByTask, Stretched}
use Rattle.facts.proofs.BridgeLaw.{rank_is, below-rank, first_of, natural-list, natural-below, lone}
use Rattle.facts.proofs.HoldsLaw.{transpose-holds}
use Rattle.facts.proofs.AlikeLaw.{AsResult, SpreadTo, result-alike, alike-result, same-sizes, compare-sizes, select-sizes, clamp-sizes, unary-alike}

-- a list with n numbers
first-natural : (a : Numbers) → ListRead a → {n : ℕ} → a.count ≡ n → ((d : ℕ) → d < n → num a d < 2 ^ 63) → AreNatural n a.list
first-natural a h {n} e f = subst (λ (k : ℕ). AreNatural k a.list) e (natural-list a h (λ d l. f d (subst (λ (k : ℕ). d < k) e l)))

module _ (x : TensorType) (r : TensorType) (p : ShapeRead x.shape) (q : ShapeRead r.shape) where
  one_rank : r.shape.rank ≡ x.shape.rank → length (dims_of r.shape) ≡ length (dims_of x.shape)
  one_rank e = rank_is r.shape q ∙ e ∙ sym (rank_is x.shape p)

  inside : {d : ℕ} → d < length (dims_of x.shape) → d < x.shape.rank
  inside {d} l = below-rank x.shape p d l

  pub slice-holds : (start limit strides : Numbers) → SliceGranted x start limit strides r
      → SliceHolds (take x.shape.rank start.list) (take x.shape.rank limit.list) (take x.shape.rank strides.list) (dims_of x.shape) (dims_of r.shape)
  slice-holds start limit strides g =
      first_of (λ s. SliceHolds s (take x.shape.rank limit.list) (take x.shape.rank strides.list) (dims_of x.shape) (dims_of r.shape)) start g.counts.0
      (first_of (λ l. SliceHolds (list_of start) l (take x.shape.rank strides.list) (dims_of x.shape) (dims_of r.shape)) limit g.counts.1
      (first_of (λ t. SliceHolds (list_of start) (list_of limit) t (dims_of x.shape) (dims_of r.shape)) strides g.counts.2
      (record { rank = one_rank g.rank; order = λ d l. g.order d (inside l); positive = λ d l. g.positive d (inside l); sizes = λ d l. g.sizes d (inside l) })))

  pub pad-holds : (v : TensorType) (low high interior : Numbers) → PadGranted x v low high interior r
      → PadHolds (take x.shape.rank interior.list) (dims_of x.shape) (dims_of r.shape)
  pad-holds v low high interior g =
      first_of (λ t. PadHolds t (dims_of x.shape) (dims_of r.shape)) interior g.counts.2
      (record { rank = one_rank g.rank; nonnegative = λ d l. g.small d (inside l) })

  -- start_indices are below the sizes of the dimensions
  slice-natural : (start limit strides : Numbers) → ListRead start → ListRead strides → SliceGranted x start limit strides r
      → AreNatural start.count start.list × AreNatural x.shape.rank strides.list
  slice-natural start limit strides h i g = (
    natural-list start h
        (λ d l.
        let m : d < length (dims_of x.shape) = rw (rank_is x.shape p, ← g.counts.0) l in
        omega (arith, g.order d (inside m), dim-le-volume (dims_of x.shape) d m, p.sized.volume)),
    first-natural strides i g.counts.2 g.small,
  )

pub dynamic-slice-holds : (o : Operation) → Shaped o → DynamicSliceGranted o.types o.arity o.a o.result
    → DynamicSliceHolds (dims_of (type_at o.types 0).shape) (dims_of o.result.shape)
dynamic-slice-holds o h g =
    let x = type_at o.types 0 in
    let p = h.types 0 (omega arith) in
    record {
      rank = one_rank x o.result p h.result g.rank;
      sizes = λ d l.
          let m : d < x.shape.rank = inside x o.result p h.result l in
          subst (λ (n : ℕ). n ≤ at (dims_of x.shape) d) (sym (g.shape d m)) (g.within d m);
    }

pub iota-holds : (o : Operation) → ShapeRead o.result.shape → o.a.count ≡ 1 → num o.a 0 < o.result.shape.rank
    → IotaHolds (at o.a.list 0) (dims_of o.result.shape)
iota-holds o h e g = record { along = rw (rank_is o.result.shape h, ← lone o.a e) g }

module _ (o : Operation) (h : Shaped o) (x y z out : Tensor) (f : Stretched o x y z out) where
  -- an operand of as many elements as the result fills a stretch as long
  as_long : (j : ℕ) (v : Tensor) → AsResult o j → Fills v (type_at o.types j).shape → length v ≡ length out
  as_long j v q e = e ∙ q ∙ sym f.result

  spread-long : (j : ℕ) (v : Tensor) → SpreadTo o j → Fills v (type_at o.types j).shape
      → length v ≡ spread_size (eqb (length (dims_of (type_at o.types j).shape)) 0) (length out)
  spread-long j v q e = e ∙ q ∙ ap (spread_size (eqb (length (dims_of (type_at o.types j).shape)) 0)) (sym f.result)

  stretches : 0 < o.arity → Stretches (type_at o.types 0).shape o.result.shape x out
  stretches l =
      record { from-sized = (h.types 0 (omega arith)).sized; to-sized = h.result.sized; operand = f.operand-0 l; result = f.result }

  two-long : 1 < o.arity → AsResult o 0 × AsResult o 1 → TwoSized (length out) x y
  two-long l q = record { first = as_long 0 x q.0 (f.operand-0 (omega arith)); second = as_long 1 y q.1 (f.operand-1 l) }

  move-ready : (m : Move) → 0 < o.arity → Granted (move_rule m) o → MoveReady (task_of (Moved m) o) m x out
  move-ready Reshape l g = (stretches l, record { sizes = g.sizes })
  move-ready BroadcastInDim l g = (stretches l, g.count, natural-below o.a h.a o.result.shape h.result g.listed.below)
  move-ready Transpose l g =
      let x = type_at o.types 0 in (
        stretches l,
        g.count,
        first_of (λ p. TransposeHolds p (dims_of x.shape) (dims_of o.result.shape)) o.a g.count
            (transpose-holds x o.a o.result (h.types 0 (omega arith)) h.a h.result g),
        natural-below o.a h.a (type_at o.types 0).shape (h.types 0 (omega arith)) (λ d m. g.listed.below d (rw (← g.count) m)),
      )
  move-ready Slice l g =
      let n = slice-natural (type_at o.types 0) o.result (h.types 0 (omega arith)) h.result o.a o.b o.c h.a h.c g in
      (stretches l, g.counts.0, slice-holds (type_at o.types 0) o.result (h.types 0 (omega arith)) h.result o.a o.b o.c g, n.0, n.1)
  move-ready Reverse l g = (
    record {
      from-sized = h.result.sized;
      to-sized = h.result.sized;
      operand = f.operand-0 l ∙ alike-result o h 0 (omega arith) g.types.shape;
      result = f.result;
    },
    h.a.few,
    natural-below o.a h.a o.result.shape h.result g.listed.below,
  )

-- every class that a task does
pub ready : (kind : Kind) (o : Operation) → AcceptedAs kind o → DoneByTask kind → (x y z out : Tensor) → Stretched o x y z out
    → TaskReady (task_of kind o) kind x y z out
ready Constant o a n x y z out f = absurd n
ready (Quotient op) o a n x y z out f = absurd n
ready Concatenate o a n x y z out f = absurd n
ready Iota o a n x y z out f = (a.shaped.result.sized, f.result, iota-holds o a.shaped.result a.number a.granted, a.number)
ready (Elementwise op) o a n x y z out f =
    (f.result, as_long o a.shaped x y z out f 0 x (result-alike o a.shaped 0 (omega arith) (unary-alike op o a.least a.granted).shape) (f.operand-0 a.least))
ready (Pairwise op) o a n x y z out f = (f.result, two-long o a.shaped x y z out f a.least (same-sizes o a.shaped a.least a.granted))
ready (Compare d) o a n x y z out f = (f.result, two-long o a.shaped x y z out f a.least (compare-sizes o a.shaped a.granted))
ready Convert o a n x y z out f = (f.result, as_long o a.shaped x y z out f 0 x (alike-result o a.shaped 0 (omega arith) a.granted) (f.operand-0 a.least))
ready Select o a n x y z out f =
    let l : 3 ≤ o.arity = a.least in
    let s = select-sizes o a.shaped a.granted in (
      f.result,
      record {
        asked = spread-long o a.shaped x y z out f 0 x s.0 (f.operand-0 (omega arith));
        first = as_long o a.shaped x y z out f 1 y s.1 (f.operand-1 (omega arith));
        second = as_long o a.shaped x y z out f 2 z s.2 (f.operand-2 (omega arith));
      },
    )
ready Clamp o a n x y z out f =
    let l : 3 ≤ o.arity = a.least in
    let s = clamp-sizes o a.shaped a.granted in (
      f.result,
      record {
        low = spread-long o a.shaped x y z out f 0 x s.0 (f.operand-0 (omega arith));
        middle = as_long o a.shaped x y z out f 1 y s.1 (f.operand-1 (omega arith));
        high = spread-long o a.shaped x y z out f 2 z s.2 (f.operand-2 (omega arith));
      },
    )
ready (Moved m) o a n x y z out f = move-ready o a.shaped x y z out f m a.least a.granted
ready Pad o a n x y z out f =
    let l : 2 ≤ o.arity = a.least in
    let h = a.shaped in (
      stretches o h x y z out f (omega arith),
      pad-holds (type_at o.types 0) o.result (h.types 0 (omega arith)) h.result (type_at o.types 1) o.a o.b o.c a.granted,
      a.granted.counts.0,
      first-natural o.c h.c a.granted.counts.2 a.granted.small,
    )
ready DynamicSlice o a n x y z out f = (stretches o a.shaped x y z out f a.least, dynamic-slice-holds o a.shaped a.granted)
ready (Reduce body) o a n x y z out f =
    let l : 2 ≤ o.arity = a.least in
    let h = a.shaped in (
      record {
        from-sized = (h.types 0 (omega arith)).sized;
        to-sized = h.result.sized;
        few = h.a.few;
        operand = f.operand-0 (omega arith);
        result = f.result;
      },
      natural-below o.a h.a (type_at o.types 0).shape (h.types 0 (omega arith)) a.granted.listed.below,
    )
