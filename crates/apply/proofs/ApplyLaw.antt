-- Laws of one op: what is asked and what is given, by its class.
-- Assumes nothing.
use mathlib.Core.Path.{◌≡◌, refl, sym, ap, ◌∙◌, subst}
use mathlib.Core.List.{List, [], ◌∷◌, map}
use Prim.Native.Nat.{ℕ, zero, suc, ◌^◌, ◌<◌}
use native.Mathlib.Nat.{not-suc-le-zero}
use native.Mathlib.Omega.{arith}
use lib.Dec.{eqb}
use borrow.Author.Tests.{ne_eqb}
use lib.ListN.{length, get_or, take}
use lib.Seq.{get_or-take}
use lib.IntN.{pos}
use Rattle.run.specs.Run.{Out, gives}
use mathlib.Core.Bool.{Bool}
use Rattle.lists.specs.Lists.{tab}
use Rattle.scalar.specs.declared.Unary.{Unary}
use Rattle.scalar.specs.declared.Binary.{Binary}
use Rattle.scalar.specs.declared.Direction.{Direction}
use Rattle.scalar.specs.declared.Body.{Body}
use Rattle.shape.specs.Index.{at, size}
use Rattle.shape.specs.Dims.{dims_of, Sized}
use Rattle.shape.specs.Whole.{number_of}
use Rattle.maps.specs.Formulas.{counted, broadcasted, transposed, sliced, reversed, padded, dynamic_sliced}
use Rattle.maps.proofs.AttributeLaw.{dims-le, numbers-at}
use Rattle.maps.specs.Holds.{IotaHolds}
use Rattle.reduction.specs.Rows.{reduced}
use Rattle.elementwise.specs.Elementwise.{Tensor, unary_at, binary_at, compare_at, convert_at, select_at, clamp_at}
use Rattle.ops.specs.declared.Move.TheVariants.{BroadcastInDim, Transpose, Slice, Reverse}
use Rattle.ops.specs.declared.Kind.TheVariants.{Iota, Elementwise, Pairwise, Compare, Convert, Select, Clamp, Moved, Pad, DynamicSlice, Reduce}
use Rattle.ops.specs.declared.Move.{Move}
use Rattle.ops.specs.declared.Kind.{Kind}
use Rattle.ops.specs.OpAttributes.{natural, naturals}
use Rattle.ops.specs.Ops.{moved}
use Rattle.ops.proofs.NaturalLaw.{natural-number, naturals-numbers}
use Rattle.apply.specs.declared.Task.{Task}
use Rattle.apply.specs.Apply.{numbers_in, node_of, AreNatural, MoveReady, TaskReady, task_outcome}

-- a shape has rank 0 where its list of dimensions is empty
pub single-is : (r : ℕ) (l : List ℕ) → 0 < length l → eqb r 0 ≡ eqb (length (take r l)) 0
single-is zero l h = refl
single-is (suc r) [] h = absurd (not-suc-le-zero h)
single-is (suc r) (d ∷ l) h = ne_eqb (suc r) 0 (λ e. omega arith) ∙ sym (ne_eqb (suc (length (take r l))) 0 (λ e. omega arith))

module _ (k : Task) (x : Tensor) where
  pub move-ready : (out : List ℕ) {m m' : Move} → m ≡ m' → MoveReady k m x out → MoveReady k m' x out
  move-ready out {m} {m'} e h = subst (λ (n : Move). MoveReady k n x out) e h

  pub move-is : {m m' : Move} {new : List ℕ} → m ≡ m' → new ≡ moved (node_of (Moved m') k) m' x → new ≡ moved (node_of (Moved m) k) m x
  move-is {m} {m'} {new} e h = subst (λ (n : Move). new ≡ moved (node_of (Moved n) k) n x) (sym e) h

  module _ (y z : Tensor) where
    pub kind-ready : (out : List ℕ) {a b : Kind} → a ≡ b → TaskReady k a x y z out → TaskReady k b x y z out
    kind-ready out {a} {b} e h = subst (λ (n : Kind). TaskReady k n x y z out) e h

    pub kind-is : {a b : Kind} (starts : List ℕ) {new : List ℕ} → a ≡ b → task_outcome k b starts x y z ≡ gives new → task_outcome k a starts x y z ≡ gives new
    kind-is {a} {b} starts {new} e h = subst (λ (n : Kind). task_outcome k n starts x y z ≡ gives new) (sym e) h

-- the starts of dynamic_slice are read back from tensors of one element
pub singles : (l : List ℕ) → map (λ s. get_or s 0 0) (map (λ s. s ∷ []) l) ≡ l
singles [] = refl
singles (a ∷ l) = ap {B = List ℕ} (λ r. a ∷ r) (singles l)

-- a number alone is the first of its array
lone-number : (c : ℕ) (l : List ℕ) → c ≡ 1 → at l 0 < 2 ^ 63 → natural (get_or (numbers_in c l) 0 (pos 0)) ≡ at l 0
lone-number c l e h =
    ap natural (sym (numbers-at (take c l) 0) ∙ ap number_of (get_or-take c l 0 0 (omega arith))) ∙ natural-number (at l 0) h

-- a formula of an array's numbers is one of its patterns, where none of them is negative
by-patterns : {A : Type 0} (f : List ℕ → A) (n : ℕ) (l : List ℕ) → AreNatural n l → f (take n l) ≡ f (naturals (numbers_in n l))
by-patterns f n l a = ap f (sym (naturals-numbers (take n l) a))

-- iota_dimension is below the rank
pub iota-small : (k : Task) → Sized k.to → IotaHolds (at k.first 0) (dims_of k.to) → at k.first 0 < 2 ^ 63
iota-small k s h = omega (arith, h.along, s.rank, dims-le k.to.rank k.to.dims)

-- what a class's function left is what the op gives
module _ (k : Task) (starts : List ℕ) (x y z : Tensor) {new : List ℕ} where
  made : {v : Tensor} → new ≡ v → ◌≡◌ {A = Out Tensor ℕ} (gives v) (gives new)
  made e = ap {B = Out Tensor ℕ} gives (sym e)

  pub iota-is : k.count ≡ 1 → at k.first 0 < 2 ^ 63 → new ≡ counted k.element (at k.first 0) (dims_of k.to) → task_outcome k Iota starts x y z ≡ gives new
  iota-is c h e = made (e ∙ ap (λ (d : ℕ). counted k.element d (dims_of k.to)) (sym (lone-number k.count k.first c h)))

  filled : {n : ℕ} (f : ℕ → ℕ) → n ≡ size (dims_of k.to) → new ≡ tab n f → ◌≡◌ {A = Out Tensor ℕ} (gives (tab (size (dims_of k.to)) f)) (gives new)
  filled f q e = made (e ∙ ap (λ (m : ℕ). tab m f) q)

  module _ {n : ℕ} (q : n ≡ size (dims_of k.to)) where
    pub unary-is : (op : Unary) → new ≡ tab n (unary_at op k.element x) → task_outcome k (Elementwise op) starts x y z ≡ gives new
    unary-is op e = filled (unary_at op k.element x) q e

    pub binary-is : (op : Binary) → new ≡ tab n (binary_at op k.element x y) → task_outcome k (Pairwise op) starts x y z ≡ gives new
    binary-is op e = filled (binary_at op k.element x y) q e

    pub compare-is : (d : Direction) → new ≡ tab n (compare_at d k.source x y) → task_outcome k (Compare d) starts x y z ≡ gives new
    compare-is d e = filled (compare_at d k.source x y) q e

    pub convert-is : new ≡ tab n (convert_at k.source k.element x) → task_outcome k Convert starts x y z ≡ gives new
    convert-is e = filled (convert_at k.source k.element x) q e

    pub select-is : (b : Bool) → b ≡ eqb (length (dims_of k.from)) 0 → new ≡ tab n (select_at b x y z) → task_outcome k Select starts x y z ≡ gives new
    select-is b p e = filled (select_at (eqb (length (dims_of k.from)) 0) x y z) q (e ∙ ap (λ (c : Bool). tab n (select_at c x y z)) p)

    pub clamp-is : (b c : Bool) → b ≡ eqb (length (dims_of k.from)) 0 → c ≡ eqb (length (dims_of k.last)) 0 → new ≡ tab n (clamp_at k.element b c x y z)
        → task_outcome k Clamp starts x y z ≡ gives new
    clamp-is b c p r e =
        filled (clamp_at k.element (eqb (length (dims_of k.from)) 0) (eqb (length (dims_of k.last)) 0) x y z) q
        (e ∙ ap (λ (d : Bool). tab n (clamp_at k.element d c x y z)) p
        ∙ ap (λ (d : Bool). tab n (clamp_at k.element (eqb (length (dims_of k.from)) 0) d x y z)) r)

  pub moved-is : (m : Move) → new ≡ moved (node_of (Moved m) k) m x → task_outcome k (Moved m) starts x y z ≡ gives new
  moved-is m e = made e

  pub pad-is : (v : ℕ) → v ≡ get_or y 0 0 → k.count ≡ k.from.rank → AreNatural k.from.rank k.second
      → new ≡ padded (numbers_in k.from.rank k.first) (take k.from.rank k.second) (dims_of k.from) (dims_of k.to) x v → task_outcome k Pad starts x y z ≡ gives new
  pad-is v p c a e =
      made (e ∙ ap (λ (w : ℕ). padded (numbers_in k.from.rank k.first) (take k.from.rank k.second) (dims_of k.from) (dims_of k.to) x w) p
      ∙ ap (λ (w : ℕ). padded (numbers_in w k.first) (take k.from.rank k.second) (dims_of k.from) (dims_of k.to) x (get_or y 0 0)) (sym c)
      ∙ by-patterns (λ l. padded (numbers_in k.count k.first) l (dims_of k.from) (dims_of k.to) x (get_or y 0 0)) k.from.rank k.second a)

  pub dynamic-is : new ≡ dynamic_sliced k.index (take k.from.rank starts) (dims_of k.from) (dims_of k.to) x → task_outcome k DynamicSlice starts x y z ≡ gives new
  dynamic-is e = made (e ∙ ap (λ (l : List ℕ). dynamic_sliced k.index l (dims_of k.from) (dims_of k.to) x) (sym (singles (take k.from.rank starts))))

  pub reduce-is : (body : Body) (v : ℕ) → v ≡ get_or y 0 0 → AreNatural k.count k.first
      → new ≡ reduced body k.element (take k.count k.first) (dims_of k.from) (dims_of k.to) v x → task_outcome k (Reduce body) starts x y z ≡ gives new
  reduce-is body v p a e =
      made (e ∙ ap (λ (w : ℕ). reduced body k.element (take k.count k.first) (dims_of k.from) (dims_of k.to) w x) p
      ∙ by-patterns (λ l. reduced body k.element l (dims_of k.from) (dims_of k.to) (get_or y 0 0) x) k.count k.first a)

-- reverse names some dimensions
pub reverse-is : (k : Task) (x new : List ℕ) → AreNatural k.count k.first → new ≡ reversed (take k.count k.first) (dims_of k.to) x
    → new ≡ moved (node_of (Moved Reverse) k) Reverse x
reverse-is k x new a e = e ∙ by-patterns (λ l. reversed l (dims_of k.to) x) k.count k.first a

-- the moves whose attribute list has a number for each dimension of the operand
module _ (k : Task) (x new : List ℕ) (c : k.count ≡ k.from.rank) (a : AreNatural k.count k.first) where
  pub broadcast-is : new ≡ broadcasted (take k.from.rank k.first) (dims_of k.from) (dims_of k.to) x → new ≡ moved (node_of (Moved BroadcastInDim) k) BroadcastInDim x
  broadcast-is e =
      e ∙ ap (λ (w : ℕ). broadcasted (take w k.first) (dims_of k.from) (dims_of k.to) x) (sym c)
      ∙ by-patterns (λ l. broadcasted l (dims_of k.from) (dims_of k.to) x) k.count k.first a

  pub transpose-is : new ≡ transposed (take k.from.rank k.first) (dims_of k.from) (dims_of k.to) x → new ≡ moved (node_of (Moved Transpose) k) Transpose x
  transpose-is e =
      e ∙ ap (λ (w : ℕ). transposed (take w k.first) (dims_of k.from) (dims_of k.to) x) (sym c)
      ∙ by-patterns (λ l. transposed l (dims_of k.from) (dims_of k.to) x) k.count k.first a

  pub slice_is : AreNatural k.from.rank k.second
      → new ≡ sliced (take k.from.rank k.first) (take k.from.rank k.second) (dims_of k.from) (dims_of k.to) x
      → new ≡ moved (node_of (Moved Slice) k) Slice x
  slice_is b e =
      e ∙ ap (λ (w : ℕ). sliced (take w k.first) (take k.from.rank k.second) (dims_of k.from) (dims_of k.to) x) (sym c)
      ∙ by-patterns (λ l. sliced l (take k.from.rank k.second) (dims_of k.from) (dims_of k.to) x) k.count k.first a
      ∙ by-patterns (λ l. sliced (naturals (numbers_in k.count k.first)) l (dims_of k.from) (dims_of k.to) x) k.from.rank k.second b
