-- What a type that is in 01 and passes no size hands on: its shape has the sizes of 01 and the dimensions of the text.
-- Assumes nothing.
use mathlib.Core.Path.{◌≡◌, refl, ◌∙◌}
use mathlib.Core.Bool.{Bool, true, false, ◌&&◌}
use mathlib.Core.List.{List}
use Prim.Native.Nat.{ℕ, ◌+◌, ◌<◌, ◌≤◌}
use native.Mathlib.Decide.{dec_lt}
use native.Mathlib.Omega.{arith}
use lib.ListN.{length, drop}
use lib.Dec.{eqb, leb}
use borrow.Author.Tests.{leb-true, lt-ltb, le-ltb}
use Rattle.lists.specs.Lists.{pick}
use Rattle.scan.specs.Ascii.{ascii}
use Rattle.scan.specs.Bytes.{starts_with}
use Rattle.scan.specs.TypeText.{shape_end}
use Rattle.scan.specs.TensorText.{type_close}
use Rattle.shape.specs.Index.{volume}
use Rattle.shape.specs.Dims.{dims_of, Sized}
use Rattle.element.specs.declared.ElementType.{ElementType}
use Rattle.types.specs.Tensors.{element_named, bytes_between, dimensions_from, byte_count, all_fit, type_size_passed, typed, foreign, type_after, type_of}
use Rattle.types.proofs.ShapeLaw.{six, uncut}

-- no size is passed
sizes : (ds : List ℕ) → type_size_passed ds ≡ 0 → (length ds ≤ 6) × (volume ds ≤ 4096)
unfolding type_size_passed
sizes ds e = by_rank (dec_lt 6 (length ds))
  where
    by-fit : (a b : Bool) → ◌≡◌ {A = ℕ} (pick (a && b) 0 2) 0 → b ≡ true
    by-fit true true q = refl
    by-fit true false q = absurd (omega arith)
    by-fit false b q = absurd (omega arith)

    by_rank : Dec (6 < length ds) → (length ds ≤ 6) × (volume ds ≤ 4096)
    by_rank (yes h) = let z : ◌≡◌ {A = ℕ} 1 0 = rw (lt-ltb 6 (length ds) h) at e in absurd (omega arith)
    by_rank (no h) =
        let r : length ds ≤ 6 = omega arith in
        let f : ◌≡◌ {A = ℕ} (pick (all_fit ds && leb (volume ds) 4096) 0 2) 0 = rw (le-ltb 6 (length ds) r) at e in
        (r, leb-true (volume ds) 4096 (by-fit (all_fit ds) (leb (volume ds) 4096) f))

module _ (t : ElementType) (ds : List ℕ) (ok : (typed t ds).passed ≡ 0) where
  pub typed-dims : dims_of (typed t ds).shape ≡ ds
  unfolding typed
  typed-dims = let s = sizes ds ok in six ds s.0 ∙ uncut ds s.1

  pub typed-sized : Sized (typed t ds).shape
  unfolding typed
  typed-sized = let s = sizes ds ok in record { rank = s.0; volume = rw (six ds s.0, uncut ds s.1) s.1 }

no-foreign : foreign.known ≡ true → ⊥
unfolding foreign
no-foreign k = let z : ◌≡◌ {A = ℕ} 0 1 = cc in omega arith

-- a type that is in 01
by-known : (b : Bool) (t : ElementType) (ds : List ℕ) → (pick b (typed t ds) foreign).known ≡ true → (pick b (typed t ds) foreign).passed ≡ 0 →
    Sized (pick b (typed t ds) foreign).shape
by-known true t ds k p = typed-sized t ds p
by-known false t ds k p = absurd (no-foreign k)

after-sized : (text : List ℕ) (at : ℕ) → (type_after text at).known ≡ true → (type_after text at).passed ≡ 0 → Sized (type_after text at).shape
unfolding type_after
after-sized text at =
    let name = element_named text (shape_end text at) (type_close text at) in
    let shape = bytes_between at (shape_end text at) text in
    by-known (name.known && eqb (byte_count 63 shape) 0) name.element (dimensions_from 0 shape)

pub type-sized : (text : List ℕ) (start : ℕ) → (type_of text start).known ≡ true → (type_of text start).passed ≡ 0 → Sized (type_of text start).shape
unfolding type_of
type-sized text start = by-start (starts_with (ascii "tensor<") (drop start text))
  where
    by-start : (b : Bool) → (pick b (type_after text (start + 7)) foreign).known ≡ true → (pick b (type_after text (start + 7)) foreign).passed ≡ 0 →
        Sized (pick b (type_after text (start + 7)) foreign).shape
    by-start true k p = after-sized text (start + 7) k p
    by-start false k p = absurd (no-foreign k)
