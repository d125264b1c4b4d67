-- The shape of an input slice is within 01's sizes.
-- Assumes nothing.
use mathlib.Core.Path.{◌≡◌, refl}
use mathlib.Core.List.{List}
use Prim.Native.Nat.{ℕ, min}
use native.Mathlib.Omega.{arith}
use lib.ListN.{length, length-take}
use lib.Seq.{take_at}
use Rattle.shape.specs.Index.{at}
use Rattle.shape.specs.Dims.{dims_of, shape_from, Sized}
use Rattle.shape.specs.declared.Shape.{Shape}
use Rattle.shape.specs.Place.{is_in}
use Rattle.reduction.specs.Rows.{slice_shape}
use Rattle.reduction.proofs.CollectLaw.{collect-few, volume-collect}

pub dims-from : (ds : List ℕ) → dims_of (shape_from ds) ≡ ds
dims-from ds = take_at ds _ (length ds) refl

pub slice-sized : (from : Shape) (dimensions : List ℕ) → Sized from → Sized (shape_from (slice_shape dimensions (dims_of from)))
slice-sized from dimensions s =
    let ds = dims_of from in
    let l : length ds ≡ min from.rank (length from.dims) = length-take from.rank from.dims in
    record {
      rank = omega (arith, s.rank, l, collect-few (length ds) (is_in dimensions) (at ds));
      volume = rw (dims-from (slice_shape dimensions ds)) (omega (arith, s.volume, volume-collect ds (is_in dimensions)));
    }
