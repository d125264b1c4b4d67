-- How far apart the values stand in the store, and that all of them stand within the slots needed.
-- Assumes nothing.
use mathlib.Core.Path.{◌≡◌}
use mathlib.Core.List.{List}
use Prim.Native.Nat.{ℕ, zero, suc, ◌+◌, ◌*◌, ◌≤◌, ◌<◌}
use native.Mathlib.Decide.{dec_le}
use native.Mathlib.Omega.{arith}
use lib.ListN.{get_or}
use Rattle.lists.proofs.TabLaw.{get_or-tab}
use Rattle.shape.specs.Dims.{dims_of}
use Rattle.shape.proofs.IndexLaw.{size-le-volume}
use Rattle.dimrules.specs.Count.{sum_below}
use Rattle.dimrules.proofs.CountLaw.{sum-next}
use Rattle.program.specs.declared.Program.{Program}
use Rattle.values.specs.declared.Values.{Values}
use Rattle.values.specs.Values.{no_value, values_in}
use Rattle.values.proofs.ValuesLaw.{value-sized, count-few}
use Rattle.offsets.specs.Offsets.{size_at, offset_at, offsets_of, needed_of, ValuesRead}

-- the values of every program are read
pub values-read : (text : List ℕ) (p : Program) → ValuesRead (values_in text p)
values-read text p = record { few = count-few text p; sized = λ i h. value-sized text p i }

module _ (vs : Values) where
  -- the offset of value i as the array holds it
  pub offset_read : (starts : List ℕ) → starts ≡ offsets_of vs → (i : ℕ) → i < 264 → get_or starts i 0 ≡ offset_at vs i
  unfolding offsets_of
  offset_read starts e i h = rw e (get_or-tab 264 (offset_at vs) i 0 h)

  pub offset-next : (i : ℕ) → offset_at vs (i + 1) ≡ offset_at vs i + size_at vs i
  unfolding offset_at
  offset-next i = sum-next i (size_at vs)

  -- a turn of a loop that adds the sizes
  pub offset-turn : (i at n : ℕ) → at ≡ offset_at vs i → n ≡ size_at vs i → at + n ≡ offset_at vs (i + 1)
  offset-turn i at n e s = omega (arith, offset-next i, e, s)

  -- no value begins before one that stands before it
  pub offset-le : (i j : ℕ) → i ≤ j → offset_at vs i ≤ offset_at vs j
  unfolding offset_at
  offset-le i zero h = let z : i ≡ 0 = omega arith in rw z (omega arith)
  offset-le i (suc j) h = by_order (dec_le i j) (λ b. offset-le i j b)
    where
      by_order : Dec (i ≤ j) → (i ≤ j → sum_below i (size_at vs) ≤ sum_below j (size_at vs)) → sum_below i (size_at vs) ≤ sum_below j (size_at vs) + size_at vs j
      by_order (yes b) ih = omega (arith, ih b)
      by_order (no b) ih = let z : i ≡ suc j = omega arith in rw z (omega arith)

  -- each value stands within the slots needed
  pub within : (i : ℕ) → i < vs.count → offset_at vs i + size_at vs i ≤ needed_of vs
  unfolding needed_of
  within i h = omega (arith, offset-next i, offset-le (i + 1) vs.count (omega arith))

  module _ (read : ValuesRead vs) where
    pub size_small : (i : ℕ) → i < 264 → size_at vs i ≤ 4096
    unfolding size_at
    size_small i h = omega (arith, size-le-volume (dims_of (get_or vs.list i no_value).ty.shape), (read.sized i h).volume)

    pub offset-small : (i : ℕ) → i ≤ 264 → offset_at vs i ≤ 4096 * i
    unfolding offset_at
    offset-small zero h = omega arith
    offset-small (suc i) h = omega (arith, offset-small i (omega arith), size_small i h)

    -- a sum of sizes is far below 2 ^ 64
    pub sum-small : (i at n : ℕ) → i < 264 → at ≡ offset_at vs i → n ≡ size_at vs i → at + n ≤ 1081344
    sum-small i at n h e s = omega (arith, offset-small i (omega arith), size_small i h, e, s)
