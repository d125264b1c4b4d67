-- Laws of the ends of productions, as the loops use them.
-- Assumes nothing.
use mathlib.Core.Path.{◌≡◌}
use mathlib.Core.List.{List}
use Prim.Native.Nat.{ℕ, suc, ◌+◌, ◌-◌, ◌<◌, ◌≤◌}
use native.Mathlib.Numerals.{add-one}
use native.Mathlib.Omega.{arith}
use lib.ListN.{length, get_or, drop, drop_of_length-le}
use lib.Dec.{eqb}
use lib.Seq.{drop-cons}
use Rattle.lists.specs.Lists.{pick}
use Rattle.scan.specs.Bytes.{byte_at}
use Rattle.scan.specs.TypeText.{size_next, shape_end_from}
use Rattle.scan.specs.Quantized.{parameter_end, more_end}

-- after k bytes of the list, whose first has place at
module _ (xs : List ℕ) (end size at k : ℕ) where
  pub shape-past : length xs ≤ k → shape_end_from end size (at + k) (drop k xs) ≡ end
  unfolding shape_end_from
  shape-past h = rw drop_of_length-le

  pub shape-step : k < length xs → shape_end_from end size (at + k) (drop k xs) ≡
      (let next = size_next size (get_or xs k 0) in
      pick (eqb next 3) end (shape_end_from (pick (eqb next 0) (at + k + 1) end) next (at + (k + 1)) (drop (k + 1) xs)))
  unfolding shape_end_from
  shape-step h = let e : at + (k + 1) ≡ suc (at + k) = omega arith in rw (e, add-one (at + k), add-one k, drop-cons xs k 0)

-- after k of at most m
pub more-step : (m k : ℕ) (text : List ℕ) (at : ℕ) → k < m → more_end (m - k) text at ≡
    pick (eqb (byte_at text at) 44) (more_end (m - (k + 1)) text (parameter_end text (at + 1))) at
unfolding more_end
more-step m k text at h = let e : m - k ≡ suc (m - (k + 1)) = omega arith in rw e

pub more-past : (n : ℕ) (text : List ℕ) (at : ℕ) → n ≤ 0 → more_end n text at ≡ at
unfolding more_end
more-past n text at h = let e : n ≡ 0 = omega arith in rw e
