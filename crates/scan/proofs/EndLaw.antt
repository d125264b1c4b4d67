-- No production ends before it starts: each end is at least n, where the place it starts at and the length of the text are.
-- Assumes nothing.
use mathlib.Core.Bool.{Bool, true, false}
use mathlib.Core.List.{List, [], ◌∷◌}
use Prim.Native.Nat.{ℕ, zero, suc, ◌+◌, ◌≤◌}
use native.Mathlib.Omega.{arith}
use lib.ListN.{length, drop}
use lib.Dec.{leb, eqb}
use Rattle.lists.specs.Lists.{pick}
use Rattle.scan.specs.Ascii.{ascii}
use Rattle.scan.specs.Bytes.{byte_at, among, is_letter, is_digit, is_sign, in_run, run_from, run_end, starts_with}
use Rattle.scan.specs.TypeText.{byte_end, word_end, digits_end, size_next, shape_end_from, shape_end, complex_end}
use Rattle.scan.specs.Quantized.{sign_end, integer_end, fraction_end, scientific_end, float_end, colon_end, parameter_end, more_end, parameters_end, storage_end, quantized_end}
use Rattle.scan.specs.TensorText.{element_by, element_end, type_close}

pick-ge : (t : Bool) (a b n : ℕ) → n ≤ a → n ≤ b → n ≤ pick t a b
pick-ge true a b n p q = p
pick-ge false a b n p q = q

run-from-ge : (letters : Bool) (n : ℕ) (s : List ℕ) (at : ℕ) → n ≤ at → n ≤ run_from letters at s
unfolding run_from
run-from-ge letters n [] at h = h
run-from-ge letters n (b ∷ bs) at h = pick-ge (in_run letters b) _ _ _ (run-from-ge letters n bs (suc at) (omega arith)) h

shape-from-ge : (n : ℕ) (s : List ℕ) (end size at : ℕ) → n ≤ end → n ≤ at → n ≤ shape_end_from end size at s
unfolding shape_end_from
shape-from-ge n [] end size at h g = h
shape-from-ge n (b ∷ bs) end size at h g =
    let next = size_next size b in
    let last = pick (eqb next 0) (suc at) end in
    pick-ge (eqb next 3) _ _ _ h (shape-from-ge n bs last next (suc at) (pick-ge (eqb next 0) (suc at) end n (omega arith) h) (omega arith))

pub run-ge : (letters : Bool) (text : List ℕ) (at n : ℕ) → n ≤ at → n ≤ run_end letters text at
unfolding run_end
run-ge letters text at n h = run-from-ge letters n (drop at text) at h

module _ (n : ℕ) (text : List ℕ) (short : n ≤ length text) where
  next : (at : ℕ) → n ≤ at → n ≤ at + 1
  next at h = omega arith

  byte-ge : (b at : ℕ) → n ≤ at → n ≤ byte_end b text at
  unfolding byte_end
  byte-ge b at h = pick-ge (leb (length text) at) _ _ _ short (pick-ge (eqb (byte_at text at) b) _ _ _ (next at h) short)

  pub word-ge : (at : ℕ) → n ≤ at → n ≤ word_end text at
  unfolding word_end
  word-ge at h = pick-ge (is_letter (byte_at text at)) _ _ _ (run-ge true text at n h) short

  digits-ge : (at : ℕ) → n ≤ at → n ≤ digits_end text at
  unfolding digits_end
  digits-ge at h = pick-ge (is_digit (byte_at text at)) _ _ _ (run-ge false text at n h) short

  pub shape-ge : (at : ℕ) → n ≤ at → n ≤ shape_end text at
  unfolding shape_end
  shape-ge at h = shape-from-ge n (drop at text) at 0 at h h

  complex-ge : (at : ℕ) → n ≤ at → n ≤ complex_end text at
  unfolding complex_end
  complex-ge at h = byte-ge _ _ (word-ge at h)

  sign-ge : (at : ℕ) → n ≤ at → n ≤ sign_end text at
  unfolding sign_end
  sign-ge at h = pick-ge (is_sign (byte_at text at)) _ _ _ (next at h) h

  integer-ge : (at : ℕ) → n ≤ at → n ≤ integer_end text at
  unfolding integer_end
  integer-ge at h = digits-ge _ (sign-ge at h)

  fraction-ge : (at : ℕ) → n ≤ at → n ≤ fraction_end text at
  unfolding fraction_end
  fraction-ge at h = pick-ge (eqb (byte_at text at) 46) _ _ _ (run-ge false text (at + 1) n (next at h)) h

  scientific-ge : (at : ℕ) → n ≤ at → n ≤ scientific_end text at
  unfolding scientific_end
  scientific-ge at h = pick-ge (among (ascii "eE") (byte_at text at)) _ _ _ (integer-ge _ (next at h)) h

  float-ge : (at : ℕ) → n ≤ at → n ≤ float_end text at
  unfolding float_end
  float-ge at h = scientific-ge _ (fraction-ge _ (integer-ge at h))

  colon-ge : (at : ℕ) → n ≤ at → n ≤ colon_end text at
  unfolding colon_end
  colon-ge at h = pick-ge (eqb (byte_at text at) 58) _ _ _ (integer-ge _ (next at h)) h

  parameter-ge : (at : ℕ) → n ≤ at → n ≤ parameter_end text at
  unfolding parameter_end
  parameter-ge at h = colon-ge _ (float-ge at h)

  more-ge : (k at : ℕ) → n ≤ at → n ≤ more_end k text at
  unfolding more_end
  more-ge zero at h = h
  more-ge (suc k) at h = pick-ge (eqb (byte_at text at) 44) _ _ _ (more-ge k (parameter_end text (at + 1)) (parameter-ge _ (next at h))) h

  parameters-ge : (at : ℕ) → n ≤ at → n ≤ parameters_end text at
  unfolding parameters_end
  parameters-ge at h = pick-ge (eqb (byte_at text at) 123) _ _ _ (byte-ge _ _ (more-ge _ _ (parameter-ge _ (next at h)))) (parameter-ge at h)

  storage-ge : (at : ℕ) → n ≤ at → n ≤ storage_end text at
  unfolding storage_end
  storage-ge at h = pick-ge (eqb (byte_at text at) 60) _ _ _ (byte-ge _ _ (integer-ge _ (byte-ge _ _ (integer-ge _ (next at h))))) h

  quantized-ge : (at : ℕ) → n ≤ at → n ≤ quantized_end text at
  unfolding quantized_end
  quantized-ge at h = byte-ge _ _ (parameters-ge _ (byte-ge _ _ (colon-ge _ (word-ge _ (byte-ge _ _ (storage-ge _ (word-ge at h)))))))

  element-ge : (c q : Bool) (at : ℕ) → n ≤ at → n ≤ element_by c q text at
  element-ge true q at h = complex-ge (at + 8) (omega arith)
  element-ge false true at h = quantized-ge (at + 15) (omega arith)
  element-ge false false at h = word-ge at h

  pub close-ge : (at : ℕ) → n ≤ at → n ≤ type_close text at
  unfolding type_close element_end
  close-ge at h =
      let s = drop (shape_end text at) text in
      element-ge (starts_with (ascii "complex<") s) (starts_with (ascii "!quant.uniform<") s) (shape_end text at) (shape-ge at h)
