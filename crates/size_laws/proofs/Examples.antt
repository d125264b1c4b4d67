-- Sizes 3 to 6 at the limit and one beyond it, by computation: the counts of the sentences, and the judge's tests on the same readings.
-- Assumes nothing.
use mathlib.Core.Path.{◌≡◌, refl}
use mathlib.Core.Bool.{Bool, true, false}
use mathlib.Core.List.{List, [], ◌∷◌}
use Prim.Native.Nat.{ℕ, zero, suc}
use Rattle.lists.specs.Lists.{first_where}
use Rattle.scan.specs.Ascii.{ascii}
use Rattle.scan.specs.Bytes.{is_letter, is_digit, in_run, run_from, run_end, starts_with}
use Rattle.scan.specs.TypeText.{byte_end, word_end, digits_end, size_next, shape_end_from, shape_end, complex_end}
use Rattle.scan.specs.Quantized.{sign_end, integer_end, fraction_end, scientific_end, float_end, colon_end, parameter_end, more_end, parameters_end, storage_end, quantized_end}
use Rattle.scan.specs.TensorText.{element_end, type_close}
use Rattle.text.specs.Names.{word_is}
use Rattle.types.specs.Tensors.{width_named, element_named, dimensions_from, byte_count, all_fit, type_size_passed, typed, foreign, type_after, type_of}
use Rattle.grammar.specs.Symbols.{InputName, InputType, OpName, OperandName, ResultType, BodyOpen, BodyClose, ListNumber, lparen, comma, colon}
use Rattle.syntax.specs.Readings.{Reading, reading}
use Rattle.judge.specs.Roles.{among_roles}
use Rattle.judge.specs.Tally.{item_number, counts, elements_at, items_after, ops_after, tally_depth, after_token}
use Rattle.judge.specs.Sizes.{many_elements, many_ops, many_items, long_list}
use Rattle.size_laws.specs.SizeSentences.{of_role, elements_through, items_before}
use Rattle.size_laws.proofs.CountedLaw.{tally_of}

-- a token of the role from byte start on
abbrev one : ℕ → ℕ → Reading
one role start = reading true role (record { kind = 7; start = start; end = start })

-- n tokens of the role
several : ℕ → ℕ → List Reading
several role zero = []
several role (suc n) = one role 0 ∷ several role n

-- n items, each with a comma behind it, after a parenthesis
listed : ℕ → ℕ → List Reading
listed role zero = one lparen 0 ∷ []
listed role (suc n) = one comma 0 ∷ one role 0 ∷ listed role n

-- n inputs, each with its type and a comma
inputs : ℕ → List Reading
inputs zero = one lparen 0 ∷ []
inputs (suc n) = one comma 0 ∷ one InputType 0 ∷ one colon 0 ∷ one InputName 0 ∷ inputs n

record Limit (count : List Reading → ℕ) (test : List Reading → Bool) (at beyond : List Reading) (n : ℕ) : Type 0 where
  last : count at ≡ n
  kept : test at ≡ false
  next : count beyond ≡ suc n
  passed : test beyond ≡ true

-- the 256th op and the 257th
ops-limit : Limit (of_role OpName) (λ l. many_ops (tally_of [] l) OpName) (several OpName 255) (several OpName 256) 255
unfolding several many_ops after_token ops_after
ops-limit = record { last = refl; kept = refl; next = refl; passed = refl }

-- the eighth operand and the ninth
operands-limit : Limit (items_before OperandName) (λ l. many_items (tally_of [] l) OperandName) (listed OperandName 7) (listed OperandName 8) 7
unfolding listed among_roles many_items after_token item_number items_after
operands-limit = record { last = refl; kept = refl; next = refl; passed = refl }

-- the eighth input and the ninth
inputs-limit : Limit (items_before InputName) (λ l. many_items (tally_of [] l) InputName) (inputs 7) (inputs 8) 7
unfolding inputs among_roles many_items after_token item_number items_after
inputs-limit = record { last = refl; kept = refl; next = refl; passed = refl }

-- the sixth number of a list and the seventh
numbers-limit : Limit (items_before ListNumber) (λ l. long_list (tally_of [] l) ListNumber) (listed ListNumber 5) (listed ListNumber 6) 5
unfolding listed among_roles long_list after_token item_number items_after
numbers-limit = record { last = refl; kept = refl; next = refl; passed = refl }

-- 4,096 elements at byte 0, one at byte 15
types : List ℕ
types = ascii "tensor<4096xi8>tensor<i8>"

-- an input and a result with 8,192 elements together; a result inside a body
full : List Reading
full = one BodyClose 0 ∷ one ResultType 0 ∷ one BodyOpen 0 ∷ one ResultType 0 ∷ one InputType 0 ∷ []

elements-limit : (elements_through types full ≡ 8192) × (many_elements types (tally_of types full) OpName (one OpName 0).token ≡ false)
unfolding types full first_where is_letter is_digit in_run run_from run_end starts_with byte_end word_end digits_end size_next shape_end_from shape_end complex_end sign_end integer_end fraction_end scientific_end float_end colon_end parameter_end more_end parameters_end storage_end quantized_end element_end type_close word_is width_named element_named dimensions_from byte_count all_fit type_size_passed typed foreign type_after type_of many_elements after_token elements_at counts tally_depth
elements-limit = (refl, refl)

-- one element more
elements-beyond : (elements_through types (one ResultType 15 ∷ full) ≡ 8193) × (many_elements types (tally_of types full) ResultType (one ResultType 15).token ≡ true)
unfolding types full first_where is_letter is_digit in_run run_from run_end starts_with byte_end word_end digits_end size_next shape_end_from shape_end complex_end sign_end integer_end fraction_end scientific_end float_end colon_end parameter_end more_end parameters_end storage_end quantized_end element_end type_close word_is width_named element_named dimensions_from byte_count all_fit type_size_passed typed foreign type_after type_of many_elements after_token elements_at counts tally_depth
elements-beyond = (refl, refl)
