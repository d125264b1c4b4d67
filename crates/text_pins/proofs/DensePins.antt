-- The dense values hold, by computing the definitions.
-- Assumes nothing.
use mathlib.Core.Path.{◌≡◌, refl}
use Rattle.scan.specs.Bytes.{is_letter, is_digit, is_space, is_sigil, is_sign, in_run, run_from, run_end, starts_with, in_comment, skip_from, skip_end}
use Rattle.scan.specs.TypeText.{byte_end, word_end, digits_end, size_next, shape_end_from, shape_end, complex_end}
use Rattle.scan.specs.Quantized.{sign_end, integer_end, fraction_end, scientific_end, float_end, colon_end, parameter_end, more_end, parameters_end, storage_end, quantized_end}
use Rattle.scan.specs.TensorText.{element_end, type_close}
use Rattle.text.specs.Lex.{mark_token, name_end, name_token, sign_token, quote_token, plain_word, tensor_token, word_token, lexeme, token_at}
use Rattle.text.specs.Names.{word_is}
use Rattle.element.specs.Types.{slot_for}
use Rattle.types.specs.Numbers.{digits_from, magnitude_of, decimal_number, in_type, number_in}
use Rattle.dense.specs.Dense.{boolean_of, literal_of, read_then, mark_at, comma_before, one_at, items_at, dense_at, same_literal, dense_value}
use Rattle.text_pins.specs.DenseValues.{DensePinsHold}

pub dense-pins : DensePinsHold
unfolding slot_for is_letter is_digit is_space is_sigil is_sign in_run run_from run_end starts_with in_comment skip_from skip_end byte_end word_end digits_end size_next shape_end_from shape_end complex_end sign_end integer_end fraction_end scientific_end float_end colon_end parameter_end more_end parameters_end storage_end quantized_end element_end type_close mark_token name_end name_token sign_token quote_token plain_word tensor_token word_token lexeme token_at word_is digits_from magnitude_of decimal_number in_type number_in boolean_of literal_of read_then mark_at comma_before one_at items_at dense_at same_literal dense_value
dense-pins = refl
