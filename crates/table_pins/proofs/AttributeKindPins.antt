-- The kinds of attributes hold by names, by computing the definitions.
-- Assumes nothing.
use mathlib.Core.Path.{◌≡◌, refl}
use Rattle.lists.specs.Lists.{first_where}
use Rattle.scan.specs.Bytes.{is_letter, is_digit, is_space, is_sigil, is_sign, in_run, run_from, run_end, starts_with, in_comment, skip_from, skip_end}
use Rattle.scan.specs.TypeText.{byte_end, word_end, digits_end, size_next, shape_end_from, shape_end, complex_end}
use Rattle.scan.specs.Quantized.{sign_end, integer_end, fraction_end, scientific_end, float_end, colon_end, parameter_end, more_end, parameters_end, storage_end, quantized_end}
use Rattle.scan.specs.TensorText.{element_end, type_close}
use Rattle.text.specs.Lex.{mark_token, name_end, name_token, sign_token, quote_token, plain_word, tensor_token, word_token, lexeme, token_at}
use Rattle.text.specs.Names.{word_is}
use Rattle.element.specs.Types.{slot_for}
use Rattle.types.specs.Numbers.{digits_from, magnitude_of, decimal_number, in_type, number_in}
use Rattle.types.specs.Tensors.{width_named, element_named, dimensions_from, byte_count, all_fit, type_size_passed, typed, foreign, type_after, type_of}
use Rattle.optable.specs.Names.{same, name_place}
use Rattle.optable.specs.Table.{attributes, attribute_names, attribute_kind, choice_kinds, choice_kind_names, choice_form, choices, choice_names, choice_kind, said_at}
use Rattle.optable.specs.Find.{find_attribute, find_choice_kind, find_choice}
use Rattle.attribute.specs.Attribute.{token_after, word_form, choice_at, form_at, ends_literal, close_from, dense_tokens}
use Rattle.dense.specs.Dense.{boolean_of, literal_of, read_then, mark_at, comma_before, one_at, items_at, dense_at as dense_list_at, same_literal, dense_value}
use Rattle.places.specs.Places.{type_in}
use Rattle.attributes.specs.Attributes.{choice_fits, dense_fits, kind_fits}
use Rattle.table_pins.specs.AttributeKinds.{AttributeKindPinsHold}

pub attribute-kind-pins : AttributeKindPinsHold
unfolding slot_for first_where is_letter is_digit is_space is_sigil is_sign in_run run_from run_end starts_with in_comment skip_from skip_end byte_end word_end digits_end size_next shape_end_from shape_end complex_end sign_end integer_end fraction_end scientific_end float_end colon_end parameter_end more_end parameters_end storage_end quantized_end element_end type_close mark_token name_end name_token sign_token quote_token plain_word tensor_token word_token lexeme token_at word_is digits_from magnitude_of decimal_number in_type number_in width_named element_named dimensions_from byte_count all_fit type_size_passed typed foreign type_after type_of type_in same name_place attributes attribute_names attribute_kind choice_kinds choice_kind_names choice_form choices choice_names choice_kind said_at find_attribute find_choice_kind find_choice token_after word_form choice_at form_at ends_literal close_from dense_tokens boolean_of literal_of read_then mark_at comma_before one_at items_at dense_list_at same_literal dense_value choice_fits dense_fits kind_fits
attribute-kind-pins = record { attributes = refl; choices = refl; words = refl }
