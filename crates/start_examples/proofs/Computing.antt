-- What is computed of a text, and what that says of it.
-- Assumes nothing.
use mathlib.Core.Path.{◌≡◌, ap}
use mathlib.Core.Bool.{Bool, true, false}
use mathlib.Core.List.{List, [], ◌∷◌, map}
use Prim.Native.Nat.{ℕ}
use lib.ListN.{get_or}
use Rattle.element.specs.declared.ElementType.{ElementType}
use Rattle.scalar.specs.declared.Body.TheVariants.{Add}
use Rattle.ops.specs.declared.Kind.{Kind}
use Rattle.ops.specs.declared.Kind.TheVariants.{Constant, Reduce}
use Rattle.ops.specs.Ops.{Node, element_of}
use Rattle.lists.proofs.AllLaw.{all_map}
use Rattle.start_examples.specs.Starts.{reduction, from_constant, from_input, filled_text, reducing, StartRow, identities, Column, text_of, Witness, Witnessed, Counterexample}
use Rattle.start_examples.proofs.IdentityTest.{starts_at_identity, starts-true, starts-false}
use Rattle.lists.specs.Lists.{All, first_where, concat}
use Rattle.scan.specs.Bytes.{in_comment, in_run, is_digit, is_letter, is_sigil, is_sign, is_space, run_end, run_from, skip_end, skip_from, starts_with}
use Rattle.scan.specs.Quantized.{colon_end, float_end, fraction_end, integer_end, more_end, parameter_end, parameters_end, quantized_end, scientific_end, sign_end, storage_end}
use Rattle.scan.specs.TensorText.{element_end, type_close}
use Rattle.scan.specs.TypeText.{byte_end, complex_end, digits_end, shape_end, shape_end_from, size_next, word_end}
use Rattle.text.specs.Lex.{lexeme, mark_token, name_end, name_token, plain_word, quote_token, sign_token, tensor_token, token_at, word_token}
use Rattle.text.specs.Names.{name_bytes, same_bytes, same_name, word_is}
use Rattle.element.specs.Types.{slot_for}
use Rattle.types.specs.Numbers.{digits_from, in_type, magnitude_of, number_in, decimal_number, is_attribute_number, pattern_in}
use Rattle.types.specs.Tensors.{all_fit, byte_count as count_of_byte, dimensions_from, element_named, foreign, type_size_passed, type_after, type_of, typed, width_named}
use Rattle.grammar.specs.Grammar.{grammar}
use Rattle.grammar.specs.Machine.{cell, step}
use Rattle.grammar.specs.Symbols.{leaf_kinds, matches}
use Rattle.syntax.specs.Kinds.{kind_of as kind_of_token, mark_kind, name_kind, quoted_kind, token_kind, word_kind}
use Rattle.syntax.specs.Readings.{readings, readings_from, readings_of}
use Rattle.optable.specs.Find.{find_attribute, find_choice, find_choice_kind, find_op, name_place, same, slot_in}
use Rattle.optable.specs.Table.{direction_at, attribute_kind, attribute_names, attributes, choice_form, choice_kind, choice_kind_names, choice_kinds, choice_names, choices, op_names, ops, row_at}
use Rattle.optable.specs.Takes.{operand_taken, result_taken, takes}
use Rattle.judge.specs.Judge.{earliest, refusal_at, text_refusal, unknown}
use Rattle.judge.specs.Roles.{among_roles}
use Rattle.judge.specs.Sizes.{first_passed, large_number, long_list, long_name, many_elements, many_items, many_ops, passes, size_passed, type_passed}
use Rattle.judge.specs.Tally.{after_token, counts, tally_depth as depth_after_role, elements_at, item_number, items_after, ops_after}
use Rattle.program.specs.Parts.{added_to, body_at, depth_after as depth_after_part, no_parts, noted, op_at, part_of, parts_at, parts_from, parts_of}
use Rattle.program.specs.Program.{begins_op, begun, in_header, names_op, naming_after, no_program, outlined, program_from, program_of}
use Rattle.attribute.specs.Attribute.{choice_at, close_from, dense_tokens as dense_attribute, ends_literal, form_at, goes_on, none_read, number_at, numbers_at, numbers_from, pattern_at, token_after, with_number, word_form}
use Rattle.dense.specs.Dense.{read_then, comma_before, boolean_of, dense_at, dense_value, items_at, literal_of, mark_at, one_at, same_literal as same_elements}
use Rattle.dimrules.specs.Count.{everywhere, first_failing}
use Rattle.dimrules.specs.Dims.{dim_test}
use Rattle.dimrules.specs.Types.{same_element, same_shape, same_type}
use Rattle.checks.specs.Formula.{compared, is_permutation, is_unique}
use Rattle.op_checks.specs.OpChecks.{abs_checks, broadcast_checks, clamp_checks, compare_checks, compare_type_is, concatenate_checks, constant_checks, convert_checks, dynamic_slice_checks, iota_checks, pad_checks, reduce_checks, reshape_checks, reverse_checks, same_types_checks, select_checks, slice_checks, transpose_checks}
use Rattle.opcheck.specs.Judged.{broken_by, checks_by, taken_at, taken_by_tables}
use Rattle.scope.specs.Scope.{begins, define, defines, ends, fault_of, forget, inputs_from, look, name_at, names_from, names_of, placed, same_at as same_name_at, settle, turned, visible}
use Rattle.places.specs.Places.{count_of, place_of, type_in, type_of_part}
use Rattle.values.specs.Values.{input_value, inputs_of, ops_of, result_value, value_at, values_in}
use Rattle.known.specs.Known.{inputs_fault, known_names, names_fault}
use Rattle.attributes.specs.Attributes.{attribute_fits, attribute_of, attributes_fit, attributes_of, choice_fits, choice_of, dense_fits, dense_type, kind_fits, name_of, needed_at, numbers_by, attribute_numbers, stands, stands_at}
use Rattle.bodies.specs.Bodies.{argument_type, as_first, body_counted, body_fits, body_row, formed, has_count, inner_op, is_reducer, on_both, one_type, op_counted, operand_is, returns_it, row_named}
use Rattle.operands.specs.Operands.{arity_of, operand_typed, operands_typed, value_named}
use Rattle.outputs.specs.Outputs.{return_judged, returned_at, returns_header, typed_return}
use Rattle.typing.specs.Typing.{bodies_fit, body_type, in_table, op_judged, operation_of, results_are, row_named_in, typed_op, types_of as written_types}
use Rattle.opwise.specs.Opwise.{by_name, by_op, op_refusal, ops_from, typing_of}
use Rattle.verify.specs.Verify.{program_refusal, verdict}
use Rattle.nodes.specs.Nodes.{dense_elements, input_types, op_kind, node_at, nodes_in, nodes_of, operands_of, reducer_at, input_types_of}

-- the verdict on a text, the classes and element types of its ops, the test
pub record Computed : Type 0 where
  pub number : ℕ
  pub kinds : List Kind
  pub elements : List ElementType
  pub starts : Bool

abbrev pub computed_of : List ℕ → Computed
computed_of text =
    let p = nodes_of text in
    record {
      number = (verdict text).number;
      kinds = map (λ (o : Node). o.kind) p.ops;
      elements = map element_of p.ops;
      starts = starts_at_identity p;
    }

-- What verdict and program of a text unfold: to unfold this is to unfold all that its line names.
unfoldable pub reading : Unit {0}
unfolding first_where in_comment in_run is_digit is_letter is_sigil is_sign is_space run_end run_from skip_end skip_from starts_with colon_end float_end fraction_end integer_end more_end parameter_end parameters_end quantized_end scientific_end sign_end storage_end element_end type_close byte_end complex_end digits_end shape_end shape_end_from size_next word_end lexeme mark_token name_end name_token plain_word quote_token sign_token tensor_token token_at word_token name_bytes same_bytes same_name word_is digits_from in_type magnitude_of number_in decimal_number all_fit count_of_byte dimensions_from element_named foreign type_size_passed type_after type_of typed width_named grammar cell step leaf_kinds matches kind_of_token mark_kind name_kind quoted_kind token_kind word_kind readings readings_from readings_of find_attribute find_choice find_choice_kind find_op name_place same slot_in attribute_kind attribute_names attributes choice_kind choice_kind_names choice_kinds choice_names choices op_names ops row_at operand_taken result_taken takes earliest refusal_at text_refusal unknown among_roles first_passed large_number long_list long_name many_elements many_items many_ops passes size_passed type_passed after_token counts depth_after_role elements_at item_number items_after ops_after added_to body_at depth_after_part no_parts noted op_at part_of parts_at parts_from parts_of begins_op begun in_header names_op naming_after no_program outlined program_from program_of choice_at choice_form close_from dense_attribute ends_literal form_at goes_on none_read number_at numbers_at numbers_from pattern_at token_after with_number word_form read_then comma_before boolean_of dense_at dense_value items_at literal_of mark_at one_at same_elements everywhere first_failing dim_test same_element same_shape same_type abs_checks broadcast_checks clamp_checks compare_checks compare_type_is concatenate_checks constant_checks convert_checks dynamic_slice_checks iota_checks pad_checks reduce_checks reshape_checks reverse_checks same_types_checks select_checks slice_checks transpose_checks broken_by checks_by compared is_permutation is_unique taken_at taken_by_tables begins define defines ends forget inputs_from look name_at names_from names_of placed same_name_at settle turned visible count_of place_of type_in type_of_part input_value inputs_of ops_of result_value value_at values_in fault_of inputs_fault known_names names_fault attribute_fits attribute_of attributes_fit attributes_of choice_fits choice_of dense_fits dense_type kind_fits name_of needed_at numbers_by attribute_numbers stands stands_at argument_type as_first body_counted body_fits body_row formed has_count inner_op is_reducer on_both one_type op_counted operand_is returns_it row_named arity_of bodies_fit body_type in_table op_judged operand_typed operands_typed operation_of results_are return_judged returned_at returns_header row_named_in typed_op typed_return written_types value_named by_name by_op op_refusal ops_from program_refusal typing_of verdict direction_at dense_elements input_types op_kind node_at nodes_in nodes_of operands_of reducer_at input_types_of concat identities reducing filled_text from_constant from_input reduction is_attribute_number pattern_in slot_for
reading = tt

-- a row by its place; past the last one none
abbrev no_row : StartRow
no_row = record { body = Add; op = ""; signed = ""; unsigned = ""; boolean = "" }

abbrev pub table_row : ℕ → StartRow
table_row k = get_or identities k no_row

-- computing gave this of an accepted text
abbrev pub Gave : List ℕ → List Kind → List ElementType → Bool → Type 0
Gave text kinds elements starts = computed_of text ≡ record { number = 0; kinds = kinds; elements = elements; starts = starts }

-- what a row's text owes in a column
abbrev pub Held : Column → StartRow → Type 0
Held c r = Gave (text_of c r) (Constant ∷ Reduce r.body ∷ []) (c.type ∷ c.type ∷ []) true

witness : (c : Column) (r : StartRow) → Held c r → Witness c r
witness c r e =
    record {
      accepted = ap (λ x. x.number) e;
      reduces = ap (λ x. x.kinds) e;
      typed = ap (λ x. x.elements) e;
      starts = starts-true (nodes_of (text_of c r)) (ap (λ x. x.starts) e);
    }

pub witnessed : (c : Column) → All (Held c) identities → Witnessed c
witnessed c = all_map (witness c) identities

pub counterexample : (text : List ℕ) (kinds : List Kind) (elements : List ElementType) → Gave text kinds elements false → Counterexample text
counterexample text kinds elements e =
    record { accepted = ap (λ x. x.number) e; apart = starts-false (nodes_of text) (ap (λ x. x.starts) e) }
