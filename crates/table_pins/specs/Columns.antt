-- The op table by names: every column of what an op takes and needs, as 01 and the Inputs and Outputs tables of 000 have it. A row is the one that is
-- found for the op's quoted name.
-- Assumes nothing.
use Rattle.std.specs.Prelude.{◌≡◌, Bool, ◌&&◌, List, [], ◌∷◌, map, ℕ, ltb, get_or, take, drop}
use Prim.Native.String.{String}
use Rattle.lists.specs.Lists.{pick}
use Rattle.element.specs.declared.ElementType.{ElementType}
use Rattle.element.specs.declared.ElementType.TheVariants.{I1, I8, I16, I32, I64, U8, U16, U32, U64}
use Rattle.scan.specs.Ascii.{ascii}
use Rattle.optable.specs.declared.Takes.TheVariants.{Any, Integer, Signed, Boolean}
use Rattle.optable.specs.declared.Rule.{Rule}
use Rattle.optable.specs.declared.Rule.TheVariants as rule
use Rattle.optable.specs.declared.Row.{Row}
use Rattle.optable.specs.Table.{attribute_names, no_attribute, op_names, quoted, op_named, row_at, may_reduce}
use Rattle.optable.specs.Takes.{takes, operand_taken, result_taken}

abbrev row_by_name : String → Row
row_by_name n = row_at (op_named n)

-- ---- operand counts, attributes and constraints

-- an op by its name: "its name, operand count, attributes", the least and the most operands, the attributes that must stand and those that may be
-- absent, in 000's order; and whose list of constraints it has
pub record Signature : Type 0 where
  pub name : String
  pub least : ℕ
  pub most : ℕ
  pub required : List (List ℕ)
  pub optional : List (List ℕ)
  pub rule : Rule

abbrev signature : String → ℕ → ℕ → List String → List String → Rule → Signature
signature n least most required optional r =
    record { name = n; least = least; most = most; required = map (λ s. ascii s) required; optional = map (λ s. ascii s) optional; rule = r }

-- k operands, no attributes, and type(operands) = type(result)
abbrev alike_in : String → ℕ → Signature
alike_in n k = signature n k k [] [] rule.SameTypes

-- the numbers of a list that stand for an attribute
abbrev standing : List ℕ → List ℕ
standing [] = []
standing (k ∷ ks) = let rest = standing ks in pick (ltb k no_attribute) (k ∷ rest) rest

abbrev attribute_name_at : ℕ → List ℕ
attribute_name_at k = get_or attribute_names k []

-- what the row of a name says
abbrev signature_found : String → Signature
signature_found n =
    let r = row_by_name n in
    let columns = r.a ∷ r.b ∷ r.c ∷ [] in
    record {
      name = n;
      least = r.least;
      most = r.most;
      required = map attribute_name_at (take r.needed columns);
      optional = map attribute_name_at (standing (drop r.needed columns));
      rule = r.rule;
    }

abbrev pub signatures : List Signature
signatures =
    signature "abs" 1 1 [] [] rule.Abs
    ∷ alike_in "add" 2
    ∷ alike_in "and" 2
    ∷ signature "broadcast_in_dim" 1 1 ("broadcast_dimensions" ∷ []) [] rule.Broadcast
    ∷ signature "clamp" 3 3 [] [] rule.Clamp
    -- "`compare_type` of compare may be absent .. No other attribute may be absent"
    ∷ signature "compare" 2 2 ("comparison_direction" ∷ []) ("compare_type" ∷ []) rule.Compare
    -- "concatenate: any, none breaks C3"; size 5: "At most 8 operands of an op"
    ∷ signature "concatenate" 0 8 ("dimension" ∷ []) [] rule.Concatenate
    ∷ signature "constant" 0 0 ("value" ∷ []) [] rule.Constant
    ∷ signature "convert" 1 1 [] [] rule.Convert
    ∷ alike_in "count_leading_zeros" 1
    ∷ alike_in "divide" 2
    -- "dynamic_slice: from 1"
    ∷ signature "dynamic_slice" 1 8 ("slice_sizes" ∷ []) [] rule.DynamicSlice
    ∷ signature "iota" 0 0 ("iota_dimension" ∷ []) [] rule.Iota
    ∷ alike_in "maximum" 2
    ∷ alike_in "minimum" 2
    ∷ alike_in "multiply" 2
    ∷ alike_in "negate" 1
    ∷ alike_in "not" 1
    ∷ alike_in "or" 2
    -- 000, (I3) to (I5)
    ∷ signature "pad" 2 2 ("edge_padding_low" ∷ "edge_padding_high" ∷ "interior_padding" ∷ []) [] rule.Pad
    ∷ alike_in "popcnt" 1
    -- "One input, a rank 0 start value"
    ∷ signature "reduce" 2 2 ("dimensions" ∷ []) [] rule.Reduce
    ∷ alike_in "remainder" 2
    ∷ signature "reshape" 1 1 [] [] rule.Reshape
    ∷ signature "reverse" 1 1 ("dimensions" ∷ []) [] rule.Reverse
    ∷ signature "select" 3 3 [] [] rule.Select
    ∷ alike_in "shift_left" 2
    ∷ alike_in "shift_right_arithmetic" 2
    ∷ alike_in "shift_right_logical" 2
    ∷ alike_in "sign" 1
    -- 000, (I2) to (I4)
    ∷ signature "slice" 1 1 ("start_indices" ∷ "limit_indices" ∷ "strides" ∷ []) [] rule.Slice
    ∷ alike_in "subtract" 2
    ∷ signature "transpose" 1 1 ("permutation" ∷ []) [] rule.Transpose
    ∷ alike_in "xor" 2
    ∷ []

-- ---- what an op takes

-- a test of rows, and the names of the ops whose rows pass it, in the table's order
pub record Taking : Type 0 where
  pub test : Row → Bool
  pub names : List String

abbrev taking : (Row → Bool) → List String → Taking
taking test names = record { test = test; names = names }

-- the op has an operand j, which may be a tensor of this element type and rank
abbrev operand_may : ℕ → ElementType → ℕ → Row → Bool
operand_may j e rank r = ltb j r.most && operand_taken r j e rank

abbrev result_may : ElementType → Row → Bool
result_may e r = result_taken r e

abbrev passing : (Row → Bool) → List Signature → List String
passing test [] = []
passing test (s ∷ ss) = let rest = passing test ss in pick (test (row_by_name s.name)) (s.name ∷ rest) rest

abbrev pub takings : List Taking
takings =
    -- refusal 7, "an element type .. that the op's Inputs .. table in 000 doesn't take": the first operand may be i1
    taking (operand_may 0 I1 2) ("add" ∷ "and" ∷ "broadcast_in_dim" ∷ "clamp" ∷ "compare" ∷ "concatenate" ∷ "convert" ∷ "dynamic_slice" ∷ "maximum" ∷ "minimum" ∷ "multiply" ∷ "not" ∷ "or" ∷ "pad" ∷ "reduce" ∷ "reshape" ∷ "reverse" ∷ "select" ∷ "slice" ∷ "transpose" ∷ "xor" ∷ [])
    -- .. ui8: not where 000 has "signed integer", nor for "tensor of type `i1`"
    ∷ taking (operand_may 0 U8 2) ("add" ∷ "and" ∷ "broadcast_in_dim" ∷ "clamp" ∷ "compare" ∷ "concatenate" ∷ "convert" ∷ "count_leading_zeros" ∷ "divide" ∷ "dynamic_slice" ∷ "maximum" ∷ "minimum" ∷ "multiply" ∷ "negate" ∷ "not" ∷ "or" ∷ "pad" ∷ "popcnt" ∷ "reduce" ∷ "remainder" ∷ "reshape" ∷ "reverse" ∷ "shift_left" ∷ "shift_right_arithmetic" ∷ "shift_right_logical" ∷ "slice" ∷ "subtract" ∷ "transpose" ∷ "xor" ∷ [])
    -- .. i8
    ∷ taking (operand_may 0 I8 2) ("abs" ∷ "add" ∷ "and" ∷ "broadcast_in_dim" ∷ "clamp" ∷ "compare" ∷ "concatenate" ∷ "convert" ∷ "count_leading_zeros" ∷ "divide" ∷ "dynamic_slice" ∷ "maximum" ∷ "minimum" ∷ "multiply" ∷ "negate" ∷ "not" ∷ "or" ∷ "pad" ∷ "popcnt" ∷ "reduce" ∷ "remainder" ∷ "reshape" ∷ "reverse" ∷ "shift_left" ∷ "shift_right_arithmetic" ∷ "shift_right_logical" ∷ "sign" ∷ "slice" ∷ "subtract" ∷ "transpose" ∷ "xor" ∷ [])
    -- the second operand may be an i1 of rank 0, and of another rank: not where 000 has "0-dimensional"
    ∷ taking (operand_may 1 I1 0) ("add" ∷ "and" ∷ "clamp" ∷ "compare" ∷ "concatenate" ∷ "maximum" ∷ "minimum" ∷ "multiply" ∷ "or" ∷ "pad" ∷ "reduce" ∷ "select" ∷ "xor" ∷ [])
    ∷ taking (operand_may 1 I1 1) ("add" ∷ "and" ∷ "clamp" ∷ "compare" ∷ "concatenate" ∷ "maximum" ∷ "minimum" ∷ "multiply" ∷ "or" ∷ "select" ∷ "xor" ∷ [])
    -- .. a ui8
    ∷ taking (operand_may 1 U8 0) ("add" ∷ "and" ∷ "clamp" ∷ "compare" ∷ "concatenate" ∷ "divide" ∷ "dynamic_slice" ∷ "maximum" ∷ "minimum" ∷ "multiply" ∷ "or" ∷ "pad" ∷ "reduce" ∷ "remainder" ∷ "select" ∷ "shift_left" ∷ "shift_right_arithmetic" ∷ "shift_right_logical" ∷ "subtract" ∷ "xor" ∷ [])
    ∷ taking (operand_may 1 U8 1) ("add" ∷ "and" ∷ "clamp" ∷ "compare" ∷ "concatenate" ∷ "divide" ∷ "maximum" ∷ "minimum" ∷ "multiply" ∷ "or" ∷ "remainder" ∷ "select" ∷ "shift_left" ∷ "shift_right_arithmetic" ∷ "shift_right_logical" ∷ "subtract" ∷ "xor" ∷ [])
    -- .. an i8
    ∷ taking (operand_may 1 I8 0) ("add" ∷ "and" ∷ "clamp" ∷ "compare" ∷ "concatenate" ∷ "divide" ∷ "dynamic_slice" ∷ "maximum" ∷ "minimum" ∷ "multiply" ∷ "or" ∷ "pad" ∷ "reduce" ∷ "remainder" ∷ "select" ∷ "shift_left" ∷ "shift_right_arithmetic" ∷ "shift_right_logical" ∷ "subtract" ∷ "xor" ∷ [])
    -- the third operand may be an i1, and one of rank 1, a ui8
    ∷ taking (operand_may 2 I1 0) ("clamp" ∷ "concatenate" ∷ "select" ∷ [])
    ∷ taking (operand_may 2 I1 1) ("clamp" ∷ "concatenate" ∷ "select" ∷ [])
    ∷ taking (operand_may 2 U8 0) ("clamp" ∷ "concatenate" ∷ "dynamic_slice" ∷ "select" ∷ [])
    -- the "Outputs table": the result may be i1
    ∷ taking (result_may I1) ("add" ∷ "and" ∷ "broadcast_in_dim" ∷ "clamp" ∷ "compare" ∷ "concatenate" ∷ "constant" ∷ "convert" ∷ "dynamic_slice" ∷ "maximum" ∷ "minimum" ∷ "multiply" ∷ "not" ∷ "or" ∷ "pad" ∷ "reduce" ∷ "reshape" ∷ "reverse" ∷ "select" ∷ "slice" ∷ "transpose" ∷ "xor" ∷ [])
    -- .. ui8
    ∷ taking (result_may U8) ("add" ∷ "and" ∷ "broadcast_in_dim" ∷ "clamp" ∷ "concatenate" ∷ "constant" ∷ "convert" ∷ "count_leading_zeros" ∷ "divide" ∷ "dynamic_slice" ∷ "iota" ∷ "maximum" ∷ "minimum" ∷ "multiply" ∷ "negate" ∷ "not" ∷ "or" ∷ "pad" ∷ "popcnt" ∷ "reduce" ∷ "remainder" ∷ "reshape" ∷ "reverse" ∷ "select" ∷ "shift_left" ∷ "shift_right_arithmetic" ∷ "shift_right_logical" ∷ "slice" ∷ "subtract" ∷ "transpose" ∷ "xor" ∷ [])
    -- .. i8
    ∷ taking (result_may I8) ("abs" ∷ "add" ∷ "and" ∷ "broadcast_in_dim" ∷ "clamp" ∷ "concatenate" ∷ "constant" ∷ "convert" ∷ "count_leading_zeros" ∷ "divide" ∷ "dynamic_slice" ∷ "iota" ∷ "maximum" ∷ "minimum" ∷ "multiply" ∷ "negate" ∷ "not" ∷ "or" ∷ "pad" ∷ "popcnt" ∷ "reduce" ∷ "remainder" ∷ "reshape" ∷ "reverse" ∷ "select" ∷ "shift_left" ∷ "shift_right_arithmetic" ∷ "shift_right_logical" ∷ "sign" ∷ "slice" ∷ "subtract" ∷ "transpose" ∷ "xor" ∷ [])
    -- 000 has a body for reduce alone
    ∷ taking (λ r. r.body) ("reduce" ∷ [])
    -- "one op of add, multiply, maximum, minimum, and, or, xor"
    ∷ taking (λ r. may_reduce r.reducer) ("add" ∷ "and" ∷ "maximum" ∷ "minimum" ∷ "multiply" ∷ "or" ∷ "xor" ∷ [])
    ∷ []

-- "`i1`, signed 8, 16, 32, 64 bits .. and unsigned `ui8` to `ui64`"
abbrev nine_types : List ElementType
nine_types = I1 ∷ I8 ∷ I16 ∷ I32 ∷ I64 ∷ U8 ∷ U16 ∷ U32 ∷ U64 ∷ []

-- the element types that a wording of 000 takes
abbrev wordings : List (List ℕ)
wordings = map (λ k. map (λ e. pick (takes k e) 1 0) nine_types) (Any ∷ Integer ∷ Signed ∷ Boolean ∷ [])

-- the table has these names and no other; the row of each has its signature; the names that pass each test; "tensor", "tensor of integer type",
-- "tensor of signed integer .. type", "tensor of boolean type"
pub record ColumnPinsHold : Type 0 where
  pub all : map (λ (s : Signature). quoted s.name) signatures ≡ op_names
  pub each : map (λ (s : Signature). signature_found s.name) signatures ≡ signatures
  pub taken : map (λ (t : Taking). passing t.test signatures) takings ≡ map (λ (t : Taking). t.names) takings
  pub worded :
      wordings
      ≡ (1 ∷ 1 ∷ 1 ∷ 1 ∷ 1 ∷ 1 ∷ 1 ∷ 1 ∷ 1 ∷ [])
      ∷ (0 ∷ 1 ∷ 1 ∷ 1 ∷ 1 ∷ 1 ∷ 1 ∷ 1 ∷ 1 ∷ [])
      ∷ (0 ∷ 1 ∷ 1 ∷ 1 ∷ 1 ∷ 0 ∷ 0 ∷ 0 ∷ 0 ∷ [])
      ∷ (1 ∷ 0 ∷ 0 ∷ 0 ∷ 0 ∷ 0 ∷ 0 ∷ 0 ∷ 0 ∷ [])
      ∷ []
