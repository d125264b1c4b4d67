-- Types of tensors: what a constraint asks of two of them, or of all operands.
-- Assumes nothing.
use Rattle.std.specs.Prelude.{List, [], Bool, ◌&&◌, ℕ, ◌+◌, ◌<◌, get_or, eqb}
use Rattle.element.specs.declared.ElementType.{ElementType}
use Rattle.element.specs.declared.ElementType.TheVariants.{I1, I8, I16, I32, I64, U8, U16, U32, U64}
use Rattle.shape.specs.Dims.{Sized}
use Rattle.dimrules.specs.declared.TensorType.{TensorType}
use Rattle.dimrules.specs.declared.Sides.{Sides}
use Rattle.dimrules.specs.declared.DimTest.TheVariants.{Same, SameExcept}
use Rattle.dimrules.specs.declared.TypeTest.{TypeTest}
use Rattle.dimrules.specs.declared.TypeTest.TheVariants.{SameElement, SameType, SameButOne}
use Rattle.dimrules.specs.Count.{everywhere, sum_below}
use Rattle.dimrules.specs.Whole.{below}
use Rattle.dimrules.specs.Dims.{dim, dim_test, no_numbers}

-- a number for each element type
abbrev pub element_code : ElementType → ℕ
element_code I1 = 0
element_code I8 = 1
element_code I16 = 2
element_code I32 = 3
element_code I64 = 4
element_code U8 = 5
element_code U16 = 6
element_code U32 = 7
element_code U64 = 8

-- element_type(x) = element_type(y)
unfoldable pub same_element : TensorType → TensorType → Bool
same_element x y = eqb (element_code x.element) (element_code y.element)

-- two shapes beside each other, and a dimension
abbrev pub shapes_beside : TensorType → TensorType → ℕ → Sides
shapes_beside x y k = record { k = k; a = no_numbers; b = no_numbers; c = no_numbers; n = x.shape; m = y.shape }

-- shape(x) = shape(y)
unfoldable pub same_shape : TensorType → TensorType → Bool
same_shape x y = eqb x.shape.rank y.shape.rank && everywhere x.shape.rank (dim_test Same (shapes_beside x y 0))

-- type(x) = type(y)
unfoldable pub same_type : TensorType → TensorType → Bool
same_type x y = same_element x y && same_shape x y

-- shape(x) = shape(y) except for dimension k, which must exist (01: "A constraint that names a dimension .. that doesn't exist counts as broken")
unfoldable pub same_but_one : TensorType → TensorType → ℕ → Bool
same_but_one x y k = eqb x.shape.rank y.shape.rank && below k x.shape.rank && everywhere x.shape.rank (dim_test SameExcept (shapes_beside x y k))

unfoldable pub type_test : TypeTest → ℕ → TensorType → TensorType → Bool
type_test SameElement k x y = same_element x y
type_test SameType k x y = same_type x y
type_test SameButOne k x y = same_but_one x y k

-- what stands past the end of an array of types
abbrev pub no_type : TensorType
no_type = record { element = I1; shape = record { rank = 0; dims = [] } }

abbrev pub type_at : List TensorType → ℕ → TensorType
type_at types j = get_or types j no_type

-- the test of x and operand from + j, for j below n
abbrev pub operand_test : TypeTest → ℕ → TensorType → List TensorType → ℕ → ℕ → Bool
operand_test t k x types from j = type_test t k x (type_at types (from + j))

-- the test of x and each of n operands from one on
unfoldable pub all_types : TypeTest → ℕ → TensorType → List TensorType → ℕ → ℕ → Bool
all_types t k x types from n = everywhere n (operand_test t k x types from)

-- dim(inputs[0], k) + ..
unfoldable pub sum_of_dims : List TensorType → ℕ → ℕ → ℕ
sum_of_dims types n k = sum_below n (λ j. dim (type_at types j).shape k)

-- every type of an op's operands is within sizes 1 and 2 of 01
abbrev pub AllSized : List TensorType → Type 0
AllSized types = (j : ℕ) → j < 8 → Sized (type_at types j).shape
