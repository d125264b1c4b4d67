-- What a reduction's body computes, read from its text. 01, "Reductions": "The body has two arguments and one op of add, multiply, maximum, minimum, and, or,
-- xor on both, each once, either way round, and returns it"; "Free runs": "a node the body on its left and right value".
-- Assumes nothing.
use Rattle.std.specs.Prelude.{ℕ, List, [], ◌∷◌}
use Rattle.lists.specs.Lists.{pick}
use Rattle.element.specs.declared.ElementType.{ElementType}
use Rattle.scalar.specs.Ops.{binary_of}
use Rattle.optable.specs.declared.Class.{Class}
use Rattle.optable.specs.declared.Class.TheVariants.{Constant, Iota, Elementwise, Pairwise, Quotient, Compare, Convert, Select, Clamp, Moved, Pad, Concatenate, DynamicSlice, Reduce}
use Rattle.optable.specs.Table.{row_at}
use Rattle.program.specs.Parts.{body_at}
use Rattle.places.specs.Places.{result_name, operand_name, input_name, place_of}
use Rattle.scope.specs.Scope.{same_at}
use Rattle.bodies.specs.Bodies.{body_row}

-- a name, by its first byte in the text, and its value
pub record Binding : Type 0 where
  pub name : ℕ
  pub value : ℕ

abbrev pub bind : ℕ → ℕ → Binding
bind n v = record { name = n; value = v }

-- the value of the name at byte a: that of the binding whose name is the same byte by byte; 0 where there is none, which a body of the form does not have
unfoldable pub named_value : List ℕ → List Binding → ℕ → ℕ
named_value text [] a = 0
named_value text (b ∷ bs) a = pick (same_at text a b.name) b.value (named_value text bs a)

-- what an op of a class makes of two elements ("Element by element"); 0 of a class that no op of a body has (optable proofs/ByNamesLaw, `reducer-class`)
abbrev pub on_two : Class → ElementType → ℕ → ℕ → ℕ
on_two (Pairwise op) t x y = binary_of op t x y
on_two Constant t x y = 0
on_two Iota t x y = 0
on_two (Elementwise op) t x y = 0
on_two (Quotient op) t x y = 0
on_two Compare t x y = 0
on_two Convert t x y = 0
on_two Select t x y = 0
on_two Clamp t x y = 0
on_two (Moved m) t x y = 0
on_two Pad t x y = 0
on_two Concatenate t x y = 0
on_two DynamicSlice t x y = 0
on_two Reduce t x y = 0

-- The body whose brace is at or after a byte, of element type t, on its left and right value: its two arguments have these values, its op makes its result of
-- the values that its operands name by the row of its name, and the value that the return names is the answer.
unfoldable pub body_value : List ℕ → ℕ → ElementType → ℕ → ℕ → ℕ
body_value text at t left right =
    let body = body_at text at in
    let arguments = bind (place_of body input_name 0) left ∷ bind (place_of body input_name 1) right ∷ [] in
    let operand : ℕ → ℕ = λ j. named_value text arguments (place_of body operand_name j) in
    let result = on_two (row_at (body_row text at)).class t (operand 0) (operand 1) in
    named_value text (bind (place_of body result_name 0) result ∷ arguments) (place_of body operand_name 2)
