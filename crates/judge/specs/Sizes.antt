-- 01, "Sizes": which of the eight sizes a token passes. "At the limit is accepted, one beyond is refused at the token that passes it."
-- Assumes nothing.
use Rattle.std.specs.Prelude.{ℕ, suc, ◌+◌, ◌-◌, Bool, not, ◌&&◌, List, [], ◌∷◌, eqb, ltb, Option, Some, None}
use Rattle.lists.specs.Lists.{pick}
use Rattle.text.specs.declared.Token.{Token}
use Rattle.types.specs.Tensors.{type_of}
use Rattle.types.specs.Numbers.{decimal_number, pattern_in}
use Rattle.grammar.specs.Symbols.{OpName, ListNumber}
use Rattle.judge.specs.declared.tally.Tally.{Tally}
use Rattle.judge.specs.Roles.{among_roles, type_roles, number_roles, listed_roles}
use Rattle.judge.specs.Tally.{item_number, elements_at}

-- 1: "Rank at most 6." 2: "Each dimension, and the product of a shape's dimensions with every 0 counted as 1, at most 4,096."
-- The first of the two that a type passes, else 0 (types, size_passed): of every tensor type in the text.
unfoldable pub type_passed : List ℕ → ℕ → Token → ℕ
type_passed text role t = pick (among_roles type_roles role) (type_of text t.start).passed 0

-- 3: "Inputs and op results together at most 8,192 elements, body values not counted."
unfoldable pub many_elements : List ℕ → Tally → ℕ → Token → Bool
many_elements text s role t = ltb 8192 (s.elements + elements_at text s role t)

-- 4: "One function has at most 256 ops, its return and body ops not counted"; "size 4: the op's quoted name"
unfoldable pub many_ops : Tally → ℕ → Bool
many_ops s role = eqb role OpName && ltb 256 (s.ops + 1)

-- 5: "At most 8 operands of an op, inputs, or results."
unfoldable pub many_items : Tally → ℕ → Bool
many_items s role = among_roles listed_roles role && ltb 8 (item_number s)

-- 6: "An attribute list has at most 6 numbers."
unfoldable pub long_list : Tally → ℕ → Bool
long_list s role = eqb role ListNumber && ltb 6 (item_number s)

-- 7: "An attribute number outside `dense` lies in the signed 64-bit range."
unfoldable pub large_number : List ℕ → ℕ → Token → Bool
large_number text role t = among_roles number_roles role && not (pattern_in (decimal_number text t.start)).fits

-- 8: "A sigil and its name have at most 32 characters."
unfoldable pub long_name : Token → Bool
long_name t = eqb t.kind 3 && ltb 32 (t.end - t.start)

-- sizes 1 to 8, in order: whether the token passes each
unfoldable pub passes : List ℕ → Tally → ℕ → Token → List Bool
passes text s role t =
    eqb (type_passed text role t) 1
    ∷ eqb (type_passed text role t) 2
    ∷ many_elements text s role t
    ∷ many_ops s role
    ∷ many_items s role
    ∷ long_list s role
    ∷ large_number text role t
    ∷ long_name t
    ∷ []

-- the number of the first that holds, where the first of them is number n; 0 where none does
unfoldable pub first_passed : ℕ → List Bool → ℕ
first_passed n [] = 0
first_passed n (b ∷ bs) = pick b n (first_passed (suc n) bs)

-- "Two at one token: the lower number."
unfoldable pub size_passed : List ℕ → Tally → ℕ → Token → ℕ
size_passed text s role t = first_passed 1 (passes text s role t)

-- a size's number as the code gives it: none for 0
abbrev pub size_found : ℕ → Option ℕ
size_found n = pick (eqb n 0) None (Some n)
