-- 01, "Sizes": what each of the eight says at a token, by the tokens before it. No state. Where a definition takes `earlier`, these are the readings before a
-- token, the latest first.
-- Assumes nothing.
use Rattle.std.specs.Prelude.{ℕ, zero, suc, ◌+◌, ◌-◌, ◌^◌, ◌<◌, ◌≤◌, ◌≡◌, Bool, true, false, ◌&&◌, ◌||◌, List, [], ◌∷◌, ◌++◌, eqb, ℤ, pos, neg_ℤ, length, ◌≤ℤ◌}
use Rattle.lists.specs.Lists.{pick, All}
use Rattle.scan.specs.TypeText.{shape_end}
use Rattle.text.specs.declared.Token.{Token}
use Rattle.shape.specs.Index.{size, volume}
use Rattle.shape.specs.Dims.{dims_of}
use Rattle.types.specs.Tensors.{bytes_between, dimensions_from, type_of}
use Rattle.types.specs.Numbers.{decimal_number}
use Rattle.grammar.specs.Symbols.{InputName, InputType, OpName, ResultType, BodyOpen, BodyClose, ArgumentName, ArgumentType, ListNumber, comma, colon}
use Rattle.syntax.specs.Readings.{Reading, readings}
use Rattle.syntax.specs.Roles.{roles_of}
use Rattle.judge.specs.Roles.{among_roles, type_roles, number_roles, listed_roles}

-- the readings in front of those given, the latest first
abbrev pub turned_onto : List Reading → List Reading → List Reading
turned_onto earlier [] = earlier
turned_onto earlier (x ∷ xs) = turned_onto (x ∷ earlier) xs

-- readings in text order, the latest first
abbrev pub latest_first : List Reading → List Reading
latest_first xs = turned_onto [] xs

-- how many of the readings have the role
abbrev pub of_role : ℕ → List Reading → ℕ
of_role role [] = 0
of_role role (x ∷ earlier) = of_role role earlier + pick (eqb x.role role) 1 0

-- 1 and 2: a tensor type of a value or of a `dense`; one that is not in 01 is refused by 3
abbrev pub KnownType : List ℕ → Reading → Type 0
KnownType text x = (among_roles type_roles x.role ≡ true) × ((type_of text x.token.start).known ≡ true)

-- the dimensions that are written after `tensor<`
abbrev pub written_dims : List ℕ → Reading → List ℕ
written_dims text x = dimensions_from 0 (bytes_between (x.token.start + 7) (shape_end text (x.token.start + 7)) text)

-- 2: "Each dimension, and the product of a shape's dimensions with every 0 counted as 1, at most 4,096."
pub record LimitedDims (ds : List ℕ) : Type 0 where
  pub each : All (λ d. d ≤ 4096) ds
  pub product : volume ds ≤ 4096

-- the bodies that are open: opened before, and not closed
abbrev pub open_bodies : List Reading → ℕ
open_bodies earlier = of_role BodyOpen earlier - of_role BodyClose earlier

-- 3: "Inputs and op results together .., body values not counted": a type of an input, or of a result outside every body
abbrev pub counted_type : List Reading → Reading → Bool
counted_type earlier x = eqb x.role InputType || (eqb x.role ResultType && eqb (open_bodies earlier) 0)

-- the elements of a type; none of one that refusal 3, size 1 or size 2 refuses
abbrev pub type_elements : List ℕ → Reading → ℕ
type_elements text x =
    let t = type_of text x.token.start in
    pick (t.known && eqb t.passed 0) (size (dims_of t.shape)) 0

-- the elements of inputs and op results so far
abbrev pub elements_through : List ℕ → List Reading → ℕ
elements_through text [] = 0
elements_through text (x ∷ earlier) = elements_through text earlier + pick (counted_type earlier x) (type_elements text x) 0

-- what stands behind the name of an input or argument inside its list: `: type`
abbrev pub item_tail : ℕ → List ℕ
item_tail role = pick (eqb role InputName) (colon ∷ InputType ∷ []) (pick (eqb role ArgumentName) (colon ∷ ArgumentType ∷ []) [])

-- what a list of items of the role is made of: commas, the items, and what stands behind them
abbrev pub list_roles : ℕ → List ℕ
list_roles role = comma ∷ role ∷ item_tail role

-- the items of the role in the list that the readings end in: those since the last token that is no part of such a list
abbrev pub items_before : ℕ → List Reading → ℕ
items_before role [] = 0
items_before role (x ∷ earlier) = pick (among_roles (list_roles role) x.role) (items_before role earlier + pick (eqb x.role role) 1 0) 0

-- the roles of n items of a list, each with a comma behind it: "split by commas"
abbrev pub items_run : ℕ → ℕ → List ℕ
items_run role zero = []
items_run role (suc n) = items_run role n ++ (role ∷ (item_tail role ++ (comma ∷ [])))

-- the readings, in text order, end in n items of a list that goes on, and before them in no token of such a list
pub record ListSoFar (role n : ℕ) (before : List Reading) : Type 0 where
  pub front : List Reading
  pub run : List Reading
  pub whole : before ≡ front ++ run
  pub items : roles_of run ≡ items_run role n
  pub starts : (others : List Reading) (y : Reading) → front ≡ others ++ (y ∷ []) → among_roles (list_roles role) y.role ≡ false

-- 7: "the signed 64-bit range"
abbrev pub InSigned64 : ℤ → Type 0
InSigned64 z = (neg_ℤ (pos (2 ^ 63)) ≤ℤ z) × (z ≤ℤ pos (2 ^ 63 - 1))

-- "At the limit is accepted, one beyond is refused at the token that passes it (size 4: the op's quoted name)": token x, with those before it, passes a size
pub data PassedAt (text : List ℕ) (earlier : List Reading) (x : Reading) : ℕ → Type 0 where
  -- 1: "Rank at most 6."
  rank : KnownType text x → 6 < length (written_dims text x) → PassedAt text earlier x 1
  -- 2: not within the limits of LimitedDims
  dimensions : KnownType text x → (LimitedDims (written_dims text x) → ⊥) → PassedAt text earlier x 2
  -- 3: "Inputs and op results together at most 8,192 elements, body values not counted.", up to and with x
  elements : 8192 < elements_through text (x ∷ earlier) → PassedAt text earlier x 3
  -- 4: "One function has at most 256 ops, its return and body ops not counted.": the 257th
  ops : x.role ≡ OpName → 256 ≤ of_role OpName earlier → PassedAt text earlier x 4
  -- 5: "At most 8 operands of an op, inputs, or results.": the ninth of its list
  items : among_roles listed_roles x.role ≡ true → 8 ≤ items_before x.role earlier → PassedAt text earlier x 5
  -- 6: "An attribute list has at most 6 numbers.": the seventh
  numbers : x.role ≡ ListNumber → 6 ≤ items_before ListNumber earlier → PassedAt text earlier x 6
  -- 7: "An attribute number outside `dense` lies in the signed 64-bit range."
  range : among_roles number_roles x.role ≡ true → (InSigned64 (decimal_number text x.token.start) → ⊥) → PassedAt text earlier x 7
  -- 8: "A sigil and its name have at most 32 characters."
  characters : x.token.kind ≡ 3 → 32 < x.token.end - x.token.start → PassedAt text earlier x 8

-- a test holds exactly where a sentence does
pub record Exactly (test : Bool) (Sentence : Type 0) : Type 0 where
  pub says : test ≡ true → Sentence
  pub holds : Sentence → test ≡ true

-- "Two at one token: the lower number."
pub record LowestPassed (text : List ℕ) (earlier : List Reading) (x : Reading) (n : ℕ) : Type 0 where
  pub passed : PassedAt text earlier x n
  pub lowest : (m : ℕ) → m < n → PassedAt text earlier x m → ⊥

-- no size is passed
abbrev pub NonePassed : List ℕ → List Reading → Reading → Type 0
NonePassed text earlier x = (m : ℕ) → PassedAt text earlier x m → ⊥

-- n is the size that token x passes, 0 where it passes none
pub record SizeNumber (text : List ℕ) (earlier : List Reading) (x : Reading) (n : ℕ) : Type 0 where
  pub passed : 0 < n → LowestPassed text earlier x n
  pub first : (m : ℕ) → LowestPassed text earlier x m → n ≡ m
  pub none : n ≡ 0 → NonePassed text earlier x
  pub zero : NonePassed text earlier x → n ≡ 0

-- refusal 4: the text's first token that passes a size is x, whose first byte is a, and b is the number of the size
pub record RefusedBySize (text : List ℕ) (a b : ℕ) : Type 0 where
  pub before : List Reading
  pub x : Reading
  pub after : List Reading
  pub whole : readings text ≡ before ++ (x ∷ after)
  pub byte : x.token.start ≡ a
  pub size : LowestPassed text (latest_first before) x b
  pub none : (front : List Reading) (y : Reading) (back : List Reading) → before ≡ front ++ (y ∷ back) → NonePassed text (latest_first front) y
