-- What sizes 3 to 6 count, from token to token.
-- Assumes nothing.
use Rattle.std.specs.Prelude.{ℕ, ◌+◌, ◌-◌, ◌*◌, ◌≤◌, Bool, false, ◌&&◌, ◌||◌, List, eqb}
use Rattle.lists.specs.Lists.{pick}
use Rattle.text.specs.declared.Token.{Token}
use Rattle.shape.specs.Index.{size}
use Rattle.shape.specs.Dims.{dims_of}
use Rattle.types.specs.Tensors.{type_of}
use Rattle.grammar.specs.Symbols.{InputType, OpName, ResultType, BodyOpen, BodyClose, comma}
use Rattle.judge.specs.declared.tally.Tally.{Tally}
use Rattle.judge.specs.Roles.{among_roles, item_roles}

-- before the first token
abbrev pub at_start : Tally
at_start = record { more = false; items = 0; elements = 0; ops = 0; depth = 0 }

-- an item's number in its list: a comma goes on with a list, anything else begins one
unfoldable pub item_number : Tally → ℕ
item_number s = pick s.more (s.items + 1) 1

-- 3: "Inputs and op results together .., body values not counted": a type of an input, or of a result outside every body
unfoldable pub counts : Tally → ℕ → Bool
counts s role = eqb role InputType || (eqb role ResultType && eqb s.depth 0)

-- the elements of the type at a token, as far as size 3 counts them; none for a type that is refused by its own text (3, or sizes 1 and 2, which come first)
unfoldable pub elements_at : List ℕ → Tally → ℕ → Token → ℕ
elements_at text s role t =
    let x = type_of text t.start in
    pick (counts s role && x.known && eqb x.passed 0) (size (dims_of x.shape)) 0

-- 5 and 6: the items of the list so far; what stands inside an item, as an input's type, leaves them
unfoldable pub items_after : Tally → ℕ → ℕ
items_after s role = pick (among_roles item_roles role) (item_number s) s.items

-- 4: "its return and body ops not counted": these have roles of their own
unfoldable pub ops_after : Tally → ℕ → ℕ
ops_after s role = pick (eqb role OpName) (s.ops + 1) s.ops

-- 3: the bodies that are open
unfoldable pub tally_depth : Tally → ℕ → ℕ
tally_depth s role = pick (eqb role BodyOpen) (s.depth + 1) (pick (eqb role BodyClose) (s.depth - 1) s.depth)

-- the state after a token
unfoldable pub after_token : List ℕ → Tally → ℕ → Token → Tally
after_token text s role t =
    record { more = eqb role comma; items = items_after s role; elements = s.elements + elements_at text s role t; ops = ops_after s role; depth = tally_depth s role }

-- the counts after at most n tokens: no sum wraps
pub record TallyWithin (n : ℕ) (s : Tally) : Type 0 where
  pub items : s.items ≤ n
  pub elements : s.elements ≤ 4096 * n
  pub ops : s.ops ≤ n
  pub depth : s.depth ≤ n
