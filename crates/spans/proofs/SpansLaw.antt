-- The value that an operand names, and where it stands.
-- Assumes nothing.
use Prim.Native.Nat.{ℕ, ◌≤◌, ◌<◌}
use mathlib.Core.Path.{◌≡◌, refl, ◌∙◌}
use mathlib.Core.List.{List}
use native.Mathlib.Omega.{arith}
use lib.ListN.{length, get_or}
use borrow.Author.Tests.{lt-ltb}
use Rattle.lists.specs.Lists.{tab}
use Rattle.lists.proofs.TabLaw.{length-tab, get_or-tab}
use Rattle.lists.proofs.SearchLaw.{first-le}
use Rattle.program.specs.declared.Parts.{Parts}
use Rattle.places.specs.Places.{operand_name, place_of}
use Rattle.values.specs.declared.Value.{Value}
use Rattle.values.specs.declared.Values.{Values}
use Rattle.offsets.specs.Offsets.{offset_at}
use Rattle.operands.specs.Operands.{value_named, arity_of}
use Rattle.operands.proofs.OperandsLaw.{has_name, arity-few}
use Rattle.spans.specs.Spans.{place_at, places_of}

-- a name stands for one of the first n values, or for none
pub named-le : (text : List ℕ) (values : List Value) (n a : ℕ) → value_named text values n a ≤ n
unfolding value_named
named-le text values n a =
    let e : length (tab n (λ i. i)) ≡ n = length-tab n (λ i. i) in
    omega (arith, e, first-le (has_name text values a) (tab n (λ i. i)))

-- an operand stands where the value that it names begins
pub place_is : (text : List ℕ) (op : Parts) (vs : Values) (n j : ℕ) → j < arity_of op →
    get_or (places_of text op vs n) j 0 ≡ offset_at vs (value_named text vs.list n (place_of op operand_name j))
unfolding places_of
place_is text op vs n j h = get_or-tab 8 (place_at text op vs n) j 0 (omega (arith, h, arity-few op)) ∙ rw (lt-ltb _ _ h) refl
