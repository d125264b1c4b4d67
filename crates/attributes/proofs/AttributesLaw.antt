-- Attributes: turns of the search for one, bounds on the values that are read, and what attributes that fit their row give.
-- Assumes nothing.
use mathlib.Core.Path.{◌≡◌, refl, sym, ◌∙◌}
use mathlib.Core.Bool.{Bool, true, false, ◌&&◌}
use mathlib.Core.List.{List}
use Prim.Native.Nat.{ℕ, zero, suc, ◌+◌, ◌≤◌, ◌<◌}
use native.Mathlib.Omega.{arith}
use lib.Dec.{ltb, eqb}
use lib.ListN.{length, set, replicate, length-set}
use borrow.Author.Tests.{ltb-true, eq-eqb, ne_eqb, lt-ltb, le-ltb}
use Rattle.std.specs.Prelude.{Option, None, Some, IfSome, is_some, unwrap_or}
use Rattle.lists.proofs.TestLaw.{both_true}
use Rattle.lists.specs.Lists.{pick, tab}
use Rattle.lists.proofs.TabLaw.{length-tab, get_or-tab}
use Rattle.lists.proofs.SearchLaw.{Passed, passed_none, passed-next, passed_here, passed-end}
use Rattle.shape.specs.Dims.{Sized}
use Rattle.text.specs.Lex.{token_at}
use Rattle.optable.specs.Table.{NumbersKind as NumberList, Number, attribute_kind}
use Rattle.optable.specs.declared.Row.{Row}
use Rattle.attribute.specs.Attribute.{token_after, pattern_at, none_read, with_number, goes_on, numbers_from, numbers_at, dense_tokens}
use Rattle.dimrules.specs.declared.Numbers.{Numbers as Listed}
use Rattle.dimrules.specs.Count.{everywhere}
use Rattle.dimrules.proofs.CountLaw.{Reached, reach_here, reach-end, holds_at}
use Rattle.dimrules.specs.Dims.{no_numbers as none}
use Rattle.dimrules.specs.declared.Numbers.{Numbers}
use Rattle.dimrules.specs.declared.TensorType.{TensorType}
use Rattle.program.specs.declared.Parts.{Parts}
use Rattle.places.specs.Places.{attribute_name, count_of, blank_type, type_in}
use Rattle.places.proofs.TypeInLaw.{type-in-sized, type-in-six}
use Rattle.attributes.specs.Attributes.{attributes_of, attribute_of, stands_at, stands, attribute_fits, needed_at, attributes_fit, name_of, numbers_by, attribute_numbers, dense_type}

-- at most eight attributes are told apart
pub attributes-most : (op : Parts) → attributes_of op ≤ 8
unfolding attributes_of
attributes-most op = omega arith

-- what is found below n, and n where there is none
pub found-below : (r : Option ℕ) (n m : ℕ) → unwrap_or r n ≡ m → IfSome r (λ k. k < n) → is_some r ≡ ltb m n
found-below None n m e h = sym (le-ltb m n (omega (arith, e)))
found-below (Some k) n m e h = sym (lt-ltb m n (rw (← e) h))

-- ---- the search for attribute k: none of the first j is it

abbrev is_it : List ℕ → Parts → ℕ → ℕ → Bool
is_it text op k j = eqb (attribute_of text op j) k

abbrev pub Sought : List ℕ → Parts → ℕ → ℕ → Type 0
Sought text op k j = Passed (is_it text op k) (tab (attributes_of op) (λ i. i)) j

module _ (text : List ℕ) (op : Parts) (k : ℕ) where
  pub seek-none : Sought text op k 0
  seek-none = passed_none (is_it text op k) (tab (attributes_of op) (λ i. i))

  module _ (j : ℕ) (sought : Sought text op k j) where
    inside : j < attributes_of op → j < length (tab (attributes_of op) (λ i. i))
    inside h = rw (length-tab (attributes_of op) (λ (i : ℕ). i)) h

    pub seek-next : j < attributes_of op → is_it text op k j ≡ false → Sought text op k (j + 1)
    seek-next h e = passed-next (is_it text op k) (tab (attributes_of op) (λ i. i)) j (inside h) (rw (get_or-tab (attributes_of op) (λ i. i) j 0 h) e) sought

    pub seek-here : j < attributes_of op → is_it text op k j ≡ true → j ≡ stands_at text op k
    unfolding stands_at
    seek-here h e = passed_here (is_it text op k) (tab (attributes_of op) (λ i. i)) j (inside h) (rw (get_or-tab (attributes_of op) (λ i. i) j 0 h) e) sought

    pub seek-end : attributes_of op ≤ j → j ≤ attributes_of op → attributes_of op ≡ stands_at text op k
    unfolding stands_at
    seek-end h g =
        let q : attributes_of op ≡ j = omega arith in
        q ∙ passed-end (is_it text op k) (tab (attributes_of op) (λ i. i)) j (rw (length-tab (attributes_of op) (λ (i : ℕ). i)) h) sought

  -- an attribute that stands is one of the first eight
  pub stands-below : stands text op k ≡ true → stands_at text op k < 8
  unfolding stands
  stands-below e = let a = ltb-true (stands_at text op k) (attributes_of op) e in let b = attributes-most op in omega arith

-- ---- the values of attributes

-- at most six numbers, in an array of six
abbrev Held : ℕ → List ℕ → Type 0
Held n list = (n ≤ 6) × (length list ≡ 6)

none-held : Held 0 (replicate 6 0)
none-held = (omega arith, refl)

-- of the two records of numbers, as they are read and as constraints take them
abbrev Read : Listed → Type 0
Read ns = Held ns.count ns.list

abbrev Given : Numbers → Type 0
Given ns = Held ns.count ns.list

pick-read : (b : Bool) (x y : Listed) → (b ≡ true → Read x) → Read y → Read (pick b x y)
pick-read true x y p q = p refl
pick-read false x y p q = q

pick-given : (b : Bool) (x y : Numbers) → Given x → Given y → Given (pick b x y)
pick-given true x y p q = p
pick-given false x y p q = q

with_read : (ns : Listed) (v : ℕ) → Read ns → Read (with_number ns v)
unfolding with_number
with_read ns v h =
    pick-read (ltb ns.count 6) (record { count = ns.count + 1; list = set ns.list ns.count v }) ns
    (λ e. let a = ltb-true ns.count 6 e in (omega arith, length-set ns.list ns.count v ∙ h.1)) h

from-read : (left : ℕ) (ns : Listed) (text : List ℕ) (at : ℕ) → Read ns → Read (numbers_from left ns text at)
unfolding numbers_from
from-read zero ns text at h = h
from-read (suc left) ns text at h =
    let next = token_at text (token_at text at).end in
    let ms = with_number ns (pattern_at text next.start) in
    pick-read (goes_on (token_at text at).kind) (numbers_from left ms text next.end) ns
    (λ e. from-read left ms text next.end (with_read ns (pattern_at text next.start) h)) h

at_read : (text : List ℕ) (name : ℕ) → Read (numbers_at text name)
unfolding numbers_at none_read
at_read text name = from-read 6 none_read text (token_after 4 text name).end none-held

numbers-given : (text : List ℕ) (op : Parts) (k : ℕ) → Given (attribute_numbers text op k)
unfolding attribute_numbers numbers_by
numbers-given text op k =
    let name = name_of text op k in
    pick-given (stands text op k) _ none (pick-given (eqb (attribute_kind k) NumberList) _ _ (at_read text name) (pick-given (eqb (attribute_kind k) Number) _ none (omega arith, refl) none-held)) none-held

pub numbers-few : (text : List ℕ) (op : Parts) (k : ℕ) → (attribute_numbers text op k).count ≤ 6
numbers-few text op k = (numbers-given text op k).0

pub numbers-six : (text : List ℕ) (op : Parts) (k : ℕ) → length (attribute_numbers text op k).list ≡ 6
numbers-six text op k = (numbers-given text op k).1

-- the type of a dense value is within sizes 1 and 2 of 01, and has six dimensions in its array
abbrev Within : TensorType → Type 0
Within t = Sized t.shape × (length t.shape.dims ≡ 6)

pick-within : (b : Bool) (x y : TensorType) → Within x → Within y → Within (pick b x y)
pick-within true x y p q = p
pick-within false x y p q = q

dense-within : (text : List ℕ) (op : Parts) (k : ℕ) → Within (dense_type text op k)
unfolding dense_type
dense-within text op k =
    let at = (dense_tokens text (name_of text op k)).ty in
    pick-within (stands text op k) (type_in text at) blank_type (type-in-sized text at, type-in-six text at) (record { rank = omega arith; volume = omega arith }, refl)

pub dense-type-sized : (text : List ℕ) (op : Parts) (k : ℕ) → Sized (dense_type text op k).shape
dense-type-sized text op k = (dense-within text op k).0

pub dense-type-six : (text : List ℕ) (op : Parts) (k : ℕ) → length (dense_type text op k).shape.dims ≡ 6
dense-type-six text op k = (dense-within text op k).1

-- ---- attributes that fit their row

-- a test at every place below n, by the first that fails
-- what the loops over places answer
pub fails-at : (n : ℕ) (t : ℕ → Bool) (d : ℕ) → Reached n t d → d < n → t d ≡ false → false ≡ everywhere n t
unfolding everywhere
fails-at n t d r h e = sym (rw (← reach_here n t d r h e) (ne_eqb d n (omega arith)))

pub passes-all : (n : ℕ) (t : ℕ → Bool) (d : ℕ) → Reached n t d → n ≤ d → d ≤ n → true ≡ everywhere n t
unfolding everywhere
passes-all n t d r h g = sym (rw (← reach-end n t d r h g) (eq-eqb n n refl))

module _ (text : List ℕ) (op : Parts) (row : Row) (fit : attributes_fit text op row ≡ true) where
  abbrev each : Bool
  each = everywhere (attributes_of op) (attribute_fits text op row)

  abbrev present : Bool
  present = everywhere row.needed (λ s. stands text op (needed_at row s))

  all_three : (ltb (count_of op attribute_name) 9 ≡ true) × (each ≡ true) × (present ≡ true)
  unfolding attributes_fit
  all_three =
      let h = both_true (ltb (count_of op attribute_name) 9 && each) present fit in
      let g = both_true (ltb (count_of op attribute_name) 9) each h.0 in
      (g.0, g.1, h.1)

  -- an op has at most eight attributes
  pub attributes-few : count_of op attribute_name ≤ 8
  attributes-few = let a = ltb-true (count_of op attribute_name) 9 all_three.0 in omega arith

  pub attributes-each : (j : ℕ) → j < attributes_of op → attribute_fits text op row j ≡ true
  attributes-each = holds_at (attributes_of op) (attribute_fits text op row) all_three.1

  pub attributes-needed : (s : ℕ) → s < row.needed → stands text op (needed_at row s) ≡ true
  attributes-needed = holds_at row.needed (λ s. stands text op (needed_at row s)) all_three.2
