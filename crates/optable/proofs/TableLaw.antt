-- Laws of the tables: how many rows each has, what stands past the end, and the bytes at a name's place.
-- Assumes nothing.
use mathlib.Core.Path.{◌≡◌, refl, sym, ap, ◌∙◌}
use mathlib.Core.List.{List, [], ◌∷◌, ◌++◌, map, append_assoc}
use Prim.Native.Nat.{ℕ, zero, suc, ◌+◌, ◌-◌, ◌≤◌, ◌<◌}
use native.Mathlib.Nat.{not-suc-le-zero, le_of_suc-le-suc}
use native.Mathlib.Omega.{arith}
use lib.ListN.{length, get_or, take, drop, length-append}
use lib.Seq.{drop-append_seam, take-append_seam, get_or-drop}
use Rattle.lists.specs.Lists.{first_where, concat}
use Rattle.scalar.specs.declared.Direction.TheVariants.{Eq}
use Rattle.optable.specs.declared.Choice.TheVariants as choice
use Rattle.std.proofs.Common.{Bor}
use Rattle.std.proofs.lemmas.Option.{slice_get_read, slice_get_past}
use Rattle.std.specs.Prelude.{Option, None, Some, slice_get, option_copied}
use Rattle.std.specs.Slice.{IsItemAt}
use Rattle.optable.specs.declared.ValueKind.{ValueKind}
use Rattle.optable.specs.declared.Word.{Word}
use Rattle.optable.specs.Names.{same, name_place}
use Rattle.optable.specs.Table.{OpRow, Chosen, value, comparison_direction, compare_type, choice_named, kind_number, no_kind, said_at, direction_said, direction_at, ops, attributes, choice_kinds, choices, op_names, attribute_names, choice_kind_names, choice_names, names, table_bytes, places, no_word, word_at, rows_from, no_row, row_at}

-- ---- how many rows

pub ops-count : length ops ≡ 34
unfolding ops
ops-count = refl

pub attributes-count : length attributes ≡ 15
unfolding attributes
attributes-count = refl

pub choices-count : length choices ≡ 8
unfolding choices
choices-count = refl

-- ---- the places of names that the code knows

pub value-place : value ≡ 0
unfolding attributes attribute_names name_place first_where same
value-place = refl

pub direction-place : comparison_direction ≡ 13
unfolding attributes attribute_names name_place first_where same
direction-place = refl

pub type-place : compare_type ≡ 14
unfolding attributes attribute_names name_place first_where same
type-place = refl

pub signed-place : choice_named "SIGNED" ≡ 6
unfolding choices choice_names name_place first_where same
signed-place = refl

pub unsigned-place : choice_named "UNSIGNED" ≡ 7
unfolding choices choice_names name_place first_where same
unsigned-place = refl

-- ---- what stands past a table's end

get_d_past : {A : Type 0} (l : List A) (i : ℕ) (d : A) → length l ≤ i → get_or l i d ≡ d
get_d_past [] i d h = refl
get_d_past (x ∷ l) zero d h = absurd (not-suc-le-zero h)
get_d_past (x ∷ l) (suc i) d h = get_d_past l i d (le_of_suc-le-suc h)

pub row-past : (i : ℕ) → length ops ≤ i → row_at i ≡ no_row
unfolding row_at ops
row-past i h = get_d_past (rows_from 0 ops) i no_row h

-- the kind at a place of a table of the code, and of its numbers
kind-at : (ks : List ValueKind) (k : ℕ) → kind_number (slice_get ks k) ≡ get_or (map (λ x. kind_number (Some x)) ks) k no_kind
kind-at [] k = refl
kind-at (x ∷ ks) zero = refl
kind-at (x ∷ ks) (suc k) = kind-at ks k

pub kind-read : (ks : List ValueKind) (k : ℕ) (r : Option (Bor ValueKind)) → IsItemAt ks k r →
    kind_number (option_copied r) ≡ get_or (map (λ x. kind_number (Some x)) ks) k no_kind
kind-read ks k None h = ap kind_number (sym (slice_get_past ks k h.3)) ∙ kind-at ks k
kind-read ks k (Some x) h = ap kind_number (sym (slice_get_read ks _ k x.now refl h.3.0 h.1)) ∙ kind-at ks k

pub direction-past : (k : ℕ) → length choices ≤ k → direction_at k ≡ Eq
unfolding direction_at said_at choices
direction-past k h = ap direction_said (get_d_past (map (λ (c : Chosen). c.says) choices) k (choice.Compares Eq) h)

-- ---- names and their places

-- the ops' rows hold the places of the first names
rows-places : (os : List OpRow) (rest : List (List ℕ)) (at i : ℕ) → i < length os →
    get_or (places at (map (λ (o : OpRow). o.name) os ++ rest)) i no_word ≡ record { at = (get_or (rows_from at os) i no_row).at; len = (get_or (rows_from at os) i no_row).len }
rows-places [] rest at i h = absurd (not-suc-le-zero h)
rows-places (o ∷ os) rest at zero h = refl
rows-places (o ∷ os) rest at (suc i) h = rows-places os rest (at + length o.name) i (le_of_suc-le-suc h)

pub row-place : (i : ℕ) → i < length ops → word_at i ≡ record { at = (row_at i).at; len = (row_at i).len }
unfolding word_at row_at names op_names ops
row-place i h = rows-places ops (attribute_names ++ choice_kind_names ++ choice_names) 0 i h

-- a name's place among the bytes holds the name, and lies within them
place-holds : (front : List ℕ) (ns : List (List ℕ)) (i : ℕ) → i < length ns →
    take (get_or (places (length front) ns) i no_word).len (drop (get_or (places (length front) ns) i no_word).at (front ++ concat ns)) ≡ get_or ns i []
unfolding concat
place-holds front [] i h = absurd (not-suc-le-zero h)
place-holds front (n ∷ ns) zero h = rw (drop-append_seam front (n ++ concat ns), take-append_seam n (concat ns))
place-holds front (n ∷ ns) (suc i) h =
    rw (← length-append front n, ← append_assoc front n (concat ns)) (place-holds (front ++ n) ns i (le_of_suc-le-suc h))

place-within : (at : ℕ) (ns : List (List ℕ)) (i : ℕ) → i < length ns →
    (get_or (places at ns) i no_word).at + (get_or (places at ns) i no_word).len ≤ at + length (concat ns)
unfolding concat
place-within at [] i h = absurd (not-suc-le-zero h)
place-within at (n ∷ ns) zero h = rw (length-append n (concat ns)) (omega arith)
place-within at (n ∷ ns) (suc i) h =
    let r = place-within (at + length n) ns i (le_of_suc-le-suc h) in
    rw (length-append n (concat ns)) (omega (arith, r))

pub bytes-length : length table_bytes ≡ 925
unfolding table_bytes names op_names attribute_names choice_kind_names choice_names ops attributes choice_kinds choices concat
bytes-length = refl

pub names-length : length names ≡ 59
unfolding names op_names attribute_names choice_kind_names choice_names ops attributes choice_kinds choices
names-length = refl

pub word-name : (i : ℕ) → i < length names → take (word_at i).len (drop (word_at i).at table_bytes) ≡ get_or names i []
unfolding word_at table_bytes
word-name i h = place-holds [] names i h

pub name-part : (w : Word) (i : ℕ) → w ≡ word_at i → i < length names → take (w.at + w.len - w.at) (drop w.at table_bytes) ≡ get_or names i []
name-part w i e h =
    let len : w.at + w.len - w.at ≡ w.len = omega arith in
    ap (λ n. take n (drop w.at table_bytes)) len ∙ ap (λ (v : Word). take v.len (drop v.at table_bytes)) e ∙ word-name i h

pub word-within : (i : ℕ) → i < length names → (word_at i).at + (word_at i).len ≤ length table_bytes
unfolding word_at table_bytes
word-within i h = let r = place-within 0 names i h in omega (arith, r)

pub others-places : (i : ℕ) → word_at (length ops + i) ≡ get_or (drop (length ops) (places 0 names)) i no_word
unfolding word_at
others-places i = sym (get_or-drop (length ops) (places 0 names) i no_word)
