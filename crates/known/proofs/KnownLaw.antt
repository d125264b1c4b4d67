-- The names of values laid in an array, and the places of a header's inputs as a part of its array.
-- Assumes nothing.
use mathlib.Core.Path.{◌≡◌, refl, sym, ap, ◌∙◌}
use mathlib.Core.List.{List, [], ◌∷◌}
use Prim.Native.Nat.{ℕ, zero, suc, ◌+◌, ◌-◌, ◌≤◌, ◌<◌}
use native.Mathlib.Nat.{not-suc-le-zero, le_of_suc-le-suc}
use native.Mathlib.Numerals.{add-one}
use native.Mathlib.Omega.{arith}
use lib.ListN.{length, get_or, set, drop, take, length-set, length-drop, drop_of_length-le}
use lib.Seq.{get_or-drop}
use Rattle.lists.specs.Lists.{tab}
use Rattle.lists.proofs.TabLaw.{tab-cong}
use Rattle.grammar.proofs.StackLaw.{drop-put}
use Rattle.scope.specs.Faults.{NameFault}
use Rattle.scope.specs.Scope.{names_of, inputs_from, fault_of}
use Rattle.program.specs.declared.Parts.{Parts}
use Rattle.places.specs.Places.{place_of}
use Rattle.values.specs.declared.Value.{Value}
use Rattle.values.specs.Values.{no_value}
use Rattle.values.proofs.ValuesLaw.{any-default}
use Rattle.known.specs.Known.{known_names, names_fault, inputs_fault}

-- the loop that lays the names: those of the first k values stand from top on
pub record Laying (values : List Value) (first : ℕ) (k top : ℕ) (entries : List ℕ) : Type 0 where
  pub names : drop top entries ≡ known_names values k
  pub size : length entries ≡ first
  pub at : top ≡ first - k

pub laying-first : (values : List Value) (entries : List ℕ) → Laying values (length entries) 0 (length entries) entries
unfolding known_names
laying-first values entries = record { names = drop_of_length-le entries {i = length entries} (omega arith); size = refl; at = omega arith }

pub laying-next : {values : List Value} {first k top : ℕ} {entries : List ℕ} (d : Value) → Laying values first k top entries → k < first → k < length values →
    Laying values first (k + 1) (top - 1) (set entries (top - 1) (get_or values k d).name)
unfolding known_names
laying-next {values} {first} {k} {top} {entries} d g h v =
    let s = g.size in
    let t = g.at in
    let e : top - 1 + 1 ≡ top = omega arith in
    record {
      names = rw (drop-put entries (top - 1) (get_or values k d).name (omega arith), e, add-one, any-default values k d no_value v, g.names);
      size = length-set entries _ _ ∙ s;
      at = omega arith;
    }

pub laying-end : {values : List Value} {first k top n : ℕ} {entries : List ℕ} → k ≡ n → Laying values first k top entries → drop (first - n) entries ≡ known_names values n
laying-end {values} {first} {entries = entries} e g = ap (λ m. drop (first - m) entries) (sym e) ∙ ap (λ t. drop t entries) (sym g.at) ∙ g.names ∙ ap (known_names values) e

take-tab : (l : List ℕ) (n : ℕ) → n ≤ length l → take n l ≡ tab n (λ i. get_or l i 0)
take-tab l zero h = refl
take-tab [] (suc n) h = absurd (not-suc-le-zero h)
take-tab (x ∷ l) (suc n) h = ap {B = List ℕ} (λ t. x ∷ t) (take-tab l n (le_of_suc-le-suc h))

-- n elements from a place on
pub part-tab : (l : List ℕ) (a n : ℕ) → a + n ≤ length l → take n (drop a l) ≡ tab n (λ i. get_or l (a + i) 0)
part-tab l a n h = take-tab (drop a l) n (omega (arith, length-drop a l)) ∙ tab-cong n _ _ (λ i b. get_or-drop a l i 0)

pub names-said : (text : List ℕ) (values : List Value) (n at size : ℕ) (mid : List ℕ) {f : NameFault} → size ≡ 65801 → drop (size - n) mid ≡ known_names values n →
    f ≡ fault_of (names_of text at (drop (65801 - n) mid)) → f ≡ names_fault text values n at
unfolding names_fault
names-said text values n at size mid e l h = h ∙ ap (λ es. fault_of (names_of text at es)) (ap (λ m. drop (m - n) mid) (sym e) ∙ l)

pub inputs-said : (text : List ℕ) (header : Parts) (n : ℕ) {f : NameFault} → n ≤ 8 → length header.at ≡ 88 →
    f ≡ fault_of (inputs_from text [] (take (56 + n - 56) (drop 56 header.at))) → f ≡ inputs_fault text header n
unfolding inputs_fault place_of
inputs-said text header n b l h =
    let m : 56 + n - 56 ≡ n = omega arith in
    let p = part-tab header.at 56 n (omega arith) in
    h ∙ rw (m, p)
