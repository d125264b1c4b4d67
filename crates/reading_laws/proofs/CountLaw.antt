-- How many tokens of a part there are: in every text as many names of inputs as types of inputs, and the parts of a header count them, nine standing for more than
-- eight.
-- Assumes nothing.
use mathlib.Core.Path.{◌≡◌, refl, sym, ap, subst, ◌∙◌}
use mathlib.Core.List.{List, [], ◌∷◌, ◌++◌}
use mathlib.Core.Bool.{Bool, true, false}
use Prim.Native.Nat.{ℕ, zero, suc, ◌+◌, ◌*◌, ◌<◌, ◌≤◌, min}
use native.Mathlib.Omega.{arith}
use native.Mathlib.Decide.{ℕ_discrete}
use lib.Dec.{T, eqb, eqb→eq, ltb}
use lib.ListN.{length, get_or, set, length-set, replicate}
use lib.Seq.{get_or-set_same, get_or-set_other}
use borrow.Author.Tests.{eqb-true, eqb-false, ltb-true, ltb-false, lt-ltb, le-ltb, eq-eqb, ne_eqb}
use Rattle.lists.specs.Lists.{pick}
use Rattle.grammar.specs.Grammar.{Production, grammar}
use Rattle.grammar.specs.Derivation.{◌∈◌}
use Rattle.grammar.specs.Leaves.{Yields, nothing, itself, right}
use Rattle.grammar.proofs.TableTest.{both, both_left, both_right}
use Rattle.grammar.proofs.CellView.{rule-passes}
use Rattle.grammar.proofs.Within.{all_pass}
use Rattle.syntax.specs.Readings.{Reading}
use Rattle.syntax.specs.Roles.{roles_of}
use Rattle.program.specs.declared.Parts.{Parts}
use Rattle.program.specs.Parts.{part_of, no_parts, added_to, noted, depth_after, parts_from}
use Rattle.places.specs.Places.{input_name, input_type, count_of, place_of}

-- how many of the roles belong to part k
abbrev pub of_part : ℕ → List ℕ → ℕ
of_part k [] = 0
of_part k (r ∷ rs) = pick (eqb (part_of r) k) 1 0 + of_part k rs

of-append : (k : ℕ) (xs ys : List ℕ) → of_part k (xs ++ ys) ≡ of_part k xs + of_part k ys
of-append k [] ys = omega arith
of-append k (x ∷ xs) ys = omega (arith, of-append k xs ys)

-- ---- "inputs `%x: type` split by commas": a name for each type

rule-even : {p : Production} → p ∈ grammar → of_part input_name p.right ≡ of_part input_type p.right
unfolding grammar part_of
rule-even {p} m = eqb→eq (of_part input_name p.right) (of_part input_type p.right) (rule-passes (λ p. eqb (of_part input_name p.right) (of_part input_type p.right)) m tt)

left-none : {p : Production} → p ∈ grammar → part_of p.left ≡ 11
unfolding grammar part_of
left-none {p} m = eqb→eq (part_of p.left) 11 (rule-passes (λ p. eqb (part_of p.left) 11) m tt)

none_left : (r k : ℕ) (rs : List ℕ) → part_of r ≡ 11 → k < 11 → of_part k (r ∷ rs) ≡ of_part k rs
none_left r k rs e h = let q : eqb (part_of r) k ≡ false = ne_eqb (part_of r) k (λ z. omega arith) in rw q (omega arith)

pub yields-even : {ss ls : List ℕ} → Yields ss ls → of_part input_name ls + of_part input_type ss ≡ of_part input_type ls + of_part input_name ss
yields-even nothing = refl
yields-even (itself h y) = omega (arith, yields-even y)
yields-even (right {p} {ss} {ls} m y) =
    let a = none_left p.left input_name ss (left-none m) (omega arith) in
    let b = none_left p.left input_type ss (left-none m) (omega arith) in
    rw (a, b) (omega (arith, yields-even y, of-append input_name p.right ss, of-append input_type p.right ss, rule-even m))

-- ---- one token more in a part

-- eleven parts, eight places each
pub record Wide (p : Parts) : Type 0 where
  pub counts : length p.count ≡ 11
  pub places : length p.at ≡ 88
  pub nine : (k : ℕ) → k < 11 → count_of p k ≤ 9

-- what added_to does: the token is placed, or the part has eight already
pub data Added (p : Parts) (k place : ℕ) : Parts → Type 0 where
  fits : count_of p k < 8 → Added p k place (record { count = set p.count k (count_of p k + 1); at = set p.at (8 * k + count_of p k) place })
  full : 8 ≤ count_of p k → Added p k place (record { count = set p.count k 9; at = p.at })

added : (p : Parts) (k place : ℕ) → Added p k place (added_to p k place)
unfolding added_to count_of
added p k place = go (ltb (get_or p.count k 0) 8) refl
  where
    go : (b : Bool) → ltb (get_or p.count k 0) 8 ≡ b →
        Added p k place (pick b (record { count = set p.count k (get_or p.count k 0 + 1); at = set p.at (8 * k + get_or p.count k 0) place }) (record { count = set p.count k 9; at = p.at }))
    go true e = fits (ltb-true (get_or p.count k 0) 8 e)
    go false e = full (ltb-false (get_or p.count k 0) 8 e)

-- what noted does: nothing where the role has no part
pub data Noted (p : Parts) (r place : ℕ) : Parts → Type 0 where
  apart : 11 ≤ part_of r → Noted p r place p
  within : {q : Parts} → part_of r < 11 → Added p (part_of r) place q → Noted p r place q

pub noted-view : (p : Parts) (r place : ℕ) → Noted p r place (noted p r place)
unfolding noted
noted-view p r place = go (ltb (part_of r) 11) refl
  where
    go : (b : Bool) → ltb (part_of r) 11 ≡ b → Noted p r place (pick b (added_to p (part_of r) place) p)
    go true e = within (ltb-true (part_of r) 11 e) (added p (part_of r) place)
    go false e = apart (ltb-false (part_of r) 11 e)

pub count_same : {p q : Parts} {k place : ℕ} → Wide p → k < 11 → Added p k place q → count_of q k ≡ min (count_of p k + 1) 9
unfolding count_of
count_same {p} {k = k} w h (fits g) = get_or-set_same p.count k (get_or p.count k 0 + 1) 0 (rw w.counts h) ∙ omega arith
count_same {p} {k = k} w h (full g) = get_or-set_same p.count k 9 0 (rw w.counts h) ∙ omega arith

pub count-other : {p q : Parts} {j place : ℕ} (k : ℕ) → (k ≡ j → ⊥) → Added p j place q → count_of q k ≡ count_of p k
unfolding count_of
count-other {p} {j = j} k n (fits g) = get_or-set_other p.count j k (get_or p.count j 0 + 1) 0 n
count-other {p} {j = j} k n (full g) = get_or-set_other p.count j k 9 0 n

-- the places before the last stay
pub place-stays : {p q : Parts} {j place : ℕ} (k i : ℕ) → i < 8 → (k ≡ j → i < count_of p j) → Added p j place q → place_of q k i ≡ place_of p k i
unfolding place_of
place-stays {p} {j = j} {place = place} k i h f (fits g) = get_or-set_other p.at (8 * j + count_of p j) (8 * k + i) place 0 (λ e. apart_from e (ℕ_discrete k j))
  where
    apart_from : 8 * k + i ≡ 8 * j + count_of p j → Dec (k ≡ j) → ⊥
    apart_from e (yes q) = let l = f q in omega arith
    apart_from e (no q) = omega arith
place-stays k i h f (full g) = refl

pub place-new : {p : Parts} (k place : ℕ) → Wide p → k < 11 → count_of p k < 8 → get_or (set p.at (8 * k + count_of p k) place) (8 * k + count_of p k) 0 ≡ place
place-new {p} k place w h g = get_or-set_same p.at (8 * k + count_of p k) place 0 (let z = w.places in omega arith)

by_part : (k : ℕ) {p q : Parts} {r place : ℕ} → Wide p → k < 11 → Noted p r place q → Dec (part_of r ≡ k) → count_of q k ≡ min (count_of p k + pick (eqb (part_of r) k) 1 0) 9
by_part k {p} {r = r} w h (apart g) d = rw (ne_eqb (part_of r) k (λ e. omega arith)) (let z = w.nine k h in omega arith)
by_part k {p} {q} {r} {place} w h (within g a) (yes e) =
    let b : Added p k place q = subst (λ (j : ℕ). Added p j place q) e a in
    rw (eq-eqb (part_of r) k e) (count_same w h b)
by_part k {p} {r = r} w h (within g a) (no n) = rw (ne_eqb (part_of r) k n) (count-other k (λ e. n (sym e)) a ∙ (let z = w.nine k h in omega arith))

pub noted-count : (p : Parts) (r place k : ℕ) → Wide p → k < 11 → count_of (noted p r place) k ≡ min (count_of p k + pick (eqb (part_of r) k) 1 0) 9
noted-count p r place k w h = by_part k w h (noted-view p r place) (ℕ_discrete (part_of r) k)

-- ---- parts stay eleven, with eight places each

wide-added : {p q : Parts} {k place : ℕ} → Wide p → Added p k place q → (length q.count ≡ 11) × (length q.at ≡ 88)
wide-added {p} {k = k} {place = place} w (fits g) = (length-set p.count k (count_of p k + 1) ∙ w.counts, length-set p.at (8 * k + count_of p k) place ∙ w.places)
wide-added {p} {k = k} w (full g) = (length-set p.count k 9 ∙ w.counts, w.places)

wide_view : {p q : Parts} {r place : ℕ} → Wide p → Noted p r place q → (length q.count ≡ 11) × (length q.at ≡ 88)
wide_view w (apart g) = (w.counts, w.places)
wide_view w (within g a) = wide-added w a

pub wide-noted : (p : Parts) (r place : ℕ) → Wide p → Wide (noted p r place)
wide-noted p r place w =
    let l = wide_view w (noted-view p r place) in
    record { counts = l.0; places = l.1; nine = λ k h. let e = noted-count p r place k w h in omega arith }

none-at : (n k : ℕ) → ◌≡◌ {A = ℕ} (get_or (replicate n 0) k 0) 0
none-at zero k = refl
none-at (suc n) zero = refl
none-at (suc n) (suc k) = none-at n k

pub none-counted : (k : ℕ) → count_of no_parts k ≡ 0
unfolding no_parts count_of
none-counted k = none-at 11 k

pub wide-none : Wide no_parts
unfolding no_parts
wide-none = record { counts = refl; places = refl; nine = λ k h. rw (none-counted k) (omega arith) }

-- ---- the counts of a header

-- a token outside every body
abbrev pub flat : ℕ → Bool
flat r = eqb (depth_after 0 r) 0

pub flat-count : (xs : List Reading) (p : Parts) (k : ℕ) → Wide p → k < 11 → T (all_pass flat (roles_of xs)) → count_of (parts_from 0 p 0 xs) k ≡ min (count_of p k + of_part k (roles_of xs)) 9
unfolding parts_from
flat-count [] p k w h t = let z = w.nine k h in omega arith
flat-count (x ∷ xs) p k w h t =
    let q = noted p x.role x.token.start in
    let a = flat x.role in
    let e : depth_after 0 x.role ≡ 0 = eqb→eq (depth_after 0 x.role) 0 (both_left a (all_pass flat (roles_of xs)) t) in
    let c = flat-count xs q k (wide-noted p x.role x.token.start w) h (both_right a (all_pass flat (roles_of xs)) t) in
    ap (λ (d : ℕ). count_of (parts_from 0 q d xs) k) e ∙ (c ∙ (let n = noted-count p x.role x.token.start k w h in omega arith))
