-- Attribute lists as whole numbers: their places, lists of one length, and 0 beside each number.
-- Assumes nothing.
use mathlib.Core.Path.{◌≡◌, refl, sym, ap, ◌∙◌, subst}
use mathlib.Core.Bool.{Bool, true, false, ◌&&◌, false≢true}
use Prim.Native.Nat.{ℕ, zero, suc, ◌+◌, ◌-◌, ◌^◌, ◌≤◌, ◌<◌}
use native.Mathlib.Nat.{not-suc-le-zero}
use native.Mathlib.Omega.{arith}
use lib.ListN.{length}
use lib.Dec.{ltb, eqb}
use lib.IntN.{ℤ, pos, negsuc, ◌-ℤ◌}
use lib.Signed.{◌≤ℤ◌, ◌<ℤ◌}
use borrow.Author.Tests.{eqb-true, eq-eqb, le-ltb, ltb-true}
use Rattle.lists.specs.Lists.{pick}
use Rattle.lists.proofs.TestLaw.{both_true}
use Rattle.lists.proofs.TabLaw.{length-tab, get_or-tab}
use Rattle.dimrules.specs.Count.{everywhere}
use Rattle.dimrules.specs.Whole.{number_of, ceil_div}
use Rattle.dimrules.specs.Dims.{num}
use Rattle.dimrules.specs.declared.Numbers.{Numbers}
use Rattle.dimrules.proofs.CountLaw.{holds_at}
use Rattle.checks.specs.Check.{is, Relation, less, at_most, Check, check_holds}
use Rattle.checks.specs.Formula.{ints, ceil_z, int, nat, entries, ◌and◌, ◌[=]◌}
use Rattle.checks.specs.Meaning.{Related}
use Rattle.checks.proofs.CheckLaw.{and-true, same_tests, everywhere-all}
use Rattle.checks.proofs.MeaningLaw.{related, unrelated}
use Rattle.checks.proofs.ReadingLaw.{int-list-true, true-int-list}
use Rattle.checks.proofs.TypeLaw.{◌at◌}
use Rattle.op_checks.proofs.PieceLaw.{three-true, true-three}

-- ---- numbers of 64 bits

pub ints-long : (a : Numbers) → length (ints a) ≡ a.count
ints-long a = length-tab a.count (λ d. number_of (num a d))

pub ints_at : (a : Numbers) (d : ℕ) → d < a.count → ints a at d ≡ number_of (num a d)
ints_at a d h = get_or-tab a.count (λ e. number_of (num a e)) d (pos 0) h

pub number-pos : (w : ℕ) → pos 0 ≤ℤ number_of w → number_of w ≡ pos w
number-pos w h = go (ltb w (2 ^ 63)) h
  where
    go : (b : Bool) → pos 0 ≤ℤ pick b (pos w) (negsuc (2 ^ 64 - 1 - w)) → pick b (pos w) (negsuc (2 ^ 64 - 1 - w)) ≡ pos w
    go true h = refl
    go false h = absurd (false≢true (unrelated at_most (pos 0) (negsuc (2 ^ 64 - 1 - w)) h))

pub number-positive : (w : ℕ) → pos 0 <ℤ number_of w → (number_of w ≡ pos w) × (0 < w)
number-positive w h = go (ltb w (2 ^ 63)) h
  where
    go : (b : Bool) → pos 0 <ℤ pick b (pos w) (negsuc (2 ^ 64 - 1 - w)) → (pick b (pos w) (negsuc (2 ^ 64 - 1 - w)) ≡ pos w) × (0 < w)
    go true h = (refl, ltb-true 0 w (unrelated less (pos 0) (pos w) h))
    go false h = absurd (false≢true (unrelated less (pos 0) (negsuc (2 ^ 64 - 1 - w)) h))

pos-minus : (l s : ℕ) → s ≤ l → pos l -ℤ pos s ≡ pos (l - s)
pos-minus l zero h = ap pos (let e : l + 0 ≡ l - 0 = omega arith in e)
pos-minus l (suc s) h = rw (le-ltb l (suc s) h) refl

pub ceil-nats : (l s t : ℕ) → s ≤ l → 0 < t → ceil_z (pos l -ℤ pos s) (pos t) ≡ is (pos (ceil_div (l - s) t))
ceil-nats l s zero h g = absurd (not-suc-le-zero g)
ceil-nats l s (suc t) h g = rw (pos-minus l s h) refl

-- ---- three lists as long as the rank

pub three-same : (a b c : Numbers) (n : ℕ) →
    check_holds ((nat (length (ints a)) [=] nat (length (ints b))) and (nat (length (ints b)) [=] nat (length (ints c))) and (nat (length (ints c)) [=] nat n))
    ≡ (eqb a.count n && eqb b.count n && eqb c.count n)
three-same a b c n =
    same_tests _ _
    (λ e.
    let h = three-true (length (ints a)) (length (ints b)) (length (ints c)) n e in
    let w : c.count ≡ n = sym (ints-long c) ∙ h.2 in
    let v : b.count ≡ n = sym (ints-long b) ∙ h.1 ∙ h.2 in
    let u : a.count ≡ n = sym (ints-long a) ∙ h.0 ∙ h.1 ∙ h.2 in
    and-true (eqb a.count n && eqb b.count n) (eqb c.count n) (and-true (eqb a.count n) (eqb b.count n) (eq-eqb a.count n u) (eq-eqb b.count n v)) (eq-eqb c.count n w))
    (λ e.
    let h = both_true (eqb a.count n && eqb b.count n) (eqb c.count n) e in
    let g = both_true (eqb a.count n) (eqb b.count n) h.0 in
    let u : length (ints a) ≡ n = ints-long a ∙ eqb-true a.count n g.0 in
    let v : length (ints b) ≡ n = ints-long b ∙ eqb-true b.count n g.1 in
    let w : length (ints c) ≡ n = ints-long c ∙ eqb-true c.count n h.1 in
    true-three (length (ints a)) (length (ints b)) (length (ints c)) n (u ∙ sym v, v ∙ sym w, w))

pub counts_of : (a b c : Numbers) (n : ℕ) →
    check_holds ((nat (length (ints a)) [=] nat (length (ints b))) and (nat (length (ints b)) [=] nat (length (ints c))) and (nat (length (ints c)) [=] nat n)) ≡ true →
    (a.count ≡ n) × (b.count ≡ n) × (c.count ≡ n)
counts_of a b c n e =
    let h = three-true (length (ints a)) (length (ints b)) (length (ints c)) n e in
    (sym (ints-long a) ∙ h.0 ∙ h.1 ∙ h.2, sym (ints-long b) ∙ h.1 ∙ h.2, sym (ints-long c) ∙ h.2)

-- a relation of 0 to each number
pub zero_same : (q : Relation) (a : Numbers) (n : ℕ) (t : ℕ → Bool) → a.count ≡ n → ((d : ℕ) → t d ≡ Rattle.checks.specs.Check.relates q (pos 0) (number_of (num a d))) →
    check_holds (Rattle.checks.specs.Formula.compared q (int (pos 0)) (entries (ints a))) ≡ everywhere n t
zero_same q a n t c f =
    same_tests _ _
    (λ e. everywhere-all n t (λ d h.
    let k : d < a.count = rw c h in
    f d ∙ unrelated q (pos 0) (number_of (num a d)) (subst (λ (z : ℤ). Related q (pos 0) z) (ints_at a d k) (int-list-true q (pos 0) (ints a) e d (rw (ints-long a) k)))))
    (λ e. true-int-list q (pos 0) (ints a) (λ d h.
    let k : d < a.count = rw (ints-long a) at h in
    subst (λ (z : ℤ). Related q (pos 0) z) (sym (ints_at a d k)) (related q (pos 0) (number_of (num a d)) (sym (f d) ∙ holds_at n t e d (rw c at k)))))
