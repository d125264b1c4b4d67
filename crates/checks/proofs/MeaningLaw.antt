-- Checks hold exactly when what they say is true, both ways.
-- Assumes nothing.
use mathlib.Core.Path.{◌≡◌, refl, sym, ap, ◌∙◌, subst}
use mathlib.Core.Logic.{◌⊎◌, inl, inr}
use mathlib.Core.Bool.{Bool, true, false, ◌||◌, false≢true}
use Prim.Native.Nat.{ℕ}
use lib.Dec.{T}
use lib.IntN.{ℤ, pos, negsuc}
use borrow.Author.Tests.{eqb-true, eq-eqb}
use Rattle.lists.proofs.TestLaw.{both_true}
use Rattle.dimrules.specs.Whole.{eq_int}
use Rattle.checks.specs.Check.{Term, is, missing, Relation, equal, less, at_most, relates, Test, compare, fact, or_else, Check, compares, test_holds, check_holds}
use Rattle.checks.specs.Formula.{Side, one, many, side_at, place_count, lengths, compared, each, ◌and◌}
use Rattle.checks.specs.Meaning.{Related, Compares, TestHolds, AsLong, Between}
use Rattle.checks.proofs.CheckLaw.{and-true, holds-and, holds-once, each_all, all-each}

-- ---- whole numbers

to-test : {b : Bool} → T b → b ≡ true
to-test {b} h = go b h
  where
    go : (c : Bool) → T c → c ≡ true
    go true h = refl
    go false h = absurd h

pub eq_int-true : (a b : ℤ) → eq_int a b ≡ true → a ≡ b
eq_int-true (pos a) (pos b) e = ap pos (eqb-true a b e)
eq_int-true (pos a) (negsuc b) e = absurd (false≢true e)
eq_int-true (negsuc a) (pos b) e = absurd (false≢true e)
eq_int-true (negsuc a) (negsuc b) e = ap negsuc (eqb-true a b e)

pub eq_int-refl : (a : ℤ) → eq_int a a ≡ true
eq_int-refl (pos a) = eq-eqb a a refl
eq_int-refl (negsuc a) = eq-eqb a a refl

pub true-eq_int : (a b : ℤ) → a ≡ b → eq_int a b ≡ true
true-eq_int a b e = subst (λ (c : ℤ). eq_int a c ≡ true) e (eq_int-refl a)

pub related : (r : Relation) (a b : ℤ) → relates r a b ≡ true → Related r a b
related equal a b e = eq_int-true a b e
related less a b e = record { lt = subst T (sym e) tt }
related at_most a b e = record { le = subst T (sym e) tt }

pub unrelated : (r : Relation) (a b : ℤ) → Related r a b → relates r a b ≡ true
unrelated equal a b h = true-eq_int a b h
unrelated less a b h = to-test h.lt
unrelated at_most a b h = to-test h.le

pub compares-true : (a : Term) (r : Relation) (b : Term) → compares a r b ≡ true → Compares a r b
compares-true (is a) r (is b) e = related r a b e
compares-true (is a) r missing e = false≢true e
compares-true missing r b e = false≢true e

pub true-compares : (a : Term) (r : Relation) (b : Term) → Compares a r b → compares a r b ≡ true
true-compares (is a) r (is b) h = unrelated r a b h
true-compares (is a) r missing h = absurd h
true-compares missing r b h = absurd h

-- ---- tests

or_left : (a b : Bool) → a ≡ true → a || b ≡ true
or_left a b e = rw e

or_right : (a b : Bool) → b ≡ true → a || b ≡ true
or_right true b e = refl
or_right false b e = e

pub or-true : (a b : Bool) → a || b ≡ true → (a ≡ true) ⊎ (b ≡ true)
or-true true b e = inl refl
or-true false b e = inr e

either_way : {A B C D : Type 0} → (A → C) → (B → D) → A ⊎ B → C ⊎ D
either_way f g (inl a) = inl (f a)
either_way f g (inr b) = inr (g b)

one_way : {A B C : Type 0} → (A → C) → (B → C) → A ⊎ B → C
one_way f g (inl a) = f a
one_way f g (inr b) = g b

pub passes-true : (t : Test) → test_holds t ≡ true → TestHolds t
passes-true (compare a r b) e = compares-true a r b e
passes-true (fact b) e = e
passes-true (or_else t u) e = either_way (passes-true t) (passes-true u) (or-true (test_holds t) (test_holds u) e)

pub true-passes : (t : Test) → TestHolds t → test_holds t ≡ true
true-passes (compare a r b) h = true-compares a r b h
true-passes (fact b) h = h
true-passes (or_else t u) h = one_way (λ p. or_left (test_holds t) (test_holds u) (true-passes t p)) (λ p. or_right (test_holds t) (test_holds u) (true-passes u p)) h

-- ---- comparisons of sides

lengths-true : (a b : Side) → check_holds (lengths a b) ≡ true → AsLong a b
lengths-true (one x) b e = tt
lengths-true (many l) (one y) e = tt
lengths-true (many l) (many m) e = eqb-true l.count m.count (sym (holds-once (compare (is (pos l.count)) equal (is (pos m.count)))) ∙ e)

true-lengths : (a b : Side) → AsLong a b → check_holds (lengths a b) ≡ true
true-lengths (one x) b h = refl
true-lengths (many l) (one y) h = refl
true-lengths (many l) (many m) h = holds-once (compare (is (pos l.count)) equal (is (pos m.count))) ∙ eq-eqb l.count m.count h

pub compared-true : (r : Relation) (a b : Side) → check_holds (compared r a b) ≡ true → Between r a b
unfolding compared
compared-true r a b e =
    let t : ℕ → Test = λ d. compare (side_at a d) r (side_at b d) in
    let h = both_true (check_holds (lengths a b)) (check_holds (each (place_count a b) t)) (sym (holds-and (lengths a b) (each (place_count a b) t)) ∙ e) in
    (lengths-true a b h.0, λ d l. compares-true (side_at a d) r (side_at b d) (all-each (place_count a b) t h.1 d l))

pub true-compared : (r : Relation) (a b : Side) → Between r a b → check_holds (compared r a b) ≡ true
unfolding compared
true-compared r a b h =
    let t : ℕ → Test = λ d. compare (side_at a d) r (side_at b d) in
    holds-and (lengths a b) (each (place_count a b) t)
    ∙ and-true (check_holds (lengths a b)) (check_holds (each (place_count a b) t)) (true-lengths a b h.0)
    (each_all (place_count a b) t (λ d l. true-compares (side_at a d) r (side_at b d) (h.1 d l)))

pub and-true-both : (a b : Check) → check_holds (a and b) ≡ true → (check_holds a ≡ true) × (check_holds b ≡ true)
and-true-both a b e = both_true (check_holds a) (check_holds b) (sym (holds-and a b) ∙ e)

pub both-and-true : (a b : Check) → check_holds a ≡ true → check_holds b ≡ true → check_holds (a and b) ≡ true
both-and-true a b p q = holds-and a b ∙ and-true (check_holds a) (check_holds b) p q
