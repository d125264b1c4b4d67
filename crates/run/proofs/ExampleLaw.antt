-- The order theorem worked on a small set of ops: its premises can be met, and what it says computes.
-- Assumes nothing.
use mathlib.Core.Path.{◌≡◌, refl, sym, ap, ◌∙◌, subst}
use mathlib.Core.Bool.{Bool, true, false}
use mathlib.Core.List.Memᴰ
use mathlib.Core.List.{List, [], ◌∷◌}
use mathlib.Core.Option.{none, some}
use Prim.Native.Nat.{ℕ, zero, suc, ◌+◌, ◌≤◌, ◌<◌, ◌/◌}
use native.Mathlib.Omega.{arith}
use lib.Dec.{ltb, eqb}
use lib.ListN.{length, get_or, get_elem?}
use Rattle.lists.specs.Lists.{pick, tab, first_where, All}
use Rattle.lists.proofs.TabLaw.{length-tab}
use Rattle.run.specs.Tree.{MonoidOn}
use Rattle.run.specs.Run.{gives, stops, results, stopped, ended, met, count, Scoped, Claim}
use Rattle.run.specs.Ways.{evaluation, free_run, language_of, OrderOf, TreesAllowed, OrderFree, AllFit, Gathers, Premises, by_fold}
use Rattle.run.specs.Example.{SmallTensor, leading, nothing, SmallOp, constant, divide, first, small_operands, small_way, small_rows, quotients, numbers, halves, order, trees, twice}
use Rattle.run.proofs.TableLaw.{count-other}
use Rattle.run.proofs.WaysLaw.{order-free}

-- For all inputs ------------------------------------------------------------------------------------------------------------

is-order : OrderOf numbers halves order
is-order =
    record {
      each-once = once;
      no_other = other;
      operands-first = (
        tt,
        (
          (Memᴰ.tail (Memᴰ.head refl), (Memᴰ.head refl, tt)),
          (tt, ((Memᴰ.tail (Memᴰ.head refl), (Memᴰ.head refl, tt)), tt)),
        ),
      );
    }
  where
    once : (k : ℕ) → k < 4 → count k order ≡ 1
    once zero h = refl
    once (suc zero) h = refl
    once (suc (suc zero)) h = refl
    once (suc (suc (suc zero))) h = refl
    once (suc (suc (suc (suc k)))) h = absurd (omega arith)

    other : (k : ℕ) → 4 ≤ k → count k order ≡ 0
    other k h =
        count-other k 1 (2 ∷ 0 ∷ 3 ∷ []) (omega arith) ∙ count-other k 2 (0 ∷ 3 ∷ []) (omega arith)
        ∙ count-other k 0 (3 ∷ []) (omega arith) ∙ count-other k 3 [] (omega arith)

allowed : TreesAllowed numbers halves trees
allowed (suc (suc (suc zero))) h zero q = refl
allowed (suc (suc (suc zero))) h (suc i) q = absurd (omega arith)
allowed zero h i q = absurd (omega arith)
allowed (suc zero) h i q = absurd (omega arith)
allowed (suc (suc zero)) h i q = absurd (omega arith)
allowed (suc (suc (suc (suc k)))) h i q = absurd (omega arith)

-- what each value can be
abbrev Fits : ℕ → SmallTensor → Type 0
Fits zero v = length v ≡ 3
Fits (suc zero) v = v ≡ nothing ∷ []
Fits (suc (suc zero)) v = length v ≡ 3
Fits (suc (suc (suc zero))) v = length v ≡ 3
Fits (suc (suc (suc (suc i)))) v = Unit {0}

abbrev Any : ℕ → Type 0
Any a = Unit {0}

leading-nothing : (a : ℕ) → leading a nothing ≡ a
leading-nothing zero = refl
leading-nothing (suc a) = refl

leading-assoc : (a b c : ℕ) → leading (leading a b) c ≡ leading a (leading b c)
leading-assoc zero b c = refl
leading-assoc (suc a) b c = refl

leading-monoid : MonoidOn Any leading nothing
leading-monoid =
    record {
      closed = λ a b p q. tt;
      ok-unit = tt;
      unit_left = λ a p. refl;
      unit-right = λ a p. leading-nothing a;
      assoc = λ a b c p q r. leading-assoc a b c;
    }

quotients-length : (n : ℕ) (x y v : SmallTensor) → quotients n x y ≡ gives v → length v ≡ n
quotients-length n x y v = go (ltb (first_where (λ d. eqb d 0) y) n)
  where
    go : (b : Bool) → pick b (stops (first_where (λ d. eqb d 0) y)) (gives (tab n (λ i. get_or x i 0 / get_or y i 0))) ≡ gives v → length v ≡ n
    go true e = absurd (let z : ◌≡◌ {A = ℕ} 0 1 = cc in omega arith)
    go false e = let z : tab n (λ i. get_or x i 0 / get_or y i 0) ≡ v = cc in rw (← z) (length-tab n _)

any : (xs : List ℕ) → All Any xs
any [] = tt
any (x ∷ xs) = (tt, any xs)

-- what each op owes
abbrev Gives : ℕ → SmallOp → Type 0
Gives k o = (args : List SmallTensor) → AllFit Fits (small_operands o) args → (v : SmallTensor) → by_fold numbers (small_way o args) ≡ gives v → Fits (1 + k) v

abbrev Gathered : SmallOp → Type 0
Gathered o = (args : List SmallTensor) → AllFit Fits (small_operands o) args → Gathers Any (small_rows o) (small_way o args)

constant-gives : (xs : SmallTensor) (args : List SmallTensor) (v : SmallTensor) → by_fold numbers (small_way (constant xs) args) ≡ gives v → v ≡ xs
constant-gives xs args v e = let z : xs ≡ v = cc in sym z

leading-gathered : Gathered (first 3 3 1)
leading-gathered (x ∷ s ∷ []) f = rw (f.1.0, f.0) (leading-monoid, (any x, tt), refl)
leading-gathered [] f = absurd f
leading-gathered (x ∷ []) f = absurd f.1
leading-gathered (x ∷ s ∷ y ∷ r) f = absurd f.1.1

gives_all : (k : ℕ) (o : SmallOp) → get_elem? halves.ops k ≡ some o → Gives k o
gives_all zero o e =
    let z : constant (nothing ∷ []) ≡ o = cc in
    subst (Gives 0) z (λ args f v r. constant-gives (nothing ∷ []) args v r)
gives_all (suc zero) o e =
    let z : constant (2 ∷ 2 ∷ 2 ∷ []) ≡ o = cc in
    subst (Gives 1) z (λ args f v r. ap (λ (l : SmallTensor). length l) (constant-gives (2 ∷ 2 ∷ 2 ∷ []) args v r))
gives_all (suc (suc zero)) o e =
    let z : divide 3 0 2 ≡ o = cc in
    subst (Gives 2) z (λ args f v r. quotients-length 3 (get_or args 0 []) (get_or args 1 []) v r)
gives_all (suc (suc (suc zero))) o e = λ args f v r. tt
gives_all (suc (suc (suc (suc k)))) o e = absurd (let z : ◌≡◌ {A = ℕ} 0 1 = cc in omega arith)

gathers-all : (k : ℕ) (o : SmallOp) → get_elem? halves.ops k ≡ some o → Gathered o
gathers-all zero o e = let z : constant (nothing ∷ []) ≡ o = cc in subst Gathered z (λ args f. tt)
gathers-all (suc zero) o e = let z : constant (2 ∷ 2 ∷ 2 ∷ []) ≡ o = cc in subst Gathered z (λ args f. tt)
gathers-all (suc (suc zero)) o e = let z : divide 3 0 2 ≡ o = cc in subst Gathered z (λ args f. tt)
gathers-all (suc (suc (suc zero))) o e = let z : first 3 3 1 ≡ o = cc in subst Gathered z leading-gathered
gathers-all (suc (suc (suc (suc k)))) o e = absurd (let z : ◌≡◌ {A = ℕ} 0 1 = cc in omega arith)

scoped : Scoped (language_of numbers) 1 halves.ops
scoped zero h = tt
scoped (suc zero) h = tt
scoped (suc (suc zero)) h = (omega arith, (omega arith, tt))
scoped (suc (suc (suc zero))) h = (omega arith, (omega arith, tt))
scoped (suc (suc (suc (suc k)))) h = absurd (omega arith)

premises : Premises numbers halves Fits (λ o. Any)
premises =
    record {
      scoped = scoped;
      returned = (omega arith, tt);
      fits = λ k o e args f b v r. gives_all k o e args f v r;
      gathers = λ k o e args f b. gathers-all k o e args f;
      costs = λ k o e args f b v r. omega arith;
      enough = λ k o e args f b c v r h. r;
    }

-- the theorem, of every input of three numbers
pub halves-free : (x : SmallTensor) → length x ≡ 3 → OrderFree numbers halves (x ∷ []) 0
halves-free x h = order-free numbers halves Fits (λ o. Any) premises (x ∷ []) (h, tt) 0

-- and of the order and the trees above
pub halves-ran : (x : SmallTensor) → length x ≡ 3 → Claim (language_of numbers) (4 ∷ []) (evaluation numbers halves (x ∷ []) 0) (free_run numbers halves (x ∷ []) order trees 0)
halves-ran x h = halves-free x h order is-order trees allowed

-- Computed ----------------------------------------------------------------------------------------------------------------

-- the evaluation in text order
evaluated : evaluation numbers halves ((1 ∷ 8 ∷ 6 ∷ []) ∷ []) 0 ≡ results ((1 ∷ 8 ∷ 6 ∷ []) ∷ (nothing ∷ []) ∷ (2 ∷ 2 ∷ 2 ∷ []) ∷ (0 ∷ 4 ∷ 3 ∷ []) ∷ (4 ∷ []) ∷ [])
unfolding first_where
evaluated = refl

-- a run in another order by another tree has the same table
ran : free_run numbers halves ((1 ∷ 8 ∷ 6 ∷ []) ∷ []) order trees 0
    ≡ ended (some (1 ∷ 8 ∷ 6 ∷ []) ∷ some (nothing ∷ []) ∷ some (2 ∷ 2 ∷ 2 ∷ []) ∷ some (0 ∷ 4 ∷ 3 ∷ []) ∷ some (4 ∷ []) ∷ [])
unfolding first_where
ran = refl

-- two zero divisors: the evaluation stops at the text's first, a run in another order meets the other, and adds nothing
refused : evaluation numbers twice ((6 ∷ 5 ∷ []) ∷ (3 ∷ 0 ∷ []) ∷ (0 ∷ 1 ∷ []) ∷ []) 0
    ≡ stopped ((6 ∷ 5 ∷ []) ∷ (3 ∷ 0 ∷ []) ∷ (0 ∷ 1 ∷ []) ∷ []) 0 1
unfolding first_where
refused = refl

met-other : free_run numbers twice ((6 ∷ 5 ∷ []) ∷ (3 ∷ 0 ∷ []) ∷ (0 ∷ 1 ∷ []) ∷ []) (1 ∷ 0 ∷ []) trees 0
    ≡ met (some (6 ∷ 5 ∷ []) ∷ some (3 ∷ 0 ∷ []) ∷ some (0 ∷ 1 ∷ []) ∷ none ∷ none ∷ []) 1 0
unfolding first_where
met-other = refl
