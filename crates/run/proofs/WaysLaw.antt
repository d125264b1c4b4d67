-- The order theorem: neither the order of the ops nor the trees of their reductions alter what a program gives.
-- Assumes nothing.
use mathlib.Core.Path.{◌≡◌, refl, sym, ap, ◌∙◌, subst}
use mathlib.Core.List.{List, [], ◌∷◌, map}
use mathlib.Core.Option.{none, some}
use Prim.Native.Nat.{ℕ, zero, suc, ◌+◌, ◌<◌, suc-le-suc}
use native.Mathlib.Nat.{zero-lt-suc, zero-add}
use native.Mathlib.Omega.{arith}
use lib.ListN.{length, get_or, get_elem?}
use Rattle.lists.specs.Lists.{All}
use Rattle.run.specs.Tree.{Tree, count_from, comb, fold, MonoidOn}
use Rattle.run.specs.Run.{Out, gives, RunProgram, first_table, Scoped}
use Rattle.run.specs.Ways.{Way, plain, gather, OpSet, tree_values, TreesFor, by_fold, by_trees, language_of, OrderOf, sizes_at, TreesAllowed, OrderFree, AllFit, Gathers, Premises, InputsFit}
use Rattle.run.proofs.TreeLaw.{tree-monoid, comb-allowed}
use Rattle.run.proofs.TableLaw.{TableFits}
use Rattle.run.proofs.RunLaw.{Lawful, Agrees}
use Rattle.run.proofs.TextLaw.{none_in, text-order}
use Rattle.run.proofs.OrderLaw.{order-independent-at}

-- the rows' trees give what the folds give
trees-fold : {E : Type 0} {ok : E → Type 0} {f : E → E → E} {s : E} → MonoidOn ok f s → (rows : List (List E)) → All (All ok) rows
    → (trees : ℕ → Tree) → TreesFor (map length rows) trees → tree_values f s trees rows ≡ map (fold f s) rows
trees-fold m [] a trees h = refl
trees-fold m (xs ∷ rows) a trees h =
    rw (tree-monoid m xs a.0 (trees zero) (h zero (zero-lt-suc _)), trees-fold m rows a.1 (λ i. trees (suc i)) (λ i q. h (suc i) (suc-le-suc q)))

-- an op by any allowed trees gives what it gives by the fold
by-trees : (S : OpSet) (ok : S.Element → Type 0) (sizes : List ℕ) (w : Way S.Value S.Stop S.Element) → Gathers ok sizes w
    → (trees : ℕ → Tree) → TreesFor sizes trees → by_trees S trees w ≡ by_fold S w
by-trees S ok sizes (plain r) g trees h = refl
by-trees S ok sizes (gather f s rows) g trees h =
    ap {B = Out S.Value S.Stop} (λ (l : List S.Element). gives (S.value_of l)) (trees-fold g.0 rows g.1 trees (rw (← g.2) at h))

is_within : {A : Type 0} (l : List A) (k : ℕ) (a : A) → get_elem? l k ≡ some a → k < length l
is_within [] k a e = absurd (let y : ◌≡◌ {A = ℕ} 0 1 = cc in omega arith)
is_within (x ∷ l) zero a e = zero-lt-suc _
is_within (x ∷ l) (suc k) a e = suc-le-suc (is_within l k a e)

-- the inputs of a table that fit
module _ {A : Type 0} (Fits : ℕ → A → Type 0) where
  fit_length : (j m : ℕ) (vs : List A) → AllFit Fits (count_from j m) vs → length vs ≡ m
  fit_length j zero [] h = refl
  fit_length j zero (v ∷ vs) h = absurd h
  fit_length j (suc m) [] h = absurd h
  fit_length j (suc m) (v ∷ vs) h = ap suc (fit_length (suc j) m vs h.1)

  first_fits : (j m n : ℕ) (vs : List A) → AllFit Fits (count_from j m) vs → (i : ℕ) (v : A) → get_or (first_table vs n) i none ≡ some v → Fits (j + i) v
  first_fits j zero n [] h i v e = absurd (let q = none_in {A = A} n i in let y : ◌≡◌ {A = ℕ} 0 1 = cc in omega arith)
  first_fits j zero n (x ∷ vs) h i v e = absurd h
  first_fits j (suc m) n [] h i v e = absurd h
  first_fits j (suc m) n (x ∷ vs) h zero v e =
      let z : x ≡ v = cc in
      let y : j ≡ j + 0 = omega arith in
      subst (λ (w : A). Fits (j + 0) w) z (subst (λ (k : ℕ). Fits k x) y h.0)
  first_fits j (suc m) n (x ∷ vs) h (suc i) v e =
      let y : suc j + i ≡ j + suc i = omega arith in
      subst (λ (k : ℕ). Fits k v) y (first_fits (suc j) m n vs h.1 i v e)

-- The order theorem: for every program whose ops meet the premises, on all inputs that fit, with any budget.
pub order-free : (S : OpSet) (p : RunProgram S.Op) (Fits : ℕ → S.Value → Type 0) (Valid : S.Op → S.Element → Type 0) → Premises S p Fits Valid
    → (inputs : List S.Value) → InputsFit p Fits inputs → (b : ℕ) → OrderFree S p inputs b
order-free S p Fits Valid h inputs fit b order or trees ta =
    order-independent-at (language_of S) p.ops inputs Fits table p.inputs (fit_length Fits 0 p.inputs inputs fit) lawful h.scoped
    p.returns h.returned (λ k o args left. by_trees S (trees k) (S.way o args left)) agrees order or b
  where
    table : TableFits Fits (first_table inputs (length p.ops))
    table i v e = rw zero-add at (first_fits Fits 0 p.inputs (length p.ops) inputs fit i v e)

    lawful : Lawful (language_of S) p.inputs p.ops Fits
    lawful = record { fits = h.fits; costs = h.costs; enough = h.enough }

    agrees : Agrees (language_of S) p.ops Fits (λ k o args left. by_trees S (trees k) (S.way o args left))
    agrees k o e args f left v =
        let t : TreesFor (S.row_sizes o) (trees k) = rw e at (ta k (is_within p.ops k o e)) in
        let z = by-trees S (Valid o) (S.row_sizes o) (S.way o args left) (h.gathers k o e args f left) (trees k) t in
        (λ q. sym z ∙ q, λ q. z ∙ q)

-- The theorem speaks of something: the text's own order is an order, and there are trees for every reduction.
pub text-is-order : (S : OpSet) (p : RunProgram S.Op) → Scoped (language_of S) p.inputs p.ops → OrderOf S p (count_from 0 (length p.ops))
text-is-order S p h = text-order (language_of S) p.inputs p.ops h

pub combs-allowed : (S : OpSet) (p : RunProgram S.Op) → TreesAllowed S p (λ k i. comb (get_or (sizes_at S p k) i 0))
combs-allowed S p k h i q = comb-allowed (get_or (sizes_at S p k) i 0)
