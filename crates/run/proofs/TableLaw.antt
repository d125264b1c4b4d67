-- Laws of a run's table: what it holds, what its values took from the budget, and how often an op is listed.
-- Assumes nothing.
use mathlib.Core.Path.{◌≡◌, refl, sym, ap, ◌∙◌, subst}
use mathlib.Core.Bool.{Bool, true, false}
use mathlib.Core.List.{List, [], ◌∷◌}
use mathlib.Core.Option.{Option, none, some}
use mathlib.Core.Logic.{◌≢◌}
use Prim.Native.Nat.{ℕ, zero, suc, ◌+◌, ◌≤◌, ◌<◌}
use native.Mathlib.Omega.{arith}
use native.Mathlib.Nat.{not-suc-le-zero, le_of_suc-le-suc}
use native.Mathlib.Decide.{ℕ_discrete}
use lib.Dec.{eqb, T, eqb→eq, eqb_refl}
use lib.ListN.{length, get_or, set}
use lib.Seq.{get_or-set_same, get_or-set_other}
use Rattle.lists.specs.Lists.{All, pick}
use Rattle.run.specs.Run.{read_all, on_option, count}
use Rattle.run.specs.Ways.{AllFit}

abbrev pub none_of : (A : Type 0) → Option A
none_of A = none

-- Tables -----------------------------------------------------------------------------------------------------------------

module _ {A : Type 0} where
  -- what stands in the table t stands in u
  abbrev pub Within : List (Option A) → List (Option A) → Type 0
  Within t u = (i : ℕ) (v : A) → get_or t i none ≡ some v → get_or u i none ≡ some v

  pub within-set : (t : List (Option A)) (j : ℕ) (v : A) → get_or t j none ≡ none → Within t (set t j (some v))
  within-set t j v h i w e = go (ℕ_discrete i j)
    where
      go : Dec (i ≡ j) → get_or (set t j (some v)) i none ≡ some w
      go (yes p) = let z : ◌≡◌ {A = Option A} none (some w) = cc in absurd (let y : ◌≡◌ {A = ℕ} 0 1 = cc in omega arith)
      go (no p) = get_or-set_other t j i (some v) none p ∙ e

  pub set-within : (t u : List (Option A)) (j : ℕ) (v : A) → j < length t → Within t u → get_or u j none ≡ some v → Within (set t j (some v)) u
  set-within t u j v hj tu uj i w e = go (ℕ_discrete i j)
    where
      go : Dec (i ≡ j) → get_or u i none ≡ some w
      go (yes p) =
          let q : get_or (set t j (some v)) i none ≡ some v = ap (λ (k : ℕ). get_or (set t j (some v)) k none) p ∙ get_or-set_same t j (some v) none hj in
          let r : get_or u i none ≡ some v = ap (λ (k : ℕ). get_or u k none) p ∙ uj in
          cc
      go (no p) = tu i w (sym (get_or-set_other t j i (some v) none p) ∙ e)

  abbrev both : Option A → Option (List A) → Option (List A)
  both x r = on_option x none (λ v. on_option r none (λ vs. some (v ∷ vs)))

  pub read-within : (t u : List (Option A)) → Within t u → (is : List ℕ) (vs : List A) → read_all t is ≡ some vs → read_all u is ≡ some vs
  read-within t u tu [] vs e = e
  read-within t u tu (i ∷ is) vs e = go (read-within t u tu is) (get_or t i none) refl (read_all t is) refl e
    where
      go : ((xs : List A) → read_all t is ≡ some xs → read_all u is ≡ some xs)
          → (x : Option A) → get_or t i none ≡ x → (r : Option (List A)) → read_all t is ≡ r → both x r ≡ some vs → both (get_or u i none) (read_all u is) ≡ some vs
      go ih none p r q f = absurd (let y : ◌≡◌ {A = ℕ} 0 1 = cc in omega arith)
      go ih (some x) p none q f = absurd (let y : ◌≡◌ {A = ℕ} 0 1 = cc in omega arith)
      go ih (some x) p (some xs) q f = rw (tu i x p, ih xs q) f

  -- a value stands at place i
  abbrev pub There : List (Option A) → ℕ → Type 0
  There t i = (v : A) × (get_or t i none ≡ some v)

  pub read-there : (t : List (Option A)) (is : List ℕ) → All (There t) is → (vs : List A) × (read_all t is ≡ some vs)
  read-there t [] h = ([], refl)
  read-there t (i ∷ is) h =
      let r = read-there t is h.1 in
      (h.0.0 ∷ r.0, rw (h.0.1, r.1) refl)

  -- every value of the table fits its place
  abbrev pub TableFits : (ℕ → A → Type 0) → List (Option A) → Type 0
  TableFits Fits t = (i : ℕ) (v : A) → get_or t i none ≡ some v → Fits i v

  pub read_fits : {Fits : ℕ → A → Type 0} (t : List (Option A)) → TableFits Fits t → (is : List ℕ) (vs : List A) → read_all t is ≡ some vs → AllFit Fits is vs
  read_fits {Fits} t tf [] [] e = tt
  read_fits {Fits} t tf [] (v ∷ vs) e = absurd (let y : ◌≡◌ {A = ℕ} 0 1 = cc in omega arith)
  read_fits {Fits} t tf (i ∷ is) vs e = go (read_fits {Fits = Fits} t tf is) (get_or t i none) refl (read_all t is) refl vs e
    where
      go : ((xs : List A) → read_all t is ≡ some xs → AllFit Fits is xs)
          → (x : Option A) → get_or t i none ≡ x → (r : Option (List A)) → read_all t is ≡ r → (ws : List A) → both x r ≡ some ws → AllFit Fits (i ∷ is) ws
      go ih none p r q ws f = absurd (let y : ◌≡◌ {A = ℕ} 0 1 = cc in omega arith)
      go ih (some x) p none q ws f = absurd (let y : ◌≡◌ {A = ℕ} 0 1 = cc in omega arith)
      go ih (some x) p (some xs) q [] f = absurd (let y : ◌≡◌ {A = ℕ} 0 1 = cc in omega arith)
      go ih (some x) p (some xs) q (w ∷ ws) f =
          let e0 : x ≡ w = cc in
          let e1 : xs ≡ ws = cc in
          (tf i w (p ∙ ap {B = Option A} some e0), ih ws (q ∙ ap {B = Option (List A)} some e1))

  module _ (turns : A → ℕ) where
    unfoldable pub cost : Option A → ℕ
    cost none = 0
    cost (some v) = turns v

    -- what the values of a table took from the budget
    unfoldable pub spend : List (Option A) → ℕ
    spend [] = 0
    spend (x ∷ t) = cost x + spend t

    pub spend-set : (t : List (Option A)) (j : ℕ) (v : A) → j < length t → get_or t j none ≡ none → spend (set t j (some v)) ≡ spend t + turns v
    unfolding spend cost
    spend-set [] j v h e = absurd (not-suc-le-zero h)
    spend-set (none ∷ t) zero v h e = omega arith
    spend-set (some w ∷ t) zero v h e = absurd (let y : ◌≡◌ {A = ℕ} 0 1 = cc in omega arith)
    spend-set (x ∷ t) (suc j) v h e = omega (arith, spend-set t j v (le_of_suc-le-suc h) e)

    cost-le : (x y : Option A) → ((v : A) → x ≡ some v → y ≡ some v) → cost x ≤ cost y
    unfolding cost
    cost-le none y f = omega arith
    cost-le (some v) y f = rw (f v refl) (omega arith)

    pub spend-le : (t u : List (Option A)) → length t ≡ length u → Within t u → spend t ≤ spend u
    unfolding spend
    spend-le [] u e h = omega arith
    spend-le (x ∷ t) [] e h = absurd (omega arith)
    spend-le (x ∷ t) (y ∷ u) e h =
        omega (arith, cost-le x y (λ v p. h zero v p), spend-le t u (omega arith) (λ i v p. h (suc i) v p))

-- How often an op is listed ----------------------------------------------------------------------------------------------

T_true : (b : Bool) → T b → b ≡ true
T_true true h = refl
T_true false h = absurd h

pub count_head : (k : ℕ) (js : List ℕ) → count k (k ∷ js) ≡ suc (count k js)
count_head k js = rw (T_true (eqb k k) (eqb_refl k))

pub count-move : (k j : ℕ) (ds js : List ℕ) → count k (j ∷ ds) + count k js ≡ count k ds + count k (j ∷ js)
count-move k j ds js = go (eqb k j) (count k ds) (count k js)
  where
    go : (b : Bool) (x y : ℕ) → pick b (suc x) x + y ≡ x + pick b (suc y) y
    go true x y = omega arith
    go false x y = omega arith

pub count-tail : (k j : ℕ) (js : List ℕ) → count k js ≤ count k (j ∷ js)
count-tail k j js = go (eqb k j) (count k js)
  where
    go : (b : Bool) (x : ℕ) → x ≤ pick b (suc x) x
    go true x = omega arith
    go false x = omega arith

pub count-other : (k j : ℕ) (js : List ℕ) → k ≢ j → count k (j ∷ js) ≡ count k js
count-other k j js n = go (eqb k j) refl
  where
    go : (b : Bool) → eqb k j ≡ b → pick b (suc (count k js)) (count k js) ≡ count k js
    go true e = absurd (n (eqb→eq k j (subst T (sym e) tt)))
    go false e = refl
