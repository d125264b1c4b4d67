-- The text's own order, and the evaluation as the run in it.
-- Assumes nothing.
use mathlib.Core.Path.{◌≡◌, refl, sym, ap, ◌∙◌, subst}
use mathlib.Core.List.Memᴰ
use mathlib.Core.List.{List, [], ◌∷◌, ◌++◌, map, Memᴰ, append_assoc, append-nil}
use mathlib.Core.Option.{Option, none, some}
use mathlib.Core.Logic.{◌⊎◌, inl, inr}
use Prim.Native.Nat.{ℕ, zero, suc, ◌+◌, ◌-◌, ◌≤◌, ◌<◌}
use native.Mathlib.Omega.{arith}
use native.Mathlib.Nat.{not-suc-le-zero, le_of_suc-le-suc, zero-add, suc-add}
use native.Mathlib.Decide.{ℕ_discrete}
use lib.ListN.{length, get_or, set, replicate, get_elem?, length-append, length-map, length-replicate}
use Rattle.lists.specs.Lists.{All}
use Rattle.lists.proofs.AllLaw.{all_map}
use Rattle.run.specs.Tree.{count_from}
use Rattle.run.specs.Run.{Out, gives, stops, Language, Step, on_out, Answer, results, stopped, values_at, evaluate_from, RunEnd, ended, met}
use Rattle.run.specs.Run.{read_all, first_table, count, run, operands_at, OperandsFirst, Order, Scoped}
use Rattle.run.proofs.TableLaw.{none_of, There, count_head, count-other}
use Rattle.run.proofs.RunLaw.{Under}

-- The first table, and the text's own order ------------------------------------------------------------------------------

count-mem : (k n i : ℕ) → Memᴰ i (count_from k n) → i < k + n
count-mem k zero i h = absurd (Memᴰ.not-nil h)
count-mem k (suc n) i h = go (count-mem (suc k) n i) (Memᴰ.cases_cons h)
  where
    go : (Memᴰ i (count_from (suc k) n) → i < suc k + n) → (i ≡ k) ⊎ Memᴰ i (count_from (suc k) n) → i < k + suc n
    go ih (inl e) = omega arith
    go ih (inr h) = let z = ih h in omega arith

mem-count : (k n i : ℕ) → k ≤ i → i < k + n → Memᴰ i (count_from k n)
mem-count k zero i h g = absurd (omega arith)
mem-count k (suc n) i h g = go (mem-count (suc k) n i) (ℕ_discrete i k)
  where
    go : (suc k ≤ i → i < suc k + n → Memᴰ i (count_from (suc k) n)) → Dec (i ≡ k) → Memᴰ i (k ∷ count_from (suc k) n)
    go ih (yes e) = Memᴰ.head e
    go ih (no e) = Memᴰ.tail (ih (omega arith) (omega arith))

-- op j is listed once by the numbers from k on, if it is one of them
count-before : (j k n : ℕ) → j < k → count j (count_from k n) ≡ 0
count-before j k zero h = refl
count-before j k (suc n) h = count-other j k (count_from (suc k) n) (omega arith) ∙ count-before j (suc k) n (omega arith)

count-once : (j k n : ℕ) → k ≤ j → j < k + n → count j (count_from k n) ≡ 1
count-once j k zero h g = absurd (omega arith)
count-once j k (suc n) h g = go (count-once j (suc k) n) (ℕ_discrete j k)
  where
    go : (suc k ≤ j → j < suc k + n → count j (count_from (suc k) n) ≡ 1) → Dec (j ≡ k) → count j (k ∷ count_from (suc k) n) ≡ 1
    go ih (yes e) = subst (λ (i : ℕ). count i (k ∷ count_from (suc k) n) ≡ 1) (sym e) (count_head k (count_from (suc k) n) ∙ ap suc (count-before k (suc k) n (omega arith)))
    go ih (no e) = count-other j k (count_from (suc k) n) e ∙ ih (omega arith) (omega arith)

count_past : (j k n : ℕ) → k + n ≤ j → count j (count_from k n) ≡ 0
count_past j k zero h = refl
count_past j k (suc n) h = count-other j k (count_from (suc k) n) (omega arith) ∙ count_past j (suc k) n (omega arith)

first-there : {A : Type 0} (vs : List A) (r : List (Option A)) (i : ℕ) → i < length vs → There (map some vs ++ r) i
first-there [] r i h = absurd (not-suc-le-zero h)
first-there (v ∷ vs) r zero h = (v, refl)
first-there (v ∷ vs) r (suc i) h = first-there vs r i (le_of_suc-le-suc h)

pub none_in : {A : Type 0} (n k : ℕ) → get_or (replicate n (none_of A)) k none ≡ none_of A
none_in zero k = refl
none_in (suc n) zero = refl
none_in {A} (suc n) (suc k) = none_in {A = A} n k

vacant-after : {A : Type 0} (vs : List A) (n k : ℕ) → get_or (map some vs ++ replicate n none) (length vs + k) none ≡ none_of A
vacant-after {A} [] n k = rw zero-add (none_in {A = A} n k)
vacant-after {A} (v ∷ vs) n k = rw suc-add (vacant-after vs n k)

module _ (L : Language) (ops : List L.Op) (inputs : List L.Value) where
  abbrev pub table₀ : List (Option L.Value)
  table₀ = first_table inputs (length ops)

  pub length₀ : length table₀ ≡ length inputs + length ops
  length₀ = length-append (map some inputs) (replicate (length ops) none) ∙ simp (length-map, length-replicate)

  pub under₀ : (order : List ℕ) → Order L (length inputs) ops order → Under L (length inputs) ops order (count_from 0 (length inputs)) [] table₀
  under₀ order h =
      record {
        size = length₀;
        first = h.operands-first;
        known-there = λ i q. first-there inputs (replicate (length ops) none) i (omega (arith, count-mem 0 (length inputs) i q));
        input-there = λ i q. first-there inputs (replicate (length ops) none) i q;
        done-there = λ k q. absurd (omega arith);
        vacant = λ k q. vacant-after inputs (length ops) k;
        each = λ k q. omega (arith, h.each-once k q);
        other = h.no_other;
      }

module _ (L : Language) (m : ℕ) (ops : List L.Op) where
  pub text-order : Scoped L m ops → Order L m ops (count_from 0 (length ops))
  text-order sc =
      record {
        each-once = λ k h. count-once k 0 (length ops) (omega arith) (omega arith);
        no_other = λ k h. count_past k 0 (length ops) (omega arith);
        operands-first = go 0 (length ops) (count_from 0 m) (omega arith) (λ i h. mem-count 0 m i (omega arith) (omega arith));
      }
    where
      go : (k n : ℕ) (known : List ℕ) → k + n ≡ length ops → ((i : ℕ) → i < m + k → Memᴰ i known)
          → OperandsFirst L m ops known (count_from k n)
      go k zero known e h = tt
      go k (suc n) known e h = (
        all_map h (operands_at L m ops k) (sc k (omega arith)),
        go (suc k) n ((m + k) ∷ known) (omega arith) (λ i g. one_more i g (ℕ_discrete i (m + k))),
      )
        where
          one_more : (i : ℕ) → i < m + suc k → Dec (i ≡ m + k) → Memᴰ i ((m + k) ∷ known)
          one_more i g (yes e) = Memᴰ.head e
          one_more i g (no e) = Memᴰ.tail (h i (omega arith))

-- The evaluation is the run in the text's order by the ops' meaning ------------------------------------------------------

op-mid : {A : Type 0} (pre : List A) (o : A) (os : List A) → get_elem? (pre ++ o ∷ os) (length pre) ≡ some o
op-mid [] o os = refl
op-mid (p ∷ pre) o os = op-mid pre o os

pub there-values : (L : Language) (vs : List L.Value) (r : List (Option L.Value)) (i : ℕ) → i < length vs
    → get_or (map some vs ++ r) i none ≡ some (get_or vs i L.blank)
there-values L [] r i h = absurd (not-suc-le-zero h)
there-values L (v ∷ vs) r zero h = refl
there-values L (v ∷ vs) r (suc i) h = there-values L vs r i (le_of_suc-le-suc h)

pub read-values : (L : Language) (vs : List L.Value) (r : List (Option L.Value)) (is : List ℕ) → All (λ i. i < length vs) is
    → read_all (map some vs ++ r) is ≡ some (values_at L vs is)
read-values L vs r [] h = refl
read-values L vs r (i ∷ is) h = rw (there-values L vs r i h.0, read-values L vs r is h.1)

set-mid : {A : Type 0} (vs : List A) (x : Option A) (r : List (Option A)) (v : A) → set (map some vs ++ x ∷ r) (length vs) (some v) ≡ map some (vs ++ v ∷ []) ++ r
set-mid [] x r v = refl
set-mid {A} (w ∷ vs) x r v = ap {B = List (Option A)} (λ l. some w ∷ l) (set-mid vs x r v)

length-snoc : {A : Type 0} (vs : List A) (v : A) → length (vs ++ v ∷ []) ≡ suc (length vs)
length-snoc [] v = refl
length-snoc (w ∷ vs) v = ap suc (length-snoc vs v)

-- a run's end is the answer's: the table of the values that it has, and a stop where it has one
abbrev pub EndsAs : {A B : Type 0} → Answer A B → RunEnd A B → Type 0
EndsAs (results vs) x = x ≡ ended (map some vs)
EndsAs (stopped vs k w) x = (n : ℕ) × (x ≡ met (first_table vs n) k w)

abbrev pub by_meaning : (L : Language) → ℕ → Step L
by_meaning L k = L.meaning

module _ (L : Language) (m : ℕ) where
  pub in-text : (pre os : List L.Op) (vs : List L.Value) (b : ℕ) → length vs ≡ m + length pre → Scoped L m (pre ++ os)
      → EndsAs (evaluate_from L (length pre) os vs b) (run L m (pre ++ os) (by_meaning L) (count_from (length pre) (length os)) (first_table vs (length os)) b)
  in-text pre [] vs b e sc = ap {B = RunEnd L.Value L.Stop} ended (append-nil (map some vs))
  in-text pre (o ∷ os) vs b e sc =
      rw (op-mid pre o os, read-values L vs (none ∷ replicate (length os) none) (L.operands o) early)
      (go (λ v. in-text (pre ++ o ∷ []) os (vs ++ v ∷ []) (b - L.turns v)
      (length-snoc vs v ∙ omega (arith, e, length-snoc pre o)) (rw append_assoc sc))
      (L.meaning o (values_at L vs (L.operands o)) b))
    where
      early : All (λ i. i < length vs) (L.operands o)
      early =
          let z = sc (length pre) (omega (arith, length-append pre (o ∷ os))) in
          subst (λ (n : ℕ). All (λ i. i < n) (L.operands o)) (sym e) (rw (op-mid pre o os) at z)

      go : ((v : L.Value) → EndsAs (evaluate_from L (length (pre ++ o ∷ [])) os (vs ++ v ∷ []) (b - L.turns v))
          (run L m ((pre ++ o ∷ []) ++ os) (by_meaning L) (count_from (length (pre ++ o ∷ [])) (length os)) (first_table (vs ++ v ∷ []) (length os)) (b - L.turns v)))
          → (r : Out L.Value L.Stop)
          → EndsAs (on_out r (λ v. evaluate_from L (suc (length pre)) os (vs ++ v ∷ []) (b - L.turns v)) (λ w. stopped vs (length pre) w))
          (on_out r (λ v. run L m (pre ++ o ∷ os) (by_meaning L) (count_from (suc (length pre)) (length os))
          (set (map some vs ++ none ∷ replicate (length os) none) (m + length pre) (some v)) (b - L.turns v))
          (λ w. met (map some vs ++ none ∷ replicate (length os) none) (length pre) w))
      go ih (gives v) = rw (← e, set-mid vs none (replicate (length os) none) v) (rw (append_assoc, length-snoc) at (ih v))
      go ih (stops w) = (suc (length os), refl)

-- the values of an evaluation that answered results: one for each input and op
pub results-length : (L : Language) (k : ℕ) (os : List L.Op) (vs ws : List L.Value) (b : ℕ) → evaluate_from L k os vs b ≡ results ws → length ws ≡ length vs + length os
results-length L k [] vs ws b e = let z : vs ≡ ws = cc in rw (← z) (omega arith)
results-length L k (o ∷ os) vs ws b e = go (λ v. results-length L (suc k) os (vs ++ v ∷ []) ws (b - L.turns v)) (L.meaning o (values_at L vs (L.operands o)) b) e
  where
    go : ((v : L.Value) → evaluate_from L (suc k) os (vs ++ v ∷ []) (b - L.turns v) ≡ results ws → length ws ≡ length (vs ++ v ∷ []) + length os)
        → (r : Out L.Value L.Stop)
        → on_out r (λ v. evaluate_from L (suc k) os (vs ++ v ∷ []) (b - L.turns v)) (λ w. stopped vs k w) ≡ results ws → length ws ≡ length vs + suc (length os)
    go ih (gives v) f = let z = ih v f in omega (arith, length-snoc vs v)
    go ih (stops w) f = absurd (let z : ◌≡◌ {A = ℕ} 0 1 = cc in omega arith)

-- One step of an evaluation, as a loop takes it -------------------------------------------------------------------------

module _ (L : Language) (k : ℕ) (o : L.Op) (os : List L.Op) (vs : List L.Value) (b : ℕ) where
  pub evaluate-next : (v : L.Value) → L.meaning o (values_at L vs (L.operands o)) b ≡ gives v
      → evaluate_from L k (o ∷ os) vs b ≡ evaluate_from L (suc k) os (vs ++ v ∷ []) (b - L.turns v)
  evaluate-next v e = rw e

  pub evaluate-stop : (w : L.Stop) → L.meaning o (values_at L vs (L.operands o)) b ≡ stops w → evaluate_from L k (o ∷ os) vs b ≡ stopped vs k w
  evaluate-stop w e = rw e
