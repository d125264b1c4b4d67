-- The search for a value, and the number of operands.
-- Assumes nothing.
use Prim.Native.Nat.{ℕ, zero, suc, ◌+◌, ◌<◌, ◌≤◌}
use mathlib.Core.Path.{◌≡◌, refl, sym, ap, ◌∙◌}
use mathlib.Core.Bool.{Bool, true, false, not, cond, true≢false}
use mathlib.Core.List.{List, [], ◌∷◌}
use native.Mathlib.Nat.{not-suc-le-zero, le_of_suc-le-suc}
use native.Mathlib.Omega.{arith}
use lib.ListN.{length, get_or, take}
use lib.Seq.{length-take-le}
use lib.Dec.{ltb}
use borrow.Author.Tests.{ltb-false}
use Rattle.std.specs.Prelude.{Option, Some, None, unwrap_or}
use Rattle.std.specs.List.{position, position_or_len}
use Rattle.lists.specs.Lists.{tab, pick, first_where}
use Rattle.lists.proofs.TabLaw.{length-tab}
use Rattle.lists.proofs.SearchLaw.{first-le}
use Rattle.program.specs.declared.Parts.{Parts}
use Rattle.scope.specs.Scope.{same_at}
use Rattle.values.specs.declared.Value.{Value}
use Rattle.values.specs.Values.{no_value}
use Rattle.operands.specs.Operands.{value_named, arity_of}

pub arity-few : (op : Parts) → arity_of op ≤ 8
unfolding arity_of
arity-few op = omega arith

-- value i has the name at byte a
abbrev pub has_name : List ℕ → List Value → ℕ → ℕ → Bool
has_name text values a i = same_at text (get_or values i no_value).name a

-- a search of the first n values for one that passes the test, and a search of their places
seek : (test : Value → Bool) (xs : List Value) (n : ℕ) (t : ℕ → Bool) (f : ℕ → ℕ) → n ≤ length xs → ((k : ℕ) → t (f k) ≡ test (get_or xs k no_value)) → first_where t (tab n f) ≡ position_or_len test (take n xs)
unfolding first_where
seek test xs zero t f l h = refl
seek test [] (suc n) t f l h = absurd (not-suc-le-zero l)
seek test (x ∷ xs) (suc n) t f l h = step (t (f 0)) (test x) refl refl (h 0) (seek test xs n t (λ k. f (suc k)) (le_of_suc-le-suc l) (λ k. h (suc k)))
  where
    step : (b c : Bool) → t (f 0) ≡ b → test x ≡ c → t (f 0) ≡ test x → first_where t (tab n (λ k. f (suc k))) ≡ position_or_len test (take n xs)
        → pick (t (f 0)) 0 (suc (first_where t (tab n (λ k. f (suc k))))) ≡ cond (not (test x)) (1 + position_or_len test (take n xs)) 0
    step true true p q e i = rw (p, q) refl
    step false false p q e i = rw (p, q) (omega arith)
    step true false p q e i = absurd (true≢false (sym p ∙ e ∙ q))
    step false true p q e i = absurd (true≢false (sym q ∙ sym e ∙ p))

module _ (n : ℕ) where
  settle : (p l : ℕ) (b : Bool) → ltb p l ≡ b → l ≡ n → p ≤ n → unwrap_or (cond b (Some p) None) n ≡ p
  settle p l true h e m = refl
  settle p l false h e m = let g = ltb-false p l h in omega arith

module _ (text : List ℕ) (values : List Value) (n a : ℕ) (most : n ≤ length values) where
  abbrev test : Value → Bool
  test v = same_at text v.name a

  same-place : value_named text values n a ≡ position_or_len test (take n values)
  unfolding value_named
  same-place = seek test values n (has_name text values a) (λ i. i) most (λ k. refl)

  upto : value_named text values n a ≤ n
  unfolding value_named
  upto = omega (arith, first-le (has_name text values a) (tab n (λ i. i)), length-tab n (λ (i : ℕ). i))

  -- the place that `position` finds, n where it finds none
  pub found : (r : Option ℕ) → r ≡ position test (take n values) → unwrap_or r n ≡ value_named text values n a
  found r q =
      let p = position_or_len test (take n values) in
      ap (λ (o : Option ℕ). unwrap_or o n) q ∙ settle n p (length (take n values)) _ refl (length-take-le n values most) (omega (arith, same-place, upto)) ∙ sym same-place
