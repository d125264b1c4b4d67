-- What the functions answer: the refusal, or the entries in the array from top on.
-- Assumes nothing.
use Rattle.std.specs.Prelude.{ℕ, suc, ◌+◌, ◌≤◌, ◌≡◌, List, [], ◌∷◌, length, drop, ltb, Result, Ok, Err}
use Rattle.lists.specs.Lists.{pick}
use Rattle.scope.specs.declared.BadName.{BadName}
use Rattle.scope.specs.declared.BadName.TheVariants.{Undefined, Redefined}
use Rattle.scope.specs.Scope.{Scope, scope, fault, body, forget}

abbrev pub answered : Result ℕ BadName → List ℕ → Scope
answered (Ok top) entries = scope (drop top entries)
answered (Err (Undefined a)) entries = fault 5 a
answered (Err (Redefined a)) entries = fault 6 a

-- where the entries start after an answer; d where a name is refused
abbrev pub top_or : ℕ → Result ℕ BadName → ℕ
top_or d (Ok r) = r
top_or d (Err e) = d

-- the answer is s, and at most k entries were added
pub record ScopeAnswered (s : Scope) (k : ℕ) (before : List ℕ) (top : ℕ) (r : Result ℕ BadName) (after : List ℕ) : Type 0 where
  pub answer : answered r after ≡ s
  pub size : length after ≡ length before
  pub room : top ≤ top_or top r + k
  pub within : top_or 0 r ≤ length after

-- where the entries before the last open body start
pub record Forgotten (entries : List ℕ) (top r : ℕ) : Type 0 where
  pub left : drop r entries ≡ forget (drop top entries)
  pub room : top ≤ r
  pub within : r ≤ length entries

-- how many entries on top are waiting names
unfoldable pub waiting_count : List ℕ → ℕ
waiting_count [] = 0
waiting_count (e ∷ es) = pick (ltb body e) (suc (waiting_count es)) 0
