-- What one step of the code does: the stack stands in an array and grows down, so that what is expected is `drop top`.
-- Assumes nothing.
use Rattle.std.specs.Prelude.{ℕ, ◌+◌, ◌-◌, ◌≤◌, ◌≡◌, Bool, true, false, List, [], ◌∷◌, ◌++◌, length, take, drop, set, Option, Some, None}
use Rattle.grammar.specs.declared.Taken.{Taken}
use Rattle.grammar.specs.Machine.{Cell, fails, skips, takes, step}

-- one step: whether the token fits, its role (0 where it does not fit), and where the stack then starts (its end where it does not fit)
pub record Stepped : Type 0 where
  pub fits : Bool
  pub role : ℕ
  pub top : ℕ

-- what the code answers as a step, on an array of n places
abbrev pub step_of : ℕ → Option Taken → Stepped
step_of n (Some t) = record { fits = true; role = t.role; top = t.top }
step_of n None = record { fits = false; role = 0; top = n }

-- an answer, and the array afterwards
pub record Advance : Type 0 where
  pub answer : Stepped
  pub array : List ℕ

abbrev pub advance : Bool → ℕ → ℕ → List ℕ → Advance
advance f r t l = record { answer = record { fits = f; role = r; top = t }; array = l }

-- by what the expected symbols make of the token: where it fails nothing is expected any more and the array stays;
-- else the new stack ends where the array ends, and what stands below it stays
unfoldable pub advance_by : List ℕ → Cell → Advance
advance_by l fails = advance false 0 (length l) l
advance_by l skips = advance false 0 (length l) l
advance_by l (takes role rest) = advance true role (length l - length rest) (take (length l - length rest) l ++ rest)

-- a step by what the code answers: whether the token fits, its role, what is then expected
unfoldable pub step_outcome : Bool → ℕ → List ℕ → Cell
step_outcome true role rest = takes role rest
step_outcome false role rest = fails

-- a stack of one symbol, at the array's end; nothing else changes
pub record Started (before : List ℕ) (symbol r : ℕ) (after : List ℕ) : Type 0 where
  pub place : r + 1 ≡ length before
  pub array : after ≡ set before r symbol
  pub expects : drop r after ≡ symbol ∷ []
  pub size : length after ≡ length before

-- the symbols of a list put onto the stack: they stand above it, and what stands below them stays
pub record Pushed (before : List ℕ) (top : ℕ) (tail : List ℕ) (r : ℕ) (after : List ℕ) : Type 0 where
  pub starts : r + length tail ≡ top
  pub above : drop r after ≡ tail ++ drop top before
  pub below : take r after ≡ take r before
  pub size : length after ≡ length before

-- the contract of one step: an equation, and what follows from it for the next step
pub record Advanced (before : List ℕ) (top kind : ℕ) (s : Stepped) (after : List ℕ) : Type 0 where
  pub exact : record { answer = s; array = after } ≡ advance_by before (step (drop top before) kind)
  pub steps : step_outcome s.fits s.role (drop s.top after) ≡ step (drop top before) kind
  pub size : length after ≡ length before
  pub within : s.top ≤ length before
  pub room : top ≤ s.top + 10
