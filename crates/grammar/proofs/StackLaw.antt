-- A stack that grows down in a list: what it holds is `drop top`.
-- Assumes nothing.
use mathlib.Core.Path.{◌≡◌, refl, subst}
use mathlib.Core.List.{List, [], ◌∷◌, ◌++◌}
use Prim.Native.Nat.{ℕ, suc, ◌+◌, ◌<◌, ◌≤◌}
use native.Mathlib.Omega.{arith}
use native.Mathlib.Numerals.{add-one}
use lib.ListN.{length, get_or, drop, take, set, length-set, drop_of_length-le}
use Rattle.std.proofs.lemmas.List.{length-take-le}
use Rattle.std.proofs.lemmas.List.Edits.{paste_all}
use Rattle.grammar.specs.Advance.{Pushed}
use lib.Seq.{paste, length-paste, drop-append_seam, take-append_seam, drop-cons, drop-set-lt, get_or-set_same}
use Rattle.grammar.specs.Tables.{tail_of}

-- a store just above the stack puts an element on it
pub drop-put : (l : List ℕ) (i x : ℕ) → i < length l → drop i (set l i x) ≡ x ∷ drop (i + 1) l
drop-put l i x h =
    let g : i < length (set l i x) = rw length-set h in
    rw (drop-cons (set l i x) i 0 g, get_or-set_same l i x 0 h, drop-set-lt (suc i) l i x (omega arith), add-one)

-- a store at an array's end is a stack of one
pub put_last : (l : List ℕ) (i x : ℕ) → length l ≡ i + 1 → drop i (set l i x) ≡ x ∷ []
put_last l i x h =
    let d : drop (i + 1) l ≡ [] = drop_of_length-le l {i = i + 1} (omega arith) in
    rw (drop-put l i x (omega arith), d)

pub tail-get : (l : List ℕ) (k : ℕ) → get_or l (k + 1) 0 ≡ get_or (tail_of l) k 0
tail-get [] k = refl
tail-get (x ∷ xs) k = rw add-one

-- a list copied to the places just below the stack is put onto it
pub pasted : (before : List ℕ) (top : ℕ) (tail : List ℕ) (r : ℕ) (after : List ℕ) → r + length tail ≡ top → top ≤ length before →
    after ≡ paste before r tail (length tail) → Pushed before top tail r after
pasted before top tail r after n h e =
    let fits : r ≤ length before = omega arith in
    let front : length (take r before) ≡ r = length-take-le r before fits in
    let whole : after ≡ take r before ++ (tail ++ drop top before) = rw (e, paste_all before r tail (length tail) refl, n) in
    record {
      starts = n;
      above = rw whole (subst (λ k. drop k (take r before ++ (tail ++ drop top before)) ≡ tail ++ drop top before) front (drop-append_seam (take r before) _));
      below = rw whole (subst (λ k. take k (take r before ++ (tail ++ drop top before)) ≡ take r before) front (take-append_seam (take r before) _));
      size = rw e (length-paste before r tail (length tail) (omega arith) (omega arith));
    }
