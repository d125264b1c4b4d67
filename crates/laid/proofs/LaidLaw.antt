-- Laws of memory written one element after the other.
-- Assumes nothing.
use mathlib.Core.Path.{◌≡◌, refl, ap, ◌∙◌}
use mathlib.Core.List.{List, [], ◌∷◌, ◌++◌, append_assoc}
use Prim.Native.Nat.{ℕ, suc, ◌+◌, ◌≤◌, ◌<◌}
use native.Mathlib.Nat.{zero-add, add-zero}
use native.Mathlib.Numerals.{add-one}
use native.Mathlib.Omega.{arith}
use borrow.Author.Tests.{lt-ltb}
use lib.ListN.{length, set, drop, take-append-drop, length-set}
use lib.Seq.{take-suc-set, drop-set-lt}
use Rattle.laid.specs.Laid.{Laid, laid, put, lay, written}

pub lay-none : (l : Laid) → lay [] l ≡ l
unfolding lay
lay-none l = refl

pub lay-one : (x : ℕ) (l : Laid) → lay (x ∷ []) l ≡ put x l
unfolding lay
lay-one x l = refl

pub lay-append : (xs ys : List ℕ) (l : Laid) → lay (xs ++ ys) l ≡ lay ys (lay xs l)
unfolding lay
lay-append [] ys l = refl
lay-append (x ∷ xs) ys l = lay-append xs ys (put x l)

pub put-room : (x k : ℕ) (old : List ℕ) → k < length old → put x (laid k old) ≡ laid (k + 1) (set old k x)
unfolding put
put-room x k old h = rw (lt-ltb k (length old) h)

-- where there is room for all
pub lay-room : (xs : List ℕ) (k : ℕ) (old : List ℕ) → k + length xs ≤ length old → lay xs (laid k old) ≡ written xs k old
unfolding lay
lay-room [] k old h = rw (add-zero, take-append-drop)
lay-room (x ∷ xs) k old h =
    let e : suc k + length xs ≡ k + suc (length xs) = omega arith in
    ap (λ (l : Laid). lay xs l) (put-room x k old (omega arith) ∙ ap (λ (n : ℕ). laid n (set old k x)) (add-one k))
    ∙ lay-room xs (suc k) (set old k x) (rw length-set (omega arith))
    ∙ rw (take-suc-set old k x (omega arith), drop-set-lt (suc k + length xs) old k x (omega arith), append_assoc, e)

pub lay-front : (xs old : List ℕ) → length xs ≤ length old → (lay xs (laid 0 old)).memory ≡ xs ++ drop (length xs) old
lay-front xs old h = ap (λ (l : Laid). l.memory) (lay-room xs 0 old (rw zero-add h)) ∙ rw zero-add
