-- The line of a refusal, laid piece by piece.
-- Assumes nothing.
use mathlib.Core.Path.{◌≡◌, sym, ◌∙◌}
use mathlib.Core.List.{List, [], ◌∷◌, ◌++◌}
use Prim.Native.Nat.{ℕ, ◌^◌, ◌≤◌, ◌<◌}
use native.Mathlib.Omega.{arith}
use borrow.Author.Tests.{eq-eqb, ne_eqb}
use lib.ListN.{length, take, length-append}
use Rattle.scan.specs.Ascii.{ascii}
use Rattle.io.specs.Digits.{last_digits, IsDigitCount}
use Rattle.laid.specs.Laid.{Laid, laid, put, lay, written}
use Rattle.laid.proofs.LaidLaw.{lay-room, lay-one}
use Rattle.printed.specs.Printed.{decimal}
use Rattle.printed.proofs.PrintLaw.{then-lay, then-put}
use Rattle.judge.specs.Refusals.{Refusal}
use Rattle.verdict_lines.specs.Lines.{spaced, refused_line, answer_line}
use Rattle.verdict_lines.proofs.DecimalLaw.{all_digits, few-digits, at-most-20}

-- it has at most 71 bytes
pub line-length : (r : Refusal) → length (refused_line r) ≤ 71
unfolding refused_line
line-length r =
    let b = spaced r.b ++ (10 ∷ []) in
    let a = spaced r.a ++ b in
    omega (
      arith,
      length-append (spaced r.number) a,
      length-append (spaced r.a) b,
      length-append (spaced r.b) (10 ∷ []),
      few-digits 20 r.number,
      few-digits 20 r.a,
      few-digits 20 r.b,
    )

-- the word, the three numbers and the line end, one after the other
pub line-laid : (r : Refusal) (old : List ℕ) (p q s t e : Laid) → 71 ≤ length old → p ≡ lay (ascii "refused") (laid 0 old) → q ≡ lay (spaced r.number) p → s ≡ lay (spaced r.a) q →
    t ≡ lay (spaced r.b) s → e ≡ put 10 t → e ≡ written (refused_line r) 0 old
unfolding refused_line
line-laid r old p q s t e room w n a b end =
    then-lay (ascii "refused") _ (laid 0 old) p e w
    (then-lay (spaced r.number) _ p q e n (then-lay (spaced r.a) _ q s e a (then-lay (spaced r.b) _ s t e b (end ∙ sym (lay-one 10 t)))))
    ∙ lay-room (refused_line r) 0 old (omega (arith, line-length r))

-- a space, and the digits from the array that holds them
pub spaced-laid : (n k : ℕ) (held : List ℕ) (l a b : Laid) → n < 2 ^ 64 → IsDigitCount 10 1 n k → take k held ≡ last_digits 10 k n → a ≡ put 32 l → b ≡ lay (take k held) a → b ≡ lay (spaced n) l
spaced-laid n k held l a b h f e p q = then-put 32 (decimal n) l a b p (rw (e ∙ all_digits 20 k n (at-most-20 n k h f) f) at q)

-- the line of an answer, in its two cases
module _ (r : Refusal) (old : List ℕ) (l : Laid) where
  pub answer-accepted : 71 ≤ length old → r.number ≡ 0 → l ≡ lay (ascii "accepted" ++ (10 ∷ [])) (laid 0 old) → l ≡ written (answer_line r) 0 old
  unfolding answer_line
  answer-accepted room z e = rw (eq-eqb r.number 0 z) (e ∙ lay-room (ascii "accepted" ++ (10 ∷ [])) 0 old (omega arith))

  pub answer-refused : (r.number ≡ 0 → ⊥) → l ≡ written (refused_line r) 0 old → l ≡ written (answer_line r) 0 old
  unfolding answer_line
  answer-refused z e = rw (ne_eqb r.number 0 z) e
