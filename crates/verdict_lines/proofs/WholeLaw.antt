-- A text of which the first bytes are kept and the others are counted: what its refusal is.
-- Assumes nothing.
use mathlib.Core.Path.{◌≡◌, refl, sym, ap, ◌∙◌}
use mathlib.Core.Bool.{Bool, true, false}
use mathlib.Core.List.{List, [], ◌∷◌, ◌++◌, append-nil}
use Prim.Native.Nat.{ℕ, zero, suc, ◌+◌, ◌≤◌, ◌<◌}
use native.Mathlib.Omega.{arith}
use borrow.Author.Tests.{ltb-true, ltb-false}
use lib.Dec.{ltb}
use Rattle.lists.specs.Lists.{pick}
use lib.ListN.{length, length-append}
use Rattle.judge.specs.Refusals.{Refusal}
use Rattle.laid.specs.Laid.{Laid, written}
use Rattle.judge.specs.Judge.{refuse}
use Rattle.judge.proofs.Theorems.{too_long}
use Rattle.verify.specs.Verify.{verdict}
use Rattle.streams.specs.Cut.{CutOff}
use Rattle.verdict_lines.specs.Lines.{answer_line, verdict_line, whole_refusal}

-- refusal 1 names the text's length
pub long-verdict : (text : List ℕ) → 65536 < length text → verdict text ≡ refuse 1 (length text) 0
unfolding verdict
long-verdict text h = rw (too_long text h)

module _ (text rest : List ℕ) (more : ℕ) (cut : CutOff 65537 (length text) more) (counted : length rest ≡ more) where
  -- no bytes follow a text within the size
  pub nothing-more : length text ≤ 65536 → text ++ rest ≡ text
  nothing-more h = go rest (rest-short more cut.full counted)
    where
      rest-short : (m : ℕ) → (0 < m → length text ≡ 65537) → length rest ≡ m → length rest ≡ 0
      rest-short zero f e = e
      rest-short (suc m) f e = absurd (omega (arith, f (omega arith)))

      go : (l : List ℕ) → length l ≡ 0 → text ++ l ≡ text
      go [] e = append-nil text
      go (x ∷ l) e = absurd (omega arith)

  -- a longer text has its whole length as A
  pub all-of-it : 65536 < length text → verdict (text ++ rest) ≡ refuse 1 (length text + more) 0
  all-of-it h =
      let n : length (text ++ rest) ≡ length text + more = length-append text rest ∙ ap (λ (k : ℕ). length text + k) counted in
      long-verdict (text ++ rest) (omega (arith, n)) ∙ ap (λ (k : ℕ). refuse 1 k 0) n

  pub whole-verdict : whole_refusal (length text) more (verdict text) ≡ verdict (text ++ rest)
  unfolding whole_refusal
  whole-verdict = go (ltb 65536 (length text)) (ltb-true 65536 (length text)) (ltb-false 65536 (length text))
    where
      go : (b : Bool) → (b ≡ true → 65536 < length text) → (b ≡ false → length text ≤ 65536) →
          pick b (refuse 1 (length text + more) 0) (verdict text) ≡ verdict (text ++ rest)
      go true p q = sym (all-of-it (p refl))
      go false p q = ap verdict (sym (nothing-more (q refl)))

  -- the line that is laid for it
  pub verdict-laid : (r x : Refusal) (old : List ℕ) (l : Laid) → r ≡ verdict text → x ≡ whole_refusal (length text) more r → l ≡ written (answer_line x) 0 old →
      l ≡ written (verdict_line (text ++ rest)) 0 old
  unfolding verdict_line
  verdict-laid r x old l v w h = h ∙ ap (λ (y : Refusal). written (answer_line y) 0 old) (w ∙ ap (whole_refusal (length text) more) v ∙ whole-verdict)
