-- The output of a whole text, from the answer to the part of it that is kept.
-- Assumes nothing.
use mathlib.Core.Path.{◌≡◌, refl, sym, ap, ◌∙◌}
use mathlib.Core.Bool.{Bool, true, false}
use mathlib.Core.List.{List, [], ◌++◌}
use Prim.Native.Nat.{ℕ, ◌+◌, ◌≤◌, ◌<◌}
use native.Mathlib.Decide.{ℕ_discrete}
use native.Mathlib.Omega.{arith}
use borrow.Author.Tests.{eq-eqb, ne_eqb, le-ltb, ltb-true, ltb-false}
use lib.Dec.{ltb}
use lib.ListN.{length, replicate}
use Rattle.lists.specs.Lists.{pick}
use Rattle.laid.specs.Laid.{Laid, written}
use Rattle.judge.specs.Refusals.{Refusal}
use Rattle.judge.specs.Judge.{refuse}
use Rattle.verify.specs.Verify.{verdict}
use Rattle.evaluation.specs.Evaluated.{Evaluated, answer, evaluated}
use Rattle.evaluation.proofs.FittedLaw.{refused}
use Rattle.streams.specs.Cut.{CutOff}
use Rattle.verdict_lines.specs.Lines.{refused_line, whole_refusal}
use Rattle.verdict_lines.proofs.WholeLaw.{long-verdict, nothing-more, all-of-it}
use Rattle.result_lines.specs.ResultLines.{result_lines}
use Rattle.program_output.specs.Output.{alone, output_of}

-- an answer with number 0 is that of an accepted text
pub zero-accepted : (text inputs old new : List ℕ) (r : Refusal) → answer r new ≡ evaluated text inputs old → r.number ≡ 0 → (verdict text).number ≡ 0
zero-accepted text inputs old new r e z = by-verdict (ℕ_discrete (verdict text).number 0)
  where
    by-verdict : Dec ((verdict text).number ≡ 0) → (verdict text).number ≡ 0
    by-verdict (yes h) = h
    by-verdict (no h) = absurd (h (ap (λ (x : Evaluated). x.refusal.number) (refused text inputs old h ∙ sym e) ∙ z))

-- the kept part is accepted where the whole text is
pub kept-accepted : (len more : ℕ) (r : Refusal) → (whole_refusal len more r).number ≡ 0 → r.number ≡ 0
unfolding whole_refusal
kept-accepted len more r = go (ltb 65536 len)
  where
    go : (b : Bool) → (pick b (refuse 1 (len + more) 0) r).number ≡ 0 → r.number ≡ 0
    go true h = absurd (omega arith)
    go false h = h

module _ (text rest : List ℕ) (more : ℕ) (cut : CutOff 65537 (length text) more) (counted : length rest ≡ more) (r : Refusal) (store : List ℕ) (e : answer r store ≡ alone text) where
  -- an accepted text is within the size
  short : r.number ≡ 0 → length text ≤ 65536
  short z = go (ltb 65536 (length text)) (ltb-true 65536 (length text)) (ltb-false 65536 (length text))
    where
      go : (b : Bool) → (b ≡ true → 65536 < length text) → (b ≡ false → length text ≤ 65536) → length text ≤ 65536
      go true p q =
          let one : (verdict text).number ≡ 1 = ap (λ (x : Refusal). x.number) (long-verdict text (p refl)) in
          absurd (omega (arith, one, zero-accepted text [] (replicate 8192 0) store r e z))
      go false p q = q refl

  results-out : r.number ≡ 0 → output_of (text ++ rest) ≡ result_lines text store
  unfolding output_of
  results-out z = rw (nothing-more text rest more cut counted (short z), ← e, eq-eqb r.number 0 z)

  refused-out : (r.number ≡ 0 → ⊥) → output_of (text ++ rest) ≡ refused_line (whole_refusal (length text) more r)
  unfolding output_of whole_refusal
  refused-out z = go (ltb 65536 (length text)) (ltb-true 65536 (length text)) (ltb-false 65536 (length text))
    where
      go : (b : Bool) → (b ≡ true → 65536 < length text) → (b ≡ false → length text ≤ 65536) →
          output_of (text ++ rest) ≡ refused_line (pick b (refuse 1 (length text + more) 0) r)
      go true p q =
          let v = all-of-it text rest more cut counted (p refl) in
          let one : (verdict (text ++ rest)).number ≡ 1 = ap (λ (x : Refusal). x.number) v in
          rw (← refused (text ++ rest) [] (replicate 8192 0) (λ n. omega (arith, one, n)), v)
      go false p q = rw (nothing-more text rest more cut counted (q refl), ← e, ne_eqb r.number 0 z)

  kept-refused : ((whole_refusal (length text) more r).number ≡ 0 → ⊥) → r.number ≡ 0 → ⊥
  unfolding whole_refusal
  kept-refused h z = h (rw (le-ltb 65536 (length text) (short z)) z)

  -- what is laid in each case, x being the refusal of the whole text
  module _ (old : List ℕ) (l : Laid) (x : Refusal) (w : x ≡ whole_refusal (length text) more r) where
    pub results-laid : x.number ≡ 0 → l ≡ written (result_lines text store) 0 old → l ≡ written (output_of (text ++ rest)) 0 old
    results-laid z h = h ∙ ap (λ (x : List ℕ). written x 0 old) (sym (results-out (kept-accepted (length text) more r (sym (ap (λ (y : Refusal). y.number) w) ∙ z))))

    pub refused-laid : (x.number ≡ 0 → ⊥) → l ≡ written (refused_line x) 0 old → l ≡ written (output_of (text ++ rest)) 0 old
    refused-laid z h = h ∙ ap (λ (y : List ℕ). written y 0 old) (ap refused_line w ∙ sym (refused-out (kept-refused (λ q. z (ap (λ (y : Refusal). y.number) w ∙ q)))))
