-- What the programs print in place of results: "`refused` and the three numbers, single spaces" (01, "Table of examples").
-- Assumes nothing.
use Rattle.std.specs.Prelude.{ℕ, ◌+◌, List, [], ◌∷◌, ◌++◌, eqb, ltb}
use Rattle.lists.specs.Lists.{pick}
use Rattle.scan.specs.Ascii.{ascii}
use Rattle.printed.specs.Printed.{decimal}
use Rattle.judge.specs.Refusals.{Refusal}
use Rattle.judge.specs.Judge.{refuse}
use Rattle.verify.specs.Verify.{verdict}

-- a space and a number in decimal
abbrev pub spaced : ℕ → List ℕ
spaced n = 32 ∷ decimal n

-- the line of a refusal, with its end, byte 10: "An answer has three numbers: refusal, A, B"
unfoldable pub refused_line : Refusal → List ℕ
refused_line r = ascii "refused" ++ (spaced r.number ++ (spaced r.a ++ (spaced r.b ++ (10 ∷ []))))

-- the line of an answer: "0 | accepted"
unfoldable pub answer_line : Refusal → List ℕ
answer_line r = pick (eqb r.number 0) (ascii "accepted" ++ (10 ∷ [])) (refused_line r)

-- what the checking program prints for a text
unfoldable pub verdict_line : List ℕ → List ℕ
verdict_line text = answer_line (verdict text)

-- the refusal of a text whose first `len` bytes have refusal r, with `more` bytes behind them: "1 | text too long | its length"
unfoldable pub whole_refusal : ℕ → ℕ → Refusal → Refusal
whole_refusal len more r = pick (ltb 65536 len) (refuse 1 (len + more) 0) r
