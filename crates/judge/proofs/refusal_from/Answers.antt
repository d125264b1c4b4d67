use mathlib.Core.Path.{sym}
use Prim.Native.Nat.{ℕ}
use lib.ListN.{length-replicate}
use borrow.Author.Rules.{rules}
use borrow.Author.Tests.{lt-ltb, le-ltb}
use Rattle.judge.proofs.refusal_from.Goals as goal

pub returns-then-text-gt-TEXT : goal.returns-then-text-gt-TEXT
returns-then-text-gt-TEXT c = simp (lt-ltb _ _ c.if-text-gt-TEXT.true)

pub earliest_refusal-requires : goal.earliest_refusal-requires
earliest_refusal-requires c = (search rules, length-replicate {A = ℕ} 655380 0)

pub returns : goal.returns
returns c = simp (← c.earliest_refusal.ensures, le-ltb _ _ c.if-text-gt-TEXT.false)

pub slice_bounds-earliest_refusal-end : goal.slice_bounds-earliest_refusal-end
slice_bounds-earliest_refusal-end c = sym (length-replicate {A = ℕ} 655380 0)
