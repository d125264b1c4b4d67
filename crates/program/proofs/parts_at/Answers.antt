use mathlib.Core.Path.{sym}
use Prim.Native.Nat.{ℕ}
use lib.ListN.{length-replicate}
use borrow.Author.Rules.{rules}
use borrow.Author.Tests.{lt-ltb, le-ltb}
use Rattle.program.specs.Parts.{parts_at}
use Rattle.program.proofs.parts_at.Goals as goal

pub returns-then-text-gt-TEXT : goal.returns-then-text-gt-TEXT
unfolding parts_at
returns-then-text-gt-TEXT c = simp (← c.empty_parts.ensures, lt-ltb _ _ c.if-text-gt-TEXT.true)

pub parts_of-requires : goal.parts_of-requires
parts_of-requires c = (search rules, length-replicate {A = ℕ} 655380 0)

pub returns : goal.returns
unfolding parts_at
returns c = simp (← c.parts_of.ensures, le-ltb _ _ c.if-text-gt-TEXT.false)

pub slice_bounds-parts_of-end : goal.slice_bounds-parts_of-end
slice_bounds-parts_of-end c = sym (length-replicate {A = ℕ} 655380 0)
