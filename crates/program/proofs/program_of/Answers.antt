use mathlib.Core.Path.{sym}
use Prim.Native.Nat.{ℕ}
use lib.ListN.{length-replicate}
use borrow.Author.Rules.{rules}
use borrow.Author.Tests.{lt-ltb, le-ltb}
use Rattle.program.specs.Program.{program_of}
use Rattle.program.proofs.program_of.Goals as goal

pub returns-then-text-gt-TEXT : goal.returns-then-text-gt-TEXT
unfolding program_of
returns-then-text-gt-TEXT c = simp (← c.empty_program.ensures, lt-ltb _ _ c.if-text-gt-TEXT.true)

pub program_in-requires : goal.program_in-requires
program_in-requires c = (search rules, length-replicate {A = ℕ} 655380 0)

pub returns : goal.returns
unfolding program_of
returns c = simp (← c.program_in.ensures, le-ltb _ _ c.if-text-gt-TEXT.false)

pub slice_bounds-program_in-end : goal.slice_bounds-program_in-end
slice_bounds-program_in-end c = sym (length-replicate {A = ℕ} 655380 0)
