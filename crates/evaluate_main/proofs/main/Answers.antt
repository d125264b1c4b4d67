-- The lengths of the two arrays are by law: they are too long to count.
use Rattle.std.proofs.Common.{ℕ, ◌≤◌, length, sym, replicate, arith}
use Rattle.std.proofs.lemmas.List.{length-replicate}
use Rattle.evaluate_main.proofs.main.Goals as goal

-- n bytes have room for n
room : (n : ℕ) → n ≤ length (replicate {A = ℕ} n 0)
room n = rw (length-replicate {A = ℕ} n 0) (omega arith)

pub slice_bounds-run-end : goal.slice_bounds-run-end
slice_bounds-run-end c = sym (length-replicate {A = ℕ} 65537 0)

pub slice_bounds-run-end-then-no_arguments : goal.slice_bounds-run-end-then-no_arguments
slice_bounds-run-end-then-no_arguments c = sym (length-replicate {A = ℕ} 1600008 0)

pub run-requires : goal.run-requires
run-requires c = (length-replicate {A = ℕ} 65537 0, room 1600008)
