use mathlib.Core.Path.{sym}
use Rattle.reading_laws.proofs.OpsLaw.{few_bytes, read-program}
use Prim.Native.Nat.{ℕ}
use lib.ListN.{length-replicate}
use Rattle.values.proofs.ValuesLaw.{inputs-few}
use Rattle.verify.proofs.checked.Goals as goal

pub program_refusal-requires : goal.program_refusal-requires
program_refusal-requires c =
    let e = c.requires in
    (rw c.program_of-p.ensures (read-program _ e).most, rw c.values_in-vs.ensures (inputs-few _ _), record { few = few_bytes _ e; stacked = length-replicate {A = ℕ} 655380 0; named = length-replicate {A = ℕ} 65801 0 })

pub returns : goal.returns
returns c = rw (← c.program_of-p.ensures, ← c.values_in-vs.ensures) c.program_refusal.ensures

pub slice_bounds-program_refusal-end : goal.slice_bounds-program_refusal-end
slice_bounds-program_refusal-end c = sym (length-replicate {A = ℕ} 655380 0)

pub slice_bounds-program_refusal-end-2 : goal.slice_bounds-program_refusal-end-2
slice_bounds-program_refusal-end-2 c = sym (length-replicate {A = ℕ} 65801 0)
