-- The store's length is by law: it is too long to count.
use Rattle.std.proofs.Common.{ℕ, sym, ◌∙◌}
use Rattle.std.proofs.lemmas.List.{length-replicate}
use Rattle.program_output.proofs.print_output.Goals as goal

pub slice_bounds-evaluate-end-2 : goal.slice_bounds-evaluate-end-2
slice_bounds-evaluate-end-2 c = sym (length-replicate {A = ℕ} 8192 0)

pub print_evaluated-requires : goal.print_evaluated-requires
print_evaluated-requires c =
    let s = c in
    (s.requires.0, s.requires.1, c.evaluate-r.auto.store ∙ length-replicate {A = ℕ} 8192 0, c.evaluate-r.ensures.store_after)

pub returns : goal.returns
returns c = c.print_evaluated.ensures
