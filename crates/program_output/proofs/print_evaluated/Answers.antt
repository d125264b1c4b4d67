use Rattle.std.proofs.Common.{sym, ap, refl}
use Rattle.judge.specs.Refusals.{Refusal}
use Rattle.judge.proofs.RefusedLaw.{refused-number}
use Rattle.program_output.proofs.OutputLaw.{zero-accepted, kept-accepted, results-laid, refused-laid}
use Rattle.program_output.proofs.print_evaluated.Goals as goal

pub print_results-requires : goal.print_results-requires
print_results-requires c =
    let z = kept-accepted _ _ _ (sym (ap (λ (x : Refusal). x.number) c.in-Ok.ensures)) in
    (zero-accepted _ _ _ _ _ c.requires.3 z, c.requires.2, c.requires.1)

pub returns-in-Ok : goal.returns-in-Ok
returns-in-Ok c = λ rest counted. results-laid c.args.text.now rest c.args.more c.requires.0 counted _ c.args.store.now c.requires.3 _ _ _ c.in-Ok.ensures refl c.print_results.ensures

pub returns-in-Err : goal.returns-in-Err
returns-in-Err c =
    λ rest counted. refused-laid c.args.text.now rest c.args.more c.requires.0 counted _ c.args.store.now c.requires.3 _ _ _ c.in-Err.ensures (refused-number c.in-Err.e) c.print_refused.ensures
