use Rattle.judge.proofs.RefusedLaw.{refused-number}
use Rattle.judge.specs.Refusals.{numbers_of}
use Rattle.std.specs.Prelude.{Ok, Err}
use Rattle.std.proofs.Common.{refl}
use Rattle.verdict_lines.proofs.LineLaw.{answer-accepted, answer-refused}
use Rattle.verdict_lines.proofs.print_answer.Goals as goal

pub returns-in-Ok : goal.returns-in-Ok
returns-in-Ok c = rw c.in-Ok.is (answer-accepted (numbers_of (Ok tt)) _ _ c.requires refl c.put_text.ensures)

pub returns-in-Err : goal.returns-in-Err
returns-in-Err c = rw c.in-Err.is (answer-refused (numbers_of (Err c.in-Err.e)) _ _ (refused-number c.in-Err.e) c.print_refused.ensures)
