use mathlib.Core.Path.{ap, ◌∙◌}
use Rattle.verdict_laws.proofs.VerdictLaw.{verdict-same}
use Rattle.bench.specs.Numbers.{three_numbers}
use Rattle.bench.proofs.bench_check.Goals as goal

pub returns : goal.returns
returns c = c.answer_of.ensures ∙ ap three_numbers (c.check.ensures ∙ verdict-same _)
