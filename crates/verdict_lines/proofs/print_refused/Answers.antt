use Rattle.judge.specs.Refusals.{numbers_of}
use Rattle.std.specs.Prelude.{Err}
use Rattle.verdict_lines.proofs.LineLaw.{line-laid}
use Rattle.verdict_lines.proofs.print_refused.Goals as goal

pub returns : goal.returns
returns c =
    rw c.numbers-number.ensures (line-laid _ _ _ _ _ _ _ c.requires c.put_text-p.ensures c.put_spaced-q.ensures c.put_spaced-s.ensures c.put_spaced-t.ensures c.put.ensures)
