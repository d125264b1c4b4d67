use Rattle.std.proofs.Common.{arith}
use Rattle.verdict_lines.proofs.LineLaw.{spaced-laid}
use Rattle.verdict_lines.proofs.put_spaced.Goals as goal

pub returns : goal.returns
returns c =
    let d = c.decimal-k in
    spaced-laid c.args.n _ _ _ _ _ (omega (arith, c.ranges.n)) d.ensures.len d.ensures.digits c.put-p.ensures c.put_text.ensures
