use Rattle.verdict_lines.proofs.WholeLaw.{verdict-laid}
use Rattle.verdict_lines.proofs.print_verdict.Goals as goal

pub returns : goal.returns
returns c =
    let s = c in
    λ rest counted.
    verdict-laid s.args.text.now rest s.args.more s.requires.0 counted _ _ _ _ c.check.ensures c.whole_refusal.ensures c.print_answer.ensures
