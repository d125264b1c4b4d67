use Rattle.std.proofs.Common.{rules, tests, ◌∙◌, ◌==◌, sym}
use Rattle.std.proofs.lemmas.Iterator.Consumers.{count_from_yields_List, YieldsList-from_filter}
use Rattle.std.proofs.lemmas.Iterator.{YieldsList-from_slice}
use Rattle.std.proofs.lemmas.List.Sums.{length-filter}
use Rattle.types.proofs.ShapeLaw.{counted}
use Rattle.types.proofs.tensors.rank_of.Goals as goal

pub returns : goal.returns
returns c =
    count_from_yields_List c.filter.result _ c.count.ensures.ran (YieldsList-from_filter _ (λ b. b == 120) (YieldsList-from_slice c.args.bytes.now (cc)) c.filter.ensures.closure (λ x b q k. search (rules, tests)))
    ∙ length-filter (λ x. x == 120) c.args.bytes.now ∙ sym (counted 120 c.args.bytes.now)
