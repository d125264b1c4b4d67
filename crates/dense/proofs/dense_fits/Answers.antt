use Rattle.std.proofs.Common.{◌∙◌}
use Rattle.dense.proofs.ValueLaw.{is-ok, is-some, lists-ok, literal-ok}
use Rattle.dense.proofs.dense_fits.Goals as goal

pub returns-then-t-eq91 : goal.returns-then-t-eq91
returns-then-t-eq91 c = c.is_ok.ensures.value ∙ is-ok _ ∙ lists-ok _ c.args.shape _ _ c.token_at-t.ensures c.if-t-eq91.true _ _ c.lists.ensures

pub returns : goal.returns
returns c = c.is_some.ensures ∙ is-some _ ∙ literal-ok _ c.args.shape _ _ c.token_at-t.ensures c.if-t-eq91.false c.literal.ensures
