use Rattle.std.proofs.Common.{refl}
use Rattle.dense.proofs.ValueLaw.{is-ok, lists_filled, literal-filled, literal-refused}
use Rattle.dense.proofs.read_dense.Goals as goal

pub returns-then-t-eq91 : goal.returns-then-t-eq91
returns-then-t-eq91 c = rw (c.is_ok.ensures.value, is-ok) (lists_filled _ c.args.shape _ _ c.token_at-t.ensures c.if-t-eq91.true _ c.args.out.now c.lists.ensures c.requires.1)

pub returns-in-Some : goal.returns-in-Some
returns-in-Some c = literal-filled _ c.args.shape _ _ c.token_at-t.ensures c.if-t-eq91.false c.in-Some.ensures _ c.args.out.now refl (c.fill.ensures.after (λ y e. e)) c.requires.1

pub returns-in-None : goal.returns-in-None
returns-in-None c = literal-refused _ c.args.shape _ _ c.token_at-t.ensures c.if-t-eq91.false c.in-None.ensures _ refl
