use mathlib.Core.Path.{◌≡◌}
use native.Mathlib.Omega.{arith}
use lib.ListN.{length, get_or}
use borrow.Author.Rules.{rules}
use borrow.Author.Tests.{lt-ltb, le-ltb}
use Rattle.values.specs.Values.{no_value}
use Rattle.values.proofs.ValuesLaw.{any-default}
use Rattle.places.proofs.TypeInLaw.{part-sized}
use Rattle.operands.specs.Operands.{operand_typed}
use Rattle.operands.proofs.operand_typed.Goals as goal

pub same_type-requires : goal.same_type-requires
same_type-requires c = rw c.type_of-written.ensures (part-sized _ _ _ _)

pub returns-in-Some : goal.returns-in-Some
unfolding operand_typed
returns-in-Some c =
    let a = c.args in
    let long : length a.values.list ≡ 264 = search rules in
    let i = c.in-Some.i in
    let h = c.in-Some.ensures.within in
    let q : get_or a.values.list i no_value ≡ get_or a.values.list i _ = any-default a.values.list i no_value _ (omega (arith, h, c.requires.0, long)) in
    rw (← c.place_of.ensures, ← c.in-Some.ensures.place, lt-ltb _ _ h, ← c.type_of-written.ensures, q) c.same_type.ensures

pub returns-in-None : goal.returns-in-None
unfolding operand_typed
returns-in-None c = simp (← c.place_of.ensures, ← c.in-None.ensures.place, le-ltb c.args.n c.args.n (omega arith))
