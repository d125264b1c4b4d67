use native.Mathlib.Omega.{arith}
use borrow.Author.Tests.{lt-ltb, le-ltb}
use native.Mathlib.Nat.{le_refl}
use Rattle.attributes.specs.Attributes.{attributes_of, name_of, stands}
use Rattle.attributes.proofs.AttributesLaw.{attributes-most}
use Rattle.attributes.proofs.name_of.Goals as goal

pub place_of-requires : goal.place_of-requires
place_of-requires c = let m = attributes-most c.args.op in let h = c.in-Some.ensures.within in (omega arith, omega arith)

pub returns-in-Some : goal.returns-in-Some
unfolding name_of stands
returns-in-Some c = simp (← c.place_of.ensures, ← c.in-Some.ensures.found, lt-ltb _ _ c.in-Some.ensures.within)

pub returns-in-None : goal.returns-in-None
unfolding name_of stands
returns-in-None c = let z = le-ltb _ _ (le_refl (attributes_of c.args.op)) in simp (← c.in-None.ensures.found, z)
