use Rattle.lists.specs.Lists.{pick}
use lib.Signed.{le_z}
use lib.IntN.{pos, negsuc}
use mathlib.Core.Path.{◌≡◌, refl}
use mathlib.Core.Bool.{Bool, true, false}
use Prim.Native.Nat.{ℕ, ◌^◌}
use lib.Dec.{ltb, leb-zero}
use Rattle.dimrules.specs.Whole.{non_negative}
use Rattle.dimrules.proofs.non_negative.Goals as goal

same : (b : Bool) (w n : ℕ) → b ≡ le_z (pos 0) (pick b (pos w) (negsuc n))
same true w n = simp leb-zero
same false w n = refl

pub returns : goal.returns
unfolding non_negative
returns c = same (ltb c.args.w (2 ^ 63)) c.args.w _
