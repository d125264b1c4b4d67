use mathlib.Core.Path.{◌≡◌, refl}
use Prim.Native.Nat.{◌-◌, ◌+◌}
use native.Mathlib.Omega.{arith}
use lib.ListN.{length, length-set}
use Rattle.grammar.proofs.StackLaw.{put_last}
use Rattle.grammar.proofs.start.Goals as goal

pub shape_of-stack : goal.shape_of-stack
shape_of-stack c = simp length-set

pub returns : goal.returns
returns c =
    let l = c.args.stack.now in
    let n : length l ≡ length l - 1 + 1 = omega arith in
    record { place = omega arith; array = refl; expects = put_last l (length l - 1) _ n; size = simp length-set }
