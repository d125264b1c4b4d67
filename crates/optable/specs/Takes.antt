-- 01, refusal 7: "an element type or rank that the op's Inputs or Outputs table in 000 doesn't take".
-- Assumes nothing.
use Rattle.std.specs.Prelude.{ℕ, Bool, true, not, ◌&&◌, ◌||◌, eqb}
use Rattle.lists.specs.Lists.{pick}
use Rattle.element.specs.Types.{signed_of, bool_of}
use Rattle.element.specs.declared.ElementType.{ElementType}
use Rattle.optable.specs.declared.Takes.{Takes}
use Rattle.optable.specs.declared.Takes.TheVariants.{Any, Integer, Signed, Boolean}
use Rattle.optable.specs.declared.Row.{Row}

-- the wording of 000's tables, for the element types of 01
unfoldable pub takes : Takes → ElementType → Bool
takes Any e = true  -- "tensor", "tensor of boolean or integer type"
takes Integer e = not (bool_of e)  -- "tensor of integer type", "tensor of integer, floating-point, or complex type": signed or unsigned, not i1
takes Signed e = signed_of e  -- "tensor of signed integer, floating-point, or complex type"
takes Boolean e = bool_of e  -- "tensor of boolean type", "tensor of type `i1`"

-- the Inputs table takes a tensor of this element type and rank as operand j
unfoldable pub operand_taken : Row → ℕ → ElementType → ℕ → Bool
operand_taken r j e rank =
    pick (eqb j 0) (takes r.first e) (takes r.rest e && (not r.scalars || eqb rank 0))

-- the Outputs table takes a tensor of this element type as the result
unfoldable pub result_taken : Row → ElementType → Bool
result_taken r e = takes r.result e
