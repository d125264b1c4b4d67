use Rattle.std.proofs.Common.{true, false, sym, ◌∙◌, ◌≡◌, ◌||◌}
use Rattle.element.specs.Types.{signed_of, bool_of}
use Rattle.laid.proofs.LaidLaw.{lay-none, lay-one}
use Rattle.printed.proofs.put_sign.Goals as goal
use Rattle.printed.proofs.put_sign.Goals.{then-is_signed, else-is_signed}

pub returns-then-is_bool : goal.returns-then-is_bool
returns-then-is_bool c =
    let e : (signed_of c.args.e || bool_of c.args.e) ≡ true = elim c.if-is_signed.branch [
      | then-is_signed w ↦ rw (← c.is_signed.ensures, w.if-is_signed.true)
      | else-is_signed w ↦ rw (← c.is_signed.ensures, w.if-is_signed.false, ← w.is_bool.ensures, ← w.value-is) c.if-is_bool.true
    ] in
    rw e (sym (lay-none _))

pub returns-else-is_bool : goal.returns-else-is_bool
returns-else-is_bool c =
    let e : (signed_of c.args.e || bool_of c.args.e) ≡ false = elim c.if-is_signed.branch [
      | then-is_signed w ↦ absurd (cc)
      | else-is_signed w ↦ rw (← c.is_signed.ensures, w.if-is_signed.false, ← w.is_bool.ensures, ← w.value-is) c.if-is_bool.false
    ] in
    rw e (c.put.ensures ∙ sym (lay-one _ _))
