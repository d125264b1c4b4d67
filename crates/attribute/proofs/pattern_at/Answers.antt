use Rattle.std.proofs.Common.{◌≡◌, ℕ, refl, ap, ◌∙◌}
use Rattle.std.specs.Prelude.{Option, Some, None, unwrap_or}
use Rattle.types.specs.Numbers.{NumberRead, number_read}
use Rattle.attribute.specs.Attribute.{pattern_at}
use Rattle.attribute.proofs.pattern_at.Goals as goal

bits : (r : Option ℕ) → unwrap_or r 0 ≡ (number_read r).bits
bits (Some b) = refl
bits None = refl

pub returns : goal.returns
unfolding pattern_at
returns c = c.unwrap_or.ensures ∙ bits c.pattern_in.result ∙ ap (λ (n : NumberRead). n.bits) c.pattern_in.ensures
