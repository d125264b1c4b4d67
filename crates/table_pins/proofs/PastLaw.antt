-- Past the ends of the tables of attributes and of first words of choices there is no kind.
-- Assumes nothing.
use mathlib.Core.Path.{◌≡◌}
use mathlib.Core.List.{map}
use Prim.Native.Nat.{ℕ, ◌≤◌}
use lib.ListN.{length, get_or-eq_default}
use Rattle.optable.specs.Table.{Named, attributes, choice_kinds, no_kind, attribute_kind, choice_form}

pub attribute-past : (k : ℕ) → length attributes ≤ k → attribute_kind k ≡ 0
unfolding attribute_kind attributes
attribute-past k h = get_or-eq_default (map (λ (a : Named). a.kind) attributes) no_kind {n = k} h

pub form-past : (k : ℕ) → length choice_kinds ≤ k → choice_form k ≡ 0
unfolding choice_form choice_kinds
form-past k h = get_or-eq_default (map (λ (a : Named). a.kind) choice_kinds) no_kind {n = k} h
