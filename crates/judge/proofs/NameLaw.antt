-- A name that a table lacks.
-- Assumes nothing.
use mathlib.Core.Path.{◌≡◌, refl, sym, ◌∙◌}
use Prim.Native.Nat.{ℕ, ◌<◌}
use native.Mathlib.Omega.{arith}
use mathlib.Core.Bool.{Bool, true, false, not}
use lib.Dec.{eqb}
use lib.ListN.{length}
use borrow.Author.Tests.{eq-eqb, ne_eqb}
use Rattle.std.specs.Prelude.{Option, Some, None, unwrap_or, is_some, IfSome}
use Rattle.optable.specs.Table.{ops, attributes, choice_kinds, choices, op_names, attribute_names, choice_kind_names, choice_names}

pub ops_alike : length ops ≡ length op_names
unfolding op_names ops
ops_alike = refl

pub attributes_alike : length attributes ≡ length attribute_names
unfolding attribute_names attributes
attributes_alike = refl

pub choice_kinds_alike : length choice_kinds ≡ length choice_kind_names
unfolding choice_kind_names choice_kinds
choice_kinds_alike = refl

pub choices_alike : length choices ≡ length choice_names
unfolding choice_names choices
choices_alike = refl

-- a name is not found where its place is past the table
pub lacks : (r : Option ℕ) (n m x : ℕ) (b : Bool) → is_some r ≡ not b → n ≡ m → unwrap_or r n ≡ x → IfSome r (λ i. i < n) → b ≡ eqb x m
lacks None n m x true s q e h = sym (eq-eqb x m (sym e ∙ q))
lacks None n m x false s q e h = absurd (grind arith)
lacks (Some i) n m x true s q e h = absurd (grind arith)
lacks (Some i) n m x false s q e h = sym (ne_eqb x m (λ z. omega arith))
