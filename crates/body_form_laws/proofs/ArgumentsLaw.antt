-- The arguments of a body: its parts are the lists of their names and of their types.
-- Assumes nothing.
use mathlib.Core.List.{List, [], ◌∷◌}
use Prim.Native.Nat.{ℕ}
use native.Mathlib.Omega.{arith}
use lib.Dec.{T, eqb}
use Rattle.scan.specs.Bytes.{among as one_of}
use Rattle.grammar.specs.Symbols.{ArgumentName, ArgumentType, BodyClose, Body, BodyOps, NamedBodyOps, among_symbols}
use Rattle.grammar.specs.Grammar.{Production, grammar}
use Rattle.grammar.specs.Derivation.{◌∈◌}
use Rattle.grammar.specs.Leaves.{Yields}
use Rattle.grammar.proofs.TableTest.{both_left, both_right}
use Rattle.grammar.proofs.CellView.{rule-passes}
use Rattle.grammar.proofs.Within.{all_in, closed_in, yields_within, all_pass, member-passes}
use Rattle.syntax.specs.Readings.{Reading}
use Rattle.syntax.specs.Roles.{roles_of}
use Rattle.program.specs.Parts.{part_of, no_parts, parts_from}
use Rattle.places.specs.Places.{input_name, input_type}
use Rattle.source.specs.Source.{with_role}
use Rattle.source_laws.specs.Listed.{PartListed}
use Rattle.source_laws.proofs.ListedLaw.{OfPart, parts-listed, same_bool, same-equal}
use Rattle.body_form_laws.proofs.CutLaw.{body_set}

-- the symbols and roles of a body, at any depth
abbrev whole_body : List ℕ
whole_body = BodyOps ∷ NamedBodyOps ∷ BodyClose ∷ body_set

body_closed : (p : Production) → p ∈ grammar → T (closed_in whole_body p)
unfolding grammar
body_closed p m = rule-passes (closed_in whole_body) m tt

of_part : (roles : List ℕ) (k : ℕ) → T (all_pass (λ r. same_bool (one_of roles r) (eqb (part_of r) k)) whole_body) → (xs : List Reading) → T (all_in whole_body (roles_of xs)) → OfPart roles k xs
of_part roles k f [] t = tt
of_part roles k f (x ∷ xs) t =
    let a = among_symbols whole_body x.role in
    let b = all_in whole_body (roles_of xs) in
    (same-equal (one_of roles x.role) (eqb (part_of x.role) k) (member-passes (λ r. same_bool (one_of roles r) (eqb (part_of r) k)) whole_body x.role f (both_left a b t)), of_part roles k f xs (both_right a b t))

module _ (ys : List Reading) (y : Yields (Body ∷ []) (roles_of ys)) where
  pub arguments-listed : PartListed (parts_from 1 no_parts 0 ys) input_name (with_role (ArgumentName ∷ []) 1 0 ys)
  unfolding part_of same_bool
  arguments-listed = parts-listed (ArgumentName ∷ []) input_name 1 ys (omega arith) (of_part (ArgumentName ∷ []) input_name tt ys (yields_within whole_body body_closed y tt))

  pub argument-types-listed : PartListed (parts_from 1 no_parts 0 ys) input_type (with_role (ArgumentType ∷ []) 1 0 ys)
  unfolding part_of same_bool
  argument-types-listed = parts-listed (ArgumentType ∷ []) input_type 1 ys (omega arith) (of_part (ArgumentType ∷ []) input_type tt ys (yields_within whole_body body_closed y tt))
