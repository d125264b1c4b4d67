-- The readings of a body cut where an op begins: an op or the return is one piece, and no piece begins in the header.
-- Assumes nothing.
use mathlib.Core.Path.{◌≡◌, refl, sym, ap, subst, ◌∙◌}
use mathlib.Core.List.{List, [], ◌∷◌, ◌++◌}
use mathlib.Core.Bool.{Bool, true, false, not}
use Prim.Native.Nat.{ℕ}
use native.Mathlib.Omega.{arith}
use lib.Dec.{T, eqb, ltb}
use Rattle.lists.specs.Lists.{pick}
use Rattle.grammar.specs.Symbols.{ResultName, OpRest, BodyLabel, ArgumentName, ArgumentType, BodyOpName, BodyReturn, lparen, rparen, comma, colon, equals, MoreResults, Arguments, MoreArguments, among_symbols}
use Rattle.grammar.specs.Grammar.{Production, grammar}
use Rattle.grammar.specs.Derivation.{◌∈◌}
use Rattle.grammar.specs.Leaves.{Yields}
use Rattle.grammar.proofs.TableTest.{both_left, both_right, or}
use Rattle.grammar.proofs.CellView.{rule-passes}
use Rattle.grammar.proofs.Within.{member-passes}
use Rattle.syntax.specs.Readings.{Reading, reading}
use Rattle.syntax.specs.Roles.{roles_of}
use Rattle.syntax.specs.OpsAlone.{Naming, unnamed, results, OpParts}
use Rattle.program.specs.Parts.{depth_after}
use Rattle.scope.specs.Scope.{begins}
use Rattle.source.specs.Source.{cut_from}
use Rattle.part_laws.proofs.DepthLaw.{outside, keeps, yields-outside}
use Rattle.source_laws.proofs.CutLaw.{last_role, ahead, opened, quiet, cut-quiet, cut_opened}
use Rattle.source_laws.proofs.OpCutLaw.{rest_set, within, closed_at_end, last-yields, outside-quiet, free, not_T, OpRole, OnePiece, op-piece}
use Rattle.body_form_laws.proofs.LevelLaw.{outside-both, deeper, through-inside, quiet-inside}

-- ---- the symbols and roles that stand in a body outside further ones

-- result names, with the equals sign
abbrev pub result_set : List ℕ
result_set = ResultName ∷ MoreResults ∷ comma ∷ equals ∷ []

-- the label and the arguments
abbrev pub argument_set : List ℕ
argument_set = BodyLabel ∷ lparen ∷ Arguments ∷ MoreArguments ∷ ArgumentName ∷ ArgumentType ∷ rparen ∷ comma ∷ colon ∷ []

abbrev pub body_set : List ℕ
body_set = ResultName ∷ MoreResults ∷ BodyOpName ∷ BodyReturn ∷ BodyLabel ∷ Arguments ∷ MoreArguments ∷ ArgumentName ∷ ArgumentType ∷ rest_set

keeps-rest : (p : Production) → p ∈ grammar → T (keeps rest_set p)
unfolding grammar depth_after
keeps-rest p m = rule-passes (keeps rest_set) m tt

keeps-results : (p : Production) → p ∈ grammar → T (keeps result_set p)
unfolding grammar depth_after
keeps-results p m = rule-passes (keeps result_set) m tt

keeps-arguments : (p : Production) → p ∈ grammar → T (keeps argument_set p)
unfolding grammar depth_after
keeps-arguments p m = rule-passes (keeps argument_set) m tt

keeps-body : (p : Production) → p ∈ grammar → T (keeps body_set p)
unfolding grammar depth_after
keeps-body p m = rule-passes (keeps body_set) m tt

-- ---- an op of a body, or its return

-- the role of its name
abbrev pub quoted_by : Bool → ℕ
quoted_by b = pick b BodyReturn BodyOpName

quoted-role : (b : Bool) → OpRole (quoted_by b)
unfolding begins depth_after
quoted-role true =
    record { opens = λ b t. (let e = not_T (eqb b equals) (both_right (not (eqb b comma)) (not (eqb b equals)) t) in rw e); named = refl; flat = refl }
quoted-role false =
    record { opens = λ b t. (let e = not_T (eqb b equals) (both_right (not (eqb b comma)) (not (eqb b equals)) t) in rw e); named = refl; flat = refl }

-- result names, or none
naming-case : {ls : List ℕ} (C : List ℕ → Type 0) → Naming ls → C [] → ((ms : List ℕ) → Yields (ResultName ∷ MoreResults ∷ equals ∷ []) ms → C ms) → C ls
naming-case C unnamed x f = x
naming-case C (results {ls} y) x f = f ls y

pub results-outside : (names : List Reading) → Naming (roles_of names) → T (outside result_set 0 (roles_of names))
unfolding depth_after
results-outside names i = naming-case (λ (l : List ℕ). T (outside result_set 0 l)) i tt (λ ms y. yields-outside result_set keeps-results y 0 tt)

pub rest-outside : (rest : List Reading) → Yields (OpRest ∷ []) (roles_of rest) → T (outside rest_set 0 (roles_of rest))
unfolding depth_after
rest-outside rest y = yields-outside rest_set keeps-rest y 0 tt

pub op-inside : (b : Bool) (xs : List Reading) → OpParts (quoted_by b) xs → T (outside body_set 0 (roles_of xs))
unfolding depth_after
op-inside b xs o =
    let names = naming-case (λ (l : List ℕ). T (outside body_set 0 l)) o.naming tt (λ ms y. yields-outside body_set keeps-body y 0 tt) in
    subst (λ (l : List Reading). T (outside body_set 0 (roles_of l))) (sym o.whole) (outside-both body_set 0 o.names (reading true (quoted_by b) o.name ∷ o.rest) names (named b (yields-outside body_set keeps-body o.leaves 0 tt)))
  where
    named : (b : Bool) → T (outside body_set 0 (roles_of o.rest)) → T (outside body_set 0 (quoted_by b ∷ roles_of o.rest))
    named true t = t
    named false t = t

-- one piece, after which another op can begin
one_piece : (role : ℕ) → T (free role) → (xs zs : List Reading) → OnePiece (roles_of xs) → T (outside body_set 0 (roles_of xs)) →
    (cut_from begins 1 role 1 (xs ++ zs) ≡ opened xs (cut_from begins 1 (last_role role (roles_of xs)) 1 zs)) × T (free (last_role role (roles_of xs)))
one_piece role t [] zs o u = let z : ◌≡◌ {A = ℕ} 0 1 = (let e = o.whole in cc) in absurd (omega arith)
one_piece role t (x ∷ xs) zs o u =
    let h : x.role ≡ o.head = (let e = o.whole in cc) in
    let r : roles_of xs ≡ o.others = (let e = o.whole in cc) in
    let f : begins role x.role ≡ true = ap (λ (n : ℕ). begins role n) h ∙ o.opens role t in
    let q : T (quiet begins 0 x.role (depth_after 0 x.role) (roles_of xs)) =
    subst (λ (n : ℕ). T (quiet begins 0 n (depth_after 0 n) (roles_of xs))) (sym h) (subst (λ (l : List ℕ). T (quiet begins 0 o.head (depth_after 0 o.head) l)) (sym r) o.goes) in
    let v : T (outside body_set (depth_after 0 x.role) (roles_of xs)) = both_right (or (ltb 0 0) (among_symbols body_set x.role)) (outside body_set (depth_after 0 x.role) (roles_of xs)) u in
    let g : T (quiet begins 1 x.role (depth_after 1 x.role) (roles_of xs)) =
    subst (λ (d : ℕ). T (quiet begins 1 x.role d (roles_of xs))) (sym (deeper body_set tt 0 x.role (both_left (or (ltb 0 0) (among_symbols body_set x.role)) (outside body_set (depth_after 0 x.role) (roles_of xs)) u)))
    (quiet-inside body_set tt x.role (depth_after 0 x.role) (roles_of xs) v q) in
    let w : T (free (last_role role (roles_of (x ∷ xs)))) = subst (λ (l : List ℕ). T (free (last_role role l))) (sym o.whole) o.ends in (
      cut_opened begins 1 role 1 x xs zs refl f g
          ∙ ap (λ (d : ℕ). opened (x ∷ xs) (cut_from begins 1 (last_role role (roles_of (x ∷ xs))) d zs)) (through-inside body_set tt 0 (roles_of (x ∷ xs)) u),
      w,
    )

pub cut-op : (b : Bool) (role : ℕ) → T (free role) → (xs zs : List Reading) → OpParts (quoted_by b) xs →
    (cut_from begins 1 role 1 (xs ++ zs) ≡ opened xs (cut_from begins 1 (last_role role (roles_of xs)) 1 zs)) × T (free (last_role role (roles_of xs)))
cut-op b role t xs zs o = one_piece role t xs zs (op-piece (quoted_by b) xs (quoted-role b) o) (op-inside b xs o)

-- ---- the header

colon-closed : (p : Production) → p ∈ grammar → T (closed_at_end (colon ∷ []) p)
unfolding grammar
colon-closed p m = rule-passes (closed_at_end (colon ∷ [])) m tt

arguments-within : (r : ℕ) → T (among_symbols argument_set r) → T (within r)
arguments-within r t = member-passes within argument_set r tt t

module _ (head : List Reading) (y : Yields (BodyLabel ∷ lparen ∷ Arguments ∷ rparen ∷ colon ∷ []) (roles_of head)) where
  pub head-inside : T (outside body_set 0 (roles_of head))
  unfolding depth_after
  head-inside = yields-outside body_set keeps-body y 0 tt

  pub head-outside : T (outside argument_set 0 (roles_of head))
  unfolding depth_after
  head-outside = yields-outside argument_set keeps-arguments y 0 tt

  -- after it an op can begin
  pub head-free : (role : ℕ) → T (free (last_role role (roles_of head)))
  head-free role = member-passes free (colon ∷ []) (last_role role (roles_of head)) tt (last-yields (colon ∷ []) colon-closed y role tt)

  pub cut-head : (role : ℕ) (zs : List Reading) → cut_from begins 1 role 1 (head ++ zs) ≡ ahead head (cut_from begins 1 (last_role role (roles_of head)) 1 zs)
  cut-head role zs =
      cut-quiet begins 1 role 1 head zs (quiet-inside argument_set tt role 0 (roles_of head) head-outside (outside-quiet argument_set arguments-within role 0 (roles_of head) head-outside))
      ∙ ap (λ (d : ℕ). ahead head (cut_from begins 1 (last_role role (roles_of head)) d zs)) (through-inside argument_set tt 0 (roles_of head) head-outside)
