-- The parts of the header of a text that reading passes are the function's lists.
-- Assumes nothing.
use mathlib.Core.Path.{◌≡◌, refl, sym, ap, subst, ◌∙◌}
use mathlib.Core.List.{List, [], ◌∷◌, ◌++◌, map, append_assoc, append-nil}
use mathlib.Core.Bool.{Bool, true, false, not, ◌&&◌}
use Prim.Native.Nat.{ℕ, zero, suc, ◌+◌, ◌<◌, min}
use native.Mathlib.Omega.{arith}
use lib.Dec.{T, eqb, ltb}
use borrow.Author.Tests.{ne_eqb}
use Rattle.lists.specs.Lists.{pick, All, concat}
use Rattle.scan.specs.Bytes.{among as is_among}
use Rattle.grammar.specs.Symbols.{InputName, InputType, OutputType, ResultName, OpName, FuncReturn, rbrace, End, MoreResults, Op, NamedOp, among_symbols}
use Rattle.grammar.specs.Grammar.{Production, grammar}
use Rattle.grammar.specs.Derivation.{◌∈◌}
use Rattle.grammar.specs.Leaves.{Yields}
use Rattle.grammar.proofs.TableTest.{both, both_left, both_right, both-make, or}
use Rattle.grammar.proofs.CellView.{rule-passes}
use Rattle.grammar.proofs.Within.{all_in, all_pass, yields_within, member-passes}
use Rattle.syntax.specs.Readings.{Reading, readings, readings_of}
use Rattle.syntax.specs.Roles.{roles_of}
use Rattle.syntax.specs.OpsAlone.{OpAlone, Outline}
use Rattle.judge.specs.Judge.{text_refusal}
use Rattle.program.specs.declared.Parts.{Parts}
use Rattle.program.specs.Parts.{part_of, no_parts, depth_after, parts_from}
use Rattle.program.specs.Program.{program_of}
use Rattle.program.proofs.PlaceLaw.{head_set, head-closed}
use Rattle.places.specs.Places.{input_name, input_type, output_type, count_of}
use Rattle.source.specs.Source.{with_role, function_of}
use Rattle.reading_laws.proofs.CountLaw.{wide-none, flat, flat-count, of_part, yields-even}
use Rattle.reading_laws.proofs.DepthLaw.{depth_through}
use Rattle.reading_laws.proofs.OpsLaw.{outlined, at_places}
use Rattle.part_laws.proofs.DepthLaw.{outside, keeps, yields-outside}
use Rattle.part_laws.proofs.GrantedLaw.{header-granted}
use Rattle.source_laws.specs.Listed.{PartListed, SameHeader}
use Rattle.source_laws.proofs.ListedLaw.{OfPart, parts-listed, listed-whole, same_bool, same-equal}
use Rattle.source_laws.proofs.OpCutLaw.{not_T, rest_set, outside-closed}
use Rattle.source_laws.proofs.PiecesLaw.{head-outside}

-- ---- the tokens of some roles, one after the other

pub role-append : (roles : List ℕ) (level d : ℕ) (xs ys : List Reading) → with_role roles level d (xs ++ ys) ≡ with_role roles level d xs ++ with_role roles level (depth_through d (roles_of xs)) ys
role-append roles level d [] ys = refl
role-append roles level d (x ∷ xs) ys = go (eqb d level && is_among roles x.role) (with_role roles level (depth_after d x.role) (xs ++ ys)) (with_role roles level (depth_after d x.role) xs)
    (with_role roles level (depth_through (depth_after d x.role) (roles_of xs)) ys) (role-append roles level (depth_after d x.role) xs ys)
  where
    go : (b : Bool) (l m n : List ℕ) → l ≡ m ++ n → pick b (x.token.start ∷ l) l ≡ pick b (x.token.start ∷ m) m ++ n
    go true l m n e = ap (λ (k : List ℕ). x.token.start ∷ k) e
    go false l m n e = e

-- no member of the set is one of the roles
abbrev pub apart_from : List ℕ → List ℕ → Bool
apart_from roles set = all_pass (λ r. not (is_among roles r)) set

no-token : (roles set : List ℕ) (d r : ℕ) → T (apart_from roles set) → T (or (ltb 0 d) (among_symbols set r)) → (eqb d 0 && is_among roles r) ≡ false
no-token roles set zero r f t = rw (not_T (is_among roles r) (member-passes (λ n. not (is_among roles n)) set r f t))
no-token roles set (suc d) r f t = rw (ne_eqb (suc d) 0 (λ e. omega arith))

pub role-none : (roles set : List ℕ) (d : ℕ) (xs : List Reading) → T (apart_from roles set) → T (outside set d (roles_of xs)) → with_role roles 0 d xs ≡ []
role-none roles set d [] f t = refl
role-none roles set d (x ∷ xs) f t =
    let a = or (ltb 0 d) (among_symbols set x.role) in
    let c = outside set (depth_after d x.role) (roles_of xs) in
    ap (λ (b : Bool). pick b (x.token.start ∷ with_role roles 0 (depth_after d x.role) xs) (with_role roles 0 (depth_after d x.role) xs)) (no-token roles set d x.role f (both_left a c t)) ∙
    role-none roles set (depth_after d x.role) xs f (both_right a c t)

pub role-past : (roles set : List ℕ) (xs ys : List Reading) → T (apart_from roles set) → T (outside set 0 (roles_of xs)) → with_role roles 0 0 (xs ++ ys) ≡ with_role roles 0 0 ys
role-past roles set xs ys f t =
    role-append roles 0 0 xs ys ∙
    (ap (λ (l : List ℕ). l ++ with_role roles 0 (depth_through 0 (roles_of xs)) ys) (role-none roles set 0 xs f t) ∙
    ap (λ (d : ℕ). with_role roles 0 d ys) (outside-closed set 0 (roles_of xs) t))

-- ---- an op outside its bodies

abbrev pub op_set : List ℕ
op_set = Op ∷ NamedOp ∷ MoreResults ∷ ResultName ∷ OpName ∷ FuncReturn ∷ rest_set

keeps-op : (p : Production) → p ∈ grammar → T (keeps op_set p)
unfolding grammar depth_after
keeps-op p m = rule-passes (keeps op_set) m tt

pub op-outside : {ls : List ℕ} → Yields (Op ∷ []) ls → T (outside op_set 0 ls)
unfolding depth_after
op-outside y = yields-outside op_set keeps-op y 0 tt

-- ---- the header

-- the roles of a list in the function's header
abbrev head_role : ℕ → Bool
head_role role = both (apart_from (role ∷ []) op_set) (apart_from (role ∷ []) (rbrace ∷ End ∷ []))

module _ (text : List ℕ) where
  closing-past : (roles : List ℕ) (xs : List Reading) → T (apart_from roles (rbrace ∷ End ∷ [])) → roles_of xs ≡ rbrace ∷ End ∷ [] → with_role roles 0 0 xs ≡ []
  unfolding depth_after
  closing-past roles xs f e = role-none roles (rbrace ∷ End ∷ []) 0 xs f (rw e tt)

  ops-past : (roles ops : List ℕ) (ys : List Reading) → T (apart_from roles op_set) → All (OpAlone text OpName) ops → with_role roles 0 0 (concat (map (readings_of Op text) ops) ++ ys) ≡ with_role roles 0 0 ys
  unfolding concat
  ops-past roles [] ys f a = refl
  ops-past roles (at ∷ ops) ys f a =
      let m = concat (map (readings_of Op text) ops) in
      ap (with_role roles 0 0) (append_assoc (readings_of Op text at) m ys) ∙
      (role-past roles op_set (readings_of Op text at) (m ++ ys) f (op-outside a.0.leaves.leaves) ∙ ops-past roles ops ys f a.1)

  -- what stands in no op stands in the header
  pub in-header : (roles : List ℕ) (o : Outline text) → T (apart_from roles op_set) → T (apart_from roles (rbrace ∷ End ∷ [])) → with_role roles 0 0 (readings text) ≡ with_role roles 0 0 o.header
  in-header roles o f g =
      let ys = readings_of Op text o.last ++ o.closing in
      let zs = concat (map (readings_of Op text) o.ops) ++ ys in
      let n : with_role roles 0 0 zs ≡ [] =
      ops-past roles o.ops ys f o.each ∙ (role-past roles op_set (readings_of Op text o.last) o.closing f (op-outside o.return.leaves.leaves) ∙ closing-past roles o.closing g o.close) in
      ap (with_role roles 0 0) o.whole ∙
      (role-append roles 0 0 o.header zs ∙
      (ap (λ (d : ℕ). with_role roles 0 0 o.header ++ with_role roles 0 d zs) (outside-closed head_set 0 (roles_of o.header) (head-outside text o)) ∙
      (ap (λ (l : List ℕ). with_role roles 0 0 o.header ++ l) n ∙ append-nil (with_role roles 0 0 o.header))))

  -- a role of the header by its part
  abbrev part_test : ℕ → ℕ → ℕ → Bool
  part_test role k r = same_bool (is_among (role ∷ []) r) (eqb (part_of r) k)

  head-part : (role k : ℕ) (xs : List Reading) → T (all_pass (part_test role k) head_set) → T (all_in head_set (roles_of xs)) → OfPart (role ∷ []) k xs
  head-part role k [] f t = tt
  head-part role k (x ∷ xs) f t = (
    same-equal (is_among (role ∷ []) x.role) (eqb (part_of x.role) k) (member-passes (part_test role k) head_set x.role f (both_left (among_symbols head_set x.role) (all_in head_set (roles_of xs)) t)),
    head-part role k xs f (both_right (among_symbols head_set x.role) (all_in head_set (roles_of xs)) t),
  )

  pass-in : (f : ℕ → Bool) (set ls : List ℕ) → T (all_pass f set) → T (all_in set ls) → T (all_pass f ls)
  pass-in f set [] t u = tt
  pass-in f set (l ∷ ls) t u =
      both-make (f l) (all_pass f ls) (member-passes f set l t (both_left (among_symbols set l) (all_in set ls) u)) (pass-in f set ls t (both_right (among_symbols set l) (all_in set ls) u))

  module _ (o : Outline text) where
    header-in : T (all_in head_set (roles_of o.header))
    header-in = yields_within head_set head-closed o.head tt

    header-flat : T (all_pass flat (roles_of o.header))
    unfolding depth_after
    header-flat = pass-in flat head_set (roles_of o.header) tt header-in

    header-even : count_of (parts_from 0 no_parts 0 o.header) input_name ≡ count_of (parts_from 0 no_parts 0 o.header) input_type
    unfolding part_of no_parts count_of
    header-even =
        let a = flat-count o.header no_parts input_name wide-none (omega arith) header-flat in
        let b = flat-count o.header no_parts input_type wide-none (omega arith) header-flat in
        let c : of_part input_name (roles_of o.header) + 0 ≡ of_part input_type (roles_of o.header) + 0 = yields-even o.head in
        let d : of_part input_name (roles_of o.header) ≡ of_part input_type (roles_of o.header) = omega arith in
        a ∙ (ap (λ (n : ℕ). min (0 + n) 9) d ∙ sym b)

    listed_in : (text_refusal text).number ≡ 0 → (role k : ℕ) → k < 11 → T (head_role role) → T (all_pass (part_test role k) head_set) → PartListed (program_of text).header k (with_role (role ∷ []) 0 0 (readings text))
    listed_in e role k h f g =
        let a = apart_from (role ∷ []) op_set in
        let b = apart_from (role ∷ []) (rbrace ∷ End ∷ []) in
        subst (λ (p : Parts). PartListed p k (with_role (role ∷ []) 0 0 (readings text))) (sym (at_places text e o).header)
        (subst (PartListed (parts_from 0 no_parts 0 o.header) k) (sym (in-header (role ∷ []) o (both_left a b f) (both_right a b f)))
        (parts-listed (role ∷ []) k 0 o.header h (head-part role k o.header g header-in)))

    header-by : (text_refusal text).number ≡ 0 → SameHeader (program_of text).header (function_of text)
    unfolding function_of part_of same_bool
    header-by e =
        let g = (header-granted text e).few in
        let z = (at_places text e o).header in
        let a = listed-whole (g input_name tt) (listed_in e InputName input_name (omega arith) tt tt) in
        let b = listed-whole (g input_type tt) (listed_in e InputType input_type (omega arith) tt tt) in
        let c = subst (λ (p : Parts). count_of p input_name ≡ count_of p input_type) (sym z) header-even in
        record {
          inputs = a;
          input_types = b;
          output_types = listed-whole (g output_type tt) (listed_in e OutputType output_type (omega arith) tt tt);
          even = sym b.count ∙ (sym c ∙ a.count);
        }

  -- the header of a text that reading passes
  pub same-header : (text_refusal text).number ≡ 0 → SameHeader (program_of text).header (function_of text)
  same-header e = header-by (outlined text e) e
