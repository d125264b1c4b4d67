-- What reading grants of the header and of each op of a text that it passes.
-- Assumes nothing.
use mathlib.Core.Path.{◌≡◌, refl, sym, ap, subst, ◌∙◌}
use mathlib.Core.List.{List, [], ◌∷◌, ◌++◌, map, append_assoc}
use mathlib.Core.Bool.{Bool, true, false, not}
use Prim.Native.Nat.{ℕ, zero, suc, ◌+◌, ◌-◌, ◌<◌, ◌≤◌}
use native.Mathlib.Omega.{arith}
use native.Mathlib.Decide.{ℕ_discrete}
use lib.Dec.{T, eqb, eqb→eq, ltb, ltb→lt}
use lib.ListN.{length, get_or}
use borrow.Author.Tests.{eqb-true, eq-eqb, ne_eqb, le-ltb}
use Rattle.lists.specs.Lists.{pick, All, concat}
use Rattle.lists.proofs.AllLaw.{all-get}
use Rattle.grammar.specs.Symbols.{ResultName, OpName, FuncReturn, BodyOpen, equals, MoreResults, OpRest, Body, Op, leaf_count, among_symbols}
use Rattle.grammar.specs.Grammar.{Production, grammar}
use Rattle.grammar.specs.Derivation.{◌∈◌}
use Rattle.grammar.specs.Leaves.{Yields, Parsed}
use Rattle.grammar.proofs.TableTest.{implies, implied, up_to, up-to}
use Rattle.grammar.proofs.Within.{all_pass, member-passes}
use Rattle.syntax.specs.Readings.{Reading, reading, readings_of, readings, no_fault, grammar_fault}
use Rattle.syntax.specs.Roles.{roles_of}
use Rattle.syntax.specs.OpsAlone.{Naming, unnamed, results, OpParts, OpAlone, Outline}
use Rattle.judge.specs.declared.tally.Tally.{Tally}
use Rattle.judge.specs.Tally.{at_start, after_token}
use Rattle.judge.specs.Judge.{text_refusal}
use Rattle.syntax.specs.BodiesAlone.{BodyIn}
use Rattle.syntax.proofs.BodyLaw.{bodies}
use Rattle.syntax.proofs.Theorems.{no-fault}
use Rattle.judge.proofs.Theorems.{Each, accepted-each, accepted-sentence}
use Rattle.program.specs.declared.Parts.{Parts}
use Rattle.program.specs.Parts.{part_of, no_parts, depth_after, parts_from, parts_of, parts_at, op_at, body_at}
use Rattle.program.specs.Program.{program_of}
use Rattle.places.specs.Places.{op_name, result_name, operand_name, operand_type, result_type, body_open, input_name, input_type, output_type, count_of, place_of}
use Rattle.reading_laws.proofs.TallyLaw.{tally_after, tally-append, each_append}
use Rattle.reading_laws.proofs.CountLaw.{Wide, wide-none, none-counted}
use Rattle.reading_laws.proofs.OpsLaw.{few_bytes, outlined, at_places, op-count, op-place, last-place}
use Rattle.part_laws.specs.Granted.{type_parts, TypesStand, AtMostEight, OpGranted, NameGranted, HeaderGranted}
use Rattle.part_laws.proofs.PartLaw.{own, owned, parts-count, owned-past, owned-append, without}
use Rattle.part_laws.proofs.CountLaw.{no_return, keeps-no-return, anywhere, keeps-anywhere, no_names, no_operands, no_operand_types, no_result_types, keeps-names, keeps-operands, keeps-operand-types, keeps-result-types, rest-operands, rest-operand-types, rest-result-types, names-few, head-inputs, head-outputs}
use Rattle.part_laws.proofs.OpLaw.{none_in}
use Rattle.part_laws.proofs.DepthLaw.{outside, keeps, yields-outside, outside-append}
use Rattle.part_laws.proofs.NameLaw.{tokens-again, Known, level-known}
use Rattle.part_laws.proofs.StandLaw.{Every, Level, parts-every, level_all, yields-leaves, Typed, all_typed}

-- result names, or none
naming-case : {ls : List ℕ} (C : List ℕ → Type 0) → Naming ls → C [] → ((ms : List ℕ) → Yields (ResultName ∷ MoreResults ∷ equals ∷ []) ms → C ms) → C ls
naming-case C unnamed x f = x
naming-case C (results {ls} y) x f = f ls y

abbrev op_parts : List ℕ
op_parts = result_name ∷ operand_name ∷ operand_type ∷ result_type ∷ []

abbrev head_parts : List ℕ
head_parts = input_name ∷ input_type ∷ output_type ∷ []

pick-case : (C : ℕ → Type 0) (x k : ℕ) (b c : Bool) → eqb k x ≡ b → C x → (T c → C k) → T (pick b true c) → C k
pick-case C x k true c e y g t = subst C (sym (eqb-true k x e)) y
pick-case C x k false c e y g t = g t

one-of-four : (C : ℕ → Type 0) (k : ℕ) → T (among_symbols op_parts k) → C result_name → C operand_name → C operand_type → C result_type → C k
one-of-four C k t a b c d =
    pick-case C result_name k (eqb k result_name) (among_symbols (operand_name ∷ operand_type ∷ result_type ∷ []) k) refl a
    (pick-case C operand_name k (eqb k operand_name) (among_symbols (operand_type ∷ result_type ∷ []) k) refl b
    (pick-case C operand_type k (eqb k operand_type) (among_symbols (result_type ∷ []) k) refl c
    (pick-case C result_type k (eqb k result_type) false refl d (λ z. absurd z))))
    t

one_of_three : (C : ℕ → Type 0) (k : ℕ) → T (among_symbols head_parts k) → C input_name → C input_type → C output_type → C k
one_of_three C k t a b c =
    pick-case C input_name k (eqb k input_name) (among_symbols (input_type ∷ output_type ∷ []) k) refl a
    (pick-case C input_type k (eqb k input_type) (among_symbols (output_type ∷ []) k) refl b
    (pick-case C output_type k (eqb k output_type) false refl c (λ z. absurd z)))
    t

type-part-small : (k : ℕ) → T (among_symbols type_parts k) → k < 11
type-part-small k t = ltb→lt k 11 (member-passes (λ j. ltb j 11) type_parts k tt t)

-- a role that is not noted outside its own part
record Calm (role : ℕ) : Type 0 where
  part : part_of role ≡ 0
  depth : depth_after 0 role ≡ 0

own-none : (k role : ℕ) → Calm role → (0 ≡ k → ⊥) → own k 0 role ≡ 0
own-none k role c n = rw (c.part, ne_eqb 0 k n)

module _ (text : List ℕ) (role : ℕ) (calm : Calm role) (s : Tally) (xs : List Reading) (o : OpParts role xs) (each : Each text s xs) where
  append-roles : (ys : List Reading) → roles_of (ys ++ (reading true role o.name ∷ o.rest)) ≡ roles_of ys ++ (role ∷ roles_of o.rest)
  append-roles [] = refl
  append-roles (y ∷ ys) = ap (λ (l : List ℕ). y.role ∷ l) (append-roles ys)

  roles-are : roles_of xs ≡ roles_of o.names ++ (role ∷ roles_of o.rest)
  roles-are = ap roles_of o.whole ∙ append-roles o.names

  both-each : Each text s o.names × Each text (tally_after text s o.names) (reading true role o.name ∷ o.rest)
  both-each = each_append text o.names (reading true role o.name ∷ o.rest) s (subst (Each text s) o.whole each)

  names-within : T (outside anywhere 0 (roles_of o.names))
  unfolding depth_after
  names-within = naming-case (λ (l : List ℕ). T (outside anywhere 0 l)) o.naming tt (λ ms y. yields-outside anywhere keeps-anywhere y 0 tt)

  -- the tokens of part k are those of the result names and of the rest
  split-owned : (k : ℕ) → (0 ≡ k → ⊥) → owned k 0 (roles_of xs) ≡ owned k 0 (roles_of o.names) + owned k 0 (roles_of o.rest)
  split-owned k n =
      let a = own-none k role calm n in
      let b = ap (λ (d : ℕ). owned k d (roles_of o.rest)) calm.depth in
      ap (owned k 0) roles-are ∙ (owned-append k anywhere 0 (roles_of o.names) (role ∷ roles_of o.rest) names-within ∙ (omega arith))

  no_names_lem : (k : ℕ) (set : List ℕ) → ((p : Production) → p ∈ grammar → T (keeps set p)) → T (without k set) → T (outside set 0 (ResultName ∷ MoreResults ∷ equals ∷ [])) →
      owned k 0 (roles_of o.names) ≡ 0
  no_names_lem k set f free t = naming-case (λ (l : List ℕ). owned k 0 l ≡ 0) o.naming refl (λ ms y. none_in k set f free t y)

  op-few : (k : ℕ) → T (among_symbols op_parts k) → owned k 0 (roles_of xs) ≤ 8
  unfolding part_of depth_after
  op-few k t =
      let b = both-each.1.1 in
      let s2 = after_token text (tally_after text s o.names) role o.name in
      one-of-four (λ (k : ℕ). owned k 0 (roles_of xs) ≤ 8) k t
      (let e = split-owned result_name (λ q. omega arith) in
      let r = none_in result_name no_names keeps-names tt {ss = OpRest ∷ []} tt o.leaves in
      let n = naming-case (λ (l : List ℕ). l ≡ roles_of o.names → owned result_name 0 l ≤ 8) o.naming (λ q. omega arith)
      (λ ms y q. subst (λ (l : List ℕ). owned result_name 0 l ≤ 8) (sym q) (names-few text s o.names both-each.0 (subst (λ (l : List ℕ). Yields (ResultName ∷ MoreResults ∷ equals ∷ []) l) q y))) refl in
      omega arith)
      (let e = split-owned operand_name (λ q. omega arith) in let n = no_names_lem operand_name no_operands keeps-operands tt tt in let r = rest-operands text s2 o.rest b o.leaves in omega arith)
      (let e = split-owned operand_type (λ q. omega arith) in let n = no_names_lem operand_type no_operand_types keeps-operand-types tt tt in let r = rest-operand-types text s2 o.rest b o.leaves in omega arith)
      (let e = split-owned result_type (λ q. omega arith) in let n = no_names_lem result_type no_result_types keeps-result-types tt tt in let r = rest-result-types text s2 o.rest b o.leaves in omega arith)

none_yet : (Q : ℕ → ℕ → Type 0) → Every Q no_parts
none_yet Q k j h l m = absurd (let z = none-counted k in omega arith)

-- what is noted of readings is of the types that they say, and not more than the tokens outside bodies
module _ (text : List ℕ) (s : Tally) (xs : List Reading) (each : Each text s xs) (low : All (λ l. l < leaf_count) (roles_of xs)) where
  pub noted-types : (level : ℕ) → TypesStand text (parts_from level no_parts 0 xs)
  noted-types level k j t l m =
      parts-every (Typed text) level 0 no_parts xs wide-none (none_yet (Typed text)) (level_all (Typed text) level 0 xs (all_typed text s xs low each)) k j
      (type-part-small k t) l m t

  noted-few : (ks : List ℕ) → T (all_pass (λ k. ltb k 11) ks) → ((k : ℕ) → T (among_symbols ks k) → owned k 0 (roles_of xs) ≤ 8) → AtMostEight (parts_from 0 no_parts 0 xs) ks
  noted-few ks u f k t =
      let h = ltb→lt k 11 (member-passes (λ j. ltb j 11) ks k u t) in
      let a = parts-count k 0 no_parts xs wide-none h in
      let b = none-counted k in
      let c = f k t in
      omega arith

-- an op that is no return: its name is noted, and outside bodies no return stands
module _ (text : List ℕ) (s : Tally) (xs : List Reading) (o : OpParts OpName xs) (each : Each text s xs) where
  calm-name : Calm OpName
  unfolding part_of depth_after
  calm-name = record { part = refl; depth = refl }

  own_name : 0 < owned op_name 0 (roles_of xs)
  unfolding part_of depth_after
  own_name =
      let a = ap (owned op_name 0) (roles-are text OpName calm-name s xs o each) in
      let b = owned-append op_name anywhere 0 (roles_of o.names) (OpName ∷ roles_of o.rest) (names-within text OpName calm-name s xs o each) in
      let c : owned op_name 0 (OpName ∷ roles_of o.rest) ≡ 1 + owned op_name 0 (roles_of o.rest) = refl in
      omega arith

  no_return_lem : T (outside no_return 0 (roles_of xs))
  unfolding depth_after
  no_return_lem =
      let a = naming-case (λ (l : List ℕ). T (outside no_return 0 l)) o.naming tt (λ ms y. yields-outside no_return keeps-no-return y 0 tt) in
      let b = yields-outside no_return keeps-no-return o.leaves 0 tt in
      subst (λ (l : List ℕ). T (outside no_return 0 l)) (sym (roles-are text OpName calm-name s xs o each)) (outside-append no_return 0 (roles_of o.names) (OpName ∷ roles_of o.rest) a b)

-- a role in the part of bodies opens one
abbrev body_test : ℕ → Bool
body_test r = implies (eqb (part_of r) body_open) (eqb r BodyOpen)

body-role : (r : ℕ) → r < leaf_count → part_of r ≡ body_open → r ≡ BodyOpen
unfolding part_of
body-role r h e = eqb→eq r BodyOpen (implied (eqb (part_of r) body_open) (eqb r BodyOpen) (up-to leaf_count body_test r tt h) (subst T (sym (eq-eqb (part_of r) body_open e)) tt))

module _ (text : List ℕ) (e : (text_refusal text).number ≡ 0) where
  parts-there : (symbol level at : ℕ) → parts_at symbol level text at ≡ parts_from level no_parts 0 (readings_of symbol text at)
  unfolding parts_at parts_of
  parts-there symbol level at = rw (le-ltb 65536 (length text) (few_bytes text e))

  no-grammar-fault : grammar_fault text ≡ no_fault
  no-grammar-fault = no-fault text (accepted-sentence text e)

  -- the part of bodies holds bodies whose types stand
  abbrev Bodied : ℕ → ℕ → Type 0
  Bodied k a = k ≡ body_open → TypesStand text (body_at text a)

  -- a body that opens among the readings of the text
  body-types : (s : Tally) (pre : List Reading) (x : Reading) (post : List Reading) → readings text ≡ pre ++ (x ∷ post) → x.role ≡ BodyOpen → Each text s (x ∷ post) →
      TypesStand text (body_at text x.token.start)
  unfolding body_at
  body-types s pre x post q w each =
      let b = bodies text no-grammar-fault pre x post q w in
      let ys = readings_of Body text x.token.start in
      let i = (each_append text ys b.others s (subst (Each text s) b.whole each)).0 in
      subst (TypesStand text) (sym (parts-there Body 1 x.token.start)) (noted-types text s ys i (yields-leaves b.leaves.leaves) 1)

  level-bodied : (s : Tally) (d : ℕ) (pre xs post : List Reading) → readings text ≡ pre ++ (xs ++ post) → Each text s (xs ++ post) → All (λ l. l < leaf_count) (roles_of xs) → Level Bodied 0 d xs
  level-bodied s d pre [] post q each low = tt
  level-bodied s d pre (x ∷ xs) post q each low = (
    (λ z l k. body-types s pre x (xs ++ post) q (body-role x.role low.0 k) each),
    level-bodied (after_token text s x.role x.token) (depth_after d x.role) (pre ++ (x ∷ [])) xs post (q ∙ sym (append_assoc pre (x ∷ []) (xs ++ post))) each.1 low.1,
  )

  -- the readings of an op within those of the text, not refused by some state
  pub record Judged (at : ℕ) : Type 0 where
    pub state : Tally
    pub pre : List Reading
    pub post : List Reading
    pub whole : readings text ≡ pre ++ (readings_of Op text at ++ post)
    pub each : Each text state (readings_of Op text at ++ post)

  -- an op or the return, which stands alone at a byte
  alone-granted : (role at : ℕ) → Calm role → OpAlone text role at → Judged at → OpGranted text (op_at text at)
  unfolding op_at
  alone-granted role at c o g =
      let xs = readings_of Op text at in
      let s = g.state in
      let each = (each_append text xs g.post s g.each).0 in
      let low = yields-leaves o.leaves.leaves in
      let z = sym (parts-there Op 0 at) in
      record {
        types = subst (TypesStand text) z (noted-types text s xs each low 0);
        few = subst (λ (p : Parts). AtMostEight p op_parts) z (noted-few text s xs each low op_parts tt (op-few text role c s xs o.parts each));
        bodies = subst (λ (p : Parts). (j : ℕ) → j < count_of p body_open → j < 8 → TypesStand text (body_at text (place_of p body_open j))) z
            (λ j l m. parts-every Bodied 0 0 no_parts xs wide-none (none_yet Bodied) (level-bodied s 0 g.pre xs g.post g.whole g.each low) body_open j (omega arith) l m refl);
      }

  -- an op's own name
  alone-named : (at : ℕ) → OpAlone text OpName at → Judged at → NameGranted text (op_at text at)
  unfolding op_at
  alone-named at o g =
      let xs = readings_of Op text at in
      let s = g.state in
      let each = (each_append text xs g.post s g.each).0 in
      let low = yields-leaves o.leaves.leaves in
      let n : 0 < count_of (parts_from 0 no_parts 0 xs) op_name =
      (let a = parts-count op_name 0 no_parts xs wide-none (omega arith) in let b = none-counted op_name in let c = own_name text s xs o.parts each in omega arith) in
      subst (NameGranted text) (sym (parts-there Op 0 at))
      (record {
        stands = n;
        known = parts-every (Known text) 0 0 no_parts xs wide-none (none_yet (Known text)) (level-known text s 0 xs each low (tokens-again text Op at) (no_return_lem text s xs o.parts each)) op_name 0
            (omega arith) n (omega arith) refl;
      })

  calm-op : Calm OpName
  unfolding part_of depth_after
  calm-op = record { part = refl; depth = refl }

  calm_return : Calm FuncReturn
  unfolding part_of depth_after
  calm_return = record { part = refl; depth = refl }

  each-op : (pre : List Reading) (ops : List ℕ) (s : Tally) (ys : List Reading) → readings text ≡ pre ++ (concat (map (readings_of Op text) ops) ++ ys) →
      Each text s (concat (map (readings_of Op text) ops) ++ ys) → All Judged ops × ((p : List Reading) × (t : Tally) × (readings text ≡ p ++ ys) × Each text t ys)
  unfolding concat
  each-op pre [] s ys q a = (tt, (pre, s, q, a))
  each-op pre (at ∷ ops) s ys q a =
      let more = concat (map (readings_of Op text) ops) in
      let z = append_assoc (readings_of Op text at) more ys in
      let w = q ∙ ap (λ (l : List Reading). pre ++ l) z in
      let b = subst (Each text s) z a in
      let x = each_append text (readings_of Op text at) (more ++ ys) s b in
      let y = each-op (pre ++ readings_of Op text at) ops (tally_after text s (readings_of Op text at)) ys (w ∙ sym (append_assoc pre (readings_of Op text at) (more ++ ys))) x.1 in
      ((record { state = s; pre = pre; post = more ++ ys; whole = w; each = b }, y.0), y.1)

  module _ (o : Outline text) where
    whole_each : Each text at_start (o.header ++ (concat (map (readings_of Op text) o.ops) ++ (readings_of Op text o.last ++ o.closing)))
    whole_each = subst (Each text at_start) o.whole (accepted-each text e)

    header-each : Each text at_start o.header
    header-each = (each_append text o.header (concat (map (readings_of Op text) o.ops) ++ (readings_of Op text o.last ++ o.closing)) at_start whole_each).0

    ops-each : All Judged o.ops × Judged o.last
    ops-each =
        let ys = readings_of Op text o.last ++ o.closing in
        let x = each_append text o.header (concat (map (readings_of Op text) o.ops) ++ ys) at_start whole_each in
        let y = each-op o.header o.ops (tally_after text at_start o.header) ys o.whole x.1 in
        (y.0, record { state = y.1.1; pre = y.1.0; post = o.closing; whole = y.1.2; each = y.1.3 })

    op-by : (k : ℕ) → k < length o.ops + 1 → OpGranted text (op_at text (get_or (program_of text).ops k 0))
    op-by k h = go (ℕ_discrete k (length o.ops))
      where
        go : Dec (k ≡ length o.ops) → OpGranted text (op_at text (get_or (program_of text).ops k 0))
        go (yes c) =
            let z : get_or (program_of text).ops k 0 ≡ o.last = ap (λ (n : ℕ). get_or (program_of text).ops n 0) c ∙ last-place text e o in
            let j = ops-each.1 in
            subst (λ (a : ℕ). OpGranted text (op_at text a)) (sym z) (alone-granted FuncReturn o.last calm_return o.return j)
        go (no c) =
            let l : k < length o.ops = omega arith in
            let j = all-get Judged o.ops 0 ops-each.0 k l in
            subst (λ (a : ℕ). OpGranted text (op_at text a)) (sym (op-place text e o k l))
            (alone-granted OpName (get_or o.ops k 0) calm-op (all-get (OpAlone text OpName) o.ops 0 o.each k l) j)

    name_by : (k : ℕ) → k < length o.ops → NameGranted text (op_at text (get_or (program_of text).ops k 0))
    name_by k l =
        subst (λ (a : ℕ). NameGranted text (op_at text a)) (sym (op-place text e o k l))
        (alone-named (get_or o.ops k 0) (all-get (OpAlone text OpName) o.ops 0 o.each k l) (all-get Judged o.ops 0 ops-each.0 k l))

    header-few : (k : ℕ) → T (among_symbols head_parts k) → owned k 0 (roles_of o.header) ≤ 8
    unfolding part_of depth_after
    header-few k t =
        one_of_three (λ (k : ℕ). owned k 0 (roles_of o.header) ≤ 8) k t
        (head-inputs text at_start o.header header-each input_name tt (λ ms. omega arith) (λ ms. omega arith) o.head)
        (head-inputs text at_start o.header header-each input_type tt (λ ms. omega arith) (λ ms. omega arith) o.head)
        (head-outputs text at_start o.header header-each o.head)

    header-by : HeaderGranted text (program_of text).header
    header-by =
        let low = yields-leaves o.head in
        let z = sym (at_places text e o).header in
        record {
          types = subst (TypesStand text) z (noted-types text at_start o.header header-each low 0);
          few = subst (λ (p : Parts). AtMostEight p head_parts) z (noted-few text at_start o.header header-each low head_parts tt header-few);
        }

  -- the header of a text that reading passes
  pub header-granted : HeaderGranted text (program_of text).header
  header-granted = header-by (outlined text e)

  -- each op of it, the return too
  pub op-granted : (k : ℕ) → k < (program_of text).count → OpGranted text (op_at text (get_or (program_of text).ops k 0))
  op-granted k h = let c = op-count text e (outlined text e) in op-by (outlined text e) k (omega arith)

  -- each op but the return has a name of the op table
  pub name-granted : (k : ℕ) → k + 1 < (program_of text).count → NameGranted text (op_at text (get_or (program_of text).ops k 0))
  name-granted k h = let c = op-count text e (outlined text e) in name_by (outlined text e) k (omega arith)
