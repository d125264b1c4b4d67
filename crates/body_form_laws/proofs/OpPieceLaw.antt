-- One op of a body as a piece: it has one quoted name; its parts are those of the op as it is read alone from its first byte, which is that of its first result.
-- Assumes nothing.
use mathlib.Core.Path.{◌≡◌, refl, ap, ◌∙◌}
use mathlib.Core.List.{List, [], ◌∷◌, ◌++◌}
use mathlib.Core.Bool.{Bool, true, false, ◌||◌}
use Prim.Native.Nat.{ℕ, zero, suc, ◌+◌, ◌<◌}
use native.Mathlib.Omega.{arith}
use lib.Dec.{eqb}
use lib.ListN.{length, get_or}
use Rattle.lists.specs.Lists.{pick}
use Rattle.text.specs.Lex.{token_at}
use Rattle.text.specs.declared.Token.{Token}
use Rattle.grammar.specs.Symbols.{ResultName, OpName, FuncReturn, OpRest, BodyOpName, BodyReturn, BodyClose, Op}
use Rattle.grammar.specs.Machine.{Cell, fails, skips, takes, step}
use Rattle.grammar.specs.Leaves.{Yields}
use Rattle.grammar.proofs.Leaves.{leading}
use Rattle.syntax.specs.Kinds.{kind_of}
use Rattle.syntax.specs.Readings.{Reading, reading, labelled, readings_from, readings_of}
use Rattle.syntax.specs.Roles.{roles_of}
use Rattle.syntax.specs.OpsAlone.{Naming, results, OpParts}
use Rattle.syntax.specs.BodiesAlone.{BodyOpAlone}
use Rattle.program.specs.declared.Parts.{Parts}
use Rattle.program.specs.Parts.{part_of, noted, depth_after, parts_from}
use Rattle.source.specs.Source.{with_role}
use Rattle.source_laws.proofs.OpCutLaw.{rest_set}
use Rattle.source_laws.proofs.HeaderLaw.{role-none, role-past}
use Rattle.body_form_laws.proofs.CutLaw.{result_set, quoted_by, results-outside, rest-outside}
use Rattle.body_form_laws.proofs.PiecesLaw.{body-op, BodyPieces, last, next, gathered, close-after}

abbrev quoted : List ℕ
quoted = OpName ∷ FuncReturn ∷ BodyOpName ∷ BodyReturn ∷ []

-- ---- one quoted name

named-first : (b : Bool) (name : Token) (rest : List Reading) → Yields (OpRest ∷ []) (roles_of rest) → with_role quoted 0 0 (reading true (quoted_by b) name ∷ rest) ≡ name.start ∷ []
unfolding depth_after
named-first true name rest y = ap (λ (l : List ℕ). name.start ∷ l) (role-none quoted rest_set 0 rest tt (rest-outside rest y))
named-first false name rest y = ap (λ (l : List ℕ). name.start ∷ l) (role-none quoted rest_set 0 rest tt (rest-outside rest y))

pub one_name : (b : Bool) (xs : List Reading) (o : OpParts (quoted_by b) xs) → with_role quoted 0 0 xs ≡ o.name.start ∷ []
one_name b xs o =
    ap (with_role quoted 0 0) o.whole
    ∙ (role-past quoted result_set o.names (reading true (quoted_by b) o.name ∷ o.rest) tt (results-outside o.names o.naming) ∙ named-first b o.name o.rest o.leaves)

-- as many as pieces
pub names-count : (close : Reading) → close.role ≡ BodyClose → {text : List ℕ} {ps : List (List Reading)} → BodyPieces text close ps → length (gathered quoted ps) ≡ length ps
names-count close shut (last {xs} o) = ap (λ (l : List ℕ). length (l ++ [])) (close-after [] close shut quoted refl xs ∙ one_name true xs o)
names-count close shut (next names name rest {ps} a v) =
    ap (λ (l : List ℕ). length (l ++ gathered quoted ps)) (one_name false (names ++ (reading true BodyOpName name ∷ rest)) (body-op names name rest a)) ∙ ap suc (names-count close shut v)

-- ---- as it is read alone

alone-step : (p : Parts) (d : ℕ) (name : Token) (rest : List Reading) → parts_from 0 p d (reading true OpName name ∷ rest) ≡ parts_from 0 p d (reading true BodyOpName name ∷ rest)
unfolding parts_from noted part_of depth_after
alone-step p d name rest = refl

pub alone-parts : (names : List Reading) (name : Token) (rest : List Reading) (p : Parts) (d : ℕ) →
    parts_from 0 p d (names ++ (reading true OpName name ∷ rest)) ≡ parts_from 0 p d (names ++ (reading true BodyOpName name ∷ rest))
unfolding parts_from
alone-parts [] name rest p d = alone-step p d name rest
alone-parts (n ∷ ns) name rest p d = alone-parts ns name rest (pick (eqb d 0) (noted p n.role n.token.start) p) (depth_after d n.role)

-- the first token read from a byte on is the token there
labelled-head : (t : Token) (c : Cell) (f : List ℕ → List Reading) (y : Reading) (ys : List Reading) → labelled t c f ≡ y ∷ ys → y.token ≡ t
labelled-head t fails f y ys e = let q : y ≡ reading false 0 t = cc in ap (λ (r : Reading). r.token) q
labelled-head t skips f y ys e = let q : y ≡ reading false 0 t = cc in ap (λ (r : Reading). r.token) q
labelled-head t (takes role rest) f y ys e = let q : y ≡ reading true role t = cc in ap (λ (r : Reading). r.token) q

head-from : (n s : ℕ) (text : List ℕ) (at : ℕ) (y : Reading) (ys : List Reading) → readings_from n (s ∷ []) text at ≡ y ∷ ys → y.token ≡ token_at text at
unfolding readings_from
head-from zero s text at y ys e = let z : ◌≡◌ {A = ℕ} 0 1 = cc in absurd (omega arith)
head-from (suc n) s text at y ys e =
    labelled-head (token_at text at) (step (s ∷ []) (kind_of text (token_at text at))) (λ rest. readings_from n rest text (token_at text at).end) y ys e

head-token : (text : List ℕ) (at : ℕ) (y : Reading) (ys : List Reading) → readings_of Op text at ≡ y ∷ ys → y.token ≡ token_at text at
unfolding readings_of
head-token text at y ys e = head-from (length text + 1) Op text at y ys e

-- no result name after the quoted one
no-results : (name : Token) (rest : List Reading) → Yields (OpRest ∷ []) (roles_of rest) → with_role (ResultName ∷ []) 0 0 (reading true BodyOpName name ∷ rest) ≡ []
unfolding depth_after
no-results name rest y = role-none (ResultName ∷ []) rest_set 0 rest tt (rest-outside rest y)

result-first : (n : Reading) (zs : List Reading) → n.role ≡ ResultName → get_or (with_role (ResultName ∷ []) 0 0 (n ∷ zs)) 0 0 ≡ n.token.start
result-first n zs e = ap (λ (r : ℕ). get_or (pick (eqb r ResultName || false) (n.token.start ∷ with_role (ResultName ∷ []) 0 (depth_after 0 n.role) zs) (with_role (ResultName ∷ []) 0 (depth_after 0 n.role) zs)) 0 0) e

-- an op with a result begins with its name
pub first-result : {text : List ℕ} (names : List Reading) (name : Token) (rest : List Reading) (a : BodyOpAlone text names name rest) →
    0 < length (with_role (ResultName ∷ []) 0 0 (names ++ (reading true BodyOpName name ∷ rest))) → get_or (with_role (ResultName ∷ []) 0 0 (names ++ (reading true BodyOpName name ∷ rest))) 0 0 ≡ a.at
first-result {text} names name rest a h = go names a.naming a.alone h
  where
    go : (ns : List Reading) → Naming (roles_of ns) → readings_of Op text a.at ≡ ns ++ (reading true OpName name ∷ rest) →
        0 < length (with_role (ResultName ∷ []) 0 0 (ns ++ (reading true BodyOpName name ∷ rest))) → get_or (with_role (ResultName ∷ []) 0 0 (ns ++ (reading true BodyOpName name ∷ rest))) 0 0 ≡ a.at
    go [] i e h = let z = ap length (no-results name rest a.leaves) in absurd (omega arith)
    go (n ∷ ns) (results z) e h =
        let l = leading (omega arith) z in
        let q : n.role ≡ ResultName = (let w = l.first in cc) in
        let t = head-token text a.at n (ns ++ (reading true OpName name ∷ rest)) e in
        result-first n (ns ++ (reading true BodyOpName name ∷ rest)) q ∙ (ap (λ (t : Token). t.start) t ∙ a.first)
