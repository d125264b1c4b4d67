-- The pieces of a text that reading passes are its ops.
-- Assumes nothing.
use mathlib.Core.Path.{◌≡◌, refl, sym, ap, subst, ◌∙◌}
use mathlib.Core.List.{List, [], ◌∷◌, ◌++◌, map, append_assoc, append-nil}
use mathlib.Core.Bool.{true}
use Prim.Native.Nat.{ℕ, zero, suc, ◌-◌, ◌<◌}
use native.Mathlib.Omega.{arith}
use native.Mathlib.Nat.{not-suc-le-zero, le_of_suc-le-suc}
use lib.Dec.{T}
use lib.ListN.{length, get_or, length-append, get_or-append}
use lib.Seq.{get_or-append_seam}
use Rattle.lists.specs.Lists.{All, concat}
use Rattle.grammar.specs.Symbols.{OpName, FuncReturn, rbrace, lbrace, End, Op, among_symbols}
use Rattle.grammar.specs.Grammar.{Production, grammar}
use Rattle.grammar.specs.Derivation.{◌∈◌}
use Rattle.grammar.proofs.CellView.{rule-passes}
use Rattle.grammar.proofs.Within.{member-passes}
use Rattle.syntax.specs.Readings.{Reading, readings_of, readings}
use Rattle.syntax.specs.Roles.{roles_of}
use Rattle.syntax.specs.OpsAlone.{OpAlone, Outline}
use Rattle.judge.specs.Judge.{text_refusal}
use Rattle.program.specs.Parts.{depth_after}
use Rattle.program.specs.Program.{program_of}
use Rattle.program.proofs.PlaceLaw.{head_set}
use Rattle.scope.specs.Scope.{begins}
use Rattle.source.specs.Source.{Cut, cut_from}
use Rattle.reading_laws.proofs.DepthLaw.{depth_through}
use Rattle.reading_laws.proofs.OpsLaw.{outlined, op-count, op-place, last-place}
use Rattle.part_laws.proofs.DepthLaw.{outside, keeps, yields-outside}
use Rattle.source_laws.specs.Pieces.{op_pieces, op_place, PiecesAreOps}
use Rattle.source_laws.proofs.CutLaw.{ahead, opened, last_role, quiet, cut-quiet, cut_opened}
use Rattle.source_laws.proofs.OpCutLaw.{within, outside-quiet, outside-closed, closed_at_end, last-yields, free, OnePiece, op-role, return-role, op-piece}

-- ---- an op

cut-one : (b : ℕ) (xs ys : List Reading) → T (free b) → OnePiece (roles_of xs) → (cut_from begins 0 b 0 (xs ++ ys) ≡ opened xs (cut_from begins 0 (last_role b (roles_of xs)) 0 ys)) × T (free (last_role b (roles_of xs)))
cut-one b [] ys t o = absurd (let e = o.whole in let z : ◌≡◌ {A = ℕ} 0 1 = cc in omega arith)
cut-one b (x ∷ xs) ys t o =
    let h : x.role ≡ o.head = (let e = o.whole in cc) in
    let r : roles_of xs ≡ o.others = (let e = o.whole in cc) in
    let f : begins b x.role ≡ true = ap (λ (n : ℕ). begins b n) h ∙ o.opens b t in
    let q : T (quiet begins 0 x.role (depth_after 0 x.role) (roles_of xs)) =
    subst (λ (n : ℕ). T (quiet begins 0 n (depth_after 0 n) (roles_of xs))) (sym h) (subst (λ (l : List ℕ). T (quiet begins 0 o.head (depth_after 0 o.head) l)) (sym r) o.goes) in
    let z : depth_through 0 (roles_of (x ∷ xs)) ≡ 0 = ap (depth_through 0) o.whole ∙ o.closes in
    let u : T (free (last_role b (roles_of (x ∷ xs)))) = subst (λ (l : List ℕ). T (free (last_role b l))) (sym o.whole) o.ends in
    (cut_opened begins 0 b 0 x xs ys refl f q ∙ ap (λ (d : ℕ). opened (x ∷ xs) (cut_from begins 0 (last_role b (roles_of (x ∷ xs))) d ys)) z, u)

-- ---- the closing brace and the end

cut-closing : (b : ℕ) (xs : List Reading) → roles_of xs ≡ rbrace ∷ End ∷ [] → cut_from begins 0 b 0 xs ≡ record { before = xs; pieces = [] }
unfolding begins depth_after
cut-closing b xs e =
    let t : T (quiet begins 0 b 0 (roles_of xs)) = rw e tt in
    ap (λ (l : List Reading). cut_from begins 0 b 0 l) (sym (append-nil xs)) ∙
    (cut-quiet begins 0 b 0 xs [] t ∙ ap (λ (l : List Reading). record { before = l; pieces = [] }) (append-nil xs))

-- ---- the header

lbrace-closed : (p : Production) → p ∈ grammar → T (closed_at_end (lbrace ∷ []) p)
unfolding grammar
lbrace-closed p m = rule-passes (closed_at_end (lbrace ∷ [])) m tt

head-within : (r : ℕ) → T (among_symbols head_set r) → T (within r)
head-within r t = member-passes within head_set r tt t

keeps-head : (p : Production) → p ∈ grammar → T (keeps head_set p)
unfolding grammar depth_after
keeps-head p m = rule-passes (keeps head_set) m tt

-- ---- the text

module _ (text : List ℕ) where
  pub head-outside : (o : Outline text) → T (outside head_set 0 (roles_of o.header))
  unfolding depth_after
  head-outside o = yields-outside head_set keeps-head o.head 0 tt

  head-ends : (o : Outline text) → T (free (last_role 0 (roles_of o.header)))
  head-ends o = member-passes free (lbrace ∷ []) (last_role 0 (roles_of o.header)) tt (last-yields (lbrace ∷ []) lbrace-closed o.head 0 tt)

  cut-ops : (b : ℕ) (ops : List ℕ) (last : ℕ) (closing : List Reading) → T (free b) → All (OpAlone text OpName) ops → OpAlone text FuncReturn last → roles_of closing ≡ rbrace ∷ End ∷ [] →
      cut_from begins 0 b 0 (concat (map (readings_of Op text) ops) ++ (readings_of Op text last ++ closing)) ≡
      record { before = []; pieces = map (readings_of Op text) ops ++ ((readings_of Op text last ++ closing) ∷ []) }
  unfolding concat
  cut-ops b [] last closing t a r e =
      let c = cut-one b (readings_of Op text last) closing t (op-piece FuncReturn (readings_of Op text last) return-role r.parts) in
      c.0 ∙ ap (λ (z : Cut). opened (readings_of Op text last) z) (cut-closing (last_role b (roles_of (readings_of Op text last))) closing e)
  cut-ops b (at ∷ ops) last closing t a r e =
      let m = concat (map (readings_of Op text) ops) in
      let ys = readings_of Op text last ++ closing in
      let c = cut-one b (readings_of Op text at) (m ++ ys) t (op-piece OpName (readings_of Op text at) op-role a.0.parts) in
      let i = cut-ops (last_role b (roles_of (readings_of Op text at))) ops last closing c.1 a.1 r e in
      let ps = map (readings_of Op text) ops ++ (ys ∷ []) in
      ap (λ (l : List Reading). cut_from begins 0 b 0 l) (append_assoc (readings_of Op text at) m ys) ∙
      (c.0 ∙ (ap (λ (z : Cut). opened (readings_of Op text at) z) i ∙ ap (λ (l : List Reading). record { before = []; pieces = l ∷ ps }) (append-nil (readings_of Op text at))))

  -- the header, then the ops, the return last
  pub cut-text : (o : Outline text) →
      cut_from begins 0 0 0 (readings text) ≡ record { before = o.header; pieces = map (readings_of Op text) o.ops ++ ((readings_of Op text o.last ++ o.closing) ∷ []) }
  cut-text o =
      let ys = concat (map (readings_of Op text) o.ops) ++ (readings_of Op text o.last ++ o.closing) in
      let b = last_role 0 (roles_of o.header) in
      let t = head-outside o in
      ap (λ (l : List Reading). cut_from begins 0 0 0 l) o.whole ∙
      (cut-quiet begins 0 0 0 o.header ys (outside-quiet head_set head-within 0 0 (roles_of o.header) t) ∙
      (ap (λ (d : ℕ). ahead o.header (cut_from begins 0 b d ys)) (outside-closed head_set 0 (roles_of o.header) t) ∙
      (ap (λ (z : Cut). ahead o.header z) (cut-ops b o.ops o.last o.closing (head-ends o) o.each o.return o.close) ∙
      ap (λ (l : List Reading). record { before = l; pieces = map (readings_of Op text) o.ops ++ ((readings_of Op text o.last ++ o.closing) ∷ []) }) (append-nil o.header))))

map_get : (f : ℕ → List Reading) (l : List ℕ) (k : ℕ) → k < length l → get_or (map f l) k [] ≡ f (get_or l k 0)
map_get f [] k h = absurd (not-suc-le-zero h)
map_get f (x ∷ l) zero h = refl
map_get f (x ∷ l) (suc k) h = map_get f l k (le_of_suc-le-suc h)

map-length : (f : ℕ → List Reading) (l : List ℕ) → length (map f l) ≡ length l
map-length f [] = refl
map-length f (x ∷ l) = ap (λ (n : ℕ). suc n) (map-length f l)

module _ (text : List ℕ) (e : (text_refusal text).number ≡ 0) where
  by-outline : Outline text → PiecesAreOps text
  by-outline o =
      let ms = map (readings_of Op text) o.ops in
      let l = readings_of Op text o.last ++ o.closing in
      let q : op_pieces text ≡ ms ++ (l ∷ []) = ap (λ (c : Cut). c.pieces) (cut-text text o) in
      let n = op-count text e o in
      let m = map-length (readings_of Op text) o.ops in
      let z : (program_of text).count - 1 ≡ length o.ops = omega arith in
      record {
        closing = o.closing;
        close = o.close;
        count = (let w = ap (λ (ps : List (List Reading)). length ps) q in let v = length-append ms (l ∷ []) in omega arith);
        each = λ k h.
            let g : k < length o.ops = omega arith in
            ap (λ (ps : List (List Reading)). get_or ps k []) q ∙
            (get_or-append ms (l ∷ []) [] k (omega arith) ∙ (map_get (readings_of Op text) o.ops k g ∙ ap (readings_of Op text) (sym (op-place text e o k g))));
        last =
            ap (λ (ps : List (List Reading)). get_or ps ((program_of text).count - 1) []) q ∙
            (ap (λ (k : ℕ). get_or (ms ++ (l ∷ [])) k []) (z ∙ sym m) ∙
            (get_or-append_seam ms l [] [] ∙ ap (λ (a : ℕ). readings_of Op text a ++ o.closing) (sym (ap (op_place text) z ∙ last-place text e o))));
      }

  -- the pieces of a text that reading passes are its ops
  pub pieces-are-ops : PiecesAreOps text
  pieces-are-ops = by-outline (outlined text e)
