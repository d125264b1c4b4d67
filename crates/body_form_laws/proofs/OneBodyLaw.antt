-- The body of an op that has one: its readings up to the brace that closes it are those that are read by Body alone from its first byte.
-- Assumes nothing.
use mathlib.Core.Path.{◌≡◌, refl, sym, ap, subst, ◌∙◌}
use mathlib.Core.List.{List, [], ◌∷◌, ◌++◌, map, append-nil, append_assoc}
use mathlib.Core.Bool.{Bool, true, false, ◌&&◌}
use Prim.Native.Nat.{ℕ, ◌+◌, ◌<◌}
use native.Mathlib.Omega.{arith}
use lib.Dec.{eqb}
use lib.ListN.{length, get_or}
use borrow.Author.Tests.{eqb-true, eqb-false, le-ltb}
use Rattle.lists.specs.Lists.{pick, All, concat}
use Rattle.grammar.specs.Symbols.{BodyOpen, Body, Op}
use Rattle.syntax.specs.Readings.{Reading, readings_of, readings}
use Rattle.syntax.specs.Roles.{roles_of, tokens_of}
use Rattle.syntax.specs.Tokens.{kinds_of}
use Rattle.grammar.specs.Leaves.{Parsed}
use Rattle.syntax.specs.BodiesAlone.{BodyOutline}
use Rattle.syntax.proofs.BodyLaw.{bodies}
use Rattle.syntax.proofs.Theorems.{no-fault}
use Rattle.judge.specs.Judge.{text_refusal}
use Rattle.judge.proofs.Theorems.{accepted-sentence}
use Rattle.program.specs.Parts.{depth_after, no_parts, parts_from, parts_of, parts_at, op_at}
use Rattle.program.specs.Program.{program_of}
use Rattle.places.specs.Places.{body_open, place_of}
use Rattle.scope.specs.Scope.{begins}
use Rattle.source.specs.Source.{Cut, cut_from, enclosed, op_from}
use Rattle.reading_laws.proofs.DepthLaw.{depth_through, yields-depth, depth-append}
use Rattle.reading_laws.proofs.OpsLaw.{few_bytes, read-program}
use Rattle.source_laws.specs.Listed.{first_place}
use Rattle.source_laws.specs.Pieces.{op_place}
use Rattle.source_laws.proofs.ListedLaw.{part-listed}
use Rattle.source_laws.proofs.CutLaw.{ahead, opened, cut-whole, cut-begins, cut-places, BeginsWith}
use Rattle.source_laws.proofs.PiecesLaw.{pieces-are-ops}
use Rattle.source_laws.proofs.OpItemsLaw.{piece-stands}
use Rattle.body_form_laws.specs.SameBody.{OpStands}
use Rattle.body_form_laws.proofs.LevelLaw.{roles-append}
use Rattle.body_form_laws.proofs.PiecesLaw.{shaped, enclosed-body}

-- each op of a text but the return stands in it
pub op-stands : (text : List ℕ) → (text_refusal text).number ≡ 0 → (k : ℕ) → k + 1 < (program_of text).count → OpStands text (op_place text k)
op-stands text e k h =
    let a = pieces-are-ops text e in
    let c = a.count in
    let s = piece-stands begins 0 0 0 (readings text) k (omega arith) in
    record {
      alone = (read-program text e).each k h;
      pre = s.pre;
      post = s.post;
      whole = s.whole ∙ ap (λ (l : List Reading). s.pre ++ (l ++ s.post)) (a.each k h);
    }

-- ---- depths

-- the first piece begins at the level
cut-depth : (first : ℕ → ℕ → Bool) (level b d : ℕ) (xs : List Reading) → 0 < length (cut_from first level b d xs).pieces → depth_through d (roles_of (cut_from first level b d xs).before) ≡ level
cut-depth first level b d [] h = absurd (omega arith)
cut-depth first level b d (x ∷ xs) h =
    go (eqb d level) refl (first b x.role) (cut_from first level x.role (depth_after d x.role) xs) (cut-depth first level x.role (depth_after d x.role) xs) h
  where
    go : (a : Bool) → eqb d level ≡ a → (g : Bool) (c : Cut) → (0 < length c.pieces → depth_through (depth_after d x.role) (roles_of c.before) ≡ level) →
        0 < length (pick (a && g) (opened (x ∷ []) c) (ahead (x ∷ []) c)).pieces → depth_through d (roles_of (pick (a && g) (opened (x ∷ []) c) (ahead (x ∷ []) c)).before) ≡ level
    go true e true c i h = eqb-true d level e
    go true e false c i h = i h
    go false e g c i h = i h

-- where every body is closed, what follows is not enclosed
enclosed-within : (d : ℕ) (xs ts : List Reading) → 0 < d → depth_through d (roles_of xs) ≡ 0 → enclosed d (xs ++ ts) ≡ enclosed d xs
enclosed-within d [] ts h e = absurd (omega arith)
enclosed-within d (x ∷ xs) ts h e = go (eqb (depth_after d x.role) 0) refl (λ g. enclosed-within (depth_after d x.role) xs ts g e)
  where
    go : (b : Bool) → eqb (depth_after d x.role) 0 ≡ b → (0 < depth_after d x.role → enclosed (depth_after d x.role) (xs ++ ts) ≡ enclosed (depth_after d x.role) xs) →
        pick b (x ∷ []) (x ∷ enclosed (depth_after d x.role) (xs ++ ts)) ≡ pick b (x ∷ []) (x ∷ enclosed (depth_after d x.role) xs)
    go true q i = refl
    go false q i = let n = eqb-false (depth_after d x.role) 0 q in ap (λ (l : List Reading). x ∷ l) (i (omega arith))

opening : (x : Reading) → x.role ≡ BodyOpen → depth_after 0 x.role ≡ 1
unfolding depth_after
opening x e = rw e

opened-within : (x : Reading) (xs ts : List Reading) → x.role ≡ BodyOpen → depth_through 0 (roles_of (x ∷ xs)) ≡ 0 → enclosed 0 ((x ∷ xs) ++ ts) ≡ enclosed 0 (x ∷ xs)
opened-within x xs ts e t =
    let o = opening x e in
    let d : depth_through 1 (roles_of xs) ≡ 0 = ap (λ (n : ℕ). depth_through n (roles_of xs)) (sym o) ∙ t in
    ap (λ (n : ℕ). pick (eqb n 0) (x ∷ []) (x ∷ enclosed n (xs ++ ts))) o
    ∙ (ap (λ (l : List Reading). x ∷ l) (enclosed-within 1 xs ts (omega arith) d) ∙ sym (ap (λ (n : ℕ). pick (eqb n 0) (x ∷ []) (x ∷ enclosed n xs)) o))

-- ---- the body

-- one list of readings
only-piece : (ps : List (List Reading)) → length ps ≡ 1 → ps ≡ get_or ps 0 [] ∷ []
only-piece [] e = absurd (omega arith)
only-piece (p ∷ []) e = refl
only-piece (p ∷ q ∷ ps) e = absurd (omega arith)

-- readings that begin with a body, as it is read alone from their first byte
pub record BodyRead (text : List ℕ) (piece : List Reading) : Type 0 where
  pub readings : enclosed 0 piece ≡ readings_of Body text (first_place piece)
  pub outline : BodyOutline text (first_place piece)
  pub leaves : Parsed Body (kinds_of text (tokens_of (readings_of Body text (first_place piece)))) (roles_of (readings_of Body text (first_place piece)))

op-depth : depth_after 0 Op ≡ 0
unfolding depth_after
op-depth = refl

module _ (text : List ℕ) (e : (text_refusal text).number ≡ 0) where
  pub parts-there : (symbol level at : ℕ) → parts_at symbol level text at ≡ parts_from level no_parts 0 (readings_of symbol text at)
  unfolding parts_at parts_of
  parts-there symbol level at = rw (le-ltb 65536 (length text) (few_bytes text e))

  -- a body that opens among the readings of the text, and readings in which every body is closed
  read-body : (pre ts p : List Reading) → BeginsWith BodyOpen p → depth_through 0 (roles_of p) ≡ 0 → readings text ≡ pre ++ (p ++ ts) → BodyRead text p
  read-body pre ts [] b d w = absurd b
  read-body pre ts (x ∷ xs) b d w =
      let i = bodies text (no-fault text (accepted-sentence text e)) pre x (xs ++ ts) w b in
      record {
        readings = sym (opened-within x xs ts b d) ∙ (ap (enclosed 0) i.whole ∙ enclosed-body (shaped i.outline) i.others);
        outline = i.outline;
        leaves = i.leaves;
      }

  module _ (at : ℕ) (s : OpStands text at) (one : length (op_from (readings_of Op text at)).bodies ≡ 1) where
    abbrev xs : List Reading
    xs = readings_of Op text at

    abbrev cut : Cut
    cut = cut_from (λ before role. eqb role BodyOpen) 0 0 0 (readings_of Op text at)

    abbrev piece : List Reading
    piece = get_or (op_from (readings_of Op text at)).bodies 0 []

    alone : cut.pieces ≡ piece ∷ []
    alone = only-piece cut.pieces one

    begins-so : BeginsWith BodyOpen piece
    begins-so = (subst (All (BeginsWith BodyOpen)) alone (cut-begins BodyOpen 0 0 0 xs)).0

    whole : xs ≡ cut.before ++ piece
    unfolding concat
    whole = sym (cut-whole (λ before role. eqb role BodyOpen) 0 0 0 xs) ∙ (ap (λ (l : List (List Reading)). cut.before ++ concat l) alone ∙ ap (λ (l : List Reading). cut.before ++ l) (append-nil piece))

    -- the place that is noted of it
    pub place : place_of (op_at text at) body_open 0 ≡ first_place piece
    unfolding op_at
    place =
        ap (λ p. place_of p body_open 0) (parts-there Op 0 at)
        ∙ ((part-listed body_open 0 xs (omega arith)).place 0 (omega arith) ∙ (ap (λ (l : List ℕ). get_or l 0 0) (sym (cut-places BodyOpen 0 0 0 xs)) ∙ ap (λ (l : List (List Reading)). get_or (map first_place l) 0 0) alone))

    closed : depth_through 0 (roles_of piece) ≡ 0
    closed =
        let a = yields-depth s.alone.leaves.leaves 0 in
        let b : depth_through 0 (roles_of xs) ≡ depth_through (depth_through 0 (roles_of cut.before)) (roles_of piece) =
        ap (λ (l : List Reading). depth_through 0 (roles_of l)) whole ∙ (ap (depth_through 0) (roles-append cut.before piece) ∙ depth-append (roles_of cut.before) (roles_of piece) 0) in
        let c = cut-depth (λ before role. eqb role BodyOpen) 0 0 0 xs (omega arith) in
        sym (b ∙ ap (λ (n : ℕ). depth_through n (roles_of piece)) c) ∙ (a ∙ op-depth)

    in-text : readings text ≡ (s.pre ++ cut.before) ++ (piece ++ s.post)
    in-text =
        s.whole ∙ (ap (λ (l : List Reading). s.pre ++ (l ++ s.post)) whole
        ∙ (ap (λ (l : List Reading). s.pre ++ l) (append_assoc cut.before piece s.post) ∙ sym (append_assoc s.pre cut.before (piece ++ s.post))))

    pub one-body : BodyRead text piece
    one-body = read-body (s.pre ++ cut.before) s.post piece begins-so closed in-text
