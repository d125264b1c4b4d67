-- The attributes and bodies of an op by number, its quoted name, the return, and where a piece stands.
-- Assumes nothing.
use mathlib.Core.Path.{◌≡◌, refl, sym, ap, subst, ◌∙◌}
use mathlib.Core.List.{List, [], ◌∷◌, ◌++◌, map, append_assoc, append-nil}
use mathlib.Core.Bool.{Bool, true, false, not, ◌&&◌}
use Prim.Native.Nat.{ℕ, zero, suc, ◌-◌, ◌<◌, min}
use native.Mathlib.Nat.{not-suc-le-zero, le_of_suc-le-suc}
use native.Mathlib.Omega.{arith}
use lib.Dec.{T, eqb}
use lib.ListN.{length, get_or}
use Rattle.lists.specs.Lists.{pick, All, concat}
use Rattle.scan.specs.Bytes.{among as is_among}
use Rattle.grammar.specs.Symbols.{rbrace, End, Op}
use Rattle.grammar.proofs.TableTest.{both, both_left, both_right}
use Rattle.syntax.specs.Readings.{Reading, readings_of}
use Rattle.syntax.specs.Roles.{roles_of}
use Rattle.judge.specs.Judge.{text_refusal}
use Rattle.program.specs.declared.Parts.{Parts}
use Rattle.program.specs.Parts.{depth_after}
use Rattle.program.specs.Program.{program_of}
use Rattle.places.specs.Places.{op_name, attribute_name, body_open, count_of, place_of}
use Rattle.source.specs.Source.{with_role, cut_from, AttributeText, OpText, op_from, function_of}
use Rattle.verifier.specs.AttributeRules.{first_token}
use Rattle.reading_laws.proofs.DepthLaw.{depth_through}
use Rattle.reading_laws.proofs.OpsLaw.{read-program}
use Rattle.source_laws.specs.Listed.{first_place, SameParts}
use Rattle.source_laws.specs.Pieces.{op_place}
use Rattle.source_laws.proofs.CutLaw.{cut-whole, cut-places}
use Rattle.source_laws.proofs.OpCutLaw.{not_T}
use Rattle.source_laws.proofs.PiecesLaw.{pieces-are-ops}
use Rattle.source_laws.proofs.SameLaw.{op-text}
use Rattle.source_laws.proofs.HeaderLaw.{role-append, apart_from}

module _ {A : Type 0} (f : A → ℕ) where
  length-of : (l : List A) → length (map f l) ≡ length l
  length-of [] = refl
  length-of (x ∷ l) = ap (λ (n : ℕ). suc n) (length-of l)

  item_of : (l : List A) (j : ℕ) (d : A) → j < length l → get_or (map f l) j 0 ≡ f (get_or l j d)
  item_of [] j d h = absurd (not-suc-le-zero h)
  item_of (x ∷ l) zero d h = refl
  item_of (x ∷ l) (suc j) d h = item_of l j d (le_of_suc-le-suc h)

-- ---- by number

module _ (op : Parts) (o : OpText) (s : SameParts op o) where
  -- the quoted name
  pub name-place : place_of op op_name 0 ≡ first_token o.names
  name-place = s.names.place 0 (omega arith)

  pub attribute-count : count_of op attribute_name ≡ min (length o.attributes) 9
  attribute-count = s.attributes.count ∙ ap (λ (n : ℕ). min n 9) (length-of (λ (a : AttributeText). first_token a.names) o.attributes)

  -- attribute j is noted by its name
  pub attribute-place : (j : ℕ) → j < 8 → j < length o.attributes → (d : AttributeText) → place_of op attribute_name j ≡ first_token (get_or o.attributes j d).names
  attribute-place j m h d = s.attributes.place j m ∙ item_of (λ (a : AttributeText). first_token a.names) o.attributes j d h

  pub body-count : count_of op body_open ≡ min (length o.bodies) 9
  body-count = s.bodies.count ∙ ap (λ (n : ℕ). min n 9) (length-of first_place o.bodies)

  -- body j is noted by its brace
  pub body-place : (j : ℕ) → j < 8 → j < length o.bodies → place_of op body_open j ≡ first_place (get_or o.bodies j [])
  body-place j m h = s.bodies.place j m ∙ item_of first_place o.bodies j [] h

-- ---- pieces that begin at a role, by number

module _ (role level b d : ℕ) (xs : List Reading) where
  -- a piece for each token of the role
  pub piece-count : length (cut_from (λ before r. eqb r role) level b d xs).pieces ≡ length (with_role (role ∷ []) level d xs)
  piece-count = sym (length-of first_place (cut_from (λ before r. eqb r role) level b d xs).pieces) ∙ ap (λ (l : List ℕ). length l) (cut-places role level b d xs)

  -- piece j begins at token j
  pub piece-place : (j : ℕ) → j < length (cut_from (λ before r. eqb r role) level b d xs).pieces →
      first_place (get_or (cut_from (λ before r. eqb r role) level b d xs).pieces j []) ≡ get_or (with_role (role ∷ []) level d xs) j 0
  piece-place j h = sym (item_of first_place (cut_from (λ before r. eqb r role) level b d xs).pieces j [] h) ∙ ap (λ (l : List ℕ). get_or l j 0) (cut-places role level b d xs)

-- ---- where a piece stands

pub record StandsIn (xs piece : List Reading) : Type 0 where
  pub pre : List Reading
  pub post : List Reading
  pub whole : xs ≡ pre ++ (piece ++ post)

among-pieces : (pre : List Reading) (ps : List (List Reading)) (j : ℕ) → j < length ps → StandsIn (pre ++ concat ps) (get_or ps j [])
unfolding concat
among-pieces pre [] j h = absurd (not-suc-le-zero h)
among-pieces pre (p ∷ ps) zero h = record { pre = pre; post = concat ps; whole = refl }
among-pieces pre (p ∷ ps) (suc j) h = subst (λ (l : List Reading). StandsIn l (get_or ps j [])) (append_assoc pre p (concat ps)) (among-pieces (pre ++ p) ps j (le_of_suc-le-suc h))

-- each piece of a cut stands among the readings that are cut
pub piece-stands : (first : ℕ → ℕ → Bool) (level b d : ℕ) (xs : List Reading) (j : ℕ) → j < length (cut_from first level b d xs).pieces → StandsIn xs (get_or (cut_from first level b d xs).pieces j [])
piece-stands first level b d xs j h =
    subst (λ (l : List Reading). StandsIn l (get_or (cut_from first level b d xs).pieces j [])) (cut-whole first level b d xs)
    (among-pieces (cut_from first level b d xs).before (cut_from first level b d xs).pieces j h)

-- ---- the return

no-role : (roles : List ℕ) (level d : ℕ) (xs : List Reading) → All (λ r. is_among roles r ≡ false) (roles_of xs) → with_role roles level d xs ≡ []
no-role roles level d [] h = refl
no-role roles level d (x ∷ xs) h = rw h.0 (go (eqb d level) (no-role roles level (depth_after d x.role) xs h.1))
  where
    go : (b : Bool) {l : List ℕ} → l ≡ [] → pick (b && false) (x.token.start ∷ l) l ≡ []
    go true e = e
    go false e = e

-- the closing brace and the end change no list of tokens
pub role-closing : (roles : List ℕ) (level d : ℕ) (xs ys : List Reading) → T (apart_from roles (rbrace ∷ End ∷ [])) → roles_of ys ≡ rbrace ∷ End ∷ [] →
    with_role roles level d (xs ++ ys) ≡ with_role roles level d xs
role-closing roles level d xs ys f e =
    let a = not (is_among roles rbrace) in
    let b = not (is_among roles End) in
    let r = not_T (is_among roles rbrace) (both_left a (both b true) f) in
    let s = not_T (is_among roles End) (both_left b true (both_right a (both b true) f)) in
    let h : All (λ n. is_among roles n ≡ false) (roles_of ys) = subst (All (λ n. is_among roles n ≡ false)) (sym e) (r, (s, tt)) in
    role-append roles level d xs ys ∙ (ap (λ (l : List ℕ). with_role roles level d xs ++ l) (no-role roles level (depth_through d (roles_of xs)) ys h) ∙ append-nil (with_role roles level d xs))

module _ (text : List ℕ) (e : (text_refusal text).number ≡ 0) where
  -- the last op is what is read from its place on, with the closing brace and the end
  pub return_read : (d : OpText) → get_or (function_of text).ops ((program_of text).count - 1) d ≡ op_from (readings_of Op text (op_place text ((program_of text).count - 1)) ++ (pieces-are-ops text e).closing)
  return_read d = let h = (read-program text e).least in op-text text e ((program_of text).count - 1) (omega arith) d ∙ ap op_from (pieces-are-ops text e).last
