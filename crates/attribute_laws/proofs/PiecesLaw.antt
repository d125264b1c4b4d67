-- The attributes of an op that is read alone, as pieces of its readings: each has one of the four forms, and its name is where it begins.
-- Assumes nothing.
use mathlib.Core.Path.{◌≡◌, refl, sym, ap, subst, ◌∙◌}
use mathlib.Core.List.{List, [], ◌∷◌, map}
use mathlib.Core.Bool.{Bool, true, false, ◌&&◌}
use Prim.Native.Nat.{ℕ, zero, suc, ◌+◌, ◌≤◌}
use native.Mathlib.Omega.{arith}
use lib.Dec.{eqb}
use lib.ListN.{length}
use borrow.Author.Tests.{eqb-true}
use Rattle.lists.specs.Lists.{pick, All}
use Rattle.text.specs.Lex.{token_at}
use Rattle.text.specs.declared.Token.{Token}
use Rattle.grammar.specs.Symbols.{AttributeName, Op}
use Rattle.grammar.specs.Machine.{Cell, fails, skips, takes, step}
use Rattle.grammar.specs.Leaves.{StandFor}
use Rattle.syntax.specs.Kinds.{kind_of}
use Rattle.syntax.specs.Tokens.{kinds_of}
use Rattle.syntax.specs.Readings.{Reading, labelled, readings_from, readings_of}
use Rattle.syntax.specs.Roles.{roles_of, tokens_of}
use Rattle.syntax.specs.OpsAlone.{OpAlone}
use Rattle.syntax.proofs.AloneLaw.{token-again, readings-short}
use Rattle.program.specs.Parts.{depth_after}
use Rattle.source.specs.Source.{Cut, cut_from, AttributeText, attribute_from, op_from}
use Rattle.verifier.specs.AttributeRules.{first_token}
use Rattle.default_laws.proofs.DenseLaw.{stand-first}
use Rattle.attribute_laws.specs.ValueForms.{ValueForm, FormedAttribute}
use Rattle.attribute_laws.proofs.ValueRun.{next, run, next-run, outside-only, op-run}
use Rattle.attribute_laws.proofs.PieceLaw.{at_name, up_to_name, with_token, flat, token-first}
use Rattle.attribute_laws.proofs.ViewLaw.{Follow, after-name}

-- the pieces at the attributes' names
abbrev pub pieces_from : ℕ → ℕ → List Reading → List (List Reading)
pieces_from before depth xs = (cut_from at_name 0 before depth xs).pieces

-- what holds of all pieces: of the first of them where one begins, and of the others
pieces-case : (P : List (List Reading) → Type 0) (before depth : ℕ) (x : Reading) (xs : List Reading) →
    (depth ≡ 0 → x.role ≡ AttributeName → P ((x ∷ up_to_name x.role (depth_after depth x.role) xs) ∷ pieces_from x.role (depth_after depth x.role) xs)) →
    (eqb depth 0 && eqb x.role AttributeName ≡ false → P (pieces_from x.role (depth_after depth x.role) xs)) → P (pieces_from before depth (x ∷ xs))
pieces-case P before depth x xs f g = go (eqb depth 0) (eqb x.role AttributeName) refl refl
  where
    c : Cut
    c = cut_from at_name 0 x.role (depth_after depth x.role) xs

    cut : Bool → Cut
    cut b = pick b (record { before = []; pieces = (x ∷ c.before) ∷ c.pieces }) (record { before = x ∷ c.before; pieces = c.pieces })

    go : (a b : Bool) → eqb depth 0 ≡ a → eqb x.role AttributeName ≡ b → P (cut (eqb depth 0 && eqb x.role AttributeName)).pieces
    go true true p q = rw (p, q) (f (eqb-true depth 0 p) (eqb-true x.role AttributeName q))
    go true false p q = rw (p, q) (g (rw (p, q)))
    go false b p q = rw p (g (rw p))

flat-name : (d r : ℕ) → d ≡ 0 → r ≡ AttributeName → depth_after d r ≡ 0
unfolding depth_after
flat-name d r p q = rw (p, q)

module _ (text : List ℕ) where
  -- a piece has one of the four forms
  abbrev pub Piece : AttributeText → Type 0
  Piece a = FormedAttribute text (first_token a.names) a

  named-piece : (at : ℕ) (x : Reading) (xs : List Reading) → x.role ≡ AttributeName → x.token ≡ token_at text at → length xs ≤ length text →
      run 1 (roles_of xs) ≡ 0 → Follow text (token_at text at).end xs → Piece (attribute_from (x ∷ up_to_name x.role 0 xs))
  unfolding depth_after
  named-piece at x xs r t l e f =
      let v = after-name text (token_at text at).end x.role xs l e f in
      let g : flat x.role ≡ true = rw r in
      let a : attribute_from (x ∷ up_to_name x.role 0 xs) ≡ with_token AttributeName x.token.start v.value =
      token-first x (up_to_name x.role 0 xs) g ∙ (ap (λ (n : ℕ). with_token n x.token.start (attribute_from (up_to_name x.role 0 xs))) r ∙ ap (with_token AttributeName x.token.start) v.lists) in
      let q : token_at text x.token.start ≡ token_at text at = ap (λ (u : Token). token_at text u.start) t ∙ token-again text at in
      let form : ValueForm text (token_at text x.token.start).end v.value = subst (λ (u : Token). ValueForm text u.end v.value) (sym q) v.form in
      subst Piece (sym a) (named x.token.start v.value form)
    where
      no_names : {at : ℕ} {v : AttributeText} → ValueForm text at v → v.names ≡ []
      no_names (Rattle.attribute_laws.specs.ValueForms.number k) = refl
      no_names (Rattle.attribute_laws.specs.ValueForms.list k m) = refl
      no_names (Rattle.attribute_laws.specs.ValueForms.dense k) = refl
      no_names (Rattle.attribute_laws.specs.ValueForms.choice k) = refl

      named : (start : ℕ) (v : AttributeText) → ValueForm text (token_at text start).end v → Piece (with_token AttributeName start v)
      named start v form = record { value = v; form = form; whole = rw (no_names form) }

  pieces-formed : (s depth before at : ℕ) (xs : List Reading) → length xs ≤ length text + 1 → run s (roles_of xs) ≡ 0 → Follow text at xs →
      All (λ p. Piece (attribute_from p)) (pieces_from before depth xs)
  pieces-formed s depth before at [] l e f = tt
  pieces-formed s depth before at (x ∷ xs) l e f =
      let ih = pieces-formed (next s x.role) (depth_after depth x.role) x.role (token_at text at).end xs (omega arith) e f.2 in
      pieces-case (All (λ p. Piece (attribute_from p))) before depth x xs (λ d r. (first d r, ih)) (λ q. ih)
    where
      first : depth ≡ 0 → x.role ≡ AttributeName → Piece (attribute_from (x ∷ up_to_name x.role (depth_after depth x.role) xs))
      first d r =
          let g : run s (AttributeName ∷ roles_of xs) ≡ 0 = subst (λ (n : ℕ). run s (n ∷ roles_of xs) ≡ 0) r e in
          let z : s ≡ 0 = outside-only s AttributeName (roles_of xs) tt g in
          let h : run 1 (roles_of xs) ≡ 0 = next-run s 1 AttributeName (roles_of xs) (rw z) g in
          let k : depth_after depth x.role ≡ 0 = flat-name depth x.role d r in
          subst (λ (d : ℕ). Piece (attribute_from (x ∷ up_to_name x.role d xs))) (sym k) (named-piece at x xs r f.0 (omega arith) h f.2)

  -- ---- an op that is read alone

  cell-follows : (n : ℕ) (ss : List ℕ) (at : ℕ) (c : Cell) → StandFor (roles_of (labelled (token_at text at) c (λ rest. readings_from n rest text (token_at text at).end)))
      (kinds_of text (tokens_of (labelled (token_at text at) c (λ rest. readings_from n rest text (token_at text at).end)))) →
      ((rest : List ℕ) → StandFor (roles_of (readings_from n rest text (token_at text at).end)) (kinds_of text (tokens_of (readings_from n rest text (token_at text at).end))) →
      Follow text (token_at text at).end (readings_from n rest text (token_at text at).end)) →
      Follow text at (labelled (token_at text at) c (λ rest. readings_from n rest text (token_at text at).end))
  cell-follows n ss at fails s ih = let f = stand-first text s in (refl, f.0, tt)
  cell-follows n ss at skips s ih = let f = stand-first text s in (refl, f.0, tt)
  cell-follows n ss at (takes r rest) s ih = let f = stand-first text s in (refl, f.0, ih rest f.1)

  from-follows : (n : ℕ) (ss : List ℕ) (at : ℕ) → StandFor (roles_of (readings_from n ss text at)) (kinds_of text (tokens_of (readings_from n ss text at))) → Follow text at (readings_from n ss text at)
  unfolding readings_from
  from-follows zero ss at s = tt
  from-follows (suc n) [] at s = tt
  from-follows (suc n) (c ∷ ss) at s =
      cell-follows n (c ∷ ss) at (step (c ∷ ss) (kind_of text (token_at text at))) s (λ rest t. from-follows n rest (token_at text at).end t)

  -- each attribute of an op that is read alone from a byte on has one of the four forms
  pub attributes-formed : (role at : ℕ) → OpAlone text role at → All Piece (op_from (readings_of Op text at)).attributes
  unfolding readings_of
  attributes-formed role at o =
      let xs = readings_of Op text at in
      all-map-from xs (pieces-formed 0 0 0 at xs (readings-short (length text + 1) (Op ∷ []) text at) (op-run o.leaves.leaves) (from-follows (length text + 1) (Op ∷ []) at o.leaves.tokens))
    where
      mapped : (ps : List (List Reading)) → All (λ p. Piece (attribute_from p)) ps → All Piece (map attribute_from ps)
      mapped [] a = tt
      mapped (p ∷ ps) a = (a.0, mapped ps a.1)

      all-map-from : (xs : List Reading) → All (λ p. Piece (attribute_from p)) (pieces_from 0 0 xs) → All Piece (op_from xs).attributes
      all-map-from xs a = mapped (pieces_from 0 0 xs) a
