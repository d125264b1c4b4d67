-- The type after the dense value of an op's attribute is the one that its token says.
-- Assumes nothing.
use mathlib.Core.Path.{◌≡◌, refl, sym, subst}
use mathlib.Core.List.{List, [], ◌∷◌, ◌++◌, map}
use mathlib.Core.Bool.{Bool, true}
use Prim.Native.Nat.{ℕ, ◌+◌, ◌<◌}
use native.Mathlib.Omega.{arith}
use lib.Dec.{T, eqb, eqb→eq}
use lib.ListN.{length, get_or}
use borrow.Author.Tests.{eqb-true, eq-eqb, le-ltb}
use Rattle.lists.specs.Lists.{All, concat}
use Rattle.lists.proofs.AllLaw.{all-get}
use Rattle.grammar.specs.Symbols.{AttributeName, OpName, Op, leaf_count}
use Rattle.grammar.proofs.TableTest.{implies, implied, up-to}
use Rattle.syntax.specs.Readings.{Reading, readings_of, readings}
use Rattle.syntax.specs.Roles.{roles_of}
use Rattle.syntax.specs.OpsAlone.{OpAlone, Outline}
use Rattle.judge.specs.Judge.{text_refusal}
use Rattle.program.specs.declared.Parts.{Parts}
use Rattle.program.specs.Parts.{part_of, no_parts, parts_from, parts_of, parts_at, op_at}
use Rattle.program.specs.Program.{program_of}
use Rattle.places.specs.Places.{attribute_name, count_of, place_of}
use Rattle.reading_laws.proofs.CountLaw.{none-counted, wide-none}
use Rattle.reading_laws.proofs.OpsLaw.{few_bytes, outlined, op-count, op-place}
use Rattle.part_laws.proofs.StandLaw.{Every, parts-every, level_all, yields-leaves}
use Rattle.optable.specs.Table.{DenseKind, attribute_kind}
use Rattle.optable.specs.declared.Row.{Row}
use Rattle.attribute.specs.Attribute.{form_at, dense_tokens}
use Rattle.attributes.specs.Attributes.{attributes_of, stands_at, stands, dense_fits, kind_fits, attributes_fit, name_of, dense_type}
use Rattle.part_laws.proofs.StandLaw.{type-said}
use Rattle.lists.proofs.TestLaw.{both_true}
use Rattle.default_laws.specs.Written.{said}
use Rattle.default_laws.proofs.AttributeLaw.{stands-there, kind_fits_lem}
use Rattle.default_laws.proofs.DenseLaw.{DenseStands, text-named}

-- ---- all of a list, and of its parts

module _ {A : Type 0} (P : A → Type 0) where
  all_left : (xs ys : List A) → All P (xs ++ ys) → All P xs
  all_left [] ys a = tt
  all_left (x ∷ xs) ys a = (a.0, all_left xs ys a.1)

  all_right : (xs ys : List A) → All P (xs ++ ys) → All P ys
  all_right [] ys a = a
  all_right (x ∷ xs) ys a = all_right xs ys a.1

  all-concat : (f : ℕ → List A) (ats : List ℕ) → All P (concat (map f ats)) → All (λ at. All P (f at)) ats
  unfolding concat
  all-concat f [] a = tt
  all-concat f (at ∷ ats) a = (all_left (f at) (concat (map f ats)) a, all-concat f ats (all_right (f at) (concat (map f ats)) a))

-- ---- the attributes of an op

-- a role in the part of attributes' names is that of one
abbrev name_test : ℕ → Bool
name_test r = implies (eqb (part_of r) attribute_name) (eqb r AttributeName)

name-role : (r : ℕ) → r < leaf_count → part_of r ≡ attribute_name → r ≡ AttributeName
unfolding part_of
name-role r h e = eqb→eq r AttributeName (implied (eqb (part_of r) attribute_name) (eqb r AttributeName) (up-to leaf_count name_test r tt h) (subst T (sym (eq-eqb (part_of r) attribute_name e)) tt))

-- op k of a text's program
abbrev op : List ℕ → ℕ → Parts
op text k = op_at text (get_or (program_of text).ops k 0)

-- what holds of the name of every attribute in the text
module _ (text : List ℕ) (read : (text_refusal text).number ≡ 0) (P : ℕ → Type 0) where
  abbrev Named : Reading → Type 0
  Named x = x.role ≡ AttributeName → P x.token.start

  abbrev Noted : ℕ → ℕ → Type 0
  Noted k a = k ≡ attribute_name → P a

  noted : (xs : List Reading) → All (λ l. l < leaf_count) (roles_of xs) → All Named xs → All (λ x. part_of x.role < 11 → Noted (part_of x.role) x.token.start) xs
  noted [] h a = tt
  noted (x ∷ xs) h a = ((λ l e. a.0 (name-role x.role h.0 e)), noted xs h.1 a.1)

  none-noted : Every Noted no_parts
  none-noted k j h l m = absurd (let z = none-counted k in omega arith)

  op-parts : (at : ℕ) → op_at text at ≡ parts_from 0 no_parts 0 (readings_of Op text at)
  unfolding op_at parts_at parts_of
  op-parts at = rw (le-ltb 65536 (length text) (few_bytes text read))

  alone-noted : (at : ℕ) → OpAlone text OpName at → All Named (readings_of Op text at) → Every Noted (op_at text at)
  alone-noted at o a =
      let xs = readings_of Op text at in
      subst (Every Noted) (sym (op-parts at)) (parts-every Noted 0 0 no_parts xs wide-none none-noted (level_all Noted 0 0 xs (noted xs (yields-leaves o.leaves.leaves) a)))

  ops-named : All Named (readings text) → (o : Outline text) → All (λ at. All Named (readings_of Op text at)) o.ops
  ops-named a o =
      let ys = concat (map (readings_of Op text) o.ops) in
      let zs = readings_of Op text o.last ++ o.closing in
      all-concat Named (readings_of Op text) o.ops
      (all_left Named ys zs (all_right Named o.header (ys ++ zs) (subst (All Named) o.whole a)))

  by-outline : All Named (readings text) → (o : Outline text) (k : ℕ) → k < length o.ops → Every Noted (op text k)
  by-outline a o k l =
      subst (λ (at : ℕ). Every Noted (op_at text at)) (sym (op-place text read o k l))
      (alone-noted (get_or o.ops k 0) (all-get (OpAlone text OpName) o.ops 0 o.each k l) (all-get (λ at. All Named (readings_of Op text at)) o.ops 0 (ops-named a o) k l))

  -- attribute j of op k, of the first eight
  pub attribute-holds : All Named (readings text) → (k : ℕ) → k + 1 < (program_of text).count → (j : ℕ) → j < count_of (op text k) attribute_name → j < 8 → P (place_of (op text k) attribute_name j)
  attribute-holds a k h j l m =
      let o = outlined text read in
      let c = op-count text read o in
      by-outline a o k (omega arith) attribute_name j (omega arith) l m refl

module _ (text : List ℕ) (read : (text_refusal text).number ≡ 0) where
  -- attribute j of op k, of the first eight
  pub dense-stands : (k : ℕ) → k + 1 < (program_of text).count → (j : ℕ) → j < count_of (op text k) attribute_name → j < 8 → DenseStands text (place_of (op text k) attribute_name j)
  dense-stands = attribute-holds text read (DenseStands text) (text-named text read)

  -- the type of a dense value that an op of the text has, where its attributes fit a row
  pub dense-written : (k : ℕ) → k + 1 < (program_of text).count → (row : Row) → attributes_fit text (op text k) row ≡ true → (a : ℕ) → attribute_kind a ≡ DenseKind → stands text (op text k) a ≡ true →
      dense_type text (op text k) a ≡ said text (dense_tokens text (name_of text (op text k) a)).ty
  unfolding kind_fits dense_type name_of attributes_of
  dense-written k h row fit a d e =
      let s = stands-there text (op text k) row fit a e in
      let m = s.0 in
      let f : kind_fits text (name_of text (op text k) a) DenseKind ≡ true = rw d at (kind_fits_lem text (op text k) row fit a e) in
      let form = eqb-true (form_at text (name_of text (op text k) a)) DenseKind (both_true (eqb (form_at text (name_of text (op text k) a)) DenseKind) (dense_fits text (name_of text (op text k) a)) f).0 in
      let t = dense-stands k h (stands_at text (op text k) a) (omega arith) (omega arith) in
      rw e (type-said text _ (t (rw e at form)))
