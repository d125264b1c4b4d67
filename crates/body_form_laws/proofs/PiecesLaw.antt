-- A body by its readings: its brace, its header, its ops and the return as pieces; the tokens of its ops are those of the pieces.
-- Assumes nothing.
use mathlib.Core.Path.{◌≡◌, refl, sym, ap, subst, ◌∙◌}
use mathlib.Core.List.{List, [], ◌∷◌, ◌++◌, append-nil, append_assoc}
use mathlib.Core.Bool.{Bool, true, false, ◌&&◌}
use Prim.Native.Nat.{ℕ}
use native.Mathlib.Omega.{arith}
use lib.Dec.{T, eqb}
use Rattle.lists.specs.Lists.{pick}
use Rattle.text.specs.declared.Token.{Token}
use Rattle.scan.specs.Bytes.{among as one_of}
use Rattle.grammar.specs.Symbols.{BodyOpen, BodyLabel, BodyOpName, BodyReturn, BodyClose, Body, Arguments, lparen, rparen, colon}
use Rattle.grammar.specs.Leaves.{Yields}
use Rattle.grammar.proofs.Leaves.{leading}
use Rattle.syntax.specs.Readings.{Reading, reading, readings_of}
use Rattle.syntax.specs.Roles.{roles_of}
use Rattle.syntax.specs.OpsAlone.{OpParts}
use Rattle.syntax.specs.BodiesAlone.{BodyOpAlone, BodyOpsRead, return, op, BodyOutline}
use Rattle.program.specs.Parts.{depth_after}
use Rattle.scope.specs.Scope.{begins}
use Rattle.source.specs.Source.{with_role, Cut, cut_from, enclosed}
use Rattle.reading_laws.proofs.DepthLaw.{depth_through}
use Rattle.part_laws.proofs.DepthLaw.{outside}
use Rattle.source_laws.proofs.CutLaw.{last_role, opened}
use Rattle.source_laws.proofs.OpCutLaw.{free}
use Rattle.source_laws.proofs.HeaderLaw.{role-append, apart_from, role-none}
use Rattle.body_form_laws.proofs.LevelLaw.{outside-both, role-inside, enclosed-inside}
use Rattle.body_form_laws.proofs.CutLaw.{argument_set, body_set, op-inside, cut-op, head-inside, head-outside, head-free, cut-head}

-- ---- the ops of a body

-- an op, as it stands in the body
abbrev pub body-op : {text : List ℕ} (names : List Reading) (name : Token) (rest : List Reading) → BodyOpAlone text names name rest → OpParts BodyOpName (names ++ (reading true BodyOpName name ∷ rest))
body-op names name rest a = record { names = names; name = name; rest = rest; whole = refl; naming = a.naming; leaves = a.leaves }

ops-inside : {text : List ℕ} {ops : List Reading} → BodyOpsRead text ops → T (outside body_set 0 (roles_of ops))
ops-inside (return {xs} o) = op-inside true xs o
ops-inside (op names name rest {more} a m) =
    subst (λ (l : List Reading). T (outside body_set 0 (roles_of l))) (append_assoc names (reading true BodyOpName name ∷ rest) more)
    (outside-both body_set 0 (names ++ (reading true BodyOpName name ∷ rest)) more (op-inside false (names ++ (reading true BodyOpName name ∷ rest)) (body-op names name rest a)) (ops-inside m))

-- ---- the pieces

-- the readings of each op, and those of the return with the closing brace
pub data BodyPieces (text : List ℕ) (close : Reading) : List (List Reading) → Type 0 where
  last : {xs : List Reading} → OpParts BodyReturn xs → BodyPieces text close ((xs ++ (close ∷ [])) ∷ [])
  next : (names : List Reading) (name : Token) (rest : List Reading) {ps : List (List Reading)} → BodyOpAlone text names name rest → BodyPieces text close ps →
      BodyPieces text close ((names ++ (reading true BodyOpName name ∷ rest)) ∷ ps)

-- the tokens of some roles of the pieces, one after the other
abbrev pub gathered : List ℕ → List (List Reading) → List ℕ
gathered roles [] = []
gathered roles (p ∷ ps) = with_role roles 0 0 p ++ gathered roles ps

pub record OpsCut (text : List ℕ) (close : Reading) (ops : List Reading) : Type 0 where
  pub pieces : List (List Reading)
  pub view : BodyPieces text close pieces
  pub cut : (role : ℕ) → T (free role) → cut_from begins 1 role 1 (ops ++ (close ∷ [])) ≡ record { before = []; pieces = pieces }
  pub gathers : (roles : List ℕ) → one_of roles BodyClose ≡ false → with_role roles 1 1 (ops ++ (close ∷ [])) ≡ gathered roles pieces

module _ (text : List ℕ) (close : Reading) (shut : close.role ≡ BodyClose) where
  close-cut : (role : ℕ) → cut_from begins 1 role 1 (close ∷ []) ≡ record { before = close ∷ []; pieces = [] }
  unfolding begins depth_after
  close-cut role = rw shut

  pub close-none : (roles : List ℕ) (level depth : ℕ) → one_of roles BodyClose ≡ false → with_role roles level depth (close ∷ []) ≡ []
  close-none roles level depth e = go (eqb depth level) (ap (one_of roles) shut ∙ e)
    where
      go : (b : Bool) → one_of roles close.role ≡ false → pick (b && one_of roles close.role) (close.token.start ∷ []) [] ≡ []
      go true q = rw q
      go false q = refl

  -- it is no token of the return
  pub close-after : (roles : List ℕ) → one_of roles BodyClose ≡ false → (xs : List Reading) → with_role roles 0 0 (xs ++ (close ∷ [])) ≡ with_role roles 0 0 xs
  close-after roles e xs =
      role-append roles 0 0 xs (close ∷ []) ∙ (ap (λ (l : List ℕ). with_role roles 0 0 xs ++ l) (close-none roles 0 (depth_through 0 (roles_of xs)) e) ∙ append-nil (with_role roles 0 0 xs))

  pub ops-cut : {ops : List Reading} → BodyOpsRead text ops → OpsCut text close ops
  ops-cut (return {xs} o) =
      record {
        pieces = (xs ++ (close ∷ [])) ∷ [];
        view = last o;
        cut = λ role t. (cut-op true role t xs (close ∷ []) o).0 ∙ ap (opened xs) (close-cut (last_role role (roles_of xs)));
        gathers = λ roles e.
            role-inside body_set tt roles xs (close ∷ []) (op-inside true xs o)
            ∙ (ap (λ (l : List ℕ). with_role roles 0 0 xs ++ l) (close-none roles 1 1 e) ∙ (append-nil (with_role roles 0 0 xs) ∙ sym (append-nil (with_role roles 0 0 (xs ++ (close ∷ []))) ∙ close-after roles e xs)));
      }
  ops-cut (op names name rest {more} a m) =
      let i = ops-cut m in
      let x = reading true BodyOpName name in
      let zs = more ++ (close ∷ []) in
      let one = names ++ (x ∷ rest) in
      let o = body-op names name rest a in
      let e : (names ++ (x ∷ (rest ++ more))) ++ (close ∷ []) ≡ one ++ zs =
      ap (λ (l : List Reading). l ++ (close ∷ [])) (sym (append_assoc names (x ∷ rest) more)) ∙ append_assoc one more (close ∷ []) in
      record {
        pieces = one ∷ i.pieces;
        view = next names name rest a i.view;
        cut = λ role t.
            let c = cut-op false role t one zs o in
            ap (λ (l : List Reading). cut_from begins 1 role 1 l) e
            ∙ (c.0 ∙ (ap (opened one) (i.cut (last_role role (roles_of one)) c.1) ∙ ap (λ (l : List Reading). record { before = []; pieces = l ∷ i.pieces }) (append-nil one)));
        gathers = λ roles c.
            ap (with_role roles 1 1) e ∙ (role-inside body_set tt roles one zs (op-inside false one o) ∙ ap (λ (l : List ℕ). with_role roles 0 0 one ++ l) (i.gathers roles c));
      }

-- ---- the whole body

pub record BodyShape (text : List ℕ) (ys : List Reading) : Type 0 where
  pub brace : Reading
  pub head : List Reading
  pub ops : List Reading
  pub close : Reading
  pub whole : ys ≡ brace ∷ (head ++ (ops ++ (close ∷ [])))
  pub opened : brace.role ≡ BodyOpen
  pub leaves : Yields (BodyLabel ∷ lparen ∷ Arguments ∷ rparen ∷ colon ∷ []) (roles_of head)
  pub each : BodyOpsRead text ops
  pub shut : close.role ≡ BodyClose

module _ {text : List ℕ} {at : ℕ} (o : BodyOutline text at) where
  by-lists : (header closing : List Reading) → readings_of Body text at ≡ header ++ (o.ops ++ closing) → Yields (BodyOpen ∷ BodyLabel ∷ lparen ∷ Arguments ∷ rparen ∷ colon ∷ []) (roles_of header) →
      roles_of closing ≡ BodyClose ∷ [] → BodyShape text (readings_of Body text at)
  by-lists [] closing e y c = let l = leading (omega arith) y in let z : ◌≡◌ {A = ℕ} 0 1 = (let w = l.first in cc) in absurd (omega arith)
  by-lists (x ∷ hs) [] e y c = let z : ◌≡◌ {A = ℕ} 0 1 = cc in absurd (omega arith)
  by-lists (x ∷ hs) (c0 ∷ d ∷ cs) e y c = let z : ◌≡◌ {A = ℕ} 0 1 = cc in absurd (omega arith)
  by-lists (x ∷ hs) (c0 ∷ []) e y c =
      let l = leading (omega arith) y in
      let v : roles_of hs ≡ l.after = (let w = l.first in cc) in
      record {
        brace = x;
        head = hs;
        ops = o.ops;
        close = c0;
        whole = e;
        opened = (let w = l.first in cc);
        leaves = subst (Yields (BodyLabel ∷ lparen ∷ Arguments ∷ rparen ∷ colon ∷ [])) (sym v) l.others;
        each = o.each;
        shut = cc;
      }

  pub shaped : BodyShape text (readings_of Body text at)
  shaped = by-lists o.header o.closing o.whole o.head o.close

module _ {text : List ℕ} {ys : List Reading} (s : BodyShape text ys) where
  step_in : depth_after 0 s.brace.role ≡ 1
  unfolding depth_after
  step_in = rw s.opened

  -- a body ends at the brace that closes it
  pub enclosed-body : (others : List Reading) → enclosed 0 (ys ++ others) ≡ ys
  enclosed-body others =
      let b = s.brace in
      let c = s.close in
      let inside = s.head ++ s.ops in
      let t = outside-both body_set 0 s.head s.ops (head-inside s.head s.leaves) (ops-inside s.each) in
      let e : ys ≡ b ∷ (inside ++ (c ∷ [])) = s.whole ∙ ap (λ (l : List Reading). b ∷ l) (sym (append_assoc s.head s.ops (c ∷ []))) in
      let f : ys ++ others ≡ b ∷ (inside ++ (c ∷ others)) = ap (λ (l : List Reading). l ++ others) e ∙ ap (λ (l : List Reading). b ∷ l) (append_assoc inside (c ∷ []) others) in
      ap (enclosed 0) f
      ∙ (ap (λ (n : ℕ). pick (eqb n 0) (b ∷ []) (b ∷ enclosed n (inside ++ (c ∷ others)))) step_in
      ∙ (ap (λ (l : List Reading). b ∷ l) (enclosed-inside body_set tt 0 inside c others t s.shut) ∙ sym e))

  abbrev tail : List Reading
  tail = s.ops ++ (s.close ∷ [])

  -- its ops are its pieces
  pub body-ops : OpsCut text s.close s.ops
  body-ops = ops-cut text s.close s.shut s.each

  pub body-cut : (cut_from begins 1 0 0 ys).pieces ≡ body-ops.pieces
  body-cut =
      let b = s.brace in
      ap (λ (l : List Reading). (cut_from begins 1 0 0 l).pieces) s.whole
      ∙ (ap (λ (n : ℕ). (cut_from begins 1 b.role n (s.head ++ tail)).pieces) step_in
      ∙ (ap (λ (c : Cut). c.pieces) (cut-head s.head s.leaves b.role tail)
      ∙ ap (λ (c : Cut). c.pieces) (body-ops.cut (last_role b.role (roles_of s.head)) (head-free s.head s.leaves b.role))))

  -- the tokens of roles that do not stand in its header
  pub body-gathers : (roles : List ℕ) → one_of roles BodyClose ≡ false → T (apart_from roles argument_set) → with_role roles 1 0 ys ≡ gathered roles body-ops.pieces
  body-gathers roles c t =
      ap (with_role roles 1 0) s.whole
      ∙ (ap (λ (n : ℕ). with_role roles 1 n (s.head ++ tail)) step_in
      ∙ (role-inside body_set tt roles s.head tail (head-inside s.head s.leaves)
      ∙ (ap (λ (l : List ℕ). l ++ with_role roles 1 1 tail) (role-none roles argument_set 0 s.head t (head-outside s.head s.leaves)) ∙ body-ops.gathers roles c)))
