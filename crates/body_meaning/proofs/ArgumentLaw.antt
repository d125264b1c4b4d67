-- Where the names of an op are not refused, the two arguments of its body have different names (01, refusal 6: "value name defined twice").
-- Assumes nothing.
use mathlib.Core.Path.{◌≡◌, refl, sym, ap, subst, ◌∙◌}
use mathlib.Core.List.{List, [], ◌∷◌, ◌++◌, append_assoc, map}
use mathlib.Core.Bool.{Bool, true, false}
use Prim.Native.Nat.{ℕ, zero, suc, ◌+◌, ◌<◌, ◌≤◌}
use native.Mathlib.Omega.{arith}
use lib.Dec.{T, eqb, eqb→eq, ltb}
use lib.ListN.{length, get_or}
use borrow.Author.Tests.{eq-eqb, le-ltb, lt-ltb}
use Rattle.lists.specs.Lists.{pick, All, concat}
use Rattle.lists.proofs.AllLaw.{all-get}
use Rattle.grammar.specs.Symbols.{NamedOp, BodyOpen, BodyLabel, ArgumentName, ArgumentType, lparen, comma, colon, OpName, Body, Op, Program, leaf_count, among_symbols}
use Rattle.grammar.specs.Grammar.{Production, grammar}
use Rattle.grammar.specs.Derivation.{◌∈◌}
use Rattle.grammar.proofs.TableTest.{both_left, both_right, or, implies, implied, up-to}
use Rattle.grammar.proofs.CellView.{rule-passes}
use Rattle.grammar.proofs.Within.{all_pass}
use Rattle.syntax.specs.Readings.{Reading, readings_of, readings}
use Rattle.syntax.specs.Roles.{roles_of}
use Rattle.syntax.specs.OpsAlone.{OpAlone}
use Rattle.syntax.proofs.BodyLaw.{bodies}
use Rattle.syntax.proofs.Theorems.{no-fault}
use Rattle.judge.specs.Judge.{text_refusal}
use Rattle.judge.proofs.Theorems.{accepted-sentence}
use Rattle.program.specs.declared.Parts.{Parts}
use Rattle.program.specs.Parts.{part_of, no_parts, depth_after, parts_from, parts_of, parts_at, op_at, body_at}
use Rattle.program.specs.Program.{program_of}
use Rattle.places.specs.Places.{body_open, input_name, count_of, place_of}
use Rattle.scope.specs.Scope.{Scope, scope, fault, fault_of, and_then, body, same_at, defines, visible, define, settle, begins, ends, placed, turned, names_from, names_of}
use Rattle.values.specs.declared.Value.{Value}
use Rattle.known.specs.Known.{known_names, names_fault}
use Rattle.scope_laws.proofs.DefinedLaw.{between, added}
use Rattle.scope_laws.proofs.PlaceBoundLaw.{Started, started}
use Rattle.scope_laws.proofs.Theorems.{Numbered, Without, no-fault as no-faults, from-numbered, new-name}
use Rattle.reading_laws.proofs.CountLaw.{wide-none, none-counted}
use Rattle.reading_laws.proofs.OpsLaw.{few_bytes, outlined, op-count, op-place}
use Rattle.part_laws.proofs.DepthLaw.{outside, keeps, yields-outside}
use Rattle.part_laws.proofs.CountLaw.{anywhere}
use Rattle.part_laws.proofs.StandLaw.{Every, Level, parts-every, yields-leaves}
use Rattle.body_meaning.proofs.HeadLaw.{Head, after_brace, two-places, two-headed}

-- ---- names that are not refused

without-fault : (s : Scope) (f : List ℕ → Scope) → Numbered s → (fault_of (and_then s f)).refusal ≡ 0 → Without s
unfolding fault_of
without-fault (scope es) f n e = record { out = es; is = refl }
without-fault (fault m a) f n e = no-faults (fault m a) n e

-- ---- the names of the arguments

module _ (text : List ℕ) where
  names-step : (before : ℕ) (es : List ℕ) (x : Reading) (xs : List Reading) (r : ℕ) → x.role ≡ r →
      names_from text before es (x ∷ xs) ≡ and_then (turned text before r x.token.start es) (λ rest. names_from text r rest xs)
  unfolding names_from
  names-step before es x xs r e = ap (λ (q : ℕ). and_then (turned text before q x.token.start es) (λ rest. names_from text q rest xs)) e

  calm-step : (before : ℕ) (es out : List ℕ) (x : Reading) (xs : List Reading) (r : ℕ) → x.role ≡ r → turned text before r x.token.start es ≡ scope es →
      names_from text before es (x ∷ xs) ≡ scope out → names_from text r es xs ≡ scope out
  calm-step before es out x xs r e c n = sym (names-step before es x xs r e ∙ ap (λ (s : Scope). and_then s (λ rest. names_from text r rest xs)) c) ∙ n

  not_same : (e a : ℕ) (es : List ℕ) → e < body → visible text a (e ∷ es) ≡ false → same_at text e a ≡ false
  unfolding visible defines
  not_same e a es h v = go (same_at text e a) refl (rw (lt-ltb e body h) at v)
    where
      go : (b : Bool) → same_at text e a ≡ b → pick (same_at text e a) true (visible text a es) ≡ false → same_at text e a ≡ false
      go true q w = let z : ◌≡◌ {A = ℕ} 0 1 = (let y : true ≡ false = rw q at w in cc) in absurd (omega arith)
      go false q w = q

  two-names : (before : ℕ) (es out : List ℕ) (h : Head) (others : List Reading) → h.left.token.start < body →
      names_from text before es ((h.brace ∷ after_brace h) ++ others) ≡ scope out → same_at text h.left.token.start h.right.token.start ≡ false
  unfolding turned ends begins placed
  two-names before es out h others l n =
      let a = h.left.token.start in
      let g = h.right.token.start in
      let n0 : names_from text BodyOpen (body ∷ es) _ ≡ scope out = sym (names-step before es h.brace _ BodyOpen h.brace-role) ∙ n in
      let n1 = calm-step BodyOpen (body ∷ es) out h.label _ BodyLabel h.label-role refl n0 in
      let n2 = calm-step BodyLabel (body ∷ es) out h.paren _ lparen h.paren-role refl n1 in
      let b3 = between (define text a (body ∷ es)) (λ rest. names_from text ArgumentName rest _) out (sym (names-step lparen (body ∷ es) h.left _ ArgumentName h.left-role) ∙ n2) in
      let m = b3.mid in
      let n4 = calm-step ArgumentName m out h.mark _ colon h.mark-role refl b3.then in
      let n5 = calm-step colon m out h.type _ ArgumentType h.type-role refl n4 in
      let n6 = calm-step ArgumentType m out h.separator _ comma h.separator-role refl n5 in
      let b7 = between (define text g m) (λ rest. names_from text ArgumentName rest others) out (sym (names-step comma m h.right others ArgumentName h.right-role) ∙ n6) in
      let v : visible text g (a ∷ body ∷ es) ≡ false = subst (λ (y : List ℕ). visible text g y ≡ false) (added text a (body ∷ es) m b3.first) (new-name text g m b7.mid b7.first) in
      not_same a g (body ∷ es) l v

-- ---- the bodies of an op

-- readings that begin alike: those of a body that is still open do not end among tokens that open and close none
record Covers (hs ys : List Reading) : Type 0 where
  tail : List Reading
  whole : ys ≡ hs ++ tail

covers : (set : List ℕ) (hs ys post others : List Reading) → ys ++ post ≡ hs ++ others → T (all_pass (λ r. eqb (depth_after 1 r) 1) (roles_of hs)) → T (outside set 1 (roles_of ys)) → Covers hs ys
covers set [] ys post others e f t = record { tail = ys; whole = refl }
covers set (h ∷ hs) [] post others e f t = absurd t
covers set (h ∷ hs) (y ∷ ys) post others e f t =
    let q : y ≡ h = cc in
    let r : ys ++ post ≡ hs ++ others = cc in
    let d : depth_after 1 y.role ≡ 1 = ap (λ (x : Reading). depth_after 1 x.role) q ∙ eqb→eq (depth_after 1 h.role) 1 (both_left (eqb (depth_after 1 h.role) 1) _ f) in
    let u = subst (λ (n : ℕ). T (outside set n (roles_of ys))) d (both_right (or (ltb 0 1) (among_symbols set y.role)) (outside set (depth_after 1 y.role) (roles_of ys)) t) in
    let c = covers set hs ys post others r (both_right (eqb (depth_after 1 h.role) 1) _ f) u in
    record { tail = c.tail; whole = ap (λ (x : Reading). x ∷ ys) q ∙ ap (λ (l : List Reading). h ∷ l) c.whole }

-- an op's symbols and roles outside its bodies
abbrev whole_op : List ℕ
whole_op = Op ∷ NamedOp ∷ anywhere

keeps-op : (p : Production) → p ∈ grammar → T (keeps whole_op p)
unfolding grammar depth_after
keeps-op p m = rule-passes (keeps whole_op) m tt

op-outside : T (outside whole_op 0 (Op ∷ []))
unfolding depth_after
op-outside = tt

opened : (x : Reading) (xs : List Reading) → x.role ≡ BodyOpen → T (outside whole_op 0 (roles_of (x ∷ xs))) → T (outside whole_op 1 (roles_of xs))
unfolding depth_after
opened x xs e t =
    subst (λ (r : ℕ). T (outside whole_op (depth_after 0 r) (roles_of xs))) e (both_right (or (ltb 0 0) (among_symbols whole_op x.role)) (outside whole_op (depth_after 0 x.role) (roles_of xs)) t)

calm-head : (h : Head) → T (all_pass (λ r. eqb (depth_after 1 r) 1) (roles_of (after_brace h)))
unfolding depth_after
calm-head h = rw (h.label-role, h.paren-role, h.left-role, h.mark-role, h.type-role, h.separator-role, h.right-role) tt

-- a role in the part of bodies opens one
abbrev body_test : ℕ → Bool
body_test r = implies (eqb (part_of r) body_open) (eqb r BodyOpen)

body-role : (r : ℕ) → r < leaf_count → part_of r ≡ body_open → r ≡ BodyOpen
unfolding part_of
body-role r h e = eqb→eq r BodyOpen (implied (eqb (part_of r) body_open) (eqb r BodyOpen) (up-to leaf_count body_test r tt h) (subst T (sym (eq-eqb (part_of r) body_open e)) tt))

started-after : (xs ys : List Reading) → Started (xs ++ ys) → Started ys
started-after [] ys s = s
started-after (x ∷ xs) ys s = started-after xs ys s.1

-- the readings of an op among those of all ops
record Amid (f : ℕ → List Reading) (at : ℕ) (xs : List Reading) : Type 0 where
  pre : List Reading
  post : List Reading
  whole : xs ≡ pre ++ (f at ++ post)

amid : (f : ℕ → List Reading) (ops : List ℕ) (k : ℕ) → k < length ops → Amid f (get_or ops k 0) (concat (map f ops))
unfolding concat
amid f [] k h = absurd (omega arith)
amid f (a ∷ ops) zero h = record { pre = []; post = concat (map f ops); whole = refl }
amid f (a ∷ ops) (suc k) h =
    let m = amid f ops k (omega arith) in
    record { pre = f a ++ m.pre; post = m.post; whole = ap (λ (l : List Reading). f a ++ l) m.whole ∙ sym (append_assoc (f a) m.pre _) }

module _ (text : List ℕ) (e : (text_refusal text).number ≡ 0) where
  parts-there : (symbol level at : ℕ) → parts_at symbol level text at ≡ parts_from level no_parts 0 (readings_of symbol text at)
  unfolding parts_at parts_of
  parts-there symbol level at = rw (le-ltb 65536 (length text) (few_bytes text e))

  -- where the body at a byte has two arguments, their names differ
  abbrev pub Apart : ℕ → Type 0
  Apart at = count_of (body_at text at) input_name ≡ 2 → same_at text (place_of (body_at text at) input_name 0) (place_of (body_at text at) input_name 1) ≡ false

  body-apart : (before : ℕ) (es out : List ℕ) (pre : List Reading) (x : Reading) (xs post : List Reading) → readings text ≡ pre ++ (x ∷ (xs ++ post)) → x.role ≡ BodyOpen →
      T (outside whole_op 0 (roles_of (x ∷ xs))) → Started (x ∷ (xs ++ post)) → names_from text before es (x ∷ xs) ≡ scope out → Apart x.token.start
  unfolding body_at
  body-apart before es out pre x xs post q w t s n c =
      let b = bodies text (no-fault text (accepted-sentence text e)) pre x (xs ++ post) q w in
      let zs = readings_of Body text x.token.start in
      let there = parts-there Body 1 x.token.start in
      let m = two-headed zs b.leaves.leaves (ap (λ (p : Parts). count_of p input_name) (sym there) ∙ c) in
      let h = m.head in
      let y : x ∷ (xs ++ post) ≡ (h.brace ∷ after_brace h) ++ (m.others ++ b.others) = b.whole ∙ ap (λ (l : List Reading). l ++ b.others) m.whole in
      let y0 : x ≡ h.brace = cc in
      let y1 : xs ++ post ≡ after_brace h ++ (m.others ++ b.others) = cc in
      let k = covers whole_op (after_brace h) xs post (m.others ++ b.others) y1 (calm-head h) (opened x xs w t) in
      let v : x ∷ xs ≡ (h.brace ∷ after_brace h) ++ k.tail = ap (λ (r : Reading). r ∷ xs) y0 ∙ ap (λ (l : List Reading). h.brace ∷ l) k.whole in
      let l : h.left.token.start ≤ 65536 = (subst Started y s).1.1.1.0 in
      let a = two-names text before es out h k.tail (omega arith) (sym (ap (names_from text before es) v) ∙ n) in
      let p = two-places h m.others in
      rw (there, m.whole, p.0, p.1) a

  -- the part of bodies holds such bodies
  abbrev Bodied : ℕ → ℕ → Type 0
  Bodied k a = k ≡ body_open → Apart a

  level-apart : (before d : ℕ) (es out : List ℕ) (pre xs post : List Reading) → readings text ≡ pre ++ (xs ++ post) → All (λ l. l < leaf_count) (roles_of xs) →
      T (outside whole_op d (roles_of xs)) → Started (xs ++ post) → names_from text before es xs ≡ scope out → Level Bodied 0 d xs
  unfolding names_from
  level-apart before d es out pre [] post q low t s n = tt
  level-apart before d es out pre (x ∷ xs) post q low t s n =
      let b = between (turned text before x.role x.token.start es) (λ rest. names_from text x.role rest xs) out n in (
        (λ z l k. body-apart before es out pre x xs post q (body-role x.role low.0 k) (subst (λ (m : ℕ). T (outside whole_op m (roles_of (x ∷ xs)))) z t) s n),
        level-apart x.role (depth_after d x.role) b.mid out (pre ++ (x ∷ [])) xs post (q ∙ sym (append_assoc pre (x ∷ []) (xs ++ post))) low.1
            (both_right (or (ltb 0 d) (among_symbols whole_op x.role)) (outside whole_op (depth_after d x.role) (roles_of xs)) t) s.1 b.then,
      )

  started-all : Started (readings text)
  unfolding readings readings_of
  started-all = started text (few_bytes text e) (length text + 1) (Program ∷ []) 0 (omega arith)

  none_yet : Every Bodied no_parts
  none_yet k j h l m = absurd (let z = none-counted k in omega arith)

  alone-apart : (values : List Value) (n at : ℕ) → OpAlone text OpName at → Amid (readings_of Op text) at (readings text) → (names_fault text values n at).refusal ≡ 0 →
      (j : ℕ) → j < count_of (op_at text at) body_open → j < 8 → Apart (place_of (op_at text at) body_open j)
  unfolding op_at names_fault names_of
  alone-apart values n at o a f =
      let xs = readings_of Op text at in
      let s = without-fault (names_from text 0 (known_names values n) xs) (settle text) (from-numbered text 0 (known_names values n) xs) f in
      let y = o.leaves.leaves in
      let l = level-apart 0 0 (known_names values n) s.out a.pre xs a.post a.whole (yields-leaves y) (yields-outside whole_op keeps-op y 0 op-outside)
      (started-after a.pre (xs ++ a.post) (subst Started a.whole started-all)) s.is in
      subst (λ (p : Parts). (j : ℕ) → j < count_of p body_open → j < 8 → Apart (place_of p body_open j)) (sym (parts-there Op 0 at))
      (λ j g m. parts-every Bodied 0 0 no_parts xs wide-none none_yet l body_open j (omega arith) g m refl)

  -- each op of the text but the return
  pub arguments-apart : (values : List Value) (n k : ℕ) → k + 1 < (program_of text).count → (names_fault text values n (get_or (program_of text).ops k 0)).refusal ≡ 0 →
      (j : ℕ) → j < count_of (op_at text (get_or (program_of text).ops k 0)) body_open → j < 8 → Apart (place_of (op_at text (get_or (program_of text).ops k 0)) body_open j)
  arguments-apart values n k h f =
      let o = outlined text e in
      let c = op-count text e o in
      let l : k < length o.ops = omega arith in
      let z = op-place text e o k l in
      let m = amid (readings_of Op text) o.ops k l in
      let w : readings text ≡ (o.header ++ m.pre) ++ (readings_of Op text (get_or o.ops k 0) ++ (m.post ++ (readings_of Op text o.last ++ o.closing))) =
      o.whole ∙ (ap (λ (y : List Reading). o.header ++ (y ++ (readings_of Op text o.last ++ o.closing))) m.whole
      ∙ (ap (λ (y : List Reading). o.header ++ y) (append_assoc m.pre (readings_of Op text (get_or o.ops k 0) ++ m.post) _
      ∙ ap (λ (y : List Reading). m.pre ++ y) (append_assoc (readings_of Op text (get_or o.ops k 0)) m.post _)) ∙ sym (append_assoc o.header m.pre _))) in
      subst (λ (a : ℕ). (j : ℕ) → j < count_of (op_at text a) body_open → j < 8 → Apart (place_of (op_at text a) body_open j)) (sym z)
      (alone-apart values n (get_or o.ops k 0) (all-get (OpAlone text OpName) o.ops 0 o.each k l)
      (record { pre = o.header ++ m.pre; post = m.post ++ (readings_of Op text o.last ++ o.closing); whole = w })
      (subst (λ (a : ℕ). (names_fault text values n a).refusal ≡ 0) z f))
