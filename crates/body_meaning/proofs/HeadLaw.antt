-- A body whose parts note two arguments begins with them: their readings, and the places of their names.
-- Assumes nothing.
use mathlib.Core.Path.{◌≡◌, refl, ap, subst, ◌∙◌}
use mathlib.Core.List.{List, [], ◌∷◌, ◌++◌}
use mathlib.Core.Bool.{Bool, true, false, not}
use Prim.Native.Nat.{ℕ, zero, suc, ◌+◌, ◌-◌, ◌<◌, min}
use native.Mathlib.Omega.{arith}
use lib.Dec.{T, eqb, eqb→eq, ltb}
use borrow.Author.Tests.{eqb-true, ne_eqb}
use Rattle.lists.specs.Lists.{pick}
use Rattle.grammar.specs.Symbols.{BodyOpen, BodyLabel, ArgumentName, ArgumentType, BodyOpName, BodyReturn, BodyClose, lparen, rparen, comma, colon, Body, Arguments, MoreArguments, BodyOps, NamedBodyOps, among_symbols}
use Rattle.grammar.specs.Grammar.{Production, grammar}
use Rattle.grammar.specs.Derivation.{◌∈◌, here, there}
use Rattle.grammar.specs.Leaves.{Yields}
use Rattle.grammar.proofs.TableTest.{both_left, both_right, or}
use Rattle.grammar.proofs.CellView.{rule-passes}
use Rattle.grammar.proofs.Within.{member-passes}
use Rattle.syntax.specs.Readings.{Reading}
use Rattle.syntax.specs.Roles.{roles_of}
use Rattle.program.specs.declared.Parts.{Parts}
use Rattle.program.specs.Parts.{part_of, no_parts, added_to, noted, depth_after, parts_from}
use Rattle.places.specs.Places.{input_name, count_of, place_of}
use Rattle.reading_laws.proofs.CountLaw.{Wide, Noted, apart, within, noted-view, noted-count, wide-noted, wide-none, none-counted, place-stays}
use Rattle.part_laws.proofs.DepthLaw.{outside, keeps, yields-outside}
use Rattle.part_laws.proofs.YieldLaw.{yields-split}
use Rattle.part_laws.proofs.ItemLaw.{leaves, leaves-yield}
use Rattle.part_laws.proofs.OpLaw.{expanded}
use Rattle.part_laws.proofs.PartLaw.{without}
use Rattle.part_laws.proofs.CountLaw.{no_inputs}

-- ---- a body's parts, by the roles of its readings

-- how many of the roles, from depth d on, belong to part k inside one body
abbrev inner : ℕ → ℕ → List ℕ → ℕ
inner k d [] = 0
inner k d (r ∷ rs) = pick (eqb d 1) (pick (eqb (part_of r) k) 1 0) 0 + inner k (depth_after d r) rs

token-wide : (b : Bool) (p : Parts) (role place : ℕ) → Wide p → Wide (pick b (noted p role place) p)
token-wide true p role place w = wide-noted p role place w
token-wide false p role place w = w

inner-count : (k d : ℕ) (p : Parts) (xs : List Reading) → Wide p → k < 11 → count_of (parts_from 1 p d xs) k ≡ min (count_of p k + inner k d (roles_of xs)) 9
unfolding parts_from
inner-count k d p [] w h = let n = w.nine k h in omega arith
inner-count k d p (x ∷ xs) w h =
    let b = inner-count k (depth_after d x.role) (pick (eqb d 1) (noted p x.role x.token.start) p) xs (token-wide (eqb d 1) p x.role x.token.start w) h in
    let a = one (eqb d 1) in
    omega arith
  where
    one : (b : Bool) → count_of (pick b (noted p x.role x.token.start) p) k ≡ min (count_of p k + pick b (pick (eqb (part_of x.role) k) 1 0) 0) 9
    one true = noted-count p x.role x.token.start k w h
    one false = let n = w.nine k h in omega arith

-- a place that is noted stays
noted-stays : (k j : ℕ) {p q : Parts} {r place : ℕ} → j < 8 → j < count_of p k → Noted p r place q → place_of q k j ≡ place_of p k j
noted-stays k j h l (apart g) = refl
noted-stays k j {p} {q} {r} {place} h l (within g a) = place-stays k j h (λ e. subst (λ (i : ℕ). j < count_of p i) e l) a

place_kept : (k j d : ℕ) (p : Parts) (xs : List Reading) → Wide p → k < 11 → j < 8 → j < count_of p k → place_of (parts_from 1 p d xs) k j ≡ place_of p k j
unfolding parts_from
place_kept k j d p [] w h g l = refl
place_kept k j d p (x ∷ xs) w h g l =
    let y = one (eqb d 1) in
    place_kept k j (depth_after d x.role) (pick (eqb d 1) (noted p x.role x.token.start) p) xs (token-wide (eqb d 1) p x.role x.token.start w) h g y.0 ∙ y.1
  where
    one : (b : Bool) → (j < count_of (pick b (noted p x.role x.token.start) p) k) × (place_of (pick b (noted p x.role x.token.start) p) k j ≡ place_of p k j)
    one true = (let n = noted-count p x.role x.token.start k w h in omega arith, noted-stays k j g l (noted-view p x.role x.token.start))
    one false = (l, refl)

-- ---- the ops of a body have no argument

not-true-false : (b : Bool) → T (not b) → b ≡ false
not-true-false true t = absurd t
not-true-false false t = refl

-- the symbols and roles of a body's ops
abbrev op_symbols : List ℕ
op_symbols = BodyOps ∷ NamedBodyOps ∷ BodyOpName ∷ BodyReturn ∷ no_inputs

keeps-ops : (p : Production) → p ∈ grammar → T (keeps op_symbols p)
unfolding grammar depth_after
keeps-ops p m = rule-passes (keeps op_symbols) m tt

ops-outside : T (outside op_symbols 0 (BodyOps ∷ []))
unfolding depth_after
ops-outside = tt

-- those of no argument
argument-free : T (without input_name op_symbols)
unfolding part_of
argument-free = tt

-- one body further in
deeper-case : (d : ℕ) (a b : Bool) → (d ≡ 0 → b ≡ false) → pick a (suc d + 1) (pick b (suc d - 1) (suc d)) ≡ suc (pick a (d + 1) (pick b (d - 1) d))
deeper-case d true b f = omega arith
deeper-case zero false true f = let z : ◌≡◌ {A = ℕ} 0 1 = (let q = f refl in cc) in absurd (omega arith)
deeper-case (suc d) false true f = omega arith
deeper-case d false false f = refl

deeper : (d r : ℕ) → T (or (ltb 0 d) (among_symbols op_symbols r)) → depth_after (suc d) r ≡ suc (depth_after d r)
unfolding depth_after
deeper d r t = deeper-case d (eqb r BodyOpen) (eqb r BodyClose) (λ e. open-test (eqb r BodyClose) refl (subst (λ (n : ℕ). T (or (ltb 0 n) (among_symbols op_symbols r))) e t))
  where
    open-test : (b : Bool) → eqb r BodyClose ≡ b → T (among_symbols op_symbols r) → b ≡ false
    open-test true q u = absurd (subst (λ (n : ℕ). T (among_symbols op_symbols n)) (eqb-true r BodyClose q) u)
    open-test false q u = refl

none_inside : (d r : ℕ) → T (or (ltb 0 d) (among_symbols op_symbols r)) → ◌≡◌ {A = ℕ} (pick (eqb (suc d) 1) (pick (eqb (part_of r) input_name) 1 0) 0) 0
none_inside zero r t = rw (not-true-false (eqb (part_of r) input_name) (member-passes (λ x. not (eqb (part_of x) input_name)) op_symbols r argument-free t))
none_inside (suc d) r t = rw (ne_eqb (suc (suc d)) 1 (λ e. omega arith))

tail_none : (d : ℕ) (ls : List ℕ) → T (outside op_symbols d ls) → inner input_name (suc d) (ls ++ (BodyClose ∷ [])) ≡ 0
unfolding part_of
tail_none d [] t = rw (eqb→eq d 0 t)
tail_none d (r ∷ rs) t =
    let a = or (ltb 0 d) (among_symbols op_symbols r) in
    let b = outside op_symbols (depth_after d r) rs in
    let x = none_inside d r (both_left a b t) in
    let e = deeper d r (both_left a b t) in
    let y = ap (λ (n : ℕ). inner input_name n (rs ++ (BodyClose ∷ []))) e in
    let i = tail_none (depth_after d r) rs (both_right a b t) in
    omega arith

-- ---- the roles of a body with two arguments

abbrev two_arguments : List ℕ
two_arguments = BodyOpen ∷ BodyLabel ∷ lparen ∷ ArgumentName ∷ colon ∷ ArgumentType ∷ comma ∷ ArgumentName ∷ []

record Begins (pre ls : List ℕ) : Type 0 where
  others : List ℕ
  whole : ls ≡ pre ++ others

-- a member of two, or of one
two-of : {p a b : Production} (C : Production → Type 0) → p ∈ (a ∷ b ∷ []) → C a → C b → C p
two-of C here x y = x
two-of C (there here) x y = y
two-of C (there (there m)) x y = elim m [ ]

one_of : {p a : Production} (C : Production → Type 0) → p ∈ (a ∷ []) → C a → C p
one_of C here x = x
one_of C (there m) x = elim m [ ]

-- fewer arguments
fewer : (pre ls : List ℕ) (n : ℕ) → T (leaves pre) → ((ms : List ℕ) → inner input_name 0 (pre ++ ms) ≡ n + inner input_name 1 ms) → Yields (pre ++ (BodyOps ∷ BodyClose ∷ [])) ls → inner input_name 0 ls ≡ n
fewer pre ls n f g d =
    let t = yields-split pre d in
    let u = yields-split (BodyOps ∷ []) t.behind in
    let a = leaves-yield pre f t.ahead in
    let b = leaves-yield (BodyClose ∷ []) tt u.behind in
    let w : ls ≡ pre ++ (u.first ++ (BodyClose ∷ [])) = t.whole ∙ (ap (λ (l : List ℕ). l ++ t.second) a ∙ ap (λ (l : List ℕ). pre ++ l) (u.whole ∙ ap (λ (l : List ℕ). u.first ++ l) b)) in
    let z = tail_none 0 u.first (yields-outside op_symbols keeps-ops u.ahead 0 ops-outside) in
    let x = g (u.first ++ (BodyClose ∷ [])) in
    ap (inner input_name 0) w ∙ omega arith

with_two : (ls : List ℕ) → Yields (Body ∷ []) ls → inner input_name 0 ls ≡ 2 → Begins two_arguments ls
unfolding grammar part_of depth_after
with_two ls d c =
    let e = expanded [] (omega arith) d in
    one_of (λ (p : Production). Yields (p.right ++ []) ls → Begins two_arguments ls) e.alternative
    (λ y.
    let g = expanded (BodyOpen ∷ BodyLabel ∷ lparen ∷ []) {s = Arguments} {post = rparen ∷ colon ∷ BodyOps ∷ BodyClose ∷ []} (omega arith) y in
    two-of (λ (p : Production). Yields ((BodyOpen ∷ BodyLabel ∷ lparen ∷ []) ++ (p.right ++ (rparen ∷ colon ∷ BodyOps ∷ BodyClose ∷ []))) ls → Begins two_arguments ls) g.alternative
    (λ z.
    let h = expanded (BodyOpen ∷ BodyLabel ∷ lparen ∷ ArgumentName ∷ colon ∷ ArgumentType ∷ []) {s = MoreArguments} {post = rparen ∷ colon ∷ BodyOps ∷ BodyClose ∷ []} (omega arith) z in
    two-of (λ (p : Production). Yields ((BodyOpen ∷ BodyLabel ∷ lparen ∷ ArgumentName ∷ colon ∷ ArgumentType ∷ []) ++ (p.right ++ (rparen ∷ colon ∷ BodyOps ∷ BodyClose ∷ []))) ls → Begins two_arguments ls) h.alternative
    (λ v.
    let t = yields-split two_arguments {ss = colon ∷ ArgumentType ∷ MoreArguments ∷ rparen ∷ colon ∷ BodyOps ∷ BodyClose ∷ []} v in
    record { others = t.second; whole = t.whole ∙ ap (λ (l : List ℕ). l ++ t.second) (leaves-yield two_arguments tt t.ahead) })
    (λ v. let n = fewer (BodyOpen ∷ BodyLabel ∷ lparen ∷ ArgumentName ∷ colon ∷ ArgumentType ∷ rparen ∷ colon ∷ []) ls 1 tt (λ ms. omega arith) v in absurd (omega arith))
    h.yields)
    (λ z. let n = fewer (BodyOpen ∷ BodyLabel ∷ lparen ∷ rparen ∷ colon ∷ []) ls 0 tt (λ ms. omega arith) z in absurd (omega arith))
    g.yields)
    e.yields

-- ---- the first readings of a body with two arguments

record First (r : ℕ) (rs : List ℕ) (xs : List Reading) : Type 0 where
  it : Reading
  others : List Reading
  whole : xs ≡ it ∷ others
  role : it.role ≡ r
  rest : roles_of others ≡ rs

first : {r : ℕ} {rs : List ℕ} (xs : List Reading) → roles_of xs ≡ r ∷ rs → First r rs xs
first [] e = let z : ◌≡◌ {A = ℕ} 0 1 = cc in absurd (omega arith)
first (x ∷ xs) e = record { it = x; others = xs; whole = refl; role = cc; rest = cc }

-- the brace, the label, the parenthesis, an argument with its type, the comma and another argument
pub record Head : Type 0 where
  pub brace : Reading
  pub label : Reading
  pub paren : Reading
  pub left : Reading
  pub mark : Reading
  pub type : Reading
  pub separator : Reading
  pub right : Reading
  pub brace-role : brace.role ≡ BodyOpen
  pub label-role : label.role ≡ BodyLabel
  pub paren-role : paren.role ≡ lparen
  pub left-role : left.role ≡ ArgumentName
  pub mark-role : mark.role ≡ colon
  pub type-role : type.role ≡ ArgumentType
  pub separator-role : separator.role ≡ comma
  pub right-role : right.role ≡ ArgumentName

-- those after the brace
abbrev pub after_brace : Head → List Reading
after_brace h = h.label ∷ h.paren ∷ h.left ∷ h.mark ∷ h.type ∷ h.separator ∷ h.right ∷ []

-- readings that begin with them
pub record Headed (xs : List Reading) : Type 0 where
  pub head : Head
  pub others : List Reading
  pub whole : xs ≡ (head.brace ∷ after_brace head) ++ others

headed : (xs : List Reading) → Begins two_arguments (roles_of xs) → Headed xs
headed xs b =
    let a = first xs b.whole in
    let c = first a.others a.rest in
    let d = first c.others c.rest in
    let e = first d.others d.rest in
    let f = first e.others e.rest in
    let g = first f.others f.rest in
    let h = first g.others g.rest in
    let i = first h.others h.rest in
    record {
      head = record {
        brace = a.it;
        label = c.it;
        paren = d.it;
        left = e.it;
        mark = f.it;
        type = g.it;
        separator = h.it;
        right = i.it;
        brace-role = a.role;
        label-role = c.role;
        paren-role = d.role;
        left-role = e.role;
        mark-role = f.role;
        type-role = g.role;
        separator-role = h.role;
        right-role = i.role;
      };
      others = i.others;
      whole = a.whole ∙ ap (λ (l : List Reading). a.it ∷ l)
          (c.whole ∙ ap (λ (l : List Reading). c.it ∷ l)
          (d.whole ∙ ap (λ (l : List Reading). d.it ∷ l)
          (e.whole ∙ ap (λ (l : List Reading). e.it ∷ l)
          (f.whole ∙ ap (λ (l : List Reading). f.it ∷ l)
          (g.whole ∙ ap (λ (l : List Reading). g.it ∷ l)
          (h.whole ∙ ap (λ (l : List Reading). h.it ∷ l) i.whole))))));
    }

-- their parts
step-open : (p : Parts) (x : Reading) (xs : List Reading) → x.role ≡ BodyOpen → parts_from 1 p 0 (x ∷ xs) ≡ parts_from 1 p 1 xs
unfolding parts_from depth_after
step-open p x xs e = ap (λ (r : ℕ). parts_from 1 p (depth_after 0 r) xs) e

step_in : (p : Parts) (x : Reading) (xs : List Reading) (r : ℕ) → x.role ≡ r → depth_after 1 r ≡ 1 → parts_from 1 p 1 (x ∷ xs) ≡ parts_from 1 (noted p r x.token.start) 1 xs
unfolding parts_from
step_in p x xs r e d =
    ap (λ (q : ℕ). parts_from 1 (noted p q x.token.start) (depth_after 1 q) xs) e ∙ ap (λ (n : ℕ). parts_from 1 (noted p r x.token.start) n xs) d

abbrev head_parts : (a b c d e f g : ℕ) → Parts
head_parts a b c d e f g = noted (noted (noted (noted (noted (noted (noted no_parts BodyLabel a) lparen b) ArgumentName c) colon d) ArgumentType e) comma f) ArgumentName g

module _ (a b c d e f g : ℕ) where
  head-wide : Wide (head_parts a b c d e f g)
  head-wide =
      wide-noted _ ArgumentName g
      (wide-noted _ comma f
      (wide-noted _ ArgumentType e (wide-noted _ colon d (wide-noted _ ArgumentName c (wide-noted _ lparen b (wide-noted no_parts BodyLabel a wide-none))))))

  head-places : (count_of (head_parts a b c d e f g) input_name ≡ 2) × (place_of (head_parts a b c d e f g) input_name 0 ≡ c) × (place_of (head_parts a b c d e f g) input_name 1 ≡ g)
  unfolding noted added_to part_of no_parts count_of place_of
  head-places = (refl, refl, refl)

-- the places of the first two arguments
pub two-places : (h : Head) (others : List Reading) →
    (place_of (parts_from 1 no_parts 0 ((h.brace ∷ after_brace h) ++ others)) input_name 0 ≡ h.left.token.start)
    × (place_of (parts_from 1 no_parts 0 ((h.brace ∷ after_brace h) ++ others)) input_name 1 ≡ h.right.token.start)
unfolding depth_after
two-places h others =
    let a = h.label.token.start in
    let b = h.paren.token.start in
    let c = h.left.token.start in
    let d = h.mark.token.start in
    let e = h.type.token.start in
    let f = h.separator.token.start in
    let g = h.right.token.start in
    let q = head_parts a b c d e f g in
    let z : parts_from 1 no_parts 0 ((h.brace ∷ after_brace h) ++ others) ≡ parts_from 1 q 1 others =
    step-open no_parts h.brace _ h.brace-role
    ∙ (step_in _ h.label _ BodyLabel h.label-role refl
    ∙ (step_in _ h.paren _ lparen h.paren-role refl
    ∙ (step_in _ h.left _ ArgumentName h.left-role refl
    ∙ (step_in _ h.mark _ colon h.mark-role refl
    ∙ (step_in _ h.type _ ArgumentType h.type-role refl
    ∙ (step_in _ h.separator _ comma h.separator-role refl ∙ step_in _ h.right others ArgumentName h.right-role refl)))))) in
    let w = head-wide a b c d e f g in
    let p = head-places a b c d e f g in
    let two = p.0 in (
      ap (λ (x : Parts). place_of x input_name 0) z ∙ (place_kept input_name 0 1 q others w (omega arith) (omega arith) (omega arith) ∙ p.1),
      ap (λ (x : Parts). place_of x input_name 1) z ∙ (place_kept input_name 1 1 q others w (omega arith) (omega arith) (omega arith) ∙ p.2),
    )

-- a body whose parts note two arguments begins with them
pub two-headed : (xs : List Reading) → Yields (Body ∷ []) (roles_of xs) → count_of (parts_from 1 no_parts 0 xs) input_name ≡ 2 → Headed xs
two-headed xs y c =
    let i = inner-count input_name 0 no_parts xs wide-none (omega arith) in
    let z = none-counted input_name in
    headed xs (with_two (roles_of xs) y (omega arith))
