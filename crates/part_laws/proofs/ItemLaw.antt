-- The items of a list, split by commas: a text that reading passes has at most eight (01, Sizes, 5).
-- Assumes nothing.
use mathlib.Core.Path.{◌≡◌, refl, sym, ap, subst, ◌∙◌}
use mathlib.Core.List.{List, [], ◌∷◌, ◌++◌, append-nil, append_assoc}
use mathlib.Core.Bool.{Bool, true, false, ◌&&◌}
use Prim.Native.Nat.{ℕ, zero, suc, ◌+◌, ◌<◌, ◌≤◌}
use native.Mathlib.Omega.{arith}
use lib.Dec.{T, eqb, ltb, ltb→lt}
use lib.ListN.{length, length-append}
use borrow.Author.Tests.{ltb-false}
use Rattle.lists.specs.Lists.{pick}
use Rattle.grammar.specs.Symbols.{comma, leaf_count}
use Rattle.grammar.specs.Grammar.{Production, ◌⟶◌, grammar}
use Rattle.grammar.specs.Derivation.{◌∈◌, here, there}
use Rattle.grammar.specs.Leaves.{Yields}
use Rattle.grammar.proofs.TableTest.{both, both_left, both_right}
use Rattle.grammar.proofs.Leaves.{leading, nothing_left}
use Rattle.syntax.specs.Readings.{Reading}
use Rattle.syntax.specs.Roles.{roles_of}
use Rattle.judge.specs.declared.tally.Tally.{Tally}
use Rattle.judge.specs.Roles.{among_roles, listed_roles, item_roles}
use Rattle.judge.specs.Tally.{item_number, items_after, after_token}
use Rattle.judge.specs.Sizes.{many_items, passes}
use Rattle.judge.proofs.Theorems.{Each, Sound, token-sound}
use Rattle.reading_laws.proofs.TallyLaw.{passes_none}
use Rattle.part_laws.proofs.YieldLaw.{those, By, by-alternative, Two, yields-split}

-- every symbol is a leaf
abbrev pub leaves : List ℕ → Bool
leaves [] = true
leaves (x ∷ xs) = both (ltb x leaf_count) (leaves xs)

-- leaves yield themselves
pub leaves-yield : (xs : List ℕ) {ls : List ℕ} → T (leaves xs) → Yields xs ls → ls ≡ xs
leaves-yield [] t d = nothing_left d
leaves-yield (x ∷ xs) t d =
    let l = leading (ltb→lt x leaf_count (both_left (ltb x leaf_count) (leaves xs) t)) d in
    l.first ∙ ap (λ (ys : List ℕ). x ∷ ys) (leaves-yield xs (both_right (ltb x leaf_count) (leaves xs) t) l.others)

-- n further items, each after a comma
pub data Chain (item : List ℕ) : ℕ → List ℕ → Type 0 where
  none : Chain item 0 []
  more : {n : ℕ} {ls : List ℕ} → Chain item n ls → Chain item (suc n) (comma ∷ (item ++ ls))

pub record Chained (item ls : List ℕ) : Type 0 where
  pub count : ℕ
  pub items : Chain item count ls

-- a symbol whose alternatives are: a comma, an item and the symbol again; or nothing
module _ (item : List ℕ) (again : ℕ) (high : leaf_count ≤ again) (flat : T (leaves item)) (e : those again grammar ≡ (again ⟶ comma ∷ (item ++ (again ∷ []))) ∷ (again ⟶ []) ∷ []) where
  step : {p : Production} (n : ℕ) (ls : List ℕ) → length ls ≤ n → ((ms : List ℕ) → length ms < length ls → Yields (again ∷ []) ms → Chained item ms) →
      p ∈ ((again ⟶ comma ∷ (item ++ (again ∷ []))) ∷ (again ⟶ []) ∷ []) → Yields (p.right ++ []) ls → Chained item ls
  step n ls h rec here y =
      let z : (comma ∷ (item ++ (again ∷ []))) ++ [] ≡ (comma ∷ item) ++ (again ∷ []) = append-nil (comma ∷ (item ++ (again ∷ []))) in
      let t = yields-split (comma ∷ item) (subst (λ (l : List ℕ). Yields l ls) z y) in
      let f : t.first ≡ comma ∷ item = leaves-yield (comma ∷ item) flat t.ahead in
      let w : ls ≡ comma ∷ (item ++ t.second) = t.whole ∙ ap (λ (l : List ℕ). l ++ t.second) f in
      let b : length ls ≡ suc (length item + length t.second) = ap length w ∙ ap suc (length-append item t.second) in
      let c = rec t.second (omega arith) t.behind in
      record { count = suc c.count; items = subst (λ (l : List ℕ). Chain item (suc c.count) l) (sym w) (more c.items) }
  step n ls h rec (there here) y = record { count = 0; items = subst (λ (l : List ℕ). Chain item 0 l) (sym (nothing_left y)) none }
  step n ls h rec (there (there m)) y = elim m [ ]

  chain-within : (n : ℕ) (ls : List ℕ) → length ls ≤ n → Yields (again ∷ []) ls → Chained item ls
  chain-within zero ls h d =
      let b = by-alternative high d in
      step 0 ls h (λ ms g y. absurd (omega arith)) (subst (λ (ps : List Production). b.production ∈ ps) e b.alternative) b.yields
  chain-within (suc n) ls h d =
      let b = by-alternative high d in
      step (suc n) ls h (λ ms g y. chain-within n ms (omega arith) y) (subst (λ (ps : List Production). b.production ∈ ps) e b.alternative) b.yields

  pub chain : {ls : List ℕ} → Yields (again ∷ []) ls → Chained item ls
  chain {ls} d = chain-within (length ls) ls (omega arith) d

-- ---- sizes

false-second : (a b : Bool) → a ≡ true → a && b ≡ false → b ≡ false
false-second true b e f = f
false-second false b e f = let z : ◌≡◌ {A = ℕ} 0 1 = cc in absurd (omega arith)

-- an item that is not refused has a number of at most eight, and is counted
item-small : (text : List ℕ) (s : Tally) (x : Reading) → among_roles listed_roles x.role ≡ true → Sound text s x → item_number s ≤ 8
unfolding passes many_items
item-small text s x e g = let b = (passes_none text s x g.sized).1.1.1.1.0 in ltb-false _ _ (false-second (among_roles listed_roles x.role) (ltb 8 (item_number s)) e b)

-- the tally after an item, and after a comma
items-next : (text : List ℕ) (s : Tally) (x : Reading) → among_roles item_roles x.role ≡ true → (after_token text s x.role x.token).items ≡ item_number s
unfolding after_token items_after
items-next text s x e = rw e

items-same : (text : List ℕ) (s : Tally) (x : Reading) → among_roles item_roles x.role ≡ false → (after_token text s x.role x.token).items ≡ s.items
unfolding after_token items_after
items-same text s x e = rw e

comma-goes-on : (text : List ℕ) (s : Tally) (x : Reading) → x.role ≡ comma → item_number (after_token text s x.role x.token) ≡ s.items + 1
unfolding after_token items_after item_number among_roles
comma-goes-on text s x e = rw e

-- no member is an item of a list
abbrev pub plain : List ℕ → Bool
plain [] = true
plain (x ∷ xs) = pick (among_roles item_roles x) false (plain xs)

-- readings of some roles that are no items, and then others
record After (text : List ℕ) (n : ℕ) (ls : List ℕ) : Type 0 where
  state : Tally
  others : List Reading
  roles : roles_of others ≡ ls
  each : Each text state others
  kept : state.items ≡ n

plain-first : (x : ℕ) (xs : List ℕ) → T (plain (x ∷ xs)) → (among_roles item_roles x ≡ false) × T (plain xs)
plain-first x xs t = go (among_roles item_roles x) t
  where
    go : (b : Bool) → T (pick b false (plain xs)) → (b ≡ false) × T (plain xs)
    go true t = absurd t
    go false t = (refl, t)

past-plain : (text : List ℕ) (inner ls : List ℕ) (s : Tally) (xs : List Reading) → T (plain inner) → roles_of xs ≡ inner ++ ls → Each text s xs → After text s.items ls
past-plain text [] ls s xs t e a = record { state = s; others = xs; roles = e; each = a; kept = refl }
past-plain text (r ∷ inner) ls s [] t e a = let z : ◌≡◌ {A = ℕ} 0 1 = cc in absurd (omega arith)
past-plain text (r ∷ inner) ls s (x ∷ xs) t e a =
    let q : x.role ≡ r = cc in
    let w : roles_of xs ≡ inner ++ ls = cc in
    let u = plain-first r inner t in
    let v : among_roles item_roles x.role ≡ false = ap (among_roles item_roles) q ∙ u.0 in
    let p = past-plain text inner ls (after_token text s x.role x.token) xs u.1 w a.1 in
    record { state = p.state; others = p.others; roles = p.roles; each = p.each; kept = p.kept ∙ items-same text s x v }

at_least_one : (s : Tally) → 1 ≤ item_number s
unfolding item_number
at_least_one s = go s.more
  where
    go : (b : Bool) → 1 ≤ pick b (s.items + 1) 1
    go true = omega arith
    go false = omega arith

module _ (text : List ℕ) (role : ℕ) (inner : List ℕ) (listed : among_roles listed_roles role ≡ true) (counted : among_roles item_roles role ≡ true) (calm : T (plain inner)) where
  -- n items before: with m more there are at most eight
  chain-few : (m n : ℕ) (ls : List ℕ) (s : Tally) (xs : List Reading) → Chain (role ∷ inner) m ls → roles_of xs ≡ ls → s.items ≡ n → n ≤ 8 → Each text s xs → n + m ≤ 8
  chain-few m n ls s xs none e i h a = omega arith
  chain-few m n ls s [] (more c) e i h a = let z : ◌≡◌ {A = ℕ} 0 1 = cc in absurd (omega arith)
  chain-few m n ls s (x ∷ []) (more c) e i h a = let z : ◌≡◌ {A = ℕ} 0 1 = cc in absurd (omega arith)
  chain-few m n ls s (x ∷ y ∷ xs) (more {n = k} {ls = rest} c) e i h a =
      let q : x.role ≡ comma = cc in
      let r : y.role ≡ role = cc in
      let w : roles_of xs ≡ inner ++ rest = cc in
      let s1 = after_token text s x.role x.token in
      let g = token-sound text s1 y a.1.0 in
      let b : item_number s1 ≡ n + 1 = comma-goes-on text s x q ∙ ap (λ (z : ℕ). z + 1) i in
      let f = item-small text s1 y (ap (among_roles listed_roles) r ∙ listed) g in
      let t = items-next text s1 y (ap (among_roles item_roles) r ∙ counted) in
      let p = past-plain text inner rest (after_token text s1 y.role y.token) xs calm w a.1.1 in
      let j = chain-few k (n + 1) rest p.state p.others c p.roles (p.kept ∙ (t ∙ b)) (omega arith) p.each in
      omega arith

  -- an item and m more: at most eight
  pub list-few : (m : ℕ) (ls : List ℕ) (s : Tally) (xs : List Reading) → Chain (role ∷ inner) m ls → roles_of xs ≡ role ∷ (inner ++ ls) → Each text s xs → 1 + m ≤ 8
  list-few m ls s [] c e a = let z : ◌≡◌ {A = ℕ} 0 1 = cc in absurd (omega arith)
  list-few m ls s (x ∷ xs) c e a =
      let r : x.role ≡ role = cc in
      let w : roles_of xs ≡ inner ++ ls = cc in
      let g = token-sound text s x a.0 in
      let f = item-small text s x (ap (among_roles listed_roles) r ∙ listed) g in
      let t = items-next text s x (ap (among_roles item_roles) r ∙ counted) in
      let p = past-plain text inner ls (after_token text s x.role x.token) xs calm w a.1 in
      let o = at_least_one s in
      let j = chain-few m (item_number s) ls p.state p.others c p.roles (p.kept ∙ t) f p.each in
      omega arith
