-- An item stands in its list behind the items before it, each with a comma; the tally's number of the item is one more than theirs.
-- Assumes nothing.
use mathlib.Core.Path.{◌≡◌, refl, sym, ap, subst, ◌∙◌}
use mathlib.Core.Bool.{Bool, true, false, not}
use mathlib.Core.List.{List, [], ◌∷◌}
use Prim.Native.Nat.{ℕ, zero, suc, ◌+◌, ◌<◌, ◌≤◌}
use native.Mathlib.Omega.{arith}
use lib.Dec.{T, eqb, eqb→eq}
use lib.ListN.{length}
use borrow.Author.Tests.{eqb-true, eq-eqb, ne_eqb}
use Rattle.lists.specs.Lists.{pick}
use Rattle.grammar.specs.Symbols.{InputName, InputType, ArgumentName, ArgumentType, comma, colon}
use Rattle.grammar.proofs.TableTest.{both, both_left, both_right, implied, true-T}
use Rattle.syntax.specs.Readings.{Reading}
use Rattle.judge.specs.Roles.{among_roles, item_roles}
use Rattle.judge.specs.Tally.{item_number, items_after, after_token}
use Rattle.size_laws.specs.SizeSentences.{item_tail, list_roles, items_before}
use Rattle.size_laws.proofs.MachineLaw.{state_by}
use Rattle.size_laws.proofs.CountedLaw.{tally_of}
use Rattle.size_laws.proofs.WindowLaw.{item_end, item_window, type_window, two_after, WindowedEach}

-- n items of the role before, the latest first, each with a comma behind it; then no token of such a list
pub data Listed : ℕ → ℕ → List Reading → Type 0 where
  nothing : {role : ℕ} → Listed role 0 []
  begins : {role : ℕ} (y : Reading) (rest : List Reading) → among_roles (list_roles role) y.role ≡ false → Listed role 0 (y ∷ rest)
  bare : {role n : ℕ} (c a : Reading) {rest : List Reading} → item_tail role ≡ [] → c.role ≡ comma → a.role ≡ role → Listed role n rest → Listed role (suc n) (c ∷ a ∷ rest)
  input : {n : ℕ} (c t m a : Reading) {rest : List Reading} → c.role ≡ comma → t.role ≡ InputType → m.role ≡ colon → a.role ≡ InputName → Listed InputName n rest →
      Listed InputName (suc n) (c ∷ t ∷ m ∷ a ∷ rest)
  argument : {n : ℕ} (c t m a : Reading) {rest : List Reading} → c.role ≡ comma → t.role ≡ ArgumentType → m.role ≡ colon → a.role ≡ ArgumentName → Listed ArgumentName n rest →
      Listed ArgumentName (suc n) (c ∷ t ∷ m ∷ a ∷ rest)

pub record Listing (role : ℕ) (earlier : List Reading) : Type 0 where
  pub count : ℕ
  pub items : Listed role count earlier

not_T : (b : Bool) → T (not b) → b ≡ false
not_T true t = absurd t
not_T false t = refl

no-comma : (role : ℕ) → among_roles item_roles role ≡ true → eqb comma role ≡ false
unfolding among_roles
no-comma role i = ne_eqb comma role (λ e. let j : among_roles item_roles comma ≡ true = subst (λ (r : ℕ). among_roles item_roles r ≡ true) (sym e) i in let z : ◌≡◌ {A = ℕ} 0 1 = cc in omega arith)

-- ---- the items that are counted

one-bare : (c a : Reading) (rest : List Reading) (role : ℕ) → c.role ≡ comma → a.role ≡ role → eqb comma role ≡ false → items_before role (c ∷ a ∷ rest) ≡ items_before role rest + 1
unfolding among_roles
one-bare c a rest role e f g = rw (e, f, g, eq-eqb role role refl) (omega arith)

one_input : (c t m a : Reading) (rest : List Reading) → c.role ≡ comma → t.role ≡ InputType → m.role ≡ colon → a.role ≡ InputName →
    items_before InputName (c ∷ t ∷ m ∷ a ∷ rest) ≡ items_before InputName rest + 1
unfolding among_roles
one_input c t m a rest e f g h = rw (e, f, g, h) (omega arith)

one_argument : (c t m a : Reading) (rest : List Reading) → c.role ≡ comma → t.role ≡ ArgumentType → m.role ≡ colon → a.role ≡ ArgumentName →
    items_before ArgumentName (c ∷ t ∷ m ∷ a ∷ rest) ≡ items_before ArgumentName rest + 1
unfolding among_roles
one_argument c t m a rest e f g h = rw (e, f, g, h) (omega arith)

pub listed-count : {role n : ℕ} {earlier : List Reading} → among_roles item_roles role ≡ true → Listed role n earlier → items_before role earlier ≡ n
listed-count i nothing = refl
listed-count i (begins y rest e) = rw e
listed-count {role} i (bare c a {rest} t e f l) = one-bare c a rest role e f (no-comma role i) ∙ (let h = listed-count i l in omega arith)
listed-count i (input c t m a {rest} e f g h l) = one_input c t m a rest e f g h ∙ (let h = listed-count i l in omega arith)
listed-count i (argument c t m a {rest} e f g h l) = one_argument c t m a rest e f g h ∙ (let h = listed-count i l in omega arith)

-- ---- the tally's number

module _ (text : List ℕ) where
  first-number : (y : Reading) (rest : List Reading) (role : ℕ) → among_roles (list_roles role) y.role ≡ false → item_number (tally_of text (y ∷ rest)) ≡ 1
  unfolding after_token item_number among_roles
  first-number y rest role e = rw (ne_eqb y.role comma (λ q. let f : among_roles (list_roles role) comma ≡ false = subst (λ (r : ℕ). among_roles (list_roles role) r ≡ false) q e in let z : ◌≡◌ {A = ℕ} 0 1 = cc in omega arith))

  bare-number : (c a : Reading) (rest : List Reading) (role : ℕ) → c.role ≡ comma → a.role ≡ role → among_roles item_roles role ≡ true →
      item_number (tally_of text (c ∷ a ∷ rest)) ≡ item_number (tally_of text rest) + 1
  unfolding after_token item_number items_after among_roles
  bare-number c a rest role e f i = rw (e, f, i)

  input-number : (c t m a : Reading) (rest : List Reading) → c.role ≡ comma → t.role ≡ InputType → m.role ≡ colon → a.role ≡ InputName →
      item_number (tally_of text (c ∷ t ∷ m ∷ a ∷ rest)) ≡ item_number (tally_of text rest) + 1
  unfolding after_token item_number items_after among_roles
  input-number c t m a rest e f g h = rw (e, f, g, h)

  argument-number : (c t m a : Reading) (rest : List Reading) → c.role ≡ comma → t.role ≡ ArgumentType → m.role ≡ colon → a.role ≡ ArgumentName →
      item_number (tally_of text (c ∷ t ∷ m ∷ a ∷ rest)) ≡ item_number (tally_of text rest) + 1
  unfolding after_token item_number items_after among_roles
  argument-number c t m a rest e f g h = rw (e, f, g, h)

  listed-number : {role n : ℕ} {earlier : List Reading} → among_roles item_roles role ≡ true → Listed role n earlier → item_number (tally_of text earlier) ≡ n + 1
  unfolding item_number
  listed-number i nothing = refl
  listed-number {role} i (begins y rest e) = first-number y rest role e
  listed-number {role} i (bare c a {rest} t e f l) = bare-number c a rest role e f i ∙ (let h = listed-number i l in omega arith)
  listed-number i (input c t m a {rest} e f g h l) = input-number c t m a rest e f g h ∙ (let h = listed-number i l in omega arith)
  listed-number i (argument c t m a {rest} e f g h l) = argument-number c t m a rest e f g h ∙ (let h = listed-number i l in omega arith)

-- ---- every item of a text stands in its list

-- the last role, and the one before
abbrev last_role : List Reading → ℕ
last_role earlier = (state_by two_after (0, 0) earlier).1

abbrev second_last : List Reading → ℕ
second_last earlier = (state_by two_after (0, 0) earlier).0

-- so do the items of shorter lists of readings
abbrev Shorter : ℕ → Type 0
Shorter n = (y : Reading) (rest : List Reading) → length rest < n → among_roles item_roles y.role ≡ true → WindowedEach (y ∷ rest) → Listing y.role rest

-- a type stands behind a colon and the name
record Behind (name : ℕ) (earlier : List Reading) : Type 0 where
  mark : Reading
  item : Reading
  rest : List Reading
  whole : earlier ≡ mark ∷ item ∷ rest
  is-colon : mark.role ≡ colon
  is_name : item.role ≡ name

behind : (name : ℕ) (earlier : List Reading) → 0 < name → T (both (eqb (last_role earlier) colon) (eqb (second_last earlier) name)) → Behind name earlier
behind name [] h t = absurd t
behind name (c ∷ []) h t =
    let e = eqb→eq 0 name (both_right (eqb c.role colon) (eqb 0 name) t) in
    absurd (omega arith)
behind name (c ∷ d ∷ rest) h t =
    let x = eqb c.role colon in
    let y = eqb d.role name in
    record { mark = c; item = d; rest = rest; whole = refl; is-colon = eqb→eq c.role colon (both_left x y t); is_name = eqb→eq d.role name (both_right x y t) }

-- the list that the name of the type stands in
named-listing : (name : ℕ) (rest : List Reading) (n : ℕ) → (v : Behind name rest) → length rest ≤ n → Shorter n → among_roles item_roles name ≡ true → WindowedEach rest → Listing name v.rest
named-listing name rest n v h ih i w =
    let k : WindowedEach (v.item ∷ v.rest) = (subst WindowedEach v.whole w).1 in
    let l : length v.rest < n = (let z = ap length v.whole in omega arith) in
    subst (λ (r : ℕ). Listing r v.rest) v.is_name (ih v.item v.rest l (ap (among_roles item_roles) v.is_name ∙ i) k)

input-listing : (c a : Reading) (rest : List Reading) (n : ℕ) → length rest ≤ n → c.role ≡ comma → a.role ≡ InputType → Shorter n → WindowedEach (a ∷ rest) → Listing InputName (c ∷ a ∷ rest)
unfolding among_roles
input-listing c a rest n h q e ih w =
    let x = second_last rest in
    let y = last_role rest in
    let u = both_left (type_window InputName InputType x y a.role) (type_window ArgumentName ArgumentType x y a.role) (both_right (item_window x y a.role) _ w.0) in
    let v = behind InputName rest (omega arith) (implied (eqb a.role InputType) _ u (true-T _ (eq-eqb a.role InputType e))) in
    let l = named-listing InputName rest n v h ih refl w.1 in
    subst (λ (r : List Reading). Listing InputName (c ∷ a ∷ r)) (sym v.whole) (record { count = suc l.count; items = input c a v.mark v.item q e v.is-colon v.is_name l.items })

argument-listing : (c a : Reading) (rest : List Reading) (n : ℕ) → length rest ≤ n → c.role ≡ comma → a.role ≡ ArgumentType → Shorter n → WindowedEach (a ∷ rest) →
    Listing ArgumentName (c ∷ a ∷ rest)
unfolding among_roles
argument-listing c a rest n h q e ih w =
    let x = second_last rest in
    let y = last_role rest in
    let u = both_right (type_window InputName InputType x y a.role) (type_window ArgumentName ArgumentType x y a.role) (both_right (item_window x y a.role) _ w.0) in
    let v = behind ArgumentName rest (omega arith) (implied (eqb a.role ArgumentType) _ u (true-T _ (eq-eqb a.role ArgumentType e))) in
    let l = named-listing ArgumentName rest n v h ih refl w.1 in
    subst (λ (r : List Reading). Listing ArgumentName (c ∷ a ∷ r)) (sym v.whole) (record { count = suc l.count; items = argument c a v.mark v.item q e v.is-colon v.is_name l.items })

-- before the comma ends an item of the same list
ended-listing : (c a : Reading) (rest : List Reading) (n role : ℕ) (p q : Bool) → eqb role InputName ≡ p → eqb role ArgumentName ≡ q → length rest < n → c.role ≡ comma →
    a.role ≡ pick p InputType (pick q ArgumentType role) → among_roles item_roles role ≡ true → Shorter n → WindowedEach (a ∷ rest) → Listing role (c ∷ a ∷ rest)
ended-listing c a rest n role true q e f h k g i ih w =
    subst (λ (r : ℕ). Listing r (c ∷ a ∷ rest)) (sym (eqb-true role InputName e)) (input-listing c a rest n (omega arith) k g ih w)
ended-listing c a rest n role false true e f h k g i ih w =
    subst (λ (r : ℕ). Listing r (c ∷ a ∷ rest)) (sym (eqb-true role ArgumentName f)) (argument-listing c a rest n (omega arith) k g ih w)
ended-listing c a rest n role false false e f h k g i ih w =
    let l = subst (λ (r : ℕ). Listing r rest) g (ih a rest h (ap (among_roles item_roles) g ∙ i) w) in
    let t : item_tail role ≡ [] = rw (e, f) in
    record { count = suc l.count; items = bare c a t k g l.items }

no_end : (role : ℕ) (p q : Bool) → among_roles item_roles role ≡ true → 0 ≡ pick p InputType (pick q ArgumentType role) → ⊥
unfolding among_roles
no_end role true q i e = omega arith
no_end role false true i e = omega arith
no_end role false false i e = let j : among_roles item_roles 0 ≡ true = subst (λ (r : ℕ). among_roles item_roles r ≡ true) (sym e) i in let z : ◌≡◌ {A = ℕ} 0 1 = cc in omega arith

comma-listing : (c : Reading) (rest : List Reading) (n role : ℕ) → length rest ≤ n → c.role ≡ comma → last_role rest ≡ item_end role → among_roles item_roles role ≡ true → Shorter n → WindowedEach rest →
    Listing role (c ∷ rest)
comma-listing c [] n role h k e i ih w = absurd (no_end role (eqb role InputName) (eqb role ArgumentName) i e)
comma-listing c (a ∷ rest) n role h k e i ih w = ended-listing c a rest n role (eqb role InputName) (eqb role ArgumentName) refl refl (omega arith) k e i ih w

one-listing : (x : Reading) (earlier : List Reading) → Shorter (length earlier) → among_roles item_roles x.role ≡ true → WindowedEach (x ∷ earlier) → Listing x.role earlier
one-listing x [] ih i w = record { count = 0; items = nothing }
one-listing x (b ∷ rest) ih i w =
    let t = both_left (item_window (last_role rest) b.role x.role) _ w.0 in
    go (eqb b.role comma) refl (implied (among_roles item_roles x.role) _ t (true-T _ i))
  where
    go : (c : Bool) → eqb b.role comma ≡ c → T (pick c (eqb (last_role rest) (item_end x.role)) (not (among_roles (list_roles x.role) b.role))) → Listing x.role (b ∷ rest)
    go true e t =
        comma-listing b rest (length (b ∷ rest)) x.role (omega arith) (eqb-true b.role comma e) (eqb→eq (last_role rest) (item_end x.role) t) i ih w.1.1
    go false e t = record { count = 0; items = begins b rest (not_T (among_roles (list_roles x.role) b.role) t) }

listing-within : (n : ℕ) (x : Reading) (earlier : List Reading) → length earlier ≤ n → among_roles item_roles x.role ≡ true → WindowedEach (x ∷ earlier) → Listing x.role earlier
listing-within zero x earlier h i w = one-listing x earlier (λ y rest l. absurd (omega arith)) i w
listing-within (suc n) x earlier h i w = one-listing x earlier (λ y rest l. listing-within n y rest (omega arith)) i w

-- an item and those of its list before it
pub item-listed : (x : Reading) (earlier : List Reading) → among_roles item_roles x.role ≡ true → WindowedEach (x ∷ earlier) → Listed x.role (items_before x.role earlier) earlier
item-listed x earlier i w =
    let l = listing-within (length earlier) x earlier (omega arith) i w in
    subst (λ (n : ℕ). Listed x.role n earlier) (sym (listed-count i l.items)) l.items

-- an item's number in its list
pub item-number : (text : List ℕ) (x : Reading) (earlier : List Reading) → among_roles item_roles x.role ≡ true → WindowedEach (x ∷ earlier) →
    item_number (tally_of text earlier) ≡ items_before x.role earlier + 1
item-number text x earlier i w = listed-number text i (item-listed x earlier i w)
