-- The items that are counted before an item, in text order: the list so far, "split by commas".
-- Assumes nothing.
use mathlib.Core.Path.{◌≡◌, refl, sym, ap, subst, ◌∙◌}
use mathlib.Core.Bool.{Bool, true, false}
use mathlib.Core.List.{List, [], ◌∷◌, ◌++◌, append-nil, append_assoc, map-append}
use Prim.Native.Nat.{ℕ, suc}
use native.Mathlib.Omega.{arith}
use Rattle.grammar.specs.Symbols.{InputName, ArgumentName, comma}
use Rattle.syntax.specs.Readings.{Reading, readings}
use Rattle.syntax.specs.Roles.{roles_of}
use Rattle.judge.specs.Roles.{among_roles, item_roles}
use Rattle.size_laws.specs.SizeSentences.{turned_onto, latest_first, item_tail, list_roles, items_before, items_run, ListSoFar}
use Rattle.size_laws.proofs.WindowLaw.{windowed-each}
use Rattle.size_laws.proofs.ItemsLaw.{Listed, nothing, begins, bare, input, argument, item-listed}

-- ---- turned twice

turned-again : (acc xs : List Reading) → latest_first (turned_onto acc xs) ≡ turned_onto xs acc
turned-again acc [] = refl
turned-again acc (x ∷ xs) = turned-again (x ∷ acc) xs

pub turned-twice : (xs : List Reading) → latest_first (latest_first xs) ≡ xs
turned-twice xs = turned-again [] xs

pub onto-append : (acc xs : List Reading) → turned_onto acc xs ≡ latest_first xs ++ acc
onto-append acc [] = refl
onto-append acc (x ∷ xs) =
    onto-append (x ∷ acc) xs ∙
    (sym (append_assoc (latest_first xs) (x ∷ []) acc) ∙ ap (λ (l : List Reading). l ++ acc) (sym (onto-append (x ∷ []) xs)))

-- ---- the list so far

last-same : (others front : List Reading) (y z : Reading) → front ++ (z ∷ []) ≡ others ++ (y ∷ []) → z ≡ y
last-same [] [] y z e = cc
last-same [] (x ∷ []) y z e = let w : ◌≡◌ {A = ℕ} 0 1 = cc in absurd (omega arith)
last-same [] (x ∷ x2 ∷ front) y z e = let w : ◌≡◌ {A = ℕ} 0 1 = cc in absurd (omega arith)
last-same (o ∷ []) [] y z e = let w : ◌≡◌ {A = ℕ} 0 1 = cc in absurd (omega arith)
last-same (o ∷ o2 ∷ others) [] y z e = let w : ◌≡◌ {A = ℕ} 0 1 = cc in absurd (omega arith)
last-same (o ∷ others) (x ∷ front) y z e = let w : front ++ (z ∷ []) ≡ others ++ (y ∷ []) = cc in last-same others front y z w

no_last : (others : List Reading) (y : Reading) → [] ≡ others ++ (y ∷ []) → ⊥
no_last [] y e = let w : ◌≡◌ {A = ℕ} 0 1 = cc in omega arith
no_last (o ∷ others) y e = let w : ◌≡◌ {A = ℕ} 0 1 = cc in omega arith

-- an item more
one_more : (role n : ℕ) (before group : List Reading) → roles_of group ≡ role ∷ (item_tail role ++ (comma ∷ [])) → ListSoFar role n before → ListSoFar role (suc n) (before ++ group)
one_more role n before group e l =
    record {
      front = l.front;
      run = l.run ++ group;
      whole = ap (λ (b : List Reading). b ++ group) l.whole ∙ append_assoc l.front l.run group;
      items = map-append (λ x. x.role) l.run group ∙ (ap (λ (r : List ℕ). r ++ roles_of group) l.items ∙ ap (λ (r : List ℕ). items_run role n ++ r) e);
      starts = l.starts;
    }

so_far : {role n : ℕ} {earlier : List Reading} → Listed role n earlier → ListSoFar role n (latest_first earlier)
so_far nothing = record { front = []; run = []; whole = refl; items = refl; starts = λ others y e. absurd (no_last others y e) }
so_far {role} (begins y rest f) =
    record {
      front = latest_first (y ∷ rest);
      run = [];
      whole = sym (append-nil (latest_first (y ∷ rest)));
      items = refl;
      starts = λ others z e. subst (λ (w : Reading). among_roles (list_roles role) w.role ≡ false) (last-same others (latest_first rest) z y (sym (onto-append (y ∷ []) rest) ∙ e)) f;
    }
so_far {role} (bare {n = n} c a {rest} t e f l) =
    subst (λ (b : List Reading). ListSoFar role (suc n) b) (sym (onto-append (a ∷ c ∷ []) rest))
    (one_more role n (latest_first rest) (a ∷ c ∷ []) (rw (e, f, t)) (so_far l))
so_far (input {n = n} c t m a {rest} e f g h l) =
    subst (λ (b : List Reading). ListSoFar InputName (suc n) b) (sym (onto-append (a ∷ m ∷ t ∷ c ∷ []) rest))
    (one_more InputName n (latest_first rest) (a ∷ m ∷ t ∷ c ∷ []) (rw (e, f, g, h)) (so_far l))
so_far (argument {n = n} c t m a {rest} e f g h l) =
    subst (λ (b : List Reading). ListSoFar ArgumentName (suc n) b) (sym (onto-append (a ∷ m ∷ t ∷ c ∷ []) rest))
    (one_more ArgumentName n (latest_first rest) (a ∷ m ∷ t ∷ c ∷ []) (rw (e, f, g, h)) (so_far l))

-- sizes 5 and 6 count the items of the list that the token is an item of
pub list-so-far : (text : List ℕ) (before : List Reading) (x : Reading) (after : List Reading) → readings text ≡ before ++ (x ∷ after) → x.fits ≡ true → among_roles item_roles x.role ≡ true →
    ListSoFar x.role (items_before x.role (latest_first before)) before
list-so-far text before x after e f i =
    subst (λ (b : List Reading). ListSoFar x.role (items_before x.role (latest_first before)) b) (turned-twice before)
    (so_far (item-listed x (latest_first before) i (windowed-each text before x after e f)))
