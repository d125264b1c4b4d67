-- Every allowed tree gives what the fold gives: from the identity, and for an idempotent operation from any start that stands in the tree.
-- Assumes nothing.
use mathlib.Core.Path.{◌≡◌, refl, sym, ap, ◌∙◌, subst}
use mathlib.Core.List.{List, [], ◌∷◌, ◌++◌, map, append_assoc}
use Prim.Native.Nat.{ℕ, zero, suc, ◌+◌, ◌≤◌}
use native.Mathlib.Nat.{zero-add}
use native.Mathlib.Omega.{arith}
use lib.ListN.{length, get_or, take}
use lib.Seq.{take-suc, take-length}
use Rattle.run.specs.Tree.{Leaf, start, element, Tree, leaf, node, leaves, elements_of, count_from, Allowed, comb, HasStart, here, left, right}
use Rattle.run.specs.Tree.{tree_value, fold, MonoidOn, SemilatticeOn}
use Rattle.lists.specs.Lists.{All}

elements-append : (ls ms : List Leaf) → elements_of (ls ++ ms) ≡ elements_of ls ++ elements_of ms
elements-append [] ms = refl
elements-append (start ∷ ls) ms = elements-append ls ms
elements-append (element k ∷ ls) ms = ap {B = List ℕ} (λ r. k ∷ r) (elements-append ls ms)

map-append : {A B : Type 0} (g : A → B) (xs ys : List A) → map g (xs ++ ys) ≡ map g xs ++ map g ys
map-append g [] ys = refl
map-append {A} {B} g (x ∷ xs) ys = ap {B = List B} (λ r. g x ∷ r) (map-append g xs ys)

get_d_after : {X : Type 0} (p : List X) (x : X) (xs : List X) (d : X) → get_or (p ++ x ∷ xs) (length p) d ≡ x
get_d_after [] x xs d = refl
get_d_after (y ∷ p) x xs d = get_d_after p x xs d

length-snoc : {X : Type 0} (p : List X) (x : X) → length (p ++ x ∷ []) ≡ suc (length p)
length-snoc [] x = refl
length-snoc (y ∷ p) x = ap suc (length-snoc p x)

-- the elements at 0, 1, .. are the list
at-numbers-from : {X : Type 0} (p xs : List X) (d : X) → map (λ k. get_or (p ++ xs) k d) (count_from (length p) (length xs)) ≡ xs
at-numbers-from p [] d = refl
at-numbers-from {X} p (x ∷ xs) d =
    rw (get_d_after p x xs d)
    (ap {B = List X} (λ r. x ∷ r)
    (rw (← length-snoc p x)
    (subst (λ (l : List X). map (λ k. get_or l k d) (count_from (length (p ++ x ∷ [])) (length xs)) ≡ xs) (append_assoc p (x ∷ []) xs) (at-numbers-from (p ++ x ∷ []) xs d))))

pub at-numbers : {X : Type 0} (xs : List X) (d : X) → map (λ k. get_or xs k d) (count_from 0 (length xs)) ≡ xs
at-numbers xs d = at-numbers-from [] xs d

fold-append : {X : Type 0} (f : X → X → X) (a : X) (xs ys : List X) → fold f a (xs ++ ys) ≡ fold f (fold f a xs) ys
fold-append f a [] ys = refl
fold-append f a (x ∷ xs) ys = fold-append f (f a x) xs ys

module _ {X : Type 0} (ok : X → Type 0) where
  pub all-at : (xs : List X) (d : X) → All ok xs → ok d → (k : ℕ) → ok (get_or xs k d)
  all-at [] d a h k = h
  all-at (x ∷ xs) d a h zero = a.0
  all-at (x ∷ xs) d a h (suc k) = all-at xs d a.1 h k

-- What both laws need: a value that holds the start already (f a s is a) holds it after a step too.
module _
    {X : Type 0} (ok : X → Type 0) (f : X → X → X) (s : X) (xs : List X)
    (closed : (a b : X) → ok a → ok b → ok (f a b))
    (assoc : (a b c : X) → ok a → ok b → ok c → f (f a b) c ≡ f a (f b c))
    (keeps : (a x : X) → ok a → ok x → f a s ≡ a → f (f a x) s ≡ f a x)
    (ok-s : ok s) (ok-xs : All ok xs)
  where
    at : ℕ → X
    at k = get_or xs k s

    tree-ok : (t : Tree) → ok (tree_value f s xs t)
    tree-ok (leaf start) = ok-s
    tree-ok (leaf (element k)) = all-at ok xs s ok-xs ok-s k
    tree-ok (node t u) = search (closed, tree-ok t, tree-ok u)

    holds : (a : X) → ok a → f a s ≡ a → (ks : List ℕ) → ok (fold f a (map at ks)) × (f (fold f a (map at ks)) s ≡ fold f a (map at ks))
    unfolding at
    holds a oa h [] = (oa, h)
    holds a oa h (k ∷ ks) =
        let ox = all-at ok xs s ok-xs ok-s k in
        holds (f a (at k)) (closed _ _ oa ox) (keeps a (at k) oa ox h) ks

    run : (t : Tree) (a : X) → ok a → f a s ≡ a → f a (tree_value f s xs t) ≡ fold f a (map at (elements_of (leaves t)))
    unfolding at
    run (leaf start) a oa h = h
    run (leaf (element k)) a oa h = refl
    run (node t u) a oa h =
        let b = holds a oa h (elements_of (leaves t)) in
        sym (assoc a (tree_value f s xs t) (tree_value f s xs u) oa (tree-ok t) (tree-ok u))
        ∙ ap (λ (x : X). f x (tree_value f s xs u)) (run t a oa h)
        ∙ run u (fold f a (map at (elements_of (leaves t)))) b.0 b.1
        ∙ sym (rw (elements-append (leaves t) (leaves u), map-append at (elements_of (leaves t)) (elements_of (leaves u)))
        (fold-append f a (map at (elements_of (leaves t))) (map at (elements_of (leaves u)))))

    pub run-all : (t : Tree) → Allowed (length xs) t → f s s ≡ s → f s (tree_value f s xs t) ≡ fold f s xs
    unfolding at
    run-all t h ss = run t s ok-s ss ∙ ap (λ (ks : List ℕ). fold f s (map at ks)) h ∙ ap (fold f s) (at-numbers xs s)

-- From the identity, every allowed tree gives the fold.
pub tree-monoid : {X : Type 0} {ok : X → Type 0} {f : X → X → X} {e : X} → MonoidOn ok f e
    → (xs : List X) → All ok xs → (t : Tree) → Allowed (length xs) t → tree_value f e xs t ≡ fold f e xs
tree-monoid {X} {ok} {f} {e} m xs ox t h =
    let keeps : (a x : X) → ok a → ok x → f a e ≡ a → f (f a x) e ≡ f a x = λ a x oa oy q. m.unit-right (f a x) (m.closed a x oa oy) in
    sym (m.unit_left _ (tree-ok ok f e xs m.closed m.assoc keeps m.ok-unit ox t))
    ∙ run-all ok f e xs m.closed m.assoc keeps m.ok-unit ox t h (m.unit_left e m.ok-unit)

-- With any start, an idempotent operation: every allowed tree in which the start stands gives the fold.
module _ {X : Type 0} {ok : X → Type 0} {f : X → X → X} (m : SemilatticeOn ok f) (s : X) (ok-s : ok s) (xs : List X) (ox : All ok xs) where
  keeps : (a x : X) → ok a → ok x → f a s ≡ a → f (f a x) s ≡ f a x
  keeps a x oa oy q =
      m.assoc a x s oa oy ok-s ∙ ap (f a) (m.comm x s oy ok-s) ∙ sym (m.assoc a s x oa ok-s oy) ∙ ap (λ (b : X). f b x) q

  tok : (t : Tree) → ok (tree_value f s xs t)
  tok = tree-ok ok f s xs m.closed m.assoc keeps ok-s ox

  has : (t : Tree) → HasStart t → f s (tree_value f s xs t) ≡ tree_value f s xs t
  has (leaf start) here = m.idem s ok-s
  has (leaf (element _)) h = elim h [ ]
  has (node t u) (left h) = sym (m.assoc s _ _ ok-s (tok t) (tok u)) ∙ ap (λ (b : X). f b (tree_value f s xs u)) (has t h)
  has (node t u) (right h) =
      m.comm s _ ok-s (m.closed _ _ (tok t) (tok u)) ∙ m.assoc _ _ s (tok t) (tok u) ok-s
      ∙ ap (f (tree_value f s xs t)) (m.comm _ s (tok u) ok-s ∙ has u h)

  pub tree-semilattice : (t : Tree) → Allowed (length xs) t → HasStart t → tree_value f s xs t ≡ fold f s xs
  tree-semilattice t h hs = sym (has t hs) ∙ run-all ok f s xs m.closed m.assoc keeps ok-s ox t h (m.idem s ok-s)

-- There are trees for every number of elements: the comb is one, and it is the fold, whatever the operation and the start.
count-snoc : (k n : ℕ) → count_from k (suc n) ≡ count_from k n ++ (k + n) ∷ []
count-snoc k zero = ap (λ (i : ℕ). i ∷ []) (omega arith)
count-snoc k (suc n) = ap {B = List ℕ} (λ r. k ∷ r) (count-snoc (suc k) n ∙ ap (λ (i : ℕ). count_from (suc k) n ++ i ∷ []) (omega arith))

pub comb-allowed : (n : ℕ) → Allowed n (comb n)
comb-allowed zero = refl
comb-allowed (suc n) =
    elements-append (leaves (comb n)) (element n ∷ []) ∙ ap (λ (l : List ℕ). l ++ n ∷ []) (comb-allowed n)
    ∙ sym (rw zero-add at (count-snoc 0 n))

module _ {X : Type 0} (f : X → X → X) (s : X) (xs : List X) where
  comb-take : (n : ℕ) → n ≤ length xs → tree_value f s xs (comb n) ≡ fold f s (take n xs)
  comb-take zero h = refl
  comb-take (suc n) h =
      rw (take-suc xs n s h, fold-append f s (take n xs) (get_or xs n s ∷ []))
      (ap (λ (a : X). f a (get_or xs n s)) (comb-take n (omega arith)))

  pub comb-fold : tree_value f s xs (comb (length xs)) ≡ fold f s xs
  comb-fold = comb-take (length xs) (omega arith) ∙ ap (fold f s) (take-length xs)
