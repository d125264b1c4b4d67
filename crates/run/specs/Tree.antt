-- The fold by which a reduction is evaluated, and the trees by which it may be run (01, "Reductions").
-- Assumes nothing.
use Rattle.std.specs.Prelude.{◌≡◌, List, [], ◌∷◌, ◌++◌, ℕ, zero, suc, get_or}

-- "folds from the start value, once, over elements in ascending order"
abbrev pub fold : {A : Type 0} → (A → A → A) → A → List A → A
fold f s [] = s
fold f s (x ∷ xs) = fold f (f s x) xs

-- a leaf is the start value, or the element of this number
pub data Leaf : Type 0 where
  start : Leaf
  element : ℕ → Leaf

-- "any full binary tree with at least one leaf"
pub data Tree : Type 0 where
  leaf : Leaf → Tree
  node : Tree → Tree → Tree

-- the leaves from left to right
abbrev pub leaves : Tree → List Leaf
leaves (leaf l) = l ∷ []
leaves (node t u) = leaves t ++ leaves u

-- the numbers of the leaves that are elements
abbrev pub elements_of : List Leaf → List ℕ
elements_of [] = []
elements_of (start ∷ ls) = elements_of ls
elements_of (element k ∷ ls) = k ∷ elements_of ls

-- the n numbers k, k + 1, ..
abbrev pub count_from : ℕ → ℕ → List ℕ
count_from k zero = []
count_from k (suc n) = k ∷ count_from (suc k) n

-- "whose leaves are the elements in that order, with the start value strewn among them any number of times": a tree for n elements
abbrev pub Allowed : ℕ → Tree → Type 0
Allowed n t = elements_of (leaves t) ≡ count_from 0 n

-- the fold's own tree: the start, then the elements one by one
abbrev pub comb : ℕ → Tree
comb zero = leaf start
comb (suc n) = node (comb n) (leaf (element n))

-- the start value stands at a leaf
pub data HasStart : Tree → Type 0 where
  here : HasStart (leaf start)
  left : {t u : Tree} → HasStart t → HasStart (node t u)
  right : {t u : Tree} → HasStart u → HasStart (node t u)

module _ {A : Type 0} where
  abbrev pub leaf_value : A → List A → Leaf → A
  leaf_value s xs start = s
  leaf_value s xs (element k) = get_or xs k s

  -- "a leaf is its value, a node the body on its left and right value": the tree over the elements xs from the start s
  abbrev pub tree_value : (A → A → A) → A → List A → Tree → A
  tree_value f s xs (leaf l) = leaf_value s xs l
  tree_value f s xs (node t u) = f (tree_value f s xs t) (tree_value f s xs u)

  -- on the values that are ok, f stays among them and is associative, and e is its identity
  pub record MonoidOn (ok : A → Type 0) (f : A → A → A) (e : A) : Type 0 where
    pub closed : (a b : A) → ok a → ok b → ok (f a b)
    pub ok-unit : ok e
    pub unit_left : (a : A) → ok a → f e a ≡ a
    pub unit-right : (a : A) → ok a → f a e ≡ a
    pub assoc : (a b c : A) → ok a → ok b → ok c → f (f a b) c ≡ f a (f b c)

  -- on the values that are ok, f stays among them and is associative, commutative and idempotent
  pub record SemilatticeOn (ok : A → Type 0) (f : A → A → A) : Type 0 where
    pub closed : (a b : A) → ok a → ok b → ok (f a b)
    pub assoc : (a b c : A) → ok a → ok b → ok c → f (f a b) c ≡ f a (f b c)
    pub comm : (a b : A) → ok a → ok b → f a b ≡ f b a
    pub idem : (a : A) → ok a → f a a ≡ a
