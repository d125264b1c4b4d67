-- Two operations that are alike on the values of a type give the same by any tree, and by the fold.
-- Assumes nothing.
use mathlib.Core.Path.{◌≡◌, refl, ap, ◌∙◌}
use mathlib.Core.List.{List, [], ◌∷◌}
use Prim.Native.Nat.{ℕ, zero, suc}
use lib.ListN.{get_or}
use Rattle.lists.specs.Lists.{All}
use Rattle.run.specs.Tree.{fold, Leaf, start, element, Tree, leaf, node, leaf_value, tree_value}

module _ {A : Type 0} (ok : A → Type 0) (f g : A → A → A) (closed : (a b : A) → ok a → ok b → ok (f a b)) (alike : (a b : A) → ok a → ok b → f a b ≡ g a b) where
  ok_at : (s : A) (xs : List A) (k : ℕ) → ok s → All ok xs → ok (get_or xs k s)
  ok_at s [] k h a = h
  ok_at s (x ∷ xs) zero h a = a.0
  ok_at s (x ∷ xs) (suc k) h a = ok_at s xs k h a.1

  ok-leaf : (s : A) (xs : List A) (l : Leaf) → ok s → All ok xs → ok (leaf_value s xs l)
  ok-leaf s xs start h a = h
  ok-leaf s xs (element k) h a = ok_at s xs k h a

  module _ (s : A) (xs : List A) (h : ok s) (a : All ok xs) where
    ok-tree : (t : Tree) → ok (tree_value f s xs t)
    ok-tree (leaf l) = ok-leaf s xs l h a
    ok-tree (node t u) = closed (tree_value f s xs t) (tree_value f s xs u) (ok-tree t) (ok-tree u)

    pub same-tree : (t : Tree) → tree_value f s xs t ≡ tree_value g s xs t
    same-tree (leaf l) = refl
    same-tree (node t u) = alike (tree_value f s xs t) (tree_value f s xs u) (ok-tree t) (ok-tree u) ∙ rw (same-tree t, same-tree u)

  pub same_fold : (s : A) (xs : List A) → ok s → All ok xs → fold f s xs ≡ fold g s xs
  same_fold s [] h a = refl
  same_fold s (x ∷ xs) h a = same_fold (f s x) xs (closed s x h a.0) a.1 ∙ ap (λ (z : A). fold g z xs) (alike s x h a.0)
