-- Every name finds its own row and no other, in each of the four tables.
-- Assumes nothing.
use mathlib.Core.Path.{◌≡◌, refl, sym, ap, ◌∙◌}
use mathlib.Core.Bool.{Bool, true}
use mathlib.Core.List.{List, []}
use Prim.Native.Nat.{ℕ, ◌<◌}
use lib.Dec.{eqb}
use lib.ListN.{length, get_or}
use borrow.Author.Tests.{eqb-true}
use Rattle.lists.specs.Lists.{all_below, first_where}
use Rattle.lists.proofs.SearchLaw.{all-at}
use Rattle.optable.specs.Table.{ops, attributes, choice_kinds, choices, op_names, attribute_names, choice_kind_names, choice_names}
use Rattle.optable.specs.Find.{same, name_place}
use Rattle.optable.proofs.SameLaw.{place_is}

pub record Finds (ns : List (List ℕ)) : Type 0 where
  -- the name of row i finds row i
  pub own : (i : ℕ) → i < length ns → name_place ns (get_or ns i []) ≡ i
  -- bytes that find a row are that row's name
  pub only : (w : List ℕ) → name_place ns w < length ns → get_or ns (name_place ns w) [] ≡ w

-- the test that antt computes over a whole table
abbrev finds-own : List (List ℕ) → Bool
finds-own ns = all_below (length ns) (λ i. eqb (name_place ns (get_or ns i [])) i)

finds : (ns : List (List ℕ)) → finds-own ns ≡ true → Finds ns
finds ns e =
    record {
      own = λ i h. eqb-true (name_place ns (get_or ns i [])) i (all-at (length ns) (λ k. eqb (name_place ns (get_or ns k [])) k) i e h);
      only = λ w h. place_is ns w h;
    }

-- so two rows have two names
pub distinct : (ns : List (List ℕ)) → Finds ns → (i j : ℕ) → i < length ns → j < length ns → get_or ns i [] ≡ get_or ns j [] → i ≡ j
distinct ns f i j a b e = sym (f.own i a) ∙ ap (name_place ns) e ∙ f.own j b

pub ops-find : Finds op_names
unfolding op_names ops name_place first_where same all_below
ops-find = finds op_names refl

pub attributes-find : Finds attribute_names
unfolding attribute_names attributes name_place first_where same all_below
attributes-find = finds attribute_names refl

pub choice-kinds-find : Finds choice_kind_names
unfolding choice_kind_names choice_kinds name_place first_where same all_below
choice-kinds-find = finds choice_kind_names refl

pub choices-find : Finds choice_names
unfolding choice_names choices name_place first_where same all_below
choices-find = finds choice_names refl
