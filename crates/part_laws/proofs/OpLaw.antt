-- The counts of an op's parts and of a header's parts: at most eight each (01, Sizes, 5).
-- Assumes nothing.
use mathlib.Core.Path.{◌≡◌, refl, sym, ap, subst, ◌∙◌}
use mathlib.Core.List.{List, [], ◌∷◌, ◌++◌, append-nil, append_assoc}
use mathlib.Core.Bool.{Bool, true, false, not}
use Prim.Native.Nat.{ℕ, zero, suc, ◌+◌, ◌<◌, ◌≤◌}
use native.Mathlib.Omega.{arith}
use lib.Dec.{T, eqb}
use Rattle.lists.specs.Lists.{pick}
use Rattle.grammar.specs.Symbols.{FunctionName, InputName, InputType, OutputType, ResultName, OpName, FuncReturn, OperandName, OperandType, ResultType, BodyOpen, AttributeName, SingleNumber, ListNumber, ChoiceKind, Choice, ElementLiteral, DenseOpen, DenseClose, DenseType, func, lparen, rparen, lbrace, rbrace, langle, rangle, comma, colon, equals, arrow, dialect, array, dense, i64, Inputs, MoreInputs, Outputs, MoreOutputs, MoreResults, OpRest, Operands, MoreOperands, Middle, BodiesAfter, AttributesAfter, Body, MoreBodies, OperandTypes, MoreOperandTypes, ResultTypes, ResultTypeList, MoreResultTypes, Attributes, MoreAttributes, Value, Numbers, MoreNumbers, Dense, DenseItems, MoreItems, leaf_count, among_symbols}
use Rattle.grammar.specs.Grammar.{Production, ◌⟶◌, grammar}
use Rattle.grammar.specs.Derivation.{◌∈◌, here, there}
use Rattle.grammar.specs.Leaves.{Yields}
use Rattle.grammar.proofs.CellView.{rule-passes}
use Rattle.grammar.proofs.Leaves.{nothing_left, yields-join}
use Rattle.syntax.specs.Readings.{Reading}
use Rattle.syntax.specs.Roles.{roles_of}
use Rattle.judge.specs.declared.tally.Tally.{Tally}
use Rattle.judge.specs.Roles.{listed_roles, item_roles, among_roles as is_among}
use Rattle.judge.specs.Tally.{after_token}
use Rattle.judge.proofs.Theorems.{Each}
use Rattle.program.specs.Parts.{part_of, depth_after}
use Rattle.reading_laws.proofs.TallyLaw.{tally_after, each_append}
use Rattle.part_laws.proofs.DepthLaw.{outside, relative, keeps, yields-outside}
use Rattle.part_laws.proofs.YieldLaw.{those, By, by-alternative, Two, yields-split}
use Rattle.part_laws.proofs.ItemLaw.{leaves, leaves-yield, Chain, none, more, Chained, chain, plain, list-few}
use Rattle.part_laws.proofs.PartLaw.{own, owned, without, owned-past}

-- ---- readings by their roles

-- readings whose roles are those of two lists, one after the other
record Parted (ls ms : List ℕ) (xs : List Reading) : Type 0 where
  first : List Reading
  second : List Reading
  whole : xs ≡ first ++ second
  ahead : roles_of first ≡ ls
  behind : roles_of second ≡ ms

parted : (ls ms : List ℕ) (xs : List Reading) → roles_of xs ≡ ls ++ ms → Parted ls ms xs
parted [] ms xs e = record { first = []; second = xs; whole = refl; ahead = refl; behind = e }
parted (l ∷ ls) ms [] e = let z : ◌≡◌ {A = ℕ} 0 1 = cc in absurd (omega arith)
parted (l ∷ ls) ms (x ∷ xs) e =
    let q : x.role ≡ l = cc in
    let r : roles_of xs ≡ ls ++ ms = cc in
    let p = parted ls ms xs r in
    record {
      first = x ∷ p.first;
      second = p.second;
      whole = ap (λ (zs : List Reading). x ∷ zs) p.whole;
      ahead = ap (λ (n : ℕ). n ∷ roles_of p.first) q ∙ ap (λ (zs : List ℕ). l ∷ zs) p.ahead;
      behind = p.behind;
    }

-- ---- one list of items among other symbols

-- the alternative that stands for a symbol after others
pub record Expanded (pre : List ℕ) (s : ℕ) (post ls : List ℕ) : Type 0 where
  pub production : Production
  pub alternative : production ∈ those s grammar
  pub yields : Yields (pre ++ (production.right ++ post)) ls

pub expanded : (pre : List ℕ) {s : ℕ} {post ls : List ℕ} → leaf_count ≤ s → Yields (pre ++ (s ∷ post)) ls → Expanded pre s post ls
expanded pre {s} {post} h d =
    let t = yields-split pre d in
    let b = by-alternative h t.behind in
    record { production = b.production; alternative = b.alternative; yields = subst (λ (l : List ℕ). Yields (pre ++ (b.production.right ++ post)) l) (sym t.whole) (yields-join (b.production.right ++ post) t.second t.ahead b.yields) }

module _ (k : ℕ) (set : List ℕ) (f : (p : Production) → p ∈ grammar → T (keeps set p)) (free : T (without k set)) where
  -- symbols of the set alone have no token of part k
  pub none_in : {ss ls : List ℕ} → T (outside set 0 ss) → Yields ss ls → owned k 0 ls ≡ 0
  none_in {ls} t d = ap (owned k 0) (sym (append-nil ls)) ∙ owned-past k set free 0 ls [] (yields-outside set f d 0 t)

  -- after symbols of the set
  pub past : (pre : List ℕ) {ss ls : List ℕ} → T (outside set 0 pre) → Yields (pre ++ ss) ls → (t : Two pre ss ls) × (owned k 0 ls ≡ owned k 0 t.second)
  past pre t d =
      let x = yields-split pre d in
      (x, ap (owned k 0) x.whole ∙ owned-past k set free 0 x.first x.second (yields-outside set f x.ahead 0 t))

  module _ (role : ℕ) (inner : List ℕ) (again : ℕ) (high : leaf_count ≤ again) (flat : T (leaves (role ∷ inner)))
      (alternatives : those again grammar ≡ (again ⟶ comma ∷ ((role ∷ inner) ++ (again ∷ []))) ∷ (again ⟶ []) ∷ [])
      (listed : is_among listed_roles role ≡ true) (counted : is_among item_roles role ≡ true) (calm : T (plain inner))
      (once : (ms : List ℕ) → owned k 0 (comma ∷ ((role ∷ inner) ++ ms)) ≤ 1 + owned k 0 ms)
      (first-once : (ms : List ℕ) → owned k 0 ((role ∷ inner) ++ ms) ≤ 1 + owned k 0 ms) where
    chain-owned : {m : ℕ} {ls : List ℕ} (ms : List ℕ) → Chain (role ∷ inner) m ls → owned k 0 (ls ++ ms) ≤ m + owned k 0 ms
    chain-owned ms none = omega arith
    chain-owned ms (more {n} {ls} c) =
        let a : comma ∷ (((role ∷ inner) ++ ls) ++ ms) ≡ comma ∷ ((role ∷ inner) ++ (ls ++ ms)) = ap (λ (l : List ℕ). comma ∷ l) (append_assoc (role ∷ inner) ls ms) in
        let b = ap (owned k 0) a in
        let g = once (ls ++ ms) in
        let i = chain-owned ms c in
        omega arith

    -- a list of items between symbols of the set: at most eight tokens of part k
    pub few-in : (text : List ℕ) (s : Tally) (xs : List Reading) (before after : List ℕ) → T (outside set 0 before) → T (outside set 0 after) →
        Yields (before ++ ((role ∷ inner) ++ (again ∷ after))) (roles_of xs) → Each text s xs → owned k 0 (roles_of xs) ≤ 8
    few-in text s xs before after tb ta d each =
        let x = past before tb d in
        let y = yields-split (role ∷ inner) x.0.behind in
        let yf : y.first ≡ role ∷ inner = leaves-yield (role ∷ inner) flat y.ahead in
        let z = yields-split (again ∷ []) y.behind in
        let c = chain (role ∷ inner) again high flat alternatives z.ahead in
        let r : x.0.second ≡ (role ∷ inner) ++ (z.first ++ z.second) = y.whole ∙ (ap (λ (l : List ℕ). l ++ y.second) yf ∙ ap (λ (l : List ℕ). (role ∷ inner) ++ l) z.whole) in
        let none_after = none_in ta z.behind in
        let o1 = ap (owned k 0) r in
        let o2 = first-once (z.first ++ z.second) in
        let o3 = chain-owned z.second c.items in
        let p = parted x.0.first x.0.second xs x.0.whole in
        let s1 = tally_after text s p.first in
        let e1 = (each_append text p.first p.second s (subst (Each text s) p.whole each)).1 in
        let w : roles_of p.second ≡ (role ∷ (inner ++ z.first)) ++ z.second = p.behind ∙ (r ∙ sym (append_assoc (role ∷ inner) z.first z.second)) in
        let q = parted (role ∷ (inner ++ z.first)) z.second p.second w in
        let e2 = (each_append text q.first q.second s1 (subst (Each text s1) q.whole e1)).0 in
        let h = list-few text role inner listed counted calm c.count z.first s1 q.first c.items q.ahead e2 in
        let o0 = x.1 in
        omega arith
