-- 01, refusal 5: "value name not defined before". Where the names of an op are not refused, each of its operands is the name of a value before it: what is seen
-- outside the op's bodies are the values' names, and what is added inside a body is forgotten at its closing brace.
-- Assumes nothing.
use mathlib.Core.Path.{◌≡◌, refl, sym, ap, subst, ◌∙◌}
use mathlib.Core.List.{List, [], ◌∷◌}
use mathlib.Core.Bool.{Bool, true, false, ◌&&◌, ◌||◌}
use Prim.Native.Nat.{ℕ, zero, suc, ◌+◌, ◌-◌, ◌<◌, ◌≤◌}
use native.Mathlib.Omega.{arith}
use native.Mathlib.Decide.{dec_lt}
use lib.Dec.{eqb, ltb}
use lib.ListN.{length, get_or}
use borrow.Author.Tests.{eqb-true, eqb-false, ltb-true, le-ltb, ne_eqb, eq-eqb}
use Rattle.lists.specs.Lists.{pick, tab, All, first_where}
use Rattle.lists.proofs.TabLaw.{length-tab, get_or-tab}
use Rattle.lists.proofs.SearchLaw.{first-le, none_passes}
use Rattle.lists.proofs.TestLaw.{both_true}
use Rattle.scan.specs.Bytes.{among}
use Rattle.grammar.specs.Symbols.{InputName, ArgumentName, ResultName, OperandName, BodyOpen, BodyClose}
use Rattle.program.specs.Parts.{depth_after}
use Rattle.scope.specs.Scope.{Scope, scope, fault, and_then, body, waiting, waiting_name, same_at, defines, visible, define, look, settle, forget, begins, ends, placed, turned}
use Rattle.values.specs.declared.Value.{Value}
use Rattle.values.specs.Values.{no_value}
use Rattle.known.specs.Known.{known_names}
use Rattle.operands.specs.Operands.{value_named}
use Rattle.scope_laws.proofs.OuterScopeLaw.{not-both, changes_scope, depth-other}

-- one scope after the other, without a fault
pub record Between (s : Scope) (f : List ℕ → Scope) (out : List ℕ) : Type 0 where
  pub mid : List ℕ
  pub first : s ≡ scope mid
  pub then : f mid ≡ scope out

pub between : (s : Scope) (f : List ℕ → Scope) (out : List ℕ) → and_then s f ≡ scope out → Between s f out
between (scope es) f out e = record { mid = es; first = refl; then = e }
between (fault m a) f out e = let z : ◌≡◌ {A = ℕ} 0 1 = cc in absurd (omega arith)

pub added : (text : List ℕ) (a : ℕ) (es out : List ℕ) → define text a es ≡ scope out → out ≡ a ∷ es
unfolding define
added text a es out e = go (visible text a es) e
  where
    go : (b : Bool) → pick b (fault 6 a) (scope (a ∷ es)) ≡ scope out → out ≡ a ∷ es
    go true q = let z : ◌≡◌ {A = ℕ} 0 1 = cc in absurd (omega arith)
    go false q = let z : a ∷ es ≡ out = cc in sym z

found : (text : List ℕ) (a : ℕ) (es out : List ℕ) → look text a es ≡ scope out → (out ≡ es) × (visible text a es ≡ true)
unfolding look
found text a es out e = go (visible text a es) refl e
  where
    go : (b : Bool) → visible text a es ≡ b → pick b (scope es) (fault 5 a) ≡ scope out → (out ≡ es) × (visible text a es ≡ true)
    go true v q = let z : es ≡ out = cc in (sym z, v)
    go false v q = let z : ◌≡◌ {A = ℕ} 0 1 = cc in absurd (omega arith)

-- in a text of at most 65,536 bytes: a name, the opening of a body or a waiting name
abbrev pub Bounded : List ℕ → Type 0
Bounded es = All (λ e. e ≤ 196609) es

bounded-forget : (es : List ℕ) → Bounded es → Bounded (forget es)
unfolding forget
bounded-forget [] l = l
bounded-forget (e ∷ es) l = go (eqb e body) (bounded-forget es l.1)
  where
    go : (b : Bool) → Bounded (forget es) → Bounded (pick b es (forget es))
    go true m = l.1
    go false m = m

forget-name : (a : ℕ) (es : List ℕ) → (a ≡ body → ⊥) → forget (a ∷ es) ≡ forget es
unfolding forget
forget-name a es h = rw (ne_eqb a body h)

-- the results of the op that ends are defined above the opening of its body
record Settled (es out : List ℕ) : Type 0 where
  bounded : Bounded out
  same : forget out ≡ forget es

settled : (text es out : List ℕ) → Bounded es → settle text es ≡ scope out → Settled es out
unfolding settle
settled text [] out l e = let z : ◌≡◌ {A = List ℕ} [] out = cc in subst (λ (x : List ℕ). Settled [] x) z (record { bounded = l; same = refl })
settled text (e ∷ es) out l q = go (ltb body e) refl q (λ mid f. settled text es mid l.1 f)
  where
    go : (b : Bool) → ltb body e ≡ b → pick b (and_then (settle text es) (define text (waiting_name e))) (scope (e ∷ es)) ≡ scope out →
        ((mid : List ℕ) → settle text es ≡ scope mid → Settled es mid) → Settled (e ∷ es) out
    go false w p ih = let z : e ∷ es ≡ out = cc in subst (λ (x : List ℕ). Settled (e ∷ es) x) z (record { bounded = l; same = refl })
    go true w p ih =
        let b = between (settle text es) (define text (waiting_name e)) out p in
        let k = ih b.mid b.first in
        let h = ltb-true body e w in
        let m = l.0 in
        let a = added text (waiting_name e) b.mid out b.then in
        let f = forget-name (waiting_name e) b.mid (λ x. omega arith) in
        let g = forget-name e es (λ x. omega arith) in
        subst (λ (x : List ℕ). Settled (e ∷ es) x) (sym a) (record { bounded = (omega arith, k.bounded); same = f ∙ k.same ∙ sym g })

-- a token that does not change the scope
unchanged : (before role : ℕ) → changes_scope before role ≡ false → (among (InputName ∷ ArgumentName ∷ []) role ≡ false) × (eqb role BodyClose ≡ false) × (ends before role ≡ false)
unfolding changes_scope ends
unchanged before role e = go (among (InputName ∷ ArgumentName ∷ []) role) refl (eqb role BodyClose) refl e
  where
    go : (a : Bool) → among (InputName ∷ ArgumentName ∷ []) role ≡ a → (b : Bool) → eqb role BodyClose ≡ b → a || pick b true (begins before role) ≡ false →
        (among (InputName ∷ ArgumentName ∷ []) role ≡ false) × (eqb role BodyClose ≡ false) × (pick (eqb role BodyClose) true (begins before role) ≡ false)
    go true p b q f = let z : ◌≡◌ {A = ℕ} 0 1 = cc in absurd (omega arith)
    go false p true q f = let z : ◌≡◌ {A = ℕ} 0 1 = cc in absurd (omega arith)
    go false p false q f = (p, q, rw q f)

module _ (text : List ℕ) (values : List Value) (n : ℕ) where
  -- the name at a byte is that of one of the first n values
  abbrev pub Defined : ℕ → Type 0
  Defined a = value_named text values n a < n

  -- among the entries only such names are seen
  abbrev pub VisibleDefined : List ℕ → Type 0
  VisibleDefined es = (a : ℕ) → visible text a es ≡ true → Defined a

  -- the same of the entries outside so many open bodies
  abbrev pub Outside : ℕ → List ℕ → Type 0
  Outside zero es = VisibleDefined es
  Outside (suc d) es = Outside d (forget es)

  has-name : (a i : ℕ) → i < n → same_at text (get_or values i no_value).name a ≡ true → Defined a
  unfolding value_named
  has-name a i h e = by (dec_lt (first_where has (tab n (λ i. i))) n)
    where
      has : ℕ → Bool
      has i = same_at text (get_or values i no_value).name a

      by : Dec (first_where has (tab n (λ i. i)) < n) → first_where has (tab n (λ i. i)) < n
      by (yes g) = g
      by (no g) =
          let l = length-tab n (λ (i : ℕ). i) in
          let f = first-le has (tab n (λ i. i)) in
          let x : first_where has (tab n (λ i. i)) ≡ length (tab n (λ (i : ℕ). i)) = omega arith in
          let y = none_passes has (tab n (λ i. i)) i x (omega arith) in
          not-both (has i) (sym (ap has (get_or-tab n (λ i. i) i 0 h)) ∙ y) e

  visible-cons : (e a : ℕ) (es : List ℕ) → visible text a (e ∷ es) ≡ true → (ltb e body && same_at text e a ≡ true → Defined a) → VisibleDefined es → Defined a
  unfolding visible defines
  visible-cons e a es v f g = go (ltb e body && same_at text e a) refl v
    where
      go : (b : Bool) → ltb e body && same_at text e a ≡ b → pick b true (visible text a es) ≡ true → Defined a
      go true q w = f q
      go false q w = g a w

  -- an entry that is no defined name
  defined-other : (e : ℕ) (es : List ℕ) → body ≤ e → VisibleDefined es → VisibleDefined (e ∷ es)
  defined-other e es h g a v = visible-cons e a es v (λ q. not-both (ltb e body) (le-ltb e body h) (both_true (ltb e body) (same_at text e a) q).0) g

  pub defined-known : (m : ℕ) → m ≤ n → VisibleDefined (known_names values m)
  unfolding known_names visible
  defined-known zero h a v = let z : ◌≡◌ {A = ℕ} 0 1 = cc in absurd (omega arith)
  defined-known (suc m) h a v =
      let e = (get_or values m no_value).name in
      visible-cons e a (known_names values m) v (λ q. has-name a m (omega arith) (both_true (ltb e body) (same_at text e a) q).1) (defined-known m (omega arith))

  outside-same : (d : ℕ) (es out : List ℕ) → forget out ≡ forget es → Outside (suc d) es → Outside (suc d) out
  outside-same d es out e o = subst (λ (x : List ℕ). Outside d x) (sym e) o

  outside-waiting : (d a : ℕ) (es : List ℕ) → Outside d es → Outside d (waiting a ∷ es)
  outside-waiting zero a es o = defined-other (waiting a) es (omega arith) o
  outside-waiting (suc d) a es o = outside-same d es (waiting a ∷ es) (forget-name (waiting a) es (λ x. omega arith)) o

  -- one token, after which the entries are out
  pub record Kept (depth role a : ℕ) (out : List ℕ) : Type 0 where
    pub bounded : Bounded out
    pub outside : Outside (depth_after depth role) out
    pub seen : depth ≡ 0 → role ≡ OperandName → Defined a

  module _ (depth a : ℕ) (es out : List ℕ) (few : a ≤ 65536) (l : Bounded es) (o : Outside depth es) where
    opened : placed text BodyOpen a es ≡ scope out → Kept depth BodyOpen a out
    unfolding placed depth_after forget
    opened e =
        let z : body ∷ es ≡ out = cc in
        let d : depth + 1 ≡ suc depth = omega arith in
        subst (λ (x : List ℕ). Kept depth BodyOpen a x) z
        (record { bounded = (omega arith, l); outside = subst (λ (m : ℕ). Outside m (body ∷ es)) (sym d) o; seen = λ _ q. absurd (omega arith) })

    other : (role : ℕ) → eqb role BodyOpen ≡ false → eqb role BodyClose ≡ false → (depth ≡ 0 → among (InputName ∷ ArgumentName ∷ []) role ≡ false) →
        placed text role a es ≡ scope out → Kept depth role a out
    unfolding placed
    other role p q f e = go (among (InputName ∷ ArgumentName ∷ []) role) refl (eqb role ResultName) refl (eqb role OperandName) refl (rw (p, q) at e)
      where
        same : depth_after depth role ≡ depth
        same = depth-other depth role p q

        keep : (es : List ℕ) → Bounded es → Outside depth es → (depth ≡ 0 → role ≡ OperandName → Defined a) → Kept depth role a es
        keep es l o s = record { bounded = l; outside = subst (λ (m : ℕ). Outside m es) (sym same) o; seen = s }

        named : (d : ℕ) → depth ≡ d → among (InputName ∷ ArgumentName ∷ []) role ≡ true → Outside depth (a ∷ es)
        named zero w t = not-both (among (InputName ∷ ArgumentName ∷ []) role) (f w) t
        named (suc d) w t =
            subst (λ (m : ℕ). Outside m (a ∷ es)) (sym w)
            (outside-same d es (a ∷ es) (forget-name a es (λ x. omega arith)) (subst (λ (m : ℕ). Outside m es) w o))

        go : (b : Bool) → among (InputName ∷ ArgumentName ∷ []) role ≡ b → (r : Bool) → eqb role ResultName ≡ r → (s : Bool) → eqb role OperandName ≡ s →
            pick b (define text a es) (pick r (scope (waiting a ∷ es)) (pick s (look text a es) (scope es))) ≡ scope out → Kept depth role a out
        go true w r t s v x =
            subst (λ (y : List ℕ). Kept depth role a y) (sym (added text a es out x))
            (keep (a ∷ es) (omega arith, l) (named depth refl w) (λ _ u. not-both (among (InputName ∷ ArgumentName ∷ []) role) (ap (among (InputName ∷ ArgumentName ∷ [])) u) w))
        go false w true t s v x =
            let z : waiting a ∷ es ≡ out = cc in
            let k = eqb-true role ResultName t in
            subst (λ (y : List ℕ). Kept depth role a y) z (keep (waiting a ∷ es) (omega arith, l) (outside-waiting depth a es o) (λ _ u. absurd (omega arith)))
        go false w false t true v x =
            let g = found text a es out x in
            subst (λ (y : List ℕ). Kept depth role a y) (sym g.0) (keep es l o (λ d _. subst (λ (m : ℕ). Outside m es) d o a g.1))
        go false w false t false v x =
            let z : es ≡ out = cc in
            let k = eqb-false role OperandName v in
            subst (λ (y : List ℕ). Kept depth role a y) z (keep es l o (λ _ u. absurd (k u)))

  closed : (d a : ℕ) (es out : List ℕ) → Bounded es → Outside (suc d) es → placed text BodyClose a es ≡ scope out → Kept (suc d) BodyClose a out
  unfolding placed depth_after
  closed d a es out l o e =
      let z : forget es ≡ out = cc in
      let m : suc d - 1 ≡ d = omega arith in
      subst (λ (x : List ℕ). Kept (suc d) BodyClose a x) z
      (record { bounded = bounded-forget es l; outside = subst (λ (x : ℕ). Outside x (forget es)) (sym m) o; seen = λ q _. absurd (omega arith) })

  -- one token, after the names that an op's end defines
  placed-kept : (depth role a : ℕ) (es out : List ℕ) → a ≤ 65536 → Bounded es → Outside depth es →
      (depth ≡ 0 → (among (InputName ∷ ArgumentName ∷ []) role ≡ false) × (eqb role BodyClose ≡ false)) → placed text role a es ≡ scope out → Kept depth role a out
  placed-kept depth role a es out few l o f e = by-open (eqb role BodyOpen) refl
    where
      by-close : (d : ℕ) → depth ≡ d → role ≡ BodyClose → Kept depth role a out
      by-close zero w r = not-both (eqb role BodyClose) (f w).1 (eq-eqb role BodyClose r)
      by-close (suc d) w r =
          subst (λ (x : ℕ). Kept x role a out) (sym w)
          (subst (λ (x : ℕ). Kept (suc d) x a out) (sym r)
          (closed d a es out l (subst (λ (m : ℕ). Outside m es) w o) (subst (λ (x : ℕ). placed text x a es ≡ scope out) r e)))

      by-mark : (b : Bool) → eqb role BodyClose ≡ b → eqb role BodyOpen ≡ false → Kept depth role a out
      by-mark true q p = by-close depth refl (eqb-true role BodyClose q)
      by-mark false q p = other depth a es out few l o role p q (λ z. (f z).0) e

      by-open : (b : Bool) → eqb role BodyOpen ≡ b → Kept depth role a out
      by-open true p =
          let r = eqb-true role BodyOpen p in
          subst (λ (x : ℕ). Kept depth x a out) (sym r) (opened depth a es out few l o (subst (λ (x : ℕ). placed text x a es ≡ scope out) r e))
      by-open false p = by-mark (eqb role BodyClose) refl p

  pub turned-kept : (depth before role a : ℕ) (es out : List ℕ) → a ≤ 65536 → Bounded es → Outside depth es → (depth ≡ 0 → changes_scope before role ≡ false) →
      turned text before role a es ≡ scope out → Kept depth role a out
  unfolding turned
  turned-kept zero before role a es out few l o f e =
      let s = unchanged before role (f refl) in
      placed-kept zero role a es out few l o (λ _. (s.0, s.1)) (rw s.2 at e)
  turned-kept (suc d) before role a es out few l o f e = go (ends before role) e
    where
      loose : suc d ≡ 0 → (among (InputName ∷ ArgumentName ∷ []) role ≡ false) × (eqb role BodyClose ≡ false)
      loose q = absurd (omega arith)

      go : (b : Bool) → pick b (and_then (settle text es) (placed text role a)) (placed text role a es) ≡ scope out → Kept (suc d) role a out
      go true x =
          let b = between (settle text es) (placed text role a) out x in
          let k = settled text es b.mid l b.first in
          placed-kept (suc d) role a b.mid out few k.bounded (outside-same d es b.mid k.same o) loose b.then
      go false x = placed-kept (suc d) role a es out few l o loose x
