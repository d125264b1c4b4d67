-- A run under way: what it has found, and that it follows any other.
-- Assumes nothing.
use mathlib.Core.Path.{◌≡◌, refl, sym, ap, ◌∙◌, subst}
use mathlib.Core.List.Memᴰ
use mathlib.Core.List.{List, [], ◌∷◌, Memᴰ}
use mathlib.Core.Option.{Option, none, some}
use mathlib.Core.Logic.{◌↔◌, ◌⊎◌, inl, inr}
use Prim.Native.Nat.{ℕ, zero, suc, ◌+◌, ◌-◌, ◌≤◌, ◌<◌}
use native.Mathlib.Omega.{arith}
use native.Mathlib.Nat.{not-suc-le-zero, le_of_suc-le-suc}
use native.Mathlib.Decide.{dec_lt, ℕ_discrete}
use lib.ListN.{length, get_or, set, get_elem?, length-set}
use lib.Seq.{get_or-set_same, get_or-set_other, ext_get_or}
use Rattle.lists.specs.Lists.{All}
use Rattle.lists.proofs.AllLaw.{all_map}
use Rattle.run.specs.Run.{Out, gives, stops, Language, Step, on_out, RunEnd, ended, met, stuck}
use Rattle.run.specs.Run.{result_at, read_all, on_option, count, run, OperandsFirst}
use Rattle.run.specs.Ways.{AllFit}
use Rattle.run.proofs.TableLaw.{Within, within-set, set-within, read-within, There, read-there, TableFits, read_fits, spend, spend-set, spend-le, count_head, count-move, count-tail, count-other}

-- A run under way --------------------------------------------------------------------------------------------------------

-- `ks` is still to run, `done` has run, the values of `known` are in the table t
pub record Under (L : Language) (m : ℕ) (ops : List L.Op) (ks known done : List ℕ) (t : List (Option L.Value)) : Type 0 where
  pub size : length t ≡ m + length ops
  pub first : OperandsFirst L m ops known ks
  pub known-there : (i : ℕ) → Memᴰ i known → There t i
  pub input-there : (i : ℕ) → i < m → There t i
  pub done-there : (k : ℕ) → 0 < count k done → There t (result_at m k)
  pub vacant : (k : ℕ) → count k done ≡ 0 → get_or t (result_at m k) none ≡ none
  pub each : (k : ℕ) → k < length ops → count k done + count k ks ≡ 1
  pub other : (k : ℕ) → length ops ≤ k → count k ks ≡ 0

module _ (L : Language) (m : ℕ) (ops : List L.Op) where
  in-range : {k : ℕ} {ks known done : List ℕ} {t : List (Option L.Value)} → Under L m ops (k ∷ ks) known done t → k < length ops
  in-range {k} {ks} {known} {done} {t} u = go (dec_lt k (length ops))
    where
      go : Dec (k < length ops) → k < length ops
      go (yes h) = h
      go (no h) = absurd (let z : length ops ≤ k = omega arith in omega (arith, count_head k ks, u.other k z))

  is-vacant : {k : ℕ} {ks known done : List ℕ} {t : List (Option L.Value)} → Under L m ops (k ∷ ks) known done t → get_or t (result_at m k) none ≡ none
  is-vacant {k} {ks} {known} {done} {t} u = u.vacant k (omega (arith, u.each k (in-range u), count_head k ks))

  next : {k : ℕ} {ks known done : List ℕ} {t : List (Option L.Value)} (v : L.Value) → Under L m ops (k ∷ ks) known done t
      → Under L m ops ks (result_at m k ∷ known) (k ∷ done) (set t (result_at m k) (some v))
  next {k} {ks} {known} {done} {t} v u =
      record {
        size = length-set t (result_at m k) (some v) ∙ u.size;
        first = u.first.1;
        known-there = λ i h. new-known i (Memᴰ.cases_cons h);
        input-there = λ i h. old i (u.input-there i h);
        done-there = λ j h. new-done j h (ℕ_discrete j k);
        vacant = λ j h. still j h (ℕ_discrete j k);
        each = λ j h. count-move j k done ks ∙ u.each j h;
        other = λ j h. omega (arith, count-tail j k ks, u.other j h);
      }
    where
      in_table : result_at m k < length t
      in_table = omega (arith, u.size, in-range u)

      old : (i : ℕ) → There t i → There (set t (result_at m k) (some v)) i
      old i h = (h.0, within-set t (result_at m k) v (is-vacant u) i h.0 h.1)

      new : (i : ℕ) → i ≡ result_at m k → There (set t (result_at m k) (some v)) i
      new i e = (v, rw e (get_or-set_same t (result_at m k) (some v) none in_table))

      new-known : (i : ℕ) → (i ≡ result_at m k) ⊎ Memᴰ i known → There (set t (result_at m k) (some v)) i
      new-known i (inl e) = new i e
      new-known i (inr h) = old i (u.known-there i h)

      new-done : (j : ℕ) → 0 < count j (k ∷ done) → Dec (j ≡ k) → There (set t (result_at m k) (some v)) (result_at m j)
      new-done j h (yes e) = new (result_at m j) (omega arith)
      new-done j h (no e) = old (result_at m j) (u.done-there j (omega (arith, count-other j k done e)))

      still : (j : ℕ) → count j (k ∷ done) ≡ 0 → Dec (j ≡ k) → get_or (set t (result_at m k) (some v)) (result_at m j) none ≡ none
      still j h (yes e) = absurd (omega (arith, count_head k done, subst (λ (i : ℕ). count i (k ∷ done) ≡ 0) e h))
      still j h (no e) = get_or-set_other t (result_at m k) (result_at m j) (some v) none (omega arith) ∙ u.vacant j (omega (arith, count-other j k done e))

-- What is asked of the ops, one by one -----------------------------------------------------------------------------------

-- `Fits i v`: v can be value number i. Ops keep to it, and a value that an op gives takes `turns` and no more from any budget that has them.
pub record Lawful (L : Language) (m : ℕ) (ops : List L.Op) (Fits : ℕ → L.Value → Type 0) : Type 0 where
  pub fits : (k : ℕ) (o : L.Op) → get_elem? ops k ≡ some o → (args : List L.Value) → AllFit Fits (L.operands o) args
      → (b : ℕ) (v : L.Value) → L.meaning o args b ≡ gives v → Fits (result_at m k) v
  pub costs : (k : ℕ) (o : L.Op) → get_elem? ops k ≡ some o → (args : List L.Value) → AllFit Fits (L.operands o) args
      → (b : ℕ) (v : L.Value) → L.meaning o args b ≡ gives v → L.turns v ≤ b
  pub enough : (k : ℕ) (o : L.Op) → get_elem? ops k ≡ some o → (args : List L.Value) → AllFit Fits (L.operands o) args
      → (b c : ℕ) (v : L.Value) → L.meaning o args b ≡ gives v → L.turns v ≤ c → L.meaning o args c ≡ gives v

-- a way to run the ops that gives what their meaning gives
abbrev pub Agrees : (L : Language) (ops : List L.Op) (Fits : ℕ → L.Value → Type 0) → (ℕ → Step L) → Type 0
Agrees L ops Fits step = (k : ℕ) (o : L.Op) → get_elem? ops k ≡ some o → (args : List L.Value) → AllFit Fits (L.operands o) args
    → (b : ℕ) (v : L.Value) → (step k o args b ≡ gives v) ↔ (L.meaning o args b ≡ gives v)

-- the table e has op k's value, made of the operands in e
pub record Made (L : Language) (m : ℕ) (ops : List L.Op) (e : List (Option L.Value)) (k : ℕ) : Type 0 where
  pub op : L.Op
  pub args : List L.Value
  pub budget : ℕ
  pub value : L.Value
  pub is-op : get_elem? ops k ≡ some op
  pub read : read_all e (L.operands op) ≡ some args
  pub made : L.meaning op args budget ≡ gives value
  pub held : get_or e (result_at m k) none ≡ some value

-- the run ended, or an op stopped it
abbrev pub Moving : {A B : Type 0} → RunEnd A B → Type 0
Moving {A} {B} x = ((e : List (Option A)) × (x ≡ ended e)) ⊎ ((t : List (Option A)) × (j : ℕ) × (w : B) × (x ≡ met t j w))

op-at : {A : Type 0} (l : List A) (k : ℕ) → k < length l → (a : A) × (get_elem? l k ≡ some a)
op-at [] k h = absurd (not-suc-le-zero h)
op-at (a ∷ l) zero h = (a, refl)
op-at (a ∷ l) (suc k) h = op-at l k (le_of_suc-le-suc h)

-- the first step of a run that ended
record Took (L : Language) (m : ℕ) (ops : List L.Op) (step : ℕ → Step L) (k : ℕ) (ks : List ℕ) (t e : List (Option L.Value)) (b : ℕ) : Type 0 where
  op : L.Op
  args : List L.Value
  value : L.Value
  is-op : get_elem? ops k ≡ some op
  read : read_all t (L.operands op) ≡ some args
  stepped : step k op args b ≡ gives value
  rest : run L m ops step ks (set t (result_at m k) (some value)) (b - L.turns value) ≡ ended e

took : (L : Language) (m : ℕ) (ops : List L.Op) (step : ℕ → Step L) (k : ℕ) (ks : List ℕ) (t e : List (Option L.Value)) (b : ℕ)
    → run L m ops step (k ∷ ks) t b ≡ ended e → Took L m ops step k ks t e b
took L m ops step k ks t e b = with-op (get_elem? ops k) refl
  where
    after : L.Value → RunEnd L.Value L.Stop
    after v = run L m ops step ks (set t (result_at m k) (some v)) (b - L.turns v)

    with_out : (o : L.Op) (args : List L.Value) → get_elem? ops k ≡ some o → read_all t (L.operands o) ≡ some args
        → (r : Out L.Value L.Stop) → step k o args b ≡ r → on_out r after (λ w. met t k w) ≡ ended e → Took L m ops step k ks t e b
    with_out o args p q (gives v) s f = record { op = o; args = args; value = v; is-op = p; read = q; stepped = s; rest = f }
    with_out o args p q (stops w) s f = absurd (let y : ◌≡◌ {A = ℕ} 0 1 = cc in omega arith)

    with-args : (o : L.Op) → get_elem? ops k ≡ some o → (a : Option (List L.Value)) → read_all t (L.operands o) ≡ a
        → on_option a (stuck k) (λ args. on_out (step k o args b) after (λ w. met t k w)) ≡ ended e → Took L m ops step k ks t e b
    with-args o p none q f = absurd (let y : ◌≡◌ {A = ℕ} 0 1 = cc in omega arith)
    with-args o p (some args) q f = with_out o args p q (step k o args b) refl f

    with-op : (x : Option L.Op) → get_elem? ops k ≡ x
        → on_option x (stuck k) (λ o. on_option (read_all t (L.operands o)) (stuck k) (λ args. on_out (step k o args b) after (λ w. met t k w))) ≡ ended e
        → Took L m ops step k ks t e b
    with-op none p f = absurd (let y : ◌≡◌ {A = ℕ} 0 1 = cc in omega arith)
    with-op (some o) p f = with-args o p (read_all t (L.operands o)) refl f

module _ (L : Language) (m : ℕ) (ops : List L.Op) (Fits : ℕ → L.Value → Type 0) (law : Lawful L m ops Fits) where
  -- what a run that ended found
  pub record Found (ks : List ℕ) (t e : List (Option L.Value)) (b : ℕ) : Type 0 where
    pub within : Within t e
    pub fit : TableFits Fits e
    pub made_all : (k : ℕ) → 0 < count k ks → Made L m ops e k
    pub paid : spend L.turns e ≤ spend L.turns t + b
    pub same_size : length e ≡ length t

  fits-set : (t : List (Option L.Value)) (j : ℕ) (v : L.Value) → j < length t → TableFits Fits t → Fits j v → TableFits Fits (set t j (some v))
  fits-set t j v hj tf f i w e = go (ℕ_discrete i j)
    where
      go : Dec (i ≡ j) → Fits i w
      go (yes p) =
          let q : get_or (set t j (some v)) i none ≡ some v = ap (λ (k : ℕ). get_or (set t j (some v)) k none) p ∙ get_or-set_same t j (some v) none hj in
          let r : v ≡ w = cc in
          subst (λ (x : L.Value). Fits i x) r (subst (λ (k : ℕ). Fits k v) (sym p) f)
      go (no p) = tf i w (sym (get_or-set_other t j i (some v) none p) ∙ e)

  module _ (step : ℕ → Step L) (agree : Agrees L ops Fits step) where
    found-step : (k : ℕ) (ks known done : List ℕ) (t e : List (Option L.Value)) (b : ℕ) → Under L m ops (k ∷ ks) known done t → TableFits Fits t
        → (s : Took L m ops step k ks t e b) → (TableFits Fits (set t (result_at m k) (some s.value)) → Found ks (set t (result_at m k) (some s.value)) e (b - L.turns s.value))
        → Found (k ∷ ks) t e b
    found-step k ks known done t e b u tf s ih =
        let fit : AllFit Fits (L.operands s.op) s.args = read_fits {Fits = Fits} t tf (L.operands s.op) s.args s.read in
        let means : L.meaning s.op s.args b ≡ gives s.value = (agree k s.op s.is-op s.args fit b s.value).0 s.stepped in
        let place : result_at m k < length t = omega (arith, u.size, in-range L m ops u) in
        let rest = ih (fits-set t (result_at m k) s.value place tf (law.fits k s.op s.is-op s.args fit b s.value means)) in
        let w : Within t e = λ i v h. rest.within i v (within-set t (result_at m k) s.value (is-vacant L m ops u) i v h) in
        let here : Made L m ops e k =
        record {
          op = s.op;
          args = s.args;
          budget = b;
          value = s.value;
          is-op = s.is-op;
          read = read-within t e w (L.operands s.op) s.args s.read;
          made = means;
          held = rest.within (result_at m k) s.value (get_or-set_same t (result_at m k) (some s.value) none place);
        } in
        record {
          within = w;
          fit = rest.fit;
          made_all = λ j h. made_at here rest.made_all j h (ℕ_discrete j k);
          paid = omega (arith, rest.paid, spend-set L.turns t (result_at m k) s.value place (is-vacant L m ops u), law.costs k s.op s.is-op s.args fit b s.value means);
          same_size = rest.same_size ∙ length-set t (result_at m k) (some s.value);
        }
      where
        made_at : Made L m ops e k → ((j : ℕ) → 0 < count j ks → Made L m ops e j) → (j : ℕ) → 0 < count j (k ∷ ks) → Dec (j ≡ k) → Made L m ops e j
        made_at here more j h (yes p) = subst (λ (i : ℕ). Made L m ops e i) (sym p) here
        made_at here more j h (no p) = more j (omega (arith, count-other j k ks p))

    pub found : (ks known done : List ℕ) (t e : List (Option L.Value)) (b : ℕ) → Under L m ops ks known done t → TableFits Fits t
        → run L m ops step ks t b ≡ ended e → Found ks t e b
    found [] known done t e b u tf r =
        let p : t ≡ e = cc in
        subst (λ (x : List (Option L.Value)). Found [] t x b) p
        (record { within = λ i v h. h; fit = tf; made_all = λ k h. absurd (omega arith); paid = omega arith; same_size = refl })
    found (k ∷ ks) known done t e b u tf r =
        let s = took L m ops step k ks t e b r in
        found-step k ks known done t e b u tf s
        (λ f. found ks (result_at m k ∷ known) (k ∷ done) (set t (result_at m k) (some s.value)) e (b - L.turns s.value) (next L m ops s.value u) f s.rest)

    -- a run whose table lies within one where every op's value is made, and that has the budget, ends with it
    pub follows : (ks known done : List ℕ) (t e : List (Option L.Value)) (b : ℕ) → Under L m ops ks known done t → Within t e → TableFits Fits e
        → ((k : ℕ) → k < length ops → Made L m ops e k) → spend L.turns e ≤ spend L.turns t + b → length e ≡ length t
        → run L m ops step ks t b ≡ ended e
    follows [] known done t e b u w tf made paid size = ap {B = RunEnd L.Value L.Stop} ended (ext_get_or none t e (sym size) (λ i h. same i h (dec_lt i m)))
      where
        from : (i : ℕ) → There t i → get_or t i none ≡ get_or e i none
        from i h = h.1 ∙ sym (w i h.0 h.1)

        same : (i : ℕ) → i < length t → Dec (i < m) → get_or t i none ≡ get_or e i none
        same i h (yes p) = from i (u.input-there i p)
        same i h (no p) =
            let k : ℕ = i - m in
            let q : result_at m k ≡ i = omega arith in
            let r : k < length ops = omega (arith, u.size) in
            subst (λ (j : ℕ). get_or t j none ≡ get_or e j none) q (from (result_at m k) (u.done-there k (omega (arith, u.each k r))))
    follows (k ∷ ks) known done t e b u w tf made paid size =
        let a = made k (in-range L m ops u) in
        let place : result_at m k < length t = omega (arith, u.size, in-range L m ops u) in
        let there : All (There t) (L.operands a.op) =
        all_map u.known-there (L.operands a.op) (rw a.is-op at u.first.0) in
        let got = read-there t (L.operands a.op) there in
        let again : read_all e (L.operands a.op) ≡ some got.0 = read-within t e w (L.operands a.op) got.0 got.1 in
        let args-same : got.0 ≡ a.args = cc a.read in
        let reads : read_all t (L.operands a.op) ≡ some a.args = cc in
        let fit : AllFit Fits (L.operands a.op) a.args = read_fits {Fits = Fits} e tf (L.operands a.op) a.args a.read in
        let w' : Within (set t (result_at m k) (some a.value)) e = set-within t e (result_at m k) a.value place w a.held in
        let more = spend-set L.turns t (result_at m k) a.value place (is-vacant L m ops u) in
        let less = spend-le L.turns (set t (result_at m k) (some a.value)) e (length-set t (result_at m k) (some a.value) ∙ sym size) w' in
        let has : L.turns a.value ≤ b = omega arith in
        let gave : step k a.op a.args b ≡ gives a.value =
        (agree k a.op a.is-op a.args fit b a.value).1 (law.enough k a.op a.is-op a.args fit a.budget b a.value a.made has) in
        rw (a.is-op, reads, gave)
        (follows ks (result_at m k ∷ known) (k ∷ done) (set t (result_at m k) (some a.value)) e (b - L.turns a.value) (next L m ops a.value u) w' tf made
        (omega arith) (size ∙ sym (length-set t (result_at m k) (some a.value))))

    -- no run in an order lacks an operand
    pub moves : (ks known done : List ℕ) (t : List (Option L.Value)) (b : ℕ) → Under L m ops ks known done t → Moving (run L m ops step ks t b)
    moves [] known done t b u = inl (t, refl)
    moves (k ∷ ks) known done t b u =
        let o = op-at ops k (in-range L m ops u) in
        let got = read-there t (L.operands o.0) (all_map u.known-there (L.operands o.0) (rw o.1 at u.first.0)) in
        rw (o.1, got.1)
        (go (λ v. moves ks (result_at m k ∷ known) (k ∷ done) (set t (result_at m k) (some v)) (b - L.turns v) (next L m ops v u)) (step k o.0 got.0 b))
      where
        go : ((v : L.Value) → Moving (run L m ops step ks (set t (result_at m k) (some v)) (b - L.turns v)))
            → (r : Out L.Value L.Stop) → Moving (on_out r (λ v. run L m ops step ks (set t (result_at m k) (some v)) (b - L.turns v)) (λ w. met t k w))
        go ih (gives v) = ih v
        go ih (stops w) = inr (t, k, w, refl)
