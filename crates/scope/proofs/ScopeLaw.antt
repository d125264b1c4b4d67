-- Laws of the entries in an array, from top to its end: searching, settling, forgetting; and of the answers one after another.
-- Assumes nothing.
use mathlib.Core.Path.{◌≡◌, refl, sym, ap, ◌∙◌}
use mathlib.Core.List.{List, [], ◌∷◌}
use mathlib.Core.Bool.{Bool, true, false}
use Prim.Native.Nat.{ℕ, zero, suc, ◌+◌, ◌-◌, ◌<◌, ◌≤◌}
use native.Mathlib.Omega.{arith}
use native.Mathlib.Nat.{not-suc-le-zero}
use native.Mathlib.Numerals.{add-one}
use lib.Dec.{ltb, eqb}
use lib.ListN.{length, get_or, set, drop, length-drop, length-set, drop_of_length-le}
use lib.Seq.{drop-cons, drop-drop, get_or-drop, get_or-set_other}
use borrow.Author.Tests.{eqb-false}
use Rattle.lists.specs.Lists.{pick}
use Rattle.text.specs.declared.Token.{Token}
use Rattle.grammar.proofs.StackLaw.{drop-put}
use Rattle.text.specs.Lex.{token_at}
use Rattle.text.proofs.TokenLaw.{token-inside, token-after}
use Rattle.grammar.specs.Symbols.{END, Op, leaf_kinds, matches}
use Rattle.grammar.specs.Grammar.{grammar}
use Rattle.grammar.specs.Machine.{fails, cell, step}
use Rattle.syntax.specs.Kinds.{kind_of}
use Rattle.syntax.specs.Readings.{Reading, reading, readings_from, readings_of}
use Rattle.syntax.proofs.ReadingLaw.{Room}
use Rattle.std.specs.Prelude.{Result, Ok, Err}
use Rattle.scope.specs.declared.BadName.{BadName}
use Rattle.scope.specs.declared.BadName.TheVariants.{Undefined, Redefined}
use Rattle.scope.specs.Faults.{name_numbers}
use Rattle.scope.specs.Scope.{Scope, scope, fault, fault_of, and_then, body, waiting_name, defines, visible, define, settle, forget, begins, ends, placed, turned, names_from, inputs_from}
use Rattle.scope.specs.Scoped.{answered, ScopeAnswered, waiting_count}

module _ (l : List ℕ) (i : ℕ) where
  pub visible-next : (text : List ℕ) (a : ℕ) → i < length l → visible text a (drop i l) ≡ pick (defines text (get_or l i 0) a) true (visible text a (drop (i + 1) l))
  unfolding visible
  visible-next text a h = rw (add-one, drop-cons l i 0 h)

  pub visible-end : (text : List ℕ) (a : ℕ) → length l ≤ i → visible text a (drop i l) ≡ false
  unfolding visible
  visible-end text a h = rw (drop_of_length-le l h)

  pub count_next : i < length l → waiting_count (drop i l) ≡ pick (ltb body (get_or l i 0)) (suc (waiting_count (drop (i + 1) l))) 0
  unfolding waiting_count
  count_next h = rw (add-one, drop-cons l i 0 h)

  pub count-end : length l ≤ i → waiting_count (drop i l) ≡ 0
  unfolding waiting_count
  count-end h = rw (drop_of_length-le l h)

  pub forget-next : i < length l → forget (drop i l) ≡ pick (eqb (get_or l i 0) body) (drop (i + 1) l) (forget (drop (i + 1) l))
  unfolding forget
  forget-next h = rw (add-one, drop-cons l i 0 h)

  pub forget-end : length l ≤ i → forget (drop i l) ≡ drop i l
  unfolding forget
  forget-end h = rw (drop_of_length-le l h)

-- the entries on top that are counted are waiting names
pub waits : (m : ℕ) (es : List ℕ) → m < waiting_count es → ltb body (get_or es m 0) ≡ true
unfolding waiting_count
waits m [] h = absurd (not-suc-le-zero h)
waits m (e ∷ es) h = go m (ltb body e) refl h (λ k. waits k es)
  where
    go : (m : ℕ) (b : Bool) → ltb body e ≡ b → m < pick b (suc (waiting_count es)) 0 → ((k : ℕ) → k < waiting_count es → ltb body (get_or es k 0) ≡ true) →
        ltb body (get_or (e ∷ es) m 0) ≡ true
    go m false q h more = absurd (not-suc-le-zero h)
    go zero true q h more = q
    go (suc m) true q h more = more m (omega arith)

-- what stands under them is settled
pub settled-under : (text es : List ℕ) → settle text (drop (waiting_count es) es) ≡ scope (drop (waiting_count es) es)
unfolding waiting_count settle
settled-under text [] = refl
settled-under text (e ∷ es) = go (ltb body e) refl (settled-under text es)
  where
    go : (b : Bool) → ltb body e ≡ b → settle text (drop (waiting_count es) es) ≡ scope (drop (waiting_count es) es) →
        settle text (drop (pick b (suc (waiting_count es)) 0) (e ∷ es)) ≡ scope (drop (pick b (suc (waiting_count es)) 0) (e ∷ es))
    go true q more = more
    go false q more = rw q

-- a fault under waiting names is the fault of all
pub fault-under : (text : List ℕ) (n a m : ℕ) (es : List ℕ) → m ≤ waiting_count es → settle text (drop m es) ≡ fault n a → settle text es ≡ fault n a
unfolding waiting_count settle
fault-under text n a zero es h f = f
fault-under text n a (suc m) [] h f = absurd (not-suc-le-zero h)
fault-under text n a (suc m) (e ∷ es) h f = go (ltb body e) h (λ g. fault-under text n a m es g f)
  where
    go : (b : Bool) → suc m ≤ pick b (suc (waiting_count es)) 0 → (m ≤ waiting_count es → settle text es ≡ fault n a) →
        pick b (and_then (settle text es) (define text (waiting_name e))) (scope (e ∷ es)) ≡ fault n a
    go true h more = rw (more (omega arith))
    go false h more = absurd (not-suc-le-zero h)

-- the loop that settles: from k on the names are defined, before k nothing has changed
pub record Settling (text before : List ℕ) (top k : ℕ) (after : List ℕ) : Type 0 where
  pub settled : settle text (drop k before) ≡ scope (drop k after)
  pub kept : (i : ℕ) → i < k → get_or after i 0 ≡ get_or before i 0
  pub size : length after ≡ length before
  pub low : top ≤ k
  pub high : k ≤ top + waiting_count (drop top before)
  pub within : k ≤ length before

count-within : (es : List ℕ) → waiting_count es ≤ length es
unfolding waiting_count
count-within [] = omega arith
count-within (e ∷ es) = go (ltb body e) (count-within es)
  where
    go : (b : Bool) → waiting_count es ≤ length es → pick b (suc (waiting_count es)) 0 ≤ suc (length es)
    go true h = omega arith
    go false h = omega arith

pub settling-first : (text before : List ℕ) (top k : ℕ) → top ≤ length before → k ≡ top + waiting_count (drop top before) → Settling text before top k before
settling-first text before top k h e =
    let w = count-within (drop top before) in
    let n = length-drop top before in
    let d = drop-drop (waiting_count (drop top before)) top before in
    record {
      settled = rw (e, ← d) (settled-under text (drop top before));
      kept = λ i g. refl;
      size = refl;
      low = omega arith;
      high = omega arith;
      within = omega arith;
    }

module _ (text before : List ℕ) (top k : ℕ) (after : List ℕ) (s : Settling text before top k after) (more : top < k) where
  pub still-waits : ltb body (get_or after (k - 1) 0) ≡ true
  still-waits =
      let h = s.high in
      let e : top + (k - 1 - top) ≡ k - 1 = omega arith in
      let w = waits (k - 1 - top) (drop top before) (omega arith) in
      let g = get_or-drop top before (k - 1 - top) 0 in
      let p = s.kept (k - 1) (omega arith) in
      rw (p, ← ap (λ x. get_or before x 0) e, ← g) w

  one-settled : settle text (drop (k - 1) before) ≡ define text (waiting_name (get_or after (k - 1) 0)) (drop k after)
  unfolding settle
  one-settled =
      let n = s.within in
      let e : suc (k - 1) ≡ k = omega arith in
      let c : drop (k - 1) before ≡ get_or before (k - 1) 0 ∷ drop k before = drop-cons before (k - 1) 0 (omega arith) ∙ ap (λ x. get_or before (k - 1) 0 ∷ drop x before) e in
      let p = s.kept (k - 1) (omega arith) in
      let w = still-waits in
      rw (c, ← p, w, s.settled)

  pub settling-fault : visible text (waiting_name (get_or after (k - 1) 0)) (drop k after) ≡ true → settle text (drop top before) ≡ fault 6 (waiting_name (get_or after (k - 1) 0))
  unfolding define
  settling-fault v =
      let h = s.high in
      let e : top + (k - 1 - top) ≡ k - 1 = omega arith in
      let d = drop-drop (k - 1 - top) top before in
      fault-under text 6 _ (k - 1 - top) (drop top before) (omega arith) (rw (d, e, one-settled, v))

  pub settling-next : visible text (waiting_name (get_or after (k - 1) 0)) (drop k after) ≡ false →
      Settling text before top (k - 1) (set after (k - 1) (waiting_name (get_or after (k - 1) 0)))
  unfolding define
  settling-next v =
      let n = s.within in
      let z = s.size in
      let h = s.high in
      let e : k - 1 + 1 ≡ k = omega arith in
      let p = drop-put after (k - 1) (waiting_name (get_or after (k - 1) 0)) (omega arith) in
      record {
        settled = rw (one-settled, v, p, e);
        kept = λ i g. get_or-set_other after (k - 1) i _ 0 (λ q. omega arith) ∙ s.kept i (omega arith);
        size = length-set after _ _ ∙ z;
        low = omega arith;
        high = omega arith;
        within = omega arith;
      }

pub settling-end : {text before after : List ℕ} {top k : ℕ} → Settling text before top k after → k ≤ top → scope (drop top after) ≡ settle text (drop top before)
settling-end {text} {before} {after} {top} {k} s h =
    let l = s.low in
    let e : k ≡ top = omega arith in
    sym (rw (← e) s.settled)

-- an answer with a refusal
refused : (e : BadName) (entries : List ℕ) (f : List ℕ → Scope) → and_then (answered (Err e) entries) f ≡ answered (Err e) entries
refused (Undefined a) entries f = refl
refused (Redefined a) entries f = refl

pub rescope : {s z : Scope} {k j : ℕ} {before : List ℕ} {top : ℕ} {r : Result ℕ BadName} {after : List ℕ} → s ≡ z → k ≤ j →
    ScopeAnswered s k before top r after → ScopeAnswered z j before top r after
rescope e h t = let m = t.room in record { answer = t.answer ∙ e; size = t.size; room = omega arith; within = t.within }

-- a name put on top
pub pushed : (l : List ℕ) (top entry : ℕ) → 1 ≤ top → top ≤ length l →
    ScopeAnswered (scope (entry ∷ drop top l)) 1 l top (Ok (top - 1)) (set l (top - 1) entry)
pushed l top entry h g =
    let e : top - 1 + 1 ≡ top = omega arith in
    let n = length-set l (top - 1) entry in
    let p = drop-put l (top - 1) entry (omega arith) in
    record { answer = rw (p, e); size = n; room = omega arith; within = omega arith }

module _ {s : Scope} {k : ℕ} {before : List ℕ} {top : ℕ} {middle : List ℕ} (f : List ℕ → Scope) where
  pub goes_on : {m j : ℕ} {after : List ℕ} (z : Result ℕ BadName) → ScopeAnswered s k before top (Ok m) middle → ScopeAnswered (f (drop m middle)) j middle m z after →
      ScopeAnswered (and_then s f) (k + j) before top z after
  goes_on {m} {j} {after} (Ok r) t n =
      let a = t.room in
      let b = n.room in
      record { answer = n.answer ∙ ap (λ x. and_then x f) t.answer; size = n.size ∙ t.size; room = omega arith; within = n.within }
  goes_on {m} {j} {after} (Err e) t n =
      record { answer = n.answer ∙ ap (λ x. and_then x f) t.answer; size = n.size ∙ t.size; room = omega arith; within = n.within }

  pub stops : (e : BadName) → ScopeAnswered s k before top (Err e) middle → ScopeAnswered (and_then s f) k before top (Err e) middle
  stops e t = record { answer = sym (refused e middle f) ∙ ap (λ x. and_then x f) t.answer; size = t.size; room = t.room; within = t.within }

-- the fault does not depend on the entries
pub said : {s : Scope} {k : ℕ} {before : List ℕ} {top m : ℕ} {after : List ℕ} → ScopeAnswered s k before top (Ok m) after → name_numbers (Ok tt) ≡ fault_of s
unfolding fault_of
said g = ap fault_of g.answer

pub said_bad : {s : Scope} {k : ℕ} {before : List ℕ} {top : ℕ} {after : List ℕ} (e : BadName) → ScopeAnswered s k before top (Err e) after →
    name_numbers (Err e) ≡ fault_of s
unfolding fault_of
said_bad (Undefined a) g = ap fault_of g.answer
said_bad (Redefined a) g = ap fault_of g.answer

names-next : (text : List ℕ) (before : ℕ) (es : List ℕ) (f : Bool) (role : ℕ) (t : Token) (xs : List Reading) →
    names_from text before es (reading f role t ∷ xs) ≡ and_then (turned text before role t.start es) (λ rest. names_from text role rest xs)
unfolding names_from
names-next text before es f role t xs = refl

pub names-none : (text : List ℕ) (before : ℕ) (es : List ℕ) → names_from text before es [] ≡ scope es
unfolding names_from
names-none text before es = refl

-- a token that does not fit has no role
pub names-stop : (text : List ℕ) (before : ℕ) (es : List ℕ) (t : Token) → names_from text before es (reading false 0 t ∷ []) ≡ scope es
unfolding names_from turned ends begins placed
names-stop text before es t = refl

end-kind : (text : List ℕ) (at : ℕ) → length text < at → kind_of text (token_at text at) ≡ END
unfolding kind_of
end-kind text at h = rw (ended (eqb (token_at text at).kind 0) refl)
  where
    ended : (b : Bool) → eqb (token_at text at).kind 0 ≡ b → eqb (token_at text at).kind 0 ≡ true
    ended true q = q
    ended false q =
        let s = token-inside text at (eqb-false _ _ q) in
        let a = token-after text at in
        absurd (omega arith)

end-fails : step (Op ∷ []) END ≡ fails
unfolding step cell grammar leaf_kinds matches
end-fails = refl

-- past the end of the text no op is read
pub past_end : (text es : List ℕ) (at : ℕ) → length text < at → names_from text 0 es (readings_of Op text at) ≡ scope es
unfolding readings_of readings_from
past_end text es at h =
    let e = end-kind text at h in
    let f = end-fails in
    rw (add-one, e, f) (names-stop text 0 es (token_at text at))

-- the loop over an op's tokens: the names from here on are those from the start
pub record Naming (target : Scope) (text first : List ℕ) (top : ℕ) (stack : List ℕ) (next place left before n : ℕ) (entries : List ℕ) : Type 0 where
  pub same : names_from text before (drop n entries) (readings_from left (drop next stack) text place) ≡ target
  pub machine : Room left next stack
  pub full : length stack ≡ 655380
  pub size : length entries ≡ length first
  pub free : left ≤ n
  pub used : top + left ≤ n + length text + 1
  pub within : n ≤ length entries
  pub inside : place ≤ length text

module _ {target : Scope} {text first : List ℕ} {top : ℕ} {stack : List ℕ} {next place left before n : ℕ} {entries : List ℕ} (g : Naming target text first top stack next place left before n entries) where
  pub naming-end : (xs : List Reading) → readings_from left (drop next stack) text place ≡ xs → names_from text before (drop n entries) xs ≡ scope (drop n entries) →
      ScopeAnswered target (length text + 1) first top (Ok n) entries
  naming-end xs e q =
      let u = g.used in
      record { answer = sym q ∙ ap (names_from text before (drop n entries)) (sym e) ∙ g.same; size = g.size; room = omega arith; within = g.within }

  module _ (role : ℕ) (t : Token) (rest : List Reading) (e : readings_from left (drop next stack) text place ≡ reading true role t ∷ rest) where
    whole : {z : Result ℕ BadName} {after : List ℕ} → ScopeAnswered (turned text before role t.start (drop n entries)) 1 entries n z after →
        and_then (answered z after) (λ es. names_from text role es rest) ≡ target
    whole s =
        ap (λ x. and_then x (λ es. names_from text role es rest)) s.answer ∙
        sym (names-next text before (drop n entries) true role t rest) ∙
        ap (names_from text before (drop n entries)) (sym e) ∙
        g.same

    pub naming-fault : (bad : BadName) {after : List ℕ} → ScopeAnswered (turned text before role t.start (drop n entries)) 1 entries n (Err bad) after →
        ScopeAnswered target (length text + 1) first top (Err bad) after
    naming-fault bad {after} s =
        record { answer = sym (refused bad after (λ es. names_from text role es rest)) ∙ whole s; size = s.size ∙ g.size; room = omega arith; within = s.within }

    pub naming-next : {m : ℕ} {after : List ℕ} → ScopeAnswered (turned text before role t.start (drop n entries)) 1 entries n (Ok m) after → 0 < left →
        (later : List ℕ) (beyond fewer : ℕ) → fewer ≡ left - 1 → rest ≡ readings_from fewer (drop beyond later) text t.end →
        Room fewer beyond later → length later ≡ 655380 → t.end ≤ length text → Naming target text first top later beyond t.end fewer role m after
    naming-next {m} {after} s some later beyond fewer k q w f i =
        let u = g.used in
        let v = g.free in
        let r = s.room in
        record {
          same = ap (names_from text role (drop m after)) (sym q) ∙ whole s;
          machine = w;
          full = f;
          size = s.size ∙ g.size;
          free = omega arith;
          used = omega arith;
          within = s.within;
          inside = i;
        }

pub inputs-next : (text es l : List ℕ) (i : ℕ) → i < length l →
    inputs_from text es (drop i l) ≡ and_then (define text (get_or l i 0) es) (λ rest. inputs_from text rest (drop (i + 1) l))
unfolding inputs_from
inputs-next text es l i h = rw (add-one, drop-cons l i 0 h)

pub inputs_end : (text es l : List ℕ) (i : ℕ) → length l ≤ i → inputs_from text es (drop i l) ≡ scope es
unfolding inputs_from
inputs_end text es l i h = rw (drop_of_length-le l h)

-- the loop over the inputs' places
pub record Inputs (text first : List ℕ) (top : ℕ) (places : List ℕ) (i n : ℕ) (entries : List ℕ) : Type 0 where
  pub same : inputs_from text (drop n entries) (drop i places) ≡ inputs_from text (drop top first) places
  pub size : length entries ≡ length first
  pub used : top ≤ n + i
  pub within : n ≤ length entries
  pub inside : i ≤ length places

module _ {text first : List ℕ} {top : ℕ} {places : List ℕ} {i n : ℕ} {entries : List ℕ} (g : Inputs text first top places i n entries) where
  pub inputs-done : length places ≤ i → ScopeAnswered (inputs_from text (drop top first) places) (length places) first top (Ok n) entries
  inputs-done h =
      let u = g.used in
      let d = g.inside in
      record { answer = sym (inputs_end text _ places i h) ∙ g.same; size = g.size; room = omega arith; within = g.within }

  module _ (h : i < length places) where
    all : {z : Result ℕ BadName} {after : List ℕ} → ScopeAnswered (define text (get_or places i 0) (drop n entries)) 1 entries n z after →
        and_then (answered z after) (λ es. inputs_from text es (drop (i + 1) places)) ≡ inputs_from text (drop top first) places
    all s = ap (λ x. and_then x (λ es. inputs_from text es (drop (i + 1) places))) s.answer ∙ sym (inputs-next text (drop n entries) places i h) ∙ g.same

    pub inputs-fault : (bad : BadName) {after : List ℕ} → ScopeAnswered (define text (get_or places i 0) (drop n entries)) 1 entries n (Err bad) after →
        ScopeAnswered (inputs_from text (drop top first) places) (length places) first top (Err bad) after
    inputs-fault bad {after} s =
        record { answer = sym (refused bad after (λ es. inputs_from text es (drop (i + 1) places))) ∙ all s; size = s.size ∙ g.size; room = omega arith; within = s.within }

    pub inputs-more : {m : ℕ} {after : List ℕ} → ScopeAnswered (define text (get_or places i 0) (drop n entries)) 1 entries n (Ok m) after →
        Inputs text first top places (i + 1) m after
    inputs-more s =
        let u = g.used in
        let m = s.room in
        record { same = all s; size = s.size ∙ g.size; used = omega arith; within = s.within; inside = omega arith }
