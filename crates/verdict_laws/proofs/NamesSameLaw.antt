-- Refusals 5 and 6 of an op: its names over its own tokens, after the names of the values before it.
-- Assumes nothing.
use mathlib.Core.Path.{◌≡◌, refl, sym, ap, ◌∙◌}
use mathlib.Core.List.{List, [], ◌∷◌, ◌++◌, map}
use mathlib.Core.Bool.{Bool, true, false}
use Prim.Native.Nat.{ℕ, zero, suc, ◌+◌, ◌<◌, ◌≤◌}
use native.Mathlib.Omega.{arith}
use lib.Dec.{eqb}
use lib.ListN.{length, get_or}
use Rattle.lists.specs.Lists.{pick, tab}
use Rattle.lists.proofs.TabLaw.{tab-get_or, tab-cong}
use Rattle.grammar.specs.Symbols.{rbrace, End}
use Rattle.syntax.specs.Readings.{Reading}
use Rattle.syntax.specs.Roles.{roles_of}
use Rattle.scope.specs.Scope.{ends, begins}
use Rattle.values.specs.declared.Value.{Value}
use Rattle.values.specs.Values.{no_value}
use Rattle.known.specs.Known.{known_names}
use Rattle.names.specs.Names.{Entry, Checked, entries, refused, then_checked, token_checked, on_token, names_read}
use Rattle.verifier.specs.Verdict.{names_last_first}
use Rattle.verdict_laws.proofs.TypedSameLaw.{KnownBefore}

-- ---- the names of the values before an op

abbrev names_by : (ℕ → Value) → ℕ → List ℕ
names_by f zero = []
names_by f (suc n) = (f n).name ∷ names_by f n

names-first : (f : ℕ → Value) (n : ℕ) → names_by f (suc n) ≡ names_by (λ i. f (suc i)) n ++ ((f 0).name ∷ [])
names-first f zero = refl
names-first f (suc n) = ap (λ (l : List ℕ). (f (suc n)).name ∷ l) (names-first f n)

names-tab : (f : ℕ → Value) (n : ℕ) → names_by f n ≡ names_last_first (tab n f)
names-tab f zero = refl
names-tab f (suc n) = names-first f n ∙ ap (λ (l : List ℕ). l ++ ((f 0).name ∷ [])) (names-tab (λ i. f (suc i)) n)

known_by : (values : List Value) (n : ℕ) → known_names values n ≡ names_by (λ i. get_or values i no_value) n
unfolding known_names
known_by values zero = refl
known_by values (suc n) = ap (λ (l : List ℕ). (get_or values n no_value).name ∷ l) (known_by values n)

pub last-first : (values known : List Value) (n : ℕ) → KnownBefore values n known → known_names values n ≡ names_last_first known
last-first values known n k =
    known_by values n ∙ names-tab (λ i. get_or values i no_value) n
    ∙ ap names_last_first (tab-cong n (λ i. get_or values i no_value) (λ i. get_or known i no_value) (λ i h. sym (k.held i h)) ∙ ap (λ (m : ℕ). tab m (λ i. get_or known i no_value)) (sym k.count) ∙ tab-get_or known no_value)

-- ---- the closing brace and the end of the text change no names

then-assoc : (c : Checked) (f g : List Entry → Checked) → then_checked (then_checked c f) g ≡ then_checked c (λ es. then_checked (f es) g)
then-assoc (entries es) f g = refl
then-assoc (refused n a) f g = refl

abbrev role_last : ℕ → List Reading → ℕ
role_last b [] = b
role_last b (x ∷ xs) = role_last x.role xs

then_same : (c : Checked) (f g : List Entry → Checked) → ((es : List Entry) → f es ≡ g es) → then_checked c f ≡ then_checked c g
then_same (entries es) f g h = h es
then_same (refused n a) f g h = refl

names-append : (text : List ℕ) (b : ℕ) (es : List Entry) (xs ys : List Reading) →
    names_read text b es (xs ++ ys) ≡ then_checked (names_read text b es xs) (λ rest. names_read text (role_last b xs) rest ys)
unfolding names_read
names-append text b es [] ys = refl
names-append text b es (x ∷ xs) ys =
    then_same (token_checked text b x.role x.token.start es) (λ rest. names_read text x.role rest (xs ++ ys))
    (λ rest. then_checked (names_read text x.role rest xs) (λ more. names_read text (role_last x.role xs) more ys)) (λ rest. names-append text x.role rest xs ys)
    ∙ sym (then-assoc (token_checked text b x.role x.token.start es) (λ rest. names_read text x.role rest xs) (λ more. names_read text (role_last x.role xs) more ys))

brace-idle : (text : List ℕ) (b a : ℕ) (es : List Entry) → token_checked text b rbrace a es ≡ entries es
unfolding token_checked on_token ends begins
brace-idle text b a es = refl

end-idle : (text : List ℕ) (b a : ℕ) (es : List Entry) → token_checked text b End a es ≡ entries es
unfolding token_checked on_token ends begins
end-idle text b a es = refl

closing-idle : (text : List ℕ) (b : ℕ) (es : List Entry) (ys : List Reading) → roles_of ys ≡ rbrace ∷ End ∷ [] → names_read text b es ys ≡ entries es
unfolding names_read
closing-idle text b es [] e = absurd (let z : 0 ≡ 2 = ap (λ (l : List ℕ). length l) e in omega arith)
closing-idle text b es (x ∷ []) e = absurd (let z : 1 ≡ 2 = ap (λ (l : List ℕ). length l) e in omega arith)
closing-idle text b es (x ∷ (y ∷ [])) e =
    let p : x.role ≡ rbrace = ap (λ (l : List ℕ). get_or l 0 0) e in
    let q : y.role ≡ End = ap (λ (l : List ℕ). get_or l 1 0) e in
    rw (p, q, brace-idle text b x.token.start es, end-idle text rbrace y.token.start es) refl
closing-idle text b es (x ∷ (y ∷ (z ∷ ys))) e = absurd (let w : suc (suc (suc (length (roles_of ys)))) ≡ 2 = ap (λ (l : List ℕ). length l) e in omega arith)

then-entries : (c : Checked) → then_checked c entries ≡ c
then-entries (entries es) = refl
then-entries (refused n a) = refl

pub closing-names : (text : List ℕ) (es : List Entry) (xs ys : List Reading) → roles_of ys ≡ rbrace ∷ End ∷ [] → names_read text 0 es (xs ++ ys) ≡ names_read text 0 es xs
closing-names text es xs ys e =
    names-append text 0 es xs ys
    ∙ then_same (names_read text 0 es xs) (λ rest. names_read text (role_last 0 xs) rest ys) entries (λ rest. closing-idle text (role_last 0 xs) rest ys e)
    ∙ then-entries (names_read text 0 es xs)
