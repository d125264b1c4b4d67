use Rattle.dimrules.proofs.WholeLaw.{halves, low-bound, high-bound, product-bound, product-halves}
use native.Mathlib.Nat.{div-add-mod'}
use mathlib.Core.Bool.{◌&&◌}
use lib.Dec.{eqb}
use mathlib.Core.Path.{◌≡◌, ◌∙◌}
use Prim.Native.Nat.{ℕ, ◌*◌, ◌/◌, ◌%◌, ◌+◌, ◌≤◌}
use native.Mathlib.Omega.{arith}
use borrow.Author.Tests.{eq-eqb, ne_eqb}
use borrow.Author.Rules.{rules}
use Rattle.dimrules.proofs.same_sums.Goals as goal

abbrev size_above : ℕ → ℕ → ℕ → ℕ
size_above m p q = m / 4294967296 + p / 4294967296 + q / 4294967296 + (m % 4294967296 + p % 4294967296 + q % 4294967296) / 4294967296

abbrev padded_above : ℕ → ℕ → ℕ → ℕ → ℕ → ℕ
padded_above n a k i b =
    n / 4294967296 + a / 4294967296 + k * (i / 4294967296) + b / 4294967296 + (n % 4294967296 + a % 4294967296 + k * (i % 4294967296) + b % 4294967296) / 4294967296

equal : (n a k i b m p q : ℕ)
    → eqb (size_above m p q) (padded_above n a k i b)
    && eqb ((m % 4294967296 + p % 4294967296 + q % 4294967296) % 4294967296) ((n % 4294967296 + a % 4294967296 + k * (i % 4294967296) + b % 4294967296) % 4294967296)
    ≡ eqb (m + p + q) (n + a + k * i + b)
equal n a k i b m p q =
    let pr : 4294967296 * (k * (i / 4294967296)) + k * (i % 4294967296) ≡ k * i = product-halves k i in
    let dn : n / 4294967296 * 4294967296 + n % 4294967296 ≡ n = div-add-mod' n 4294967296 in
    let da : a / 4294967296 * 4294967296 + a % 4294967296 ≡ a = div-add-mod' a 4294967296 in
    let db : b / 4294967296 * 4294967296 + b % 4294967296 ≡ b = div-add-mod' b 4294967296 in
    let dm : m / 4294967296 * 4294967296 + m % 4294967296 ≡ m = div-add-mod' m 4294967296 in
    let dp : p / 4294967296 * 4294967296 + p % 4294967296 ≡ p = div-add-mod' p 4294967296 in
    let dq : q / 4294967296 * 4294967296 + q % 4294967296 ≡ q = div-add-mod' q 4294967296 in
    halves (n + a + k * i + b) (m + p + q) (n / 4294967296 + a / 4294967296 + k * (i / 4294967296) + b / 4294967296) (n % 4294967296 + a % 4294967296 + k * (i % 4294967296) + b % 4294967296) (omega arith)
    (m / 4294967296 + p / 4294967296 + q / 4294967296) (m % 4294967296 + p % 4294967296 + q % 4294967296) (omega arith)

pub overflow_mul-l : goal.overflow_mul-l
overflow_mul-l c =
    let low_product_ : c.args.k * (c.args.i % 4294967296) ≤ 17592186044416 = (product-bound c.args.k (c.args.i % 4294967296) (search rules) (low-bound c.args.i)) in
    omega (arith, low_product_)

pub overflow_add-l-2 : goal.overflow_add-l-2
overflow_add-l-2 c =
    let low_product_ : c.args.k * (c.args.i % 4294967296) ≤ 17592186044416 = (product-bound c.args.k (c.args.i % 4294967296) (search rules) (low-bound c.args.i)) in
    omega (arith, low_product_)

pub overflow_add-l-3 : goal.overflow_add-l-3
overflow_add-l-3 c =
    let low_product_ : c.args.k * (c.args.i % 4294967296) ≤ 17592186044416 = (product-bound c.args.k (c.args.i % 4294967296) (search rules) (low-bound c.args.i)) in
    omega (arith, low_product_)

pub overflow_mul-h : goal.overflow_mul-h
overflow_mul-h c =
    let high_product_ : c.args.k * (c.args.i / 4294967296) ≤ 17592186044416 = (product-bound c.args.k (c.args.i / 4294967296) (search rules) (high-bound c.args.i (search rules))) in
    omega (arith, high_product_)

pub overflow_add-h-2 : goal.overflow_add-h-2
overflow_add-h-2 c =
    let high_product_ : c.args.k * (c.args.i / 4294967296) ≤ 17592186044416 = (product-bound c.args.k (c.args.i / 4294967296) (search rules) (high-bound c.args.i (search rules))) in
    omega (arith, high_product_)

pub overflow_add-h-3 : goal.overflow_add-h-3
overflow_add-h-3 c =
    let high_product_ : c.args.k * (c.args.i / 4294967296) ≤ 17592186044416 = (product-bound c.args.k (c.args.i / 4294967296) (search rules) (high-bound c.args.i (search rules))) in
    omega (arith, high_product_)

pub overflow_add-h-4 : goal.overflow_add-h-4
overflow_add-h-4 c =
    let low_product_ : c.args.k * (c.args.i % 4294967296) ≤ 17592186044416 = (product-bound c.args.k (c.args.i % 4294967296) (search rules) (low-bound c.args.i)) in
    let high_product_ : c.args.k * (c.args.i / 4294967296) ≤ 17592186044416 = (product-bound c.args.k (c.args.i / 4294967296) (search rules) (high-bound c.args.i (search rules))) in
    omega (arith, low_product_, high_product_)

pub returns-then-t-s : goal.returns-then-t-s
returns-then-t-s c =
    let a = c.args in
    let whole : size_above a.m a.p a.q ≡ padded_above a.n a.a a.k a.i a.b = omega arith in
    rw (eq-eqb _ _ whole) at (equal a.n a.a a.k a.i a.b a.m a.p a.q)

pub returns-else-t-s : goal.returns-else-t-s
returns-else-t-s c =
    let a = c.args in
    ne_eqb _ _ c.if-t-s.false ∙ rw (ne_eqb _ _ c.if-t-s.false) at (equal a.n a.a a.k a.i a.b a.m a.p a.q)
