-- Taking integers into the range of n bits, signed or not; over the width. N is the width of a slot. Assumes nothing.
use mathlib.Core.Path.{◌≡◌, refl, ap, ◌∙◌}
use mathlib.Core.Bool.{Bool, true, false, ◌&&◌}
use Prim.Native.Nat.{ℕ, suc, ◌+◌, ◌-◌, ◌*◌, ◌%◌, ◌^◌, ◌≤◌, ◌<◌}
use native.Mathlib.Nat.{pow-suc, mod-eq_of_lt, lt_of_lt_of_le, mod-mod, add-mul-mod_self_right}
use native.Mathlib.Omega.{arith}
use lib.Pow.{pow_pos, pow_mono, high_ones}
use lib.IntN.{ℤ, pos, negsuc}
use lib.Dec.{leb}
use lib.Signed.{mag}
use lib.Arith.{comp_comp}
use borrow.Author.Tests.{lt-leb, le-leb}
use Rattle.lists.specs.Lists.{pick}
use Rattle.element.specs.Types.{residue, read, wrap}
use Rattle.element.proofs.Residue.{residue-lt, residue-narrow}

-- the slot of N bits whose n low bits are those of x, extended by the sign
abbrev pub extend : ℕ → Bool → ℕ → ℕ → ℕ
extend N signed n x = pick (signed && leb (2 ^ (n - 1)) (x % 2 ^ n)) (x % 2 ^ n + (2 ^ N - 2 ^ n)) (x % 2 ^ n)

module _ (n N : ℕ) (h : n ≤ N) where
  -- the residue of a number that is read off n bits
  slot-pick : (b : Bool) (r : ℕ) → r < 2 ^ n → residue (2 ^ N) (pick b (negsuc (2 ^ n - suc r)) (pos r)) ≡ pick b (r + (2 ^ N - 2 ^ n)) r
  slot-pick true r k =
      let l : 2 ^ n ≤ 2 ^ N = pow_mono h in
      let m : 2 ^ n - suc r < 2 ^ N = omega arith in
      rw (mod-eq_of_lt m) (omega arith)
  slot-pick false r k = mod-eq_of_lt (lt_of_lt_of_le k (pow_mono h))

  -- the slot of a value that was wrapped is an extension
  pub wrap-extend : (s : Bool) (z : ℤ) → residue (2 ^ N) (wrap s n z) ≡ extend N s n (residue (2 ^ N) z)
  wrap-extend s z = rw (← residue-narrow h z) (slot-pick (s && leb (2 ^ (n - 1)) (residue (2 ^ n) z)) (residue (2 ^ n) z) (residue-lt (2 ^ n) (pow_pos n) z))

  -- an extension keeps the low bits
  pub extend-mod : (s : Bool) (x : ℕ) → extend N s n x % 2 ^ n ≡ x % 2 ^ n
  extend-mod s x = go (s && leb (2 ^ (n - 1)) (x % 2 ^ n))
    where
      e : N - n + n ≡ N
      e = omega arith

      go : (b : Bool) → pick b (x % 2 ^ n + (2 ^ N - 2 ^ n)) (x % 2 ^ n) % 2 ^ n ≡ x % 2 ^ n
      go true = rw (rw e at (high_ones (N - n) n)) (add-mul-mod_self_right (x % 2 ^ n) (2 ^ (N - n) - 1) (2 ^ n) ∙ mod-mod x (2 ^ n))
      go false = mod-mod x (2 ^ n)

-- the slot of the value of a slot
pub read-slot : (s : Bool) (N x : ℕ) → x < 2 ^ N → residue (2 ^ N) (read s N x) ≡ x
read-slot s N x k = slot-pick N N (omega arith) (s && leb (2 ^ (N - 1)) x) x k ∙ same (s && leb (2 ^ (N - 1)) x)
  where
    same : (b : Bool) → pick b (x + (2 ^ N - 2 ^ N)) x ≡ x
    same true = omega arith
    same false = refl

-- what is in the range of n bits stays

pub power : (n : ℕ) → 1 ≤ n → 2 ^ n ≡ 2 ^ (n - 1) * 2
power n h = ap (λ (k : ℕ). 2 ^ k) e ∙ pow-suc 2 (n - 1)
  where
    e : n ≡ suc (n - 1)
    e = omega arith

pub wrap-signed : (n : ℕ) → 1 ≤ n → (z : ℤ) → mag z < 2 ^ (n - 1) → wrap true n z ≡ z
wrap-signed n h (pos k) l =
    let p : 2 ^ n ≡ 2 ^ (n - 1) * 2 = power n h in
    let f : k < 2 ^ n = omega arith in
    simp (mod-eq_of_lt f, lt-leb _ _ l)
wrap-signed n h (negsuc k) l =
    let p : 2 ^ n ≡ 2 ^ (n - 1) * 2 = power n h in
    let f : k < 2 ^ n = omega arith in
    let g : 2 ^ (n - 1) ≤ 2 ^ n - suc k = omega arith in
    simp (mod-eq_of_lt f, le-leb _ _ g, comp_comp f)

pub wrap-unsigned : (n k : ℕ) → k < 2 ^ n → wrap false n (pos k) ≡ pos k
wrap-unsigned n k l = ap pos (mod-eq_of_lt l)
