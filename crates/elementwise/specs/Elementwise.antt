-- Whole tensors element by element (01, "Element by element"). A tensor is the list of its slots in canonical order.
-- Assumes nothing.
use Rattle.std.specs.Prelude.{◌≡◌, Result, Ok, Err, Bool, false, List, ◌++◌, ℕ, eqb, ltb, length, get_or, drop}
use Rattle.lists.specs.Lists.{pick, tab, All, first_where}
use Rattle.run.specs.Run.{Out, gives, stops, on_out}
use Rattle.element.specs.Types.{SlotHolds}
use Rattle.element.specs.declared.ElementType.{ElementType}
use Rattle.division.specs.Division.{division_of}
use Rattle.division.specs.declared.Division.{Division}
use Rattle.scalar.specs.Ops.{unary_of, binary_of, compare_of, select_of, clamp_of, convert_of}
use Rattle.scalar.specs.declared.Unary.{Unary}
use Rattle.scalar.specs.declared.Binary.{Binary}
use Rattle.scalar.specs.declared.Direction.{Direction}
use Rattle.elementwise.specs.declared.ZeroDivisor.{ZeroDivisor}

abbrev pub Tensor : Type 0
Tensor = List ℕ

-- a tensor of n elements, each a value of the type
pub record Holds (t : ElementType) (n : ℕ) (x : Tensor) : Type 0 where
  pub sized : length x ≡ n
  pub ranged : All (SlotHolds t) x

-- two operands of n elements
pub record TwoSized (n : ℕ) (x y : Tensor) : Type 0 where
  pub first : length x ≡ n
  pub second : length y ≡ n

-- Element k of each result. "Each allows rank 0 as 000 says": an operand of rank 0 has one element, which serves every k.

abbrev pub spread : Bool → Tensor → ℕ → ℕ
spread single x k = get_or x (pick single 0 k) 0

abbrev pub unary_at : Unary → ElementType → Tensor → ℕ → ℕ
unary_at op t x k = unary_of op t (get_or x k 0)

abbrev pub binary_at : Binary → ElementType → Tensor → Tensor → ℕ → ℕ
binary_at op t x y k = binary_of op t (get_or x k 0) (get_or y k 0)

abbrev pub compare_at : Direction → ElementType → Tensor → Tensor → ℕ → ℕ
compare_at d t x y k = compare_of d t (get_or x k 0) (get_or y k 0)

abbrev pub convert_at : ElementType → ElementType → Tensor → ℕ → ℕ
convert_at from to x k = convert_of from to (get_or x k 0)

abbrev pub select_at : Bool → Tensor → Tensor → Tensor → ℕ → ℕ
select_at single pred x y k = select_of (spread single pred k) (get_or x k 0) (get_or y k 0)

abbrev pub clamp_at : ElementType → Bool → Bool → Tensor → Tensor → Tensor → ℕ → ℕ
clamp_at t one other min x max k = clamp_of t (spread one min k) (get_or x k 0) (spread other max k)

-- the length of an operand of rank 0, or of n elements
abbrev pub spread_size : Bool → ℕ → ℕ
spread_size single n = pick single 1 n

-- the operands of select: pred of rank 0 or of the shape
pub record SelectSized (single : Bool) (n : ℕ) (pred x y : Tensor) : Type 0 where
  pub asked : length pred ≡ spread_size single n
  pub first : length x ≡ n
  pub second : length y ≡ n

-- the operands of clamp: min and max, each of rank 0 or of the shape
pub record ClampSized (one other : Bool) (n : ℕ) (min x max : Tensor) : Type 0 where
  pub low : length min ≡ spread_size one n
  pub middle : length x ≡ n
  pub high : length max ≡ spread_size other n

-- Division -----------------------------------------------------------------------------------------------------------------

abbrev pub is_zero : ℕ → Bool
is_zero d = eqb d 0

-- operand 0 is the dividend, operand 1 the divisor
abbrev pub operand_at : Tensor → Tensor → ℕ → ℕ → ℕ
operand_at x y k j = pick (eqb j 0) (get_or x k 0) (get_or y k 0)

abbrev pub zero_divisor : ℕ → ℕ → Bool
zero_divisor j v = pick (eqb j 0) false (is_zero v)

-- the value of a quotient or a remainder
abbrev pub division_at : Division → ElementType → Tensor → Tensor → ℕ → ℕ
division_at op t x y k = (division_of op t (get_or x k 0) (get_or y k 0)).1

-- "Evaluation stops at the first element whose divisor is zero"
abbrev pub divided : Division → ElementType → ℕ → Tensor → Tensor → Out Tensor ℕ
divided op t n x y = pick (ltb (first_where is_zero y) n) (stops (first_where is_zero y)) (gives (tab n (division_at op t x y)))

-- "An answer has three numbers: refusal, A, B"; "12 | zero divisor | op | element"
abbrev pub step_numbers : Result (Unit {0}) ZeroDivisor → ℕ × ℕ × ℕ
step_numbers (Ok u) = (0, 0, 0)
step_numbers (Err z) = (12, z.op, z.element)

-- the numbers of the op with this number, by what it gives
abbrev pub out_numbers : ℕ → Out Tensor ℕ → ℕ × ℕ × ℕ
out_numbers number (gives v) = (0, 0, 0)
out_numbers number (stops element) = (12, number, element)

-- what a division leaves where old stood: the results, or those before the first zero divisor and the old rest
abbrev pub left_by : Division → ElementType → Tensor → Tensor → List ℕ → List ℕ
left_by op t x y old = on_out (divided op t (length old) x y) (λ v. v) (λ k. tab k (division_at op t x y) ++ drop k old)

-- what a division answers, and what it leaves where old stood
pub record Divides (number : ℕ) (op : Division) (t : ElementType) (x y : Tensor) (r : Result (Unit {0}) ZeroDivisor) (old new : List ℕ) : Type 0 where
  pub answers : step_numbers r ≡ out_numbers number (divided op t (length old) x y)
  pub leaves : new ≡ left_by op t x y old
