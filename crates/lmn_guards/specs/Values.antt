-- The values of integer expressions, and the order of two values.
use Rattle.std.specs.Prelude.{ℕ, ℤ, List, ◌==◌, option_and_then, position, slice_get, pos, negsuc, ◌+ℤ◌, ◌-ℤ◌, ◌*ℤ◌, ◌<ℤ◌, ◌≤ℤ◌, ◌≡◌, ◌≢◌, ◌-◌, ◌^◌, ◌&&◌, Bool, true, false, if◌then◌else◌, Option, Some, None, int_div, int_le, int_lt}
use Rattle.lmn_base.specs.declared.guard.Cmp.TheVariants.{Lt, Le, Gt, Ge, Eq, Ne}
use Rattle.lmn_base.specs.declared.guard.Arith.{Arith}
use Rattle.lmn_base.specs.declared.guard.Arith.TheVariants.{Add, Sub, Mul, Div, Mod}
use Rattle.lmn_base.specs.declared.guard.Cmp.{Cmp}
use Rattle.lmn_base.specs.declared.guard.Expr.{Expr}
use Rattle.lmn_base.specs.declared.guard.Expr.TheVariants.{Int, Ctx, Op'}
use Rattle.lmn_congruence.specs.Rules.{Name, Expression, number, value_of, operation}

-- ---- of trees

-- -2^63 to 2^63 - 1
abbrev pub InRange : ℤ → Type 0
InRange z = (negsuc (2 ^ 63 - 1)) ≤ℤ z × z <ℤ pos (2 ^ 63)

-- what an operation gives, computed without bound; `/` goes toward zero, and `a mod b` is `a - (a/b)*b`
abbrev pub computed : Arith → ℤ → ℤ → ℤ
computed Add m n = m +ℤ n
computed Sub m n = m -ℤ n
computed Mul m n = m *ℤ n
computed Div m n = int_div m n
computed Mod m n = m -ℤ (int_div m n *ℤ n)

-- no divisor is zero
abbrev pub DivisorAllowed : Arith → ℤ → Type 0
DivisorAllowed Div n = n ≢ pos 0
DivisorAllowed Mod n = n ≢ pos 0
DivisorAllowed op n = Unit {0}

-- The value of an expression, where `Is` says which integer a name stands for. It is missing where an operation in it
-- has a zero divisor or a result out of range.
pub data Evaluates (Is : Name → ℤ → Type 0) : Expression → ℤ → Type 0 where
  of_number : {n : ℤ} → Evaluates Is (number n) n
  of_context : {p : Name} {n : ℤ} → Is p n → Evaluates Is (value_of p) n
  of_operation : {o : Arith} {e f : Expression} {m n : ℤ} →
      Evaluates Is e m → Evaluates Is f n → DivisorAllowed o n → InRange (computed o m n) →
      Evaluates Is (operation o e f) (computed o m n)

-- two values stand in an order
abbrev pub Ordered : Cmp → ℤ → ℤ → Type 0
Ordered Lt m n = m <ℤ n
Ordered Le m n = m ≤ℤ n
Ordered Gt m n = n <ℤ m
Ordered Ge m n = n ≤ℤ m
Ordered Eq m n = m ≡ n
Ordered Ne m n = m ≢ n

-- ---- the same of the program's expressions, as functions

-- -2^63 to 2^63 - 1, as a test
abbrev pub in_range : ℤ → Bool
in_range z = int_le (negsuc (2 ^ 63 - 1)) z && int_lt z (pos (2 ^ 63))

-- a whole number where it is in range
abbrev pub ranged : ℤ → Option ℤ
ranged z = if in_range z then Some z else None

-- the integer is zero
abbrev pub is_zero : ℤ → Bool
is_zero z = int_le z (pos 0) && int_le (pos 0) z

-- the operation has a divisor
abbrev pub divides : Arith → Bool
divides Add = false
divides Sub = false
divides Mul = false
divides Div = true
divides Mod = true

-- What an operation gives. It is missing where a divisor is zero or the result is out of range.
abbrev pub result_of : Arith → ℤ → ℤ → Option ℤ
result_of op m n = if divides op && is_zero n then None else ranged (computed op m n)

-- an operation on two values, where both are there
abbrev pub both : (ℤ → ℤ → Option ℤ) → Option ℤ → Option ℤ → Option ℤ
both f None y = None
both f (Some m) None = None
both f (Some m) (Some n) = f m n

-- the value of an expression, where each context in it has one
abbrev pub value : (ℕ → Option ℤ) → Expr → Option ℤ
value given (Int z) = Some z
value given (Ctx u) = given u.name
value given (Op' op p left q right) = both (result_of op) (value given left) (value given right)

-- two values stand in an order
abbrev pub Stand : Cmp → ℤ → ℤ → Type 0
Stand c = Ordered c

-- the value that stands at the place of a name, where there is one
abbrev pub value_beside : List ℕ → List ℤ → ℕ → Option ℤ
value_beside names values n = option_and_then (slice_get values) (position (λ m. m == n) names)
