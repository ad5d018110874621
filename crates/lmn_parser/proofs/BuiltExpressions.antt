-- The expression that the reader builds is the one that it has read.
use Rattle.std.proofs.Common.{◌≡◌, ℕ, ◌+◌, List, sym, subst}
use Rattle.lmn_base.specs.declared.guard.Arith.{Arith}
use Rattle.lmn_lexer.specs.declared.token.Kind.TheVariants.{Int, Context, LParen, RParen}
use Rattle.lmn_lexer.specs.declared.token.Token.{Token}
use Rattle.lmn_parser.specs.declared.tree.ExprNode.{ExprNode}
use Rattle.lmn_parser.specs.declared.tree.ExprNode.TheVariants as variant
use Rattle.lmn_parser.specs.Syntax.{Expr, operation, expr_of}
use Rattle.lmn_parser.specs.Trees.{At, PlusAt, TimesAt, IsSum, plus, IsProduct, times, IsFactor, is_integer, is_value, in_parentheses}
use Rattle.lmn_parser.proofs.Nodes.{expr_int, expr_ctx}

-- an integer is an operand
pub factor_integer : (ts : List Token) (p : ℕ) → At ts p Int → IsFactor ts (expr_of (variant.Int p)) p (p + 1)
factor_integer ts p h = let P : Expr → Type 0 = λ e. IsFactor ts e p (p + 1) in subst P (sym (expr_int p)) (is_integer h)

-- and so is a context
pub factor_value : (ts : List Token) (p : ℕ) → At ts p Context → IsFactor ts (expr_of (variant.Ctx p)) p (p + 1)
factor_value ts p h = let P : Expr → Type 0 = λ e. IsFactor ts e p (p + 1) in subst P (sym (expr_ctx p)) (is_value h)

-- and a sum in parentheses
pub factor_round : (ts : List Token) (e : Expr) (p m n q : ℕ) → (m ≡ p + 1) × At ts p LParen → IsSum ts e m n → (q ≡ n + 1) × At ts n RParen → IsFactor ts e p q
factor_round ts e p m n q a s b =
    let P : ℕ → Type 0 = λ k. IsSum ts e k n in
    let Q : ℕ → Type 0 = λ k. IsFactor ts e p k in
    subst Q (sym b.0) (in_parentheses a.1 (subst P a.0 s) b.1)

-- a product, a sign and an operand are a product
pub product_times : (ts : List Token) (op : Arith) (l r e : ExprNode) (p m q : ℕ) → IsProduct ts (expr_of l) p m → TimesAt ts m op → IsFactor ts (expr_of r) (m + 1) q →
    expr_of e ≡ operation op (expr_of l) (expr_of r) → IsProduct ts (expr_of e) p q
product_times ts op l r e p m q a o b h = let P : Expr → Type 0 = λ x. IsProduct ts x p q in subst P (sym h) (times op a o b)

-- a sum, a sign and a product are a sum
pub sum_plus : (ts : List Token) (op : Arith) (l r e : ExprNode) (p m q : ℕ) → IsSum ts (expr_of l) p m → PlusAt ts m op → IsProduct ts (expr_of r) (m + 1) q →
    expr_of e ≡ operation op (expr_of l) (expr_of r) → IsSum ts (expr_of e) p q
sum_plus ts op l r e p m q a o b h = let P : Expr → Type 0 = λ x. IsSum ts x p q in subst P (sym h) (plus op a o b)
