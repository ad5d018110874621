-- Values of expressions: on the heap and in the calculus.
use Rattle.std.proofs.Common.{ℕ, ◌≡◌, List, Option, Some, sym, subst}
use Rattle.std.specs.Prelude.{ℤ}
use Rattle.lmn_base.specs.declared.guard.Cmp.{Cmp}
use Rattle.lmn_base.specs.declared.guard.Expr.{Expr}
use Rattle.lmn_base.specs.declared.guard.Expr.TheVariants as variant
use Rattle.lmn_congruence.specs.Rules as tree
use Rattle.lmn_congruence.specs.Translation.{name_of, expression_of}
use Rattle.lmn_guards.specs.Values.{value, Stand, Ordered}
use Rattle.lmn_reduction.specs.Assignments.{Assignment}
use Rattle.lmn_reduction.specs.Parts.{IsInteger}
use Rattle.lmn_reduction.specs.Values.{Value}
use Rattle.lmn_reduction.proofs.Values.{Uses}
use Rattle.lmn_reduction.proofs.Values.{context_tree, operation_tree, value_into as into_tree, value_back as back_of_tree}
use Rattle.lmn_adequacy.specs.Accepted.{UsedIn, here_used, left_used, right_used}

-- a comparison that holds of integers holds in the calculus
pub stand_into : (c : Cmp) (m n : ℤ) → Stand c m n → Ordered c m n
stand_into c m n s = s

-- and the other way round
pub stand_back : (c : Cmp) (m n : ℤ) → Ordered c m n → Stand c m n
stand_back c m n s = s

-- ---- the contexts of an expression

-- what holds of each name in an expression holds of its contexts
pub uses_from : (names : List tree.Name) (P : tree.Name → Type 0) (e : Expr) → ((p : tree.Name) → UsedIn p (expression_of names e) → P p) → Uses (λ x. P (name_of names x)) e
uses_from names P (variant.Int z) h = tt
uses_from names P (variant.Ctx u) h = h (name_of names u.name) (subst (UsedIn (name_of names u.name)) (sym (context_tree names u)) here_used)
uses_from names P (variant.Op' o p l q r) h = (
  uses_from names P l (λ x k. h x (subst (UsedIn x) (sym (operation_tree names o p l q r)) (left_used k))),
  uses_from names P r (λ x k. h x (subst (UsedIn x) (sym (operation_tree names o p l q r)) (right_used k))),
)

-- what follows from two properties of each context holds of each
pub uses_both : (P Q R : ℕ → Type 0) → ((x : ℕ) → P x → Q x → R x) → (e : Expr) → Uses P e → Uses Q e → Uses R e
uses_both P Q R h (variant.Int z) a b = tt
uses_both P Q R h (variant.Ctx u) a b = h u.name a b
uses_both P Q R h (variant.Op' o p l q r) a b = (uses_both P Q R h l a.0 b.0, uses_both P Q R h r a.1 b.1)

uses_all : {P : ℕ → Type 0} → ((x : ℕ) → P x) → (e : Expr) → Uses P e
uses_all h (variant.Int z) = tt
uses_all h (variant.Ctx u) = h u.name
uses_all h (variant.Op' o p l q r) = (uses_all h l, uses_all h r)

-- ---- values

-- what an expression is worth by the integers of contexts it is worth in the calculus
pub value_into : (names : List tree.Name) (t : Assignment) (of : ℕ → Option ℤ) → ((x : ℕ) (n : ℤ) → of x ≡ Some n → IsInteger n (t.typed_of (name_of names x))) → (e : Expr) (n : ℤ) → value of e ≡ Some n → Value t (expression_of names e) n
value_into names t of h e n q = into_tree names (λ p n. IsInteger n (t.typed_of p)) of e n (uses_all h e) q

-- what an expression is worth in the calculus it is worth by the integers of its contexts
pub value_back : (names : List tree.Name) (t : Assignment) (of : ℕ → Option ℤ) (e : Expr) (n : ℤ) → Uses (λ x. (n : ℤ) → IsInteger n (t.typed_of (name_of names x)) → of x ≡ Some n) e → Value t (expression_of names e) n → value of e ≡ Some n
value_back names t of e n u w = back_of_tree names (λ p n. IsInteger n (t.typed_of p)) of e n u w
