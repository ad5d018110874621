-- The value of an expression of the program is that of its tree.
use Rattle.std.proofs.Common.{Box, Global, ℕ, zero, suc, ◌≤◌, ◌≡◌, ◌≢◌, ◌↔◌, ◌&&◌, Bool, true, false, cond, List, [], ◌∷◌, ◌++◌, Option, Some, None, All, refl, sym, ap, subst, ◌∙◌, arith}
use Rattle.std.specs.Prelude.{ℤ, pos, negsuc, ◌+ℤ◌, ◌-ℤ◌, ◌*ℤ◌, ◌≤ℤ◌, ◌<ℤ◌, ◌^◌, ◌-◌, T, int_le, int_lt, int_div}
use Rattle.std.proofs.lemmas.Option.{same_Some}
use lib.Signed.{le_z_yes, lt_z_yes}
use lib.Dec.{leb→le}
use Rattle.lmn_base.specs.declared.guard.Arith.{Arith}
use Rattle.lmn_base.specs.declared.guard.Arith.TheVariants.{Add, Sub, Mul, Div, Mod}
use Rattle.lmn_base.specs.declared.guard.Expr.{Expr}
use Rattle.lmn_base.specs.declared.guard.Expr.TheOpen as open'
use Rattle.lmn_base.specs.declared.guard.Expr.TheVariants as variant
use Rattle.lmn_base.specs.declared.guard.Expr.TheFolds.{fold-roll-Expr}
use Rattle.lmn_base.specs.declared.level.CtxUse.{CtxUse}
use Rattle.lmn_base.specs.Names.{expression_names, expression_names_step as names_step}
use Rattle.lmn_congruence.specs.Rules as tree
use Rattle.lmn_congruence.specs.Translation.{name_of, expression_step, expression_of}
use Rattle.lmn_guards.specs.Values.{value, both, in_range, ranged, is_zero, result_of, Evaluates, of_number, of_context, of_operation, InRange, DivisorAllowed, computed}
use Rattle.lmn_reduction.specs.Laws.{ValuesAgree}
use Rattle.lmn_reduction.specs.Parts.{IsInteger}
use Rattle.lmn_base.proofs.Truth.{and_true as both_true}
use Rattle.lmn_base.proofs.Lists.{all_of_left, all_of_right}

-- ---- expressions as trees

-- an integer as an expression of the calculus
pub number_tree : (names : List tree.Name) (z : ℤ) → expression_of names (variant.Int z) ≡ tree.number z
number_tree names z = ap (expression_of names) (sym (variant.rolls-Int z)) ∙ fold-roll-Expr tree.Expression (expression_step names) (open'.Int z)

-- and a context
pub context_tree : (names : List tree.Name) (u : CtxUse) → expression_of names (variant.Ctx u) ≡ tree.value_of (name_of names u.name)
context_tree names u = ap (expression_of names) (sym (variant.rolls-Ctx u)) ∙ fold-roll-Expr tree.Expression (expression_step names) (open'.Ctx u)

-- and an operation
pub operation_tree : (names : List tree.Name) (op : Arith) (p : Box (Unit {0}) Global) (left : Expr) (q : Box (Unit {0}) Global) (right : Expr) → expression_of names (variant.Op' op p left q right) ≡ tree.operation op (expression_of names left) (expression_of names right)
operation_tree names op p left q right =
    let l : Box Expr Global = record { value = left; ptr = p.ptr; alloc = p.alloc } in
    let k : Box Expr Global = record { value = right; ptr = q.ptr; alloc = q.alloc } in
    ap (expression_of names) (sym (variant.rolls-Op op l k)) ∙ fold-roll-Expr tree.Expression (expression_step names) (open'.Op op l k)

-- ---- ranges

true_of : {b : Bool} → b ≡ true → T b
true_of e = subst T (sym e) tt

is_true : (b : Bool) → T b → b ≡ true
is_true true t = refl
is_true false t = absurd t

range_into : (l z u : ℤ) → (int_le l z && int_lt z u) ≡ true → (l ≤ℤ z) × (z <ℤ u)
range_into l z u e = let w = both_true (int_le l z) (int_lt z u) e in (le_z_yes (true_of w.0), lt_z_yes (true_of w.1))

range_back : (l z u : ℤ) → l ≤ℤ z → z <ℤ u → (int_le l z && int_lt z u) ≡ true
range_back l z u a b = rw (is_true (int_le l z) a.le, is_true (int_lt z u) b.lt) refl

zero_is : (z : ℤ) → is_zero z ≡ true → z ≡ pos 0
zero_is (pos a) e = by a (both_true (int_le (pos a) (pos 0)) (int_le (pos 0) (pos a)) e).0
  where
    by : (a : ℕ) → int_le (pos a) (pos 0) ≡ true → pos a ≡ pos 0
    by zero e = refl
    by (suc a) e = absurd (let w : suc a ≤ 0 = leb→le (suc a) 0 (true_of e) in omega (arith, w))
zero_is (negsuc a) e = absurd (let w = (both_true (int_le (negsuc a) (pos 0)) (int_le (pos 0) (negsuc a)) e).1 in cc)

is_nonzero : (z : ℤ) → is_zero z ≡ false → z ≢ pos 0
is_nonzero z e q = let w : is_zero (pos 0) ≡ false = subst (λ y. is_zero y ≡ false) q e in cc

nonzero_is : (z : ℤ) → z ≢ pos 0 → is_zero z ≡ false
nonzero_is z d = by (is_zero z) refl
  where
    by : (b : Bool) → is_zero z ≡ b → b ≡ false
    by true e = absurd (d (zero_is z e))
    by false e = refl

ranged_into : (z n : ℤ) → ranged z ≡ Some n → InRange z × (z ≡ n)
ranged_into z n e = by (in_range z) refl e
  where
    by : (b : Bool) → in_range z ≡ b → cond b (Some z) None ≡ Some n → InRange z × (z ≡ n)
    by true q e = (range_into (negsuc (2 ^ 63 - 1)) z (pos (2 ^ 63)) q, same_Some z n e)
    by false q e = absurd (cc)

ranged_back : (z : ℤ) → InRange z → ranged z ≡ Some z
ranged_back z r = let q : in_range z ≡ true = range_back (negsuc (2 ^ 63 - 1)) z (pos (2 ^ 63)) r.0 r.1 in rw q refl

divided_into : (n z k : ℤ) → cond (is_zero n) None (ranged z) ≡ Some k → (n ≢ pos 0) × InRange z × (z ≡ k)
divided_into n z k e = by (is_zero n) refl e
  where
    by : (b : Bool) → is_zero n ≡ b → cond b None (ranged z) ≡ Some k → (n ≢ pos 0) × InRange z × (z ≡ k)
    by true q e = absurd (cc)
    by false q e = let w = ranged_into z k e in (is_nonzero n q, w.0, w.1)

divided_back : (n z : ℤ) → n ≢ pos 0 → InRange z → cond (is_zero n) None (ranged z) ≡ Some z
divided_back n z d r = rw (nonzero_is n d) (ranged_back z r)

-- ---- operations

result_into : (o : Arith) (m n k : ℤ) → result_of o m n ≡ Some k → DivisorAllowed o n × InRange (computed o m n) × (computed o m n ≡ k)
result_into Add m n k e = let w = ranged_into (m +ℤ n) k e in (tt, w.0, w.1)
result_into Sub m n k e = let w = ranged_into (m -ℤ n) k e in (tt, w.0, w.1)
result_into Mul m n k e = let w = ranged_into (m *ℤ n) k e in (tt, w.0, w.1)
result_into Div m n k e = divided_into n (int_div m n) k e
result_into Mod m n k e = divided_into n (m -ℤ (int_div m n *ℤ n)) k e

result_back : (o : Arith) (m n : ℤ) → DivisorAllowed o n → InRange (computed o m n) → result_of o m n ≡ Some (computed o m n)
result_back Add m n d r = ranged_back (m +ℤ n) r
result_back Sub m n d r = ranged_back (m -ℤ n) r
result_back Mul m n d r = ranged_back (m *ℤ n) r
result_back Div m n d r = divided_back n (int_div m n) d r
result_back Mod m n d r = divided_back n (m -ℤ (int_div m n *ℤ n)) d r

-- ---- the contexts of an expression

-- each context of an expression is one of these
abbrev pub Uses : (ℕ → Type 0) → Expr → Type 0
Uses P (variant.Int z) = Unit {0}
Uses P (variant.Ctx u) = P u.name
Uses P (variant.Op' o p l q r) = Uses P l × Uses P r

context_named : (u : CtxUse) → expression_names (variant.Ctx u) ≡ u.name ∷ []
context_named u = ap expression_names (sym (variant.rolls-Ctx u)) ∙ fold-roll-Expr (List ℕ) names_step (open'.Ctx u)

operation_named : (op : Arith) (p : Box (Unit {0}) Global) (left : Expr) (q : Box (Unit {0}) Global) (right : Expr) → expression_names (variant.Op' op p left q right) ≡ expression_names left ++ expression_names right
operation_named op p left q right =
    let l : Box Expr Global = record { value = left; ptr = p.ptr; alloc = p.alloc } in
    let k : Box Expr Global = record { value = right; ptr = q.ptr; alloc = q.alloc } in
    ap expression_names (sym (variant.rolls-Op op l k)) ∙ fold-roll-Expr (List ℕ) names_step (open'.Op op l k)

-- what holds of each name in an expression holds of each of its contexts
pub uses_known : (P : ℕ → Type 0) (e : Expr) → All P (expression_names e) → Uses (λ x. All P (x ∷ [])) e
uses_known P (variant.Int z) h = tt
uses_known P (variant.Ctx u) h = subst (All P) (context_named u) h
uses_known P (variant.Op' o p l q r) h =
    let w = subst (All P) (operation_named o p l q r) h in
    (uses_known P l (all_of_left P (expression_names l) (expression_names r) w), uses_known P r (all_of_right P (expression_names l) (expression_names r) w))

-- where each context of an expression is such, and what is such is more, each is that
pub uses_so : {P Q : ℕ → Type 0} → ((x : ℕ) → P x → Q x) → (e : Expr) → Uses P e → Uses Q e
uses_so h (variant.Int z) a = tt
uses_so h (variant.Ctx u) a = h u.name a
uses_so h (variant.Op' o p l q r) a = (uses_so h l a.0, uses_so h r a.1)

-- ---- values

module _ (names : List tree.Name) (Is : tree.Name → ℤ → Type 0) (given : ℕ → Option ℤ) where
  pub value_into : (e : Expr) (n : ℤ) → Uses (λ x. (n : ℤ) → given x ≡ Some n → Is (name_of names x) n) e → value given e ≡ Some n → Evaluates Is (expression_of names e) n
  value_into (variant.Int z) n u q = subst (λ T. Evaluates Is T n) (sym (number_tree names z)) (subst (Evaluates Is (tree.number z)) (same_Some z n q) of_number)
  value_into (variant.Ctx c) n u q = subst (λ T. Evaluates Is T n) (sym (context_tree names c)) (of_context (u n q))
  value_into (variant.Op' o p l k r) n u q =
      by (value given l) (value given r) refl refl q (λ m. value_into l m u.0) (λ m. value_into r m u.1)
    where
      by : (a b : Option ℤ) → value given l ≡ a → value given r ≡ b → both (result_of o) a b ≡ Some n → ((m : ℤ) → value given l ≡ Some m → Evaluates Is (expression_of names l) m) → ((m : ℤ) → value given r ≡ Some m → Evaluates Is (expression_of names r) m) →
          Evaluates Is (expression_of names (variant.Op' o p l k r)) n
      by None b ea eb q f g = absurd (cc)
      by (Some x) None ea eb q f g = absurd (cc)
      by (Some x) (Some y) ea eb q f g =
          let w = result_into o x y n q in
          subst (λ T. Evaluates Is T n) (sym (operation_tree names o p l k r)) (subst (Evaluates Is (tree.operation o (expression_of names l) (expression_of names r))) w.2 (of_operation (f x ea) (g y eb) w.0 w.1))

  record OfOperation (o : Arith) (e f : tree.Expression) (n : ℤ) : Type 0 where
    left : ℤ
    right : ℤ
    first : Evaluates Is e left
    second : Evaluates Is f right
    allowed : DivisorAllowed o right
    range : InRange (computed o left right)
    is : computed o left right ≡ n

  number_back : {z n : ℤ} → Evaluates Is (tree.number z) n → z ≡ n
  number_back of_number = refl

  context_back : {p : tree.Name} {n : ℤ} → Evaluates Is (tree.value_of p) n → Is p n
  context_back (of_context i) = i

  operation_back : {o : Arith} {e f : tree.Expression} {n : ℤ} → Evaluates Is (tree.operation o e f) n → OfOperation o e f n
  operation_back (of_operation a b d r) = record { left = _; right = _; first = a; second = b; allowed = d; range = r; is = refl }

  pub value_back : (e : Expr) (n : ℤ) → Uses (λ x. (n : ℤ) → Is (name_of names x) n → given x ≡ Some n) e → Evaluates Is (expression_of names e) n → value given e ≡ Some n
  value_back (variant.Int z) n u w = ap Some (number_back (subst (λ T. Evaluates Is T n) (number_tree names z) w))
  value_back (variant.Ctx c) n u w = u n (context_back (subst (λ T. Evaluates Is T n) (context_tree names c) w))
  value_back (variant.Op' o p l k r) n u w =
      let y = operation_back (subst (λ T. Evaluates Is T n) (operation_tree names o p l k r) w) in
      (λ j. both (result_of o) (value_back l y.left u.0 y.first j) (value_back r y.right u.1 y.second j)) ∙ result_back o y.left y.right y.allowed y.range ∙ ap Some y.is

-- the value of an expression of the program is that of its tree
pub values_agree : ValuesAgree
values_agree names t given e z h =
    let alike : Uses (λ x. All (λ y. (n : ℤ) → (given y ≡ Some n) ↔ IsInteger n (t.typed_of (name_of names y))) (x ∷ [])) e = uses_known (λ x. (n : ℤ) → (given x ≡ Some n) ↔ IsInteger n (t.typed_of (name_of names x))) e h in (
      (λ q. value_into names (λ p n. IsInteger n (t.typed_of p)) given e z (uses_so (λ x a n. (a zero x (omega arith) n).0) e alike) q),
      (λ w. value_back names (λ p n. IsInteger n (t.typed_of p)) given e z (uses_so (λ x a n. (a zero x (omega arith) n).1) e alike) w),
    )
