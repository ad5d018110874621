-- From one place on tokens are one guard at most.
use Rattle.std.proofs.Common.{◌≡◌, ℕ, ◌+◌, Bool, true, false, List, [], ◌∷◌, refl, sym, ◌∙◌, ap, subst, ◌⊎◌, inl, inr}
use Rattle.lmn_base.specs.declared.guard.Arith.{Arith}
use Rattle.lmn_base.specs.declared.guard.Arith.TheVariants as arith
use Rattle.lmn_base.specs.declared.guard.Cmp.{Cmp}
use Rattle.lmn_base.specs.declared.guard.Cmp.TheVariants as compare
use Rattle.lmn_lexer.specs.declared.token.Kind.{Kind}
use Rattle.lmn_lexer.specs.declared.token.Kind.TheVariants.{Mod, Context, RParen, Comma, Bar, Less, LessEq, Greater, GreaterEq, NumEq, NumNe, Plus, Minus, Star, Slash}
use Rattle.lmn_lexer.specs.declared.token.Token.{Token}
use Rattle.lmn_parser.specs.Syntax.{Expr, operation, WrittenCondition, called, compared, equal}
use Rattle.lmn_parser.specs.Trees.{At, NameAt, TimesAt, PlusAt, CmpAt, IsSum, one_product, plus, IsProduct, one_factor, times, IsFactor, is_integer, is_value, in_parentheses, IsContexts, last_context, more_contexts, IsContextArguments, no_contexts, some_contexts, IsCondition, is_called, is_compared, is_equal, is_different, IsWrittenGuard, last_condition, more_conditions}
use Rattle.lmn_parser.proofs.TreeTokens.{one_kind, apart, Follow, follows, no_follow, weaken, no_name}
use Rattle.lmn_base.proofs.Truth.{false_not_true as clash}

-- ---- operators

-- the kind of an operator's token
abbrev sign : Arith → Kind
sign arith.Add = Plus
sign arith.Sub = Minus
sign arith.Mul = Star
sign arith.Div = Slash
sign arith.Mod = Mod

abbrev of_sign : Kind → Arith
of_sign Minus = arith.Sub
of_sign Star = arith.Mul
of_sign Slash = arith.Div
of_sign Mod = arith.Mod
of_sign _ = arith.Add

sign_back : (op : Arith) → of_sign (sign op) ≡ op
sign_back arith.Add = refl
sign_back arith.Sub = refl
sign_back arith.Mul = refl
sign_back arith.Div = refl
sign_back arith.Mod = refl

times_at : (ts : List Token) (p : ℕ) (op : Arith) → TimesAt ts p op → At ts p (sign op)
times_at ts p arith.Mul h = h
times_at ts p arith.Div h = h
times_at ts p arith.Mod h = h
times_at ts p arith.Add h = absurd h
times_at ts p arith.Sub h = absurd h

plus_at : (ts : List Token) (p : ℕ) (op : Arith) → PlusAt ts p op → At ts p (sign op)
plus_at ts p arith.Add h = h
plus_at ts p arith.Sub h = h
plus_at ts p arith.Mul h = absurd h
plus_at ts p arith.Div h = absurd h
plus_at ts p arith.Mod h = absurd h

one_sign : (ts : List Token) (p : ℕ) (a b : Arith) → At ts p (sign a) → At ts p (sign b) → a ≡ b
one_sign ts p a b h g = sym (sign_back a) ∙ ap of_sign (one_kind ts p h g) ∙ sign_back b

-- what may stand behind a product, and behind a sum
abbrev after_product : Kind → Bool
after_product Star = false
after_product Slash = false
after_product Mod = false
after_product _ = true

abbrev after_sum : Kind → Bool
after_sum Star = false
after_sum Slash = false
after_sum Mod = false
after_sum Plus = false
after_sum Minus = false
after_sum _ = true

sum_product : (k : Kind) → after_sum k ≡ true → after_product k ≡ true
sum_product Star h = absurd (clash h)
sum_product Slash h = absurd (clash h)
sum_product Mod h = absurd (clash h)
sum_product _ h = refl

no_times : (ts : List Token) (p : ℕ) (op : Arith) → TimesAt ts p op → Follow ts after_product p → ⊥
no_times ts p arith.Mul h F = no_follow ts after_product p F h refl
no_times ts p arith.Div h F = no_follow ts after_product p F h refl
no_times ts p arith.Mod h F = no_follow ts after_product p F h refl
no_times ts p arith.Add h F = h
no_times ts p arith.Sub h F = h

no_plus : (ts : List Token) (p : ℕ) (op : Arith) → PlusAt ts p op → Follow ts after_sum p → ⊥
no_plus ts p arith.Add h F = no_follow ts after_sum p F h refl
no_plus ts p arith.Sub h F = no_follow ts after_sum p F h refl
no_plus ts p arith.Mul h F = h
no_plus ts p arith.Div h F = h
no_plus ts p arith.Mod h F = h

plus_ends_product : (ts : List Token) (p : ℕ) (op : Arith) → PlusAt ts p op → Follow ts after_product p
plus_ends_product ts p arith.Add h = follows ts after_product p h refl
plus_ends_product ts p arith.Sub h = follows ts after_product p h refl
plus_ends_product ts p arith.Mul h = absurd h
plus_ends_product ts p arith.Div h = absurd h
plus_ends_product ts p arith.Mod h = absurd h

-- ---- operands and operators from the left

-- Behind the operand e, from q on, operators and operands up to r make it f.
data Onward (Operator : ℕ → Arith → Type 0) (Operand : Expr → ℕ → ℕ → Type 0) : Expr → ℕ → Expr → ℕ → Type 0 where
  no_further : {e : Expr} {q : ℕ} → Onward Operator Operand e q e q
  further : {e x f : Expr} {q n r : ℕ} (op : Arith) → Operator q op → Operand x (q + 1) n → Onward Operator Operand (operation op e x) n f r → Onward Operator Operand e q f r

onward_more : {O : ℕ → Arith → Type 0} {X : Expr → ℕ → ℕ → Type 0} {e f x : Expr} {q r s : ℕ} (op : Arith) → Onward O X e q f r → O r op → X x (r + 1) s → Onward O X e q (operation op f x) s
onward_more op no_further h x = further op h x no_further
onward_more op (further o g y d) h x = further o g y (onward_more op d h x)

-- an operand and what is onward from it
abbrev From : (ℕ → Arith → Type 0) → (Expr → ℕ → ℕ → Type 0) → ℕ → Expr → ℕ → Type 0
From O X p f r = (x : Expr) × (n : ℕ) × X x p n × Onward O X x n f r

sum_from : (ts : List Token) {f : Expr} {p r : ℕ} → IsSum ts f p r → From (PlusAt ts) (IsProduct ts) p f r
sum_from ts {f} {p} {r} (one_product d) = (f, r, d, no_further)
sum_from ts (plus op a h b) = let d = sum_from ts a in (d.0, d.1, d.2, onward_more op d.3 h b)

product_from : (ts : List Token) {f : Expr} {p r : ℕ} → IsProduct ts f p r → From (TimesAt ts) (IsFactor ts) p f r
product_from ts {f} {p} {r} (one_factor d) = (f, r, d, no_further)
product_from ts (times op a h b) = let d = product_from ts a in (d.0, d.1, d.2, onward_more op d.3 h b)

product_end : (ts : List Token) {e f : Expr} {q r : ℕ} → Onward (PlusAt ts) (IsProduct ts) e q f r → Follow ts after_product r → Follow ts after_product q
product_end ts no_further F = F
product_end ts (further op h x d) F = plus_ends_product ts _ op h

-- Where one goes from an operand to e, and another to f, the second goes on from e, or an operator stands behind f.
abbrev Either : (ℕ → Arith → Type 0) → (Expr → ℕ → ℕ → Type 0) → Expr → ℕ → Expr → ℕ → Type 0
Either O X e q f r = Onward O X e q f r ⊎ ((op : Arith) × O r op)

whole : {O : ℕ → Arith → Type 0} {X : Expr → ℕ → ℕ → Type 0} {e f : Expr} {q r : ℕ} → ((op : Arith) → O q op → ⊥) → ((op : Arith) → O r op → ⊥) → Either O X e q f r → (e ≡ f) × (q ≡ r)
whole a b (inl no_further) = (refl, refl)
whole a b (inl (further op h x d)) = absurd (a op h)
whole a b (inr o) = absurd (b o.0 o.1)

-- on over one operator and operand more
step : {O : ℕ → Arith → Type 0} {X : Expr → ℕ → ℕ → Type 0} {e f x : Expr} {m q r : ℕ} (op : Arith) → O m op →
    ((a b : Arith) → O m a → O m b → a ≡ b) → ((y : Expr) (n : ℕ) → X y (m + 1) n → Onward O X (operation op e y) n f r → (x ≡ y) × (q ≡ n)) →
    Either O X e m f r → Either O X (operation op e x) q f r
step op h one same (inr o) = inr o
step op h one same (inl no_further) = inr (op, h)
step {O} {X} {e} {f} {x} {m} {q} {r} op h one same (inl (further {x = y} {n = n} o g b d)) =
    let P : Arith → Type 0 = λ a. Onward O X (operation a e y) n f r in
    let d' : Onward O X (operation op e y) n f r = subst P (one o op g h) d in
    let s = same y n b d' in
    let Q : Expr → Type 0 = λ z. Onward O X (operation op e z) n f r in
    let R : ℕ → Type 0 = λ i. Onward O X (operation op e x) i f r in
    inl (subst R (sym s.1) (subst Q (sym s.0) d'))

start : {O : ℕ → Arith → Type 0} {X : Expr → ℕ → ℕ → Type 0} {e x f : Expr} {q n r : ℕ} → Onward O X x n f r → (e ≡ x) × (q ≡ n) → Either O X e q f r
start {O} {X} {e} {x} {f} {q} {n} {r} d s =
    let Q : Expr → Type 0 = λ z. Onward O X z n f r in
    let R : ℕ → Type 0 = λ i. Onward O X e i f r in
    inl (subst R (sym s.1) (subst Q (sym s.0) d))

whole_product : (ts : List Token) {e f : Expr} {q r : ℕ} → Follow ts after_product q → Follow ts after_product r → Either (TimesAt ts) (IsFactor ts) e q f r → (e ≡ f) × (q ≡ r)
whole_product ts F G = whole (λ op h. no_times ts _ op h F) (λ op h. no_times ts _ op h G)

whole_sum : (ts : List Token) {e f : Expr} {q r : ℕ} → Follow ts after_sum q → Follow ts after_sum r → Either (PlusAt ts) (IsProduct ts) e q f r → (e ≡ f) × (q ≡ r)
whole_sum ts F G = whole (λ op h. no_plus ts _ op h F) (λ op h. no_plus ts _ op h G)

one_times : (ts : List Token) (m : ℕ) (a b : Arith) → TimesAt ts m a → TimesAt ts m b → a ≡ b
one_times ts m a b h g = one_sign ts m a b (times_at ts m a h) (times_at ts m b g)

one_plus : (ts : List Token) (m : ℕ) (a b : Arith) → PlusAt ts m a → PlusAt ts m b → a ≡ b
one_plus ts m a b h g = one_sign ts m a b (plus_at ts m a h) (plus_at ts m b g)

mutual
  sum_either : (ts : List Token) {e f : Expr} {p q r : ℕ} → IsSum ts e p q → IsSum ts f p r → Follow ts after_product q → Follow ts after_product r → Either (PlusAt ts) (IsProduct ts) e q f r
  sum_either ts (one_product d) s F G = let b = sum_from ts s in start b.3 (whole_product ts F (product_end ts b.3 G) (product_either ts d b.2))
  sum_either ts (plus op a h x) s F G =
      step op h (one_plus ts _) (λ y n b d. whole_product ts F (product_end ts d G) (product_either ts x b)) (sum_either ts a s (plus_ends_product ts _ op h) G)

  product_either : (ts : List Token) {e f : Expr} {p q r : ℕ} → IsProduct ts e p q → IsProduct ts f p r → Either (TimesAt ts) (IsFactor ts) e q f r
  product_either ts (one_factor d) s = let b = product_from ts s in start b.3 (one_factor_each ts d b.2)
  product_either ts (times op a h x) s = step op h (one_times ts _) (λ y n b d. one_factor_each ts x b) (product_either ts a s)

  one_factor_each : (ts : List Token) {e f : Expr} {p q r : ℕ} → IsFactor ts e p q → IsFactor ts f p r → (e ≡ f) × (q ≡ r)
  one_factor_each ts (is_integer h) (is_integer g) = (refl, refl)
  one_factor_each ts (is_integer h) (is_value g) = absurd (apart ts _ h g refl)
  one_factor_each ts (is_integer h) (in_parentheses o s c) = absurd (apart ts _ h o refl)
  one_factor_each ts (is_value h) (is_integer g) = absurd (apart ts _ h g refl)
  one_factor_each ts (is_value h) (is_value g) = (refl, refl)
  one_factor_each ts (is_value h) (in_parentheses o s c) = absurd (apart ts _ h o refl)
  one_factor_each ts (in_parentheses o d c) (is_integer h) = absurd (apart ts _ o h refl)
  one_factor_each ts (in_parentheses o d c) (is_value h) = absurd (apart ts _ o h refl)
  one_factor_each ts (in_parentheses o d c) (in_parentheses o' s c') =
      let e = whole_sum ts (follows ts after_sum _ c refl) (follows ts after_sum _ c' refl) (sum_either ts d s (follows ts after_product _ c refl) (follows ts after_product _ c' refl)) in
      (e.0, ap (λ n. n + 1) e.1)

one_sum : (ts : List Token) {e f : Expr} {p q r : ℕ} → IsSum ts e p q → IsSum ts f p r → Follow ts after_sum q → Follow ts after_sum r → (e ≡ f) × (q ≡ r)
one_sum ts d s F G = whole_sum ts F G (sum_either ts d s (weaken ts after_sum after_product _ sum_product F) (weaken ts after_sum after_product _ sum_product G))

-- ---- conditions

-- a sum that begins with a context behind which no operator stands is this context
factor_context : (ts : List Token) {e : Expr} {p q : ℕ} → IsFactor ts e p q → At ts p Context → q ≡ p + 1
factor_context ts (is_integer h) c = absurd (apart ts _ h c refl)
factor_context ts (is_value h) c = refl
factor_context ts (in_parentheses o d e) c = absurd (apart ts _ o c refl)

product_context : (ts : List Token) {e : Expr} {p q : ℕ} → IsProduct ts e p q → At ts p Context → Follow ts after_sum (p + 1) → q ≡ p + 1
product_context ts (one_factor d) c F = factor_context ts d c
product_context ts {p = p} (times op a h x) c F =
    absurd (no_times ts (p + 1) op (subst (λ m. TimesAt ts m op) (product_context ts a c F) h) (weaken ts after_sum after_product _ sum_product F))

sum_context : (ts : List Token) {e : Expr} {p q : ℕ} → IsSum ts e p q → At ts p Context → Follow ts after_sum (p + 1) → q ≡ p + 1
sum_context ts (one_product d) c F = product_context ts d c F
sum_context ts {p = p} (plus op a h x) c F = absurd (no_plus ts (p + 1) op (subst (λ m. PlusAt ts m op) (sum_context ts a c F) h) F)

factor_no_name : (ts : List Token) {e : Expr} {p q : ℕ} → IsFactor ts e p q → NameAt ts p → ⊥
factor_no_name ts (is_integer h) (inl n) = apart ts _ h n refl
factor_no_name ts (is_integer h) (inr (inl n)) = apart ts _ h n refl
factor_no_name ts (is_integer h) (inr (inr n)) = apart ts _ h n refl
factor_no_name ts (is_value h) n = no_name ts _ n h refl
factor_no_name ts (in_parentheses o d e) n = no_name ts _ n o refl

product_no_name : (ts : List Token) {e : Expr} {p q : ℕ} → IsProduct ts e p q → NameAt ts p → ⊥
product_no_name ts (one_factor d) n = factor_no_name ts d n
product_no_name ts (times op a h x) n = product_no_name ts a n

sum_no_name : (ts : List Token) {e : Expr} {p q : ℕ} → IsSum ts e p q → NameAt ts p → ⊥
sum_no_name ts (one_product d) n = product_no_name ts d n
sum_no_name ts (plus op a h x) n = sum_no_name ts a n

one_cmp : (ts : List Token) (p : ℕ) (a b : Cmp) → CmpAt ts p a → CmpAt ts p b → a ≡ b
one_cmp ts p compare.Lt compare.Lt h g = refl
one_cmp ts p compare.Le compare.Le h g = refl
one_cmp ts p compare.Gt compare.Gt h g = refl
one_cmp ts p compare.Ge compare.Ge h g = refl
one_cmp ts p compare.Eq compare.Eq h g = refl
one_cmp ts p compare.Ne compare.Ne h g = refl
one_cmp ts p _ _ h g = absurd (apart ts p h g refl)

abbrev is_cmp : Kind → Bool
is_cmp Less = true
is_cmp LessEq = true
is_cmp Greater = true
is_cmp GreaterEq = true
is_cmp NumEq = true
is_cmp NumNe = true
is_cmp _ = false

cmp_sum : (k : Kind) → is_cmp k ≡ true → after_sum k ≡ true
cmp_sum Star h = absurd (clash h)
cmp_sum Slash h = absurd (clash h)
cmp_sum Mod h = absurd (clash h)
cmp_sum Plus h = absurd (clash h)
cmp_sum Minus h = absurd (clash h)
cmp_sum _ h = refl

cmp_at : (ts : List Token) (p : ℕ) (op : Cmp) → CmpAt ts p op → Follow ts is_cmp p
cmp_at ts p compare.Lt h = follows ts is_cmp p h refl
cmp_at ts p compare.Le h = follows ts is_cmp p h refl
cmp_at ts p compare.Gt h = follows ts is_cmp p h refl
cmp_at ts p compare.Ge h = follows ts is_cmp p h refl
cmp_at ts p compare.Eq h = follows ts is_cmp p h refl
cmp_at ts p compare.Ne h = follows ts is_cmp p h refl

cmp_follows : (ts : List Token) (p : ℕ) (op : Cmp) → CmpAt ts p op → Follow ts after_sum p
cmp_follows ts p op h = weaken ts is_cmp after_sum p cmp_sum (cmp_at ts p op h)

-- a comparison that begins with a context has no other sign behind it
no_sign : (ts : List Token) {l : Expr} {p m : ℕ} {k : Kind} (op : Cmp) → IsSum ts l p m → CmpAt ts m op → At ts p Context → At ts (p + 1) k → after_sum k ≡ true → is_cmp k ≡ false → ⊥
no_sign ts {p = p} op a h g e s c =
    no_follow ts is_cmp (p + 1) (cmp_at ts (p + 1) op (subst (λ n. CmpAt ts n op) (sum_context ts a g (follows ts after_sum (p + 1) e s)) h)) e c

one_contexts : (ts : List Token) {xs ys : List ℕ} {p q r : ℕ} → IsContexts ts xs p q → IsContexts ts ys p r → At ts q RParen → At ts r RParen → (xs ≡ ys) × (q ≡ r)
one_contexts ts (last_context h) (last_context g) c d = (refl, refl)
one_contexts ts (last_context h) (more_contexts g e s) c d = absurd (apart ts _ c e refl)
one_contexts ts (more_contexts h e s) (last_context g) c d = absurd (apart ts _ d e refl)
one_contexts ts {p = p} (more_contexts h e s) (more_contexts g e' s') c d = let x = one_contexts ts s s' c d in (ap (λ l. p ∷ l) x.0, x.1)

-- behind a condition
abbrev pub after_condition : Kind → Bool
after_condition Comma = true
after_condition Bar = true
after_condition _ = false

condition_sum : (k : Kind) → after_condition k ≡ true → after_sum k ≡ true
condition_sum Comma h = refl
condition_sum Bar h = refl
condition_sum _ h = absurd (clash h)

one_context_arguments : (ts : List Token) {xs ys : List ℕ} {p q r : ℕ} → IsContextArguments ts xs p q → IsContextArguments ts ys p r → Follow ts after_condition q → Follow ts after_condition r → (xs ≡ ys) × (q ≡ r)
one_context_arguments ts no_contexts no_contexts F G = (refl, refl)
one_context_arguments ts no_contexts (some_contexts o s c) F G = absurd (no_follow ts after_condition _ F o refl)
one_context_arguments ts (some_contexts o s c) no_contexts F G = absurd (no_follow ts after_condition _ G o refl)
one_context_arguments ts (some_contexts o s c) (some_contexts o' s' c') F G = let x = one_contexts ts s s' c c' in (x.0, ap (λ n. n + 1) x.1)

-- tokens are one condition at most
pub one_condition : (ts : List Token) {x y : WrittenCondition} {p q r : ℕ} → IsCondition ts x p q → IsCondition ts y p r → Follow ts after_condition q → Follow ts after_condition r → (x ≡ y) × (q ≡ r)
one_condition ts {p = p} (is_called n a) (is_called n' b) F G = let x = one_context_arguments ts a b F G in (ap (called p) x.0, x.1)
one_condition ts (is_called n a) (is_compared op b h c) F G = absurd (sum_no_name ts b n)
one_condition ts (is_called n a) (is_equal h e b) F G = absurd (no_name ts _ n h refl)
one_condition ts (is_called n a) (is_different h e b) F G = absurd (no_name ts _ n h refl)
one_condition ts (is_compared op a h b) (is_called n c) F G = absurd (sum_no_name ts a n)
one_condition ts (is_compared {l = l} {r = s} {m = m} {q = q} op a h b) (is_compared {l = l'} {r = s'} {m = m'} {q = r} op' a' h' b') F G =
    let x = one_sum ts a a' (cmp_follows ts _ op h) (cmp_follows ts _ op' h') in
    let o = one_cmp ts m op op' h (subst (λ n. CmpAt ts n op') (sym x.1) h') in
    let y = one_sum ts b (subst (λ n. IsSum ts s' (n + 1) r) (sym x.1) b') (weaken ts after_condition after_sum _ condition_sum F) (weaken ts after_condition after_sum _ condition_sum G) in
    (same_compared op op' l l' s s' m m' o x.0 y.0 x.1, y.1)
  where
    same_compared : (a b : Cmp) (c d e f : Expr) (i j : ℕ) → a ≡ b → c ≡ d → e ≡ f → i ≡ j → compared a c e i ≡ compared b d f j
    same_compared a b c d e f i j h g k l = cc
one_condition ts (is_compared op a h b) (is_equal g e c) F G = absurd (no_sign ts op a h g e refl refl)
one_condition ts (is_compared op a h b) (is_different g e c) F G = absurd (no_sign ts op a h g e refl refl)
one_condition ts (is_equal h e a) (is_called n b) F G = absurd (no_name ts _ n h refl)
one_condition ts (is_equal g e c) (is_compared op a h b) F G = absurd (no_sign ts op a h g e refl refl)
one_condition ts {p = p} (is_equal h e a) (is_equal h' e' b) F G =
    let x = one_sum ts a b (weaken ts after_condition after_sum _ condition_sum F) (weaken ts after_condition after_sum _ condition_sum G) in (ap (λ z. equal p z (p + 1)) x.0, x.1)
one_condition ts (is_equal h e a) (is_different h' e' b) F G = absurd (apart ts _ e e' refl)
one_condition ts (is_different h e a) (is_called n b) F G = absurd (no_name ts _ n h refl)
one_condition ts (is_different g e c) (is_compared op a h b) F G = absurd (no_sign ts op a h g e refl refl)
one_condition ts (is_different h e a) (is_equal h' e' b) F G = absurd (apart ts _ e e' refl)
one_condition ts (is_different h e a) (is_different h' e' b) F G = (refl, refl)

-- and one guard before a bar
pub one_guard : (ts : List Token) {xs ys : List WrittenCondition} {p q r : ℕ} → IsWrittenGuard ts xs p q → IsWrittenGuard ts ys p r → At ts q Bar → At ts r Bar → (xs ≡ ys) × (q ≡ r)
one_guard ts (last_condition d) (last_condition e) h g = let x = one_condition ts d e (follows ts after_condition _ h refl) (follows ts after_condition _ g refl) in (ap (λ z. z ∷ []) x.0, x.1)
one_guard ts (last_condition d) (more_conditions e c s) h g =
    let x = one_condition ts d e (follows ts after_condition _ h refl) (follows ts after_condition _ c refl) in absurd (apart ts _ (subst (λ n. At ts n Bar) x.1 h) c refl)
one_guard ts (more_conditions d c s) (last_condition e) h g =
    let x = one_condition ts d e (follows ts after_condition _ c refl) (follows ts after_condition _ g refl) in absurd (apart ts _ (subst (λ n. At ts n Comma) x.1 c) g refl)
one_guard ts (more_conditions {c = a} {cs = xs} d c s) (more_conditions {c = b} {cs = ys} {q = r} e c' s') h g =
    let x = one_condition ts d e (follows ts after_condition _ c refl) (follows ts after_condition _ c' refl) in
    let y = one_guard ts s (subst (λ n. IsWrittenGuard ts ys (n + 1) r) (sym x.1) s') h g in
    (same_cons a b xs ys x.0 y.0, y.1)
  where
    same_cons : (a b : WrittenCondition) (xs ys : List WrittenCondition) → a ≡ b → xs ≡ ys → a ∷ xs ≡ b ∷ ys
    same_cons a b xs ys h g = cc

condition_no_bar : (ts : List Token) {x : WrittenCondition} {p q : ℕ} → IsCondition ts x p q → At ts p Bar → ⊥
condition_no_bar ts (is_called n a) h = no_name ts _ n h refl
condition_no_bar ts (is_compared op a g b) h = sum_no_bar ts a h
  where
    factor_no_bar : (ts : List Token) {e : Expr} {p q : ℕ} → IsFactor ts e p q → At ts p Bar → ⊥
    factor_no_bar ts (is_integer g) h = apart ts _ g h refl
    factor_no_bar ts (is_value g) h = apart ts _ g h refl
    factor_no_bar ts (in_parentheses o d c) h = apart ts _ o h refl

    product_no_bar : (ts : List Token) {e : Expr} {p q : ℕ} → IsProduct ts e p q → At ts p Bar → ⊥
    product_no_bar ts (one_factor d) h = factor_no_bar ts d h
    product_no_bar ts (times op a g x) h = product_no_bar ts a h

    sum_no_bar : (ts : List Token) {e : Expr} {p q : ℕ} → IsSum ts e p q → At ts p Bar → ⊥
    sum_no_bar ts (one_product d) h = product_no_bar ts d h
    sum_no_bar ts (plus op a g x) h = sum_no_bar ts a h
condition_no_bar ts (is_equal g e a) h = apart ts _ g h refl
condition_no_bar ts (is_different g e a) h = apart ts _ g h refl

-- a guard doesn't begin with a bar
pub no_bar : (ts : List Token) {xs : List WrittenCondition} {p q : ℕ} → IsWrittenGuard ts xs p q → At ts p Bar → ⊥
no_bar ts (last_condition d) h = condition_no_bar ts d h
no_bar ts (more_conditions d c s) h = condition_no_bar ts d h
