-- The guard that the reader builds is the one that it has read.
use Rattle.std.proofs.Common.{◌≡◌, ℕ, ◌+◌, List, [], ◌∷◌, ◌++◌, sym, ◌∙◌, ap, arith, subst, refl}
use Rattle.lmn_lexer.specs.declared.token.Kind.TheVariants.{Context, LParen, RParen, Comma, Differ}
use Rattle.lmn_lexer.specs.declared.token.Token.{Token}
use Rattle.lmn_parser.specs.declared.tree.CondNode.{CondNode}
use Rattle.lmn_parser.specs.Syntax.{WrittenCondition, different, condition_of_node, conditions_of}
use Rattle.lmn_parser.specs.Trees.{At, IsContexts, last_context, more_contexts, IsContextArguments, no_contexts, some_contexts, IsCondition, is_different, IsWrittenGuard, last_condition, more_conditions}

-- contexts with commas between them

contexts_more : (ts : List Token) {xs : List ℕ} {p m : ℕ} → IsContexts ts xs p m → At ts m Comma → At ts (m + 1) Context → IsContexts ts (xs ++ (m + 1) ∷ []) p (m + 1 + 1)
contexts_more ts {p = p} (last_context a) h c =
    let P : ℕ → Type 0 = λ n. IsContexts ts ((p + 1 + 1) ∷ []) n (p + 1 + 1 + 1) in
    let e : p + 1 + 1 ≡ p + 2 = omega arith in
    more_contexts a h (subst P e (last_context c))
contexts_more ts (more_contexts a b r) h c = more_contexts a b (contexts_more ts r h c)

-- the first context is read
pub contexts_first : (ts : List Token) (xs ys : List ℕ) (p m : ℕ) → xs ≡ [] → ys ≡ xs ++ p ∷ [] → (m ≡ p + 1) × At ts p Context → IsContexts ts ys p m
contexts_first ts xs ys p m e f a =
    let P : List ℕ → Type 0 = λ zs. IsContexts ts zs p m in
    let Q : ℕ → Type 0 = λ n. IsContexts ts (p ∷ []) p n in
    subst P (sym (f ∙ ap (λ zs. zs ++ p ∷ []) e)) (subst Q (sym a.0) (last_context a.1))

-- a context behind a comma is read
pub contexts_next : (ts : List Token) (xs ys : List ℕ) (p m q : ℕ) → IsContexts ts xs p m → At ts m Comma → (q ≡ m + 1 + 1) × At ts (m + 1) Context → ys ≡ xs ++ (m + 1) ∷ [] → IsContexts ts ys p q
contexts_next ts xs ys p m q r h a e =
    let P : List ℕ → Type 0 = λ zs. IsContexts ts zs p q in
    let Q : ℕ → Type 0 = λ n. IsContexts ts (xs ++ (m + 1) ∷ []) p n in
    subst P (sym e) (subst Q (sym a.0) (contexts_more ts r h a.1))

-- a condition may have no contexts
pub no_context : (ts : List Token) (xs : List ℕ) (p : ℕ) → xs ≡ [] → IsContextArguments ts xs p p
no_context ts xs p e = let P : List ℕ → Type 0 = λ zs. IsContextArguments ts zs p p in subst P (sym e) no_contexts

-- or some in parentheses
pub contexts_closed : (ts : List Token) (xs : List ℕ) (p m q : ℕ) → At ts p LParen → IsContexts ts xs (p + 1) m → (q ≡ m + 1) × At ts m RParen → IsContextArguments ts xs p q
contexts_closed ts xs p m q a r b = let P : ℕ → Type 0 = λ n. IsContextArguments ts xs p n in subst P (sym b.0) (some_contexts a r b.1)

-- conditions with commas between them

-- two contexts with `\=` between them are a condition
pub condition_differ : (ts : List Token) (p q : ℕ) → At ts p Context → At ts (p + 1) Differ → (q ≡ p + 2 + 1) × At ts (p + 2) Context → IsCondition ts (different p (p + 2) (p + 1)) p q
condition_differ ts p q a b c =
    let P : ℕ → Type 0 = λ n. IsCondition ts (different p (p + 2) (p + 1)) p n in
    let e : p + 3 ≡ q = omega (arith, c.0) in
    subst P e (is_different a b c.1)

guard_more : (ts : List Token) {cs : List WrittenCondition} {p m : ℕ} (c : WrittenCondition) (q : ℕ) → IsWrittenGuard ts cs p m → At ts m Comma → IsCondition ts c (m + 1) q → IsWrittenGuard ts (cs ++ c ∷ []) p q
guard_more ts c q (last_condition a) h b = more_conditions a h (last_condition b)
guard_more ts c q (more_conditions a k r) h b = more_conditions a k (guard_more ts c q r h b)

conditions_last : (cs : List CondNode) (c : CondNode) → conditions_of (cs ++ c ∷ []) ≡ conditions_of cs ++ condition_of_node c ∷ []
conditions_last [] c = refl
conditions_last (d ∷ cs) c = ap (λ l. condition_of_node d ∷ l) (conditions_last cs c)

-- the first condition is read
pub guard_first : (ts : List Token) (cs ds : List CondNode) (c : CondNode) (p m : ℕ) → cs ≡ [] → ds ≡ cs ++ c ∷ [] → IsCondition ts (condition_of_node c) p m → IsWrittenGuard ts (conditions_of ds) p m
guard_first ts cs ds c p m e f a =
    let P : List CondNode → Type 0 = λ zs. IsWrittenGuard ts (conditions_of zs) p m in
    subst P (sym (f ∙ ap (λ zs. zs ++ c ∷ []) e)) (last_condition a)

-- a condition behind a comma is read
pub guard_next : (ts : List Token) (cs ds : List CondNode) (c : CondNode) (p m q : ℕ) → IsWrittenGuard ts (conditions_of cs) p m → At ts m Comma → IsCondition ts (condition_of_node c) (m + 1) q → ds ≡ cs ++ c ∷ [] →
    IsWrittenGuard ts (conditions_of ds) p q
guard_next ts cs ds c p m q r h a e =
    let P : List WrittenCondition → Type 0 = λ zs. IsWrittenGuard ts zs p q in
    subst P (sym (ap conditions_of e ∙ conditions_last cs c)) (guard_more ts (condition_of_node c) q r h a)
