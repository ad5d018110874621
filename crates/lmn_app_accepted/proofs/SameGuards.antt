-- A guard with the numbers of two lists of names is one guard of names.
use Rattle.std.proofs.Common.{◌≡◌, ℕ, ◌<◌, Bool, if◌then◌else◌, List, [], ◌∷◌, length, map, refl, sym, ap, ◌∙◌, subst}
use Rattle.std.specs.List.{flat_map, AllZip}
use Rattle.lmn_base.specs.declared.refusal.Pos.{Pos}
use Rattle.lmn_base.specs.declared.guard.Cond.{Cond}
use Rattle.lmn_base.specs.declared.guard.Expr.{Expr}
use Rattle.lmn_base.specs.declared.guard.Expr.TheFolds.{fold-roll-Expr}
use Rattle.lmn_base.specs.declared.guard.Expr.TheOpen as step
use Rattle.lmn_base.specs.Names as base
use Rattle.lmn_base.specs.Names.{IsNames, context_names, expression_names, condition_names}
use Rattle.lmn_congruence.specs.Rules as tree
use Rattle.lmn_congruence.specs.Translation.{name_of, names_of, expression_step, expression_of, kind_of, condition_of}
use Rattle.lmn_lexer.specs.Laying.{Word}
use Rattle.lmn_parser.specs.Syntax as syntax
use Rattle.lmn_flatten_plain.specs.Meanings.{name_at}
use Rattle.lmn_flatten_plain.specs.Plains.{number_of, context_use, IsExpr, IsCond}
use Rattle.lmn_app_accepted.proofs.NumbersBack.{Numbered, name_same, int_same, unary_same, ground_same}
use Rattle.lmn_app_reading.proofs.NamedPlains.{AllBelow}
use Rattle.lmn_base.proofs.Lists.{all_left as all_front, all_right as all_back}

-- a condition with one context, where it is known which of the fixed names it has
abbrev kind_tree : tree.Name → tree.Name → Bool → Bool → Bool → tree.Condition
kind_tree m n int unary grounded =
    if int then tree.is_kind tree.int n else if unary then tree.is_kind tree.unary n else if grounded then tree.is_kind tree.grounded n else tree.unknown m (n ∷ [])

module _ (words : List Word) (places : List Pos) (names others : List tree.Name) (is : IsNames names) (are : IsNames others) where
  token_same : (p : ℕ) → Numbered names (name_at words places p) → Numbered others (name_at words places p)
      → name_of names (number_of names (name_at words places p)) ≡ name_of others (number_of others (name_at words places p))
  token_same p h k = name_same names others is are (name_at words places p) h k

  expression_same : (x : syntax.Expr) (a b : Expr) → IsExpr words places names x a → IsExpr words places others x b → AllBelow names (expression_names a)
      → AllBelow others (expression_names b) → expression_of names a ≡ expression_of others b
  expression_same (syntax.integer p) a b h g u v =
      ap (expression_of names) h ∙ fold-roll-Expr tree.Expression (expression_step names) _ ∙ sym (fold-roll-Expr tree.Expression (expression_step others) _)
      ∙ sym (ap (expression_of others) g)
  expression_same (syntax.value p) a b h g u v =
      let here = subst (AllBelow names) (ap expression_names h ∙ fold-roll-Expr (List ℕ) base.expression_names_step _) u in
      let there = subst (AllBelow others) (ap expression_names g ∙ fold-roll-Expr (List ℕ) base.expression_names_step _) v in
      ap (expression_of names) h ∙ fold-roll-Expr tree.Expression (expression_step names) _ ∙ ap tree.value_of (token_same p here.0 there.0)
      ∙ sym (fold-roll-Expr tree.Expression (expression_step others) _) ∙ sym (ap (expression_of others) g)
  expression_same (syntax.operation op l r) a b (la, ra, h, hl, hr) (lb, rb, g, gl, gr) u v =
      let here = subst (AllBelow names) (ap expression_names h ∙ fold-roll-Expr (List ℕ) base.expression_names_step (step.Op op la ra)) u in
      let there = subst (AllBelow others) (ap expression_names g ∙ fold-roll-Expr (List ℕ) base.expression_names_step (step.Op op lb rb)) v in
      let P : ℕ → Type 0 = λ n. n < length names in
      let Q : ℕ → Type 0 = λ n. n < length others in
      let left = expression_same l la.value lb.value hl gl (all_front P (expression_names la.value) (expression_names ra.value) here)
      (all_front Q (expression_names lb.value) (expression_names rb.value) there) in
      let right = expression_same r ra.value rb.value hr gr (all_back P (expression_names la.value) (expression_names ra.value) here)
      (all_back Q (expression_names lb.value) (expression_names rb.value) there) in
      ap (expression_of names) h ∙ fold-roll-Expr tree.Expression (expression_step names) (step.Op op la ra)
      ∙ (λ i. tree.operation op (left i) (right i))
      ∙ sym (fold-roll-Expr tree.Expression (expression_step others) (step.Op op lb rb)) ∙ sym (ap (expression_of others) g)

  arguments_same : (ps : List ℕ) → AllBelow names (context_names (map (context_use words places names) ps)) → AllBelow others (context_names (map (context_use words places others) ps))
      → names_of names (map (context_use words places names) ps) ≡ names_of others (map (context_use words places others) ps)
  arguments_same [] u v = refl
  arguments_same (p ∷ ps) u v = let first = token_same p u.0 v.0 in let more = arguments_same ps u.1 v.1 in λ i. first i ∷ more i

  kind_same : (n : tree.Name) (ps : List ℕ) → Numbered names n → Numbered others n → AllBelow names (context_names (map (context_use words places names) ps))
      → AllBelow others (context_names (map (context_use words places others) ps))
      → kind_of names (number_of names n) (map (context_use words places names) ps) ≡ kind_of others (number_of others n) (map (context_use words places others) ps)
  kind_same n [] h k u v = ap (λ m. tree.unknown m []) (name_same names others is are n h k)
  kind_same n (p ∷ []) h k u v =
      let name = name_same names others is are n h k in
      let argument = token_same p u.0 v.0 in
      let int = int_same names others is are n h k in
      let unary = unary_same names others is are n h k in
      let grounded = ground_same names others is are n h k in
      λ i. kind_tree (name i) (argument i) (int i) (unary i) (grounded i)
  kind_same n (p ∷ q ∷ ps) h k u v =
      let name = name_same names others is are n h k in let arguments = arguments_same (p ∷ q ∷ ps) u v in λ i. tree.unknown (name i) (arguments i)

  condition_same : (x : syntax.WrittenCondition) (a b : Cond) → IsCond words places names x a → IsCond words places others x b → AllBelow names (condition_names a)
      → AllBelow others (condition_names b) → condition_of names a ≡ condition_of others b
  condition_same (syntax.called p ps) a b h g u v =
      let here = subst (λ c. AllBelow names (condition_names c)) h u in
      let there = subst (λ c. AllBelow others (condition_names c)) g v in
      ap (condition_of names) h ∙ kind_same (name_at words places p) ps here.0 there.0 here.1 there.1 ∙ sym (ap (condition_of others) g)
  condition_same (syntax.compared op l r s) a b (la, ra, h, hl, hr) (lb, rb, g, gl, gr) u v =
      let here = subst (λ c. AllBelow names (condition_names c)) h u in
      let there = subst (λ c. AllBelow others (condition_names c)) g v in
      let P : ℕ → Type 0 = λ n. n < length names in
      let Q : ℕ → Type 0 = λ n. n < length others in
      let left = expression_same l la lb hl gl (all_front P (expression_names la) (expression_names ra) here) (all_front Q (expression_names lb) (expression_names rb) there) in
      let right = expression_same r ra rb hr gr (all_back P (expression_names la) (expression_names ra) here) (all_back Q (expression_names lb) (expression_names rb) there) in
      ap (condition_of names) h ∙ (λ i. tree.compares op (left i) (right i)) ∙ sym (ap (condition_of others) g)
  condition_same (syntax.equal p r s) a b (ra, h, hr) (rb, g, gr) u v =
      let here = subst (λ c. AllBelow names (condition_names c)) h u in
      let there = subst (λ c. AllBelow others (condition_names c)) g v in
      let left = token_same p here.0 there.0 in
      let right = expression_same r ra rb hr gr here.1 there.1 in
      ap (condition_of names) h ∙ (λ i. tree.equates (left i) (right i)) ∙ sym (ap (condition_of others) g)
  condition_same (syntax.different p q s) a b h g u v =
      let here = subst (λ c. AllBelow names (condition_names c)) h u in
      let there = subst (λ c. AllBelow others (condition_names c)) g v in
      let left = token_same p here.0 there.0 in
      let more = here.1 in
      let behind = there.1 in
      let right = token_same q more.0 behind.0 in
      ap (condition_of names) h ∙ (λ i. tree.differs (left i) (right i)) ∙ sym (ap (condition_of others) g)

  pub guard_same : (xs : List syntax.WrittenCondition) (as_ bs : List Cond) → AllZip (IsCond words places names) xs as_ → AllZip (IsCond words places others) xs bs
      → AllBelow names (flat_map condition_names as_) → AllBelow others (flat_map condition_names bs) → map (condition_of names) as_ ≡ map (condition_of others) bs
  guard_same [] [] [] h g u v = refl
  guard_same [] [] (b ∷ bs) h g u v = absurd g
  guard_same [] (a ∷ ms) bs h g u v = absurd h
  guard_same (x ∷ xs) [] bs h g u v = absurd h
  guard_same (x ∷ xs) (a ∷ ms) [] h g u v = absurd g
  guard_same (x ∷ xs) (a ∷ ms) (b ∷ bs) h g u v =
      let P : ℕ → Type 0 = λ n. n < length names in
      let Q : ℕ → Type 0 = λ n. n < length others in
      let first = condition_same x a b h.0 g.0 (all_front P (condition_names a) (flat_map condition_names ms) u) (all_front Q (condition_names b) (flat_map condition_names bs) v) in
      let more = guard_same xs ms bs h.1 g.1 (all_back P (condition_names a) (flat_map condition_names ms) u) (all_back Q (condition_names b) (flat_map condition_names bs) v) in
      λ i. first i ∷ more i
