-- Rules that are the same but for the addresses of boxes in conditions: what is asked of them is the same.
use Rattle.std.proofs.Common.{◌≡◌, ℕ, zero, suc, ◌+◌, ◌-◌, Bool, ◌||◌, ◌&&◌, not, nat_lt, List, [], ◌∷◌, ◌++◌, map, length, sum_by, slice_get, slice_index_or, option_map, option_to_list, Some, None, is_some, if◌then◌else◌, refl, sym, ap, ◌∙◌}
use Rattle.std.specs.List.{flat_map, list_any, AllZip}
use Rattle.std.proofs.lemmas.List.Sums.{sum_by-cons}
use Rattle.lmn_base.specs.declared.guard.Cond.{Cond}
use Rattle.lmn_base.specs.declared.guard.Cond.TheVariants as condition
use Rattle.lmn_base.specs.declared.guard.Expr.{Expr}
use Rattle.lmn_base.specs.declared.guard.Expr.TheFolds.{fold-roll-Expr}
use Rattle.lmn_base.specs.declared.guard.Expr.TheOpen as step
use Rattle.lmn_base.specs.declared.guard.Expr.TheVariants as expr
use Rattle.lmn_base.specs.declared.item.Form.TheVariants as form
use Rattle.lmn_base.specs.declared.item.Item.{Item}
use Rattle.lmn_base.specs.declared.item.Item.TheVariants as item
use Rattle.lmn_base.specs.declared.level.Leaf.{Leaf}
use Rattle.lmn_base.specs.declared.level.Leaf.TheVariants as leaf
use Rattle.lmn_base.specs.declared.level.Level.{Level}
use Rattle.lmn_base.specs.declared.rule.Plain.{Plain}
use Rattle.lmn_base.specs.declared.rule.RuleTree.{RuleTree}
use Rattle.lmn_base.specs.Items.{used, items_of, expression_items, expression_items_step, condition_items, rule_items, number_of_items}
use Rattle.lmn_base.specs.Levels.{leaves_of}
use Rattle.lmn_base.specs.Limits.{most_head_items, most_body_items, most_conditions, most_guard_tokens}
use Rattle.lmn_base.specs.Names as names
use Rattle.lmn_base.specs.Names.{expression_names, condition_names, level_names, rule_names, plain_names}
use Rattle.lmn_base_walks.specs.RuleCodes.{expression_tokens, condition_tokens, inner_rule, is_left_of, from_nowhere, in_other_form, empty_head, connector_in_head, context_at_top, rule_context_at_top, two_in_membrane, twice_in_head, not_once_in_body, rule_rows}
use Rattle.lmn_base.specs.Uses.{has_use}
use Rattle.lmn_congruence.specs.Rules as tree
use Rattle.lmn_congruence.specs.Translation as translated
use Rattle.lmn_congruence.specs.Translation.{level_of, name_of, expression_of, condition_of, rules_from, no_such_rule, top_of}
use Rattle.lmn_guards.specs.declared.plan.GuardPlan.{GuardPlan}
use Rattle.lmn_guards.specs.declared.plan.TypeKind.{TypeKind}
use Rattle.lmn_guards.specs.declared.plan.TypeKind.TheVariants as kind
use Rattle.lmn_guards.specs.GuardCodes.{in_head, is_bound, unknown, use_of_none, unbound, is_of_head, wrong_operands, asks, type_of, untyped, unheld, rows_of_conditions, guard_rows}
use Rattle.lmn_guards.specs.Plans.{IsPlan, with_type, typed_use, leaves_by_membrane, numbered_uses, binding}
use Rattle.lmn_flatten_plain.specs.SamePlains.{SameExpr, same_integer, same_context, same_operation, SameCond, same_condition, same_comparison, same_equation, SameRule, SamePlain}
use Rattle.lmn_app_reading.specs.Texts.{rows_of_rule, rows_of_rules}

-- ---- expressions

same_tokens : {a b : Expr} → SameExpr a b → expression_tokens a ≡ expression_tokens b
same_tokens (same_integer z) = refl
same_tokens (same_context u) = refl
same_tokens (same_operation op a b c d h g) =
    ap expression_tokens (expr.rolls-Op op a b) ∙ ap (λ n. n + expression_tokens b.value) (same_tokens h)
    ∙ ap (λ n. expression_tokens c.value + n) (same_tokens g) ∙ sym (ap expression_tokens (expr.rolls-Op op c d))

same_items : {a b : Expr} → SameExpr a b → expression_items a ≡ expression_items b
same_items (same_integer z) = refl
same_items (same_context u) = refl
same_items (same_operation op a b c d h g) =
    fold-roll-Expr (List Item) expression_items_step (step.Op op a b) ∙ ap (λ xs. xs ++ expression_items b.value) (same_items h)
    ∙ ap (λ xs. expression_items c.value ++ xs) (same_items g) ∙ sym (fold-roll-Expr (List Item) expression_items_step (step.Op op c d))

same_of_head : (head : Level) {a b : Expr} → SameExpr a b → is_of_head head a ≡ is_of_head head b
same_of_head head (same_integer z) = refl
same_of_head head (same_context u) = refl
same_of_head head (same_operation op a b c d h g) = ap (is_of_head head) (expr.rolls-Op op a b) ∙ sym (ap (is_of_head head) (expr.rolls-Op op c d))

same_tree : (names : List tree.Name) {a b : Expr} → SameExpr a b → expression_of names a ≡ expression_of names b
same_tree names (same_integer z) = refl
same_tree names (same_context u) = refl
same_tree names (same_operation op a b c d h g) =
    fold-roll-Expr tree.Expression (translated.expression_step names) (step.Op op a b)
    ∙ ap (λ e. tree.operation op e (expression_of names b.value)) (same_tree names h)
    ∙ ap (λ e. tree.operation op (expression_of names c.value) e) (same_tree names g)
    ∙ sym (fold-roll-Expr tree.Expression (translated.expression_step names) (step.Op op c d))

same_expression_names : {a b : Expr} → SameExpr a b → expression_names a ≡ expression_names b
same_expression_names (same_integer z) = refl
same_expression_names (same_context u) = refl
same_expression_names (same_operation op a b c d h g) =
    fold-roll-Expr (List ℕ) names.expression_names_step (step.Op op a b) ∙ ap (λ xs. xs ++ expression_names b.value) (same_expression_names h)
    ∙ ap (λ xs. expression_names c.value ++ xs) (same_expression_names g) ∙ sym (fold-roll-Expr (List ℕ) names.expression_names_step (step.Op op c d))

-- ---- conditions

same_condition_names : {c d : Cond} → SameCond c d → condition_names c ≡ condition_names d
same_condition_names same_condition = refl
same_condition_names (same_comparison h g) = λ i. same_expression_names h i ++ same_expression_names g i
same_condition_names (same_equation {u = u} h) = λ i. u.name ∷ same_expression_names h i

same_condition_tokens : {c d : Cond} → SameCond c d → condition_tokens c ≡ condition_tokens d
same_condition_tokens same_condition = refl
same_condition_tokens (same_comparison h g) = λ i. same_tokens h i + same_tokens g i
same_condition_tokens (same_equation h) = λ i. 1 + same_tokens h i

same_condition_items : {c d : Cond} → SameCond c d → condition_items c ≡ condition_items d
same_condition_items same_condition = refl
same_condition_items (same_comparison h g) = λ i. same_items h i ++ same_items g i
same_condition_items (same_equation {u = u} h) = λ i. used form.Typed u ∷ same_items h i

same_left : (n : ℕ) {c d : Cond} → SameCond c d → is_left_of n c ≡ is_left_of n d
same_left n same_condition = refl
same_left n (same_comparison h g) = refl
same_left n (same_equation h) = refl

same_unknown : {c d : Cond} → SameCond c d → unknown c ≡ unknown d
same_unknown same_condition = refl
same_unknown (same_comparison h g) = refl
same_unknown (same_equation h) = refl

same_binding : (head : Level) {c d : Cond} → SameCond c d → binding head c ≡ binding head d
same_binding head same_condition = refl
same_binding head (same_comparison h g) = refl
same_binding head (same_equation h) = refl

same_condition_tree : (names : List tree.Name) {c d : Cond} → SameCond c d → condition_of names c ≡ condition_of names d
same_condition_tree names same_condition = refl
same_condition_tree names (same_comparison {op = op} h g) = λ i. tree.compares op (same_tree names h i) (same_tree names g i)
same_condition_tree names (same_equation {u = u} h) = λ i. tree.equates (name_of names u.name) (same_tree names h i)

same_asks : (head : Level) (k : TypeKind) (n : ℕ) {c d : Cond} → SameCond c d → asks head k n c ≡ asks head k n d
same_asks head k n same_condition = refl
same_asks head kind.Int n (same_comparison h g) = λ i. has_use n (same_items h i ++ same_items g i)
same_asks head kind.Unary n (same_comparison h g) = refl
same_asks head kind.Ground n (same_comparison h g) = refl
same_asks head kind.Int n (same_equation {u = u} h) = λ i. not (in_head head u.name) && has_use n (same_items h i)
same_asks head kind.Unary n (same_equation h) = refl
same_asks head kind.Ground n (same_equation {u = u} h) = λ i. in_head head u.name && has_use n (used form.Typed u ∷ same_items h i)

-- ---- guards

any_same : (f : Cond → Bool) → ((c d : Cond) → SameCond c d → f c ≡ f d) → (cs ds : List Cond) → AllZip SameCond cs ds → list_any f cs ≡ list_any f ds
any_same f same [] [] h = refl
any_same f same [] (d ∷ ds) h = absurd h
any_same f same (c ∷ cs) [] h = absurd h
any_same f same (c ∷ cs) (d ∷ ds) h = λ i. same c d h.0 i || any_same f same cs ds h.1 i

flat_same : {A : Type 0} (f : Cond → List A) → ((c d : Cond) → SameCond c d → f c ≡ f d) → (cs ds : List Cond) → AllZip SameCond cs ds → flat_map f cs ≡ flat_map f ds
flat_same f same [] [] h = refl
flat_same f same [] (d ∷ ds) h = absurd h
flat_same f same (c ∷ cs) [] h = absurd h
flat_same f same (c ∷ cs) (d ∷ ds) h = λ i. same c d h.0 i ++ flat_same f same cs ds h.1 i

map_same : {A : Type 0} (f : Cond → A) → ((c d : Cond) → SameCond c d → f c ≡ f d) → (cs ds : List Cond) → AllZip SameCond cs ds → map f cs ≡ map f ds
map_same f same [] [] h = refl
map_same f same [] (d ∷ ds) h = absurd h
map_same f same (c ∷ cs) [] h = absurd h
map_same f same (c ∷ cs) (d ∷ ds) h = λ i. same c d h.0 i ∷ map_same f same cs ds h.1 i

sum_same : (f : Cond → ℕ) → ((c d : Cond) → SameCond c d → f c ≡ f d) → (cs ds : List Cond) → AllZip SameCond cs ds → sum_by f cs ≡ sum_by f ds
sum_same f same [] [] h = refl
sum_same f same [] (d ∷ ds) h = absurd h
sum_same f same (c ∷ cs) [] h = absurd h
sum_same f same (c ∷ cs) (d ∷ ds) h = sum_by-cons f c cs ∙ (λ i. same c d h.0 i + sum_same f same cs ds h.1 i) ∙ sym (sum_by-cons f d ds)

length_same : (cs ds : List Cond) → AllZip SameCond cs ds → length cs ≡ length ds
length_same [] [] h = refl
length_same [] (d ∷ ds) h = absurd h
length_same (c ∷ cs) [] h = absurd h
length_same (c ∷ cs) (d ∷ ds) h = ap suc (length_same cs ds h.1)

one_more_same : (cs ds : List Cond) (c d : Cond) → AllZip SameCond cs ds → SameCond c d → AllZip SameCond (cs ++ c ∷ []) (ds ++ d ∷ [])
one_more_same [] [] c d h s = (s, tt)
one_more_same [] (y ∷ ds) c d h s = absurd h
one_more_same (x ∷ cs) [] c d h s = absurd h
one_more_same (x ∷ cs) (y ∷ ds) c d h s = (h.0, one_more_same cs ds c d h.1 s)

-- Guards of one head.
module _ (head : Level) where
  module _ (before others : List Cond) (h : AllZip SameCond before others) where
    same_bound : (n : ℕ) → is_bound head before n ≡ is_bound head others n
    same_bound n = λ i. not (in_head head n) && any_same (is_left_of n) (λ c d s. same_left n s) before others h i

    same_use : (x : Item) → use_of_none head before x ≡ use_of_none head others x
    same_use (item.Atom functor pos) = refl
    same_use (item.Context u) = ap (λ b. if in_head head u.name || b then [] else u.pos ∷ []) (same_bound u.name)
    same_use (item.RuleContext u) = refl
    same_use (item.Rule k) = refl

    same_uses : (xs : List Item) → flat_map (use_of_none head before) xs ≡ flat_map (use_of_none head others) xs
    same_uses [] = refl
    same_uses (x ∷ xs) = λ i. same_use x i ++ same_uses xs i

    same_unbound : (c d : Cond) → SameCond c d → unbound head before c ≡ unbound head others d
    same_unbound (condition.Kind name args pos) _ same_condition = refl
    same_unbound (condition.Compare op left right pos) _ same_condition = same_uses (condition_items (condition.Compare op left right pos))
    same_unbound (condition.Equal left right pos) _ same_condition = same_uses (expression_items right)
    same_unbound (condition.Differ left right pos) _ same_condition = same_uses (condition_items (condition.Differ left right pos))
    same_unbound _ _ (same_comparison {a = a} {b = b} s t) = same_uses (expression_items a ++ expression_items b) ∙ (λ i. flat_map (use_of_none head others) (same_items s i ++ same_items t i))
    same_unbound _ _ (same_equation {a = a} s) = same_uses (expression_items a) ∙ ap (flat_map (use_of_none head others)) (same_items s)

    same_wrong : (c d : Cond) → SameCond c d → wrong_operands head before c ≡ wrong_operands head others d
    same_wrong (condition.Kind name args pos) _ same_condition = refl
    same_wrong (condition.Compare op left right pos) _ same_condition = refl
    same_wrong (condition.Equal left right pos) _ same_condition =
        ap (λ b. if (in_head head left.name && not (is_of_head head right)) || b then pos ∷ [] else []) (same_bound left.name)
    same_wrong (condition.Differ left right pos) _ same_condition = λ i. if same_bound left.name i || same_bound right.name i then pos ∷ [] else []
    same_wrong _ _ (same_comparison s t) = refl
    same_wrong _ _ (same_equation {u = u} {pos = pos} s) = λ i. if (in_head head u.name && not (same_of_head head s i)) || same_bound u.name i then pos ∷ [] else []

  same_conditions : (before others cs ds : List Cond) → AllZip SameCond before others → AllZip SameCond cs ds → rows_of_conditions head before cs ≡ rows_of_conditions head others ds
  same_conditions before others [] [] b h = refl
  same_conditions before others [] (d ∷ ds) b h = absurd h
  same_conditions before others (c ∷ cs) [] b h = absurd h
  same_conditions before others (c ∷ cs) (d ∷ ds) b h = λ i.
      record { code = 41; places = same_unknown h.0 i }
      ∷ record { code = 43; places = same_unbound before others b c d h.0 i }
      ∷ record { code = 42; places = same_wrong before others b c d h.0 i }
      ∷ same_conditions (before ++ c ∷ []) (others ++ d ∷ []) cs ds (one_more_same before others c d b h.0) h.1 i

  module _ (cs ds : List Cond) (h : AllZip SameCond cs ds) where
    same_type : (n : ℕ) → type_of head cs n ≡ type_of head ds n
    same_type n = λ i.
        if any_same (asks head kind.Int n) (λ c d s. same_asks head kind.Int n s) cs ds h i then Some kind.Int
        else if any_same (asks head kind.Unary n) (λ c d s. same_asks head kind.Unary n s) cs ds h i then Some kind.Unary
        else if any_same (asks head kind.Ground n) (λ c d s. same_asks head kind.Ground n s) cs ds h i then Some kind.Ground
        else None

    same_untyped : (l : Leaf) → untyped head cs l ≡ untyped head ds l
    same_untyped (leaf.Atom functor links pos) = refl
    same_untyped (leaf.Typed name link pos) = ap (λ t. if is_some t then [] else pos ∷ []) (same_type name)

    all_untyped : (ls : List Leaf) → flat_map (untyped head cs) ls ≡ flat_map (untyped head ds) ls
    all_untyped [] = refl
    all_untyped (l ∷ ls) = λ i. same_untyped l i ++ all_untyped ls i

    same_typed_use : (number : ℕ) (l : Leaf) → typed_use head cs number l ≡ typed_use head ds number l
    same_typed_use number (leaf.Atom functor links pos) = refl
    same_typed_use number (leaf.Typed name link pos) = ap (with_type name number) (same_type name)

    typed_uses_of : (number : ℕ) (ls : List Leaf) → flat_map (typed_use head cs number) ls ≡ flat_map (typed_use head ds number) ls
    typed_uses_of number [] = refl
    typed_uses_of number (l ∷ ls) = λ i. same_typed_use number l i ++ typed_uses_of number ls i

    same_kinds : (number : ℕ) (ls : List (List Leaf)) → numbered_uses (typed_use head cs) number ls ≡ numbered_uses (typed_use head ds) number ls
    same_kinds number [] = refl
    same_kinds number (l ∷ ls) = λ i. typed_uses_of number l i ++ same_kinds (number + 1) ls i

-- ---- rules

-- the rule with another guard
abbrev guarded : RuleTree → List Cond → RuleTree
guarded r cs = record { head = r.head; guard = cs; body = r.body; links = r.links; pos = r.pos }

but_for_guard : (r s : RuleTree) → SameRule r s → r ≡ guarded s r.guard
but_for_guard r s h = λ i. record { head = h.head i; guard = r.guard; body = h.body i; links = h.links i; pos = h.pos i }

module _ (s : RuleTree) (cs ds : List Cond) (h : AllZip SameCond cs ds) where
  same_guard_rows : guard_rows (guarded s cs) ≡ guard_rows (guarded s ds)
  same_guard_rows = λ i. same_conditions s.head [] [] cs ds tt h i
      ++ (record { code = 40; places = all_untyped s.head cs ds h (leaves_of s.head) i } ∷ record { code = 46; places = flat_map (unheld s.head) (leaves_of s.head) } ∷ [])

  same_nowhere : (x : Item) → from_nowhere (items_of s.head) cs x ≡ from_nowhere (items_of s.head) ds x
  same_nowhere (item.Atom functor pos) = refl
  same_nowhere (item.Context u) = ap (λ b. if has_use u.name (items_of s.head) || b then [] else u.pos ∷ []) (any_same (is_left_of u.name) (λ c d s. same_left u.name s) cs ds h)
  same_nowhere (item.RuleContext u) = refl
  same_nowhere (item.Rule k) = refl

  all_nowhere : (xs : List Item) → flat_map (from_nowhere (items_of s.head) cs) xs ≡ flat_map (from_nowhere (items_of s.head) ds) xs
  all_nowhere [] = refl
  all_nowhere (x ∷ xs) = λ i. same_nowhere x i ++ all_nowhere xs i

  same_rule_items : rule_items (guarded s cs) ≡ rule_items (guarded s ds)
  same_rule_items = λ i. items_of s.head ++ (flat_same condition_items (λ c d s. same_condition_items s) cs ds h i ++ items_of s.body)

  module _ (table others : List RuleTree) (inner : (k : ℕ) → option_map (λ (r : RuleTree). r.pos) (slice_get table k) ≡ option_map (λ (r : RuleTree). r.pos) (slice_get others k)) where
    same_inner : (x : Item) → inner_rule table x ≡ inner_rule others x
    same_inner (item.Atom functor pos) = refl
    same_inner (item.Context u) = refl
    same_inner (item.RuleContext u) = refl
    same_inner (item.Rule k) = ap option_to_list (inner k)

    all_inner : (xs : List Item) → flat_map (inner_rule table) xs ≡ flat_map (inner_rule others) xs
    all_inner [] = refl
    all_inner (x ∷ xs) = λ i. same_inner x i ++ all_inner xs i

    same_rule_rows : rule_rows table (guarded s cs) ≡ rule_rows others (guarded s ds)
    same_rule_rows = λ i.
        record {
          code = 44;
          places = if nat_lt most_head_items (number_of_items s.head) || (nat_lt most_body_items (number_of_items s.body) || (nat_lt most_conditions (length_same cs ds h i) || nat_lt most_guard_tokens (sum_same condition_tokens (λ c d s. same_condition_tokens s) cs ds h i)))
              then s.pos ∷ [] else [];
        }
        ∷ empty_head s
        ∷ record { code = 36; places = all_inner (items_of s.head) i }
        ∷ connector_in_head s
        ∷ context_at_top s
        ∷ rule_context_at_top s
        ∷ two_in_membrane s
        ∷ twice_in_head s
        ∷ not_once_in_body s
        ∷ record { code = 34; places = all_nowhere (items_of s.body) i }
        ∷ record { code = 45; places = flat_map (in_other_form (same_rule_items i)) (same_rule_items i) }
        ∷ []

module _ (table others : List RuleTree) (inner : (k : ℕ) → option_map (λ (r : RuleTree). r.pos) (slice_get table k) ≡ option_map (λ (r : RuleTree). r.pos) (slice_get others k)) where
  -- the same is asked of one rule
  pub same_rows : (r s : RuleTree) → SameRule r s → rows_of_rule table r ≡ rows_of_rule others s
  same_rows r s h = ap (rows_of_rule table) (but_for_guard r s h)
      ∙ (λ i. same_rule_rows s r.guard s.guard h.guard table others inner i ++ same_guard_rows s r.guard s.guard h.guard i)

  all_rows : (rs ss : List RuleTree) → AllZip SameRule rs ss → flat_map (rows_of_rule table) rs ≡ flat_map (rows_of_rule others) ss
  all_rows [] [] h = refl
  all_rows [] (s ∷ ss) h = absurd h
  all_rows (r ∷ rs) [] h = absurd h
  all_rows (r ∷ rs) (s ∷ ss) h = λ i. same_rows r s h.0 i ++ all_rows rs ss h.1 i

places_of_rules : (rs ss : List RuleTree) → AllZip SameRule rs ss → (k : ℕ) → option_map (λ (r : RuleTree). r.pos) (slice_get rs k) ≡ option_map (λ (r : RuleTree). r.pos) (slice_get ss k)
places_of_rules [] [] h k = refl
places_of_rules [] (s ∷ ss) h k = absurd h
places_of_rules (r ∷ rs) [] h k = absurd h
places_of_rules (r ∷ rs) (s ∷ ss) h zero = let one = h.0 in ap Some one.pos
places_of_rules (r ∷ rs) (s ∷ ss) h (suc k) = places_of_rules rs ss h.1 k

-- the same is asked of the rules of two plains
pub same_plain_rows : (p q : Plain) → SamePlain p q → rows_of_rules p ≡ rows_of_rules q
same_plain_rows p q h = all_rows p.rules q.rules (places_of_rules p.rules q.rules h.rules) p.rules q.rules h.rules

-- and the same plans are theirs
one_plan : (r s : RuleTree) (plan other : GuardPlan) → SameRule r s → IsPlan r plan → IsPlan s other → plan ≡ other
one_plan r s plan other h p q = λ i. record { kinds = kinds i; bound = bound i }
  where
    kinds : plan.kinds ≡ other.kinds
    kinds = p.kinds ∙ (λ i. numbered_uses (typed_use (h.head i) r.guard) 0 (leaves_by_membrane (h.head i)))
        ∙ same_kinds s.head r.guard s.guard h.guard 0 (leaves_by_membrane s.head) ∙ sym q.kinds

    bound : plan.bound ≡ other.bound
    bound = p.bound ∙ (λ i. flat_map (binding (h.head i)) r.guard) ∙ flat_same (binding s.head) (λ c d e. same_binding s.head e) r.guard s.guard h.guard ∙ sym q.bound

-- the same rules have the same plans
pub one_plans : (rs ss : List RuleTree) (plans others : List GuardPlan) → AllZip SameRule rs ss → AllZip IsPlan rs plans → AllZip IsPlan ss others → plans ≡ others
one_plans [] [] [] [] h p q = refl
one_plans [] [] [] (o ∷ os) h p q = absurd q
one_plans [] [] (x ∷ xs) os h p q = absurd p
one_plans [] (s ∷ ss) xs os h p q = absurd h
one_plans (r ∷ rs) [] xs os h p q = absurd h
one_plans (r ∷ rs) (s ∷ ss) [] os h p q = absurd p
one_plans (r ∷ rs) (s ∷ ss) (x ∷ xs) [] h p q = absurd q
one_plans (r ∷ rs) (s ∷ ss) (x ∷ xs) (o ∷ os) h p q = λ i. one_plan r s x o h.0 p.0 q.0 i ∷ one_plans rs ss xs os h.1 p.1 q.1 i

-- and they have the same names
rule_names_same : (rs ss : List RuleTree) → AllZip SameRule rs ss → flat_map rule_names rs ≡ flat_map rule_names ss
rule_names_same [] [] h = refl
rule_names_same [] (s ∷ ss) h = absurd h
rule_names_same (r ∷ rs) [] h = absurd h
rule_names_same (r ∷ rs) (s ∷ ss) h =
    let one = h.0 in
    let guards = flat_same condition_names (λ c d e. same_condition_names e) r.guard s.guard one.guard in
    λ i. (level_names (one.head i) ++ guards i ++ level_names (one.body i)) ++ rule_names_same rs ss h.1 i

-- the same plains have the same names
pub same_plain_names : (p q : Plain) → SamePlain p q → plain_names p ≡ plain_names q
same_plain_names p q h = λ i. level_names (h.top i) ++ rule_names_same p.rules q.rules h.rules i

-- and they are the same trees
module _ (names : List tree.Name) where
  same_trees : (k : ℕ) (rs ss : List RuleTree) → AllZip SameRule rs ss → rules_from names k rs ≡ rules_from names k ss
  same_trees k [] [] h = refl
  same_trees k [] (s ∷ ss) h = absurd h
  same_trees k (r ∷ rs) [] h = absurd h
  same_trees k (r ∷ rs) (s ∷ ss) h =
      let one = h.0 in
      let rest = same_trees (k + 1) rs ss h.1 in
      let conditions = map_same (condition_of names) (λ c d e. same_condition_tree names e) r.guard s.guard one.guard in
      λ i. tree.rule_of (level_of names (λ n. slice_index_or (rest i) (n - (k + 1)) no_such_rule) (one.head i)) (conditions i)
      (level_of names (λ n. slice_index_or (rest i) (n - (k + 1)) no_such_rule) (one.body i)) ∷ rest i

  pub same_tops : (p q : Plain) → SamePlain p q → top_of names p ≡ top_of names q
  same_tops p q h = λ i. level_of names (λ n. slice_index_or (same_trees 0 p.rules q.rules h.rules i) n no_such_rule) (h.top i)
