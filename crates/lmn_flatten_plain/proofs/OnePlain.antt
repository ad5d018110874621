-- A tree has one plain at most.
use Rattle.std.proofs.Common.{◌≡◌, ℕ, List, [], ◌∷◌, ◌++◌, map, length, refl, sym, ap, ◌∙◌, subst}
use Rattle.std.specs.List.{flat_map, AllByRecursion, AllZip}
use Rattle.std.proofs.lemmas.List.{append-nil, map-append}
use Rattle.lmn_base.specs.declared.refusal.Pos.{Pos}
use Rattle.lmn_base.specs.declared.guard.Expr.{Expr}
use Rattle.lmn_base.specs.declared.guard.Cond.{Cond}
use Rattle.lmn_base.specs.declared.level.Leaf as base_leaf
use Rattle.lmn_base.specs.declared.level.Leaf.TheVariants.{Atom, Typed}
use Rattle.lmn_base.specs.declared.level.Occ.{Occ}
use Rattle.lmn_base.specs.declared.level.Level as base_level
use Rattle.lmn_base.specs.declared.level.Level.TheViews.{roll-Level}
use Rattle.lmn_base.specs.declared.rule.Plain.{Plain}
use Rattle.lmn_base.specs.declared.rule.RuleTree.{RuleTree}
use Rattle.lmn_base.specs.Levels.{links_of}
use Rattle.lmn_base.specs.Links.{NumbersLinks}
use Rattle.lmn_base.specs.LinkUses.{IsTableOf}
use Rattle.lmn_congruence.specs.Rules as tree
use Rattle.lmn_lexer.specs.Laying.{Word}
use Rattle.lmn_parser.specs.Syntax as syntax
use Rattle.lmn_parser.specs.Syntax.{Clauses}
use Rattle.lmn_flatten_plain.specs.Links.{Link, Use}
use Rattle.lmn_flatten_plain.specs.Expanded as expanded
use Rattle.lmn_flatten_plain.specs.Expanded.{ExpandedLeaf, atom_leaf, typed_leaf, ExpandedLevel, level, ExpandedLevels, no_level, level_and, ExpandedRule, use_links, expanded_leaf_links, expanded_leaves_links, expanded_links_in}
use Rattle.lmn_flatten_plain.specs.Expansion.{parts_of}
use Rattle.lmn_flatten_plain.specs.Parts.{level_from_parts}
use Rattle.lmn_flatten_plain.specs.Plains.{number_of, numbered_use, numbered_label, numbered_leaf, numbered_context, numbered, all_numbered, IsExpr, IsCond, IsRuleOf, IsPlainOf}
use Rattle.lmn_flatten_plain.specs.SamePlains.{SameExpr, same_integer, same_context, same_operation, SameCond, same_condition, same_comparison, same_equation, SameRule, SamePlain}
use Rattle.lmn_flatten_plain.specs.Laws.{OnePlain}
use Rattle.lmn_flatten_plain.proofs.NumberedLevels.{links_numbered}
use Rattle.lmn_flatten_plain.proofs.OneTable.{one_table}
use Rattle.lmn_flatten_plain.proofs.SameNumbers.{numbers_agree}
use Rattle.lmn_base.proofs.Lists.{all_left as all_front, all_right as all_back}

-- Levels hang on the numbers of the links that stand in them.

module _ (names : List tree.Name) (f g : Link → ℕ) where
  abbrev Agree : List Link → Type 0
  Agree xs = AllByRecursion (λ a. f a ≡ g a) xs

  both_occ : {a b : Occ} {ms ns : List Occ} → a ≡ b → ms ≡ ns → a ∷ ms ≡ b ∷ ns
  both_occ e h = cc

  both_leaf : {a b : base_leaf.Leaf} {ms ns : List base_leaf.Leaf} → a ≡ b → ms ≡ ns → a ∷ ms ≡ b ∷ ns
  both_leaf e h = cc

  both_level : {a b : base_level.Level} {ms ns : List base_level.Level} → a ≡ b → ms ≡ ns → a ∷ ms ≡ b ∷ ns
  both_level e h = cc

  uses_same : (us : List Use) → Agree (use_links us) → map (numbered_use names f) us ≡ map (numbered_use names g) us
  uses_same [] h = refl
  uses_same (u ∷ us) h = both_occ (ap (λ n. record { link = n; pos = u.pos }) h.0) (uses_same us h.1)

  leaf_same : (l : ExpandedLeaf) → Agree (expanded_leaf_links l) → numbered_leaf names f l ≡ numbered_leaf names g l
  leaf_same (atom_leaf l us pos) h = ap (λ os. Atom (record { label = numbered_label names f l; arity = length us }) os pos) (uses_same us h)
  leaf_same (typed_leaf n u pos) h = ap (λ m. Typed (number_of names n) (record { link = m; pos = u.pos }) pos) h.0

  leaves_same : (ls : List ExpandedLeaf) → Agree (expanded_leaves_links ls) → map (numbered_leaf names f) ls ≡ map (numbered_leaf names g) ls
  leaves_same [] h = refl
  leaves_same (l ∷ ls) h =
      both_leaf (leaf_same l (all_front (λ a. f a ≡ g a) (expanded_leaf_links l) (expanded_leaves_links ls) h)) (leaves_same ls (all_back (λ a. f a ≡ g a) (expanded_leaf_links l) (expanded_leaves_links ls) h))

  mutual
    level_same : (l : ExpandedLevel) → Agree (expanded.expanded_links l) → numbered names f l ≡ numbered names g l
    level_same (level ls ms cs os rs) h =
        ap (λ ks. roll-Level (record { leaves = ks; membranes = all_numbered names f ms; contexts = map (numbered_context names f) cs; rule_contexts = map (numbered_context names f) os; rules = rs }))
        (leaves_same ls (all_front (λ a. f a ≡ g a) (expanded_leaves_links ls) (expanded_links_in ms) h))
        ∙ ap (λ ks. roll-Level (record { leaves = map (numbered_leaf names g) ls; membranes = ks; contexts = map (numbered_context names f) cs; rule_contexts = map (numbered_context names f) os; rules = rs }))
        (levels_same ms (all_back (λ a. f a ≡ g a) (expanded_leaves_links ls) (expanded_links_in ms) h))

    levels_same : (ls : ExpandedLevels) → Agree (expanded_links_in ls) → all_numbered names f ls ≡ all_numbered names g ls
    levels_same no_level h = refl
    levels_same (level_and l ls) h =
        both_level (level_same l (all_front (λ a. f a ≡ g a) (expanded.expanded_links l) (expanded_links_in ls) h)) (levels_same ls (all_back (λ a. f a ≡ g a) (expanded.expanded_links l) (expanded_links_in ls) h))

-- Conditions.

as_expr : {a b x y : Expr} → a ≡ x → b ≡ y → SameExpr x y → SameExpr a b
as_expr {a} {b} {x} {y} e f h =
    let P : Expr → Type 0 = λ z. SameExpr z b in
    let Q : Expr → Type 0 = λ z. SameExpr x z in
    subst P (sym e) (subst Q (sym f) h)

as_cond : {a b x y : Cond} → a ≡ x → b ≡ y → SameCond x y → SameCond a b
as_cond {a} {b} {x} {y} e f h =
    let P : Cond → Type 0 = λ z. SameCond z b in
    let Q : Cond → Type 0 = λ z. SameCond x z in
    subst P (sym e) (subst Q (sym f) h)

module _ (words : List Word) (places : List Pos) (names : List tree.Name) where
  same_expr : (x : syntax.Expr) (a b : Expr) → IsExpr words places names x a → IsExpr words places names x b → SameExpr a b
  same_expr (syntax.integer p) a b h g = as_expr h g (same_integer _)
  same_expr (syntax.value p) a b h g = as_expr h g (same_context _)
  same_expr (syntax.operation op l r) a b h g =
      let hl = h.0 in
      let hr = h.1 in
      let gl = g.0 in
      let gr = g.1 in
      as_expr h.2 g.2 (same_operation op hl hr gl gr (same_expr l hl.value gl.value h.3 g.3) (same_expr r hr.value gr.value h.4 g.4))

  same_cond : (x : syntax.WrittenCondition) (a b : Cond) → IsCond words places names x a → IsCond words places names x b → SameCond a b
  same_cond (syntax.called p ps) a b h g = as_cond h g same_condition
  same_cond (syntax.different p q s) a b h g = as_cond h g same_condition
  same_cond (syntax.compared op l r s) a b h g = as_cond h.2 g.2 (same_comparison (same_expr l h.0 g.0 h.3 g.3) (same_expr r h.1 g.1 h.4 g.4))
  same_cond (syntax.equal p r s) a b h g = as_cond h.1 g.1 (same_equation (same_expr r h.0 g.0 h.2 g.2))

  same_guard : (xs : List syntax.WrittenCondition) (as_ bs : List Cond) → AllZip (IsCond words places names) xs as_ → AllZip (IsCond words places names) xs bs → AllZip SameCond as_ bs
  same_guard [] [] [] h g = tt
  same_guard [] [] (b ∷ bs) h g = absurd g
  same_guard [] (a ∷ ms) bs h g = absurd h
  same_guard (x ∷ xs) [] bs h g = absurd h
  same_guard (x ∷ xs) (a ∷ ms) [] h g = absurd g
  same_guard (x ∷ xs) (a ∷ ms) (b ∷ bs) h g = (same_cond x a b h.0 g.0, same_guard xs ms bs h.1 g.1)

  -- Rules.

  -- the links of a rule, and of a top, by their numbers
  pub rule_links : (r : ExpandedRule) (t : RuleTree) (h : IsRuleOf words places names r t)
      → flat_map links_of (t.head ∷ t.body ∷ []) ≡ map h.number (expanded.expanded_links r.head ++ expanded.expanded_links r.body)
  rule_links r t h =
      ap (λ xs. links_of t.head ++ xs) (append-nil (links_of t.body)) ∙ ap (λ l. links_of l ++ links_of t.body) h.head
      ∙ ap (λ xs. xs ++ links_of t.body) (links_numbered names h.number r.head) ∙ ap (λ l. map h.number (expanded.expanded_links r.head) ++ links_of l) h.body
      ∙ ap (λ xs. map h.number (expanded.expanded_links r.head) ++ xs) (links_numbered names h.number r.body)
      ∙ sym (map-append h.number (expanded.expanded_links r.head) (expanded.expanded_links r.body))

  same_rule : (r : ExpandedRule) (t u : RuleTree) → IsRuleOf words places names r t → IsRuleOf words places names r u → SameRule t u
  same_rule r t u h g =
      let all = expanded.expanded_links r.head ++ expanded.expanded_links r.body in
      let ht = h.table in
      let gt = g.table in
      let P : List ℕ → Type 0 = λ xs. NumbersLinks xs (length t.links) in
      let Q : List ℕ → Type 0 = λ xs. NumbersLinks xs (length u.links) in
      let agree = numbers_agree h.number g.number all (length t.links) (length u.links) h.apart g.apart (subst P (rule_links r t h) ht.numbered) (subst Q (rule_links r u g) gt.numbered) in
      let heads = h.head ∙ level_same names h.number g.number r.head (all_front (λ a. h.number a ≡ g.number a) (expanded.expanded_links r.head) (expanded.expanded_links r.body) agree) ∙ sym g.head in
      let bodies = h.body ∙ level_same names h.number g.number r.body (all_back (λ a. h.number a ≡ g.number a) (expanded.expanded_links r.head) (expanded.expanded_links r.body) agree) ∙ sym g.body in
      let R : base_level.Level → Type 0 = λ l. IsTableOf (l ∷ t.body ∷ []) t.links in
      let S : base_level.Level → Type 0 = λ l. IsTableOf (u.head ∷ l ∷ []) t.links in
      record {
        head = heads;
        guard = same_guard r.guard t.guard u.guard h.guard g.guard;
        body = bodies;
        links = one_table (u.head ∷ u.body ∷ []) t.links u.links (subst S bodies (subst R heads h.table)) g.table;
        pos = h.pos ∙ sym g.pos;
      }

  same_rules : (rs : List ExpandedRule) (ts us : List RuleTree) → AllZip (IsRuleOf words places names) rs ts → AllZip (IsRuleOf words places names) rs us → AllZip SameRule ts us
  same_rules [] [] [] h g = tt
  same_rules [] [] (u ∷ us) h g = absurd g
  same_rules [] (t ∷ ts) us h g = absurd h
  same_rules (r ∷ rs) [] us h g = absurd h
  same_rules (r ∷ rs) (t ∷ ts) [] h g = absurd g
  same_rules (r ∷ rs) (t ∷ ts) (u ∷ us) h g = (same_rule r t u h.0 g.0, same_rules rs ts us h.1 g.1)

  pub plain_links : (t : Clauses) (p : Plain) (h : IsPlainOf words places names t p)
      → flat_map links_of (p.top ∷ []) ≡ map h.number (expanded.expanded_links (level_from_parts (parts_of words places t)))
  plain_links t p h = append-nil (links_of p.top) ∙ ap links_of h.top ∙ links_numbered names h.number (level_from_parts (parts_of words places t))

  same_plain : (t : Clauses) (p q : Plain) → IsPlainOf words places names t p → IsPlainOf words places names t q → SamePlain p q
  same_plain t p q h g =
      let parts = parts_of words places t in
      let l = level_from_parts parts in
      let ht = h.table in
      let gt = g.table in
      let P : List ℕ → Type 0 = λ xs. NumbersLinks xs (length p.links) in
      let Q : List ℕ → Type 0 = λ xs. NumbersLinks xs (length q.links) in
      let agree = numbers_agree h.number g.number (expanded.expanded_links l) (length p.links) (length q.links) h.apart g.apart
      (subst P (plain_links t p h) ht.numbered) (subst Q (plain_links t q g) gt.numbered) in
      let tops = h.top ∙ level_same names h.number g.number l agree ∙ sym g.top in
      let R : base_level.Level → Type 0 = λ l. IsTableOf (l ∷ []) p.links in
      record {
        top = tops;
        links = one_table (q.top ∷ []) p.links q.links (subst R tops h.table) g.table;
        rules = same_rules parts.table p.rules q.rules h.rules g.rules;
      }

-- a tree has one plain at most
pub one_plain : OnePlain
one_plain words places names t p q h g = same_plain words places names t p q h g
