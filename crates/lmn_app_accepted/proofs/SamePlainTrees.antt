-- The plain of a tree, with the numbers of two lists of names, is one tree of names, rule by rule.
use Rattle.std.proofs.Common.{◌≡◌, ℕ, suc, ◌+◌, ◌-◌, ◌<◌, List, [], ◌∷◌, ◌++◌, length, slice_index_or, refl, sym, ap, ◌∙◌, subst}
use Rattle.std.specs.List.{flat_map, AllZip}
use Rattle.lmn_base.specs.declared.refusal.Pos.{Pos}
use Rattle.lmn_base.specs.declared.rule.Plain.{Plain}
use Rattle.lmn_base.specs.declared.rule.RuleTree.{RuleTree}
use Rattle.lmn_base.specs.Links.{NumbersLinks}
use Rattle.lmn_base.specs.Names.{level_names, condition_names, rule_names, plain_names, IsNames}
use Rattle.lmn_congruence.specs.Rules as tree
use Rattle.lmn_congruence.specs.Translation as translation
use Rattle.lmn_congruence.specs.Translation.{rule_tree, rules_from, no_such_rule, top_of}
use Rattle.lmn_flatten_plain.proofs.OnePlain.{plain_links, rule_links}
use Rattle.lmn_lexer.specs.Laying.{Word}
use Rattle.lmn_parser.specs.Syntax.{Clauses}
use Rattle.lmn_flatten_plain.specs.Expanded as expanded
use Rattle.lmn_flatten_plain.specs.Expanded.{ExpandedRule}
use Rattle.lmn_flatten_plain.specs.Expansion.{parts_of}
use Rattle.lmn_flatten_plain.specs.Parts.{level_from_parts}
use Rattle.lmn_flatten_plain.specs.Plains.{IsRuleOf, IsPlainOf}
use Rattle.lmn_flatten_plain.proofs.SameNumbers.{numbers_agree}
use Rattle.lmn_app_accepted.proofs.HeldLevels.{level_held}
use Rattle.lmn_app_reading.proofs.NamedPlains.{AllBelow}
use Rattle.lmn_app_accepted.proofs.SameTrees.{level_same}
use Rattle.lmn_app_accepted.proofs.SameGuards.{guard_same}
use Rattle.lmn_base.proofs.Lists.{all_left as all_front, all_right as all_back}

-- two lists that are related to one are as long
pub same_counts : {A B C : Type 0} (R : A → B → Type 0) (S : A → C → Type 0) (xs : List A) (ys : List B) (zs : List C) → AllZip R xs ys → AllZip S xs zs → length ys ≡ length zs
same_counts R S [] [] [] h g = refl
same_counts R S [] [] (z ∷ zs) h g = absurd g
same_counts R S [] (y ∷ ys) zs h g = absurd h
same_counts R S (x ∷ xs) [] zs h g = absurd h
same_counts R S (x ∷ xs) (y ∷ ys) [] h g = absurd g
same_counts R S (x ∷ xs) (y ∷ ys) (z ∷ zs) h g = ap suc (same_counts R S xs ys zs h.1 g.1)

module _ (words : List Word) (places : List Pos) where
  module _ (names others : List tree.Name) (is : IsNames names) (are : IsNames others) where
    rule_same : (rule other : ℕ → tree.Rule) → rule ≡ other → (r : ExpandedRule) (t u : RuleTree) → IsRuleOf words places names r t → IsRuleOf words places others r u
        → AllBelow names (rule_names t) → AllBelow others (rule_names u) → rule_tree names rule t ≡ rule_tree others other u
    rule_same rule other e r t u h g v w =
        let all = expanded.expanded_links r.head ++ expanded.expanded_links r.body in
        let ht = h.table in
        let gt = g.table in
        let P : List ℕ → Type 0 = λ xs. NumbersLinks xs (length t.links) in
        let Q : List ℕ → Type 0 = λ xs. NumbersLinks xs (length u.links) in
        let agree = numbers_agree h.number g.number all (length t.links) (length u.links) h.apart g.apart (subst P (rule_links words places names r t h) ht.numbered)
        (subst Q (rule_links words places others r u g) gt.numbered) in
        let N : ℕ → Type 0 = λ n. n < length names in
        let O : ℕ → Type 0 = λ n. n < length others in
        let guards = flat_map condition_names t.guard in
        let other_guards = flat_map condition_names u.guard in
        let front = all_front N (level_names t.head ++ guards) (level_names t.body) v in
        let other_front = all_front O (level_names u.head ++ other_guards) (level_names u.body) w in
        let head = level_same names others is are h.number g.number rule other e r.head
        (level_held names h.number r.head t.head h.head (all_front N (level_names t.head) guards front))
        (level_held others g.number r.head u.head g.head (all_front O (level_names u.head) other_guards other_front))
        (all_front (λ a. h.number a ≡ g.number a) (expanded.expanded_links r.head) (expanded.expanded_links r.body) agree) in
        let guard = guard_same words places names others is are r.guard t.guard u.guard h.guard g.guard (all_back N (level_names t.head) guards front)
        (all_back O (level_names u.head) other_guards other_front) in
        let body = level_same names others is are h.number g.number rule other e r.body
        (level_held names h.number r.body t.body h.body (all_back N (level_names t.head ++ guards) (level_names t.body) v))
        (level_held others g.number r.body u.body g.body (all_back O (level_names u.head ++ other_guards) (level_names u.body) w))
        (all_back (λ a. h.number a ≡ g.number a) (expanded.expanded_links r.head) (expanded.expanded_links r.body) agree) in
        let heads = ap (translation.level_of names rule) h.head ∙ head ∙ sym (ap (translation.level_of others other) g.head) in
        let bodies = ap (translation.level_of names rule) h.body ∙ body ∙ sym (ap (translation.level_of others other) g.body) in
        λ i. tree.rule_of (heads i) (guard i) (bodies i)

    rules_same : (k : ℕ) (rs : List ExpandedRule) (ts us : List RuleTree) → AllZip (IsRuleOf words places names) rs ts → AllZip (IsRuleOf words places others) rs us
        → AllBelow names (flat_map rule_names ts) → AllBelow others (flat_map rule_names us) → rules_from names k ts ≡ rules_from others k us
    rules_same k [] [] [] h g v w = refl
    rules_same k [] [] (u ∷ us) h g v w = absurd g
    rules_same k [] (t ∷ ts) us h g v w = absurd h
    rules_same k (r ∷ rs) [] us h g v w = absurd h
    rules_same k (r ∷ rs) (t ∷ ts) [] h g v w = absurd g
    rules_same k (r ∷ rs) (t ∷ ts) (u ∷ us) h g v w =
        let N : ℕ → Type 0 = λ n. n < length names in
        let O : ℕ → Type 0 = λ n. n < length others in
        let rest = rules_same (k + 1) rs ts us h.1 g.1 (all_back N (rule_names t) (flat_map rule_names ts) v) (all_back O (rule_names u) (flat_map rule_names us) w) in
        let first = rule_same (λ n. slice_index_or (rules_from names (k + 1) ts) (n - (k + 1)) no_such_rule) (λ n. slice_index_or (rules_from others (k + 1) us) (n - (k + 1)) no_such_rule)
        (λ i n. slice_index_or (rest i) (n - (k + 1)) no_such_rule) r t u h.0 g.0 (all_front N (rule_names t) (flat_map rule_names ts) v)
        (all_front O (rule_names u) (flat_map rule_names us) w) in
        λ i. first i ∷ rest i

    pub tables_same : (t : Clauses) (p q : Plain) → IsPlainOf words places names t p → IsPlainOf words places others t q → AllBelow names (plain_names p)
        → AllBelow others (plain_names q) → rules_from names 0 p.rules ≡ rules_from others 0 q.rules
    tables_same t p q h g v w =
        let parts = parts_of words places t in
        rules_same 0 parts.table p.rules q.rules h.rules g.rules (all_back (λ n. n < length names) (level_names p.top) (flat_map rule_names p.rules) v)
        (all_back (λ n. n < length others) (level_names q.top) (flat_map rule_names q.rules) w)

    pub tops_same : (t : Clauses) (p q : Plain) → IsPlainOf words places names t p → IsPlainOf words places others t q → AllBelow names (plain_names p)
        → AllBelow others (plain_names q) → top_of names p ≡ top_of others q
    tops_same t p q h g v w =
        let l = level_from_parts (parts_of words places t) in
        let ht = h.table in
        let gt = g.table in
        let P : List ℕ → Type 0 = λ xs. NumbersLinks xs (length p.links) in
        let Q : List ℕ → Type 0 = λ xs. NumbersLinks xs (length q.links) in
        let agree = numbers_agree h.number g.number (expanded.expanded_links l) (length p.links) (length q.links) h.apart g.apart (subst P (plain_links words places names t p h) ht.numbered)
        (subst Q (plain_links words places others t q g) gt.numbered) in
        let rest = tables_same t p q h g v w in
        let rule : ℕ → tree.Rule = λ n. slice_index_or (rules_from names 0 p.rules) n no_such_rule in
        let other : ℕ → tree.Rule = λ n. slice_index_or (rules_from others 0 q.rules) n no_such_rule in
        ap (translation.level_of names rule) h.top
        ∙ level_same names others is are h.number g.number rule other (λ i n. slice_index_or (rest i) n no_such_rule) l
        (level_held names h.number l p.top h.top (all_front (λ n. n < length names) (level_names p.top) (flat_map rule_names p.rules) v))
        (level_held others g.number l q.top g.top (all_front (λ n. n < length others) (level_names q.top) (flat_map rule_names q.rules) w)) agree
        ∙ sym (ap (translation.level_of others other) g.top)
