-- The plain of a tree is well made.
use Rattle.std.proofs.Common.{◌≡◌, ℕ, zero, suc, ◌+◌, ◌<◌, ◌≤◌, List, [], ◌∷◌, ◌++◌, length, get_or, slice_get, Some, All, refl, sym, ap, ◌∙◌, subst, arith}
use Rattle.std.proofs.lemmas.Option.{same_Some}
use Rattle.std.proofs.lemmas.List.Elements.{All-append, All-from_recursion}
use Rattle.std.specs.List.{AllZip}
use Rattle.lmn_base.specs.declared.refusal.Pos.{Pos}
use Rattle.lmn_base.specs.declared.level.Level as base_level
use Rattle.lmn_base.specs.declared.rule.Plain.{Plain}
use Rattle.lmn_base.specs.declared.rule.RuleTree.{RuleTree}
use Rattle.lmn_base.specs.Levels.{leaves_of, rules_of, contexts_of, rule_contexts_of}
use Rattle.lmn_base.specs.WellMade.{FitsArity, IsAtomLeaf, IsWellMadeRule, IsWellMade}
use Rattle.lmn_congruence.specs.Rules as tree
use Rattle.lmn_lexer.specs.Laying.{Word}
use Rattle.lmn_parser.specs.Syntax.{Clauses}
use Rattle.lmn_flatten_plain.specs.Expanded.{ExpandedRule}
use Rattle.lmn_flatten_plain.specs.Expansion.{parts_of}
use Rattle.lmn_flatten_plain.specs.Parts.{level_from_parts}
use Rattle.lmn_flatten_plain.specs.Plains.{IsRuleOf, IsPlainOf}
use Rattle.lmn_flatten_plain.proofs.Fitting.{Within, TableFits, rule_numbers, clauses_fit, level_within}
use Rattle.lmn_flatten_plain.proofs.NumberedLevels.{level_arity, rules_numbered}

-- outside the rules of a plain no context stands
pub record NoContext (l : base_level.Level) : Type 0 where
  pub only_atoms : All IsAtomLeaf (leaves_of l)
  pub no_context : contexts_of l ≡ []
  pub no_rule_context : rule_contexts_of l ≡ []

module _ (words : List Word) (places : List Pos) (names : List tree.Name) where
  rule_well_made : (r : ExpandedRule) (t : RuleTree) → IsRuleOf words places names r t → IsWellMadeRule t
  rule_well_made r t h =
      let P : base_level.Level → Type 0 = λ l. All FitsArity (leaves_of l) in
      record {
        arities = All-append FitsArity (leaves_of t.head) (leaves_of t.body) (subst P (sym h.head) (level_arity names h.number r.head))
            (subst P (sym h.body) (level_arity names h.number r.body));
        table = h.table;
      }

  rules_well_made : (rs : List ExpandedRule) (ts : List RuleTree) → AllZip (IsRuleOf words places names) rs ts → All IsWellMadeRule ts
  rules_well_made [] [] h k d l = absurd (omega (arith, l))
  rules_well_made [] (t ∷ ts) h k d l = absurd h
  rules_well_made (r ∷ rs) [] h k d l = absurd h
  rules_well_made (r ∷ rs) (t ∷ ts) h zero d l = rule_well_made r t h.0
  rules_well_made (r ∷ rs) (t ∷ ts) h (suc k) d l = rules_well_made rs ts h.1 k d (omega (arith, l))

  same_length : (rs : List ExpandedRule) (ts : List RuleTree) → AllZip (IsRuleOf words places names) rs ts → length rs ≡ length ts
  same_length [] [] h = refl
  same_length [] (t ∷ ts) h = absurd h
  same_length (r ∷ rs) [] h = absurd h
  same_length (r ∷ rs) (t ∷ ts) h = let e = same_length rs ts h.1 in omega (arith, e)

  -- the numbers in a rule are greater than its own
  rule_within : (k high : ℕ) (r : ExpandedRule) (t : RuleTree) → IsRuleOf words places names r t → Within (k + 1) high (rule_numbers r.head ++ rule_numbers r.body)
      → Within (k + 1) high (rules_of t.head ++ rules_of t.body)
  rule_within k high r t h w =
      let P : List ℕ → Type 0 = Within (k + 1) high in
      subst P (sym (ap (λ ns. ns ++ rules_of t.body) (ap rules_of h.head ∙ rules_numbered names h.number r.head)
      ∙ ap (λ ns. rule_numbers r.head ++ ns) (ap rules_of h.body ∙ rules_numbered names h.number r.body))) w

  above : (k m : ℕ) (n : ℕ) → (k + 1 ≤ m) × (m < n) → (k < m) × (m < n)
  above k m n h = (omega (arith, h.0), h.1)

  all_above : (k high : ℕ) (ns : List ℕ) → Within (k + 1) high ns → All (λ m. (k < m) × (m < high)) ns
  all_above k high ns h j d l = above k (get_or ns j d) high (All-from_recursion (λ m. (k + 1 ≤ m) × (m < high)) ns h j d l)

  numbers_above : (k high : ℕ) (rs : List ExpandedRule) (ts : List RuleTree) → AllZip (IsRuleOf words places names) rs ts → TableFits k high rs
      → (n : ℕ) (t : RuleTree) → slice_get ts n ≡ Some t → All (λ m. (k + n < m) × (m < high)) (rules_of t.head ++ rules_of t.body)
  numbers_above k high [] [] h f n t e = absurd (cc)
  numbers_above k high [] (u ∷ ts) h f n t e = absurd h
  numbers_above k high (r ∷ rs) [] h f n t e = absurd h
  numbers_above k high (r ∷ rs) (u ∷ ts) h f zero t e =
      let P : RuleTree → Type 0 = λ t. All (λ m. (k + 0 < m) × (m < high)) (rules_of t.head ++ rules_of t.body) in
      let Q : ℕ → Type 0 = λ n. All (λ m. (n < m) × (m < high)) (rules_of u.head ++ rules_of u.body) in
      let e0 : k ≡ k + 0 = omega arith in
      subst P (same_Some u t e) (subst Q e0 (all_above k high (rules_of u.head ++ rules_of u.body) (rule_within k high r u h.0 f.0)))
  numbers_above k high (r ∷ rs) (u ∷ ts) h f (suc n) t e =
      let Q : ℕ → Type 0 = λ n. All (λ m. (n < m) × (m < high)) (rules_of t.head ++ rules_of t.body) in
      let e1 : k + 1 + n ≡ k + suc n = omega arith in
      subst Q e1 (numbers_above (k + 1) high rs ts h.1 f.1 n t e)

  pub plain_well_made : (tree : Clauses) (p : Plain) → IsPlainOf words places names tree p → NoContext p.top → IsWellMade p
  plain_well_made tree p h none =
      let parts = parts_of words places tree in
      let fits = clauses_fit words places tree [] 0 in
      let size = same_length parts.table p.rules h.rules in
      let P : base_level.Level → Type 0 = λ l. All FitsArity (leaves_of l) in
      let high : 0 + length parts.table ≡ length p.rules = omega (arith, size) in
      let Q : List ℕ → Type 0 = All (λ k. k < length p.rules) in
      let R : ℕ → Type 0 = λ n. Within 0 n (rule_numbers (level_from_parts parts)) in
      let top = subst R high (level_within 0 parts fits) in
      let S : ℕ → Type 0 = λ n. TableFits 0 n parts.table in
      record {
        arities = subst P (sym h.top) (level_arity names h.number (level_from_parts parts));
        table = h.table;
        each_rule = rules_well_made parts.table p.rules h.rules;
        rules_at_top = subst Q (sym (ap rules_of h.top ∙ rules_numbered names h.number (level_from_parts parts)))
            (λ j d l. (All-from_recursion (λ m. (0 ≤ m) × (m < length p.rules)) (rule_numbers (level_from_parts parts)) top j d l).1);
        rules_in_rules = λ n t e. at_zero n t (numbers_above 0 (length p.rules) parts.table p.rules h.rules (subst S high fits.table) n t e);
        only_atoms = none.only_atoms;
        no_context = none.no_context;
        no_rule_context = none.no_rule_context;
      }
    where
      at_zero : (n : ℕ) (t : RuleTree) → All (λ m. (0 + n < m) × (m < length p.rules)) (rules_of t.head ++ rules_of t.body)
          → All (λ m. (n < m) × (m < length p.rules)) (rules_of t.head ++ rules_of t.body)
      at_zero n t a =
          let Q : ℕ → Type 0 = λ n. All (λ m. (n < m) × (m < length p.rules)) (rules_of t.head ++ rules_of t.body) in
          let e : 0 + n ≡ n = omega arith in
          subst Q e a
