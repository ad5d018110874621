-- A text that is read by a list of names is read as the same plain by a list that goes on behind it.
use Rattle.std.proofs.Common.{◌≡◌, ℕ, suc, ◌<◌, Bool, true, false, if◌then◌else◌, List, [], ◌∷◌, ◌++◌, length, map, refl, sym, ap, ◌∙◌, subst, arith, length-append}
use Rattle.std.specs.Prelude.{bytes_eq}
use Rattle.std.specs.List.{AllByRecursion, flat_map, AllZip}
use Rattle.std.proofs.lemmas.List.Elements.{recursion_from_All}
use Rattle.lmn_base.specs.declared.functor.Label.TheVariants.{Name}
use Rattle.lmn_base.specs.declared.guard.Cond.{Cond}
use Rattle.lmn_base.specs.declared.guard.Cond.TheVariants as cond
use Rattle.lmn_base.specs.declared.guard.Expr.{Expr}
use Rattle.lmn_base.specs.declared.guard.Expr.TheFolds.{fold-roll-Expr}
use Rattle.lmn_base.specs.declared.guard.Expr.TheOpen as step
use Rattle.lmn_base.specs.declared.guard.Expr.TheViews.{roll-Expr}
use Rattle.lmn_base.specs.declared.level.Leaf.TheVariants.{Atom, Typed}
use Rattle.lmn_base.specs.declared.level.Level as base_level
use Rattle.lmn_base.specs.declared.level.Level.TheViews.{roll-Level}
use Rattle.lmn_base.specs.declared.refusal.Pos.{Pos}
use Rattle.lmn_base.specs.declared.rule.Plain.{Plain}
use Rattle.lmn_base.specs.declared.rule.RuleTree.{RuleTree}
use Rattle.lmn_base.specs.Names as names_of_base
use Rattle.lmn_base.specs.Names.{IsNames, NamesPlain, context_names, level_names, expression_names, condition_names, rule_names, plain_names, first_names}
use Rattle.lmn_congruence.specs.Rules as tree
use Rattle.lmn_guards.specs.declared.plan.GuardPlan.{GuardPlan}
use Rattle.lmn_lexer.specs.Laying.{Word}
use Rattle.lmn_lexer.specs.Laying as laying
use Rattle.lmn_lexer.specs.declared.token.Token.{Token}
use Rattle.lmn_parser.specs.Syntax as syntax
use Rattle.lmn_parser.specs.Syntax.{Clauses}
use Rattle.lmn_flatten_plain.specs.Expanded.{ExpandedLeaf, atom_leaf, typed_leaf, Context, ExpandedLevel, level, ExpandedLevels, no_level, level_and, ExpandedRule}
use Rattle.lmn_flatten_plain.specs.Expansion.{parts_of}
use Rattle.lmn_flatten_plain.specs.Links.{Link}
use Rattle.lmn_flatten_plain.specs.Meanings.{name_at, place_at}
use Rattle.lmn_flatten_plain.specs.Parts.{level_from_parts}
use Rattle.lmn_flatten_plain.specs.Plains.{number_of, numbered_use, numbered_leaf, numbered_context, numbered, all_numbered, context_use, IsExpr, IsCond, IsRuleOf, IsPlainOf}
use Rattle.lmn_app_reading.specs.Texts.{IsAcceptedAs, ReadsAs}
use Rattle.lmn_app_reading.proofs.NamedPlains.{AllBelow}
use Rattle.lmn_schedule.specs.Held.{reading_by}
use Rattle.lmn_app_accepted.specs.Loading.{AcceptedAreNamedBehind}
use Rattle.lmn_app_accepted.specs.Rules.{AcceptedTexts}
use Rattle.lmn_app_accepted.proofs.FirstNames.{first_are_names}
use Rattle.lmn_app_accepted.proofs.HeldLevels.{LeafHeld, ContextHeld, LevelHeld, LevelsHeld, level_held}
use Rattle.lmn_app_accepted.proofs.NumbersBack.{Numbered}
use Rattle.lmn_app_accepted.proofs.OneProcess.{one_process}
use Rattle.lmn_base.proofs.Lists.{all_left as all_front, all_right as all_back}

-- a name that a list holds has its number there in a longer list too
number_there : (names more : List tree.Name) (n : tree.Name) → Numbered names n → number_of (names ++ more) n ≡ number_of names n
number_there [] more n h = absurd (omega (arith, h))
number_there (m ∷ ns) more n h = go (bytes_eq m n) h (number_there ns more n)
  where
    go : (t : Bool) → (if t then 0 else suc (number_of ns n)) < length (m ∷ ns) → (number_of ns n < length ns → number_of (ns ++ more) n ≡ number_of ns n)
        → (if t then 0 else suc (number_of (ns ++ more) n)) ≡ (if t then 0 else suc (number_of ns n))
    go true l same = refl
    go false l same = ap suc (same (omega (arith, l)))

module _ (names more : List tree.Name) where
  abbrev later : List tree.Name
  later = names ++ more

  -- ---- levels

  module _ (f : Link → ℕ) where
    leaf_there : (l : ExpandedLeaf) → LeafHeld names l → numbered_leaf later f l ≡ numbered_leaf names f l
    leaf_there (atom_leaf (tree.named n) us pos) h =
        ap (λ k. Atom (record { label = Name k; arity = length us }) (map (numbered_use names f) us) pos) (number_there names more n h)
    leaf_there (atom_leaf (tree.integer z) us pos) h = refl
    leaf_there (typed_leaf n u pos) h = ap (λ k. Typed k (numbered_use names f u) pos) (number_there names more n h)

    leaves_there : (ls : List ExpandedLeaf) → AllByRecursion (LeafHeld names) ls → map (numbered_leaf later f) ls ≡ map (numbered_leaf names f) ls
    leaves_there [] h = refl
    leaves_there (l ∷ ls) h = let first = leaf_there l h.0 in let rest = leaves_there ls h.1 in λ i. first i ∷ rest i

    contexts_there : (cs : List Context) → AllByRecursion (ContextHeld names) cs → map (numbered_context later f) cs ≡ map (numbered_context names f) cs
    contexts_there [] h = refl
    contexts_there (c ∷ cs) h =
        let first = number_there names more c.name h.0 in
        let rest = contexts_there cs h.1 in
        λ i. record { name = first i; closed = c.closed; pos = c.pos } ∷ rest i

    mutual
      level_there : (l : ExpandedLevel) → LevelHeld names l → numbered later f l ≡ numbered names f l
      level_there (level ls ms cs os rs) h =
          let leaves = leaves_there ls h.0 in
          let membranes = levels_there ms h.1 in
          let contexts = contexts_there cs h.2 in
          let rule_contexts = contexts_there os h.3 in
          λ i. roll-Level (record { leaves = leaves i; membranes = membranes i; contexts = contexts i; rule_contexts = rule_contexts i; rules = rs })

      levels_there : (ls : ExpandedLevels) → LevelsHeld names ls → all_numbered later f ls ≡ all_numbered names f ls
      levels_there no_level h = refl
      levels_there (level_and l ls) h = let first = level_there l h.0 in let rest = levels_there ls h.1 in λ i. first i ∷ rest i

    -- a level with numbers has the same by the longer list
    numbered_there : (l : ExpandedLevel) (b : base_level.Level) → b ≡ numbered names f l → AllBelow names (level_names b) → b ≡ numbered later f l
    numbered_there l b e h = e ∙ sym (level_there l (level_held names f l b e h))

  -- ---- rules

  module _ (words : List Word) (places : List Pos) where
    use_there : (p : ℕ) → Numbered names (name_at words places p) → context_use words places names p ≡ context_use words places later p
    use_there p h = ap (λ k. record { name = k; closed = false; pos = place_at words places p }) (sym (number_there names more (name_at words places p) h))

    uses_there : (ps : List ℕ) → AllBelow names (context_names (map (context_use words places names) ps)) → map (context_use words places names) ps ≡ map (context_use words places later) ps
    uses_there [] h = refl
    uses_there (p ∷ ps) h = let first = use_there p h.0 in let rest = uses_there ps h.1 in λ i. first i ∷ rest i

    expression_there : (x : syntax.Expr) (a : Expr) → IsExpr words places names x a → AllBelow names (expression_names a) → IsExpr words places later x a
    expression_there (syntax.integer p) a e u = e
    expression_there (syntax.value p) a e u =
        let here = subst (AllBelow names) (ap expression_names e ∙ fold-roll-Expr (List ℕ) names_of_base.expression_names_step _) u in
        e ∙ ap (λ c. roll-Expr (step.Ctx c)) (use_there p here.0)
    expression_there (syntax.operation op l r) a (left, right, e, hl, hr) u =
        let here = subst (AllBelow names) (ap expression_names e ∙ fold-roll-Expr (List ℕ) names_of_base.expression_names_step (step.Op op left right)) u in
        let P : ℕ → Type 0 = λ n. n < length names in (
          left,
          right,
          e,
          expression_there l left.value hl (all_front P (expression_names left.value) (expression_names right.value) here),
          expression_there r right.value hr (all_back P (expression_names left.value) (expression_names right.value) here),
        )

    condition_there : (x : syntax.WrittenCondition) (a : Cond) → IsCond words places names x a → AllBelow names (condition_names a) → IsCond words places later x a
    condition_there (syntax.called p ps) a e u =
        let here = subst (λ c. AllBelow names (condition_names c)) e u in
        let first = number_there names more (name_at words places p) here.0 in
        let rest = uses_there ps here.1 in
        e ∙ (λ i. cond.Kind (sym first i) (rest i) (place_at words places p))
    condition_there (syntax.compared op l r s) a (left, right, e, hl, hr) u =
        let here = subst (λ c. AllBelow names (condition_names c)) e u in
        let P : ℕ → Type 0 = λ n. n < length names in (
          left,
          right,
          e,
          expression_there l left hl (all_front P (expression_names left) (expression_names right) here),
          expression_there r right hr (all_back P (expression_names left) (expression_names right) here),
        )
    condition_there (syntax.equal p r s) a (right, e, hr) u =
        let here = subst (λ c. AllBelow names (condition_names c)) e u in
        (right, e ∙ ap (λ c. cond.Equal c right (place_at words places s)) (use_there p here.0), expression_there r right hr here.1)
    condition_there (syntax.different p q s) a e u =
        let here = subst (λ c. AllBelow names (condition_names c)) e u in
        let behind = here.1 in
        let first = use_there p here.0 in
        let second = use_there q behind.0 in
        e ∙ (λ i. cond.Differ (first i) (second i) (place_at words places s))

    guard_there : (xs : List syntax.WrittenCondition) (cs : List Cond) → AllZip (IsCond words places names) xs cs → AllBelow names (flat_map condition_names cs)
        → AllZip (IsCond words places later) xs cs
    guard_there [] [] h u = h
    guard_there [] (c ∷ cs) h u = h
    guard_there (x ∷ xs) [] h u = h
    guard_there (x ∷ xs) (c ∷ cs) h u =
        let P : ℕ → Type 0 = λ n. n < length names in
        (condition_there x c h.0 (all_front P (condition_names c) (flat_map condition_names cs) u), guard_there xs cs h.1 (all_back P (condition_names c) (flat_map condition_names cs) u))

    rule_there : (r : ExpandedRule) (t : RuleTree) → IsRuleOf words places names r t → AllBelow names (rule_names t) → IsRuleOf words places later r t
    rule_there r t h u =
        let P : ℕ → Type 0 = λ n. n < length names in
        let guards = flat_map condition_names t.guard in
        let front = all_front P (level_names t.head ++ guards) (level_names t.body) u in
        record {
          number = h.number;
          apart = h.apart;
          head = numbered_there h.number r.head t.head h.head (all_front P (level_names t.head) guards front);
          guard = guard_there r.guard t.guard h.guard (all_back P (level_names t.head) guards front);
          body = numbered_there h.number r.body t.body h.body (all_back P (level_names t.head ++ guards) (level_names t.body) u);
          pos = h.pos;
          table = h.table;
        }

    rules_there : (rs : List ExpandedRule) (ts : List RuleTree) → AllZip (IsRuleOf words places names) rs ts → AllBelow names (flat_map rule_names ts)
        → AllZip (IsRuleOf words places later) rs ts
    rules_there [] [] h u = h
    rules_there [] (t ∷ ts) h u = h
    rules_there (r ∷ rs) [] h u = h
    rules_there (r ∷ rs) (t ∷ ts) h u =
        let P : ℕ → Type 0 = λ n. n < length names in
        (rule_there r t h.0 (all_front P (rule_names t) (flat_map rule_names ts) u), rules_there rs ts h.1 (all_back P (rule_names t) (flat_map rule_names ts) u))

    plain_there : (t : Clauses) (p : Plain) → IsPlainOf words places names t p → AllBelow names (plain_names p) → IsPlainOf words places later t p
    plain_there t p h u =
        let P : ℕ → Type 0 = λ n. n < length names in
        let parts = parts_of words places t in
        record {
          number = h.number;
          apart = h.apart;
          top = numbered_there h.number (level_from_parts parts) p.top h.top (all_front P (level_names p.top) (flat_map rule_names p.rules) u);
          table = h.table;
          rules = rules_there parts.table p.rules h.rules (all_back P (level_names p.top) (flat_map rule_names p.rules) u);
        }

  -- ---- texts

  reads_there : (text : List ℕ) (plain : Plain) → NamesPlain names plain → ReadsAs text names plain → ReadsAs text later plain
  reads_there text plain named reads = record {
    tokens = reads.tokens;
    tree = reads.tree;
    right = reads.right;
    reads = reads.reads;
    within = reads.within;
    is_plain = plain_there (laying.words_of text reads.tokens) (map (λ (t : Token). t.pos) reads.tokens) reads.tree plain reads.is_plain
        (recursion_from_All (λ n. n < length names) (plain_names plain) named.1);
  }

  accepted_there : (text : List ℕ) (plain : Plain) (plans : List GuardPlan) → NamesPlain names plain → IsAcceptedAs text names plain plans → IsAcceptedAs text later plain plans
  accepted_there text plain plans named a =
      record { reads = reads_there text plain named a.reads; outside = a.outside; links = a.links; rules = a.rules; planned = a.planned }

  named_there : (plain : Plain) → NamesPlain names plain → IsNames later → NamesPlain later plain
  named_there plain named is = (is, λ k d l. let n = named.1 k d l in omega (arith, n, length-append names more))

-- the longer list has the names of the plain, by which its top is the same
pub named_behind : AcceptedTexts → AcceptedAreNamedBehind
named_behind laws text names more plain plans left a is =
    let named = laws.named text first_names names plain plans first_are_names left a in
    let known = named_there names more plain named is in
    let accepted = accepted_there names more text plain plans named a in
    let one = one_process text (names ++ more) names plain plain accepted.reads a.reads known named in (
      record { begins = is; known = known; rules = λ number k rule e. laws.tree_by_names text (names ++ more) plain plans accepted known (reading_by (names ++ more) plain.rules number) refl k rule e },
      one.tops,
    )
