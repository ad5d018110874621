-- The rules of an accepted text can be listed.
use Rattle.std.proofs.Common.{◌≡◌, ℕ, zero, suc, ◌<◌, ◌^◌, List, [], ◌∷◌, ◌++◌, map, length, Some, slice_get, refl, sym, ap, subst, arith}
use Rattle.std.specs.Prelude.{All}
use Rattle.std.specs.List.{AllByRecursion, flat_map}
use Rattle.std.proofs.lemmas.List.{length-map}
use Rattle.std.proofs.lemmas.List.Elements.{recursion_from_All, All-weaker}
use Rattle.std.proofs.lemmas.Option.{same_Some}
use Rattle.lmn_app_accepted.specs.Loading.{AcceptedAreNamed, AcceptedCanBeLoaded}
use Rattle.lmn_app_accepted.specs.Rules.{AcceptedTexts}
use Rattle.lmn_base.specs.declared.functor.Label.{Label}
use Rattle.lmn_base.specs.declared.functor.Label.TheVariants as label
use Rattle.lmn_base.specs.declared.level.Leaf.{Leaf}
use Rattle.lmn_base.specs.declared.level.Leaf.TheVariants as leaf
use Rattle.lmn_base.specs.declared.level.Level.{Level}
use Rattle.lmn_base.specs.declared.rule.RuleTree.{RuleTree}
use Rattle.lmn_base.specs.Levels.{leaves_of, contexts_of, rule_contexts_of, rules_of}
use Rattle.lmn_base.specs.Names.{HasNames, leaf_names, label_names, context_names, condition_names, level_names, rule_names}
use Rattle.lmn_base.specs.WellMade.{FitsArity}
use Rattle.lmn_base.proofs.Lists.{all_left, all_right, all_of_parts, all_of_right, get_below}
use Rattle.lmn_compile_body.specs.Accepted.{IsCompilable, rule_body_items, rule_body_names}
use Rattle.lmn_compile_head.specs.Accepted.{AcceptedHeads, head_items}
use Rattle.lmn_compile_head.specs.Heads.{kind_in}
use Rattle.lmn_compile_head.specs.Tables.{HasFewLinks}
use Rattle.lmn_congruence.specs.Rules.{Name}
use Rattle.lmn_congruence.specs.Rules as tree
use Rattle.lmn_congruence.specs.Translation.{rule_tree, numbered_rule}
use Rattle.lmn_guards.specs.declared.plan.GuardPlan.{GuardPlan}
use Rattle.lmn_lexer.specs.Laying.{word_of, words_of}
use Rattle.lmn_lexer.proofs.FewTokens.{few_tokens}
use Rattle.lmn_compile_listing.specs.Listings.{rule_code, rule_codes}
use Rattle.lmn_flatten_plain.specs.Spelled.{RuleSpelled}
use Rattle.lmn_app_runs.specs.Texts.{PlainsArePrintable}
use Rattle.lmn_schedule_strategy.proofs.BodyAll.{level_rules}
use Rattle.lmn_verify_compiled.specs.Kept.{IsKeptCode}
use Rattle.lmn_verify_compiled.specs.ListedTables.{ArePlainNames}
use Rattle.lmn_congruence.proofs.NumberedRules.{rule_has_number}
use Rattle.lmn_verify_listing.specs.Forms.{FitsLabel}
use Rattle.lmn_verify_compiled.specs.Laws.{AcceptedCanBeListed, AcceptedNamesAreFew}
use Rattle.lmn_verify_compiled.proofs.FewRules.{few_rules}
use Rattle.lmn_verify_compiled.proofs.ListableIntegers.{SpelledLeaf, guard_kept, in_64_bits, leaves_spelled}
use Rattle.lmn_verify_compiled.proofs.KeptBodies.{body_kept}
use Rattle.lmn_verify_compiled.proofs.KeptHeads.{head_kept}
use Rattle.lmn_verify_compiled.proofs.KeptItems.{KeptLeaf, body_items_kept, head_items_kept}
use Rattle.lmn_verify_compiled.proofs.PlainNames.{read_few, read_plain}
use Rattle.lmn_app_accepted.proofs.ReadPlains.{plain_read}

module _ (names : List Name) (rule : ℕ → tree.Rule) (few : length names < 2 ^ 32) where
  abbrev IsHeld : ℕ → Type 0
  IsHeld n = n < length names

  leaf_kept : (l : Leaf) → SpelledLeaf names rule l → AllByRecursion IsHeld (leaf_names l) → FitsArity l → HasFewLinks l → KeptLeaf l
  leaf_kept (leaf.Atom functor links pos) s h f l = ((fits functor.label s h, omega (arith, f, l)), l)
    where
      fits : (x : Label) → SpelledLeaf names rule (leaf.Atom (record { label = x; arity = functor.arity }) links pos) → AllByRecursion IsHeld (label_names x) → FitsLabel x
      fits (label.Name n) s h = let l = h.0 in omega (arith, l, few)
      fits (label.Int z) s h = in_64_bits z s.0
  leaf_kept (leaf.Typed name link pos) s h f l = tt

  leaves_kept : (ls : List Leaf) → AllByRecursion (SpelledLeaf names rule) ls → AllByRecursion IsHeld (flat_map leaf_names ls) → AllByRecursion FitsArity ls → AllByRecursion HasFewLinks ls
      → AllByRecursion KeptLeaf ls
  leaves_kept [] s h f l = tt
  leaves_kept (x ∷ ls) s h f l = (
    leaf_kept x s.0 (all_left IsHeld (leaf_names x) (flat_map leaf_names ls) h) f.0 l.0,
    leaves_kept ls s.1 (all_right IsHeld (leaf_names x) (flat_map leaf_names ls) h) f.1 l.1,
  )

  level_held : (l : Level) → AllByRecursion IsHeld (level_names l) → AllByRecursion IsHeld (flat_map leaf_names (leaves_of l))
  level_held l h =
      let ls = flat_map leaf_names (leaves_of l) in
      let cs = context_names (contexts_of l) in
      all_left IsHeld ls cs (all_left IsHeld (ls ++ cs) (context_names (rule_contexts_of l)) h)

  -- a listing keeps the code of a rule
  pub rule_kept : AcceptedHeads → (table : List RuleTree) (r : RuleTree) (plan : GuardPlan) → IsCompilable table r plan → RuleSpelled (rule_tree names rule r)
      → HasNames names (rule_names r) → All (λ k. k < 2 ^ 64) (rules_of r.body) → IsKeptCode (rule_code r plan)
  rule_kept heads table r plan whole s known rules =
      let room = heads.room table r plan whole.ready in
      let arities = recursion_from_All FitsArity (leaves_of r.head ++ leaves_of r.body) whole.ready.made.arities in
      let all = recursion_from_All IsHeld (rule_names r) known in
      let guard = flat_map condition_names r.guard in
      let above = all_left IsHeld (level_names r.head) guard (all_left IsHeld (level_names r.head ++ guard) (level_names r.body) all) in
      let below = all_right IsHeld (level_names r.head ++ guard) (level_names r.body) all in
      let in_head = leaves_kept (leaves_of r.head) (leaves_spelled names rule r.head s.0) (level_held r.head above) (all_left FitsArity (leaves_of r.head) (leaves_of r.body) arities) whole.ready.few_links in
      let in_body = leaves_kept (leaves_of r.body) (leaves_spelled names rule r.body s.2) (level_held r.body below) (all_right FitsArity (leaves_of r.head) (leaves_of r.body) arities) whole.few_links in (
        head_kept (head_items r plan) r.guard room.items (guard_kept names r.guard s.1) (head_items_kept (kind_in plan.kinds) r.head in_head),
        body_kept (head_items r plan) (rule_body_items r plan) (length r.links) (body_items_kept (rule_body_names r plan) _ r.body in_body)
            (level_rules (rule_body_names r plan) (λ k. k < 2 ^ 64) _ r.body rules),
      )

-- what holds of the code of each rule holds of all
each_code : (table : List RuleTree) (plans : List GuardPlan)
    → ((k : ℕ) (r : RuleTree) (plan : GuardPlan) → slice_get table k ≡ Some r → slice_get plans k ≡ Some plan → IsKeptCode (rule_code r plan))
    → AllByRecursion IsKeptCode (rule_codes table plans)
each_code [] plans h = tt
each_code (r ∷ rs) [] h = tt
each_code (r ∷ rs) (plan ∷ plans) h = (h 0 r plan refl refl, each_code rs plans (λ k s q e f. h (suc k) s q e f))

-- all of the rules of a table have what each of a list has
of_rule : (P : RuleTree → Type 0) (table : List RuleTree) (k : ℕ) (r : RuleTree) → AllByRecursion P table → slice_get table k ≡ Some r → P r
of_rule P [] k r h e = absurd (cc)
of_rule P (s ∷ rs) zero r h e = subst P (same_Some s r e) h.0
of_rule P (s ∷ rs) (suc k) r h e = of_rule P rs k r h.1 e

-- an accepted text has few names
pub accepted_names_are_few : AcceptedNamesAreFew
accepted_names_are_few text names plain plans left a =
    let reads = a.reads in
    let words = words_of text reads.tokens in
    let are = left reads.tokens reads.tree reads.right reads.reads reads.within in
    let tokens = few_tokens text reads.tokens reads.reads.cut in
    let spoken = length-map reads.tokens (word_of text) in
    let many = read_few words in
    let same = ap length are in
    omega (arith, tokens, spoken, many, same)

-- the rules of an accepted text can be listed
pub accepted_can_be_listed : AcceptedTexts → AcceptedCanBeLoaded → AcceptedAreNamed → AcceptedHeads → PlainsArePrintable → AcceptedCanBeListed
accepted_can_be_listed accepted loads are_named heads prints text names plain plans short left a =
    let load = loads text names plain plans left a in
    let named = (are_named text names plain plans left a).known.1 in
    let reads = a.reads in
    let words = words_of text reads.tokens in
    let are = left reads.tokens reads.tree reads.right reads.reads reads.within in
    let tokens = few_tokens text reads.tokens reads.reads.cut in
    let many = accepted_names_are_few text names plain plans left a in
    let few_names : length names < 2 ^ 32 = omega (arith, short, many) in
    let rules = few_rules reads.tokens words (map (λ t. t.pos) reads.tokens) names reads.tree plain reads.reads.is_tree reads.is_plain in
    let few : length plain.rules < 2 ^ 32 = omega (arith, rules, tokens, short) in
    let printable = prints text names plain (plain_read accepted text names plain plans left a) in
    let each = recursion_from_All (λ r. HasNames names (rule_names r)) plain.rules
    (all_of_parts (λ n. n < length names) rule_names plain.rules (all_of_right (λ n. n < length names) (level_names plain.top) (flat_map rule_names plain.rules) named)) in
    record {
      made = load.made;
      whole = load.plans_are;
      named = named;
      short = subst ArePlainNames (sym are) (read_plain text reads.tokens reads.reads.cut reads.right);
      few = few;
      kept = each_code plain.rules plans (λ k r plan e f.
          let spelled = subst RuleSpelled (rule_has_number names plain k r load.made e) (printable.rules k (get_below plain.rules k r e)).0 in
          let inner = all_of_right (λ j. (k < j) × (j < length plain.rules)) (rules_of r.head) (rules_of r.body) (load.made.rules_in_rules k r e) in
          let below = All-weaker (λ j. (k < j) × (j < length plain.rules)) (λ j. j < 2 ^ 64) (λ j w. let l = w.1 in omega (arith, l, few)) (rules_of r.body) inner in
          rule_kept names (numbered_rule names plain.rules) few_names heads plain.rules r plan (load.plans_are.whole k r plan e f) spelled
          (of_rule (λ r. HasNames names (rule_names r)) plain.rules k r each e) below);
    }
