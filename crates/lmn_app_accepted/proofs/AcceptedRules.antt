-- The rules of an accepted text are accepted as trees.
use Rattle.std.proofs.Common.{ℕ, suc, ◌≡◌, ◌≤◌, ◌<◌, ◌==◌, inl, inr, ◌&&◌, Bool, true, false, List, [], ◌∷◌, ◌++◌, map, length, All, Contains, refl, sym, ap, subst, ◌∙◌, arith}
use Rattle.std.specs.Prelude.{IsSome, ◌||◌, if◌then◌else◌}
use Rattle.std.proofs.lemmas.Bool.{eqb-true}
use Rattle.std.specs.List.{AllByRecursion, flat_map, list_any}
use Rattle.std.proofs.lemmas.List.Concat.{flat_map-append}
use Rattle.std.proofs.lemmas.List.Elements.{All-head, Contains-append_left, Contains-append_right, recursion_from_All}
use Rattle.lmn_base.specs.declared.guard.Cond.{Cond}
use Rattle.lmn_base.specs.declared.item.Item.{Item}
use Rattle.lmn_base.specs.declared.level.CtxUse.{CtxUse}
use Rattle.lmn_base.specs.declared.level.Leaf.{Leaf}
use Rattle.lmn_base.specs.declared.level.Level.{Level, out-Level}
use Rattle.lmn_base.specs.declared.level.Level.TheFolds.{fold_out-Level}
use Rattle.lmn_base.specs.declared.level.Occ.{Occ}
use Rattle.lmn_base.specs.declared.refusal.Pos.{Pos}
use Rattle.lmn_base.specs.declared.rule.RuleTree.{RuleTree}
use Rattle.lmn_base.specs.Firsts.{Row, NoneApplies}
use Rattle.lmn_base.specs.Items.{items_of, leaf_item, untyped_form, untyped as base_untyped}
use Rattle.lmn_base.specs.Levels.{contexts_of, rule_contexts_of, rules_of}
use Rattle.lmn_base.specs.Names.{IsNames, HasNames, label_names, leaf_names, level_names, condition_names, rule_names, context_names}
use Rattle.lmn_base_walks.specs.RuleCodes.{connector_in_head, connector_place, is_connector_label, seconds_by_membrane}
use Rattle.lmn_base.specs.Solids.{connector}
use Rattle.lmn_base.specs.Uses.{is_some_place}
use Rattle.lmn_base.specs.WellMade.{FitsArity, IsWellMadeRule}
use Rattle.lmn_adequacy.specs.Accepted.{Accepted, GivesType, InTurn, EachLevel, EachOf, AtMostOne, NoConnectorLeaf, own_leaves, own_membranes, own_contexts, own_rule_contexts, own_rules, all_contexts, open_names, closed_names, all_rule_contexts, typed_links, port_links, left_sides}
use Rattle.lmn_congruence.proofs.TranslatedLinks.{linked_rules}
use Rattle.lmn_congruence.specs.Orders.{Among, at_head, further, Shuffle, EachOnce}
use Rattle.lmn_congruence.specs.Translation.{context_tree, level_of, condition_of, rule_tree}
use Rattle.lmn_guards.proofs.AcceptedLemmas.{in_order}
use Rattle.lmn_guards.proofs.OrderLemmas.{not_then}
use Rattle.lmn_guards.specs.Accepted.{IsAcceptedRule, IsInOrder}
use Rattle.lmn_guards.specs.GuardCodes.{holds, rows_of_conditions, rows_of_typed, type_of}
use Rattle.lmn_reduction.specs.Firing.{typed_contexts}
use Rattle.lmn_solid_heads.proofs.HeadTrees.{Head, Heads, head, no_head, head_and, heads, head_step, head_at, head_leaves, heads_leaves, same_leaves, head_uses, heads_uses, same_uses, head_number, same_number}
use Rattle.lmn_app_accepted.proofs.InTurns.{guard_in_turn}
use Rattle.lmn_app_accepted.proofs.Types.{left_among, type_given}
use Rattle.lmn_app_accepted.proofs.Counts.{guard_typed, kept, closed_known, once_in_head, rule_context_known, rule_context_once, typed_in_head, typed_known}
use Rattle.lmn_app_accepted.proofs.Listed.{alone, each_so, how_often_here, some_of, among_name, name_among, N, each_once, same_shuffle}
use Rattle.lmn_linkcheck.proofs.LinkedLemmas.{how_often}
use Rattle.lmn_app_accepted.proofs.PlanKinds.{leaf_name}
use Rattle.lmn_app_accepted.proofs.Items.{untyped_name, bare_name, closed_name, typed_name, rule_context_name, rule_number, own_seconds, all_seconds, gathered_in, rules_are, contexts_are, rule_contexts_are, typed_are}
use Rattle.lmn_app_accepted.proofs.Trees.{name_in, contexts_named, open_named, closed_named, rule_contexts_named, typed_named, no_rules_stand, IsPlainLeaf, typed_link, atom_links, LevelIs, level_is, few_in}
use Rattle.lmn_base.proofs.Lists.{all_append, all_left as all_front, all_right as all_back, two_empty, all_of_left}
use Rattle.lmn_congruence.proofs.Common.{among_left, among_right, among_map}
use Rattle.lmn_adequacy_heaps.proofs.HeadTrees.{tree_of, level_tree}
use Rattle.lmn_app_reading.proofs.NamedPlains.{Below, AllBelow}
use Rattle.lmn_base.specs.declared.item.Form.TheVariants as form
use Rattle.lmn_base.specs.declared.item.Item.TheVariants as item
use Rattle.lmn_base.specs.declared.level.Leaf.TheVariants as leaf
use Rattle.lmn_base.specs.Levels as base
use Rattle.lmn_congruence.specs.Rules as tree

-- ---- lists

-- what differs by a part of it differs
once_by : {A B : Type 0} (f : A → B) (xs : List A) → EachOnce (map f xs) → EachOnce xs
once_by f [] h = tt
once_by f (x ∷ xs) h = ((λ a. h.0 (among_map f a)), once_by f xs h.1)

-- ---- names that are known

module _ (names : List tree.Name) where
  leaves_known : (ls : List Leaf) → AllByRecursion (Below names) (flat_map leaf_names ls) → AllBelow names (flat_map leaf_name ls)
  leaves_known [] h = tt
  leaves_known (leaf.Atom f os p ∷ ls) h = leaves_known ls (all_back (Below names) (label_names f.label) (flat_map leaf_names ls) h)
  leaves_known (leaf.Typed n o p ∷ ls) h = (h.0, leaves_known ls h.1)

  record LevelKnown (l : Level) : Type 0 where
    untyped : AllBelow names (flat_map untyped_name (items_of l))
    rule_contexts : AllBelow names (flat_map rule_context_name (items_of l))
    typed : AllBelow names (flat_map typed_name (items_of l))

  level_known : (l : Level) → AllByRecursion (Below names) (level_names l) → LevelKnown l
  level_known l h =
      let P : List ℕ → Type 0 = AllByRecursion (Below names) in
      let front = all_front (Below names) (flat_map leaf_names (base.leaves_of l) ++ context_names (contexts_of l)) (context_names (rule_contexts_of l)) h in
      let others = all_back (Below names) (flat_map leaf_names (base.leaves_of l) ++ context_names (contexts_of l)) (context_names (rule_contexts_of l)) h in
      let leaves = all_front (Below names) (flat_map leaf_names (base.leaves_of l)) (context_names (contexts_of l)) front in
      let contexts = all_back (Below names) (flat_map leaf_names (base.leaves_of l)) (context_names (contexts_of l)) front in
      record {
        untyped = subst P (contexts_are l ∙ ap (flat_map untyped_name) (sym (same_uses l))) contexts;
        rule_contexts = subst P (rule_contexts_are l ∙ ap (flat_map rule_context_name) (sym (same_uses l))) others;
        typed = subst P (typed_are l ∙ ap (flat_map typed_name) (sym (same_uses l))) (leaves_known (base.leaves_of l) leaves);
      }

  conditions_known : (cs : List Cond) → AllByRecursion (Below names) (flat_map condition_names cs) → AllByRecursion (λ c. AllBelow names (condition_names c)) cs
  conditions_known [] h = tt
  conditions_known (c ∷ cs) h = (all_front (Below names) (condition_names c) (flat_map condition_names cs) h, conditions_known cs (all_back (Below names) (condition_names c) (flat_map condition_names cs) h))

-- ---- one level as a tree

module _ (names : List tree.Name) (rule : ℕ → tree.Rule) (l : Level) where
  contexts_tree : map name_in (all_contexts (level_of names rule l)) ≡ map (N names) (flat_map untyped_name (items_of l))
  contexts_tree = ap (λ l. map name_in (all_contexts l)) (level_tree names rule l) ∙ contexts_named names rule (head_at l) ∙ ap (λ xs. map (N names) (flat_map untyped_name xs)) (sym (same_uses l))

  open_tree : open_names (all_contexts (level_of names rule l)) ≡ map (N names) (flat_map bare_name (items_of l))
  open_tree = ap (λ l. open_names (all_contexts l)) (level_tree names rule l) ∙ open_named names rule (head_at l) ∙ ap (λ xs. map (N names) (flat_map bare_name xs)) (sym (same_uses l))

  closed_tree : closed_names (all_contexts (level_of names rule l)) ≡ map (N names) (flat_map closed_name (items_of l))
  closed_tree = ap (λ l. closed_names (all_contexts l)) (level_tree names rule l) ∙ closed_named names rule (head_at l) ∙ ap (λ xs. map (N names) (flat_map closed_name xs)) (sym (same_uses l))

  rule_contexts_tree : all_rule_contexts (level_of names rule l) ≡ map (N names) (flat_map rule_context_name (items_of l))
  rule_contexts_tree = ap all_rule_contexts (level_tree names rule l) ∙ rule_contexts_named names rule (head_at l) ∙ ap (λ xs. map (N names) (flat_map rule_context_name xs)) (sym (same_uses l))

  typed_tree : typed_contexts (level_of names rule l) ≡ map (N names) (flat_map typed_name (items_of l))
  typed_tree = ap typed_contexts (level_tree names rule l) ∙ typed_named names rule (head_at l) ∙ ap (λ xs. map (N names) (flat_map typed_name xs)) (sym (same_uses l))

  opened : level_of names rule l ≡ tree_of names rule (head (out-Level l).leaves (heads (map head_at (out-Level l).membranes)) (out-Level l).contexts (out-Level l).rule_contexts (out-Level l).rules)
  opened = level_tree names rule l ∙ ap (tree_of names rule) (fold_out-Level Head head_step l)

  empty_tree : (h : Head) → tree_of names rule h ≡ tree.level [] tree.no_level [] [] tree.no_rule → head_number h ≡ 0
  empty_tree (head [] no_head [] [] []) e = refl
  empty_tree (head (x ∷ ls) hs cs os rs) e = absurd (cc)
  empty_tree (head [] (head_and h hs) cs os rs) e = absurd (cc)
  empty_tree (head [] no_head (c ∷ cs) os rs) e = absurd (cc)
  empty_tree (head [] no_head [] (o ∷ os) rs) e = absurd (cc)
  empty_tree (head [] no_head [] [] (k ∷ rs)) e = absurd (cc)

-- ---- connectors

abbrev NoPlace : Leaf → Type 0
NoPlace l = connector_place (leaf_item l) ≡ []

leaves_nowhere : (ls : List Leaf) → flat_map connector_place (map leaf_item ls) ≡ [] → AllByRecursion NoPlace ls
leaves_nowhere [] e = tt
leaves_nowhere (l ∷ ls) e = let apart = two_empty (connector_place (leaf_item l)) (flat_map connector_place (map leaf_item ls)) e in (apart.0, leaves_nowhere ls apart.1)

mutual
  head_nowhere : (h : Head) → flat_map connector_place (head_uses h) ≡ [] → AllByRecursion NoPlace (head_leaves h)
  head_nowhere (head ls hs cs os rs) e =
      let more = map base_untyped cs ++ (map item.RuleContext os ++ map item.Rule rs) in
      let own = map leaf_item ls ++ more in
      let apart = two_empty (flat_map connector_place own) (flat_map connector_place (heads_uses hs)) (sym (flat_map-append connector_place own (heads_uses hs)) ∙ e) in
      let here = two_empty (flat_map connector_place (map leaf_item ls)) (flat_map connector_place more) (sym (flat_map-append connector_place (map leaf_item ls) more) ∙ apart.0) in
      all_append NoPlace ls (heads_leaves hs) (leaves_nowhere ls here.0) (heads_nowhere hs apart.1)

  heads_nowhere : (hs : Heads) → flat_map connector_place (heads_uses hs) ≡ [] → AllByRecursion NoPlace (heads_leaves hs)
  heads_nowhere no_head e = tt
  heads_nowhere (head_and h hs) e =
      let apart = two_empty (flat_map connector_place (head_uses h)) (flat_map connector_place (heads_uses hs)) (sym (flat_map-append connector_place (head_uses h) (heads_uses hs)) ∙ e) in
      all_append NoPlace (head_leaves h) (heads_leaves hs) (head_nowhere h apart.0) (heads_nowhere hs apart.1)

plain_leaves : (names : List tree.Name) (rule : ℕ → tree.Rule) (ls : List Leaf) → AllByRecursion NoPlace ls → AllByRecursion FitsArity ls → AllByRecursion (IsPlainLeaf names rule) ls
plain_leaves names rule [] h k = tt
plain_leaves names rule (leaf.Typed n o p ∷ ls) h k = (tt, plain_leaves names rule ls h.1 k.1)
plain_leaves names rule (leaf.Atom f os p ∷ ls) h k = ((k.0, not_one), plain_leaves names rule ls h.1 k.1)
  where
    not_one : f ≡ connector → ⊥
    not_one e =
        let no = not_then (is_connector_label f.label && (f.arity == 2)) p h.0 in
        let yes : (is_connector_label f.label && (f.arity == 2)) ≡ true = ap (λ g. is_connector_label g.label && (g.arity == 2)) e in
        let clash : true ≡ false = sym yes ∙ no in
        cc

-- ---- links that are held

linked_there : (x : ℕ) (os : List Occ) → list_any (λ o. o.link == x) os ≡ true → Among x (map (λ o. o.link) os)
linked_there x [] e = absurd (cc)
linked_there x (o ∷ os) e = on (o.link == x) refl e (λ f. linked_there x os f)
  where
    on : (b : Bool) → (o.link == x) ≡ b → (b || list_any (λ o. o.link == x) os) ≡ true → (list_any (λ o. o.link == x) os ≡ true → Among x (map (λ o. o.link) os))
        → Among x (o.link ∷ map (λ o. o.link) os)
    on true q e rest = subst (λ y. Among y (o.link ∷ map (λ o. o.link) os)) (eqb-true o.link x q) at_head
    on false q e rest = further (rest e)

held_there : (names : List tree.Name) (rule : ℕ → tree.Rule) (x : ℕ) (ls : List Leaf) → is_some_place (flat_map (holds x) ls) ≡ true → Among x (flat_map (atom_links names rule) ls)
held_there names rule x [] e = absurd (cc)
held_there names rule x (leaf.Typed n o p ∷ ls) e = held_there names rule x ls e
held_there names rule x (leaf.Atom f os p ∷ ls) e = by (list_any (λ o. o.link == x) os) refl e (λ g. held_there names rule x ls g)
  where
    by : (b : Bool) → list_any (λ o. o.link == x) os ≡ b → is_some_place ((if b then p ∷ [] else []) ++ flat_map (holds x) ls) ≡ true
        → (is_some_place (flat_map (holds x) ls) ≡ true → Among x (flat_map (atom_links names rule) ls)) → Among x (map (λ o. o.link) os ++ flat_map (atom_links names rule) ls)
    by true q e rest = among_left (flat_map (atom_links names rule) ls) (linked_there x os q)
    by false q e rest = among_right (map (λ o. o.link) os) (rest e)

-- a typed leaf with a link
abbrev TypedWith : ℕ → List Leaf → Type 0
TypedWith x ls = (n : ℕ) × (o : Occ) × (p : Pos) × Contains ls (leaf.Typed n o p) × (o.link ≡ x)

typed_later : (x : ℕ) (l : Leaf) (ls : List Leaf) → TypedWith x ls → TypedWith x (l ∷ ls)
typed_later x l ls t = let c = t.3 in (t.0, t.1, t.2, (suc c.0, (let w = c.1 in omega (arith, w)), c.2), t.4)

typed_link_there : (names : List tree.Name) (rule : ℕ → tree.Rule) (x : ℕ) (ls : List Leaf) → Among x (flat_map (typed_link names rule) ls) → TypedWith x ls
typed_link_there names rule x [] a = elim a [ ]
typed_link_there names rule x (leaf.Atom f os p ∷ ls) a = typed_later x (leaf.Atom f os p) ls (typed_link_there names rule x ls a)
typed_link_there names rule x (leaf.Typed n o p ∷ ls) a = by a refl (λ k. typed_link_there names rule x ls k)
  where
    by : {ys : List ℕ} → Among x ys → ys ≡ o.link ∷ flat_map (typed_link names rule) ls → (Among x (flat_map (typed_link names rule) ls) → TypedWith x ls) → TypedWith x (leaf.Typed n o p ∷ ls)
    by at_head e rest = (n, o, p, (0, omega arith, refl), cc)
    by (further {ys = zs} k) e rest =
        let tail : zs ≡ flat_map (typed_link names rule) ls = cc in
        typed_later x (leaf.Typed n o p) ls (rest (subst (λ ws. Among x ws) tail k))

-- ---- the rule

module _ (names : List tree.Name) (rule : ℕ → tree.Rule) (is_names : IsNames names) (table : List RuleTree) (r : RuleTree)
    (accepted : IsAcceptedRule table r) (made : IsWellMadeRule r) (numbers : All (λ k. k < length table) (rules_of r.head)) (known : HasNames names (rule_names r)) where
  order : IsInOrder table r
  order = in_order table r accepted

  known_parts : LevelKnown names r.head × AllByRecursion (λ c. AllBelow names (condition_names c)) r.guard × LevelKnown names r.body
  known_parts =
      let P : ℕ → Type 0 = λ n. n < length names in
      let all = recursion_from_All P (rule_names r) known in
      let front = all_front P (level_names r.head ++ flat_map condition_names r.guard) (level_names r.body) all in (
        level_known names r.head (all_front P (level_names r.head) (flat_map condition_names r.guard) front),
        conditions_known names r.guard (all_back P (level_names r.head) (flat_map condition_names r.guard) front),
        level_known names r.body (all_back P (level_names r.head ++ flat_map condition_names r.guard) (level_names r.body) all),
      )

  -- no rule stands in the head
  no_numbers : flat_map rule_number (items_of r.head) ≡ []
  no_numbers = by (flat_map rule_number (items_of r.head)) refl
    where
      of_rule : (x : Item) (k : ℕ) → 1 ≤ how_often k (rule_number x) → x ≡ item.Rule k
      of_rule (item.Atom f p) k h = absurd (omega (arith, h))
      of_rule (item.Context u) k h = absurd (omega (arith, h))
      of_rule (item.RuleContext u) k h = absurd (omega (arith, h))
      of_rule (item.Rule j) k h = ap item.Rule (alone k j h)

      by : (ks : List ℕ) → flat_map rule_number (items_of r.head) ≡ ks → ks ≡ []
      by [] e = refl
      by (k ∷ ks) e = absurd (
          let found = some_of rule_number k (items_of r.head) (subst (λ ks. 1 ≤ how_often k ks) (sym e) (let h = how_often_here k ks in omega (arith, h))) in
          let beyond = order.no_rule k (subst (Contains (items_of r.head)) (of_rule found.0 k found.2) found.1) in
          let same : rules_of r.head ≡ k ∷ ks = rules_are r.head ∙ ap (flat_map rule_number) (sym (same_uses r.head)) ∙ e in
          let within = All-head (λ k. k < length table) k ks (subst (All (λ k. k < length table)) same numbers) in
          omega (arith, beyond, within)
          )

  level_facts : LevelIs names rule (head_at r.head)
  level_facts =
      let nowhere = accepted.contexts 3 (connector_in_head r) (omega arith) in
      let P : List Item → Type 0 = λ xs. flat_map connector_place xs ≡ [] in
      let no = head_nowhere (head_at r.head) (subst P (same_uses r.head) nowhere) in
      let fits = all_front FitsArity (base.leaves_of r.head) (base.leaves_of r.body) (recursion_from_All FitsArity (base.leaves_of r.head ++ base.leaves_of r.body) made.arities) in
      let Q : List Leaf → Type 0 = AllByRecursion FitsArity in
      level_is names rule (head_at r.head) (plain_leaves names rule (head_leaves (head_at r.head)) no (subst Q (same_leaves r.head) fits))

  no_own_contexts : (out-Level r.head).contexts ≡ []
  no_own_contexts = by (out-Level r.head).contexts refl
    where
      not_typed : (closed : Bool) → untyped_form closed ≡ form.Typed → ⊥
      not_typed true e = absurd (cc)
      not_typed false e = absurd (cc)

      by : (cs : List CtxUse) → (out-Level r.head).contexts ≡ cs → cs ≡ []
      by [] e = refl
      by (c ∷ cs) e = absurd (
          let o = out-Level r.head in
          let here : Contains (map base_untyped (c ∷ cs)) (base_untyped c) = (0, omega arith, refl) in
          let there : Contains (map base_untyped o.contexts) (base_untyped c) = subst (λ us. Contains (map base_untyped us) (base_untyped c)) (sym e) here in
          let inside = Contains-append_right (map leaf_item o.leaves) (map base_untyped o.contexts ++ (map item.RuleContext o.rule_contexts ++ map item.Rule o.rules)) (base_untyped c)
          (Contains-append_left (map base_untyped o.contexts) (map item.RuleContext o.rule_contexts ++ map item.Rule o.rules) (base_untyped c) there) in
          not_typed c.closed (order.no_context_at_top (record { name = c.name; form = untyped_form c.closed; pos = c.pos }) inside)
          )

  no_own_rule_contexts : (out-Level r.head).rule_contexts ≡ []
  no_own_rule_contexts = by (out-Level r.head).rule_contexts refl
    where
      by : (cs : List CtxUse) → (out-Level r.head).rule_contexts ≡ cs → cs ≡ []
      by [] e = refl
      by (c ∷ cs) e = absurd (
          let o = out-Level r.head in
          let here : Contains (map item.RuleContext (c ∷ cs)) (item.RuleContext c) = (0, omega arith, refl) in
          let there : Contains (map item.RuleContext o.rule_contexts) (item.RuleContext c) = subst (λ us. Contains (map item.RuleContext us) (item.RuleContext c)) (sym e) here in
          let inside = Contains-append_right (map leaf_item o.leaves) (map base_untyped o.contexts ++ (map item.RuleContext o.rule_contexts ++ map item.Rule o.rules)) (item.RuleContext c)
          (Contains-append_right (map base_untyped o.contexts) (map item.RuleContext o.rule_contexts ++ map item.Rule o.rules) (item.RuleContext c)
          (Contains-append_left (map item.RuleContext o.rule_contexts) (map item.Rule o.rules) (item.RuleContext c) there)) in
          order.no_rule_context_at_top c inside
          )

  names_of_nothing : {A B : Type 0} (f : A → B) (xs : List A) → xs ≡ [] → map f xs ≡ []
  names_of_nothing f xs e = ap (map f) e

  condition_rows : NoneApplies (rows_of_conditions r.head [] r.guard)
  condition_rows = all_of_left (λ (row : Row). row.places ≡ []) (rows_of_conditions r.head [] r.guard) (rows_of_typed r) accepted.guard

  typed_leaf : (n : ℕ) → 1 ≤ how_often n (flat_map typed_name (items_of r.head)) → IsSome (type_of r.head r.guard n)
  typed_leaf n h =
      let same = typed_are r.head ∙ ap (flat_map typed_name) (sym (same_uses r.head)) in
      let found = some_of leaf_name n (base.leaves_of r.head) (subst (λ ns. 1 ≤ how_often n ns) (sym same) h) in
      by found.0 found.1 found.2
    where
      by : (l : Leaf) → Contains (base.leaves_of r.head) l → 1 ≤ how_often n (leaf_name l) → IsSome (type_of r.head r.guard n)
      by (leaf.Atom f os p) c h = absurd (omega (arith, h))
      by (leaf.Typed m o p) c h = subst (λ k. IsSome (type_of r.head r.guard k)) (alone n m h) (order.has_type m o p c)

  held_at : (x : ℕ) → Among x (typed_links (level_of names rule r.head)) → Among x (port_links (level_of names rule r.head))
  held_at x a =
      let typed = ap typed_links (level_tree names rule r.head) ∙ level_facts.typed ∙ ap (flat_map (typed_link names rule)) (sym (same_leaves r.head)) in
      let ports = ap port_links (level_tree names rule r.head) ∙ level_facts.ports ∙ ap (flat_map (atom_links names rule)) (sym (same_leaves r.head)) in
      let t = typed_link_there names rule x (base.leaves_of r.head) (subst (λ xs. Among x xs) typed a) in
      let some = subst (λ y. is_some_place (flat_map (holds y) (base.leaves_of r.head)) ≡ true) t.4 (order.is_held t.0 t.1 t.2 t.3) in
      subst (λ xs. Among x xs) (sym ports) (held_there names rule x (base.leaves_of r.head) some)

  shuffled : Shuffle (λ p q. p ≡ q) (map (N names) (flat_map bare_name (items_of r.head))) (map (N names) (flat_map bare_name (items_of r.body)))
      → Shuffle (λ p q. p ≡ q) (open_names (all_contexts (level_of names rule r.head))) (open_names (all_contexts (level_of names rule r.body)))
  shuffled h =
      subst (λ xs. Shuffle (λ (p : tree.Name) (q : tree.Name). p ≡ q) xs (open_names (all_contexts (level_of names rule r.body)))) (sym (open_tree names rule r.head))
      (subst (λ ys. Shuffle (λ (p : tree.Name) (q : tree.Name). p ≡ q) (map (N names) (flat_map bare_name (items_of r.head))) ys) (sym (open_tree names rule r.body)) h)

  turned : InTurn (map (N names) (flat_map typed_name (items_of r.head))) [] (map (condition_of names) r.guard) → InTurn (typed_contexts (level_of names rule r.head)) [] (map (condition_of names) r.guard)
  turned h = subst (λ xs. InTurn xs [] (map (condition_of names) r.guard)) (sym (typed_tree names rule r.head)) h

  seconds_empty : (ms : List Level) → ((ps : List Pos) → Contains (flat_map seconds_by_membrane ms) ps → ps ≡ []) → AllByRecursion (λ ps. ps ≡ []) (gathered_in own_seconds (heads (map head_at ms)))
  seconds_empty ms h =
      let P : List (List Pos) → Type 0 = AllByRecursion (λ (ps : List Pos). ps ≡ []) in
      subst P (all_seconds ms) (each_so (λ (ps : List Pos). ps ≡ []) (flat_map seconds_by_membrane ms) h)

  pub accepted_tree : Accepted (rule_tree names rule r)
  accepted_tree =
      let linked = linked_rules names rule r in
      let E = λ (l : tree.Level). EachLevel (λ l. NoConnectorLeaf (own_leaves l)) l in
      let R = λ (l : tree.Level). EachLevel (λ l. own_rules l ≡ tree.no_rule) l in
      let F = λ (l : tree.Level). EachOf (λ l. AtMostOne (own_contexts l) × AtMostOne (own_rule_contexts l)) (own_membranes l) in
      let Q : List Item → Type 0 = λ xs. flat_map rule_number xs ≡ [] in
      let k = known_parts in
      let o = out-Level r.head in
      record {
        linked = linked.0 accepted.linked;
        not_empty = λ e. (let zero' = empty_tree names rule r.head (head_at r.head) (sym (level_tree names rule r.head) ∙ e) in order.holds_something (same_number r.head ∙ zero'));
        no_connectors = subst E (sym (level_tree names rule r.head)) level_facts.no_connectors;
        no_rules = subst R (sym (level_tree names rule r.head)) (no_rules_stand names rule (head_at r.head) (subst Q (same_uses r.head) no_numbers));
        top_contexts = ap own_contexts (opened names rule r.head) ∙ names_of_nothing (context_tree names) o.contexts no_own_contexts;
        top_rule_contexts = ap own_rule_contexts (opened names rule r.head) ∙ names_of_nothing (λ u. N names u.name) o.rule_contexts no_own_rule_contexts;
        few = subst F (sym (opened names rule r.head)) (few_in names rule (heads (map head_at o.membranes)) (seconds_empty o.membranes (λ ps c. order.one_in_membrane ps c)));
        once = (
          once_by name_in (all_contexts (level_of names rule r.head)) (subst EachOnce (sym (contexts_tree names rule r.head)) (each_once names is_names (flat_map untyped_name (items_of r.head)) k.0.untyped (λ n. let h = once_in_head table r order n in omega (arith, h)))),
          subst EachOnce (sym (rule_contexts_tree names rule r.head)) (each_once names is_names (flat_map rule_context_name (items_of r.head)) k.0.rule_contexts (rule_context_once table r order)),
          subst EachOnce (sym (typed_tree names rule r.head)) (each_once names is_names (flat_map typed_name (items_of r.head)) k.0.typed (λ n. let h = once_in_head table r order n in omega (arith, h))),
        );
        kept = shuffled (same_shuffle names (flat_map bare_name (items_of r.head)) (flat_map bare_name (items_of r.body)) (kept table r order));
        known_closed = λ p a. (let n = name_among names p (flat_map closed_name (items_of r.body)) (subst (Among p) (closed_tree names rule r.body) a) in
            subst (Among p) (sym (closed_tree names rule r.head))
            (subst (λ q. Among q (map (N names) (flat_map closed_name (items_of r.head)))) n.2 (among_name names n.0 (flat_map closed_name (items_of r.head)) (closed_known table r order n.0 n.1))));
        known_rules = λ p a. (let n = name_among names p (flat_map rule_context_name (items_of r.body)) (subst (Among p) (rule_contexts_tree names rule r.body) a) in
            subst (Among p) (sym (rule_contexts_tree names rule r.head))
            (subst (λ q. Among q (map (N names) (flat_map rule_context_name (items_of r.head)))) n.2 (among_name names n.0 (flat_map rule_context_name (items_of r.head)) (rule_context_known table r order n.0 n.1))));
        known = λ p a. (let n = name_among names p (flat_map typed_name (items_of r.body)) (subst (Among p) (typed_tree names rule r.body) a) in
            elim (typed_known table r order n.0 n.1) [
              | inl h ↦ inl (subst (Among p) (sym (typed_tree names rule r.head)) (subst (λ q. Among q (map (N names) (flat_map typed_name (items_of r.head)))) n.2 (among_name names n.0 (flat_map typed_name (items_of r.head)) h)))
              | inr h ↦ inr (subst (λ q. Among q (left_sides (map (condition_of names) r.guard))) n.2 (left_among names n.0 r.guard h))
            ]);
        in_turn = turned (guard_in_turn names is_names r.head (flat_map typed_name (items_of r.head)) k.0.typed (typed_in_head table r order) r.guard condition_rows (guard_typed table r order) k.1);
        typed = λ p a. (let n = name_among names p (flat_map typed_name (items_of r.head)) (subst (Among p) (typed_tree names rule r.head) a) in
            subst (λ q. (c : tree.Condition) × Among c (map (condition_of names) r.guard) × GivesType q c) n.2 (type_given names r.head n.0 r.guard condition_rows (typed_leaf n.0 n.1)));
        held = λ x a. held_at x a;
      }
