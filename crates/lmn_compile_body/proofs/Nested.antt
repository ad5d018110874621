-- An accepted rule, flattened, is one of which the laws of firing hold.
use Rattle.std.proofs.Common.{ℕ, suc, Some, ◌≡◌, ◌≤◌, ◌<◌, ◌+◌, ◌⊎◌, Bool, true, false, List, [], ◌∷◌, ◌++◌, length, map, refl, ap, sym, subst, ◌∙◌, inl, inr, arith}
use Rattle.std.specs.Prelude.{◌==◌, ◌||◌, if◌then◌else◌, Contains, All, slice_get}
use Rattle.std.specs.List.{flat_map, list_any, AllByRecursion}
use Rattle.std.proofs.lemmas.List.Elements.{recursion_from_All, All-from_recursion}
use Rattle.std.proofs.lemmas.Bool.Decides.{Decides-eqb}
use Rattle.lmn_base.specs.declared.guard.Cond.{Cond}
use Rattle.lmn_base.specs.declared.guard.Cond.TheVariants.{Kind, Compare, Equal, Differ}
use Rattle.lmn_base.specs.declared.item.Form.TheVariants.{Typed}
use Rattle.lmn_base.specs.declared.item.FormedUse.{FormedUse}
use Rattle.lmn_base.specs.declared.item.Item.{Item}
use Rattle.lmn_base.specs.declared.item.Item.TheVariants.{Atom, Context, RuleContext, Rule}
use Rattle.lmn_base.specs.declared.level.CtxUse.{CtxUse}
use Rattle.lmn_base.specs.declared.level.Leaf.{Leaf}
use Rattle.lmn_base.specs.declared.level.Level.{out-Level}
use Rattle.lmn_base.specs.declared.rule.RuleTree.{RuleTree}
use Rattle.lmn_base.specs.Items.{used, untyped_form, untyped as written, leaf_item, own_items, items_of, guard_items, condition_items, rule_items}
use Rattle.lmn_base.specs.Levels.{leaves_of, links_of, contexts_of, rule_contexts_of}
use Rattle.lmn_base_walks.specs.RuleCodes.{bare_use, rule_use, is_left_of}
use Rattle.lmn_base.specs.Uses.{use_of, has_use, is_some_place}
use Rattle.lmn_base.specs.WellMade.{FitsArity}
use Rattle.lmn_guards.specs.declared.plan.GuardPlan.{GuardPlan}
use Rattle.lmn_guards.specs.Accepted.{IsInOrder}
use Rattle.lmn_guards.proofs.AcceptedLemmas.{in_order}
use Rattle.lmn_solid_heads.specs.Heads.{HeadTyped, HeadMembrane, typed_contexts_of, membranes_of}
use Rattle.lmn_solid_heads.specs.Embeddings.{HasTyped, HasMembrane}
use Rattle.lmn_solid_heads.proofs.HeadTrees.{head_at, same_uses, flat_items, flat_membranes}
use Rattle.lmn_congruence_splice.specs.Splice.{IsOneOf, NoneTwice}
use Rattle.lmn_compile_head.specs.Accepted.{head_items, AcceptedHeads}
use Rattle.lmn_compile_head.specs.Heads.{kind_in}
use Rattle.lmn_compile_head.specs.Tables.{AllBelow}
use Rattle.lmn_solid_bodies.specs.Flattening.{membrane_named, open_uses}
use Rattle.lmn_solid_bodies.specs.Rules.{NestedRule, IsHeadMembrane}
use Rattle.lmn_solid_bodies.proofs.Firing.{in_often, often_in}
use Rattle.lmn_solid_bodies.proofs.HeadPorts.{in_map, of_map as from_map}
use Rattle.lmn_solid_bodies.proofs.FlatRules.{flattened_rules}
use Rattle.lmn_solid_bodies.proofs.Numbered.{contexts_of_heads, leaves_none}
use Rattle.lmn_compile_body.specs.Naming.{numbered_contexts, numbered_rule_contexts}
use Rattle.lmn_compile_body.specs.Accepted.{rule_body_names, rule_body_items, IsCompilable, AcceptedNested}
use Rattle.lmn_compile_body.proofs.BodyTrees.{numbers_below}
use Rattle.lmn_compile_body.proofs.HeadContexts.{contained, name_at, head_contexts, heads_contexts, distinct_map, names_are, head_names, heads_names, in_range, one_each, named_there, one_entry, untyped, of_rules, firsts, not_both, has_name, has_rule_name, same_contexts, context_used, rule_context_used, names_few, bare_often, inner_of, head_out, one_context, names_inner, held_at}
use Rattle.lmn_congruence.specs.Links.{places}
use Rattle.lmn_compile_head.proofs.HeadLeaves.{below_back, below_front}
use Rattle.lmn_congruence.proofs.Counts.{one_if_equal as one_same}
use Rattle.lmn_congruence_splice.proofs.Common.{in_append, in_back, in_front}
use Rattle.lmn_base.specs.Names.{context_names}
use Rattle.lmn_solid_heads.proofs.HeadTrees as trees
use Rattle.lmn_solid_heads.proofs.Common.{typed_there}

-- ---- what is found in a list

-- a use of a context, by its name
use_found : (x : ℕ) (is : List Item) → has_use x is ≡ true → (v : FormedUse) × IsOneOf (Context v) is × (v.name ≡ x)
use_found x [] e = absurd (cc)
use_found x (Atom f p ∷ is) e = let r = use_found x is e in (r.0, inr r.1, r.2)
use_found x (RuleContext u ∷ is) e = let r = use_found x is e in (r.0, inr r.1, r.2)
use_found x (Rule k ∷ is) e = let r = use_found x is e in (r.0, inr r.1, r.2)
use_found x (Context u ∷ is) e = by (u.name == x) refl (use_found x is)
  where
    by : (b : Bool) → (u.name == x) ≡ b → (has_use x is ≡ true → (v : FormedUse) × IsOneOf (Context v) is × (v.name ≡ x)) → (v : FormedUse) × IsOneOf (Context v) (Context u ∷ is) × (v.name ≡ x)
    by true f later = (u, inl refl, (Decides-eqb u.name x).0 f)
    by false f later = let r = later (ap (λ b. is_some_place ((if b then u.pos ∷ [] else []) ++ flat_map (use_of x) is)) (sym f) ∙ e) in (r.0, inr r.1, r.2)

rule_use_found : (x : ℕ) (is : List Item) → is_some_place (flat_map (rule_use x) is) ≡ true → (v : CtxUse) × IsOneOf (RuleContext v) is × (v.name ≡ x)
rule_use_found x [] e = absurd (cc)
rule_use_found x (Atom f p ∷ is) e = let r = rule_use_found x is e in (r.0, inr r.1, r.2)
rule_use_found x (Context u ∷ is) e = let r = rule_use_found x is e in (r.0, inr r.1, r.2)
rule_use_found x (Rule k ∷ is) e = let r = rule_use_found x is e in (r.0, inr r.1, r.2)
rule_use_found x (RuleContext u ∷ is) e = by (u.name == x) refl (rule_use_found x is)
  where
    by : (b : Bool) → (u.name == x) ≡ b → (is_some_place (flat_map (rule_use x) is) ≡ true → (v : CtxUse) × IsOneOf (RuleContext v) is × (v.name ≡ x)) → (v : CtxUse) × IsOneOf (RuleContext v) (RuleContext u ∷ is) × (v.name ≡ x)
    by true f later = (u, inl refl, (Decides-eqb u.name x).0 f)
    by false f later = let r = later (ap (λ b. is_some_place ((if b then u.pos ∷ [] else []) ++ flat_map (rule_use x) is)) (sym f) ∙ e) in (r.0, inr r.1, r.2)

-- the left side of an equation of a guard
left_found : (x : ℕ) (cs : List Cond) → list_any (is_left_of x) cs ≡ true → (u : CtxUse) × IsOneOf (used Typed u) (guard_items cs) × (u.name ≡ x)
left_found x [] e = absurd (cc)
left_found x (Kind n args p ∷ cs) e = let r = left_found x cs e in (r.0, in_back (used Typed r.0) (condition_items (Kind n args p)) (guard_items cs) r.1, r.2)
left_found x (Compare o a b p ∷ cs) e = let r = left_found x cs e in (r.0, in_back (used Typed r.0) (condition_items (Compare o a b p)) (guard_items cs) r.1, r.2)
left_found x (Differ a b p ∷ cs) e = let r = left_found x cs e in (r.0, in_back (used Typed r.0) (condition_items (Differ a b p)) (guard_items cs) r.1, r.2)
left_found x (Equal a b p ∷ cs) e = by (a.name == x) refl (left_found x cs)
  where
    by : (t : Bool) → (a.name == x) ≡ t → (list_any (is_left_of x) cs ≡ true → (u : CtxUse) × IsOneOf (used Typed u) (guard_items cs) × (u.name ≡ x))
        → (u : CtxUse) × IsOneOf (used Typed u) (guard_items (Equal a b p ∷ cs)) × (u.name ≡ x)
    by true f later = (a, inl refl, (Decides-eqb a.name x).0 f)
    by false f later = let r = later (ap (λ t. t || list_any (is_left_of x) cs) (sym f) ∙ e) in (r.0, in_back (used Typed r.0) (condition_items (Equal a b p)) (guard_items cs) r.1, r.2)

each_once : (xs : List ℕ) → ((z : ℕ) → IsOneOf z xs → places z xs ≤ 1) → NoneTwice xs
each_once [] f = tt
each_once (x ∷ xs) f = (
  λ i. (let l = in_often x xs i in let o = one_same x x refl in let m = f x (inl refl) in absurd (omega (arith, l, o, m))),
  each_once xs (λ z i. let m = f z (inr i) in omega (arith, m)),
)

map_names : (f : ℕ → ℕ) (us : List CtxUse) → map (λ u. f u.name) us ≡ map f (context_names us)
map_names f [] = refl
map_names f (u ∷ us) = ap (λ xs. f u.name ∷ xs) (map_names f us)

all_below : (n : ℕ) (xs : List ℕ) (x : ℕ) → AllBelow n xs → IsOneOf x xs → x < n
all_below n [] x h i = absurd i
all_below n (y ∷ xs) x h (inl e) = subst (λ z. z < n) e h.0
all_below n (y ∷ xs) x h (inr i) = all_below n xs x h.1 i

no_contexts : (us : List CtxUse) → ((u : CtxUse) → IsOneOf u us → ⊥) → us ≡ []
no_contexts [] none = refl
no_contexts (u ∷ us) none = absurd (none u (inl refl))

not_zero : (k n : ℕ) → 1 ≤ n → (n ≡ 0) ⊎ IsHeadMembrane k n → IsHeadMembrane k n
not_zero k n l (inl e) = absurd (omega (arith, l, e))
not_zero k n l (inr h) = h

all_front : (P : Leaf → Type 0) (xs ys : List Leaf) → All P (xs ++ ys) → All P xs
all_front P xs ys h = All-from_recursion P xs (go xs (recursion_from_All P (xs ++ ys) h))
  where
    go : (xs : List Leaf) → AllByRecursion P (xs ++ ys) → AllByRecursion P xs
    go [] h = tt
    go (x ∷ xs) h = (h.0, go xs h.1)

all_back : (P : Leaf → Type 0) (xs ys : List Leaf) → All P (xs ++ ys) → All P ys
all_back P xs ys h = All-from_recursion P ys (go xs (recursion_from_All P (xs ++ ys) h))
  where
    go : (xs : List Leaf) → AllByRecursion P (xs ++ ys) → AllByRecursion P ys
    go [] h = h
    go (x ∷ xs) h = go xs h.1

module _ (heads : AcceptedHeads) (table : List RuleTree) (r : RuleTree) (plan : GuardPlan) (whole : IsCompilable table r plan) where
  abbrev entries : List (ℕ × ℕ)
  entries = (numbered_contexts r.head).names 0 1

  abbrev rule_entries : List (ℕ × ℕ)
  rule_entries = (numbered_rule_contexts r.head).names 0 1

  order : IsInOrder table r
  order = in_order table r whole.ready.accepted

  top : (out-Level r.head).contexts ≡ []
  top = no_contexts (out-Level r.head).contexts (λ u i.
      let l = out-Level r.head in
      let c = contained (written u) (own_items l) (in_back (written u) (map leaf_item l.leaves) _ (in_front (written u) (map written l.contexts) _ (in_map written u l.contexts i))) in
      not_both u.closed (sym (order.no_context_at_top (record { name = u.name; form = untyped_form u.closed; pos = u.pos }) c)))

  rule_top : (out-Level r.head).rule_contexts ≡ []
  rule_top = no_contexts (out-Level r.head).rule_contexts (λ u i.
      let l = out-Level r.head in
      order.no_rule_context_at_top u (contained (RuleContext u) (own_items l) (in_back (RuleContext u) (map leaf_item l.leaves) _ (in_back (RuleContext u) (map written l.contexts) _
      (in_front (RuleContext u) (map RuleContext l.rule_contexts) _ (in_map RuleContext u l.rule_contexts i))))))

  entries_are : entries ≡ heads_names untyped 1 (inner_of r.head)
  entries_are = names_are untyped r.head ∙ names_inner untyped r.head top

  rule_entries_are : rule_entries ≡ heads_names of_rules 1 (inner_of r.head)
  rule_entries_are = names_are of_rules r.head ∙ names_inner of_rules r.head rule_top

  -- a context of the body is an item of the rule
  body_in_rule : (u : CtxUse) → IsOneOf u (contexts_of r.body) → Contains (rule_items r) (written u)
  body_in_rule u i =
      let in_body = subst (IsOneOf (written u)) (sym (same_uses r.body)) (context_used (head_at r.body) u (subst (IsOneOf u) (same_contexts untyped r.body) i)) in
      contained (written u) (rule_items r) (in_back (written u) (items_of r.head) (guard_items r.guard ++ items_of r.body) (in_back (written u) (guard_items r.guard) (items_of r.body) in_body))

  -- an untyped context of the body is one of the head
  of_head : (u : CtxUse) → IsOneOf u (contexts_of r.body) → (v : FormedUse) × IsOneOf (Context v) (items_of r.head) × (v.name ≡ u.name) × (v.form ≡ untyped_form u.closed)
  of_head u i = by (has_use u.name (items_of r.head)) refl
    where
      in_body : IsOneOf (written u) (items_of r.body)
      in_body = subst (IsOneOf (written u)) (sym (same_uses r.body)) (context_used (head_at r.body) u (subst (IsOneOf u) (same_contexts untyped r.body) i))

      asked : (has_use u.name (items_of r.head) || list_any (is_left_of u.name) r.guard) ≡ true
      asked = order.of_the_head (record { name = u.name; form = untyped_form u.closed; pos = u.pos }) (contained (written u) (items_of r.body) in_body)

      by : (b : Bool) → has_use u.name (items_of r.head) ≡ b → (v : FormedUse) × IsOneOf (Context v) (items_of r.head) × (v.name ≡ u.name) × (v.form ≡ untyped_form u.closed)
      by true e =
          let f = use_found u.name (items_of r.head) e in
          (f.0, f.1, f.2, order.one_form f.0 (record { name = u.name; form = untyped_form u.closed; pos = u.pos }) (contained (Context f.0) (rule_items r) (in_front (Context f.0) (items_of r.head) (guard_items r.guard ++ items_of r.body) f.1)) (body_in_rule u i) f.2)
      by false e =
          let f = left_found u.name r.guard (ap (λ b. b || list_any (is_left_of u.name) r.guard) (sym e) ∙ asked) in
          absurd (not_both u.closed (order.one_form (record { name = f.0.name; form = Typed; pos = f.0.pos }) (record { name = u.name; form = untyped_form u.closed; pos = u.pos })
          (contained (used Typed f.0) (rule_items r) (in_back (used Typed f.0) (items_of r.head) (guard_items r.guard ++ items_of r.body) (in_front (used Typed f.0) (guard_items r.guard) (items_of r.body) f.1))) (body_in_rule u i) f.2))

  -- so it has a membrane there
  entry : (x : ℕ) → IsOneOf x (context_names (contexts_of r.body)) → IsOneOf (x, membrane_named entries x) entries
  entry x i =
      let u = from_map (λ (u : CtxUse). u.name) x (contexts_of r.body) i in
      let v = of_head u.0 u.1 in
      let there = has_name 0 1 (head_at r.head) v.0 (subst (IsOneOf (Context v.0)) (same_uses r.head) v.1) (λ e. not_both u.0.closed (sym e ∙ v.3)) in
      named_there entries x (subst (λ es. IsOneOf x (firsts es)) (sym (names_are untyped r.head)) (subst (λ y. IsOneOf y (firsts (head_names untyped 0 1 (head_at r.head)))) (v.2 ∙ u.2) there))

  -- a context of a membrane of the head is an item of the head
  in_items : (c : CtxUse) → IsOneOf c (heads_contexts untyped (inner_of r.head)) → IsOneOf (written c) (items_of r.head)
  in_items c i = subst (IsOneOf (written c)) (sym (same_uses r.head)) (context_used (head_at r.head) c
      (subst (λ h. IsOneOf c (head_contexts untyped h)) (sym (head_out r.head)) (in_back c (out-Level r.head).contexts (heads_contexts untyped (inner_of r.head)) i)))

  -- whose context is closed where that of the body is
  owned : (u : CtxUse) → IsOneOf u (contexts_of r.body) → (b : HeadMembrane) × HasMembrane (head_items r plan) (membrane_named entries u.name) b × (b.has_closed_context ≡ u.closed)
  owned u i =
      let kind = kind_in plan.kinds in
      let e = subst (IsOneOf (u.name, membrane_named entries u.name)) entries_are (entry u.name (in_map (λ (u : CtxUse). u.name) u (contexts_of r.body) i)) in
      let w = name_at kind 0 1 (inner_of r.head) (one_context r.head order.one_in_membrane) u.name (membrane_named entries u.name) e in
      let c = w.0 in
      let j = w.3.0 in
      let flat = trees.items_flat kind r.head ∙ ap (flat_items kind 0 1) (head_out r.head) in
      let got = ap (λ is. slice_get (membranes_of is) j) flat ∙ ap (λ ms. slice_get ms j) (leaves_none kind 0 (out-Level r.head).leaves (flat_membranes kind 0 1 (inner_of r.head))) ∙ w.3.2.1 in
      let in_head = in_items c w.1 in
      let one = order.one_form (record { name = c.name; form = untyped_form c.closed; pos = c.pos }) (record { name = u.name; form = untyped_form u.closed; pos = u.pos })
      (contained (written c) (rule_items r) (in_front (written c) (items_of r.head) (guard_items r.guard ++ items_of r.body) in_head)) (body_in_rule u i) w.2 in
      (w.3.2.0, (j, w.3.1 ∙ plus j, got), w.3.2.2 ∙ same_closed c.closed u.closed one)
    where
      plus : (j : ℕ) → 1 + j ≡ suc j
      plus j = omega arith

      same_closed : (a b : Bool) → untyped_form a ≡ untyped_form b → a ≡ b
      same_closed true true e = refl
      same_closed true false e = absurd (cc)
      same_closed false true e = absurd (cc)
      same_closed false false e = refl

  -- each open one stands once in the body
  body_often : (x : ℕ) → places x (context_names (open_uses (contexts_of r.body))) ≡ length (flat_map (bare_use x) (items_of r.body))
  body_often x = ap (λ us. places x (context_names (open_uses us))) (same_contexts untyped r.body) ∙ (bare_often x (head_at r.body) ∙ ap (λ is. length (flat_map (bare_use x) is)) (sym (same_uses r.body)))

  open_in : (us : List CtxUse) (u : CtxUse) → IsOneOf u (open_uses us) → IsOneOf u us × (u.closed ≡ false)
  open_in [] u i = absurd i
  open_in (v ∷ us) u i = by v.closed refl i (open_in us u)
    where
      by : (t : Bool) → v.closed ≡ t → IsOneOf u (if t then open_uses us else v ∷ open_uses us) → (IsOneOf u (open_uses us) → IsOneOf u us × (u.closed ≡ false)) → IsOneOf u (v ∷ us) × (u.closed ≡ false)
      by true e i on = let w = on i in (inr w.0, w.1)
      by false e (inl f) on = (inl f, ap (λ (x : CtxUse). x.closed) (sym f) ∙ e)
      by false e (inr i) on = let w = on i in (inr w.0, w.1)

  open_name : (x : ℕ) → IsOneOf x (context_names (open_uses (contexts_of r.body))) → IsOneOf x (context_names (contexts_of r.body))
  open_name x i =
      let u = from_map (λ (u : CtxUse). u.name) x (open_uses (contexts_of r.body)) i in
      subst (λ y. IsOneOf y (context_names (contexts_of r.body))) u.2 (in_map (λ (u : CtxUse). u.name) u.0 (contexts_of r.body) (open_in (contexts_of r.body) u.0 u.1).0)

  once : NoneTwice (context_names (open_uses (contexts_of r.body)))
  once = each_once (context_names (open_uses (contexts_of r.body))) (λ x i.
      let u = from_map (λ (u : CtxUse). u.name) x (open_uses (contexts_of r.body)) i in
      let o = open_in (contexts_of r.body) u.0 u.1 in
      let v = of_head u.0 o.0 in
      let one = order.once_in_body v.0 (contained (Context v.0) (items_of r.head) v.1) (v.3 ∙ ap untyped_form o.1) in
      let many = body_often v.0.name in
      subst (λ y. places y (context_names (open_uses (contexts_of r.body))) ≤ 1) (v.2 ∙ u.2) (omega (arith, one, many)))

  apart : NoneTwice (map (λ u. membrane_named entries u.name) (open_uses (contexts_of r.body)))
  apart = subst NoneTwice (sym (map_names (membrane_named entries) (open_uses (contexts_of r.body)))) (distinct_map (membrane_named entries) (context_names (open_uses (contexts_of r.body))) once (λ x y i j q.
      ap (λ (e : ℕ × ℕ). e.0) (one_each untyped 1 (inner_of r.head) (x, membrane_named entries x) (y, membrane_named entries y) (one_context r.head order.one_in_membrane)
      (subst (IsOneOf (x, membrane_named entries x)) entries_are (entry x (open_name x i))) (subst (IsOneOf (y, membrane_named entries y)) entries_are (entry y (open_name y j))) q)))

  -- each open context of the head stands in the body
  stands : (i : ℕ) (b : HeadMembrane) → HasMembrane (head_items r plan) i b → b.has_context ≡ true → b.has_closed_context ≡ false → IsOneOf i (map (λ u. membrane_named entries u.name) (open_uses (contexts_of r.body)))
  stands i b h c open_b =
      let kind = kind_in plan.kinds in
      let flat = trees.items_flat kind r.head ∙ ap (flat_items kind 0 1) (head_out r.head) in
      let got = ap (λ ms. slice_get ms h.0) (sym (leaves_none kind 0 (out-Level r.head).leaves (flat_membranes kind 0 1 (inner_of r.head)))) ∙ (ap (λ is. slice_get (membranes_of is) h.0) (sym flat) ∙ h.2) in
      let n = held_at kind 0 1 (inner_of r.head) h.0 b got c in
      let u = n.0 in
      let x = u.name in
      let there = subst (IsOneOf (x, 1 + h.0)) (sym entries_are) n.2 in
      let first = in_map (λ (e : ℕ × ℕ). e.0) (x, 1 + h.0) entries there in
      let in_head = in_items u n.1 in
      let one = order.once_in_body (record { name = u.name; form = untyped_form u.closed; pos = u.pos }) (contained (written u) (items_of r.head) in_head) (ap untyped_form (n.3 open_b)) in
      let many = body_often x in
      let in_body = often_in x (context_names (open_uses (contexts_of r.body))) (omega (arith, one, many)) in
      let few_names = names_few x 0 1 (head_at r.head) in
      let few_uses = order.once_in_head x in
      let same_items = ap (λ is. length (flat_map (use_of x) is)) (same_uses r.head) in
      let same_names = ap (λ es. places x (firsts es)) (names_are untyped r.head) in
      let few : places x (firsts entries) ≤ 1 = omega (arith, few_names, few_uses, same_items, same_names) in
      let same : membrane_named entries x ≡ 1 + h.0 = one_entry entries x (membrane_named entries x) (1 + h.0) few (named_there entries x first) there in
      let number = h.1 in
      let i_is : 1 + h.0 ≡ i = omega (arith, number) in
      subst (IsOneOf i) (sym (map_names (membrane_named entries) (open_uses (contexts_of r.body))))
      (subst (λ k. IsOneOf k (map (membrane_named entries) (context_names (open_uses (contexts_of r.body))))) (same ∙ i_is) (in_map (membrane_named entries) x (context_names (open_uses (contexts_of r.body))) in_body))

  -- a rule context of the body has a membrane in the head
  rules_owned : (u : CtxUse) → IsOneOf u (rule_contexts_of r.body) → IsHeadMembrane (length (membranes_of (head_items r plan))) (membrane_named rule_entries u.name)
  rules_owned u i =
      let in_body = subst (IsOneOf (RuleContext u)) (sym (same_uses r.body)) (rule_context_used (head_at r.body) u (subst (IsOneOf u) (same_contexts of_rules r.body) i)) in
      let v = rule_use_found u.name (items_of r.head) (order.rule_context_of_the_head u (contained (RuleContext u) (items_of r.body) in_body)) in
      let there = has_rule_name 0 1 (head_at r.head) v.0 (subst (IsOneOf (RuleContext v.0)) (same_uses r.head) v.1) in
      let e = named_there rule_entries u.name (subst (λ es. IsOneOf u.name (firsts es)) (sym (names_are of_rules r.head)) (subst (λ y. IsOneOf y (firsts (head_names of_rules 0 1 (head_at r.head)))) v.2 there)) in
      not_zero (length (membranes_of (head_items r plan))) (membrane_named rule_entries u.name)
      (in_range of_rules 1 (inner_of r.head) (u.name, membrane_named rule_entries u.name) (subst (IsOneOf (u.name, membrane_named rule_entries u.name)) rule_entries_are e)).0
      (contexts_of_heads (kind_in plan.kinds) r.head u.name).1

  low : (x : ℕ) → IsOneOf x (links_of r.head ++ links_of r.body) → x < length r.links
  low x i =
      let below = (numbers_below 0 (length r.links) _ whole.ready.made.table.numbered).2 in
      elim (in_append x (links_of r.head) (links_of r.body) i) [
        | inl j ↦ all_below (length r.links) (links_of r.head) x (below_front (length r.links) (links_of r.head) (links_of r.body ++ []) below) j
        | inr j ↦ all_below (length r.links) (links_of r.body) x (below_front (length r.links) (links_of r.body) [] (below_back (length r.links) (links_of r.head) (links_of r.body ++ []) below)) j
      ]

  -- a name of a part is one of the typed contexts of the head
  named : (x g : ℕ) → (rule_body_names r plan).part x ≡ Some g → (t : HeadTyped) × HasTyped (head_items r plan) g t
  named x g e =
      let w = typed_there (typed_contexts_of (head_items r plan)) 0 x g e in
      (w.1, subst (λ k. slice_get (typed_contexts_of (head_items r plan)) k ≡ Some w.1) (sym (w.2 ∙ zero_plus w.0)) w.3)
    where
      zero_plus : (i : ℕ) → 0 + i ≡ i
      zero_plus i = omega arith

  nested : NestedRule (head_items r plan) (rule_body_items r plan) (length r.links)
  nested =
      flattened_rules (kind_in plan.kinds) (rule_body_names r plan) r.head r.body (length r.links) whole.ready.accepted.linked low
      (all_front FitsArity (leaves_of r.head) (leaves_of r.body) whole.ready.made.arities) (all_back FitsArity (leaves_of r.head) (leaves_of r.body) whole.ready.made.arities)
      named (heads.head table r plan whole.ready).held owned rules_owned apart stands

-- an accepted rule is a nested one
pub accepted_nested : AcceptedHeads → AcceptedNested
accepted_nested heads table r plan whole = nested heads table r plan whole
