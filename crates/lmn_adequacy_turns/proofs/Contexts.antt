-- Each context of the body of an accepted rule is one of its head, and so has a membrane there.
use Rattle.std.proofs.Common.{ℕ, ◌≡◌, Bool, true, false, ◌<◌, List, [], ◌∷◌, ◌++◌, length, map, refl, sym, ap, subst, ◌∙◌, inl, inr}
use Rattle.std.specs.Prelude.{Contains, All}
use Rattle.std.specs.List.{flat_map}
use Rattle.std.proofs.lemmas.List.{map-append}
use Rattle.std.proofs.lemmas.List.Elements.{All-head, All-tail, All-cons, All-nil}
use Rattle.lmn_base.specs.Items.{untyped_form, untyped as written, items_of, guard_items, rule_items}
use Rattle.lmn_base.specs.declared.level.CtxUse.{CtxUse}
use Rattle.lmn_base.specs.declared.rule.RuleTree.{RuleTree}
use Rattle.lmn_base.specs.Levels.{leaves_of, contexts_of, rule_contexts_of}
use Rattle.lmn_base.specs.declared.level.Level.{Level}
use Rattle.lmn_base.specs.Names.{IsNames, HasNames, leaf_names, context_names, condition_names, level_names}
use Rattle.lmn_congruence.specs.Orders.{Among, at_head, further, Shuffle, none, more}
use Rattle.lmn_congruence.specs.Rules as tree
use Rattle.lmn_congruence.specs.Translation.{context_tree, context_with, name_of, names_of, rule_tree}
use Rattle.lmn_adequacy.specs.Accepted.{all_contexts, closed_names, open_names, contexts_in, all_rule_contexts, rule_contexts_in}
use Rattle.lmn_solid_heads.proofs.HeadTrees.{Head, Heads, head, no_head, head_and, head_at, same_uses}
use Rattle.lmn_congruence_splice.specs.Splice.{IsOneOf}
use Rattle.lmn_solid_bodies.specs.Flattening.{context_membrane, rule_context_membrane}
use Rattle.lmn_adequacy_heaps.specs.HeapRegions.{HeapReading}
use Rattle.lmn_adequacy_heaps.specs.Premises.{IsRule}
use Rattle.lmn_adequacy_heaps.proofs.HeadTrees.{tree_of, trees_of, level_tree}
use Rattle.lmn_adequacy_heaps.proofs.KindConditions.{same_number}
use Rattle.lmn_compile_body.proofs.HeadContexts.{contained, is_in, head_names, untyped, of_rules, firsts, names_are, named_there, head_contexts, heads_contexts, same_contexts, context_used, rule_context_used, has_name, has_rule_name}
use Rattle.lmn_guards.specs.Accepted.{IsInOrder}
use Rattle.lmn_compile_head.proofs.HeadUses.{never_typed}
use Rattle.lmn_congruence_splice.proofs.Common.{in_back, in_front}
use Rattle.lmn_adequacy_heaps.proofs.SameParts.{put_among}
use Rattle.lmn_base.proofs.Lists.{all_of_left, all_of_right}

-- ---- contexts of a level as names of the calculus

mutual
  tree_contexts : (names : List tree.Name) (rule : ℕ → tree.Rule) (hd : Head) → all_contexts (tree_of names rule hd) ≡ map (context_tree names) (head_contexts untyped hd)
  tree_contexts names rule (head leaves hs cs rcs rs) = ap (λ z. map (context_tree names) cs ++ z) (trees_contexts names rule hs) ∙ sym (map-append (context_tree names) cs (heads_contexts untyped hs))

  trees_contexts : (names : List tree.Name) (rule : ℕ → tree.Rule) (hs : Heads) → contexts_in (trees_of names rule hs) ≡ map (context_tree names) (heads_contexts untyped hs)
  trees_contexts names rule no_head = refl
  trees_contexts names rule (head_and hd hs) = (λ i. tree_contexts names rule hd i ++ trees_contexts names rule hs i) ∙ sym (map-append (context_tree names) (head_contexts untyped hd) (heads_contexts untyped hs))

mutual
  tree_rule_contexts : (names : List tree.Name) (rule : ℕ → tree.Rule) (hd : Head) → all_rule_contexts (tree_of names rule hd) ≡ names_of names (head_contexts of_rules hd)
  tree_rule_contexts names rule (head leaves hs cs rcs rs) = ap (λ z. names_of names rcs ++ z) (trees_rule_contexts names rule hs) ∙ sym (map-append (λ (u : CtxUse). name_of names u.name) rcs (heads_contexts of_rules hs))

  trees_rule_contexts : (names : List tree.Name) (rule : ℕ → tree.Rule) (hs : Heads) → rule_contexts_in (trees_of names rule hs) ≡ names_of names (heads_contexts of_rules hs)
  trees_rule_contexts names rule no_head = refl
  trees_rule_contexts names rule (head_and hd hs) = (λ i. tree_rule_contexts names rule hd i ++ trees_rule_contexts names rule hs i) ∙ sym (map-append (λ (u : CtxUse). name_of names u.name) (head_contexts of_rules hd) (heads_contexts of_rules hs))

shuffled_back : {A : Type 0} {xs ys : List A} → Shuffle (λ p q. p ≡ q) xs ys → {y : A} → Among y ys → Among y xs
shuffled_back none k = elim k [ ]
shuffled_back (more {x = x} {xs = xs} e s p) {y = y} k = elim (put_among p k) [
  | inl q ↦ subst (λ z. Among z (x ∷ xs)) (e ∙ q) at_head
  | inr j ↦ further (shuffled_back s j)
]

-- the names of the open contexts, or of the closed ones
abbrev names_with : Bool → List tree.Context → List tree.Name
names_with true ps = closed_names ps
names_with false ps = open_names ps

-- a context has its name among those of its form
among_with : (names : List tree.Name) (us : List CtxUse) (u : CtxUse) → IsOneOf u us → Among (name_of names u.name) (names_with u.closed (map (context_tree names) us))
among_with names [] u i = absurd i
among_with names (v ∷ us) u (inl e) = subst (λ (z : CtxUse). Among (name_of names z.name) (names_with z.closed (map (context_tree names) (v ∷ us)))) e (first v.closed)
  where
    first : (b : Bool) → Among (name_of names v.name) (names_with b (context_with b (name_of names v.name) ∷ map (context_tree names) us))
    first true = at_head
    first false = at_head
among_with names (v ∷ us) u (inr i) = behind u.closed v.closed (among_with names us u i)
  where
    behind : (a b : Bool) → Among (name_of names u.name) (names_with a (map (context_tree names) us)) → Among (name_of names u.name) (names_with a (context_with b (name_of names v.name) ∷ map (context_tree names) us))
    behind true true k = further k
    behind true false k = k
    behind false true k = k
    behind false false k = further k

-- and a name among them is that of such a context
with_among : (names : List tree.Name) (b : Bool) (us : List CtxUse) {p : tree.Name} → Among p (names_with b (map (context_tree names) us)) → (u : CtxUse) × IsOneOf u us × (name_of names u.name ≡ p)
with_among names true [] k = elim k [ ]
with_among names false [] k = elim k [ ]
with_among names b (v ∷ us) {p = p} k = by b v.closed k (λ j. with_among names b us j)
  where
    later : (u : CtxUse) × IsOneOf u us × (name_of names u.name ≡ p) → (u : CtxUse) × IsOneOf u (v ∷ us) × (name_of names u.name ≡ p)
    later w = (w.0, inr w.1, w.2)

    first : {q : tree.Name} {qs : List tree.Name} → Among p (q ∷ qs) → q ≡ name_of names v.name → (Among p qs → (u : CtxUse) × IsOneOf u us × (name_of names u.name ≡ p)) → (u : CtxUse) × IsOneOf u (v ∷ us) × (name_of names u.name ≡ p)
    first at_head e others = (v, inl refl, sym e)
    first (further j) e others = later (others j)

    by : (b c : Bool) → Among p (names_with b (context_with c (name_of names v.name) ∷ map (context_tree names) us)) → (Among p (names_with b (map (context_tree names) us)) → (u : CtxUse) × IsOneOf u us × (name_of names u.name ≡ p))
        → (u : CtxUse) × IsOneOf u (v ∷ us) × (name_of names u.name ≡ p)
    by true true k others = first k refl others
    by true false k others = later (others k)
    by false true k others = later (others k)
    by false false k others = first k refl others

among_use : (names : List tree.Name) (us : List CtxUse) (u : CtxUse) → IsOneOf u us → Among (name_of names u.name) (names_of names us)
among_use names [] u i = absurd i
among_use names (v ∷ us) u (inl e) = subst (λ (z : CtxUse). Among (name_of names z.name) (name_of names v.name ∷ names_of names us)) e at_head
among_use names (v ∷ us) u (inr i) = further (among_use names us u i)

use_among : (names : List tree.Name) (us : List CtxUse) {p : tree.Name} → Among p (names_of names us) → (u : CtxUse) × IsOneOf u us × (name_of names u.name ≡ p)
use_among names [] k = elim k [ ]
use_among names (u ∷ us) at_head = (u, inl refl, refl)
use_among names (u ∷ us) (further k) = let w = use_among names us k in (w.0, inr w.1, w.2)

all_named : (P : ℕ → Type 0) (us : List CtxUse) → All P (context_names us) → (u : CtxUse) → IsOneOf u us → P u.name
all_named P [] a u i = absurd i
all_named P (v ∷ us) a u (inl e) = subst (λ (z : CtxUse). P z.name) e (All-head P v.name (context_names us) a)
all_named P (v ∷ us) a u (inr i) = all_named P us (All-tail P v.name (context_names us) a) u i

module _ (r : HeapReading) (rule : RuleTree) (read_names : IsNames r.names) (is : IsRule r rule) where
  abbrev P : ℕ → Type 0
  P n = n < length r.names

  one_named : (n : ℕ) → n < length r.names → HasNames r.names (n ∷ [])
  one_named n l = All-cons P n [] l (All-nil P)

  head_known : All P (level_names rule.head)
  head_known = all_of_left P (level_names rule.head) (flat_map condition_names rule.guard) (all_of_left P (level_names rule.head ++ flat_map condition_names rule.guard) (level_names rule.body) is.known)

  body_known : All P (level_names rule.body)
  body_known = all_of_right P (level_names rule.head ++ flat_map condition_names rule.guard) (level_names rule.body) is.known

  contexts_known : (l : Level) → All P (level_names l) → All P (context_names (contexts_of l))
  contexts_known l a = all_of_right P (flat_map leaf_names (leaves_of l)) (context_names (contexts_of l)) (all_of_left P (flat_map leaf_names (leaves_of l) ++ context_names (contexts_of l)) (context_names (rule_contexts_of l)) a)

  rule_contexts_known : (l : Level) → All P (level_names l) → All P (context_names (rule_contexts_of l))
  rule_contexts_known l a = all_of_right P (flat_map leaf_names (leaves_of l) ++ context_names (contexts_of l)) (context_names (rule_contexts_of l)) a

  -- a name of the body of one form is one of the head of this form
  kept : (p : tree.Name) (b : Bool) → Among p (names_with b (all_contexts (tree.body_of (rule_tree r.names r.rule rule)))) → Among p (names_with b (all_contexts (tree.head_of (rule_tree r.names r.rule rule))))
  kept p true k = is.accepted.known_closed p k
  kept p false k = shuffled_back is.accepted.kept k

  -- an untyped context of the body has its membrane in the head
  pub context_there : (u : CtxUse) → Contains (contexts_of rule.body) u → IsOneOf {A = ℕ × ℕ} (u.name, context_membrane rule.head u.name) (head_names untyped 0 1 (head_at rule.head))
  context_there u w =
      let i = is_in u (contexts_of rule.body) w in
      let in_body = subst (λ l. Among (name_of r.names u.name) (names_with u.closed (all_contexts l))) (sym (level_tree r.names r.rule rule.body))
      (subst (λ ps. Among (name_of r.names u.name) (names_with u.closed ps)) (sym (tree_contexts r.names r.rule (head_at rule.body))) (among_with r.names (head_contexts untyped (head_at rule.body)) u (subst (IsOneOf u) (same_contexts untyped rule.body) i))) in
      let in_head = subst (λ ps. Among (name_of r.names u.name) (names_with u.closed ps)) (tree_contexts r.names r.rule (head_at rule.head))
      (subst (λ l. Among (name_of r.names u.name) (names_with u.closed (all_contexts l))) (level_tree r.names r.rule rule.head) (kept (name_of r.names u.name) u.closed in_body)) in
      let v = with_among r.names u.closed (head_contexts untyped (head_at rule.head)) in_head in
      let in_list = subst (IsOneOf v.0) (sym (same_contexts untyped rule.head)) v.1 in
      let same = same_number r.names v.0.name u.name read_names (one_named v.0.name (all_named P (contexts_of rule.head) (contexts_known rule.head head_known) v.0 in_list)) (one_named u.name (all_named P (contexts_of rule.body) (contexts_known rule.body body_known) u i)) v.2 in
      let first = subst (λ y. IsOneOf y (firsts (head_names untyped 0 1 (head_at rule.head)))) same (has_name 0 1 (head_at rule.head) (record { name = v.0.name; form = untyped_form v.0.closed; pos = v.0.pos })
      (context_used (head_at rule.head) v.0 v.1) (never_typed v.0.closed)) in
      let e = sym (names_are untyped rule.head) in
      subst (λ es. IsOneOf {A = ℕ × ℕ} (u.name, context_membrane rule.head u.name) es) (names_are untyped rule.head) (named_there _ u.name (subst (λ es. IsOneOf u.name (firsts es)) e first))

  -- and so has a rule context
  pub rule_context_there : (u : CtxUse) → Contains (rule_contexts_of rule.body) u → IsOneOf {A = ℕ × ℕ} (u.name, rule_context_membrane rule.head u.name) (head_names of_rules 0 1 (head_at rule.head))
  rule_context_there u w =
      let i = is_in u (rule_contexts_of rule.body) w in
      let in_body = subst (λ l. Among (name_of r.names u.name) (all_rule_contexts l)) (sym (level_tree r.names r.rule rule.body))
      (subst (Among (name_of r.names u.name)) (sym (tree_rule_contexts r.names r.rule (head_at rule.body))) (among_use r.names (head_contexts of_rules (head_at rule.body)) u (subst (IsOneOf u) (same_contexts of_rules rule.body) i))) in
      let in_head = subst (Among (name_of r.names u.name)) (tree_rule_contexts r.names r.rule (head_at rule.head))
      (subst (λ l. Among (name_of r.names u.name) (all_rule_contexts l)) (level_tree r.names r.rule rule.head) (is.accepted.known_rules (name_of r.names u.name) in_body)) in
      let v = use_among r.names (head_contexts of_rules (head_at rule.head)) in_head in
      let in_list = subst (IsOneOf v.0) (sym (same_contexts of_rules rule.head)) v.1 in
      let same = same_number r.names v.0.name u.name read_names (one_named v.0.name (all_named P (rule_contexts_of rule.head) (rule_contexts_known rule.head head_known) v.0 in_list)) (one_named u.name (all_named P (rule_contexts_of rule.body) (rule_contexts_known rule.body body_known) u i)) v.2 in
      let first = subst (λ y. IsOneOf y (firsts (head_names of_rules 0 1 (head_at rule.head)))) same (has_rule_name 0 1 (head_at rule.head) v.0 (rule_context_used (head_at rule.head) v.0 v.1)) in
      let e = sym (names_are of_rules rule.head) in
      subst (λ es. IsOneOf {A = ℕ × ℕ} (u.name, rule_context_membrane rule.head u.name) es) (names_are of_rules rule.head) (named_there _ u.name (subst (λ es. IsOneOf u.name (firsts es)) e first))

-- ---- forms

same_closed : (a b : Bool) → untyped_form a ≡ untyped_form b → a ≡ b
same_closed true true e = refl
same_closed false false e = refl
same_closed true false e = absurd (cc)
same_closed false true e = absurd (cc)

-- an untyped context of the head and one of the body with its name are one context of the calculus
pub one_context : (table : List RuleTree) (rule : RuleTree) → IsInOrder table rule → (names : List tree.Name) (v u : CtxUse) → IsOneOf v (head_contexts untyped (head_at rule.head)) → Contains (contexts_of rule.body) u → v.name ≡ u.name → context_tree names v ≡ context_tree names u
one_context table rule order names v u i w e =
    let behind_head = guard_items rule.guard ++ items_of rule.body in
    let in_head = contained (written v) (rule_items rule) (in_front (written v) (items_of rule.head) behind_head (subst (IsOneOf (written v)) (sym (same_uses rule.head)) (context_used (head_at rule.head) v i))) in
    let in_body = contained (written u) (rule_items rule) (in_back (written u) (items_of rule.head) behind_head (in_back (written u) (guard_items rule.guard) (items_of rule.body)
    (subst (IsOneOf (written u)) (sym (same_uses rule.body)) (context_used (head_at rule.body) u (subst (IsOneOf u) (same_contexts untyped rule.body) (is_in u (contexts_of rule.body) w)))))) in
    let closed = same_closed v.closed u.closed (order.one_form (record { name = v.name; form = untyped_form v.closed; pos = v.pos }) (record { name = u.name; form = untyped_form u.closed; pos = u.pos }) in_head in_body e) in
    λ j. context_with (closed j) (name_of names (e j))
