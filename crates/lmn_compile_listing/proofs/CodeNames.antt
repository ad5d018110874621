-- A list that has the names of a rule has those of its code.
use Rattle.std.proofs.Common.{ℕ, ◌+◌, ◌<◌, Bool, true, false, List, [], ◌∷◌, ◌++◌, map, length, Option, Some, None, sym, subst}
use Rattle.std.specs.List.{flat_map, AllByRecursion}
use Rattle.std.proofs.lemmas.List.Elements.{recursion_from_All}
use Rattle.lmn_base.specs.declared.functor.Functor.{Functor}
use Rattle.lmn_base.specs.declared.functor.Label.{Label}
use Rattle.lmn_base.specs.declared.functor.Label.TheVariants as label
use Rattle.lmn_base.specs.declared.level.CtxUse.{CtxUse}
use Rattle.lmn_base.specs.declared.level.Leaf.{Leaf}
use Rattle.lmn_base.specs.declared.level.Leaf.TheVariants as leaf
use Rattle.lmn_base.specs.declared.level.Level.{Level}
use Rattle.lmn_base.specs.Levels.{leaves_of, contexts_of, rule_contexts_of}
use Rattle.lmn_base.specs.Names.{label_names, leaf_names, context_names, condition_names, level_names, rule_names as names_in_rule}
use Rattle.lmn_base.specs.Solids.{connector}
use Rattle.lmn_store_heap.specs.Functors.{same_functor}
use Rattle.lmn_solid_heads.specs.Flattening as heads
use Rattle.lmn_solid_heads.proofs.HeadTrees as trees
use Rattle.lmn_solid_heads.proofs.HeadTrees.{Head, Heads, head, no_head, head_and, head_at, head_leaves, heads_leaves, same_leaves, flat_items, flat_membranes, size}
use Rattle.lmn_instr_code.specs.Labels.{HasLabel}
use Rattle.lmn_solid_bodies.specs.declared.items.BodyItem.{BodyItem}
use Rattle.lmn_solid_bodies.specs.Flattening.{atom_item, typed_item, body_leaf_items, context_items, body_rule_items, rule_context_items, body_items, BodyNames}
use Rattle.lmn_compile_head.specs.Accepted.{head_items}
use Rattle.lmn_compile_head.specs.Heads.{kind_in}
use Rattle.lmn_compile_body.specs.Accepted.{rule_body_names, rule_body_items}
use Rattle.lmn_compile_body.proofs.BodyTrees as bodies
use Rattle.lmn_compile_body.proofs.BodyTrees.{flat_body, flat_bodies}
use Rattle.lmn_compile_listing.specs.Listings.{CodesHaveNames}
use Rattle.lmn_compile_listing.proofs.HeadNames as in_head
use Rattle.lmn_compile_listing.proofs.BodyNames as in_body
use Rattle.lmn_compile_listing.proofs.HeadNames.{head_has}
use Rattle.lmn_compile_listing.proofs.BodyNames.{body_has}
use Rattle.lmn_base.proofs.Lists.{all_append as all_both, all_left as all_front, all_right as all_back}
use Rattle.lmn_guards.specs.declared.plan.TypeKind.{TypeKind}

module _ (names : List (List ℕ)) where
  abbrev IsHeld : ℕ → Type 0
  IsHeld n = n < length names

  -- the list has the name of a leaf, if it is an atom
  abbrev HasLeaf : Leaf → Type 0
  HasLeaf (leaf.Atom functor links pos) = HasLabel names functor.label
  HasLeaf (leaf.Typed name link pos) = Unit {0}

  label_held : (l : Label) → AllByRecursion IsHeld (label_names l) → HasLabel names l
  label_held (label.Name n) h = h.0
  label_held (label.Int z) h = tt

  leaf_held : (l : Leaf) → AllByRecursion IsHeld (leaf_names l) → HasLeaf l
  leaf_held (leaf.Atom functor links pos) h = label_held functor.label h
  leaf_held (leaf.Typed name link pos) h = tt

  leaves_held : (ls : List Leaf) → AllByRecursion IsHeld (flat_map leaf_names ls) → AllByRecursion HasLeaf ls
  leaves_held [] h = tt
  leaves_held (l ∷ ls) h = (
    leaf_held l (all_front IsHeld (leaf_names l) (flat_map leaf_names ls) h),
    leaves_held ls (all_back IsHeld (leaf_names l) (flat_map leaf_names ls) h),
  )

  level_held : (l : Level) → AllByRecursion IsHeld (level_names l) → AllByRecursion HasLeaf (leaves_of l)
  level_held l h =
      let ls = flat_map leaf_names (leaves_of l) in
      let cs = context_names (contexts_of l) in
      leaves_held (leaves_of l) (all_front IsHeld ls cs (all_front IsHeld (ls ++ cs) (context_names (rule_contexts_of l)) h))

  -- ---- the items of a head

  module _ (kind : ℕ → TypeKind) where
    head_leaves_have : (inside : ℕ) (ls : List Leaf) → AllByRecursion HasLeaf ls → AllByRecursion (in_head.HasItem names) (heads.leaf_items kind inside ls)
    head_leaves_have inside [] h = tt
    head_leaves_have inside (leaf.Atom functor links pos ∷ ls) h = (h.0, head_leaves_have inside ls h.1)
    head_leaves_have inside (leaf.Typed name link pos ∷ ls) h = (tt, head_leaves_have inside ls h.1)

    mutual
      head_level : (inside next : ℕ) (hd : Head) → AllByRecursion HasLeaf (head_leaves hd) → AllByRecursion (in_head.HasItem names) (flat_items kind inside next hd)
      head_level inside next (head leaves hs cs rcs rs) h =
          all_both (in_head.HasItem names) (heads.leaf_items kind inside leaves) (flat_membranes kind inside next hs)
          (head_leaves_have inside leaves (all_front HasLeaf leaves (heads_leaves hs) h)) (head_levels inside next hs (all_back HasLeaf leaves (heads_leaves hs) h))

      head_levels : (inside next : ℕ) (hs : Heads) → AllByRecursion HasLeaf (heads_leaves hs) → AllByRecursion (in_head.HasItem names) (flat_membranes kind inside next hs)
      head_levels inside next no_head h = tt
      head_levels inside next (head_and hd hs) h = (
        tt,
        all_both (in_head.HasItem names) (flat_items kind next (next + 1) hd) (flat_membranes kind inside (next + 1 + size hd) hs)
            (head_level next (next + 1) hd (all_front HasLeaf (head_leaves hd) (heads_leaves hs) h))
            (head_levels inside (next + 1 + size hd) hs (all_back HasLeaf (head_leaves hd) (heads_leaves hs) h)),
      )

    head_items_have : (l : Level) → AllByRecursion HasLeaf (leaves_of l) → AllByRecursion (in_head.HasItem names) (heads.items_of_head kind l)
    head_items_have l h =
        subst (AllByRecursion (in_head.HasItem names)) (sym (trees.items_flat kind l)) (head_level 0 1 (head_at l) (subst (AllByRecursion HasLeaf) (same_leaves l) h))

  -- ---- the items of a body

  module _ (bn : BodyNames) where
    abbrev HasItems : List BodyItem → Type 0
    HasItems = AllByRecursion (in_body.HasItem names)

    of_atom : (t : Bool) (f : Functor) (ys : List ℕ) (inside : ℕ) → HasLabel names f.label → in_body.HasItem names (atom_item t f ys inside)
    of_atom true f [] inside h = h
    of_atom true f (a ∷ []) inside h = h
    of_atom true f (a ∷ (b ∷ [])) inside h = tt
    of_atom true f (a ∷ (b ∷ (c ∷ ys))) inside h = h
    of_atom false f ys inside h = h

    of_typed : (o : Option ℕ) (i x inside : ℕ) → in_body.HasItem names (typed_item o i x inside)
    of_typed (Some g) i x inside = tt
    of_typed None i x inside = tt

    of_leaves : (inside : ℕ) (ls : List Leaf) → AllByRecursion HasLeaf ls → HasItems (body_leaf_items bn inside ls)
    of_leaves inside [] h = tt
    of_leaves inside (leaf.Atom f os p ∷ ls) h = (of_atom (same_functor f connector) f (map (λ o. o.link) os) inside h.0, of_leaves inside ls h.1)
    of_leaves inside (leaf.Typed m u p ∷ ls) h = (of_typed (bn.part m) (bn.integer m) u.link inside, of_leaves inside ls h.1)

    of_contexts : (inside : ℕ) (us : List CtxUse) → HasItems (context_items bn inside us)
    of_contexts inside [] = tt
    of_contexts inside (u ∷ us) = (tt, of_contexts inside us)

    of_rules : (inside : ℕ) (ks : List ℕ) → HasItems (body_rule_items inside ks)
    of_rules inside [] = tt
    of_rules inside (k ∷ ks) = (tt, of_rules inside ks)

    of_rule_contexts : (inside : ℕ) (us : List CtxUse) → HasItems (rule_context_items bn inside us)
    of_rule_contexts inside [] = tt
    of_rule_contexts inside (u ∷ us) = (tt, of_rule_contexts inside us)

    mutual
      body_level : (inside next : ℕ) (hd : Head) → AllByRecursion HasLeaf (head_leaves hd) → HasItems (flat_body bn inside next hd)
      body_level inside next (head leaves hs cs rcs rs) h =
          let ks = body_rule_items inside rs in
          let us = rule_context_items bn inside rcs in
          let vs = context_items bn inside cs in
          all_both (in_body.HasItem names) (body_leaf_items bn inside leaves) (flat_bodies bn inside next hs ++ (vs ++ (ks ++ us))) (of_leaves inside leaves (all_front HasLeaf leaves (heads_leaves hs) h))
          (all_both (in_body.HasItem names) (flat_bodies bn inside next hs) (vs ++ (ks ++ us)) (body_levels inside next hs (all_back HasLeaf leaves (heads_leaves hs) h))
          (all_both (in_body.HasItem names) vs (ks ++ us) (of_contexts inside cs) (all_both (in_body.HasItem names) ks us (of_rules inside rs) (of_rule_contexts inside rcs))))

      body_levels : (inside next : ℕ) (hs : Heads) → AllByRecursion HasLeaf (heads_leaves hs) → HasItems (flat_bodies bn inside next hs)
      body_levels inside next no_head h = tt
      body_levels inside next (head_and hd hs) h = (
        tt,
        all_both (in_body.HasItem names) (flat_body bn next (next + 1) hd) (flat_bodies bn inside (next + 1 + size hd) hs)
            (body_level next (next + 1) hd (all_front HasLeaf (head_leaves hd) (heads_leaves hs) h))
            (body_levels inside (next + 1 + size hd) hs (all_back HasLeaf (head_leaves hd) (heads_leaves hs) h)),
      )

    body_items_have : (k : ℕ) (l : Level) → AllByRecursion HasLeaf (leaves_of l) → HasItems (body_items bn k l)
    body_items_have k l h =
        subst HasItems (sym (bodies.items_flat bn k l)) (body_level 0 (1 + k) (head_at l) (subst (AllByRecursion HasLeaf) (same_leaves l) h))

-- a list that has the names of a rule has those of its code
pub codes_have_names : CodesHaveNames
codes_have_names names r plan known =
    let P = IsHeld names in
    let all = recursion_from_All P (names_in_rule r) known in
    let guard = flat_map condition_names r.guard in
    let above = all_front P (level_names r.head) guard (all_front P (level_names r.head ++ guard) (level_names r.body) all) in
    let below = all_back P (level_names r.head ++ guard) (level_names r.body) all in (
      head_has names (head_items r plan) r.guard (head_items_have names (kind_in plan.kinds) r.head (level_held names r.head above)),
      body_has names (head_items r plan) (rule_body_items r plan) (length r.links)
          (body_items_have names (rule_body_names r plan) _ r.body (level_held names r.body below)),
    )
