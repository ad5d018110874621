-- A listing keeps the items of a head and of a body, where it keeps the leaves of their levels.
use Rattle.std.proofs.Common.{ℕ, ◌+◌, ◌≤◌, Bool, true, false, List, [], ◌∷◌, ◌++◌, map, length, Option, Some, None, sym, subst, arith}
use Rattle.std.specs.List.{AllByRecursion}
use Rattle.std.proofs.lemmas.List.{length-map}
use Rattle.lmn_base.specs.declared.functor.Functor.{Functor}
use Rattle.lmn_base.specs.declared.level.CtxUse.{CtxUse}
use Rattle.lmn_base.specs.declared.level.Leaf.{Leaf}
use Rattle.lmn_base.specs.declared.level.Leaf.TheVariants as leaf
use Rattle.lmn_base.specs.declared.level.Level.{Level}
use Rattle.lmn_base.specs.Levels.{leaves_of}
use Rattle.lmn_base.specs.Limits.{most_links}
use Rattle.lmn_base.specs.Solids.{connector}
use Rattle.lmn_base.proofs.Lists.{all_append as all_both, all_left as all_front, all_right as all_back}
use Rattle.lmn_store_heap.specs.Functors.{same_functor}
use Rattle.lmn_solid_heads.specs.Flattening as heads
use Rattle.lmn_solid_heads.proofs.HeadTrees as trees
use Rattle.lmn_solid_heads.proofs.HeadTrees.{Head, Heads, head, no_head, head_and, head_at, head_leaves, heads_leaves, same_leaves, flat_items, flat_membranes, size}
use Rattle.lmn_solid_bodies.specs.declared.items.BodyItem.{BodyItem}
use Rattle.lmn_solid_bodies.specs.Flattening.{atom_item, typed_item, body_leaf_items, context_items, body_rule_items, rule_context_items, body_items, BodyNames}
use Rattle.lmn_compile_body.proofs.BodyTrees as bodies
use Rattle.lmn_compile_body.proofs.BodyTrees.{flat_body, flat_bodies}
use Rattle.lmn_guards.specs.declared.plan.TypeKind.{TypeKind}
use Rattle.lmn_instr_code.specs.declared.words.Operand.TheVariants as operand_of
use Rattle.lmn_verify_compiled.specs.Kept.{IsKept}
use Rattle.lmn_verify_compiled.proofs.KeptHeads as in_head
use Rattle.lmn_verify_compiled.proofs.KeptBodies as in_body

-- a listing keeps the functor of a leaf, if it is an atom, which hasn't too many links
abbrev pub KeptLeaf : Leaf → Type 0
KeptLeaf (leaf.Atom functor links pos) = IsKept (operand_of.Functor functor) × (length links ≤ most_links)
KeptLeaf (leaf.Typed name link pos) = Unit {0}

-- ---- the items of a head

module _ (kind : ℕ → TypeKind) where
  head_leaves_kept : (inside : ℕ) (ls : List Leaf) → AllByRecursion KeptLeaf ls → AllByRecursion (in_head.KeptItem) (heads.leaf_items kind inside ls)
  head_leaves_kept inside [] h = tt
  head_leaves_kept inside (leaf.Atom functor links pos ∷ ls) h =
      let same = length-map links (λ o. o.link) in let few = h.0.1 in ((h.0.0, omega (arith, same, few)), head_leaves_kept inside ls h.1)
  head_leaves_kept inside (leaf.Typed name link pos ∷ ls) h = (tt, head_leaves_kept inside ls h.1)

  mutual
    head_level : (inside next : ℕ) (hd : Head) → AllByRecursion KeptLeaf (head_leaves hd) → AllByRecursion (in_head.KeptItem) (flat_items kind inside next hd)
    head_level inside next (head leaves hs cs rcs rs) h =
        all_both (in_head.KeptItem) (heads.leaf_items kind inside leaves) (flat_membranes kind inside next hs)
        (head_leaves_kept inside leaves (all_front KeptLeaf leaves (heads_leaves hs) h)) (head_levels inside next hs (all_back KeptLeaf leaves (heads_leaves hs) h))

    head_levels : (inside next : ℕ) (hs : Heads) → AllByRecursion KeptLeaf (heads_leaves hs) → AllByRecursion (in_head.KeptItem) (flat_membranes kind inside next hs)
    head_levels inside next no_head h = tt
    head_levels inside next (head_and hd hs) h = (
      tt,
      all_both (in_head.KeptItem) (flat_items kind next (next + 1) hd) (flat_membranes kind inside (next + 1 + size hd) hs)
          (head_level next (next + 1) hd (all_front KeptLeaf (head_leaves hd) (heads_leaves hs) h))
          (head_levels inside (next + 1 + size hd) hs (all_back KeptLeaf (head_leaves hd) (heads_leaves hs) h)),
    )

  pub head_items_kept : (l : Level) → AllByRecursion KeptLeaf (leaves_of l) → AllByRecursion (in_head.KeptItem) (heads.items_of_head kind l)
  head_items_kept l h =
      subst (AllByRecursion (in_head.KeptItem)) (sym (trees.items_flat kind l)) (head_level 0 1 (head_at l) (subst (AllByRecursion KeptLeaf) (same_leaves l) h))

-- ---- the items of a body

module _ (bn : BodyNames) where
  abbrev AllKept : List BodyItem → Type 0
  AllKept = AllByRecursion (in_body.KeptItem)

  of_atom : (t : Bool) (f : Functor) (ys : List ℕ) (inside : ℕ) → IsKept (operand_of.Functor f) → in_body.KeptItem (atom_item t f ys inside)
  of_atom true f [] inside h = h
  of_atom true f (a ∷ []) inside h = h
  of_atom true f (a ∷ (b ∷ [])) inside h = tt
  of_atom true f (a ∷ (b ∷ (c ∷ ys))) inside h = h
  of_atom false f ys inside h = h

  of_typed : (o : Option ℕ) (i x inside : ℕ) → in_body.KeptItem (typed_item o i x inside)
  of_typed (Some g) i x inside = tt
  of_typed None i x inside = tt

  of_leaves : (inside : ℕ) (ls : List Leaf) → AllByRecursion KeptLeaf ls → AllKept (body_leaf_items bn inside ls)
  of_leaves inside [] h = tt
  of_leaves inside (leaf.Atom f os p ∷ ls) h = (of_atom (same_functor f connector) f (map (λ o. o.link) os) inside h.0.0, of_leaves inside ls h.1)
  of_leaves inside (leaf.Typed m u p ∷ ls) h = (of_typed (bn.part m) (bn.integer m) u.link inside, of_leaves inside ls h.1)

  of_contexts : (inside : ℕ) (us : List CtxUse) → AllKept (context_items bn inside us)
  of_contexts inside [] = tt
  of_contexts inside (u ∷ us) = (tt, of_contexts inside us)

  of_rules : (inside : ℕ) (ks : List ℕ) → AllKept (body_rule_items inside ks)
  of_rules inside [] = tt
  of_rules inside (k ∷ ks) = (tt, of_rules inside ks)

  of_rule_contexts : (inside : ℕ) (us : List CtxUse) → AllKept (rule_context_items bn inside us)
  of_rule_contexts inside [] = tt
  of_rule_contexts inside (u ∷ us) = (tt, of_rule_contexts inside us)

  mutual
    body_level : (inside next : ℕ) (hd : Head) → AllByRecursion KeptLeaf (head_leaves hd) → AllKept (flat_body bn inside next hd)
    body_level inside next (head leaves hs cs rcs rs) h =
        let ks = body_rule_items inside rs in
        let us = rule_context_items bn inside rcs in
        let vs = context_items bn inside cs in
        all_both (in_body.KeptItem) (body_leaf_items bn inside leaves) (flat_bodies bn inside next hs ++ (vs ++ (ks ++ us))) (of_leaves inside leaves (all_front KeptLeaf leaves (heads_leaves hs) h))
        (all_both (in_body.KeptItem) (flat_bodies bn inside next hs) (vs ++ (ks ++ us)) (body_levels inside next hs (all_back KeptLeaf leaves (heads_leaves hs) h))
        (all_both (in_body.KeptItem) vs (ks ++ us) (of_contexts inside cs) (all_both (in_body.KeptItem) ks us (of_rules inside rs) (of_rule_contexts inside rcs))))

    body_levels : (inside next : ℕ) (hs : Heads) → AllByRecursion KeptLeaf (heads_leaves hs) → AllKept (flat_bodies bn inside next hs)
    body_levels inside next no_head h = tt
    body_levels inside next (head_and hd hs) h = (
      tt,
      all_both (in_body.KeptItem) (flat_body bn next (next + 1) hd) (flat_bodies bn inside (next + 1 + size hd) hs)
          (body_level next (next + 1) hd (all_front KeptLeaf (head_leaves hd) (heads_leaves hs) h))
          (body_levels inside (next + 1 + size hd) hs (all_back KeptLeaf (head_leaves hd) (heads_leaves hs) h)),
    )

  pub body_items_kept : (k : ℕ) (l : Level) → AllByRecursion KeptLeaf (leaves_of l) → AllKept (body_items bn k l)
  body_items_kept k l h =
      subst AllKept (sym (bodies.items_flat bn k l)) (body_level 0 (1 + k) (head_at l) (subst (AllByRecursion KeptLeaf) (same_leaves l) h))
