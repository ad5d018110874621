-- The connectors of a raw level are fused.
use Rattle.std.proofs.Common.{ℕ, zero, suc, ◌≡◌, ◌==◌, ◌+◌, inl, inr, Bool, true, false, cond, List, [], ◌∷◌, ◌++◌, map, refl, sym, ap, subst, ◌∙◌, length}
use Rattle.std.proofs.lemmas.List.{length-map}
use Rattle.std.proofs.lemmas.Bool.{eqb-true}
use Rattle.lmn_base.specs.declared.level.Leaf.{Leaf}
use Rattle.lmn_base.specs.declared.level.Leaf.TheVariants as leaf
use Rattle.lmn_base.specs.Solids.{connector}
use Rattle.lmn_store_heap.specs.Functors.{same_functor}
use Rattle.lmn_congruence.specs.Fused.{Joins}
use Rattle.lmn_congruence.specs.LinkedRules.{level_occurrences}
use Rattle.lmn_congruence.specs.Plains.{leaf_process, levels_processes}
use Rattle.lmn_congruence.specs.Process.{together}
use Rattle.lmn_congruence.specs.Rules as tree
use Rattle.lmn_congruence.specs.Translation.{leaf_of, levels, rules as listed_rules}
use Rattle.lmn_adequacy.specs.Embedding.{Contents}
use Rattle.lmn_adequacy.specs.Next.{MadeLeaves, no_made_leaf, made_atom, made_connector, made_copy, MadeLevel, made_level, MadeMembranes, no_made_membrane, made_membrane, part_leaves, kept_atoms, kept_membranes, MadeContexts, made_context, no_made_context, wire_leaves}
use Rattle.lmn_congruence.specs.Regions.{SolidAtom}
use Rattle.lmn_solid_heads.proofs.HeadTrees.{Head, Heads, head, no_head, head_and, size}
use Rattle.lmn_congruence_splice.specs.Splice.{IsOneOf, of_rule, of_solid}
use Rattle.lmn_solid_bodies.specs.declared.items.BodyItem.{BodyItem}
use Rattle.lmn_solid_bodies.specs.declared.items.BodyItem.TheVariants.{Atom, Connector, Copy, Bound, Membrane, Rest, Rule, Rules}
use Rattle.lmn_solid_bodies.specs.Flattening.{BodyNames, atom_item, typed_item, body_leaf_items, context_items, body_rule_items, rule_context_items}
use Rattle.lmn_solid_bodies.specs.Items.{connectors}
use Rattle.lmn_adequacy_heaps.proofs.HeadTrees.{tree_of, trees_of}
use Rattle.lmn_compile_body.proofs.BodyTrees.{flat_body, flat_bodies}
use Rattle.lmn_adequacy_turns.proofs.Bodies.{leaf_cases}
use Rattle.lmn_adequacy_turns.proofs.Kept.{kept_atoms_join, kept_membranes_join}
use Rattle.lmn_congruence.proofs.Common.{rules_join}
use Rattle.lmn_congruence_splice.proofs.Common.{in_back, in_front}

-- ---- lists of processes

-- a map joins the connectors of two lists of leaves where it does those of each
pub leaves_join_both : (to : ℕ → ℕ) (xs ys : List tree.Leaf) → Joins to (together (map leaf_process xs)) → Joins to (together (map leaf_process ys)) → Joins to (together (map leaf_process (xs ++ ys)))
leaves_join_both to [] ys a b = b
leaves_join_both to (x ∷ xs) ys a b = (a.0, leaves_join_both to xs ys a.1 b)

-- and those of two lists of levels
pub levels_join_both : (to : ℕ → ℕ) (xs ys : List tree.Level) → Joins to (together (levels_processes (levels xs))) → Joins to (together (levels_processes (levels ys))) → Joins to (together (levels_processes (levels (xs ++ ys))))
levels_join_both to [] ys a b = b
levels_join_both to (x ∷ xs) ys a b = (a.0, levels_join_both to xs ys a.1 b)

made_atoms_join : (to : ℕ → ℕ) (xs : List SolidAtom) → Joins to (together (map leaf_process (part_leaves xs)))
made_atoms_join to [] = tt
made_atoms_join to (x ∷ xs) = (tt, made_atoms_join to xs)

-- ---- the wires of the head

-- a map joins the wires of a head
pub wires_join : (to f : ℕ → ℕ) (l : tree.Level) (n : ℕ) → ((x : ℕ) → level_occurrences x l ≡ 1 → to (of_rule x) ≡ to (of_solid (f x))) → Joins to (together (map leaf_process (wire_leaves f l n)))
wires_join to f l zero fused = tt
wires_join to f l (suc n) fused = by (wires_join to f l n fused) (level_occurrences n l == 1) refl
  where
    by : Joins to (together (map leaf_process (wire_leaves f l n))) → (b : Bool) → (level_occurrences n l == 1) ≡ b → Joins to (together (map leaf_process (cond b (tree.connector_leaf (of_rule n) (of_solid (f n)) ∷ wire_leaves f l n) (wire_leaves f l n))))
    by rest true e = (fused n (eqb-true (level_occurrences n l) 1 e), rest)
    by rest false e = rest

-- ---- the connectors of the body

connectors_both : (xs ys : List BodyItem) → connectors (xs ++ ys) ≡ connectors xs ++ connectors ys
connectors_both [] ys = refl
connectors_both (Atom functor links inside ∷ xs) ys = connectors_both xs ys
connectors_both (Connector left right ∷ xs) ys = ap (λ z. (left, right) ∷ z) (connectors_both xs ys)
connectors_both (Copy part link inside ∷ xs) ys = connectors_both xs ys
connectors_both (Bound integer link inside ∷ xs) ys = connectors_both xs ys
connectors_both (Membrane inside ∷ xs) ys = connectors_both xs ys
connectors_both (Rest of closed inside ∷ xs) ys = connectors_both xs ys
connectors_both (Rule k inside ∷ xs) ys = connectors_both xs ys
connectors_both (Rules of inside ∷ xs) ys = connectors_both xs ys

-- the connectors among items are fused
abbrev pub AreFused : (ℕ → ℕ) → List BodyItem → Type 0
AreFused to xs = (e : ℕ × ℕ) → IsOneOf e (connectors xs) → to (of_rule e.0) ≡ to (of_rule e.1)

fused_front : (to : ℕ → ℕ) (xs ys : List BodyItem) → AreFused to (xs ++ ys) → AreFused to xs
fused_front to xs ys f e i = f e (subst (IsOneOf e) (sym (connectors_both xs ys)) (in_front e (connectors xs) (connectors ys) i))

fused_back : (to : ℕ → ℕ) (xs ys : List BodyItem) → AreFused to (xs ++ ys) → AreFused to ys
fused_back to xs ys f e i = f e (subst (IsOneOf e) (sym (connectors_both xs ys)) (in_back e (connectors xs) (connectors ys) i))

module _ (names : List tree.Name) (tree_at : ℕ → tree.Rule) (bn : BodyNames) (c : Contents) (to : ℕ → ℕ) where
  -- an atom fits its arity
  abbrev pub Fit : List Leaf → Type 0
  Fit [] = Unit {0}
  Fit (leaf.Atom f os p ∷ ls) = (length os ≡ f.arity) × Fit ls
  Fit (leaf.Typed n o p ∷ ls) = Fit ls

  abbrev mutual
    pub AllFit : Head → Type 0
    AllFit (head leaves hs cs rcs rs) = Fit leaves × AllFitIn hs

    pub AllFitIn : Heads → Type 0
    AllFitIn no_head = Unit {0}
    AllFitIn (head_and h hs) = AllFit h × AllFitIn hs

  leaf_joins : {l : tree.Leaf} {ls outs : List tree.Leaf} (x y : ℕ) → l ≡ tree.connector_leaf x y → to (of_rule x) ≡ to (of_rule y) → MadeLeaves c (l ∷ ls) outs → ((others : List tree.Leaf) → MadeLeaves c ls others → Joins to (together (map leaf_process others))) → Joins to (together (map leaf_process outs))
  leaf_joins x y e fused (made_atom d) k = (tt, k _ d)
  leaf_joins x y e fused (made_connector {x = a} {y = b} d) k =
      let first : a ≡ x = cc in
      let second : b ≡ y = cc in
      (ap (λ z. to (of_rule z)) first ∙ fused ∙ ap (λ z. to (of_rule z)) (sym second), k _ d)
  leaf_joins x y e fused (made_copy {part = part} {outs = outs} i o d) k = leaves_join_both to (part_leaves part) outs (made_atoms_join to part) (k outs d)

  atom_joins : {l : tree.Leaf} {ls outs : List tree.Leaf} (a : tree.Label) (ys : List ℕ) → l ≡ tree.atom_leaf a ys → MadeLeaves c (l ∷ ls) outs → ((others : List tree.Leaf) → MadeLeaves c ls others → Joins to (together (map leaf_process others))) → Joins to (together (map leaf_process outs))
  atom_joins a ys e (made_atom d) k = (tt, k _ d)
  atom_joins a ys e (made_connector d) k = absurd (cc)
  atom_joins a ys e (made_copy {part = part} {outs = outs} i o d) k = leaves_join_both to (part_leaves part) outs (made_atoms_join to part) (k outs d)

  leaves_join : (inside : ℕ) (ls : List Leaf) {outs : List tree.Leaf} → Fit ls → AreFused to (body_leaf_items bn inside ls) → MadeLeaves c (map (leaf_of names) ls) outs → Joins to (together (map leaf_process outs))
  leaves_join inside [] a f no_made_leaf = tt
  leaves_join inside (leaf.Atom fu os p ∷ ls) a f d =
      let ys = map (λ o. o.link) os in
      let i = atom_item (same_functor fu connector) fu ys inside in
      let rest = fused_back to (i ∷ []) (body_leaf_items bn inside ls) f in
      elim (leaf_cases names fu ys inside (length-map os (λ o. o.link) ∙ a.0)) [
        | inl k ↦ leaf_joins k.0 k.1 k.2 (subst (λ z. AreFused to (z ∷ [])) k.3 (fused_front to (i ∷ []) (body_leaf_items bn inside ls) f) (k.0, k.1) (inl refl)) d (λ others w. leaves_join inside ls a.1 rest w)
        | inr k ↦ atom_joins _ _ k.0 d (λ others w. leaves_join inside ls a.1 rest w)
      ]
  leaves_join inside (leaf.Typed n o p ∷ ls) a f (made_copy {part = part} {outs = outs} i order d) =
      leaves_join_both to (part_leaves part) outs (made_atoms_join to part) (leaves_join inside ls a (fused_back to (typed_item (bn.part n) (bn.integer n) o.link inside ∷ []) (body_leaf_items bn inside ls) f) d)

  contexts_join : {ps : List tree.Context} {xs : List SolidAtom} {ks : List tree.Level} → MadeContexts c ps xs ks → Joins to (together (levels_processes (levels ks)))
  contexts_join no_made_context = tt
  contexts_join (made_context {ms = ms} {ks = ks} i j) = levels_join_both to (kept_membranes ms) ks (kept_membranes_join to ms) (contexts_join j)

  mutual
    pub level_joins : (inside next : ℕ) (hd : Head) {outs : List tree.Leaf} {inner : List tree.Level} {rs : List tree.Rule} → AllFit hd → AreFused to (flat_body bn inside next hd) → MadeLevel c (tree_of names tree_at hd) outs inner rs →
        Joins to (together (map leaf_process outs)) × Joins to (together (levels_processes (levels inner)))
    level_joins inside next (head leaves hs cs rcs rs) a f (made_level {outs = outs} {made = made} {ks = ks} {xs = xs} dl dm dc) =
        let L = body_leaf_items bn inside leaves in
        let D = flat_bodies bn inside next hs in
        let T = context_items bn inside cs ++ (body_rule_items inside rs ++ rule_context_items bn inside rcs) in (
          leaves_join_both to outs (kept_atoms xs) (leaves_join inside leaves a.0 (fused_front to L (D ++ T) f) dl) (kept_atoms_join to xs),
          levels_join_both to made ks (bodies_join inside next hs a.1 (fused_front to D T (fused_back to L (D ++ T) f)) dm) (contexts_join dc),
        )

    bodies_join : (inside next : ℕ) (hs : Heads) {made : List tree.Level} → AllFitIn hs → AreFused to (flat_bodies bn inside next hs) → MadeMembranes c (trees_of names tree_at hs) made → Joins to (together (levels_processes (levels made)))
    bodies_join inside next no_head a f no_made_membrane = tt
    bodies_join inside next (head_and hd hs) a f (made_membrane {rs = rs} dl dm) =
        let inner = flat_body bn next (next + 1) hd in
        let behind = flat_bodies bn inside (next + 1 + size hd) hs in
        let tail = fused_back to (Membrane inside ∷ []) (inner ++ behind) f in
        let u = level_joins next (next + 1) hd a.0 (fused_front to inner behind tail) dl in
        ((u.0, (u.1, rules_join to (tree.rules_list (listed_rules rs)))), bodies_join inside (next + 1 + size hd) hs a.1 (fused_back to inner behind tail) dm)
