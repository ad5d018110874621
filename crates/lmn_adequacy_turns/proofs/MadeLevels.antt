-- The membranes that a body makes stand as the calculus says.
use Rattle.std.proofs.Common.{ℕ, ◌+◌, ◌<◌, ◌≤◌, ◌≡◌, ◌≢◌, ◌⊎◌, inl, inr, List, [], ◌∷◌, ◌++◌, map, refl, sym, ap, subst, ◌∙◌, arith}
use Rattle.std.proofs.lemmas.List.{map-append, append-nil}
use Rattle.lmn_base.specs.declared.level.CtxUse.{CtxUse}
use Rattle.lmn_base.specs.declared.level.Leaf.{Leaf}
use Rattle.lmn_base.specs.declared.solid.SolidAtom.{SolidAtom}
use Rattle.lmn_store_heap.specs.Heap.{Heap, atoms_in, rules_in, mems_in}
use Rattle.lmn_congruence.specs.Plains.{fused_leaves, fused_levels}
use Rattle.lmn_congruence.specs.Regions as region
use Rattle.lmn_congruence.specs.Rules as tree
use Rattle.lmn_congruence.specs.Translation.{names_of, levels, rules as listed_rules, solid_atom_of}
use Rattle.lmn_adequacy.specs.Embedding.{Contents}
use Rattle.lmn_adequacy.specs.Next.{kept_atoms, context_rules}
use Rattle.lmn_solid_heads.proofs.HeadTrees.{Head, Heads, head, no_head, head_and, size, sizes}
use Rattle.lmn_adequacy_heaps.specs.HeapRegions.{HeapReading, atoms_at}
use Rattle.lmn_adequacy_heaps.proofs.HeadTrees.{tree_of, trees_of}
use Rattle.lmn_solid_bodies.specs.Flattening.{BodyNames, body_leaf_items, context_items, body_rule_items, rule_context_items}
use Rattle.lmn_solid_bodies.specs.Running.{Registers}
use Rattle.lmn_solid_bodies.specs.RestCopies.{RestCopy, RestCopies}
use Rattle.lmn_compile_body.proofs.BodyTrees.{flat_body, flat_bodies}
use Rattle.lmn_adequacy_turns.specs.Standing.{StandAs, none_stands, one_stands}
use Rattle.lmn_adequacy_turns.proofs.Standings.{stand_both}
use Rattle.lmn_adequacy_turns.proofs.CopyLinks.{Block}
use Rattle.lmn_adequacy_turns.proofs.OwnLinks.{OwnLevel, OwnMembranes, own_level, own_membrane, own_no_membrane}
use Rattle.lmn_adequacy_turns.proofs.Adders.{at, many, past, closed_past, Adder, Away, EachRest, each_rest, rests_in_row, rest_copy, solid_adds, mems_adds, rules_adds, atoms_adder, mems_adder, rules_adder, here_is}
use Rattle.lmn_adequacy_turns.proofs.Locals.{Local, LocalIn, after_leaves, after_level, after_levels, closed_after_level, closed_after_levels, leaves_closed, level_closed, levels_closed, local_inside, local_first, local_rest, body_misses, many_flat, no_leaf_membrane}
use Rattle.lmn_adequacy_turns.proofs.Bodies.{BodyAgrees, BodiesAgree, ContextsAgree, fused_both, leaves_made, leaves_make, leaf_atoms, leaf_adds, contexts_atoms, contexts_membranes, contexts_make, context_atoms_are, context_membranes_stand, contexts_no_rules, rules_alone, rule_contexts_alone, rules_are, rule_contexts_are}
use Rattle.lmn_congruence_splice.specs.Splice.{of_rule}
use Rattle.lmn_congruence.proofs.Common.{rules_listed}
use Rattle.lmn_solid_bodies.specs.declared.items.BodyItem.{BodyItem}

-- nothing in front, nothing behind
no_front : {X : Type 0} {as' bs cs : List X} → as' ≡ [] → bs ≡ cs → as' ++ bs ≡ cs
no_front {bs = bs} e f = ap (λ z. z ++ bs) e ∙ f

no_back : {X : Type 0} {as' bs cs : List X} → as' ≡ cs → bs ≡ [] → as' ++ bs ≡ cs
no_back {as' = as'} e f = ap (λ z. as' ++ z) f ∙ append-nil as' ∙ e

module _ (h h' : Heap) (r : HeapReading) (name : ℕ → ℕ → ℕ) (s : Registers) (bn : BodyNames) (c : Contents) (left : ℕ → List SolidAtom) (left_mems : ℕ → List ℕ) (to : ℕ → ℕ) (limit : ℕ) (copy : ℕ → List SolidAtom) (part : ℕ → ℕ → List region.SolidAtom) (q : RestCopies) (rest : ℕ → ℕ → RestCopy → ℕ → List SolidAtom)
    (rest_none : (d of inside x : ℕ) → at s inside ≢ x → Away s q x d of inside → rest of inside (rest_copy q d) x ≡ []) where
  abbrev r' : HeapReading
  r' = record { name = name; names = r.names; rule = r.rule }

  abbrev A : Adder s q SolidAtom
  A = atoms_adder s q left copy rest (λ z. to (of_rule z)) rest_none

  abbrev M : Adder s q ℕ
  M = mems_adder s q left_mems

  abbrev R : Adder s q ℕ
  R = rules_adder s q (rules_in h)

  abbrev Apart : ℕ → ℕ → ℕ → Type 0
  Apart inside next n = (j : ℕ) → next ≤ j → j < next + n → at s j ≢ at s inside

  -- the membranes of a level, the first in a register
  abbrev pub children : ℕ → Heads → List ℕ
  children next no_head = []
  children next (head_and h hs) = at s next ∷ children (next + 1 + size h) hs

  -- ---- what a level makes

  abbrev pub level_leaves : ℕ → ℕ → Head → List tree.Leaf
  level_leaves k count (head leaves hs cs rcs rs) =
      leaves_made h h' r r' s bn c left left_mems to limit copy part q rest k leaves ++ kept_atoms (contexts_atoms h h' r r' s bn c left left_mems to limit copy part q rest (closed_after_levels count hs) cs)

  abbrev pub level_rules : Head → List tree.Rule
  level_rules (head leaves hs cs rcs rs) = tree.rules_list (listed_rules (map r.rule rs)) ++ context_rules c (names_of r.names rcs)

  abbrev mutual
    pub level_membranes : ℕ → ℕ → Head → List tree.Level
    level_membranes k count (head leaves hs cs rcs rs) = membranes_made (after_leaves bn k leaves) count hs ++ contexts_membranes h h' r r' s bn c left left_mems to limit copy part q rest (closed_after_levels count hs) cs

    pub membranes_made : ℕ → ℕ → Heads → List tree.Level
    membranes_made k count no_head = []
    membranes_made k count (head_and hd hs) = tree.level (level_leaves k count hd) (levels (level_membranes k count hd)) [] [] (listed_rules (level_rules hd)) ∷ membranes_made (after_level bn k hd) (closed_after_level count hd) hs

  mutual
    -- it is what the calculus says
    pub level_makes : (inside next k count : ℕ) (hd : Head) → BodyAgrees h h' r r' s bn c left left_mems to limit copy part q rest inside next k count hd →
        OwnLevel c (Block limit) k (after_level bn k hd) count (closed_after_level count hd) (tree_of r.names r.rule hd) (level_leaves k count hd) (level_membranes k count hd) (level_rules hd)
    level_makes inside next k count (head leaves hs cs rcs rs) a =
        own_level (leaves_make h h' r r' s bn c left left_mems to limit copy part q rest 0 k leaves a.0) (membranes_make next (after_leaves bn k leaves) count hs a.3)
        (contexts_make h h' r r' s bn c left left_mems to limit copy part q rest (closed_after_levels count hs) cs)

    pub membranes_make : (next k count : ℕ) (hs : Heads) → BodiesAgree h h' r r' s bn c left left_mems to limit copy part q rest next k count hs →
        OwnMembranes c (Block limit) k (after_levels bn k hs) count (closed_after_levels count hs) (trees_of r.names r.rule hs) (membranes_made k count hs)
    membranes_make next k count no_head a = own_no_membrane
    membranes_make next k count (head_and hd hs) a = own_membrane (level_makes next (next + 1) k count hd a.0) (membranes_make (next + 1 + size hd) (after_level bn k hd) (closed_after_level count hd) hs a.1)

  -- what the membranes of a level add to the one round them: themselves
  bodies_add : (inside next k count : ℕ) (hs : Heads) → Apart inside next (sizes hs) → EachRest (Away s q (at s inside)) count (flat_bodies bn inside next hs) →
      (solid_adds s q left copy rest (λ z. to (of_rule z)) count k (flat_bodies bn inside next hs) (at s inside) ≡ [])
      × (mems_adds s q left_mems count next (flat_bodies bn inside next hs) (at s inside) ≡ children next hs)
      × (rules_adds s q (rules_in h) count (flat_bodies bn inside next hs) (at s inside) ≡ [])
  bodies_add inside next k count no_head o aw = (refl, refl, refl)
  bodies_add inside next k count (head_and hd hs) o aw =
      let x = at s inside in
      let inner = flat_body bn next (next + 1) hd in
      let behind = flat_bodies bn inside (next + 1 + size hd) hs in
      let m = body_misses bn s x next (next + 1) hd (o next (omega arith) (omega arith)) (λ j a b. o j (omega (arith, a)) (omega (arith, b))) in
      let w = rests_in_row (Away s q x) count inner behind aw in
      let others = bodies_add inside (next + 1 + size hd) (past k inner) (closed_past count inner) hs (λ j a b. o j (omega (arith, a)) (omega (arith, b))) w.1 in
      let n : (next + 1) + many inner ≡ next + 1 + size hd = ap (λ z. (next + 1) + z) (many_flat bn next (next + 1) hd) in (
        A.both count next k inner behind x ∙ no_front (A.missed count next k inner x m w.0) others.0,
        here_is x (at s next ∷ []) (mems_adds s q left_mems count (next + 1) (inner ++ behind) x)
            ∙ ap (λ z. at s next ∷ z) (M.both count (next + 1) k inner behind x ∙ no_front (M.missed count (next + 1) k inner x m w.0) (ap (λ z. mems_adds s q left_mems (closed_past count inner) z behind x) n ∙ others.1)),
        R.both count next k inner behind x ∙ no_front (R.missed count next k inner x m w.0) others.2,
      )

  -- what a level adds to its own membrane
  level_adds : (inside next k count : ℕ) (leaves : List Leaf) (hs : Heads) (cs rcs : List CtxUse) (rs : List ℕ) → Apart inside next (sizes hs) → EachRest (Away s q (at s inside)) count (flat_bodies bn inside next hs) →
      ContextsAgree h h' r r' s bn c left left_mems to limit copy part q rest (closed_after_levels count hs) inside cs →
      let items = flat_body bn inside next (head leaves hs cs rcs rs) in
      let x = at s inside in
      let behind = closed_after_levels count hs in
      ((d : ℕ) × (solid_adds s q left copy rest (λ z. to (of_rule z)) count k items x ≡
      solid_adds s q left copy rest (λ z. to (of_rule z)) count k (body_leaf_items bn inside leaves) x ++ solid_adds s q left copy rest (λ z. to (of_rule z)) behind d (context_items bn inside cs) x))
      × ((n : ℕ) × (mems_adds s q left_mems count next items x ≡ children next hs ++ mems_adds s q left_mems behind n (context_items bn inside cs) x))
      × ((e : ℕ) × (f : ℕ) × (rules_adds s q (rules_in h) count items x ≡ rules_adds s q (rules_in h) e (body_rule_items inside rs) x ++ rules_adds s q (rules_in h) f (rule_context_items bn inside rcs) x))
  level_adds inside next k count leaves hs cs rcs rs o aw agree =
      let x = at s inside in
      let L = body_leaf_items bn inside leaves in
      let D = flat_bodies bn inside next hs in
      let C = context_items bn inside cs in
      let K = body_rule_items inside rs in
      let Q = rule_context_items bn inside rcs in
      let k0 = past k L in
      let k1 = past k0 D in
      let k2 = past k1 C in
      let behind = closed_after_levels count hs in
      let e2 = closed_past behind C in
      let no_rest = leaves_closed bn inside count leaves in
      let inner_rests = levels_closed bn inside next count hs in
      let b = bodies_add inside next k0 count hs o aw in
      let n0 = next + many L in
      let n1 = n0 + many D in
      let n2 = n1 + many C in
      let zero_many : n0 ≡ next = ap (λ z. next + z) (no_leaf_membrane bn inside leaves) ∙ omega arith in
      let adds_leaf = leaf_adds h h' r r' s bn c left left_mems to limit copy part q rest count inside next x leaves in (
        (
          k1,
          A.both count next k L (D ++ (C ++ (K ++ Q))) x
              ∙ ap (λ z. solid_adds s q left copy rest (λ z. to (of_rule z)) count k L x ++ z)
              (ap (λ z. A.adds z n0 k0 (D ++ (C ++ (K ++ Q))) x) no_rest ∙ (A.both count n0 k0 D (C ++ (K ++ Q)) x
              ∙ no_front b.0 (ap (λ z. A.adds z n1 k1 (C ++ (K ++ Q)) x) inner_rests ∙ (A.both behind n1 k1 C (K ++ Q) x ∙ no_back refl (A.both e2 n2 k2 K Q x
              ∙ no_front (rules_alone h h' r r' s bn c left left_mems to limit copy part q rest e2 inside 0 k2 x rs).0 (rule_contexts_alone h h' r r' s bn c left left_mems to limit copy part q rest (closed_past e2 K) inside 0 (past k2 K) x rcs).0))))),
        ),
        (
          n1,
          M.both count next k L (D ++ (C ++ (K ++ Q))) x
              ∙ no_front adds_leaf.0
              (ap (λ z. M.adds z n0 k0 (D ++ (C ++ (K ++ Q))) x) no_rest ∙ (M.both count n0 k0 D (C ++ (K ++ Q)) x
              ∙ (λ i. (ap (λ z. mems_adds s q left_mems count z D x) zero_many ∙ b.1) i
              ++ (ap (λ z. M.adds z n1 k1 (C ++ (K ++ Q)) x) inner_rests ∙ (M.both behind n1 k1 C (K ++ Q) x ∙ no_back refl (M.both e2 n2 k2 K Q x
              ∙ no_front (rules_alone h h' r r' s bn c left left_mems to limit copy part q rest e2 inside n2 k2 x rs).1 (rule_contexts_alone h h' r r' s bn c left left_mems to limit copy part q rest (closed_past e2 K) inside (n2 + many K) k2 x rcs).1))) i))),
        ),
        (
          e2,
          closed_past e2 K,
          R.both count next k L (D ++ (C ++ (K ++ Q))) x
              ∙ no_front adds_leaf.1 (ap (λ z. R.adds z n0 k0 (D ++ (C ++ (K ++ Q))) x) no_rest ∙ (R.both count n0 k0 D (C ++ (K ++ Q)) x
              ∙ no_front b.2 (ap (λ z. R.adds z n1 k1 (C ++ (K ++ Q)) x) inner_rests ∙ (R.both behind n1 k1 C (K ++ Q) x
              ∙ no_front (contexts_no_rules h h' r r' s bn c left left_mems to limit copy part q rest inside behind cs agree) (R.both e2 n2 k2 K Q x))))),
        ),
      )

  module _ (B : List BodyItem) (low high : ℕ) (apart : (j k : ℕ) → (j ≡ 0) ⊎ ((low ≤ j) × (j < high)) → (k ≡ 0) ⊎ ((low ≤ k) × (k < high)) → at s j ≡ at s k → j ≡ k)
      (made_atoms_are : (j : ℕ) → low ≤ j → j < high → atoms_at h' (record { name = name; names = r.names; rule = r.rule }) (atoms_in h' (at s j)) ≡ map (solid_atom_of r.names) (solid_adds s q left copy rest (λ z. to (of_rule z)) 0 0 B (at s j)))
      (made_mems_are : (j : ℕ) → low ≤ j → j < high → mems_in h' (at s j) ≡ mems_adds s q left_mems 0 low B (at s j))
      (made_rules_are : (j : ℕ) → low ≤ j → j < high → rules_in h' (at s j) ≡ rules_adds s q (rules_in h) 0 B (at s j))
      (OK : ℕ → ℕ → ℕ → Type 0) (away : (j : ℕ) → (j ≡ 0) ⊎ ((low ≤ j) × (j < high)) → (t of inside : ℕ) → OK t of inside → Away s q (at s j) t of inside) where
    abbrev Used : ℕ → Type 0
    Used j = (j ≡ 0) ⊎ ((low ≤ j) × (j < high))

    -- what a level makes is what the body adds to its membrane
    pub record LevelStands (inside : ℕ) (outs : List tree.Leaf) (inner : List tree.Level) (rs : List tree.Rule) : Type 0 where
      pub atoms : fused_leaves to outs ≡ map (solid_atom_of r.names) (solid_adds s q left copy rest (λ z. to (of_rule z)) 0 0 B (at s inside))
      pub membranes : StandAs h' (record { name = name; names = r.names; rule = r.rule }) (mems_adds s q left_mems 0 low B (at s inside)) (fused_levels to (levels inner))
      pub rules : rs ≡ map r.rule (rules_adds s q (rules_in h) 0 B (at s inside))

    -- a membrane that is made
    child_stands : (next : ℕ) (outs : List tree.Leaf) (inner others : List tree.Level) (rs : List tree.Rule) (ns : List ℕ) → low ≤ next → next < high → LevelStands next outs inner rs →
        StandAs h' r' ns (fused_levels to (levels others)) → StandAs h' r' (at s next ∷ ns) (fused_levels to (levels (tree.level outs (levels inner) [] [] (listed_rules rs) ∷ others)))
    child_stands next outs inner others rs ns a b d t =
        let atoms = made_atoms_are next a b ∙ sym d.atoms in
        let rules : map r.rule (rules_in h' (at s next)) ≡ tree.rules_list (listed_rules rs) = ap (map r.rule) (made_rules_are next a b) ∙ sym d.rules ∙ sym (rules_listed rs) in
        let stands : StandAs h' r' (at s next ∷ ns) (region.region_and (region.region (atoms_at h' r' (atoms_in h' (at s next))) (fused_levels to (levels inner)) (map r.rule (rules_in h' (at s next)))) (fused_levels to (levels others))) = one_stands {m = at s next} {ns = ns} (subst (λ xs. StandAs h' r' xs (fused_levels to (levels inner))) (sym (made_mems_are next a b)) d.membranes) t in
        subst (λ z. StandAs h' r' (at s next ∷ ns) (region.region_and z (fused_levels to (levels others))))
        (λ i. region.region (atoms i) (fused_levels to (levels inner)) (rules i)) stands

    mutual
      pub level_stands : (hd : Head) (inside next k count : ℕ) → EachRest OK count (flat_body bn inside next hd) → Used inside → low ≤ next → inside < next → next + size hd ≤ high →
          BodyAgrees h h' r r' s bn c left left_mems to limit copy part q rest inside next k count hd →
          Local bn s q A low B low high apart OK away hd inside next k count → Local bn s q M low B low high apart OK away hd inside next k count → Local bn s q R low B low high apart OK away hd inside next k count →
          LevelStands inside (level_leaves k count hd) (level_membranes k count hd) (level_rules hd)
      level_stands (head leaves hs cs rcs rs) inside next k count ok u l i t agrees LA LM LR =
          let o : Apart inside next (sizes hs) = λ j a b e. let q = apart j inside (inr (omega (arith, l, a), omega (arith, b, t))) u e in omega (arith, q, i, a) in
          let x = at s inside in
          let E = body_leaf_items bn inside leaves in
          let D = flat_bodies bn inside next hs in
          let T = context_items bn inside cs ++ (body_rule_items inside rs ++ rule_context_items bn inside rcs) in
          let ok_inner = subst (λ z. EachRest OK z D) (leaves_closed bn inside count leaves) (rests_in_row OK (closed_past count E) D T (rests_in_row OK count E (D ++ T) ok).1).0 in
          let adds = level_adds inside next k count leaves hs cs rcs rs o (each_rest OK (Away s q x) (away inside u) count D ok_inner) agrees.1 in
          let behind = closed_after_levels count hs in
          let outs = leaves_made h h' r r' s bn c left left_mems to limit copy part q rest k leaves in
          let after = after_leaves bn k leaves in
          let context_leaves = contexts_atoms h h' r r' s bn c left left_mems to limit copy part q rest behind cs in
          let context_levels = contexts_membranes h h' r r' s bn c left left_mems to limit copy part q rest behind cs in
          let inner = bodies_stand hs inside next after count ok_inner u l i t agrees.3 (local_inside bn s q A low B low high apart OK away inside next k count leaves hs cs rcs rs ok u l i t LA)
          (local_inside bn s q M low B low high apart OK away inside next k count leaves hs cs rcs rs ok u l i t LM)
          (local_inside bn s q R low B low high apart OK away inside next k count leaves hs cs rcs rs ok u l i t LR) in
          record {
            atoms = fused_both to outs (kept_atoms context_leaves)
                ∙ (λ j. leaf_atoms h h' r r' s bn c left left_mems to limit copy part q rest count inside k leaves agrees.0 j ++ context_atoms_are h h' r r' s bn c left left_mems to limit copy part q rest inside adds.0.0 behind cs agrees.1 j)
                ∙ sym (map-append (solid_atom_of r.names) (solid_adds s q left copy rest (λ z. to (of_rule z)) count k E x) (solid_adds s q left copy rest (λ z. to (of_rule z)) behind adds.0.0 (context_items bn inside cs) x))
                ∙ ap (map (solid_atom_of r.names)) (sym adds.0.1) ∙ ap (map (solid_atom_of r.names)) (sym (LA inside (inl refl)));
            membranes = subst (λ xs. StandAs h' r' xs (fused_levels to (levels (membranes_made after count hs ++ context_levels)))) (sym (LM inside (inl refl) ∙ adds.1.1))
                (stand_both h' r' to (children next hs) (mems_adds s q left_mems behind adds.1.0 (context_items bn inside cs) x) (membranes_made after count hs) context_levels inner
                (context_membranes_stand h h' r r' s bn c left left_mems to limit copy part q rest inside adds.1.0 behind cs agrees.1));
            rules = (λ j. (rules_listed (map r.rule rs) ∙ rules_are h h' r r' s bn c left left_mems to limit copy part q rest adds.2.0 inside rs) j ++ rule_contexts_are h h' r r' s bn c left left_mems to limit copy part q rest adds.2.1 inside rcs agrees.2 j)
                ∙ sym (map-append r.rule (rules_adds s q (rules_in h) adds.2.0 (body_rule_items inside rs) x) (rules_adds s q (rules_in h) adds.2.1 (rule_context_items bn inside rcs) x))
                ∙ ap (map r.rule) (sym (LR inside (inl refl) ∙ adds.2.2));
          }

      bodies_stand : (hs : Heads) (inside next k count : ℕ) → EachRest OK count (flat_bodies bn inside next hs) → Used inside → low ≤ next → inside < next → next + sizes hs ≤ high →
          BodiesAgree h h' r r' s bn c left left_mems to limit copy part q rest next k count hs →
          LocalIn bn s q A low B low high apart OK away hs inside next k count → LocalIn bn s q M low B low high apart OK away hs inside next k count → LocalIn bn s q R low B low high apart OK away hs inside next k count →
          StandAs h' r' (children next hs) (fused_levels to (levels (membranes_made k count hs)))
      bodies_stand no_head inside next k count ok u l i t agrees LA LM LR = none_stands
      bodies_stand (head_and hd hs) inside next k count ok u l i t agrees LA LM LR =
          let under : next < high = omega (arith, t) in
          let mine = flat_body bn next (next + 1) hd in
          let behind = flat_bodies bn inside (next + 1 + size hd) hs in
          let oks = rests_in_row OK count mine behind ok in
          let first = level_stands hd next (next + 1) k count oks.0 (inr (l, under)) (omega (arith, l)) (omega arith) (omega (arith, t)) agrees.0
          (local_first bn s q A low B low high apart OK away inside next k count hd hs ok u l i t LA) (local_first bn s q M low B low high apart OK away inside next k count hd hs ok u l i t LM)
          (local_first bn s q R low B low high apart OK away inside next k count hd hs ok u l i t LR) in
          let others = bodies_stand hs inside (next + 1 + size hd) (after_level bn k hd) (closed_after_level count hd) (subst (λ z. EachRest OK z behind) (level_closed bn next (next + 1) count hd) oks.1) u (omega (arith, l)) (omega (arith, i)) (omega (arith, t)) agrees.1
          (local_rest bn s q A low B low high apart OK away inside next k count hd hs ok u l i t LA) (local_rest bn s q M low B low high apart OK away inside next k count hd hs ok u l i t LM)
          (local_rest bn s q R low B low high apart OK away inside next k count hd hs ok u l i t LR) in
          child_stands next (level_leaves k count hd) (level_membranes k count hd) (membranes_made (after_level bn k hd) (closed_after_level count hd) hs) (level_rules hd) (children (next + 1 + size hd) hs) l under first others
