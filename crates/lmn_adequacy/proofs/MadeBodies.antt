-- A body makes lists in which each link of the rule has as many places as in the body, those of the contexts are kept, and
-- each copy of a typed context has links of its own.
use Rattle.std.proofs.Common.{ℕ, List, map, refl, sym, ap, subst, arith, ◌≡◌, ◌+◌, ◌≤◌, [], ◌∷◌, ◌++◌, ◌∙◌}
use Rattle.lmn_congruence.specs.FreeLinks.{link_bound}
use Rattle.lmn_congruence.specs.LinkedRules.{leaves_occurrences, level_occurrences, levels_occurrences}
use Rattle.lmn_congruence.specs.Orders.{Among, at_head, further}
use Rattle.lmn_congruence.specs.Plains.{leaf_process}
use Rattle.lmn_congruence.specs.Process.{OneToOneOn, occurrences, renamed, together}
use Rattle.lmn_congruence.specs.Rules.{Context, Leaf, Level, Levels, Name, Rule, atom_leaf, closed_context, connector_leaf, level, level_and, no_level, open_context, rules_list, typed_leaf}
use Rattle.lmn_congruence.specs.Regions.{Regions, SolidAtom, region, region_process}
use Rattle.lmn_congruence.specs.Same.{renamed_atom, renamed_regions}
use Rattle.lmn_congruence.specs.Translation.{levels, rules as listed_rules}
use Rattle.lmn_reduction.specs.Assignments.{Assignment}
use Rattle.lmn_reduction.specs.Firing.{typed_contexts, typed_contexts_in, typed_leaves}
use Rattle.lmn_reduction.specs.Parts.{IsGround}
use Rattle.lmn_congruence.proofs.Renaming.{occurrences_image, occurrences_none}
use Rattle.lmn_congruence.proofs.Reordered.{reordered_count}
use Rattle.lmn_adequacy.specs.Accepted.{all_contexts, contexts_in, open_names}
use Rattle.lmn_adequacy.specs.Embedding.{IsPart, Contents, assignment_of, region_of}
use Rattle.lmn_adequacy.specs.Loose.{Plain}
use Rattle.lmn_adequacy.specs.Next.{MadeLeaves, MadeLevel, MadeMembranes, context_rules, kept_atoms, made_atom, part_leaves, made_connector, made_copy, made_level, made_membrane, no_made_leaf, no_made_membrane, MadeContext, MadeContexts, kept_membranes, made_closed, made_context, made_open, no_made_context}
use Rattle.lmn_adequacy.proofs.Bodies.{Copied, Whole, context_places, copied_links, copied_more, copied_none, odd_not_even, past, past_differs, copied_closed, open_places_append}
use Rattle.lmn_congruence.proofs.RenamedRegions.{region_renamed}
use Rattle.lmn_adequacy.proofs.Copies.{made_places}
use Rattle.lmn_adequacy.proofs.InOrder.{contexts_both, held, level_listed, listed, listed_both, together_both}
use Rattle.lmn_adequacy.proofs.Listing.{listing}
use Rattle.lmn_adequacy.proofs.SameParts.{part_count}
use Rattle.lmn_adequacy.proofs.Skeleton.{copy_count, copy_map, copy_one, copy_root, places_even}
use Rattle.lmn_congruence_splice.proofs.Fusions.{apart_rule as even_not_odd, solid_once as odd_differs}
use Rattle.lmn_congruence_splice.specs.Splice.{of_rule, of_solid}
use Rattle.lmn_congruence.proofs.TranslatedLinks.{no_link_in_rules as no_link_rules}
use Rattle.lmn_congruence.proofs.Common.{among_left, among_right}

leaves_both : (z : ℕ) (xs ys : List Leaf) → occurrences z (together (map leaf_process (xs ++ ys))) ≡ occurrences z (together (map leaf_process xs)) + occurrences z (together (map leaf_process ys))
leaves_both z xs ys = reordered_count (together_both leaf_process xs ys) z

module _ (c : Contents) (p : Plain (assignment_of c)) where
  abbrev t : Assignment
  t = assignment_of c

  pub record LeavesListed (ls : List Leaf) (from : ℕ) : Type 0 where
    pub outs : List Leaf
    pub makes : MadeLeaves c ls outs
    pub count : (x : ℕ) → occurrences (of_rule x) (together (map leaf_process outs)) ≡ leaves_occurrences x ls
    pub next : ℕ
    pub later : from ≤ next
    pub odd : (L : ℕ) → Copied from next L 0 (occurrences (of_solid L) (together (map leaf_process outs)))

  pub record LevelListed (l : Level) (from : ℕ) : Type 0 where
    pub outs : List Leaf
    pub membranes : List Level
    pub rule_list : List Rule
    pub makes : MadeLevel c l outs membranes rule_list
    pub count : (x : ℕ) → occurrences (of_rule x) (listed outs membranes rule_list) ≡ level_occurrences x l
    pub next : ℕ
    pub later : from ≤ next
    pub odd : (L : ℕ) → Copied from next L (context_places t p L (open_names (all_contexts l))) (occurrences (of_solid L) (listed outs membranes rule_list))

  pub record LevelsListed (ls : Levels) (from : ℕ) : Type 0 where
    pub membranes : List Level
    pub makes : MadeMembranes c ls membranes
    pub count : (x : ℕ) → occurrences (of_rule x) (together (map held membranes)) ≡ levels_occurrences x ls
    pub next : ℕ
    pub later : from ≤ next
    pub odd : (L : ℕ) → Copied from next L (context_places t p L (open_names (contexts_in ls))) (occurrences (of_solid L) (together (map held membranes)))

  abbrev Ready : List Name → Type 0
  Ready ps = (q : Name) → Among q ps → (IsGround (c.typed_of q)) × Whole (c.typed_of q)

  leaves_listed : (ls : List Leaf) → Ready (typed_leaves ls) → (N : ℕ) → LeavesListed ls N
  leaves_listed [] w N = record { outs = []; makes = no_made_leaf; count = λ x. refl; next = N; later = omega arith; odd = λ L. copied_none N N L 0 0 refl }
  leaves_listed (atom_leaf a ys ∷ ls) w N =
      let u = leaves_listed ls w N in
      record {
        outs = atom_leaf a (map of_rule ys) ∷ u.outs;
        makes = made_atom u.makes;
        count = λ x. omega (arith, places_even t p x ys, u.count x);
        next = u.next;
        later = u.later;
        odd = λ L. let k = u.odd L in record { copies = k.copies; is = omega (arith, odd_not_even t p L ys, k.is); whole = k.whole };
      }
  leaves_listed (connector_leaf y z ∷ ls) w N =
      let u = leaves_listed ls w N in
      record {
        outs = connector_leaf (of_rule y) (of_rule z) ∷ u.outs;
        makes = made_connector u.makes;
        count = λ x. omega (arith, places_even t p x (y ∷ z ∷ []), u.count x);
        next = u.next;
        later = u.later;
        odd = λ L. let k = u.odd L in record { copies = k.copies; is = omega (arith, odd_not_even t p L (y ∷ z ∷ []), k.is); whole = k.whole };
      }
  leaves_listed (typed_leaf q y ∷ ls) w N =
      let G = c.typed_of q in
      let M : ℕ = N + link_bound G.process in
      let u = leaves_listed ls (λ q' a. w q' (further a)) M in
      let e = w q at_head in
      let f = copy_map t p G (past t p N) y in
      let one : OneToOneOn (past t p N) G.process = λ a b o o' e. past_differs t p N a b e in
      let one_f = copy_one t p G (past t p N) y one in
      let root = copy_root t p G (past t p N) y G.root refl in
      let k = listing G e.0 e.1 f one_f (of_rule y) root in
      let i : IsPart G (of_rule y) k.part = record { only_atoms = e.0.only_atoms; to = f; one_to_one = one_f; root = root; atoms = k.atoms } in
      let n : (z : ℕ) → occurrences z (together (map leaf_process (part_leaves k.part ++ u.outs))) ≡ occurrences z (renamed f G.process) + occurrences z (together (map leaf_process u.outs)) =
      λ z. omega (arith, leaves_both z (part_leaves k.part) u.outs, made_places z k.part, part_count i z) in
      record {
        outs = part_leaves k.part ++ u.outs;
        makes = made_copy i k.order u.makes;
        count = λ x. omega (arith, n (of_rule x), copy_count t p G (past t p N) y x (p.root_is_free q) one, u.count x);
        next = u.next;
        later = omega (arith, u.later);
        odd = λ L.
            let d = copied_more N M u.next L 0 0 (occurrences (of_solid L) (renamed f G.process)) (occurrences (of_solid L) (together (map leaf_process u.outs))) (omega arith) u.later (copied_links t p N y L G e.1) (u.odd L) in
            record { copies = d.copies; is = omega (arith, n (of_solid L), d.is); whole = d.whole };
      }

  -- ---- contexts

  record ContextListed (q : Context) (from : ℕ) : Type 0 where
    pub atoms : List SolidAtom
    pub membranes : Regions
    pub makes : MadeContext c q (region atoms membranes [])
    pub next : ℕ
    pub later : from ≤ next
    pub odd : (L : ℕ) → Copied from next L (context_places t p L (open_names (q ∷ []))) (occurrences L (region_process (region atoms membranes [])))

  context_listed : (q : Context) (N : ℕ) → ContextListed q N
  context_listed (open_context q) N = record {
    atoms = c.atoms_of (open_context q);
    membranes = c.membranes_of (open_context q);
    makes = made_open;
    next = N;
    later = omega arith;
    odd = λ L. copied_none N N L (context_places t p L (q ∷ [])) (occurrences L (region_process (region_of c (open_context q)))) (omega arith);
  }
  context_listed (closed_context q) N =
      let R = region_of c (closed_context q) in
      record {
        atoms = map (renamed_atom (past t p N)) (c.atoms_of (closed_context q));
        membranes = renamed_regions (past t p N) (c.membranes_of (closed_context q));
        makes = made_closed (record { to = past t p N; one_to_one = λ a b o o' e. past_differs t p N a b e; is = region_renamed (past t p N) R });
        next = N + link_bound (region_process R);
        later = omega arith;
        odd = λ L. subst (Copied N (N + link_bound (region_process R)) L 0) (sym (ap (occurrences L) (region_renamed (past t p N) R))) (copied_closed t p N L (region_process R) (p.closed q));
      }

  pub record ContextsListed (ps : List Context) (from : ℕ) : Type 0 where
    pub atoms : List SolidAtom
    pub membranes : List Level
    pub makes : MadeContexts c ps atoms membranes
    pub count : (x : ℕ) → occurrences (of_rule x) (listed (kept_atoms atoms) membranes []) ≡ 0
    pub next : ℕ
    pub later : from ≤ next
    pub odd : (L : ℕ) → Copied from next L (context_places t p L (open_names ps)) (occurrences (of_solid L) (listed (kept_atoms atoms) membranes []))

  contexts_listed : (ps : List Context) (N : ℕ) → ContextsListed ps N
  contexts_listed [] N = record { atoms = []; membranes = []; makes = no_made_context; count = λ x. refl; next = N; later = omega arith; odd = λ L. copied_none N N L 0 0 refl }
  contexts_listed (q ∷ ps) N =
      let u = context_listed q N in
      let v = contexts_listed ps u.next in
      let R = region_process (region u.atoms u.membranes []) in
      let n : (z : ℕ) → occurrences z (listed (kept_atoms (u.atoms ++ v.atoms)) (kept_membranes u.membranes ++ v.membranes) []) ≡ occurrences z (renamed of_solid R) + occurrences z (listed (kept_atoms v.atoms) v.membranes []) =
      λ z. reordered_count (contexts_both c u.atoms v.atoms u.membranes v.membranes) z in
      record {
        atoms = u.atoms ++ v.atoms;
        membranes = kept_membranes u.membranes ++ v.membranes;
        makes = made_context u.makes v.makes;
        count = λ x. n (of_rule x) ∙ cc (occurrences_none of_solid (of_rule x) R (λ y o e. even_not_odd x y (sym e)), v.count x);
        next = v.next;
        later = omega (arith, u.later, v.later);
        odd = λ L.
            let d = copied_more N u.next v.next L (context_places t p L (open_names (q ∷ []))) (context_places t p L (open_names ps)) (occurrences L R) (occurrences (of_solid L) (listed (kept_atoms v.atoms) v.membranes [])) u.later v.later (u.odd L) (v.odd L) in
            record { copies = d.copies; is = omega (arith, n (of_solid L), occurrences_image of_solid L R (λ z o e. odd_differs z L e), d.is, open_places_append t p L (q ∷ []) ps); whole = d.whole };
      }

  -- what a level makes
  level_count : (z : ℕ) (outs : List Leaf) (ms ks : List Level) (xs : List SolidAtom) (qs : List Name) (rs : List Rule)
      → occurrences z (listed (outs ++ kept_atoms xs) (ms ++ ks) (rs ++ context_rules c qs)) ≡ (occurrences z (together (map leaf_process outs)) + occurrences z (together (map held ms))) + occurrences z (listed (kept_atoms xs) ks [])
  level_count z outs ms ks xs qs rs =
      omega (arith, reordered_count (listed_both outs (kept_atoms xs) ms ks rs (context_rules c qs)) z, no_link_rules z rs, no_link_rules z (context_rules c qs))

  mutual
    pub level_listed_from : (l : Level) → Ready (typed_contexts l) → (N : ℕ) → LevelListed l N
    level_listed_from (level leaves membranes ps qs rules) ready N =
        let u = leaves_listed leaves (λ q a. ready q (among_left (typed_contexts_in membranes) a)) N in
        let v = levels_listed_from membranes (λ q a. ready q (among_right (typed_leaves leaves) a)) u.next in
        let w = contexts_listed ps v.next in
        record {
          outs = u.outs ++ kept_atoms w.atoms;
          membranes = v.membranes ++ w.membranes;
          rule_list = rules_list rules ++ context_rules c qs;
          makes = made_level u.makes v.makes w.makes;
          count = λ x. omega (arith, level_count (of_rule x) u.outs v.membranes w.membranes w.atoms qs (rules_list rules), u.count x, v.count x, w.count x);
          next = w.next;
          later = omega (arith, u.later, v.later, w.later);
          odd = λ L.
              let n = context_places t p L (open_names (contexts_in membranes)) in
              let d = copied_more N u.next v.next L 0 n (occurrences (of_solid L) (together (map leaf_process u.outs))) (occurrences (of_solid L) (together (map held v.membranes))) u.later v.later (u.odd L) (v.odd L) in
              let e = copied_more N v.next w.next L (0 + n) (context_places t p L (open_names ps)) (occurrences (of_solid L) (together (map leaf_process u.outs)) + occurrences (of_solid L) (together (map held v.membranes))) (occurrences (of_solid L) (listed (kept_atoms w.atoms) w.membranes [])) (omega (arith, u.later, v.later)) w.later d (w.odd L) in
              record { copies = e.copies; is = omega (arith, e.is, level_count (of_solid L) u.outs v.membranes w.membranes w.atoms qs (rules_list rules), open_places_append t p L ps (contexts_in membranes)); whole = e.whole };
        }

    pub levels_listed_from : (ls : Levels) → Ready (typed_contexts_in ls) → (N : ℕ) → LevelsListed ls N
    levels_listed_from no_level w N = record { membranes = []; makes = no_made_membrane; count = λ x. refl; next = N; later = omega arith; odd = λ L. copied_none N N L 0 0 refl }
    levels_listed_from (level_and l ls) w N =
        let u = level_listed_from l (λ q a. w q (among_left (typed_contexts_in ls) a)) N in
        let v = levels_listed_from ls (λ q a. w q (among_right (typed_contexts l) a)) u.next in
        let e = level_listed u.outs u.membranes u.rule_list in
        record {
          membranes = level u.outs (levels u.membranes) [] [] (listed_rules u.rule_list) ∷ v.membranes;
          makes = made_membrane u.makes v.makes;
          count = λ x. omega (arith, ap (occurrences (of_rule x)) e, u.count x, v.count x);
          next = v.next;
          later = omega (arith, u.later, v.later);
          odd = λ L.
              let d = copied_more N u.next v.next L (context_places t p L (open_names (all_contexts l))) (context_places t p L (open_names (contexts_in ls))) (occurrences (of_solid L) (listed u.outs u.membranes u.rule_list)) (occurrences (of_solid L) (together (map held v.membranes))) u.later v.later (u.odd L) (v.odd L) in
              record { copies = d.copies; is = omega (arith, ap (occurrences (of_solid L)) e, d.is, open_places_append t p L (all_contexts l) (contexts_in ls)); whole = d.whole };
        }
