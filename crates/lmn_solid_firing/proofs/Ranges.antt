-- What a body makes where each copy has links in a range of its own. With it the raw level of a rule is closed.
use Rattle.std.proofs.Common.{ℕ, List, map, sym, ap, subst, inl, inr, refl, arith, ◌≡◌, ◌≢◌, ◌+◌, ◌≤◌, ◌<◌, ◌⊎◌, [], ◌∷◌, ◌++◌, ◌∙◌}
use Rattle.lmn_congruence.specs.LinkedRules.{leaves_occurrences, level_occurrences, levels_occurrences}
use Rattle.lmn_congruence.specs.Links.{one_if_same, places}
use Rattle.lmn_congruence.specs.Orders.{Among, at_head, further}
use Rattle.lmn_congruence.specs.Plains.{leaf_process, level_process}
use Rattle.lmn_congruence.specs.Process.{Closed, Process, occurrences, pair, renamed, together, Free}
use Rattle.lmn_congruence.specs.Regions.{Region, Regions, SolidAtom, region, region_process}
use Rattle.lmn_congruence.specs.Same.{renamed_atom, renamed_regions}
use Rattle.lmn_congruence.specs.Rules.{Context, Label, Leaf, Level, Levels, Name, Rule, Rules, atom_leaf, body_of, closed_context, connector_leaf, head_of, level, level_and, no_level, no_rule, open_context, rules_list, typed_leaf}
use Rattle.lmn_congruence.specs.Translation.{levels, rules as listed_rules}
use Rattle.lmn_congruence.proofs.Counts.{none_if_apart, one_if_equal}
use Rattle.lmn_congruence.proofs.Renaming.{occurrences_image, occurrences_none}
use Rattle.lmn_congruence.proofs.Reordered.{reordered_count}
use Rattle.lmn_reduction.specs.Assignments.{Assignment}
use Rattle.lmn_reduction.specs.Firing.{typed_contexts, typed_contexts_in, typed_leaves}
use Rattle.lmn_adequacy.specs.Accepted.{Accepted, all_contexts, contexts_in, open_names}
use Rattle.lmn_adequacy.specs.Embedding.{IsPart, Contents, EmbedsAt, assignment_of, region_of}
use Rattle.lmn_adequacy.specs.Loose.{LevelImages, Plain}
use Rattle.lmn_adequacy.specs.Next.{DepthFirst, MadeContexts, MadeLeaves, MadeLevel, MadeMembranes, context_rules, kept_atoms, kept_membranes, links_at, made_context, made_open, made_closed, no_made_context, made_atom, part_leaves, made_connector, made_copy, made_level, made_membrane, no_made_leaf, no_made_membrane, raw_level, wire_leaves}
use Rattle.lmn_adequacy.proofs.Accepting.{accepted_bare}
use Rattle.lmn_adequacy.proofs.Bodies.{Copied, copied_more, copied_none, LevelMade, Whole, context_places, odd_not_even, open_places_append}
use Rattle.lmn_adequacy.proofs.Closing.{body_whole, head_whole}
use Rattle.lmn_solid_firing.proofs.ClosesAbove.{raw_closes_above}
use Rattle.lmn_adequacy.proofs.Commits.{closed_as}
use Rattle.lmn_adequacy.proofs.Copies.{made_places}
use Rattle.lmn_adequacy.proofs.Exposing.{Source, found, missing, source}
use Rattle.lmn_adequacy.proofs.InOrder.{contents_plain, contexts_both, held, level_images_of, level_listed, listed, listed_both, made_process, raw_joined, together_both}
use Rattle.lmn_adequacy.proofs.RawProcesses.{head_wires}
use Rattle.lmn_adequacy.proofs.Skeleton.{level_skeleton, places_even}
use Rattle.lmn_adequacy_turns.proofs.PartLinks.{part_links_twice, part_root_once}
use Rattle.lmn_congruence_splice.specs.Splice.{of_rule, of_solid}
use Rattle.lmn_base.proofs.Numbers.{same_or_not}
use Rattle.lmn_congruence.proofs.TranslatedLinks.{no_link_in_rules as no_link_rules}
use Rattle.lmn_congruence_splice.proofs.Fusions.{apart_rule as even_not_odd, rule_once as even_differs, solid_once as odd_differs}
use Rattle.lmn_congruence.proofs.Common.{among_left, among_right, places_among}
use Rattle.lmn_reduction.specs.Parts.{Rooted}
use Rattle.lmn_congruence.proofs.RenamedRegions.{region_renamed}

-- Copied from next L n m of `Copied`: a link has n places in open contexts, and beside them none or two, in a copy, and then its number is from `from` on and below `next`.
module _ (c : Contents) where
  -- What leaves make, as `MadeLeaves`, where each copy of a part has links of its own: the numbers from which they are before and behind.
  -- The copy of an integer has no link but its own.
  pub data RangedLeaves : ℕ → ℕ → List Leaf → List Leaf → Type 0 where
    ranged_none : {a : ℕ} → RangedLeaves a a [] []
    ranged_atom : {a e : ℕ} {k : Label} {xs : List ℕ} {ls outs : List Leaf} → RangedLeaves a e ls outs → RangedLeaves a e (atom_leaf k xs ∷ ls) (atom_leaf k (map of_rule xs) ∷ outs)
    ranged_connector : {a e x y : ℕ} {ls outs : List Leaf} → RangedLeaves a e ls outs → RangedLeaves a e (connector_leaf x y ∷ ls) (connector_leaf (of_rule x) (of_rule y) ∷ outs)
    ranged_copy : {a b e x : ℕ} {p : Name} {part : List SolidAtom} {ls outs : List Leaf} → IsPart (c.typed_of p) (of_rule x) part → DepthFirst (of_rule x) part → a ≤ b →
        ((z : ℕ) → Among z (links_at part) → (z ≡ of_rule x) ⊎ ((L : ℕ) × (z ≡ of_solid L) × (a ≤ L) × (L < b))) → RangedLeaves b e ls outs → RangedLeaves a e (typed_leaf p x ∷ ls) (part_leaves part ++ outs)

  -- What untyped contexts make, as `MadeContexts`, each copy of a closed one with links of its own.
  pub data RangedContexts : ℕ → ℕ → List Context → List SolidAtom → List Level → Type 0 where
    ranged_no_context : {a : ℕ} → RangedContexts a a [] [] []
    ranged_open : {a e : ℕ} {p : Name} {ps : List Context} {xs : List SolidAtom} {ks : List Level} → RangedContexts a e ps xs ks →
        RangedContexts a e (open_context p ∷ ps) (c.atoms_of (open_context p) ++ xs) (kept_membranes (c.membranes_of (open_context p)) ++ ks)
    ranged_closed : {a b e : ℕ} {p : Name} {ps : List Context} {xs : List SolidAtom} {ks : List Level} (g : ℕ → ℕ) → ((y z : ℕ) → g y ≡ g z → y ≡ z) → a ≤ b →
        ((y : ℕ) → occurrences y (region_process (region_of c (closed_context p))) ≢ 0 → (a ≤ g y) × (g y < b)) → RangedContexts b e ps xs ks →
        RangedContexts a e (closed_context p ∷ ps) (map (renamed_atom g) (c.atoms_of (closed_context p)) ++ xs) (kept_membranes (renamed_regions g (c.membranes_of (closed_context p))) ++ ks)

  mutual
    pub data RangedLevel : ℕ → ℕ → Level → List Leaf → List Level → List Rule → Type 0 where
      ranged_level : {a b d e : ℕ} {leaves outs : List Leaf} {membranes : Levels} {inner ks : List Level} {contexts : List Context} {xs : List SolidAtom} {rule_contexts : List Name} {rules : Rules} →
          RangedLeaves a b leaves outs → RangedContexts b d contexts xs ks → RangedMembranes d e membranes inner →
          RangedLevel a e (level leaves membranes contexts rule_contexts rules) (outs ++ kept_atoms xs) (inner ++ ks) (rules_list rules ++ context_rules c rule_contexts)

    pub data RangedMembranes : ℕ → ℕ → Levels → List Level → Type 0 where
      ranged_no_membrane : {a : ℕ} → RangedMembranes a a no_level []
      ranged_membrane : {a b e : ℕ} {l : Level} {ls : Levels} {outs : List Leaf} {inner others : List Level} {rs : List Rule} →
          RangedLevel a b l outs inner rs → RangedMembranes b e ls others → RangedMembranes a e (level_and l ls) (level outs (levels inner) [] [] (listed_rules rs) ∷ others)

  pub contexts_made : {a e : ℕ} {ps : List Context} {xs : List SolidAtom} {ks : List Level} → RangedContexts a e ps xs ks → MadeContexts c ps xs ks
  contexts_made ranged_no_context = no_made_context
  contexts_made (ranged_open {p = p} w) = made_context {ms = c.membranes_of (open_context p)} made_open (contexts_made w)
  contexts_made (ranged_closed {p = p} g one m b w) =
      made_context {ms = renamed_regions g (c.membranes_of (closed_context p))} (made_closed (record { to = g; one_to_one = λ x y m n e. one x y e; is = region_renamed g (region_of c (closed_context p)) })) (contexts_made w)

  leaves_made : {a e : ℕ} {ls outs : List Leaf} → RangedLeaves a e ls outs → MadeLeaves c ls outs
  leaves_made ranged_none = no_made_leaf
  leaves_made (ranged_atom d) = made_atom (leaves_made d)
  leaves_made (ranged_connector d) = made_connector (leaves_made d)
  leaves_made (ranged_copy i o m w d) = made_copy i o (leaves_made d)

  mutual
    -- it is what a body makes
    pub ranged_made : {a e : ℕ} {l : Level} {outs : List Leaf} {inner : List Level} {rs : List Rule} → RangedLevel a e l outs inner rs → MadeLevel c l outs inner rs
    ranged_made (ranged_level u v w) = made_level (leaves_made u) (membranes_made w) (contexts_made v)

    membranes_made : {a e : ℕ} {ls : Levels} {inner : List Level} → RangedMembranes a e ls inner → MadeMembranes c ls inner
    membranes_made ranged_no_membrane = no_made_membrane
    membranes_made (ranged_membrane d e) = made_membrane (ranged_made d) (membranes_made e)

  -- ---- how often links stand there

  not_among : (z : ℕ) (ys : List ℕ) → (Among z ys → ⊥) → places z ys ≡ 0
  not_among z ys n = elim (same_or_not (places z ys) 0) [
    | inl e ↦ e
    | inr d ↦ absurd (n (places_among z ys d))
  ]

  module _ (g : Rooted) (x a b : ℕ) (part : List SolidAtom) (i : IsPart g (of_rule x) part) (free : Free g.root g.process)
      (own : (z : ℕ) → Among z (links_at part) → (z ≡ of_rule x) ⊎ ((L : ℕ) × (z ≡ of_solid L) × (a ≤ L) × (L < b))) where
    -- of the links of the rule only the root's, once
    even_once : (y : ℕ) → places (of_rule y) (links_at part) ≡ one_if_same y x
    even_once y = elim (same_or_not y x) [
      | inl e ↦ ap (λ z. places (of_rule z) (links_at part)) e ∙ part_root_once i free ∙ sym (one_if_equal y x e)
      | inr d ↦ not_among (of_rule y) (links_at part) (λ k. elim (own (of_rule y) k) [
        | inl e ↦ d (even_differs y x e)
        | inr w ↦ even_not_odd y w.0 w.1
      ]) ∙ sym (none_if_apart y x d)
    ]

    -- others twice, and then they are links of the copy
    odd_twice : Whole g → (L : ℕ) → Copied a b L 0 (places (of_solid L) (links_at part))
    odd_twice whole L = by (part_links_twice i free whole (of_solid L) (λ e. even_not_odd x L (sym e)))
      where
        there : (n : ℕ) → n ≡ 2 → n ≢ 0
        there n e z = omega (arith, e, z)

        by : (places (of_solid L) (links_at part) ≡ 0) ⊎ (places (of_solid L) (links_at part) ≡ 2) → Copied a b L 0 (places (of_solid L) (links_at part))
        by (inl e) = record { copies = places (of_solid L) (links_at part); is = omega arith; whole = inl e }
        by (inr e) = elim (own (of_solid L) (places_among (of_solid L) (links_at part) (there (places (of_solid L) (links_at part)) e))) [
          | inl q ↦ absurd (even_not_odd x L (sym q))
          | inr w ↦ (let same = odd_differs L w.0 w.1 in record { copies = places (of_solid L) (links_at part); is = omega arith; whole = inr (e, omega (arith, same, w.2), omega (arith, same, w.3)) })
        ]

  module _ (p : Plain (assignment_of c)) where
    abbrev t : Assignment
    t = assignment_of c

    leaves_both : (z : ℕ) (xs ys : List Leaf) → occurrences z (together (map leaf_process (xs ++ ys))) ≡ occurrences z (together (map leaf_process xs)) + occurrences z (together (map leaf_process ys))
    leaves_both z xs ys = reordered_count (together_both leaf_process xs ys) z

    part_both : (z : ℕ) (part : List SolidAtom) (outs : List Leaf) → occurrences z (together (map leaf_process (part_leaves part ++ outs))) ≡ places z (links_at part) + occurrences z (together (map leaf_process outs))
    part_both z part outs = omega (arith, leaves_both z (part_leaves part) outs, made_places z part)

    pub record LeavesCount (a e : ℕ) (ls outs : List Leaf) : Type 0 where
      pub later : a ≤ e
      pub count : (x : ℕ) → occurrences (of_rule x) (together (map leaf_process outs)) ≡ leaves_occurrences x ls
      pub odd : (L : ℕ) → Copied a e L 0 (occurrences (of_solid L) (together (map leaf_process outs)))

    pub record LevelCount (a e : ℕ) (l : Level) (outs : List Leaf) (inner : List Level) (rs : List Rule) : Type 0 where
      pub later : a ≤ e
      pub count : (x : ℕ) → occurrences (of_rule x) (listed outs inner rs) ≡ level_occurrences x l
      pub odd : (L : ℕ) → Copied a e L (context_places (assignment_of c) p L (open_names (all_contexts l))) (occurrences (of_solid L) (listed outs inner rs))

    pub record LevelsCount (a e : ℕ) (ls : Levels) (inner : List Level) : Type 0 where
      pub later : a ≤ e
      pub count : (x : ℕ) → occurrences (of_rule x) (together (map held inner)) ≡ levels_occurrences x ls
      pub odd : (L : ℕ) → Copied a e L (context_places (assignment_of c) p L (open_names (contexts_in ls))) (occurrences (of_solid L) (together (map held inner)))

    abbrev Ready : List Name → Type 0
    Ready ps = (q : Name) → Among q ps → Whole (c.typed_of q)

    leaves_count : {a e : ℕ} {ls outs : List Leaf} → RangedLeaves a e ls outs → Ready (typed_leaves ls) → LeavesCount a e ls outs
    leaves_count (ranged_none {a = a}) w = record { later = omega arith; count = λ x. refl; odd = λ L. copied_none a a L 0 0 refl }
    leaves_count (ranged_atom {xs = ys} d) w =
        let u = leaves_count d w in
        record {
          later = u.later;
          count = λ x. omega (arith, places_even t p x ys, u.count x);
          odd = λ L. let b = u.odd L in record { copies = b.copies; is = omega (arith, odd_not_even t p L ys, b.is); whole = b.whole };
        }
    leaves_count (ranged_connector {x = y} {y = z} d) w =
        let u = leaves_count d w in
        record {
          later = u.later;
          count = λ x. omega (arith, places_even t p x (y ∷ z ∷ []), u.count x);
          odd = λ L. let b = u.odd L in record { copies = b.copies; is = omega (arith, odd_not_even t p L (y ∷ z ∷ []), b.is); whole = b.whole };
        }
    leaves_count (ranged_copy {a = a} {b = b} {e = e} {x = y} {p = q} {part = part} {outs = outs} i o m own d) w =
        let u = leaves_count d (λ q' k. w q' (further k)) in
        let even = even_once (c.typed_of q) y a b part i (p.root_is_free q) own in
        let first : (L : ℕ) → Copied a b L 0 (places (of_solid L) (links_at part)) = λ L. odd_twice (c.typed_of q) y a b part i (p.root_is_free q) own (w q at_head) L in
        record {
          later = let l = u.later in omega (arith, m, l);
          count = λ x. omega (arith, part_both (of_rule x) part outs, even x, u.count x);
          odd = λ L.
              let k = copied_more a b e L 0 0 (places (of_solid L) (links_at part)) (occurrences (of_solid L) (together (map leaf_process outs))) m u.later (first L) (u.odd L) in
              record { copies = k.copies; is = omega (arith, part_both (of_solid L) part outs, k.is); whole = k.whole };
        }

    level_count : (z : ℕ) (outs : List Leaf) (ms ks : List Level) (xs : List SolidAtom) (qs : List Name) (rs : List Rule)
        → occurrences z (listed (outs ++ kept_atoms xs) (ms ++ ks) (rs ++ context_rules c qs)) ≡ (occurrences z (together (map leaf_process outs)) + occurrences z (together (map held ms))) + occurrences z (listed (kept_atoms xs) ks [])
    level_count z outs ms ks xs qs rs =
        omega (arith, reordered_count (listed_both outs (kept_atoms xs) ms ks rs (context_rules c qs)) z, no_link_rules z rs, no_link_rules z (context_rules c qs))

    -- what the items of a context, and of those behind it, have of a link
    context_count : (z : ℕ) (xs ys : List SolidAtom) (ms : Regions) (ks : List Level) → occurrences z (listed (kept_atoms (xs ++ ys)) (kept_membranes ms ++ ks) [])
        ≡ occurrences z (renamed of_solid (region_process (region xs ms []))) + occurrences z (listed (kept_atoms ys) ks [])
    context_count z xs ys ms ks = reordered_count (contexts_both c xs ys ms ks) z

    -- a region has no link of the rule, and its own links
    no_even : (x : ℕ) (P : Process) → occurrences (of_rule x) (renamed of_solid P) ≡ 0
    no_even x P = occurrences_none of_solid (of_rule x) P (λ y o e. even_not_odd x y (sym e))

    odd_image : (L : ℕ) (P : Process) → occurrences (of_solid L) (renamed of_solid P) ≡ occurrences L P
    odd_image L P = occurrences_image of_solid L P (λ z o e. odd_differs z L e)

    -- a link of a copy of a closed process stands there twice, and is one of the copy
    copy_range : (a b L : ℕ) (g : ℕ → ℕ) → ((y z : ℕ) → g y ≡ g z → y ≡ z) → (P : Process) → ((y : ℕ) → occurrences y P ≢ 0 → (a ≤ g y) × (g y < b)) → Closed P → Copied a b L 0 (occurrences L (renamed g P))
    copy_range a b L g one P own closed = go (source g P L)
      where
        two : (z : ℕ) → occurrences z P ≢ 0 → (occurrences z P ≡ 0) ⊎ (occurrences z P ≡ 2) → occurrences z P ≡ 2
        two z o (inl e) = absurd (o e)
        two z o (inr e) = e

        go : Source g P L → Copied a b L 0 (occurrences L (renamed g P))
        go (found z o e) =
            let w = own z o in
            record {
              copies = 2;
              is = ap (λ k. occurrences k (renamed g P)) (sym e) ∙ occurrences_image g z P (λ y u q. one y z q) ∙ two z o (closed z);
              whole = inr (refl, omega (arith, e, w.0), omega (arith, e, w.1));
            }
        go (missing m) = copied_none a b L 0 _ (occurrences_none g L P m)

    record ContextsCount (a e : ℕ) (ps : List Context) (xs : List SolidAtom) (ks : List Level) : Type 0 where
      pub later : a ≤ e
      pub none : (x : ℕ) → occurrences (of_rule x) (listed (kept_atoms xs) ks []) ≡ 0
      pub odd : (L : ℕ) → Copied a e L (context_places (assignment_of c) p L (open_names ps)) (occurrences (of_solid L) (listed (kept_atoms xs) ks []))

    contexts_count : {a e : ℕ} {ps : List Context} {xs : List SolidAtom} {ks : List Level} → RangedContexts a e ps xs ks → ContextsCount a e ps xs ks
    contexts_count (ranged_no_context {a = a}) = record { later = omega arith; none = λ x. refl; odd = λ L. copied_none a a L 0 0 refl }
    contexts_count (ranged_open {p = q} {ps = ps} {xs = xs} {ks = ks} w) =
        let u = contexts_count w in
        let as' = c.atoms_of (open_context q) in
        let ms = c.membranes_of (open_context q) in
        let P = region_process (region_of c (open_context q)) in
        record {
          later = u.later;
          none = λ x. omega (arith, context_count (of_rule x) as' xs ms ks, no_even x P, u.none x);
          odd = λ L. let b = u.odd L in record { copies = b.copies; is = omega (arith, context_count (of_solid L) as' xs ms ks, odd_image L P, b.is); whole = b.whole };
        }
    contexts_count (ranged_closed {a = a} {b = b} {e = e} {p = q} {ps = ps} {xs = xs} {ks = ks} g one m own w) =
        let u = contexts_count w in
        let as' = map (renamed_atom g) (c.atoms_of (closed_context q)) in
        let ms = renamed_regions g (c.membranes_of (closed_context q)) in
        let P = region_process (region_of c (closed_context q)) in
        let copy : region_process (region as' ms []) ≡ renamed g P = region_renamed g (region_of c (closed_context q)) in
        record {
          later = let l = u.later in omega (arith, m, l);
          none = λ x. omega (arith, context_count (of_rule x) as' xs ms ks, no_even x (region_process (region as' ms [])), u.none x);
          odd = λ L.
              let k = copied_more a b e L 0 (context_places t p L (open_names ps)) (occurrences L (renamed g P)) (occurrences (of_solid L) (listed (kept_atoms xs) ks [])) m u.later
              (copy_range a b L g one P own (p.closed q)) (u.odd L) in
              record { copies = k.copies; is = omega (arith, context_count (of_solid L) as' xs ms ks, odd_image L (region_process (region as' ms [])), ap (occurrences L) copy, k.is); whole = k.whole };
        }

    mutual
      -- a link of the rule has as many places as in the body, those of the open contexts are kept, and a copy's are its own
      pub level_counted : {a e : ℕ} {l : Level} {outs : List Leaf} {inner : List Level} {rs : List Rule} → RangedLevel a e l outs inner rs → Ready (typed_contexts l) → LevelCount a e l outs inner rs
      level_counted (ranged_level {a = a} {b = b} {d = d} {e = e} {leaves = leaves} {outs = outs} {membranes = membranes} {inner = inner} {ks = ks} {contexts = ps} {xs = xs} {rule_contexts = qs} {rules = rules} dl dc dm) w =
          let u = leaves_count dl (λ q k. w q (among_left (typed_contexts_in membranes) k)) in
          let v = levels_counted dm (λ q k. w q (among_right (typed_leaves leaves) k)) in
          let y = contexts_count dc in
          let m : a ≤ b = u.later in
          let n : b ≤ d = y.later in
          let o : d ≤ e = v.later in
          record {
            later = omega (arith, m, n, o);
            count = λ x. omega (arith, level_count (of_rule x) outs inner ks xs qs (rules_list rules), u.count x, v.count x, y.none x);
            odd = λ L.
                let inside = context_places t p L (open_names (contexts_in membranes)) in
                let own = context_places t p L (open_names ps) in
                let first = occurrences (of_solid L) (together (map leaf_process outs)) in
                let kept = occurrences (of_solid L) (listed (kept_atoms xs) ks []) in
                let k = copied_more a b d L 0 own first kept m n (u.odd L) (y.odd L) in
                let j = copied_more a d e L (0 + own) inside (first + kept) (occurrences (of_solid L) (together (map held inner))) (omega (arith, m, n)) o k (v.odd L) in
                record { copies = j.copies; is = omega (arith, j.is, level_count (of_solid L) outs inner ks xs qs (rules_list rules), open_places_append t p L ps (contexts_in membranes)); whole = j.whole };
          }

      levels_counted : {a e : ℕ} {ls : Levels} {inner : List Level} → RangedMembranes a e ls inner → Ready (typed_contexts_in ls) → LevelsCount a e ls inner
      levels_counted (ranged_no_membrane {a = a}) w = record { later = omega arith; count = λ x. refl; odd = λ L. copied_none a a L 0 0 refl }
      levels_counted (ranged_membrane {a = a} {b = b} {e = e} {l = l} {ls = ls} {outs = outs} {inner = inner} {others = others} {rs = rs} dl dm) w =
          let u = level_counted dl (λ q k. w q (among_left (typed_contexts_in ls) k)) in
          let v = levels_counted dm (λ q k. w q (among_right (typed_contexts l) k)) in
          let m : a ≤ b = u.later in
          let n : b ≤ e = v.later in
          let same = level_listed outs inner rs in
          record {
            later = omega (arith, m, n);
            count = λ x. omega (arith, ap (occurrences (of_rule x)) same, u.count x, v.count x);
            odd = λ L.
                let k = copied_more a b e L (context_places t p L (open_names (all_contexts l))) (context_places t p L (open_names (contexts_in ls))) (occurrences (of_solid L) (listed outs inner rs)) (occurrences (of_solid L) (together (map held others)))
                m n (u.odd L) (v.odd L) in
                record { copies = k.copies; is = omega (arith, ap (occurrences (of_solid L)) same, k.is, open_places_append t p L (all_contexts l) (contexts_in ls)); whole = k.whole };
          }

-- ---- the raw level

-- The raw level of a rule that fires at an embedding, with what its body makes, is closed beside a process, where the copies have links
-- above those of the region and of the process.
pub ranged_closes : (r : Rule) (f : List ℕ) (m : Region) → Accepted r → (e : EmbedsAt r f m) → (O : Process) → Closed (pair (region_process m) O) →
    (N end bound : ℕ) (outs : List Leaf) (membranes : List Level) (rules : List Rule) → RangedLevel e.contents N end (body_of r) outs membranes rules →
    ((L : ℕ) → N ≤ L → occurrences L (pair (region_process m) O) ≡ 0) → ((x : ℕ) → bound ≤ x → level_occurrences x (head_of r) ≡ 0) →
    Closed (pair (level_process (raw_level e.rest (wire_leaves e.contents.link_of (head_of r) bound) outs membranes rules)) (renamed of_solid O))
ranged_closes r f m a e O closed N end bound outs membranes rules own above bounded =
    let c = e.contents in
    let t = assignment_of c in
    let p = contents_plain c e.closed e.root_is_free in
    let b = accepted_bare r a in
    let i : LevelImages t (level b.leaves b.membranes [] [] no_rule) f m e.rest = subst (λ k. LevelImages t k f m e.rest) b.is (level_images_of e.lies) in
    let u = level_skeleton t p i in
    let whole = head_whole r a t p e.guard b.leaves b.membranes b.is m e.rest u O closed in
    let v = level_counted c p own (λ q k. body_whole a t e.guard whole q k) in
    let B = made_process c (ranged_made c own) in
    let made_body : LevelMade t p (body_of r) N = record {
      process = B.process;
      is = B.is;
      count = λ x. sym (reordered_count B.order (of_rule x)) ∙ v.count x;
      next = end;
      later = v.later;
      odd = λ L. subst (Copied N end L (context_places t p L (open_names (all_contexts (body_of r))))) (reordered_count B.order (of_solid L)) (v.odd L);
    } in
    let W = wire_leaves c.link_of (head_of r) bound in
    let closes = raw_closes_above r a t p e.guard b.leaves b.membranes b.is m e.rest u O closed N above made_body bound bounded in
    let o = raw_joined t (head_of r) bound B.process e.rest outs membranes rules B.order in
    closed_as (pair (pair B.process (pair (head_wires t (head_of r) bound) (renamed of_solid (region_process e.rest)))) (renamed of_solid O)) (pair (level_process (raw_level e.rest W outs membranes rules)) (renamed of_solid O)) (λ z. omega (arith, reordered_count o z)) closes
