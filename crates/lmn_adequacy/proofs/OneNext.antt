-- For one rule and one list of positions the next solid is one, up to the numbers of links.
use Rattle.std.proofs.Common.{ℕ, zero, suc, cond, eqb, List, map, refl, sym, ap, subst, subst₂, inl, inr, arith, ◌≡◌, ◌≢◌, ◌+◌, ◌≤◌, ◌⊎◌, [], ◌∷◌, ◌++◌, ◌∙◌}
use Rattle.std.proofs.lemmas.List.{append_assoc}
use Rattle.lmn_congruence.specs.LinkedRules.{leaves_occurrences, level_occurrences, levels_occurrences}
use Rattle.lmn_congruence.specs.Links.{places}
use Rattle.lmn_congruence.specs.Orders.{Among, at_head, further}
use Rattle.lmn_congruence.specs.Plains.{leaf_process, level_process}
use Rattle.lmn_congruence.specs.Process.{Closed, Free, Linked, OneToOneOn, Process, atom, membrane, nothing, occurrences, pair, renamed, rule, together}
use Rattle.lmn_congruence.specs.Regions.{Region, Regions, SolidAtom, atom_process, no_region, region, region_and, region_process, regions_processes}
use Rattle.lmn_congruence.specs.Rules.{Context, Leaf, Level, Levels, Name, Rule, atom_leaf, body_of, closed_context, connector_leaf, head_of, level, level_and, no_level, no_rule, open_context, rules_list, typed_leaf}
use Rattle.lmn_congruence.specs.Same.{IsRenamed, renamed_atom, renamed_region, renamed_regions}
use Rattle.lmn_reduction.specs.Firing.{typed_contexts, typed_contexts_in, typed_leaves}
use Rattle.lmn_reduction.specs.Parts.{EqualParts}
use Rattle.lmn_congruence.proofs.Counts.{Occurs, linked_as, linked_inside, linked_left, linked_right, none_if_apart}
use Rattle.lmn_congruence.proofs.LinkMaps.{closed_linked}
use Rattle.lmn_congruence.proofs.Reordered.{reordered_count}
use Rattle.lmn_congruence.proofs.Shuffles.{shuffle_flip}
use Rattle.lmn_congruence.proofs.RenamedRegions.{region_of_copy}
use Rattle.lmn_adequacy.specs.Accepted.{Accepted, EachLevel, EachOf, NoConnectorLeaf, all_contexts, all_rule_contexts, contexts_in, own_leaves, own_membranes, own_contexts, own_rule_contexts, port_links, port_links_in, port_links_of, rule_contexts_in, typed_links, typed_links_in, typed_links_of, closed_names, open_names}
use Rattle.lmn_adequacy.specs.Embedding.{AllRules, TakenRegion, region_first, region_later, Contents, assignment_of, region_of}
use Rattle.lmn_adequacy.specs.Loose.{LevelImages}
use Rattle.lmn_adequacy.specs.Next.{FiresInOrder, MadeLeaves, MadeLevel, MadeMembranes, NextAt, RawAt, context_rules, fires_below, fires_here, kept_atoms, kept_membranes, made_atom, part_leaves, made_connector, made_copy, made_level, made_membrane, no_made_leaf, no_made_membrane, raw_level, replaced, wire_leaves, MadeContext, MadeContexts, kept_level, made_closed, made_context, made_open, no_made_context}
use Rattle.lmn_adequacy.proofs.Accepting.{accepted_bare}
use Rattle.lmn_adequacy.proofs.Bodies.{Whole}
use Rattle.lmn_adequacy.proofs.Closing.{body_whole, head_whole}
use Rattle.lmn_adequacy.proofs.Commits.{beside_nothing, closed_as, region_out}
use Rattle.lmn_adequacy.proofs.Copies.{copies_moved, made_places}
use Rattle.lmn_adequacy.proofs.Heads.{region_there, rule_there}
use Rattle.lmn_adequacy.proofs.InOrder.{contents_plain, each_left_of, held, level_images_of, level_listed, listed, listed_both, together_both, kept_level_process, kept_listed}
use Rattle.lmn_adequacy.proofs.Moved.{Moved, MovedList, moved_append, moved_cons, moved_inside, moved_list_same, moved_pair, moved_same, moved_solid, moved_together, MovedLists, moved_behind, moved_beside, moved_lists_same, renamed_list}
use Rattle.lmn_adequacy.proofs.OneEmbedding.{AgreeOn, SameContexts, SameRuleContexts, parts_same, ports_agree, region_one, taken_one}
use Rattle.lmn_adequacy.proofs.OneGuard.{guard_one}
use Rattle.lmn_adequacy.proofs.Orders.{either, taken_put}
use Rattle.lmn_adequacy.proofs.SameParts.{shuffle_among}
use Rattle.lmn_adequacy.proofs.Exposing.{Source, found, missing, source}
use Rattle.lmn_adequacy.proofs.Images.{renamed_renamed}
use Rattle.lmn_adequacy.proofs.LiteralHeads.{closed_image}
use Rattle.lmn_adequacy.proofs.OneEmbedding.{atoms_in, membranes_in}
use Rattle.lmn_adequacy.proofs.Skeleton.{at_odd, by_parity, level_skeleton}
use Rattle.lmn_congruence.proofs.Renaming.{renamed_agree}
use Rattle.lmn_congruence.proofs.TranslatedLinks.{no_link_in_rules}
use Rattle.lmn_congruence.proofs.RenamedRegions.{region_renamed}
use Rattle.lmn_congruence_splice.proofs.Fusions.{solid_once as odd_differs}
use Rattle.lmn_congruence_splice.specs.Splice.{of_rule, of_solid}
use Rattle.lmn_base.proofs.Lists.{map_append as maps_append}
use Rattle.lmn_base.proofs.Numbers.{left_not_zero, not_one_if_even, one_not_zero as split_sum, right_not_zero, same_or_not, not_zero_if_one}
use Rattle.lmn_congruence.proofs.Common.{among_left, among_right, places_among}

-- ---- what the body makes

linked_parts : {A : Type 0} (g : A → Process) (xs ys : List A) → Linked (together (map g (xs ++ ys))) → Linked (together (map g xs)) × Linked (together (map g ys))
linked_parts g xs ys l =
    let k : Linked (pair (together (map g xs)) (together (map g ys))) = linked_as (λ z. reordered_count (together_both g xs ys) z) l in
    (linked_left k, linked_right k)

-- what stands behind lists that are linked with others is linked
behind_linked : {A B : Type 0} (g : A → Process) (h : B → Process) (xs ys : List A) (us vs : List B) → Linked (pair (together (map g (xs ++ ys))) (together (map h (us ++ vs)))) → Linked (pair (together (map g ys)) (together (map h vs)))
behind_linked g h xs ys us vs l = record { at_most_twice = λ z. omega (arith, reordered_count (together_both g xs ys) z, reordered_count (together_both h us vs) z, l.at_most_twice z) }

before_linked : {A B : Type 0} (g : A → Process) (h : B → Process) (xs ys : List A) (us vs : List B) → Linked (pair (together (map g (xs ++ ys))) (together (map h (us ++ vs)))) → Linked (pair (together (map g xs)) (together (map h us)))
before_linked g h xs ys us vs l = record { at_most_twice = λ z. omega (arith, reordered_count (together_both g xs ys) z, reordered_count (together_both h us vs) z, l.at_most_twice z) }

-- two lists of things, moved one behind the other
pub moved_both : {A : Type 0} (g : A → Process) (xs xs' ys ys' : List A) → MovedList (map g xs) (map g xs') → MovedList (map g ys) (map g ys') → Linked (together (map g (xs ++ ys))) → MovedList (map g (xs ++ ys)) (map g (xs' ++ ys'))
moved_both g xs xs' ys ys' u v l =
    let e = maps_append g xs ys in
    let w = moved_append u v (subst (λ k. Linked (together k)) e l) in
    subst₂ MovedList (sym e) (sym (maps_append g xs' ys')) w

-- what two firings make is the same but for bound links
pub record LevelMoved (outs outs' : List Leaf) (ms ms' : List Level) (rs rs' : List Rule) : Type 0 where
  pub items : MovedLists (map leaf_process outs) (map leaf_process outs') (map held ms) (map held ms')
  pub rules : rs ≡ rs'

-- so are the processes that they leave
pub listed_moved : {outs outs' : List Leaf} {ms ms' : List Level} {rs rs' : List Rule} → LevelMoved outs outs' ms ms' rs rs' → Linked (listed outs ms rs) → Moved (listed outs ms rs) (listed outs' ms' rs')
listed_moved {outs} {outs'} {ms} {ms'} {rs} {rs'} u l =
    let i = u.items in
    let a : together (map leaf_process outs') ≡ renamed i.to (together (map leaf_process outs)) = ap together i.first ∙ renamed_list i.to (map leaf_process outs) in
    let b : together (map held ms') ≡ renamed i.to (together (map held ms)) = ap together i.second ∙ renamed_list i.to (map held ms) in
    let c : together (map rule rs') ≡ renamed i.to (together (map rule rs)) = ap (λ k. together (map rule k)) (sym u.rules) ∙ renamed_rules i.to rs in
    record { to = i.to; is = cc (a, b, c); stays = λ z e. i.stays z (omega (arith, no_link_in_rules z rs, e)) }
  where
    renamed_rules : (f : ℕ → ℕ) (rs : List Rule) → together (map rule rs) ≡ renamed f (together (map rule rs))
    renamed_rules f [] = refl
    renamed_rules f (r ∷ rs) = ap (pair (rule r)) (renamed_rules f rs)

-- lists of things behind others, moved by one map
moved_two : {A B : Type 0} (g : A → Process) (h : B → Process) (xs xs' ys ys' : List A) (us us' vs vs' : List B) → MovedLists (map g xs) (map g xs') (map h us) (map h us') → MovedLists (map g ys) (map g ys') (map h vs) (map h vs')
    → Linked (pair (together (map g (xs ++ ys))) (together (map h (us ++ vs)))) → MovedLists (map g (xs ++ ys)) (map g (xs' ++ ys')) (map h (us ++ vs)) (map h (us' ++ vs'))
moved_two g h xs xs' ys ys' us us' vs vs' u v l =
    let a = maps_append g xs ys in
    let a' = maps_append g xs' ys' in
    let b = maps_append h us vs in
    let b' = maps_append h us' vs' in
    let k : Linked (pair (together (map g xs ++ map g ys)) (together (map h us ++ map h vs))) = subst₂ (λ k n. Linked (pair (together k) (together n))) a b l in
    let w = moved_behind u v k in
    subst₂ (λ k n. MovedLists k n (map h (us ++ vs)) (map h (us' ++ vs'))) (sym a) (sym a') (subst₂ (λ k n. MovedLists (map g xs ++ map g ys) (map g xs' ++ map g ys') k n) (sym b) (sym b') w)

-- ---- copies of a closed region

-- the map from the links of one copy to those of another
module _ (f g : ℕ → ℕ) (P : Process) where
  abbrev carried : (y : ℕ) → Source f P y → ℕ
  carried y (found x o e) = g x
  carried y (missing h) = y

  abbrev across : ℕ → ℕ
  across = by_parity of_rule (λ y. of_solid (carried y (source f P y)))

  across_is : OneToOneOn f P → (x : ℕ) → Occurs x P → across (of_solid (f x)) ≡ of_solid (g x)
  across_is one x o = at_odd of_rule (λ y. of_solid (carried y (source f P y))) (f x) ∙ ap of_solid (go (source f P (f x)))
    where
      go : (s : Source f P (f x)) → carried (f x) s ≡ g x
      go (found y o' e) = ap g (one y x o' o e)
      go (missing h) = absurd (h x o refl)

  -- the one copy goes to the other, list by list
  module _ (one : OneToOneOn f P) where
    moved_copy : (Q : Process) → ((x : ℕ) → Occurs x Q → Occurs x P) → renamed of_solid (renamed g Q) ≡ renamed across (renamed of_solid (renamed f Q))
    moved_copy Q h =
        renamed_renamed of_solid g Q ∙ renamed_agree (λ x. of_solid (g x)) (λ x. across (of_solid (f x))) Q (λ x o. sym (across_is one x (h x o)))
        ∙ sym (ap (renamed across) (renamed_renamed of_solid f Q) ∙ renamed_renamed across (λ x. of_solid (f x)) Q)

    copied_atoms : (xs : List SolidAtom) → ((x : ℕ) → Occurs x (together (map atom_process xs)) → Occurs x P) → map leaf_process (kept_atoms (map (renamed_atom g) xs)) ≡ map (renamed across) (map leaf_process (kept_atoms (map (renamed_atom f) xs)))
    copied_atoms [] h = refl
    copied_atoms (a ∷ xs) h =
        let e : renamed of_solid (renamed g (atom a.label a.links)) ≡ renamed across (renamed of_solid (renamed f (atom a.label a.links))) = moved_copy (atom a.label a.links) (λ x o. h x (left_not_zero (occurrences x (atom a.label a.links)) (occurrences x (together (map atom_process xs))) o)) in
        cc (e, copied_atoms xs (λ x o. h x (right_not_zero (occurrences x (atom a.label a.links)) (occurrences x (together (map atom_process xs))) o)))

    copied_membranes : (ms : Regions) → ((x : ℕ) → Occurs x (together (regions_processes ms)) → Occurs x P) → map held (kept_membranes (renamed_regions g ms)) ≡ map (renamed across) (map held (kept_membranes (renamed_regions f ms)))
    copied_membranes no_region h = refl
    copied_membranes (region_and m ms) h =
        let Q = region_process m in
        let a : level_process (kept_level (renamed_region g m)) ≡ renamed of_solid (renamed g Q) = kept_level_process (renamed_region g m) ∙ ap (renamed of_solid) (region_renamed g m) in
        let b : level_process (kept_level (renamed_region f m)) ≡ renamed of_solid (renamed f Q) = kept_level_process (renamed_region f m) ∙ ap (renamed of_solid) (region_renamed f m) in
        let e : held (kept_level (renamed_region g m)) ≡ renamed across (held (kept_level (renamed_region f m))) = ap membrane (a ∙ moved_copy Q (λ x o. h x (left_not_zero (occurrences x Q) (occurrences x (together (regions_processes ms))) o)) ∙ ap (renamed across) (sym b)) in
        cc (e, copied_membranes ms (λ x o. h x (right_not_zero (occurrences x Q) (occurrences x (together (regions_processes ms))) o)))

-- two copies of one closed region are moved to each other
copies_of_one : (xs : List SolidAtom) (ms : Regions) (f g : ℕ → ℕ) → Closed (region_process (region xs ms [])) → OneToOneOn f (region_process (region xs ms []))
    → MovedLists (map leaf_process (kept_atoms (map (renamed_atom f) xs))) (map leaf_process (kept_atoms (map (renamed_atom g) xs))) (map held (kept_membranes (renamed_regions f ms))) (map held (kept_membranes (renamed_regions g ms)))
copies_of_one xs ms f g closed one =
    let P = region_process (region xs ms []) in
    record {
      to = across f g P;
      first = copied_atoms f g P one xs (λ x o. in_first (occurrences x (together (map atom_process xs))) (occurrences x (together (regions_processes ms))) o);
      second = copied_membranes f g P one ms (λ x o. in_second (occurrences x (together (map atom_process xs))) (occurrences x (together (regions_processes ms))) o);
      stays = λ z e. absurd (never z e);
    }
  where
    in_first : (m n : ℕ) → m ≢ 0 → m + (n + 0) ≢ 0
    in_first m n d = grind arith

    in_second : (m n : ℕ) → n ≢ 0 → m + (n + 0) ≢ 0
    in_second m n d = grind arith

    kept_closed : Closed (listed (kept_atoms (map (renamed_atom f) xs)) (kept_membranes (renamed_regions f ms)) [])
    kept_closed = subst Closed (sym (kept_listed (map (renamed_atom f) xs) (renamed_regions f ms) [] ∙ ap (renamed of_solid) (region_renamed f (region xs ms []))))
        (closed_image of_solid (renamed f (region_process (region xs ms []))) (λ x y o o' e. odd_differs x y e) (closed_image f (region_process (region xs ms [])) one closed))

    never : (z : ℕ) → ¬ (Free z (pair (together (map leaf_process (kept_atoms (map (renamed_atom f) xs)))) (together (map held (kept_membranes (renamed_regions f ms))))))
    never z e = not_one_if_even (occurrences z (listed (kept_atoms (map (renamed_atom f) xs)) (kept_membranes (renamed_regions f ms)) [])) (kept_closed z) (omega (arith, e))

module _ (c d : Contents) (closed : (p : Name) → Closed (region_process (region_of c (closed_context p)))) (free : (p : Name) → Free (c.typed_of p).root (c.typed_of p).process) (free' : (p : Name) → Free (d.typed_of p).root (d.typed_of p).process) where
  abbrev Known : List Name → Type 0
  Known ps = (p : Name) → Among p ps → (Whole (c.typed_of p)) × EqualParts (c.typed_of p) (d.typed_of p)

  leaves_moved : {ls outs outs' : List Leaf} → MadeLeaves c ls outs → MadeLeaves d ls outs' → Known (typed_leaves ls) → Linked (together (map leaf_process outs)) → Linked (together (map leaf_process outs')) → MovedList (map leaf_process outs) (map leaf_process outs')
  leaves_moved no_made_leaf no_made_leaf k l l' = moved_list_same refl
  leaves_moved (made_atom u) (made_atom v) k l l' = moved_cons (moved_same refl) (leaves_moved u v k (linked_right l) (linked_right l')) l
  leaves_moved (made_connector u) (made_connector v) k l l' = moved_cons (moved_same refl) (leaves_moved u v k (linked_right l) (linked_right l')) l
  leaves_moved (made_copy {p = p} {part = part} {outs = outs} i o u) (made_copy {part = part'} {outs = outs'} i' o' v) k l l' =
      let a = linked_parts leaf_process (part_leaves part) outs l in
      let b = linked_parts leaf_process (part_leaves part') outs' l' in
      let e = k p at_head in
      let m = copies_moved e.0 (free p) (free' p) i i' e.1 o o' (λ z. omega (arith, made_places z part', b.0.at_most_twice z)) in
      moved_both leaf_process (part_leaves part) (part_leaves part') outs outs' m (leaves_moved u v (λ q x. k q (further x)) a.1 b.1) l

  -- what two bodies make of one context
  context_moved : {p : Context} {xs xs' : List SolidAtom} {ms ms' : Regions} → MadeContext c p (region xs ms []) → MadeContext d p (region xs' ms' []) → (c.atoms_of p ≡ d.atoms_of p) × (c.membranes_of p ≡ d.membranes_of p)
      → MovedLists (map leaf_process (kept_atoms xs)) (map leaf_process (kept_atoms xs')) (map held (kept_membranes ms)) (map held (kept_membranes ms'))
  context_moved made_open made_open e = moved_lists_same (ap (λ k. map leaf_process (kept_atoms k)) e.0) (ap (λ k. map held (kept_membranes k)) e.1)
  context_moved {xs = xs} {xs' = xs'} {ms = ms} {ms' = ms'} (made_closed {p = p} v) (made_closed w) e =
      let i = region_of_copy (region_of c (closed_context p)) (region xs ms []) v in
      let j = region_of_copy (region_of d (closed_context p)) (region xs' ms' []) w in
      let X = c.atoms_of (closed_context p) in
      let M = c.membranes_of (closed_context p) in
      let u = copies_of_one X M i.to j.to (closed p) i.one_to_one in
      let a : map (renamed_atom i.to) X ≡ xs = sym (ap atoms_in i.is) in
      let b : renamed_regions i.to M ≡ ms = sym (ap membranes_in i.is) in
      let a' : map (renamed_atom j.to) X ≡ xs' = ap (map (renamed_atom j.to)) e.0 ∙ sym (ap atoms_in j.is) in
      let b' : renamed_regions j.to M ≡ ms' = ap (renamed_regions j.to) e.1 ∙ sym (ap membranes_in j.is) in
      subst₂ (λ k n. MovedLists (map leaf_process (kept_atoms xs)) (map leaf_process (kept_atoms xs')) (map held (kept_membranes k)) (map held (kept_membranes n))) b b'
      (subst₂ (λ k n. MovedLists (map leaf_process (kept_atoms k)) (map leaf_process (kept_atoms n)) (map held (kept_membranes (renamed_regions i.to M))) (map held (kept_membranes (renamed_regions j.to M)))) a a' u)

  kept_append : (xs ys : List SolidAtom) → kept_atoms (xs ++ ys) ≡ kept_atoms xs ++ kept_atoms ys
  kept_append [] ys = refl
  kept_append (x ∷ xs) ys = ap (λ k. atom_leaf x.label (map of_solid x.links) ∷ k) (kept_append xs ys)

  contexts_moved : {ps : List Context} {xs xs' : List SolidAtom} {ks ks' : List Level} → MadeContexts c ps xs ks → MadeContexts d ps xs' ks' → SameContexts c d ps → Linked (pair (together (map leaf_process (kept_atoms xs))) (together (map held ks)))
      → MovedLists (map leaf_process (kept_atoms xs)) (map leaf_process (kept_atoms xs')) (map held ks) (map held ks')
  contexts_moved no_made_context no_made_context h l = moved_lists_same refl refl
  contexts_moved (made_context {p = p} {xs = xs} {ys = ys} {ms = ms} {ks = ks} i u) (made_context {xs = xs'} {ys = ys'} {ms = ms'} {ks = ks'} j v) h l =
      let e = kept_append xs ys in
      let l' : Linked (pair (together (map leaf_process (kept_atoms xs ++ kept_atoms ys))) (together (map held (kept_membranes ms ++ ks)))) = subst (λ k. Linked (pair (together (map leaf_process k)) (together (map held (kept_membranes ms ++ ks))))) e l in
      let a = linked_parts leaf_process (kept_atoms xs) (kept_atoms ys) (linked_left l') in
      let r : Linked (pair (together (map leaf_process (kept_atoms ys))) (together (map held ks))) = behind_linked leaf_process held (kept_atoms xs) (kept_atoms ys) (kept_membranes ms) ks l' in
      let w = moved_two leaf_process held (kept_atoms xs) (kept_atoms xs') (kept_atoms ys) (kept_atoms ys') (kept_membranes ms) (kept_membranes ms') ks ks' (context_moved i j (h p at_head)) (contexts_moved u v (λ q k. h q (further k)) r) l' in
      subst₂ (λ k n. MovedLists (map leaf_process k) (map leaf_process n) (map held (kept_membranes ms ++ ks)) (map held (kept_membranes ms' ++ ks'))) (sym e) (sym (kept_append xs' ys')) w

  rules_same : (ps : List Name) → SameRuleContexts c d ps → context_rules c ps ≡ context_rules d ps
  rules_same [] h = refl
  rules_same (p ∷ ps) h = cc (h p at_head, rules_same ps (λ q k. h q (further k)))

  mutual
    pub level_moved : {l : Level} {outs outs' : List Leaf} {ms ms' : List Level} {rs rs' : List Rule} → MadeLevel c l outs ms rs → MadeLevel d l outs' ms' rs' → Known (typed_contexts l) → SameContexts c d (all_contexts l) → SameRuleContexts c d (all_rule_contexts l)
        → Linked (listed outs ms rs) → Linked (listed outs' ms' rs') → LevelMoved outs outs' ms ms' rs rs'
    level_moved (made_level {leaves = leaves} {outs = outs} {membranes = membranes} {made = ms} {ks = ks} {contexts = ps} {rule_contexts = qs} {rules = rules} {xs = xs} u v w) (made_level {outs = outs'} {made = ms'} {ks = ks'} {xs = xs'} u' v' w') k h h' l l' =
        let a = linked_parts leaf_process outs (kept_atoms xs) (linked_left l) in
        let b = linked_parts leaf_process outs' (kept_atoms xs') (linked_left l') in
        let e = linked_parts held ms ks (linked_left (linked_right l)) in
        let f = linked_parts held ms' ks' (linked_left (linked_right l')) in
        let o : Linked (pair (together (map leaf_process (outs ++ kept_atoms xs))) (together (map held (ms ++ ks)))) = record { at_most_twice = λ z. omega (arith, l.at_most_twice z) } in
        let m = moved_beside (leaves_moved u u' (λ q x. k q (among_left (typed_contexts_in membranes) x)) a.0 b.0)
        (membranes_moved v v' (λ q x. k q (among_right (typed_leaves leaves) x)) (λ q x. h q (among_right ps x)) (λ q x. h' q (among_right qs x)) e.0 f.0) (before_linked leaf_process held outs (kept_atoms xs) ms ks o) in
        let n = contexts_moved w w' (λ q x. h q (among_left (contexts_in membranes) x)) (behind_linked leaf_process held outs (kept_atoms xs) ms ks o) in
        record {
          items = moved_two leaf_process held outs outs' (kept_atoms xs) (kept_atoms xs') ms ms' ks ks' m n o;
          rules = ap (λ x. rules_list rules ++ x) (rules_same qs (λ q x. h' q (among_left (rule_contexts_in membranes) x)));
        }

    pub membranes_moved : {ls : Levels} {ms ms' : List Level} → MadeMembranes c ls ms → MadeMembranes d ls ms' → Known (typed_contexts_in ls) → SameContexts c d (contexts_in ls) → SameRuleContexts c d (rule_contexts_in ls)
        → Linked (together (map held ms)) → Linked (together (map held ms')) → MovedList (map held ms) (map held ms')
    membranes_moved no_made_membrane no_made_membrane k h h' l l' = moved_list_same refl
    membranes_moved (made_membrane {l = x} {ls = xs} {outs = outs} {inner = inner} {rs = rs} u v) (made_membrane {outs = outs'} {inner = inner'} {rs = rs'} u' v') k h h' l l' =
        let e = level_listed outs inner rs in
        let e' = level_listed outs' inner' rs' in
        let a : Linked (listed outs inner rs) = subst Linked e (linked_inside (linked_left l)) in
        let a' : Linked (listed outs' inner' rs') = subst Linked e' (linked_inside (linked_left l')) in
        let m = level_moved u u' (λ q y. k q (among_left (typed_contexts_in xs) y)) (λ q y. h q (among_left (contexts_in xs) y)) (λ q y. h' q (among_left (rule_contexts_in xs) y)) a a' in
        let m' = subst₂ Moved (sym e) (sym e') (listed_moved m a) in
        moved_cons (moved_inside m') (membranes_moved v v' (λ q y. k q (among_right (typed_contexts x) y)) (λ q y. h q (among_right (all_contexts x) y)) (λ q y. h' q (among_right (all_rule_contexts x) y)) (linked_right l) (linked_right l')) l

-- ---- the connectors of the head's links

-- a link of a head stands at a port, or a typed context is written with it
leaves_links : (x : ℕ) (ls : List Leaf) → NoConnectorLeaf ls → leaves_occurrences x ls ≢ 0 → Among x (port_links_of ls) ⊎ Among x (typed_links_of ls)
leaves_links x [] n o = absurd (o refl)
leaves_links x (atom_leaf a ys ∷ ls) n o = go (same_or_not (places x ys) 0) (leaves_links x ls n)
  where
    in_other : (m k : ℕ) → m ≡ 0 → m + k ≢ 0 → k ≢ 0
    in_other m k e d = grind arith

    go : (places x ys ≡ 0) ⊎ (places x ys ≢ 0) → (leaves_occurrences x ls ≢ 0 → Among x (port_links_of ls) ⊎ Among x (typed_links_of ls)) → Among x (ys ++ port_links_of ls) ⊎ Among x (typed_links_of ls)
    go (inl e) i = either (i (in_other (places x ys) (leaves_occurrences x ls) e o)) (λ k. inl (among_right ys k)) (λ k. inr k)
    go (inr d) i = inl (among_left (port_links_of ls) (places_among x ys d))
leaves_links x (connector_leaf y z ∷ ls) n o = absurd n
leaves_links x (typed_leaf p y ∷ ls) n o = go (same_or_not x y) (leaves_links x ls n)
  where
    not_here : x ≢ y → leaves_occurrences x ls ≢ 0
    not_here d e = o (omega (arith, none_if_apart x y d, e))

    go : (x ≡ y) ⊎ (x ≢ y) → (leaves_occurrences x ls ≢ 0 → Among x (port_links_of ls) ⊎ Among x (typed_links_of ls)) → Among x (port_links_of ls) ⊎ Among x (y ∷ typed_links_of ls)
    go (inl e) i = inr (subst (λ k. Among x (k ∷ typed_links_of ls)) e at_head)
    go (inr d) i = either (i (not_here d)) (λ k. inl k) (λ k. inr (further k))

mutual
  level_links : (x : ℕ) (l : Level) → EachLevel (λ l. NoConnectorLeaf (own_leaves l)) l → level_occurrences x l ≢ 0 → Among x (port_links l) ⊎ Among x (typed_links l)
  level_links x (level leaves membranes contexts rule_contexts rules) n o =
      either (split_sum (leaves_occurrences x leaves) (levels_occurrences x membranes) o)
      (λ k. either (leaves_links x leaves n.0 k) (λ w. inl (among_left (port_links_in membranes) w)) (λ w. inr (among_left (typed_links_in membranes) w)))
      (λ k. either (levels_links x membranes n.1 k) (λ w. inl (among_right (port_links_of leaves) w)) (λ w. inr (among_right (typed_links_of leaves) w)))

  levels_links : (x : ℕ) (ls : Levels) → EachOf (λ l. NoConnectorLeaf (own_leaves l)) ls → levels_occurrences x ls ≢ 0 → Among x (port_links_in ls) ⊎ Among x (typed_links_in ls)
  levels_links x no_level n o = absurd (o refl)
  levels_links x (level_and l ls) n o =
      either (split_sum (level_occurrences x l) (levels_occurrences x ls) o)
      (λ k. either (level_links x l n.0 k) (λ w. inl (among_left (port_links_in ls) w)) (λ w. inr (among_left (typed_links_in ls) w)))
      (λ k. either (levels_links x ls n.1 k) (λ w. inl (among_right (port_links l) w)) (λ w. inr (among_right (typed_links l) w)))

wires_agree : (f g : ℕ → ℕ) (l : Level) (n : ℕ) → ((x : ℕ) → level_occurrences x l ≡ 1 → f x ≡ g x) → wire_leaves f l n ≡ wire_leaves g l n
wires_agree f g l zero h = refl
wires_agree f g l (suc n) h = with_it (level_occurrences n l) (h n) (wires_agree f g l n h)
  where
    with_it : (m : ℕ) → (m ≡ 1 → f n ≡ g n) → wire_leaves f l n ≡ wire_leaves g l n
        → cond (eqb m 1) (connector_leaf (of_rule n) (of_solid (f n)) ∷ wire_leaves f l n) (wire_leaves f l n) ≡ cond (eqb m 1) (connector_leaf (of_rule n) (of_solid (g n)) ∷ wire_leaves g l n) (wire_leaves g l n)
    with_it m k e = by_case (same_or_not m 1)
      where
        no : (m : ℕ) (A B : List Leaf) → m ≢ 1 → cond (eqb m 1) A B ≡ B
        no m A B d = grind arith

        one : (m : ℕ) (A B : List Leaf) → m ≡ 1 → cond (eqb m 1) A B ≡ A
        one m A B d = grind arith

        by_case : (m ≡ 1) ⊎ (m ≢ 1) → cond (eqb m 1) (connector_leaf (of_rule n) (of_solid (f n)) ∷ wire_leaves f l n) (wire_leaves f l n) ≡ cond (eqb m 1) (connector_leaf (of_rule n) (of_solid (g n)) ∷ wire_leaves g l n) (wire_leaves g l n)
        by_case (inl q) = one m (connector_leaf (of_rule n) (of_solid (f n)) ∷ wire_leaves f l n) (wire_leaves f l n) q ∙ cc (k q, e) ∙ sym (one m (connector_leaf (of_rule n) (of_solid (g n)) ∷ wire_leaves g l n) (wire_leaves g l n) q)
        by_case (inr d) = no m (connector_leaf (of_rule n) (of_solid (f n)) ∷ wire_leaves f l n) (wire_leaves f l n) d ∙ e ∙ sym (no m (connector_leaf (of_rule n) (of_solid (g n)) ∷ wire_leaves g l n) (wire_leaves g l n) d)

wires_past : (f : ℕ → ℕ) (l : Level) (n m : ℕ) → n ≤ m → ((x : ℕ) → n ≤ x → level_occurrences x l ≡ 0) → wire_leaves f l m ≡ wire_leaves f l n
wires_past f l n zero b h = let e : n ≡ 0 = omega arith in rw e refl
wires_past f l n (suc m) b h = go (same_or_not n (suc m)) (λ c. wires_past f l n m c h)
  where
    no : (k : ℕ) (A B : List Leaf) → k ≡ 0 → cond (eqb k 1) A B ≡ B
    no k A B d = grind arith

    go : (n ≡ suc m) ⊎ (n ≢ suc m) → (n ≤ m → wire_leaves f l m ≡ wire_leaves f l n) → wire_leaves f l (suc m) ≡ wire_leaves f l n
    go (inl e) i = rw e refl
    go (inr d) i = let c : n ≤ m = omega arith in no (level_occurrences m l) (connector_leaf (of_rule m) (of_solid (f m)) ∷ wire_leaves f l m) (wire_leaves f l m) (h m c) ∙ i c

wires_one : (f g : ℕ → ℕ) (l : Level) (n m : ℕ) → ((x : ℕ) → n ≤ x → level_occurrences x l ≡ 0) → ((x : ℕ) → m ≤ x → level_occurrences x l ≡ 0) → ((x : ℕ) → level_occurrences x l ≡ 1 → f x ≡ g x) → wire_leaves f l n ≡ wire_leaves g l m
wires_one f g l n m h k e = sym (wires_past f l n (n + m) (omega arith) h) ∙ wires_agree f g l (n + m) e ∙ wires_past g l m (n + m) (omega arith) k

-- ---- raw levels

raw_moved : (rest : Region) (W outs outs' : List Leaf) (ms ms' : List Level) (rs rs' : List Rule) → Linked (level_process (raw_level rest W outs ms rs)) → (Linked (listed outs ms rs) → LevelMoved outs outs' ms ms' rs rs') → Moved (level_process (raw_level rest W outs ms rs)) (level_process (raw_level rest W outs' ms' rs'))
raw_moved (region xs us ts) W outs outs' ms ms' rs rs' l h =
    let e = level_listed (kept_atoms xs ++ (W ++ outs)) (kept_membranes us ++ ms) (ts ++ rs) in
    let e' = level_listed (kept_atoms xs ++ (W ++ outs')) (kept_membranes us ++ ms') (ts ++ rs') in
    let k : Linked (listed (kept_atoms xs ++ (W ++ outs)) (kept_membranes us ++ ms) (ts ++ rs)) = subst Linked e l in
    let i : Linked (pair (listed (kept_atoms xs ++ W) (kept_membranes us) ts) (listed outs ms rs)) = linked_as (λ z. reordered_count (listed_both (kept_atoms xs ++ W) outs (kept_membranes us) ms ts rs) z) (subst (λ v. Linked (listed v (kept_membranes us ++ ms) (ts ++ rs))) (sym (append_assoc (kept_atoms xs) W outs)) k) in
    let m = h (linked_right i) in
    let o : Linked (pair (together (map leaf_process ((kept_atoms xs ++ W) ++ outs))) (together (map held (kept_membranes us ++ ms)))) =
    record { at_most_twice = λ z. omega (arith, ap (λ q. occurrences z (together (map leaf_process q))) (append_assoc (kept_atoms xs) W outs), k.at_most_twice z) } in
    let w = moved_two leaf_process held (kept_atoms xs ++ W) (kept_atoms xs ++ W) outs outs' (kept_membranes us) (kept_membranes us) ms ms' (moved_lists_same refl refl) m.items o in
    let v = subst₂ (λ q q'. MovedLists (map leaf_process q) (map leaf_process q') (map held (kept_membranes us ++ ms)) (map held (kept_membranes us ++ ms'))) (append_assoc (kept_atoms xs) W outs) (append_assoc (kept_atoms xs) W outs') w in
    subst₂ Moved (sym e) (sym e') (listed_moved (record { items = v; rules = ap (λ x. ts ++ x) m.rules }) k)

raw_linked : (rest : Region) (W outs : List Leaf) (ms : List Level) (rs : List Rule) → Linked (level_process (raw_level rest W outs ms rs)) → Linked (listed outs ms rs)
raw_linked (region xs us ts) W outs ms rs l =
    let e = level_listed (kept_atoms xs ++ (W ++ outs)) (kept_membranes us ++ ms) (ts ++ rs) in
    let i : Linked (pair (listed (kept_atoms xs ++ W) (kept_membranes us) ts) (listed outs ms rs)) =
    linked_as (λ z. reordered_count (listed_both (kept_atoms xs ++ W) outs (kept_membranes us) ms ts rs) z) (subst (λ v. Linked (listed v (kept_membranes us ++ ms) (ts ++ rs))) (sym (append_assoc (kept_atoms xs) W outs)) (subst Linked e l)) in
    linked_right i

-- the contexts of a level are its own and those of its membranes, and so are its rule contexts
pub names_split : (l : Level) → (all_contexts l ≡ own_contexts l ++ contexts_in (own_membranes l)) × (all_rule_contexts l ≡ own_rule_contexts l ++ rule_contexts_in (own_membranes l))
names_split (level leaves membranes contexts rule_contexts rules) = (refl, refl)

-- each untyped context of the body of an accepted rule stands in its head
pub of_the_head : {r : Rule} → Accepted r → (q : Context) → Among q (all_contexts (body_of r)) → Among q (all_contexts (head_of r))
of_the_head {r} a q k = go q k
  where
    open_there : {p : Name} (ps : List Context) → Among (open_context p) ps → Among p (open_names ps)
    open_there (open_context p ∷ ps) at_head = at_head
    open_there (open_context q ∷ ps) (further k) = further (open_there ps k)
    open_there (closed_context q ∷ ps) (further k) = open_there ps k
    open_there [] k = elim k [ ]

    open_from : {p : Name} (ps : List Context) → Among p (open_names ps) → Among (open_context p) ps
    open_from (open_context p ∷ ps) at_head = at_head
    open_from (open_context q ∷ ps) (further k) = further (open_from ps k)
    open_from (closed_context q ∷ ps) k = further (open_from ps k)
    open_from [] k = elim k [ ]

    closed_there : {p : Name} (ps : List Context) → Among (closed_context p) ps → Among p (closed_names ps)
    closed_there (closed_context p ∷ ps) at_head = at_head
    closed_there (closed_context q ∷ ps) (further k) = further (closed_there ps k)
    closed_there (open_context q ∷ ps) (further k) = closed_there ps k
    closed_there [] k = elim k [ ]

    closed_from : {p : Name} (ps : List Context) → Among p (closed_names ps) → Among (closed_context p) ps
    closed_from (closed_context p ∷ ps) at_head = at_head
    closed_from (closed_context q ∷ ps) (further k) = further (closed_from ps k)
    closed_from (open_context q ∷ ps) k = further (closed_from ps k)
    closed_from [] k = elim k [ ]

    go : (q : Context) → Among q (all_contexts (body_of r)) → Among q (all_contexts (head_of r))
    go (open_context p) k =
        let j = shuffle_among (shuffle_flip a.kept) (open_there (all_contexts (body_of r)) k) in
        open_from (all_contexts (head_of r)) (subst (λ n. Among n (open_names (all_contexts (head_of r)))) j.2 j.1)
    go (closed_context p) k = closed_from (all_contexts (head_of r)) (a.known_closed p (closed_there (all_contexts (body_of r)) k))

fires_one : {r : Rule} {f : List ℕ} {m : Region} {L L' : Level} → Accepted r → FiresInOrder r f m L → FiresInOrder r f m L' → (O : Process) → Closed (pair (region_process m) O) → Linked (level_process L) → Linked (level_process L') → Moved (level_process L) (level_process L')
fires_one {r} {f} {m} {L} {L'} a F F' O closed l l' =
    let e = F.at in
    let e' = F'.at in
    let c = e.contents in
    let d = e'.contents in
    let t = assignment_of c in
    let s = assignment_of d in
    let hd = head_of r in
    let ports = ports_agree (level_images_of e.lies) (level_images_of e'.lies) refl {ks = []} {ks' = []} refl in
    let typed_agree : AgreeOn t s (typed_links hd) = λ x k. ports.links x (a.held x k) in
    let two : Linked (pair (region_process m) O) = closed_linked closed in
    let same = parts_same t s c d (level_images_of e.lies) (level_images_of e'.lies) refl [] [] refl (λ z. occurrences z O) two.at_most_twice typed_agree (λ x k. inl (a.held x k)) (each_left_of e.lies) (each_left_of e'.lies) in
    let w = wires_one c.link_of d.link_of hd F.bound F'.bound F.bounded F'.bounded (λ x o. either (level_links x hd a.no_connectors (not_zero_if_one (level_occurrences x hd) o)) (λ k. ports.links x k) (λ k. typed_agree x k)) in
    let b = accepted_bare r a in
    let p = contents_plain c e.closed e.root_is_free in
    let i : LevelImages t (level b.leaves b.membranes [] [] no_rule) f m e.rest = subst (λ k. LevelImages t k f m e.rest) b.is (level_images_of e.lies) in
    let u = level_skeleton t p i in
    let whole = head_whole r a t p e.guard b.leaves b.membranes b.is m e.rest u O closed in
    let guards = guard_one t s (typed_contexts hd) a.in_turn e.guard e'.guard (λ q k. either k (λ j. same.same_typed q j) (λ j. elim j [ ])) in
    let known : (q : Name) → Among q (typed_contexts (body_of r)) → (Whole (c.typed_of q)) × EqualParts (c.typed_of q) (d.typed_of q) = λ q k. (body_whole a t e.guard whole q k, either (a.known q k) (λ j. same.same_typed q j) (λ j. guards q j)) in
    let contexts : SameContexts c d (all_contexts (body_of r)) = λ q k. same.same_contexts q (subst (Among q) ((names_split hd).0 ∙ ap (λ n. n ++ contexts_in (own_membranes hd)) a.top_contexts) (of_the_head a q k)) in
    let rules : SameRuleContexts c d (all_rule_contexts (body_of r)) = λ q k. same.same_rules q (subst (Among q) ((names_split hd).1 ∙ ap (λ n. n ++ rule_contexts_in (own_membranes hd)) a.top_rule_contexts) (a.known_rules q k)) in
    let q : L' ≡ raw_level e.rest (wire_leaves c.link_of hd F.bound) F'.outs F'.made_membranes F'.made_rules = F'.is ∙ cc (w, same.rests) in
    let k : Linked (level_process (raw_level e.rest (wire_leaves c.link_of hd F.bound) F.outs F.made_membranes F.made_rules)) = subst (λ n. Linked (level_process n)) F.is l in
    let k' = raw_linked e.rest (wire_leaves c.link_of hd F.bound) F'.outs F'.made_membranes F'.made_rules (subst (λ n. Linked (level_process n)) q l') in
    let mv = raw_moved e.rest (wire_leaves c.link_of hd F.bound) F.outs F'.outs F.made_membranes F'.made_membranes F.made_rules F'.made_rules k (λ n. level_moved c d e.closed e.root_is_free e'.root_is_free F.makes F'.makes known contexts rules n k') in
    subst₂ Moved (ap level_process (sym F.is)) (ap level_process (sym q)) mv

-- ---- the law

replaced_moved : (n : ℕ) (L L' : Level) (ks : List Level) → Moved (level_process L) (level_process L') → Linked (together (map held (replaced n L ks))) → MovedList (map held (replaced n L ks)) (map held (replaced n L' ks))
replaced_moved n L L' [] u l = moved_list_same refl
replaced_moved zero L L' (k ∷ ks) u l = moved_cons (moved_inside u) (moved_list_same refl) l
replaced_moved (suc n) L L' (k ∷ ks) u l = moved_cons (moved_same refl) (replaced_moved n L L' ks u (linked_right l)) l

replaced_linked : {n : ℕ} {m : Region} {ms ms' : Regions} (L : Level) → TakenRegion n m ms ms' → Linked (together (map held (replaced n L (kept_membranes ms)))) → Linked (level_process L)
replaced_linked L region_first l = linked_inside (linked_left l)
replaced_linked L (region_later k) l = replaced_linked L k (linked_right l)

-- at one embedding a firing leaves one raw level, but for bound links
pub raw_one : {path : List ℕ} {k : ℕ} {f : List ℕ} {S : Region} {L L' : Level} → RawAt path k f S L → RawAt path k f S L' → AllRules Accepted S → (O : Process) → Closed (pair (region_process S) O) → Linked (level_process L) → Linked (level_process L') → Moved (level_process L) (level_process L')
raw_one (fires_here {f = f} {xs = xs} {ms = ms} {rs = rs} {L = L} k F) (fires_here {L = L'} k' F') h O c l l' =
    let e = taken_one k k' in
    fires_one (rule_there Accepted h.0 (taken_put k)) F (subst (λ r. FiresInOrder r f (region xs ms rs) L') (sym e.0) F') O c l l'
raw_one (fires_below {n = n} {k = q} {path = path} {f = f} {m = m} {xs = xs} {ms = ms} {ms' = ms'} {rs = rs} {L = L} k R) (fires_below {L = L'} k' R') h O c l l' =
    let S = region xs ms rs in
    let Q = region_process (region xs ms' rs) in
    let out = region_out xs rs k in
    let e = level_listed (kept_atoms xs) (replaced n L (kept_membranes ms)) rs in
    let e' = level_listed (kept_atoms xs) (replaced n L' (kept_membranes ms)) rs in
    let a : Linked (listed (kept_atoms xs) (replaced n L (kept_membranes ms)) rs) = subst Linked e l in
    let a' : Linked (listed (kept_atoms xs) (replaced n L' (kept_membranes ms)) rs) = subst Linked e' l' in
    let R₁ = subst (λ w. RawAt path q f w L') (sym (region_one k k').0) R' in
    let u = raw_one R R₁ (region_there Accepted h.1 k) (pair Q O) (closed_as (pair (region_process S) O) (pair (region_process m) (pair Q O)) (λ z. omega (arith, reordered_count out z)) c)
    (replaced_linked L k (linked_left (linked_right a))) (replaced_linked L' k' (linked_left (linked_right a'))) in
    subst₂ Moved (sym e) (sym e') (moved_pair (moved_same refl) (moved_pair (moved_together (replaced_moved n L L' (kept_membranes ms) u (linked_left (linked_right a)))) (moved_same refl) (linked_right a)) a)

-- and one next solid, up to the numbers of links
pub next_is_one : {path : List ℕ} {k : ℕ} {f : List ℕ} (S S' S'' : Region) → Closed (region_process S) → AllRules Accepted S → NextAt path k f S S' → NextAt path k f S S'' → IsRenamed S' S''
next_is_one S S' S'' c h n n' =
    moved_solid (raw_one n.fires n'.fires h nothing (beside_nothing (region_process S) c) (closed_linked n.fuses.closed_top) (closed_linked n'.fuses.closed_top)) n.fuses n'.fuses
