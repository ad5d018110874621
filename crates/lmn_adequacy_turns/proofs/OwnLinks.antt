-- What a body makes where each copy of a typed or of a closed context has links of its own. With it the raw level of a rule is closed.
use Rattle.std.proofs.Common.{ℕ, suc, List, map, sym, ap, subst, inl, inr, refl, arith, ◌≡◌, ◌≢◌, ◌+◌, ◌≤◌, ◌<◌, ◌⊎◌, [], ◌∷◌, ◌++◌, ◌∙◌}
use Rattle.lmn_congruence.specs.FreeLinks.{link_bound}
use Rattle.lmn_congruence.specs.LinkedRules.{leaves_occurrences, level_occurrences, levels_occurrences}
use Rattle.lmn_congruence.specs.Links.{one_if_same, places}
use Rattle.lmn_congruence.specs.Orders.{Among, at_head, further}
use Rattle.lmn_congruence.specs.Plains.{leaf_process, level_process}
use Rattle.lmn_congruence.specs.Process.{Closed, Process, occurrences, pair, renamed, together, Free}
use Rattle.lmn_congruence.specs.Regions.{Region, Regions, SolidAtom, region, region_process}
use Rattle.lmn_congruence.specs.Same.{renamed_atom, renamed_regions}
use Rattle.lmn_congruence.specs.Rules.{Context, Label, Leaf, Level, Levels, Name, Rule, Rules, atom_leaf, body_of, closed_context, connector_leaf, head_of, level, level_and, no_level, no_rule, open_context, rules_list, typed_leaf}
use Rattle.lmn_congruence.specs.Translation.{levels, rules as listed_rules}
use Rattle.lmn_congruence.proofs.Counts.{none_if_apart, one_if_equal}
use Rattle.lmn_congruence.proofs.Crossings.{occurs_below}
use Rattle.lmn_congruence.proofs.Renaming.{occurrences_image, occurrences_none}
use Rattle.lmn_congruence.proofs.Reordered.{reordered_count}
use Rattle.lmn_reduction.specs.Assignments.{Assignment}
use Rattle.lmn_reduction.specs.Firing.{typed_contexts, typed_contexts_in, typed_leaves}
use Rattle.lmn_adequacy.specs.Accepted.{Accepted, all_contexts, contexts_in, open_names}
use Rattle.lmn_adequacy.specs.Embedding.{IsPart, Contents, EmbedsAt, assignment_of, region_of}
use Rattle.lmn_adequacy.specs.Loose.{LevelImages, Plain}
use Rattle.lmn_adequacy.specs.Next.{DepthFirst, MadeContexts, MadeLeaves, MadeLevel, MadeMembranes, context_rules, kept_atoms, kept_membranes, links_at, made_context, made_open, made_closed, no_made_context, made_atom, part_leaves, made_connector, made_copy, made_level, made_membrane, no_made_leaf, no_made_membrane, raw_level, wire_leaves}
use Rattle.lmn_adequacy.proofs.Accepting.{accepted_bare}
use Rattle.lmn_adequacy.proofs.Bodies.{Copied, LevelMade, Whole, context_places, odd_not_even, open_places_append}
use Rattle.lmn_adequacy.proofs.Closing.{body_whole, head_whole, raw_closes}
use Rattle.lmn_adequacy.proofs.Commits.{closed_as}
use Rattle.lmn_adequacy.proofs.Copies.{made_places}
use Rattle.lmn_adequacy.proofs.Existence.{level_bound}
use Rattle.lmn_adequacy.proofs.Exposing.{Source, found, missing, source}
use Rattle.lmn_adequacy.proofs.InOrder.{contents_plain, contexts_both, held, level_images_of, level_listed, listed, listed_both, made_process, raw_joined, together_both}
use Rattle.lmn_adequacy.proofs.RawProcesses.{head_wires}
use Rattle.lmn_adequacy.proofs.Skeleton.{level_skeleton, places_even}
use Rattle.lmn_adequacy_turns.proofs.PartLinks.{part_links_twice, part_root_once}
use Rattle.lmn_congruence_splice.specs.Splice.{of_rule, of_solid}
use Rattle.lmn_base.proofs.Numbers.{same_or_not}
use Rattle.lmn_congruence.proofs.TranslatedLinks.{no_link_in_rules as no_link_rules}
use Rattle.lmn_congruence_splice.proofs.Fusions.{apart_rule as even_not_odd, rule_once as even_differs, solid_once as odd_differs}
use Rattle.lmn_congruence.proofs.Common.{among_left, among_right, places_among}
use Rattle.lmn_reduction.specs.Parts.{Rooted}
use Rattle.lmn_congruence.proofs.RenamedRegions.{region_renamed}

-- ---- what is made, with the numbers of the copies

-- Copies of typed contexts have even numbers, `of_rule k`, and those of closed contexts odd ones, `of_solid d`.

-- the number i is that of a typed context from k up to j, or of a closed one from d up to e
abbrev pub Between : ℕ → ℕ → ℕ → ℕ → ℕ → Type 0
Between k j d e i = ((x : ℕ) × (i ≡ of_rule x) × (k ≤ x) × (x < j)) ⊎ ((x : ℕ) × (i ≡ of_solid x) × (d ≤ x) × (x < e))

-- nothing lies in two ranges, one behind the other
between_apart : (k i j d f e x y : ℕ) → Between k i d f x → Between i j f e y → x ≡ y → ⊥
between_apart k i j d f e x y (inl (a, p, l, u)) (inl (b, q, m, v)) z = less a b (even_differs a b (sym p ∙ z ∙ q)) u m
  where
    less : (a b : ℕ) → a ≡ b → a < i → i ≤ b → ⊥
    less a b w l m = absurd (omega (arith, w, l, m))
between_apart k i j d f e x y (inl (a, p, l, u)) (inr (b, q, m, v)) z = even_not_odd a b (sym p ∙ z ∙ q)
between_apart k i j d f e x y (inr (a, p, l, u)) (inl (b, q, m, v)) z = even_not_odd b a (sym q ∙ sym z ∙ p)
between_apart k i j d f e x y (inr (a, p, l, u)) (inr (b, q, m, v)) z = less a b (odd_differs a b (sym p ∙ z ∙ q)) u m
  where
    less : (a b : ℕ) → a ≡ b → a < f → f ≤ b → ⊥
    less a b w l m = absurd (omega (arith, w, l, m))

-- what lies in a range lies in a larger one
between_more : (k k' j j' d d' e e' x : ℕ) → k' ≤ k → j ≤ j' → d' ≤ d → e ≤ e' → Between k j d e x → Between k' j' d' e' x
between_more k k' j j' d d' e e' x a b c g (inl (y, p, l, u)) = inl (y, p, omega (arith, a, l), omega (arith, u, b))
between_more k k' j j' d d' e e' x a b c g (inr (y, p, l, u)) = inr (y, p, omega (arith, c, l), omega (arith, u, g))

-- Block j L: link number L, above those of the solid, belongs to copy j.
module _ (c : Contents) (Block : ℕ → ℕ → Type 0) where
  -- What leaves make, as `MadeLeaves`: the numbers of the next copy before and behind them. An integer has no link but its own;
  -- a copy of a part has links of the copy besides.
  pub data OwnLeaves : ℕ → ℕ → List Leaf → List Leaf → Type 0 where
    own_none : {k : ℕ} → OwnLeaves k k [] []
    own_atom : {k j : ℕ} {a : Label} {xs : List ℕ} {ls outs : List Leaf} → OwnLeaves k j ls outs → OwnLeaves k j (atom_leaf a xs ∷ ls) (atom_leaf a (map of_rule xs) ∷ outs)
    own_connector : {k j x y : ℕ} {ls outs : List Leaf} → OwnLeaves k j ls outs → OwnLeaves k j (connector_leaf x y ∷ ls) (connector_leaf (of_rule x) (of_rule y) ∷ outs)
    own_integer : {k j x : ℕ} {p : Name} {part : List SolidAtom} {ls outs : List Leaf} → IsPart (c.typed_of p) (of_rule x) part → DepthFirst (of_rule x) part →
        ((z : ℕ) → Among z (links_at part) → z ≡ of_rule x) → OwnLeaves k j ls outs → OwnLeaves k j (typed_leaf p x ∷ ls) (part_leaves part ++ outs)
    own_copy : {k j x : ℕ} {p : Name} {part : List SolidAtom} {ls outs : List Leaf} → IsPart (c.typed_of p) (of_rule x) part → DepthFirst (of_rule x) part →
        ((z : ℕ) → Among z (links_at part) → (z ≡ of_rule x) ⊎ ((L : ℕ) × (z ≡ of_solid L) × Block (of_rule k) L)) → OwnLeaves (k + 1) j ls outs → OwnLeaves k j (typed_leaf p x ∷ ls) (part_leaves part ++ outs)

  -- What untyped contexts make, as `MadeContexts`: the numbers of the next copy of a closed one before and behind them. An open one
  -- makes what it stands for, and a closed one a copy, each link at one of the copy alone.
  pub data OwnContexts : ℕ → ℕ → List Context → List SolidAtom → List Level → Type 0 where
    own_no_context : {d : ℕ} → OwnContexts d d [] [] []
    own_open : {d e : ℕ} {p : Name} {ps : List Context} {xs : List SolidAtom} {ks : List Level} → OwnContexts d e ps xs ks →
        OwnContexts d e (open_context p ∷ ps) (c.atoms_of (open_context p) ++ xs) (kept_membranes (c.membranes_of (open_context p)) ++ ks)
    own_closed : {d e : ℕ} {p : Name} {ps : List Context} {xs : List SolidAtom} {ks : List Level} (g : ℕ → ℕ) → ((y z : ℕ) → g y ≡ g z → y ≡ z) → ((y : ℕ) → Block (of_solid d) (g y)) → OwnContexts (suc d) e ps xs ks →
        OwnContexts d e (closed_context p ∷ ps) (map (renamed_atom g) (c.atoms_of (closed_context p)) ++ xs) (kept_membranes (renamed_regions g (c.membranes_of (closed_context p))) ++ ks)

  mutual
    pub data OwnLevel : ℕ → ℕ → ℕ → ℕ → Level → List Leaf → List Level → List Rule → Type 0 where
      own_level : {k i j d f e : ℕ} {leaves outs : List Leaf} {membranes : Levels} {inner ks : List Level} {contexts : List Context} {xs : List SolidAtom} {rule_contexts : List Name} {rules : Rules} →
          OwnLeaves k i leaves outs → OwnMembranes i j d f membranes inner → OwnContexts f e contexts xs ks →
          OwnLevel k j d e (level leaves membranes contexts rule_contexts rules) (outs ++ kept_atoms xs) (inner ++ ks) (rules_list rules ++ context_rules c rule_contexts)

    pub data OwnMembranes : ℕ → ℕ → ℕ → ℕ → Levels → List Level → Type 0 where
      own_no_membrane : {k d : ℕ} → OwnMembranes k k d d no_level []
      own_membrane : {k i j d f e : ℕ} {l : Level} {ls : Levels} {outs : List Leaf} {inner others : List Level} {rs : List Rule} →
          OwnLevel k i d f l outs inner rs → OwnMembranes i j f e ls others → OwnMembranes k j d e (level_and l ls) (level outs (levels inner) [] [] (listed_rules rs) ∷ others)

  contexts_made : {d e : ℕ} {ps : List Context} {xs : List SolidAtom} {ks : List Level} → OwnContexts d e ps xs ks → MadeContexts c ps xs ks
  contexts_made own_no_context = no_made_context
  contexts_made (own_open {p = p} w) = made_context {ms = c.membranes_of (open_context p)} made_open (contexts_made w)
  contexts_made (own_closed {p = p} g one b w) =
      made_context {ms = renamed_regions g (c.membranes_of (closed_context p))} (made_closed (record { to = g; one_to_one = λ x y m n e. one x y e; is = region_renamed g (region_of c (closed_context p)) })) (contexts_made w)

  leaves_made : {k j : ℕ} {ls outs : List Leaf} → OwnLeaves k j ls outs → MadeLeaves c ls outs
  leaves_made own_none = no_made_leaf
  leaves_made (own_atom d) = made_atom (leaves_made d)
  leaves_made (own_connector d) = made_connector (leaves_made d)
  leaves_made (own_integer i o w d) = made_copy i o (leaves_made d)
  leaves_made (own_copy i o w d) = made_copy i o (leaves_made d)

  mutual
    -- it is what a body makes
    pub own_made : {k j d e : ℕ} {l : Level} {outs : List Leaf} {inner : List Level} {rs : List Rule} → OwnLevel k j d e l outs inner rs → MadeLevel c l outs inner rs
    own_made (own_level u v w) = made_level (leaves_made u) (membranes_made v) (contexts_made w)

    membranes_made : {k j d e : ℕ} {ls : Levels} {inner : List Level} → OwnMembranes k j d e ls inner → MadeMembranes c ls inner
    membranes_made own_no_membrane = no_made_membrane
    membranes_made (own_membrane d e) = made_membrane (own_made d) (membranes_made e)

  -- ---- how often links stand there

  not_among : (z : ℕ) (ys : List ℕ) → (Among z ys → ⊥) → places z ys ≡ 0
  not_among z ys n = elim (same_or_not (places z ys) 0) [
    | inl e ↦ e
    | inr d ↦ absurd (n (places_among z ys d))
  ]

  module _ (g : Rooted) (x k : ℕ) (part : List SolidAtom) (i : IsPart g (of_rule x) part) (free : Free g.root g.process) (own : (z : ℕ) → Among z (links_at part) → (z ≡ of_rule x) ⊎ ((L : ℕ) × (z ≡ of_solid L) × Block k L)) where
    -- of the links of the rule only the root's, once
    even_once : (y : ℕ) → places (of_rule y) (links_at part) ≡ one_if_same y x
    even_once y = elim (same_or_not y x) [
      | inl e ↦ ap (λ z. places (of_rule z) (links_at part)) e ∙ part_root_once i free ∙ sym (one_if_equal y x e)
      | inr d ↦ not_among (of_rule y) (links_at part) (λ a. elim (own (of_rule y) a) [
        | inl e ↦ d (even_differs y x e)
        | inr w ↦ even_not_odd y w.0 w.1
      ]) ∙ sym (none_if_apart y x d)
    ]

    -- others twice, and then they are links of the copy
    odd_twice : Whole g → (L : ℕ) → (places (of_solid L) (links_at part) ≡ 0) ⊎ ((places (of_solid L) (links_at part) ≡ 2) × Block k L)
    odd_twice whole L = by (part_links_twice i free whole (of_solid L) (λ e. even_not_odd x L (sym e)))
      where
        there : (n : ℕ) → n ≡ 2 → n ≢ 0
        there n e z = omega (arith, e, z)

        by : (places (of_solid L) (links_at part) ≡ 0) ⊎ (places (of_solid L) (links_at part) ≡ 2) → (places (of_solid L) (links_at part) ≡ 0) ⊎ ((places (of_solid L) (links_at part) ≡ 2) × Block k L)
        by (inl e) = inl e
        by (inr e) = elim (own (of_solid L) (places_among (of_solid L) (links_at part) (there (places (of_solid L) (links_at part)) e))) [
          | inl q ↦ absurd (even_not_odd x L (sym q))
          | inr w ↦ inr (e, subst (Block k) (sym (odd_differs L w.0 w.1)) w.2)
        ]

  -- beside n places of the open contexts, a link has two in one of the copies: of typed contexts from k up to j, of closed ones from d up to e
  pub record Blocks (k j d e L n m : ℕ) : Type 0 where
    pub copies : ℕ
    pub is : m ≡ n + copies
    pub whole : (copies ≡ 0) ⊎ ((copies ≡ 2) × (i : ℕ) × Between k j d e i × Block i L)

  blocks_none : (k d L : ℕ) → Blocks k k d d L 0 0
  blocks_none k d L = record { copies = 0; is = refl; whole = inl refl }

  module _ (one : (i j L : ℕ) → Block i L → Block j L → i ≡ j) where
    blocks_more : (k i j d f e L n n' m m' : ℕ) → k ≤ i → i ≤ j → d ≤ f → f ≤ e → Blocks k i d f L n m → Blocks i j f e L n' m' → Blocks k j d e L (n + n') (m + m')
    blocks_more k i j d f e L n n' m m' b b' c c' u v = record { copies = u.copies + v.copies; is = omega (arith, u.is, v.is); whole = go u.whole v.whole }
      where
        go : (u.copies ≡ 0) ⊎ ((u.copies ≡ 2) × (a : ℕ) × Between k i d f a × Block a L) → (v.copies ≡ 0) ⊎ ((v.copies ≡ 2) × (a : ℕ) × Between i j f e a × Block a L) →
            (u.copies + v.copies ≡ 0) ⊎ ((u.copies + v.copies ≡ 2) × (a : ℕ) × Between k j d e a × Block a L)
        go (inl x) (inl y) = inl (omega (arith, x, y))
        go (inl x) (inr y) = inr (omega (arith, x, y.0), y.1, between_more i k j j f d e e y.1 b (omega arith) c (omega arith) y.2, y.3)
        go (inr x) (inl y) = inr (omega (arith, x.0, y), x.1, between_more k k i j d d f e x.1 (omega arith) b' (omega arith) c' x.2, x.3)
        go (inr x) (inr y) = absurd (between_apart k i j d f e x.1 y.1 x.2 y.2 (one x.1 y.1 L x.3 y.3))

    module _ (p : Plain (assignment_of c)) where
      abbrev t : Assignment
      t = assignment_of c

      leaves_both : (z : ℕ) (xs ys : List Leaf) → occurrences z (together (map leaf_process (xs ++ ys))) ≡ occurrences z (together (map leaf_process xs)) + occurrences z (together (map leaf_process ys))
      leaves_both z xs ys = reordered_count (together_both leaf_process xs ys) z

      part_both : (z : ℕ) (part : List SolidAtom) (outs : List Leaf) → occurrences z (together (map leaf_process (part_leaves part ++ outs))) ≡ places z (links_at part) + occurrences z (together (map leaf_process outs))
      part_both z part outs = omega (arith, leaves_both z (part_leaves part) outs, made_places z part)

      pub record LeavesOwn (k j : ℕ) (ls outs : List Leaf) : Type 0 where
        pub later : k ≤ j
        pub count : (x : ℕ) → occurrences (of_rule x) (together (map leaf_process outs)) ≡ leaves_occurrences x ls
        pub odd : (d L : ℕ) → Blocks k j d d L 0 (occurrences (of_solid L) (together (map leaf_process outs)))

      pub record LevelOwn (k j d e : ℕ) (l : Level) (outs : List Leaf) (inner : List Level) (rs : List Rule) : Type 0 where
        pub later : (k ≤ j) × (d ≤ e)
        pub count : (x : ℕ) → occurrences (of_rule x) (listed outs inner rs) ≡ level_occurrences x l
        pub odd : (L : ℕ) → Blocks k j d e L (context_places t p L (open_names (all_contexts l))) (occurrences (of_solid L) (listed outs inner rs))

      pub record LevelsOwn (k j d e : ℕ) (ls : Levels) (inner : List Level) : Type 0 where
        pub later : (k ≤ j) × (d ≤ e)
        pub count : (x : ℕ) → occurrences (of_rule x) (together (map held inner)) ≡ levels_occurrences x ls
        pub odd : (L : ℕ) → Blocks k j d e L (context_places t p L (open_names (contexts_in ls))) (occurrences (of_solid L) (together (map held inner)))

      abbrev Ready : List Name → Type 0
      Ready ps = (q : Name) → Among q ps → Whole (c.typed_of q)

      leaves_own : {k j : ℕ} {ls outs : List Leaf} → OwnLeaves k j ls outs → Ready (typed_leaves ls) → LeavesOwn k j ls outs
      leaves_own (own_none {k = k}) w = record { later = omega arith; count = λ x. refl; odd = λ d L. blocks_none k d L }
      leaves_own (own_atom {xs = ys} d) w =
          let u = leaves_own d w in
          record {
            later = u.later;
            count = λ x. omega (arith, places_even t p x ys, u.count x);
            odd = λ d L. let b = u.odd d L in record { copies = b.copies; is = omega (arith, odd_not_even t p L ys, b.is); whole = b.whole };
          }
      leaves_own (own_connector {x = y} {y = z} d) w =
          let u = leaves_own d w in
          record {
            later = u.later;
            count = λ x. omega (arith, places_even t p x (y ∷ z ∷ []), u.count x);
            odd = λ d L. let b = u.odd d L in record { copies = b.copies; is = omega (arith, odd_not_even t p L (y ∷ z ∷ []), b.is); whole = b.whole };
          }
      leaves_own (own_integer {k = k} {x = y} {p = q} {part = part} {outs = outs} i o alone d) w =
          let u = leaves_own d (λ q' a. w q' (further a)) in
          let own : (z : ℕ) → Among z (links_at part) → (z ≡ of_rule y) ⊎ ((L : ℕ) × (z ≡ of_solid L) × Block (of_rule k) L) = λ z a. inl (alone z a) in
          let even = even_once (c.typed_of q) y (of_rule k) part i (p.root_is_free q) own in
          let none : (L : ℕ) → places (of_solid L) (links_at part) ≡ 0 = λ L. not_among (of_solid L) (links_at part) (λ a. even_not_odd y L (sym (alone (of_solid L) a))) in
          record {
            later = u.later;
            count = λ x. omega (arith, part_both (of_rule x) part outs, even x, u.count x);
            odd = λ d L. let b = u.odd d L in record { copies = b.copies; is = omega (arith, part_both (of_solid L) part outs, none L, b.is); whole = b.whole };
          }
      leaves_own (own_copy {k = k} {j = j} {x = y} {p = q} {part = part} {outs = outs} i o own d) w =
          let u = leaves_own d (λ q' a. w q' (further a)) in
          let even = even_once (c.typed_of q) y (of_rule k) part i (p.root_is_free q) own in
          let first : (d L : ℕ) → Blocks k (k + 1) d d L 0 (places (of_solid L) (links_at part)) = λ d L. alone d L (odd_twice (c.typed_of q) y (of_rule k) part i (p.root_is_free q) own (w q at_head) L) in
          record {
            later = omega (arith, u.later);
            count = λ x. omega (arith, part_both (of_rule x) part outs, even x, u.count x);
            odd = λ d L.
                let b = blocks_more k (k + 1) j d d d L 0 0 (places (of_solid L) (links_at part)) (occurrences (of_solid L) (together (map leaf_process outs))) (omega arith) u.later (omega arith) (omega arith) (first d L) (u.odd d L) in
                record { copies = b.copies; is = omega (arith, part_both (of_solid L) part outs, b.is); whole = b.whole };
          }
        where
          alone : (d L : ℕ) → (places (of_solid L) (links_at part) ≡ 0) ⊎ ((places (of_solid L) (links_at part) ≡ 2) × Block (of_rule k) L) → Blocks k (k + 1) d d L 0 (places (of_solid L) (links_at part))
          alone d L (inl e) = record { copies = places (of_solid L) (links_at part); is = omega arith; whole = inl e }
          alone d L (inr e) = record { copies = places (of_solid L) (links_at part); is = omega arith; whole = inr (e.0, of_rule k, inl (k, refl, omega arith, omega arith), e.1) }

      level_count : (z : ℕ) (outs : List Leaf) (ms ks : List Level) (xs : List SolidAtom) (qs : List Name) (rs : List Rule)
          → occurrences z (listed (outs ++ kept_atoms xs) (ms ++ ks) (rs ++ context_rules c qs)) ≡ (occurrences z (together (map leaf_process outs)) + occurrences z (together (map held ms))) + occurrences z (listed (kept_atoms xs) ks [])
      level_count z outs ms ks xs qs rs =
          omega (arith, reordered_count (listed_both outs (kept_atoms xs) ms ks rs (context_rules c qs)) z, no_link_rules z rs, no_link_rules z (context_rules c qs))

      -- what the items of a context, and of those behind it, have of a link
      context_count : (z : ℕ) (xs ys : List SolidAtom) (ms : Regions) (ks : List Level) → occurrences z (listed (kept_atoms (xs ++ ys)) (kept_membranes ms ++ ks) [])
          ≡ occurrences z (renamed of_solid (region_process (region xs ms []))) + occurrences z (listed (kept_atoms ys) ks [])
      context_count z xs ys ms ks = reordered_count (contexts_both c xs ys ms ks) z

      -- a region has no link of the rule, and its own links
      no_even : (x : ℕ) (P : Process) → occurrences (of_rule x) (renamed of_solid P) ≡ 0
      no_even x P = occurrences_none of_solid (of_rule x) P (λ y o e. even_not_odd x y (sym e))

      odd_image : (L : ℕ) (P : Process) → occurrences (of_solid L) (renamed of_solid P) ≡ occurrences L P
      odd_image L P = occurrences_image of_solid L P (λ z o e. odd_differs z L e)

      -- a link of a copy of a closed process stands there twice, and is one of the copy
      copy_block : (j d L : ℕ) (g : ℕ → ℕ) → ((y z : ℕ) → g y ≡ g z → y ≡ z) → ((y : ℕ) → Block (of_solid d) (g y)) → (P : Process) → Closed P → Blocks j j d (suc d) L 0 (occurrences L (renamed g P))
      copy_block j d L g one own P closed = go (source g P L)
        where
          two : (z : ℕ) → occurrences z P ≢ 0 → (occurrences z P ≡ 0) ⊎ (occurrences z P ≡ 2) → occurrences z P ≡ 2
          two z o (inl e) = absurd (o e)
          two z o (inr e) = e

          go : Source g P L → Blocks j j d (suc d) L 0 (occurrences L (renamed g P))
          go (found z o e) = record {
            copies = 2;
            is = ap (λ k. occurrences k (renamed g P)) (sym e) ∙ occurrences_image g z P (λ y u q. one y z q) ∙ two z o (closed z);
            whole = inr (refl, of_solid d, inr (d, refl, omega arith, omega arith), subst (Block (of_solid d)) e (own z));
          }
          go (missing m) = record { copies = 0; is = occurrences_none g L P m; whole = inl refl }

      pub record ContextsOwn (d e : ℕ) (ps : List Context) (xs : List SolidAtom) (ks : List Level) : Type 0 where
        pub later : d ≤ e
        pub none : (x : ℕ) → occurrences (of_rule x) (listed (kept_atoms xs) ks []) ≡ 0
        pub odd : (j L : ℕ) → Blocks j j d e L (context_places t p L (open_names ps)) (occurrences (of_solid L) (listed (kept_atoms xs) ks []))

      contexts_own : {d e : ℕ} {ps : List Context} {xs : List SolidAtom} {ks : List Level} → OwnContexts d e ps xs ks → ContextsOwn d e ps xs ks
      contexts_own (own_no_context {d = d}) = record { later = omega arith; none = λ x. refl; odd = λ j L. blocks_none j d L }
      contexts_own (own_open {d = d} {e = e} {p = q} {ps = ps} {xs = xs} {ks = ks} w) =
          let u = contexts_own w in
          let as' = c.atoms_of (open_context q) in
          let ms = c.membranes_of (open_context q) in
          let P = region_process (region_of c (open_context q)) in
          record {
            later = u.later;
            none = λ x. omega (arith, context_count (of_rule x) as' xs ms ks, no_even x P, u.none x);
            odd = λ j L. let b = u.odd j L in record { copies = b.copies; is = omega (arith, context_count (of_solid L) as' xs ms ks, odd_image L P, b.is); whole = b.whole };
          }
      contexts_own (own_closed {d = d} {e = e} {p = q} {ps = ps} {xs = xs} {ks = ks} g one own w) =
          let u = contexts_own w in
          let as' = map (renamed_atom g) (c.atoms_of (closed_context q)) in
          let ms = renamed_regions g (c.membranes_of (closed_context q)) in
          let P = region_process (region_of c (closed_context q)) in
          let copy : region_process (region as' ms []) ≡ renamed g P = region_renamed g (region_of c (closed_context q)) in
          record {
            later = let l = u.later in omega (arith, l);
            none = λ x. omega (arith, context_count (of_rule x) as' xs ms ks, no_even x (region_process (region as' ms [])), u.none x);
            odd = λ j L.
                let b = blocks_more j j j d (suc d) e L 0 (context_places t p L (open_names ps)) (occurrences L (renamed g P)) (occurrences (of_solid L) (listed (kept_atoms xs) ks [])) (omega arith) (omega arith) (omega arith) u.later
                (copy_block j d L g one own P (p.closed q)) (u.odd j L) in
                record { copies = b.copies; is = omega (arith, context_count (of_solid L) as' xs ms ks, odd_image L (region_process (region as' ms [])), ap (occurrences L) copy, b.is); whole = b.whole };
          }

      mutual
        -- a link of the rule has as many places as in the body, those of the open contexts are kept, and a copy's are its own
        pub level_own : {k j d e : ℕ} {l : Level} {outs : List Leaf} {inner : List Level} {rs : List Rule} → OwnLevel k j d e l outs inner rs → Ready (typed_contexts l) → LevelOwn k j d e l outs inner rs
        level_own (own_level {k = k} {i = i} {j = j} {d = d} {f = f} {e = e} {leaves = leaves} {outs = outs} {membranes = membranes} {inner = inner} {ks = ks} {contexts = ps} {xs = xs} {rule_contexts = qs} {rules = rules} dl dm dc) w =
            let u = leaves_own dl (λ q a. w q (among_left (typed_contexts_in membranes) a)) in
            let v = levels_own dm (λ q a. w q (among_right (typed_leaves leaves) a)) in
            let y = contexts_own dc in
            let n = v.later in
            record {
              later = (omega (arith, u.later, n.0), omega (arith, n.1, y.later));
              count = λ x. omega (arith, level_count (of_rule x) outs inner ks xs qs (rules_list rules), u.count x, v.count x, y.none x);
              odd = λ L.
                  let inside = context_places t p L (open_names (contexts_in membranes)) in
                  let own = context_places t p L (open_names ps) in
                  let b = blocks_more k i j d d f L 0 inside (occurrences (of_solid L) (together (map leaf_process outs))) (occurrences (of_solid L) (together (map held inner))) u.later n.0 (omega arith) n.1 (u.odd d L) (v.odd L) in
                  let a = blocks_more k j j d f e L (0 + inside) own (occurrences (of_solid L) (together (map leaf_process outs)) + occurrences (of_solid L) (together (map held inner))) (occurrences (of_solid L) (listed (kept_atoms xs) ks []))
                  (omega (arith, u.later, n.0)) (omega arith) n.1 y.later b (y.odd j L) in
                  record { copies = a.copies; is = omega (arith, a.is, level_count (of_solid L) outs inner ks xs qs (rules_list rules), open_places_append t p L ps (contexts_in membranes)); whole = a.whole };
            }

        levels_own : {k j d e : ℕ} {ls : Levels} {inner : List Level} → OwnMembranes k j d e ls inner → Ready (typed_contexts_in ls) → LevelsOwn k j d e ls inner
        levels_own (own_no_membrane {k = k} {d = d}) w = record { later = (omega arith, omega arith); count = λ x. refl; odd = λ L. blocks_none k d L }
        levels_own (own_membrane {k = k} {i = i} {j = j} {d = d} {f = f} {e = e} {l = l} {ls = ls} {outs = outs} {inner = inner} {others = others} {rs = rs} dl dm) w =
            let u = level_own dl (λ q a. w q (among_left (typed_contexts_in ls) a)) in
            let v = levels_own dm (λ q a. w q (among_right (typed_contexts l) a)) in
            let m = u.later in
            let n = v.later in
            let same = level_listed outs inner rs in
            record {
              later = (omega (arith, m.0, n.0), omega (arith, m.1, n.1));
              count = λ x. omega (arith, ap (occurrences (of_rule x)) same, u.count x, v.count x);
              odd = λ L.
                  let b = blocks_more k i j d f e L (context_places t p L (open_names (all_contexts l))) (context_places t p L (open_names (contexts_in ls))) (occurrences (of_solid L) (listed outs inner rs)) (occurrences (of_solid L) (together (map held others)))
                  m.0 n.0 m.1 n.1 (u.odd L) (v.odd L) in
                  record { copies = b.copies; is = omega (arith, ap (occurrences (of_solid L)) same, b.is, open_places_append t p L (all_contexts l) (contexts_in ls)); whole = b.whole };
            }

-- ---- the raw level

-- The raw level of a rule that fires at an embedding, with what its body makes, is closed beside a process.
pub record RawOwn (r : Rule) (c : Contents) (rest : Region) (O : Process) (outs : List Leaf) (membranes : List Level) (rules : List Rule) : Type 0 where
  pub bound : ℕ
  pub bounded : (x : ℕ) → bound ≤ x → level_occurrences x (head_of r) ≡ 0
  pub closed : Closed (pair (level_process (raw_level rest (wire_leaves c.link_of (head_of r) bound) outs membranes rules)) (renamed of_solid O))

-- what a body makes of a level has the links of its contents
pub raw_own : (Block : ℕ → ℕ → Type 0) (r : Rule) (f : List ℕ) (m : Region) → Accepted r → (e : EmbedsAt r f m) → (O : Process) → Closed (pair (region_process m) O) →
    (k j d n : ℕ) (outs : List Leaf) (membranes : List Level) (rules : List Rule) → OwnLevel e.contents Block k j d n (body_of r) outs membranes rules →
    ((i n L : ℕ) → Block i L → Block n L → i ≡ n) → ((i L : ℕ) → Block i L → link_bound (region_process m) + link_bound O ≤ L) → RawOwn r e.contents e.rest O outs membranes rules
raw_own Block r f m a e O closed k j d n outs membranes rules own one above =
    let c = e.contents in
    let t = assignment_of c in
    let p = contents_plain c e.closed e.root_is_free in
    let b = accepted_bare r a in
    let i : LevelImages t (level b.leaves b.membranes [] [] no_rule) f m e.rest = subst (λ k. LevelImages t k f m e.rest) b.is (level_images_of e.lies) in
    let u = level_skeleton t p i in
    let top = level_bound (head_of r) in
    let whole = head_whole r a t p e.guard b.leaves b.membranes b.is m e.rest u O closed in
    let v = level_own c Block one p own (λ q k. body_whole a t e.guard whole q k) in
    let B = made_process c (own_made c Block own) in
    let N : ℕ = link_bound (region_process m) + link_bound O in
    let made_body : LevelMade t p (body_of r) (link_bound (region_process m) + link_bound O) = record {
      process = B.process;
      is = B.is;
      count = λ x. sym (reordered_count B.order (of_rule x)) ∙ v.count x;
      next = N + link_bound B.process;
      later = omega arith;
      odd = λ L. copied N L (context_places t p L (open_names (all_contexts (body_of r)))) (occurrences (of_solid L) (listed outs membranes rules)) B.process (sym (reordered_count B.order (of_solid L))) above (v.odd L);
    } in
    let W = wire_leaves c.link_of (head_of r) top.0 in
    let closes = raw_closes r a t p e.guard b.leaves b.membranes b.is m e.rest u O closed made_body top.0 top.1 in
    let o = raw_joined t (head_of r) top.0 B.process e.rest outs membranes rules B.order in
    record {
      bound = top.0;
      bounded = top.1;
      closed = closed_as (pair (pair B.process (pair (head_wires t (head_of r) top.0) (renamed of_solid (region_process e.rest)))) (renamed of_solid O)) (pair (level_process (raw_level e.rest W outs membranes rules)) (renamed of_solid O)) (λ z. omega (arith, reordered_count o z)) closes;
    }
  where
    copied : (N L o m : ℕ) (P : Process) → occurrences (of_solid L) P ≡ m → ((i L : ℕ) → Block i L → N ≤ L) → Blocks e.contents Block k j d n L o m → Copied N (N + link_bound P) L o (occurrences (of_solid L) P)
    copied N L o m P same above b = record { copies = b.copies; is = same ∙ b.is; whole = by b.whole }
      where
        some : (a b : ℕ) → a ≡ o + b → b ≡ 2 → a ≢ 0
        some a b e f z = omega (arith, e, f, z)

        by : (b.copies ≡ 0) ⊎ ((b.copies ≡ 2) × (i : ℕ) × Between k j d n i × Block i L) → (b.copies ≡ 0) ⊎ ((b.copies ≡ 2) × (N ≤ L) × (L < N + link_bound P))
        by (inl q) = inl q
        by (inr w) =
            let l : of_solid L < link_bound P = occurs_below P (of_solid L) (some (occurrences (of_solid L) P) b.copies (same ∙ b.is) w.0) in
            inr (w.0, above w.1 L w.3, omega (arith, l))
