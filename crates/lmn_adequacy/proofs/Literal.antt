-- An embedding gives its contexts the lists that they stand for, in their order.
use Rattle.std.proofs.Common.{ℕ, List, map, refl, sym, subst, subst₂, inl, inr, arith, ◌≡◌, ◌⊎◌, [], ◌∷◌, ◌++◌, ◌∙◌}
use Rattle.lmn_congruence.specs.Orders.{Among, Shuffle, at_head, further, EachOnce}
use Rattle.lmn_congruence.specs.Process.{Closed, Process, atom, connector, membrane, nothing, pair, rule, together}
use Rattle.lmn_congruence.specs.Regions.{Region, Regions, SolidAtom, atom_process, no_region, region, region_and, region_process, regions_processes}
use Rattle.lmn_congruence.specs.Rules.{Context, Label, Leaf, Level, Levels, Name, Rule, Rules, closed_context, head_of, level, level_and, no_rule}
use Rattle.lmn_congruence.specs.UpToOrder.{Reordered}
use Rattle.lmn_reduction.specs.Assignments.{Assignment, NoRuleAtTop}
use Rattle.lmn_reduction.specs.Firing.{typed_contexts}
use Rattle.lmn_reduction.specs.Instances.{rules_of_contexts}
use Rattle.lmn_congruence.proofs.Reordered.{SamePiece, itself, pieces, reordered_pieces}
use Rattle.lmn_congruence.proofs.Shuffles.{shuffle_flip}
use Rattle.lmn_adequacy.specs.Accepted.{Accepted, AtMostOne, EachLevel, EachOf, all_contexts, all_rule_contexts, contexts_in, own_membranes, own_contexts, own_rule_contexts, own_rules, rule_contexts_in}
use Rattle.lmn_adequacy.specs.Embedding.{AtomImages, EmbedsAt, KeepsLinks, TakenRegion, TypedParts, image_and, no_image, no_part, no_part_of_atom, part_and, typed_later, Contents, LeftToContext, LeftToRuleContext, assignment_of, no_context, no_rule_context, one_context, one_rule_context, LevelLies, MembranesLie, level_lies, membrane_lies, no_membrane_lies, AllRules, EmbedsIn, HasEmbedding, embeds_below, embeds_here}
use Rattle.lmn_adequacy.specs.Loose.{LevelImages, MembraneImages, Plain, filling, level_images, membrane_image_and, no_membrane_image, EmbedsLoosely, EmbedsLooselyIn, HasLooseEmbedding, embeds_loosely_below, embeds_loosely_here}
use Rattle.lmn_adequacy.proofs.Embedding.{same_guard}
use Rattle.lmn_adequacy.proofs.Heads.{region_there, rule_there}
use Rattle.lmn_adequacy.proofs.Orders.{either, taken_put}
use Rattle.lmn_adequacy.proofs.Images.{no_link_rule_contexts}
use Rattle.lmn_adequacy.proofs.Lookups.{among_or_not, context_or_not, name_or_not, pick, pick_in, pick_out}
use Rattle.lmn_congruence.proofs.Reordered.{reordered_count}
use Rattle.lmn_congruence.proofs.TranslatedLinks.{no_link_in_rules}
use Rattle.lmn_adequacy.proofs.RegionPieces.{pieces_of, region_pieces}
use Rattle.lmn_adequacy.proofs.SameParts.{shuffle_among}
use Rattle.lmn_congruence.proofs.Common.{among_apart as among_append, among_left, among_right}

-- ---- what stands once

once_left : {A : Type 0} (xs ys : List A) → EachOnce (xs ++ ys) → EachOnce xs
once_left [] ys o = tt
once_left (x ∷ xs) ys o = ((λ k. o.0 (among_left ys k)), once_left xs ys o.1)

once_right : {A : Type 0} (xs ys : List A) → EachOnce (xs ++ ys) → EachOnce ys
once_right [] ys o = o
once_right (x ∷ xs) ys o = once_right xs ys o.1

once_apart : {A : Type 0} {x : A} (xs ys : List A) → EachOnce (xs ++ ys) → Among x xs → ¬ (Among x ys)
once_apart (x ∷ xs) ys o at_head = λ k. o.0 (among_right xs k)
once_apart (x ∷ xs) ys o (further i) = once_apart xs ys o.1 i
once_apart [] ys o i = elim i [ ]

-- ---- what is left of a membrane without contexts

no_rule_piece : (P : Process) (r : Rule) → NoRuleAtTop P → ¬ (Among (rule r) (pieces P))
no_rule_piece nothing r n k = elim k [ ]
no_rule_piece (connector x y) r n (further k) = elim k [ ]
no_rule_piece (atom a xs) r n (further k) = elim k [ ]
no_rule_piece (pair P Q) r n k = either (among_append (pieces P) (pieces Q) k) (no_rule_piece P r n.0) (no_rule_piece Q r n.1)
no_rule_piece (membrane P) r n (further k) = elim k [ ]
no_rule_piece (rule s) r n k = absurd n

module _ (t : Assignment) (plain : Plain t) where
  no_rule_contexts : (ps : List Context) → NoRuleAtTop (together (map t.context_of ps))
  no_rule_contexts [] = tt
  no_rule_contexts (p ∷ ps) = (plain.no_rule p, no_rule_contexts ps)

  only_rules : (rs : List Rule) {P : Process} → Among P (pieces (together (map rule rs))) → (r : Rule) × (P ≡ rule r)
  only_rules [] k = elim k [ ]
  only_rules (r ∷ rs) at_head = (r, refl)
  only_rules (r ∷ rs) (further k) = only_rules rs k

  only_rule_contexts : (qs : List Name) {P : Process} → Among P (pieces (together (rules_of_contexts t qs))) → (r : Rule) × (P ≡ rule r)
  only_rule_contexts [] k = elim k [ ]
  only_rule_contexts (q ∷ qs) k = either (among_append (pieces (together (map rule (t.rules_of q)))) (pieces (together (rules_of_contexts t qs))) k) (only_rules (t.rules_of q)) (only_rule_contexts qs)

  not_atom : {r : Rule} {P : Process} {a : Label} {xs : List ℕ} → P ≡ rule r → ¬ (SamePiece P (atom a xs))
  not_atom {r} {P} {a} {xs} e s = go (subst (λ w. SamePiece w (atom a xs)) e s)
    where
      go : SamePiece (rule r) (atom a xs) → ⊥
      go s = elim s [ ]

  not_membrane : {r : Rule} {P Q : Process} → P ≡ rule r → ¬ (SamePiece P (membrane Q))
  not_membrane {r} {P} {Q} e s = go (subst (λ w. SamePiece w (membrane Q)) e s)
    where
      go : SamePiece (rule r) (membrane Q) → ⊥
      go s = elim s [ ]

  nothing_but_rules : (qs : List Name) (xs : List SolidAtom) (ms : Regions) (rs : List Rule) → Reordered (filling t [] qs no_rule) (region_process (region xs ms rs)) → (xs ≡ []) × (ms ≡ no_region)
  nothing_but_rules qs xs ms rs d = go xs ms (subst (Shuffle SamePiece (pieces (filling t [] qs no_rule))) (region_pieces (region xs ms rs)) (reordered_pieces d))
    where
      from_rules : {P : Process} → Among P (pieces (filling t [] qs no_rule)) → (r : Rule) × (P ≡ rule r)
      from_rules k = either (among_append (pieces (together (rules_of_contexts t qs))) [] k) (only_rule_contexts qs) (λ i. elim i [ ])

      go : (xs : List SolidAtom) (ms : Regions) → Shuffle SamePiece (pieces (filling t [] qs no_rule)) (pieces_of (region xs ms rs)) → (xs ≡ []) × (ms ≡ no_region)
      go [] no_region s = (refl, refl)
      go (x ∷ xs) ms s = let u = shuffle_among (shuffle_flip s) at_head in let r = from_rules u.1 in absurd (not_atom r.1 u.2)
      go [] (region_and m ms) s = let u = shuffle_among (shuffle_flip s) at_head in let r = from_rules u.1 in absurd (not_membrane r.1 u.2)

  no_rules_left : (ps : List Context) (xs : List SolidAtom) (ms : Regions) (rs : List Rule) → Reordered (filling t ps [] no_rule) (region_process (region xs ms rs)) → rs ≡ []
  no_rules_left ps xs ms rs d = go rs (subst (Shuffle SamePiece (pieces (filling t ps [] no_rule))) (region_pieces (region xs ms rs)) (reordered_pieces d))
    where
      first_rule : (r : Rule) (rs : List Rule) → Among (rule r) (map rule (r ∷ rs))
      first_rule r rs = at_head

      same_rule_piece : {P : Process} {r : Rule} → SamePiece P (rule r) → rule r ≡ P
      same_rule_piece itself = refl

      go : (rs : List Rule) → Shuffle SamePiece (pieces (filling t ps [] no_rule)) (pieces_of (region xs ms rs)) → rs ≡ []
      go [] s = refl
      go (r ∷ rs) s =
          let u = shuffle_among (shuffle_flip s) (among_right (map atom_process xs) (among_right (regions_processes ms) (first_rule r rs))) in
          absurd (no_rule_piece (filling t ps [] no_rule) r (no_rule_contexts ps, (tt, tt)) (subst (λ w. Among w (pieces (filling t ps [] no_rule))) (sym (same_rule_piece u.2)) u.1))

-- ---- images with literal contents

-- an assignment whose contexts stand for these lists
abbrev pub contents_with : Assignment → (Context → List SolidAtom) → (Context → Regions) → (Name → List Rule) → Contents
contents_with t A M R = record { link_of = t.link_of; atoms_of = A; membranes_of = M; rules_of = R; typed_of = t.typed_of }

-- and read as an assignment again
abbrev pub read_as : Assignment → (Context → List SolidAtom) → (Context → Regions) → (Name → List Rule) → Assignment
read_as t A M R = assignment_of (contents_with t A M R)

module _ (t : Assignment) (plain : Plain t) where
  images_read : (A : Context → List SolidAtom) (M : Context → Regions) (R : Name → List Rule) {ls : List Leaf} {ns : List ℕ} {xs rest : List SolidAtom} → AtomImages t ls ns xs rest → AtomImages (read_as t A M R) ls ns xs rest
  images_read A M R no_image = no_image
  images_read A M R (image_and k i) = image_and k (images_read A M R i)
  images_read A M R (typed_later i) = typed_later (images_read A M R i)

  parts_read : (A : Context → List SolidAtom) (M : Context → Regions) (R : Name → List Rule) {ls : List Leaf} {xs rest : List SolidAtom} → TypedParts t ls xs rest → TypedParts (read_as t A M R) ls xs rest
  parts_read A M R no_part = no_part
  parts_read A M R (no_part_of_atom j) = no_part_of_atom (parts_read A M R j)
  parts_read A M R (part_and g i m j) = part_and g i m (parts_read A M R j)

  pub record LiteralLevel (l : Level) (ns : List ℕ) (m rest : Region) : Type 0 where
    pub atoms : Context → List SolidAtom
    pub membranes : Context → Regions
    pub rule_lists : Name → List Rule
    pub closed : (p : Name) → Closed (region_process (region (atoms (closed_context p)) (membranes (closed_context p)) []))
    pub holds : (A : Context → List SolidAtom) (M : Context → Regions) (R : Name → List Rule) → ((p : Context) → Among p (contexts_in (own_membranes l)) → (A p ≡ atoms p) × (M p ≡ membranes p))
        → ((q : Name) → Among q (rule_contexts_in (own_membranes l)) → R q ≡ rule_lists q) → LevelLies (contents_with t A M R) l ns m rest

  pub record LiteralLevels (ls : Levels) (ns : List ℕ) (ms rest : Regions) : Type 0 where
    pub atoms : Context → List SolidAtom
    pub membranes : Context → Regions
    pub rule_lists : Name → List Rule
    pub closed : (p : Name) → Closed (region_process (region (atoms (closed_context p)) (membranes (closed_context p)) []))
    pub holds : (A : Context → List SolidAtom) (M : Context → Regions) (R : Name → List Rule) → ((p : Context) → Among p (contexts_in ls) → (A p ≡ atoms p) × (M p ≡ membranes p))
        → ((q : Name) → Among q (rule_contexts_in ls) → R q ≡ rule_lists q) → MembranesLie (contents_with t A M R) ls ns ms rest

  left_context : (c : Contents) (ps : List Context) (xs : List SolidAtom) (ms : Regions) → AtMostOne ps → (ps ≡ [] → (xs ≡ []) × (ms ≡ no_region)) → ((p : Context) → Among p ps → (c.atoms_of p ≡ xs) × (c.membranes_of p ≡ ms)) → LeftToContext c ps xs ms
  left_context c [] xs ms a e h = let u = e refl in subst₂ (LeftToContext c []) (sym u.0) (sym u.1) no_context
  left_context c (p ∷ []) xs ms a e h = let u = h p at_head in subst₂ (LeftToContext c (p ∷ [])) u.0 u.1 one_context
  left_context c (p ∷ (q ∷ ps)) xs ms a e h = absurd a

  left_rule_context : (c : Contents) (qs : List Name) (rs : List Rule) → AtMostOne qs → (qs ≡ [] → rs ≡ []) → ((q : Name) → Among q qs → c.rules_of q ≡ rs) → LeftToRuleContext c qs rs
  left_rule_context c [] rs a e h = subst (LeftToRuleContext c []) (sym (e refl)) no_rule_context
  left_rule_context c (q ∷ []) rs a e h = subst (LeftToRuleContext c (q ∷ [])) (h q at_head) one_rule_context
  left_rule_context c (q ∷ (q' ∷ qs)) rs a e h = absurd a

  -- of two regions the one that is picked is closed where each of both is, if it is picked
  closed_pick : (p : Context) (ps : List Context) (xs : List SolidAtom) (us : Regions) (ys : List SolidAtom) (vs : Regions) → (Among p ps → Closed (region_process (region xs us []))) → (¬ (Among p ps) → Closed (region_process (region ys vs [])))
      → Closed (region_process (region (pick context_or_not p ps xs ys) (pick context_or_not p ps us vs) []))
  closed_pick p ps xs us ys vs h k = go (among_or_not context_or_not p ps)
    where
      go : Among p ps ⊎ (¬ (Among p ps)) → Closed (region_process (region (pick context_or_not p ps xs ys) (pick context_or_not p ps us vs) []))
      go (inl i) = subst₂ (λ a b. Closed (region_process (region a b []))) (sym (pick_in context_or_not p ps xs ys i)) (sym (pick_in context_or_not p ps us vs i)) (h i)
      go (inr n) = subst₂ (λ a b. Closed (region_process (region a b []))) (sym (pick_out context_or_not p ps xs ys n)) (sym (pick_out context_or_not p ps us vs n)) (k n)

  -- what is left to a closed context is closed
  left_closed : (p : Name) (ps : List Context) (qs : List Name) (xs : List SolidAtom) (us : Regions) (rs : List Rule) → AtMostOne ps → Among (closed_context p) ps → Reordered (filling t ps qs no_rule) (region_process (region xs us rs)) → Closed (region_process (region xs us []))
  left_closed p (q ∷ []) qs xs us rs a at_head d = λ z.
      subst (λ k. (k ≡ 0) ⊎ (k ≡ 2)) (omega (arith, reordered_count d z, no_link_rule_contexts t z qs, no_link_in_rules z rs)) (plain.closed p z)
  left_closed p (q ∷ []) qs xs us rs a (further k) d = elim k [ ]
  left_closed p (q ∷ (r ∷ ps)) qs xs us rs a i d = absurd a
  left_closed p [] qs xs us rs a i d = elim i [ ]

  membrane_literal : (leaves : List Leaf) (membranes ls : Levels) (ps : List Context) (qs : List Name) (n : ℕ) (ns os : List ℕ) (m : Region) (xs : List SolidAtom) (us : Regions) (rs : List Rule) (ms ms' ms'' : Regions)
      → TakenRegion n m ms ms' → LiteralLevel (level leaves membranes ps qs no_rule) ns m (region xs us rs) → KeepsLinks t (level leaves membranes ps qs no_rule) m → Reordered (filling t ps qs no_rule) (region_process (region xs us rs))
      → LiteralLevels ls os ms' ms'' → AtMostOne ps → AtMostOne qs → EachOnce ((ps ++ contexts_in membranes) ++ contexts_in ls) → EachOnce ((qs ++ rule_contexts_in membranes) ++ rule_contexts_in ls)
      → LiteralLevels (level_and (level leaves membranes ps qs no_rule) ls) (n ∷ (ns ++ os)) ms ms''
  membrane_literal leaves membranes ls ps qs n ns os m xs us rs ms ms' ms'' k u kl d v one_p one_q once once' =
      let P = ps ++ contexts_in membranes in
      let Q = qs ++ rule_contexts_in membranes in
      record {
        atoms = λ p. pick context_or_not p ps xs (pick context_or_not p (contexts_in membranes) (u.atoms p) (v.atoms p));
        membranes = λ p. pick context_or_not p ps us (pick context_or_not p (contexts_in membranes) (u.membranes p) (v.membranes p));
        rule_lists = λ q. pick name_or_not q qs rs (pick name_or_not q (rule_contexts_in membranes) (u.rule_lists q) (v.rule_lists q));
        closed = λ p. closed_pick (closed_context p) ps xs us (pick context_or_not (closed_context p) (contexts_in membranes) (u.atoms (closed_context p)) (v.atoms (closed_context p))) (pick context_or_not (closed_context p) (contexts_in membranes) (u.membranes (closed_context p)) (v.membranes (closed_context p)))
            (λ i. left_closed p ps qs xs us rs one_p i d)
            (λ n. closed_pick (closed_context p) (contexts_in membranes) (u.atoms (closed_context p)) (u.membranes (closed_context p)) (v.atoms (closed_context p)) (v.membranes (closed_context p)) (λ i. u.closed p) (λ m. v.closed p));
        holds = λ A M R h h'.
            let c = contents_with t A M R in
            let a = u.holds A M R
            (λ p i. let e = h p (among_left (contexts_in ls) (among_right ps i)) in let o = not_first ps (contexts_in membranes) (once_left P (contexts_in ls) once) i in
            (e.0 ∙ pick_out context_or_not p ps xs _ o ∙ pick_in context_or_not p (contexts_in membranes) (u.atoms p) (v.atoms p) i, e.1 ∙ pick_out context_or_not p ps us _ o ∙ pick_in context_or_not p (contexts_in membranes) (u.membranes p) (v.membranes p) i))
            (λ q i. let e = h' q (among_left (rule_contexts_in ls) (among_right qs i)) in let o = not_first qs (rule_contexts_in membranes) (once_left Q (rule_contexts_in ls) once') i in
            e ∙ pick_out name_or_not q qs rs _ o ∙ pick_in name_or_not q (rule_contexts_in membranes) (u.rule_lists q) (v.rule_lists q) i) in
            let b = v.holds A M R
            (λ p i. let e = h p (among_right P i) in let o = not_first P (contexts_in ls) once i in (
              e.0 ∙ pick_out context_or_not p ps xs _ (λ j. o (among_left (contexts_in membranes) j)) ∙ pick_out context_or_not p (contexts_in membranes) (u.atoms p) (v.atoms p) (λ j. o (among_right ps j)),
              e.1 ∙ pick_out context_or_not p ps us _ (λ j. o (among_left (contexts_in membranes) j)) ∙ pick_out context_or_not p (contexts_in membranes) (u.membranes p) (v.membranes p) (λ j. o (among_right ps j)),
            ))
            (λ q i. let e = h' q (among_right Q i) in let o = not_first Q (rule_contexts_in ls) once' i in
            e ∙ pick_out name_or_not q qs rs _ (λ j. o (among_left (rule_contexts_in membranes) j)) ∙ pick_out name_or_not q (rule_contexts_in membranes) (u.rule_lists q) (v.rule_lists q) (λ j. o (among_right qs j))) in
            let x : LeftToContext c ps xs us = left_context c ps xs us one_p
            (λ e. nothing_but_rules t plain qs xs us rs (subst (λ w. Reordered (filling t w qs no_rule) (region_process (region xs us rs))) e d))
            (λ p i. let e = h p (among_left (contexts_in ls) (among_left (contexts_in membranes) i)) in (e.0 ∙ pick_in context_or_not p ps xs _ i, e.1 ∙ pick_in context_or_not p ps us _ i)) in
            let y : LeftToRuleContext c qs rs = left_rule_context c qs rs one_q
            (λ e. no_rules_left t plain ps xs us rs (subst (λ w. Reordered (filling t ps w no_rule) (region_process (region xs us rs))) e d))
            (λ q i. h' q (among_left (rule_contexts_in ls) (among_left (rule_contexts_in membranes) i)) ∙ pick_in name_or_not q qs rs _ i) in
            membrane_lies k a (record { as_often = kl.as_often }) (x, y) b;
      }
    where
      not_first : {K : Type 0} {p : K} (ps qs : List K) → EachOnce (ps ++ qs) → Among p qs → ¬ (Among p ps)
      not_first ps qs o i = λ j. once_apart ps qs o j i

  membrane_step : (leaves : List Leaf) (membranes ls : Levels) (ps : List Context) (qs : List Name) (rules : Rules) (n : ℕ) (ns os : List ℕ) (m rest : Region) (ms ms' ms'' : Regions) → rules ≡ no_rule
      → TakenRegion n m ms ms' → LiteralLevel (level leaves membranes ps qs rules) ns m rest → KeepsLinks t (level leaves membranes ps qs rules) m → Reordered (filling t ps qs rules) (region_process rest)
      → LiteralLevels ls os ms' ms'' → AtMostOne ps → AtMostOne qs → EachOnce ((ps ++ contexts_in membranes) ++ contexts_in ls) → EachOnce ((qs ++ rule_contexts_in membranes) ++ rule_contexts_in ls)
      → LiteralLevels (level_and (level leaves membranes ps qs rules) ls) (n ∷ (ns ++ os)) ms ms''
  membrane_step leaves membranes ls ps qs rules n ns os m (region xs us rs) ms ms' ms'' e k u kl d v a b o o' =
      subst (λ w. LiteralLevels (level_and (level leaves membranes ps qs w) ls) (n ∷ (ns ++ os)) ms ms'') (sym e)
      (membrane_literal leaves membranes ls ps qs n ns os m xs us rs ms ms' ms'' k (subst (λ w. LiteralLevel (level leaves membranes ps qs w) ns m (region xs us rs)) e u) (subst (λ w. KeepsLinks t (level leaves membranes ps qs w) m) e kl)
      (subst (λ w. Reordered (filling t ps qs w) (region_process (region xs us rs))) e d) v a b o o')

  abbrev Few : Levels → Type 0
  Few ls = EachOf (λ l. AtMostOne (own_contexts l) × AtMostOne (own_rule_contexts l)) ls

  abbrev NoRules : Levels → Type 0
  NoRules ls = EachOf (λ l. own_rules l ≡ no_rule) ls

  mutual
    pub level_literal : {l : Level} {ns : List ℕ} {m rest : Region} → LevelImages t l ns m rest → Few (own_membranes l) → NoRules (own_membranes l) → EachOnce (contexts_in (own_membranes l)) → EachOnce (rule_contexts_in (own_membranes l)) → LiteralLevel l ns m rest
    level_literal (level_images i j k) few rules once once' =
        let u = membranes_literal k few rules once once' in
        record {
          atoms = u.atoms;
          membranes = u.membranes;
          rule_lists = u.rule_lists;
          closed = u.closed;
          holds = λ A M R h h'. level_lies (images_read A M R i) (parts_read A M R j) (u.holds A M R h h');
        }

    pub membranes_literal : {ls : Levels} {ns : List ℕ} {ms rest : Regions} → MembraneImages t ls ns ms rest → Few ls → NoRules ls → EachOnce (contexts_in ls) → EachOnce (rule_contexts_in ls) → LiteralLevels ls ns ms rest
    membranes_literal no_membrane_image few rules once once' = record { atoms = λ p. []; membranes = λ p. no_region; rule_lists = λ q. []; closed = λ p x. inl refl; holds = λ A M R h h'. no_membrane_lies }
    membranes_literal (membrane_image_and {leaves = leaves} {membranes = membranes} {ls = ls} {contexts = ps} {rule_contexts = qs} {rules = rules} {n = n} {ns = ns} {ns' = os} {m = m} {rest = rest} {ms = ms} {ms' = ms'} {ms'' = ms''} k i kl d v) few no_rules once once' =
        let P = ps ++ contexts_in membranes in
        let Q = qs ++ rule_contexts_in membranes in
        let u = level_literal i few.0.1 no_rules.0.1 (once_right ps (contexts_in membranes) (once_left P (contexts_in ls) once)) (once_right qs (rule_contexts_in membranes) (once_left Q (rule_contexts_in ls) once')) in
        let w = membranes_literal v few.1 no_rules.1 (once_right P (contexts_in ls) once) (once_right Q (rule_contexts_in ls) once') in
        membrane_step leaves membranes ls ps qs rules n ns os m rest ms ms' ms'' no_rules.0.0 k u kl d w few.0.0.0 few.0.0.1 once once'

inner_rules : (l : Level) → EachLevel (λ l. own_rules l ≡ no_rule) l → EachOf (λ l. own_rules l ≡ no_rule) (own_membranes l)
inner_rules (level leaves membranes contexts rule_contexts rules) e = e.1

inner_once : (l : Level) → EachOnce (all_contexts l) → EachOnce (all_rule_contexts l) → EachOnce (contexts_in (own_membranes l)) × EachOnce (rule_contexts_in (own_membranes l))
inner_once (level leaves membranes ps qs rules) o o' = (once_right ps (contexts_in membranes) o, once_right qs (rule_contexts_in membranes) o')

-- an accepted rule that embeds up to order embeds with contexts that stand for what is left to them, in its order
pub embeds_in_order : {r : Rule} {f : List ℕ} {m : Region} → Accepted r → EmbedsLoosely r f m → EmbedsAt r f m
embeds_in_order {r} {f} {m} a e =
    let t = e.assignment in
    let o = inner_once (head_of r) a.once.0 a.once.1 in
    let u = level_literal t e.plain e.images a.few (inner_rules (head_of r) a.no_rules) o.0 o.1 in
    let i = u.holds u.atoms u.membranes u.rule_lists (λ p k. (refl, refl)) (λ q k. refl) in
    let c = contents_with t u.atoms u.membranes u.rule_lists in
    record {
      contents = c;
      rest = e.rest;
      closed = u.closed;
      root_is_free = e.plain.root_is_free;
      lies = i;
      guard = same_guard t.link_of (assignment_of c).context_of u.rule_lists (typed_contexts (head_of r)) t e.guard;
    }

-- and where all rules of a region are accepted, so does each that embeds in it
pub embeds_in_its_order : {path : List ℕ} {k : ℕ} {f : List ℕ} {S : Region} → EmbedsLooselyIn path k f S → AllRules Accepted S → EmbedsIn path k f S
embeds_in_its_order (embeds_loosely_here k e) h = embeds_here k (embeds_in_order (rule_there Accepted h.0 (taken_put k)) e)
embeds_in_its_order (embeds_loosely_below k i) h = embeds_below k (embeds_in_its_order i (region_there Accepted h.1 k))

-- so where one embeds up to order, one embeds
pub has_embedding : (S : Region) → AllRules Accepted S → HasLooseEmbedding S → HasEmbedding S
has_embedding S h e = record { path = e.path; number = e.number; positions = e.positions; embeds = embeds_in_its_order e.embeds h }
