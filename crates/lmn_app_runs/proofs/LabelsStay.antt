-- What holds of each atom of a solid, by its label and the number of its links, holds of those of the next solid, where it holds of
-- each atom in the body of a rule, and of an integer exactly where it is in range.
use Rattle.std.proofs.Common.{ℕ, zero, suc, ℤ, Bool, true, false, cond, ◌==◌, List, map, length, refl, sym, ap, subst, inl, inr, ◌≡◌, ◌⊎◌, [], ◌∷◌, ◌++◌, ◌∙◌}
use Rattle.std.proofs.lemmas.List.{length-map}
use Rattle.lmn_congruence.specs.LinkedRules.{level_occurrences}
use Rattle.lmn_congruence.specs.Orders.{Among, at_head, further}
use Rattle.lmn_congruence.specs.Plains.{fused_leaves, fused_level, fused_levels}
use Rattle.lmn_congruence.specs.Regions.{Region, Regions, SolidAtom, no_region, region, region_and}
use Rattle.lmn_congruence.specs.Rules.{Condition, Context, closed_context, Expression, Label, Leaf, Level, Levels, Name, Rule, atom_leaf, body_of, compares, connector_leaf, differs, equates, guard_of, head_of, integer, is_kind, level, level_and, no_level, number, operation, typed_leaf, unknown, value_of}
use Rattle.lmn_congruence.specs.Same.{renamed_atom, renamed_region, renamed_regions}
use Rattle.lmn_congruence.specs.Translation.{levels}
use Rattle.lmn_congruence.proofs.Shuffles.{shuffle_flip}
use Rattle.lmn_guards.specs.Values.{InRange, of_context, of_number, of_operation}
use Rattle.lmn_reduction.specs.Assignments.{Assignment}
use Rattle.lmn_reduction.specs.Firing.{typed_contexts, typed_contexts_in, typed_leaves}
use Rattle.lmn_reduction.specs.Guards.{GuardHolds, alike, binds, condition_and}
use Rattle.lmn_reduction.specs.Parts.{IsInteger, Rooted, an_integer, atoms_at_top}
use Rattle.lmn_reduction.specs.Values.{Value}
use Rattle.lmn_congruence.proofs.RenamedRegions.{region_of_copy}
use Rattle.lmn_adequacy.specs.Accepted.{Accepted, InTurn, UsedIn, all_asked, all_contexts, binding_in_turn, comparison_in_turn, contexts_in, difference_in_turn, equality_in_turn, here_used, kind_in_turn, left_sides, own_membranes}
use Rattle.lmn_adequacy.specs.Embedding.{AllRules, AtomImages, IsPart, Merged, Taken, TakenRegion, TypedParts, from_first, from_second, image_and, merged_none, no_image, no_part, no_part_of_atom, part_and, region_first, region_later, taken_first, taken_later, typed_later, Contents, LeftTo, LeftToContext, assignment_of, no_context, one_context, region_of}
use Rattle.lmn_adequacy.specs.Loose.{LevelImages, MembraneImages, level_images, membrane_image_and, no_membrane_image, EachLeft, EachLeftIn}
use Rattle.lmn_adequacy.specs.Next.{FiresInOrder, MadeLeaves, MadeLevel, MadeMembranes, NextAt, RawAt, fires_below, fires_here, kept_atoms, kept_level, kept_membranes, made_atom, part_leaves, made_connector, made_copy, made_level, made_membrane, no_made_leaf, no_made_membrane, raw_level, replaced, wire_leaves, MadeContext, MadeContexts, made_open, made_closed, no_made_context, made_context}
use Rattle.lmn_adequacy.proofs.Heads.{region_there, rule_there}
use Rattle.lmn_adequacy.proofs.InOrder.{each_left_of, level_images_of}
use Rattle.lmn_adequacy.proofs.OneNext.{names_split, of_the_head}
use Rattle.lmn_adequacy.proofs.Orders.{either, taken_put}
use Rattle.lmn_adequacy.proofs.SameParts.{shuffle_among}
use Rattle.lmn_congruence_splice.specs.Splice.{of_rule, of_solid}
use Rattle.lmn_congruence.proofs.Common.{among_apart as among_append, among_left, among_right}

-- each integer that is written in an expression, and in a condition, is in range
abbrev pub ExpressionInRange : Expression → Type 0
ExpressionInRange (number z) = InRange z
ExpressionInRange (value_of p) = Unit {0}
ExpressionInRange (operation o e f) = ExpressionInRange e × ExpressionInRange f

-- the integers that a guard binds are in range
abbrev pub GuardInRange : List Condition → Type 0
GuardInRange [] = Unit {0}
GuardInRange (is_kind k p ∷ cs) = GuardInRange cs
GuardInRange (compares c e f ∷ cs) = GuardInRange cs
GuardInRange (equates p e ∷ cs) = ExpressionInRange e × GuardInRange cs
GuardInRange (differs p q ∷ cs) = GuardInRange cs
GuardInRange (unknown n ps ∷ cs) = GuardInRange cs

module _ (H : Label → ℕ → Type 0) (makes : (z : ℤ) → InRange z → H (integer z) 1) (tells : (z : ℤ) → H (integer z) 1 → InRange z) where
  abbrev pub AtomGood : SolidAtom → Type 0
  AtomGood a = H a.label (length a.links)

  abbrev pub Atoms : List SolidAtom → Type 0
  Atoms xs = (a : SolidAtom) → Among a xs → AtomGood a

  abbrev mutual
    pub AllAtoms : Region → Type 0
    AllAtoms (region xs ms rs) = Atoms xs × AllAtomsIn ms

    pub AllAtomsIn : Regions → Type 0
    AllAtomsIn no_region = Unit {0}
    AllAtomsIn (region_and m ms) = AllAtoms m × AllAtomsIn ms

  abbrev pub LeafGood : Leaf → Type 0
  LeafGood (atom_leaf a xs) = H a (length xs)
  LeafGood (connector_leaf x y) = Unit {0}
  LeafGood (typed_leaf p x) = Unit {0}

  abbrev pub Leaves : List Leaf → Type 0
  Leaves ls = (l : Leaf) → Among l ls → LeafGood l

  abbrev mutual
    pub LevelGood : Level → Type 0
    LevelGood (level leaves membranes contexts rule_contexts rules) = Leaves leaves × LevelsGood membranes

    pub LevelsGood : Levels → Type 0
    LevelsGood no_level = Unit {0}
    LevelsGood (level_and l ls) = LevelGood l × LevelsGood ls

  -- a rule of which each firing keeps this
  abbrev pub RuleGood : Rule → Type 0
  RuleGood r = LevelGood (body_of r) × GuardInRange (guard_of r)

  abbrev ListGood : List Level → Type 0
  ListGood [] = Unit {0}
  ListGood (l ∷ ls) = LevelGood l × ListGood ls

  list_levels : (ls : List Level) → ListGood ls → LevelsGood (levels ls)
  list_levels [] h = tt
  list_levels (l ∷ ls) h = (h.0, list_levels ls h.1)

  list_append : (ls ms : List Level) → ListGood ls → ListGood ms → ListGood (ls ++ ms)
  list_append [] ms h k = k
  list_append (l ∷ ls) ms h k = (h.0, list_append ls ms h.1 k)

  leaves_append : (ls ms : List Leaf) → Leaves ls → Leaves ms → Leaves (ls ++ ms)
  leaves_append ls ms h k l i = either (among_append ls ms i) (h l) (k l)

  -- ---- raw levels

  kept_leaves : (xs : List SolidAtom) → Atoms xs → Leaves (kept_atoms xs)
  kept_leaves [] h l i = elim i [ ]
  kept_leaves (a ∷ xs) h l at_head = subst (H a.label) (sym (length-map a.links of_solid)) (h a at_head)
  kept_leaves (a ∷ xs) h l (further i) = kept_leaves xs (λ b k. h b (further k)) l i

  mutual
    kept_good : (m : Region) → AllAtoms m → LevelGood (kept_level m)
    kept_good (region xs ms rs) h = (kept_leaves xs h.0, list_levels (kept_membranes ms) (kept_list ms h.1))

    kept_list : (ms : Regions) → AllAtomsIn ms → ListGood (kept_membranes ms)
    kept_list no_region h = tt
    kept_list (region_and m ms) h = (kept_good m h.0, kept_list ms h.1)

  fused_atoms : (v : ℕ → ℕ) (ls : List Leaf) → Leaves ls → Atoms (fused_leaves v ls)
  fused_atoms v [] h a i = elim i [ ]
  fused_atoms v (atom_leaf l xs ∷ ls) h a at_head = subst (H l) (sym (length-map xs v)) (h (atom_leaf l xs) at_head)
  fused_atoms v (atom_leaf l xs ∷ ls) h a (further i) = fused_atoms v ls (λ b k. h b (further k)) a i
  fused_atoms v (connector_leaf x y ∷ ls) h a i = fused_atoms v ls (λ b k. h b (further k)) a i
  fused_atoms v (typed_leaf p x ∷ ls) h a i = fused_atoms v ls (λ b k. h b (further k)) a i

  mutual
    pub fused_good : (v : ℕ → ℕ) (l : Level) → LevelGood l → AllAtoms (fused_level v l)
    fused_good v (level leaves membranes contexts rule_contexts rules) h = (fused_atoms v leaves h.0, fused_list v membranes h.1)

    fused_list : (v : ℕ → ℕ) (ls : Levels) → LevelsGood ls → AllAtomsIn (fused_levels v ls)
    fused_list v no_level h = tt
    fused_list v (level_and l ls) h = (fused_good v l h.0, fused_list v ls h.1)

  -- ---- parts

  -- the atoms that a typed context stands for
  abbrev PartGood : Rooted → Type 0
  PartGood g = (a : Label × List ℕ) → Among a (atoms_at_top g.process) → H a.0 (length a.1)

  into_part : {g : Rooted} {x : ℕ} {part : List SolidAtom} → IsPart g x part → Atoms part → PartGood g
  into_part p h a i =
      let u = shuffle_among p.atoms i in
      let same : H a.0 (length (map p.to a.1)) = subst AtomGood (sym u.2) (h u.0 u.1) in
      subst (H a.0) (length-map a.1 p.to) same

  from_part : {g : Rooted} {x : ℕ} {part : List SolidAtom} → IsPart g x part → PartGood g → Atoms part
  from_part p h b i =
      let u = shuffle_among (shuffle_flip p.atoms) i in
      let a = u.0 in
      let same : H a.0 (length (map p.to a.1)) = subst (H a.0) (sym (length-map a.1 p.to)) (h a u.1) in
      subst AtomGood u.2 same

  integer_in_range : {z : ℤ} {g : Rooted} → IsInteger z g → PartGood g → InRange z
  integer_in_range {z} (an_integer {x = x}) h = tells z (h (integer z, x ∷ []) at_head)

  integer_good : {z : ℤ} {g : Rooted} → IsInteger z g → InRange z → PartGood g
  integer_good {z} (an_integer {x = x}) h a at_head = makes z h
  integer_good {z} (an_integer {x = x}) h a (further i) = elim i [ ]

  -- ---- guards

  module _ (t : Assignment) where
    abbrev Good : Name → Type 0
    Good p = PartGood (t.typed_of p)

    value_in_range : {e : Expression} {z : ℤ} → ExpressionInRange e → ((p : Name) → UsedIn p e → Good p) → Value t e z → InRange z
    value_in_range i h of_number = i
    value_in_range i h (of_context {p = p} k) = integer_in_range k (h p here_used)
    value_in_range i h (of_operation u v d r) = r

    -- what a guard binds is in range
    bound_good : (heads : List Name) {bound : List Name} {cs : List Condition} → InTurn heads bound cs → GuardHolds heads t cs → GuardInRange cs →
        ((q : Name) → Among q heads ⊎ Among q bound → Good q) → (q : Name) → Among q (left_sides cs) → Good q
    bound_good heads all_asked g i h q k = elim k [ ]
    bound_good heads (kind_in_turn a u) (condition_and c g) i h q k = bound_good heads u g i h q k
    bound_good heads (comparison_in_turn a u) (condition_and c g) i h q k = bound_good heads u g i h q k
    bound_good heads (difference_in_turn a b u) (condition_and c g) i h q k = bound_good heads u g i h q k
    bound_good heads (equality_in_turn {p = p} a b u) (condition_and c g) i h q at_head = h p (inl a)
    bound_good heads (equality_in_turn a b u) (condition_and c g) i h q (further k) = bound_good heads u g i.1 h q k
    bound_good heads (binding_in_turn n n' used u) (condition_and (alike a b x y z) g) i h q k = absurd (n a)
    bound_good heads (binding_in_turn {p = p} n n' used u) (condition_and (binds a v w) g) i h q k =
        let good : Good p = integer_good w (value_in_range i.0 (λ z l. h z (used z l)) v) in
        let more : (z : Name) → Among z heads ⊎ Among z (p ∷ _) → Good z = λ z l. either l (λ b. h z (inl b)) (λ b. either (first_or p z b) (λ e. subst Good e good) (λ b'. h z (inr b'))) in
        either (first_or p q k) (λ e. subst Good e good) (λ k'. bound_good heads u g i.1 more q k')
      where
        first_or : (p q : Name) {ps : List Name} → Among q (p ∷ ps) → (p ≡ q) ⊎ Among q ps
        first_or p q at_head = inl refl
        first_or p q (further k) = inr k

  -- ---- embeddings

  taken_atoms : {n : ℕ} {a : SolidAtom} {xs ys : List SolidAtom} → Taken n a xs ys → Atoms xs → Atoms ys
  taken_atoms taken_first h b k = h b (further k)
  taken_atoms (taken_later t) h b at_head = h b at_head
  taken_atoms (taken_later t) h b (further k) = taken_atoms t (λ c i. h c (further i)) b k

  taken_regions : {n : ℕ} {m : Region} {ms ms' : Regions} → TakenRegion n m ms ms' → AllAtomsIn ms → AllAtoms m × AllAtomsIn ms'
  taken_regions region_first h = h
  taken_regions (region_later k) h = let u = taken_regions k h.1 in (u.0, (h.0, u.1))

  images_atoms : {t : Assignment} {ls : List Leaf} {ns : List ℕ} {xs rest : List SolidAtom} → AtomImages t ls ns xs rest → Atoms xs → Atoms rest
  images_atoms no_image h = h
  images_atoms (image_and k i) h = images_atoms i (taken_atoms k h)
  images_atoms (typed_later i) h = images_atoms i h

  merged_first : {ps qs xs : List SolidAtom} → Merged ps qs xs → Atoms xs → Atoms ps
  merged_first merged_none h a i = elim i [ ]
  merged_first (from_first m) h a at_head = h a at_head
  merged_first (from_first m) h a (further i) = merged_first m (λ b k. h b (further k)) a i
  merged_first (from_second m) h a i = merged_first m (λ b k. h b (further k)) a i

  merged_second : {ps qs xs : List SolidAtom} → Merged ps qs xs → Atoms xs → Atoms qs
  merged_second merged_none h a i = elim i [ ]
  merged_second (from_first m) h a i = merged_second m (λ b k. h b (further k)) a i
  merged_second (from_second m) h a at_head = h a at_head
  merged_second (from_second m) h a (further i) = merged_second m (λ b k. h b (further k)) a i

  abbrev TypedGood : Assignment → List Name → Type 0
  TypedGood t ps = (p : Name) → Among p ps → PartGood (t.typed_of p)

  parts_good : {t : Assignment} {ls : List Leaf} {xs rest : List SolidAtom} → TypedParts t ls xs rest → Atoms xs → Atoms rest × TypedGood t (typed_leaves ls)
  parts_good no_part h = (h, (λ p i. elim i [ ]))
  parts_good (no_part_of_atom k) h = parts_good k h
  parts_good {t} (part_and {p = p} g i m k) h =
      let u = parts_good k (merged_second m h) in
      (u.0, (λ q j. first_too q j (into_part i (merged_first m h)) u.1))
    where
      first_too : {ps : List Name} (q : Name) → Among q (p ∷ ps) → PartGood (t.typed_of p) → TypedGood t ps → PartGood (t.typed_of q)
      first_too q at_head f k = f
      first_too q (further j) f k = k q j

  abbrev ContextGood : Contents → List Context → Type 0
  ContextGood c ps = (p : Context) → Among p ps → Atoms (c.atoms_of p) × AllAtomsIn (c.membranes_of p)

  left_good : (c : Contents) (ps : List Context) (qs : List Name) (m : Region) → LeftTo c ps qs m → AllAtoms m → ContextGood c ps
  left_good c ps qs (region xs ms rs) u h p k = of_context u.0 k h
    where
      of_context : {c : Contents} {ps : List Context} {xs : List SolidAtom} {ms : Regions} {p : Context} → LeftToContext c ps xs ms → Among p ps → Atoms xs × AllAtomsIn ms → Atoms (c.atoms_of p) × AllAtomsIn (c.membranes_of p)
      of_context no_context k h = elim k [ ]
      of_context one_context at_head h = h
      of_context one_context (further k) h = elim k [ ]

  both_contexts : (c : Contents) (ps qs : List Context) → ContextGood c ps → ContextGood c qs → ContextGood c (ps ++ qs)
  both_contexts c ps qs h k p i = either (among_append ps qs i) (h p) (k p)

  both_typed : (t : Assignment) (ps qs : List Name) → TypedGood t ps → TypedGood t qs → TypedGood t (ps ++ qs)
  both_typed t ps qs h k p i = either (among_append ps qs i) (h p) (k p)

  -- What is left, what contexts of head membranes stand for, and what typed contexts stand for.
  record LeavesGood (c : Contents) (t : Assignment) (l : Level) (rest : Region) : Type 0 where
    pub left : AllAtoms rest
    pub contexts : ContextGood c (contexts_in (own_membranes l))
    pub typed : TypedGood t (typed_contexts l)

  record LeavesGoodIn (c : Contents) (t : Assignment) (ls : Levels) (rest : Regions) : Type 0 where
    pub left : AllAtomsIn rest
    pub contexts : ContextGood c (contexts_in ls)
    pub typed : TypedGood t (typed_contexts_in ls)

  mutual
    images_good : (c : Contents) {t : Assignment} {l : Level} {ns : List ℕ} {m rest : Region} (i : LevelImages t l ns m rest) → EachLeft c i → AllAtoms m → LeavesGood c t l rest
    images_good c {t = t} (level_images {leaves = leaves} {membranes = membranes} i j k) e h =
        let u = parts_good j (images_atoms i h.0) in
        let v = membranes_good c k e h.1 in
        record { left = (u.0, v.left); contexts = v.contexts; typed = both_typed t (typed_leaves leaves) (typed_contexts_in membranes) u.1 v.typed }

    membranes_good : (c : Contents) {t : Assignment} {ls : Levels} {ns : List ℕ} {ms rest : Regions} (i : MembraneImages t ls ns ms rest) → EachLeftIn c i → AllAtomsIn ms → LeavesGoodIn c t ls rest
    membranes_good c no_membrane_image e h = record { left = h; contexts = λ p k. elim k [ ]; typed = λ p k. elim k [ ] }
    membranes_good c {t = t} (membrane_image_and {leaves = leaves} {membranes = membranes} {ls = ls} {contexts = ps} {rule_contexts = qs} {rest = rest} k i a b q) e h =
        let u = taken_regions k h in
        let v = images_good c i e.1 u.0 in
        let w = membranes_good c q e.2 u.1 in
        record {
          left = w.left;
          contexts = both_contexts c (ps ++ contexts_in membranes) (contexts_in ls) (both_contexts c ps (contexts_in membranes) (left_good c ps qs rest e.0 v.left) v.contexts) w.contexts;
          typed = both_typed t (typed_leaves leaves ++ typed_contexts_in membranes) (typed_contexts_in ls) v.typed w.typed;
        }

  -- ---- bodies

  made_part : (xs : List SolidAtom) → Atoms xs → Leaves (part_leaves xs)
  made_part [] h l i = elim i [ ]
  made_part (a ∷ xs) h l at_head = h a at_head
  made_part (a ∷ xs) h l (further i) = made_part xs (λ b k. h b (further k)) l i

  made_leaves : (c : Contents) {ls outs : List Leaf} → MadeLeaves c ls outs → Leaves ls → TypedGood (assignment_of c) (typed_leaves ls) → Leaves outs
  made_leaves c no_made_leaf h k l i = elim i [ ]
  made_leaves c (made_atom {a = a} {xs = xs} m) h k l at_head = subst (H a) (sym (length-map xs of_rule)) (h (atom_leaf a xs) at_head)
  made_leaves c (made_atom m) h k l (further i) = made_leaves c m (λ b j. h b (further j)) k l i
  made_leaves c (made_connector m) h k l at_head = tt
  made_leaves c (made_connector m) h k l (further i) = made_leaves c m (λ b j. h b (further j)) k l i
  made_leaves c (made_copy {p = p} {part = part} {outs = outs} u d m) h k l i =
      leaves_append (part_leaves part) outs (made_part part (from_part u (k p at_head))) (made_leaves c m (λ b j. h b (further j)) (λ q j. k q (further j))) l i

  -- copies are as good as what is copied

  renamed_atoms : (f : ℕ → ℕ) (xs : List SolidAtom) → Atoms xs → Atoms (map (renamed_atom f) xs)
  renamed_atoms f [] h a i = elim i [ ]
  renamed_atoms f (b ∷ xs) h a at_head = subst (H b.label) (sym (length-map b.links f)) (h b at_head)
  renamed_atoms f (b ∷ xs) h a (further i) = renamed_atoms f xs (λ d k. h d (further k)) a i

  mutual
    renamed_good : (f : ℕ → ℕ) (m : Region) → AllAtoms m → AllAtoms (renamed_region f m)
    renamed_good f (region xs ms rs) h = (renamed_atoms f xs h.0, renamed_list f ms h.1)

    renamed_list : (f : ℕ → ℕ) (ms : Regions) → AllAtomsIn ms → AllAtomsIn (renamed_regions f ms)
    renamed_list f no_region h = tt
    renamed_list f (region_and m ms) h = (renamed_good f m h.0, renamed_list f ms h.1)

  one_made : (c : Contents) {p : Context} {m : Region} → MadeContext c p m → AllAtoms (region_of c p) → AllAtoms m
  one_made c made_open h = h
  one_made c (made_closed {p = p} {m = m} copy) h =
      let r = region_of_copy (region_of c (closed_context p)) m copy in
      subst AllAtoms (sym r.is) (renamed_good r.to (region_of c (closed_context p)) h)

  made_contexts : (c : Contents) {ps : List Context} {xs : List SolidAtom} {ks : List Level} → MadeContexts c ps xs ks → ContextGood c ps → Atoms xs × ListGood ks
  made_contexts c no_made_context h = ((λ a i. elim i [ ]), tt)
  made_contexts c (made_context {p = p} {xs = xs} {ys = ys} {ms = ms} {ks = ks} u v) h =
      let one = one_made c u (h p at_head) in
      let more = made_contexts c v (λ q k. h q (further k)) in
      ((λ a i. either (among_append xs ys i) (one.0 a) (more.0 a)), list_append (kept_membranes ms) ks (kept_list ms one.1) more.1)

  mutual
    made_good : (c : Contents) {l : Level} {outs : List Leaf} {ms : List Level} {rs : List Rule} → MadeLevel c l outs ms rs → LevelGood l → ContextGood c (all_contexts l) → TypedGood (assignment_of c) (typed_contexts l) → Leaves outs × ListGood ms
    made_good c (made_level {leaves = leaves} {outs = outs} {membranes = membranes} {made = ms} {ks = ks} {contexts = ps} {xs = xs} u v w) h k t =
        let q = made_contexts c w (λ p i. k p (among_left (contexts_in membranes) i)) in (
          leaves_append outs (kept_atoms xs) (made_leaves c u h.0 (λ p i. t p (among_left (typed_contexts_in membranes) i))) (kept_leaves xs q.0),
          list_append ms ks (made_list c v h.1 (λ p i. k p (among_right ps i)) (λ p i. t p (among_right (typed_leaves leaves) i))) q.1,
        )

    made_list : (c : Contents) {ls : Levels} {ms : List Level} → MadeMembranes c ls ms → LevelsGood ls → ContextGood c (contexts_in ls) → TypedGood (assignment_of c) (typed_contexts_in ls) → ListGood ms
    made_list c no_made_membrane h k t = tt
    made_list c (made_membrane {l = l} {ls = ls} {inner = inner} u v) h k t =
        let w = made_good c u h.0 (λ p i. k p (among_left (contexts_in ls) i)) (λ p i. t p (among_left (typed_contexts_in ls) i)) in
        ((w.0, list_levels inner w.1), made_list c v h.1 (λ p i. k p (among_right (all_contexts l) i)) (λ p i. t p (among_right (typed_contexts l) i)))

  -- ---- firing

  one_wire : (x y : ℕ) (ls : List Leaf) (b : Bool) → Leaves ls → Leaves (cond b (connector_leaf x y ∷ ls) ls)
  one_wire x y ls true h k at_head = tt
  one_wire x y ls true h k (further i) = h k i
  one_wire x y ls false h k i = h k i

  wires_good : (f : ℕ → ℕ) (l : Level) (n : ℕ) → Leaves (wire_leaves f l n)
  wires_good f l zero k i = elim i [ ]
  wires_good f l (suc n) k i = one_wire (of_rule n) (of_solid (f n)) (wire_leaves f l n) (level_occurrences n l == 1) (wires_good f l n) k i

  raw_good : (m : Region) (W outs : List Leaf) (ms : List Level) (rs : List Rule) → AllAtoms m → Leaves W → Leaves outs → ListGood ms → LevelGood (raw_level m W outs ms rs)
  raw_good (region xs us ts) W outs ms rs h w o k = (
    leaves_append (kept_atoms xs) (W ++ outs) (kept_leaves xs h.0) (leaves_append W outs w o),
    list_levels (kept_membranes us ++ ms) (list_append (kept_membranes us) ms (kept_list us h.1) k),
  )

  fires_good : {r : Rule} {f : List ℕ} {m : Region} {L : Level} → Accepted r → RuleGood r → FiresInOrder r f m L → AllAtoms m → LevelGood L
  fires_good {r} a g F h =
      let e = F.at in
      let c = e.contents in
      let t = assignment_of c in
      let u = images_good c (level_images_of e.lies) (each_left_of e.lies) h in
      let n = names_split (head_of r) in
      let contexts : ContextGood c (all_contexts (body_of r)) =
      λ p i. u.contexts p (subst (Among p) (n.0 ∙ ap (λ w. w ++ contexts_in (own_membranes (head_of r))) a.top_contexts) (of_the_head a p i))
      in
      let bound = bound_good t (typed_contexts (head_of r)) a.in_turn e.guard g.1 (λ q l. either l (u.typed q) (λ i. elim i [ ])) in
      let typed : TypedGood t (typed_contexts (body_of r)) = λ p i. either (a.known p i) (u.typed p) (bound p) in
      let v = made_good c F.makes g.0 contexts typed in
      subst LevelGood (sym F.is) (raw_good e.rest (wire_leaves c.link_of (head_of r) F.bound) F.outs F.made_membranes F.made_rules u.left (wires_good c.link_of (head_of r) F.bound) v.0 v.1)

  replaced_good : (n : ℕ) (L : Level) (ks : List Level) → LevelGood L → ListGood ks → ListGood (replaced n L ks)
  replaced_good n L [] h k = tt
  replaced_good zero L (l ∷ ks) h k = (h, k.1)
  replaced_good (suc n) L (l ∷ ks) h k = (k.0, replaced_good n L ks h k.1)

  region_at : {n : ℕ} {m : Region} {ms ms' : Regions} → TakenRegion n m ms ms' → AllAtomsIn ms → AllAtoms m
  region_at k h = (taken_regions k h).0

  fired_good : {path : List ℕ} {k : ℕ} {f : List ℕ} {S : Region} {L : Level} → RawAt path k f S L → AllRules Accepted S → AllRules RuleGood S → AllAtoms S → LevelGood L
  fired_good (fires_here k F) a g h = fires_good (rule_there Accepted a.0 (taken_put k)) (rule_there RuleGood g.0 (taken_put k)) F h
  fired_good (fires_below {n = n} {xs = xs} {ms = ms} {rs = rs} {L = L} k R) a g h = (
    kept_leaves xs h.0,
    list_levels (replaced n L (kept_membranes ms))
        (replaced_good n L (kept_membranes ms) (fired_good R (region_there Accepted a.1 k) (region_there RuleGood g.1 k) (region_at k h.1)) (kept_list ms h.1)),
  )

  -- The atoms of the next solid are as those of the solid.
  pub next_atoms : {path : List ℕ} {k : ℕ} {f : List ℕ} {S S' : Region} → NextAt path k f S S' → AllRules Accepted S → AllRules RuleGood S → AllAtoms S → AllAtoms S'
  next_atoms n a g h = subst AllAtoms (sym n.fuses.is) (fused_good n.fuses.to n.raw (fired_good n.fires a g h))
