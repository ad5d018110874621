-- What lies in the lists of a heap, with all that is known of its membranes, keeps links and leaves what contexts stand for.
use Rattle.std.proofs.Common.{ℕ, ◌≡◌, ◌≢◌, ◌+◌, ◌≤◌, List, [], ◌∷◌, map, refl, sym, ap, subst, ◌∙◌, inl, inr, arith}
use Rattle.std.proofs.lemmas.Bool.{cases_eq}
use Rattle.lmn_store_heap.specs.Heap.{Heap, atoms_in, rules_in}
use Rattle.lmn_store_heap.specs.Sound.{Forest, bare, mem, flat, Valid}
use Rattle.lmn_solid_heads.specs.declared.items.HeadItem.{HeadItem}
use Rattle.lmn_solid_heads.specs.Embeddings.{Images}
use Rattle.lmn_congruence.specs.Links.{one_if_same}
use Rattle.lmn_congruence.specs.LinkedRules.{leaves_occurrences, level_occurrences, levels_occurrences}
use Rattle.lmn_congruence.specs.Process.{Closed, Process, nothing, pair, rule, together}
use Rattle.lmn_congruence.specs.Regions.{SolidAtom, Regions, region, no_region, region_process, regions_processes, atom_process}
use Rattle.lmn_congruence.specs.Rules.{Context, Level, Levels, Name, closed_context, Rule, Rules, no_rule, level, rules_list}
use Rattle.lmn_congruence.specs.UpToOrder.{Reordered, r_unit, r_chain, r_back, r_same, r_beside, r_regroup}
use Rattle.lmn_reduction.specs.Assignments.{Assignment}
use Rattle.lmn_reduction.specs.Instances.{rules_of_contexts}
use Rattle.lmn_congruence.proofs.Reordered.{r_right}
use Rattle.lmn_adequacy.specs.Accepted.{own_contexts, own_rule_contexts, own_rules}
use Rattle.lmn_adequacy.specs.Embedding.{KeepsLinks}
use Rattle.lmn_adequacy.specs.Loose.{filling}
use Rattle.lmn_adequacy.proofs.Orders.{r_both}
use Rattle.lmn_adequacy_heaps.specs.HeapRegions.{HeapReading, regions_at, region_at}
use Rattle.lmn_adequacy_heaps.proofs.Pieces.{atom_at}
use Rattle.lmn_adequacy_heaps.proofs.Counting.{weigh_same, times_at, tree_atoms, forest_atoms, in_region}
use Rattle.lmn_adequacy_heaps.proofs.Lying.{Lies, lies, LiesIn, lies_none, lies_and, Kept, rest_at, fills}
use Rattle.lmn_adequacy_heaps.proofs.Weighing.{heavy_taken, level_weighs, membranes_weigh, level_links, membranes_links, leaves_links, weigh_out, weigh_nothing, rest_weighs, rest_tops}
use Rattle.lmn_adequacy_heaps.proofs.PartsOut.{flattened, parts_both}
use Rattle.lmn_adequacy_heaps.proofs.Forests.{tops, tops_flat, find_in, none_of, some_of}
use Rattle.lmn_adequacy_heaps.proofs.Rests.{LeftApart, taken_or_left, tops_of}
use Rattle.lmn_congruence.specs.Orders.{Among}
use Rattle.lmn_reduction.specs.Parts.{Rooted}
use Rattle.lmn_adequacy_heaps.proofs.Laying.{Known, all_atoms, all_parts, all_membranes, total}
use Rattle.lmn_base.proofs.Lists.{weigh, weigh_append}
use Rattle.lmn_store_heap.proofs.Common.{nothing_in}
use Rattle.lmn_reduction.proofs.Derivations.{alone as r_alone}
use Rattle.lmn_base.specs.Lists.{In}

-- ---- contexts

-- the untyped context of a membrane, if it has one, stands for a process
abbrev pub ContextIs : Assignment → List Context → Process → Type 0
ContextIs t [] P = Unit {0}
ContextIs t (p ∷ []) P = t.context_of p ≡ P
ContextIs t (p ∷ (q ∷ ps)) P = ⊥

-- the rule context of a membrane, if it has one, stands for these rules
abbrev pub RulesAre : Assignment → List Name → List Rule → Type 0
RulesAre t [] rs = Unit {0}
RulesAre t (p ∷ []) rs = t.rules_of p ≡ rs
RulesAre t (p ∷ (q ∷ ps)) rs = ⊥

-- the contexts of a level stand for what is left in the image of its membrane
pub record Agrees (h : Heap) (r : HeapReading) (t : Assignment) (l : Level) (m : ℕ) (xs : List ℕ) (i i' : Forest) : Type 0 where
  pub contexts : ContextIs t (own_contexts l) (region_process (region (map (atom_at h r) xs) (regions_at h r i') []))
  pub rule_contexts : RulesAre t (own_rule_contexts l) (map r.rule (rules_in h m))
  pub no_rules : own_rules l ≡ no_rule

-- what is left to a closed context of a membrane is closed
abbrev pub Closes : Heap → HeapReading → Level → ℕ → List ℕ → Forest → Forest → Type 0
Closes h r l m xs i i' = (q : Name) → Among (closed_context q) (own_contexts l) → Closed (region_process (region (map (atom_at h r) xs) (regions_at h r i') []))

shift : (A B S : Process) → Reordered (pair (pair A (pair B nothing)) S) (pair A (pair B S))
shift A B S = r_chain (r_beside (r_right (r_back r_alone))) (r_back r_regroup)

filled : (t : Assignment) (cs : List Context) (rcs : List Name) (rs : Rules) (X : List SolidAtom) (M : Regions) (R : List Rule) → rs ≡ no_rule → (cs ≡ [] → (X ≡ []) × (M ≡ no_region)) → (rcs ≡ [] → R ≡ []) →
    ContextIs t cs (region_process (region X M [])) → RulesAre t rcs R → Reordered (filling t cs rcs rs) (region_process (region X M R))
filled t cs rcs rs X M R none empty bare_rules c u = r_chain (r_right (r_right (r_same (ap (λ z. together (map rule (rules_list z))) none)))) (by cs rcs X M R empty bare_rules c u)
  where
    rules_part : (rcs : List Name) (R : List Rule) → (rcs ≡ [] → R ≡ []) → RulesAre t rcs R → Reordered (pair (together (rules_of_contexts t rcs)) nothing) (together (map rule R))
    rules_part [] R bare_rules u = r_chain r_unit (r_same (ap (λ z. together (map rule z)) (sym (bare_rules refl))))
    rules_part (q ∷ []) R bare_rules u = r_chain (r_back r_alone) (r_chain (r_back r_alone) (r_same (ap (λ z. together (map rule z)) u)))
    rules_part (q ∷ (q' ∷ qs)) R bare_rules u = absurd u

    by : (cs : List Context) (rcs : List Name) (X : List SolidAtom) (M : Regions) (R : List Rule) → (cs ≡ [] → (X ≡ []) × (M ≡ no_region)) → (rcs ≡ [] → R ≡ []) →
        ContextIs t cs (region_process (region X M [])) → RulesAre t rcs R → Reordered (filling t cs rcs no_rule) (region_process (region X M R))
    by [] rcs X M R empty bare_rules c u =
        let e = empty refl in
        r_chain r_unit (r_chain (rules_part rcs R bare_rules u) (r_chain (r_back (r_chain r_unit r_unit)) (r_same (sym (λ j. region_process (region (e.0 j) (e.1 j) R))))))
    by (p ∷ []) rcs X M R empty bare_rules c u =
        let A = together (map atom_process X) in
        let B = together (regions_processes M) in
        r_chain (r_both (r_chain (r_back r_alone) (r_same c)) (rules_part rcs R bare_rules u)) (shift A B (together (map rule R)))
    by (p ∷ (q ∷ ps)) rcs X M R empty bare_rules c u = absurd c

-- ---- the elements of a list that weigh nothing

no_tops : (f : Forest) → ((b : ℕ) → In b (tops f) → ⊥) → f ≡ bare
no_tops bare h = refl
no_tops (mem m i f) h = absurd (h m (inl refl))

module _ (h : Heap) (r : HeapReading) (f : Images) (part_at : ℕ → List ℕ) (link_of' : ℕ → ℕ) (typed_of : Name → Rooted) (items : List HeadItem) where
  -- what stands elsewhere in the head, beside what is held in a forest: links, atoms and membranes
  pub record Elsewhere (links atoms membranes : ℕ → ℕ) (xs : List ℕ) (F : Forest) (bs : List ℕ) (ps : List (List ℕ)) (ms : List ℕ) : Type 0 where
    pub link_room : (x : ℕ) → (links x + weigh (times_at h r (link_of' x)) xs) + weigh (times_at h r (link_of' x)) (forest_atoms h F) ≤ 2
    pub atom_room : (b : ℕ) → (atoms b + weigh (one_if_same b) xs) + weigh (one_if_same b) (forest_atoms h F) ≤ 1
    pub membrane_room : (b : ℕ) → membranes b + weigh (one_if_same b) (flat F) ≤ 1
    pub all_atoms_are : (b : ℕ) → atoms b + (weigh (one_if_same b) bs + weigh (one_if_same b) (flattened ps)) ≡ weigh (one_if_same b) (all_atoms h r f part_at link_of' typed_of items) + weigh (one_if_same b) (all_parts h r f part_at link_of' typed_of items)
    pub all_membranes_are : (b : ℕ) → membranes b + weigh (one_if_same b) ms ≡ weigh (one_if_same b) (all_membranes h r f part_at link_of' typed_of items)

  in_some : (b : ℕ) (xs : List ℕ) → In b xs → 1 ≤ weigh (one_if_same b) xs
  in_some b xs p = omega (arith, weigh_same b xs, some_of b xs p)

  some_in : (b : ℕ) (xs : List ℕ) → 1 ≤ weigh (one_if_same b) xs → In b xs
  some_in b xs p = find_in b xs (omega (arith, weigh_same b xs, p))

  none_in : (b : ℕ) (xs : List ℕ) → ¬ (In b xs) → weigh (one_if_same b) xs ≡ 0
  none_in b xs n = weigh_same b xs ∙ none_of b xs n

  -- what is left in a membrane is apart from all images and parts, and nothing else is there
  pub left_apart : {Q : Level → ℕ → List ℕ → Forest → Forest → Type 0} (el ea em : ℕ → ℕ) {l : Level} {m : ℕ} {bs ms ns xs : List ℕ} {ps : List (List ℕ)} {i i' : Forest} →
      Lies h r link_of' typed_of Q l bs ps ms ns (atoms_in h m) xs i i' → Elsewhere el ea em (atoms_in h m) i bs ps ms → LeftApart h r f part_at link_of' typed_of items m xs i i'
  left_apart el ea em {l} {m} {bs} {ms} {ns} {xs} {ps} {i} {i'} d e = record {
    atoms = λ b p.
        let q = some_in b (atoms_in h m) (omega (arith, in_some b xs p, rest_weighs (one_if_same b) d)) in
        let heavy = level_weighs h (one_if_same b) (λ b. 0) d in
        let z1 = weigh_nothing ms in
        let z2 = weigh_nothing (flat i) in (
          q,
          (λ j. absurd (omega (arith, in_some b xs p, in_some b (all_atoms h r f part_at link_of' typed_of items) j, heavy, z1, z2, e.atom_room b, e.all_atoms_are b))),
          (λ j. absurd (omega (arith, in_some b xs p, in_some b (all_parts h r f part_at link_of' typed_of items) j, heavy, z1, z2, e.atom_room b, e.all_atoms_are b))),
        );
    membranes = λ c p. (
      rest_tops c d p,
      (λ j.
          let heavy = level_weighs h (λ b. 0) (one_if_same c) d in
          let z1 = weigh_nothing bs in
          let z2 = weigh_nothing (forest_atoms h i) in
          let z3 = weigh_nothing xs in
          let z4 = weigh_nothing (atoms_in h m) in
          let z5 = weigh_nothing (flattened ps) in
          absurd (omega (arith, in_some c (flat i') (tops_flat i' c p), in_some c (all_membranes h r f part_at link_of' typed_of items) j, heavy, z1, z2, z3, z4, z5, e.membrane_room c, e.all_membranes_are c))),
    );
    once = λ b.
        let heavy = level_weighs h (one_if_same b) (λ b. 0) d in
        let z1 = weigh_nothing ms in
        let z2 = weigh_nothing (flat i) in
        omega (arith, heavy, z1, z2, e.atom_room b, weigh_same b xs, weigh_same b (forest_atoms h i'));
    atoms_back = λ b p na np. elim (taken_or_left d b p) [
      | inl w ↦ w
      | inr w ↦ absurd (omega (arith, w, none_in b (all_atoms h r f part_at link_of' typed_of items) na, none_in b (all_parts h r f part_at link_of' typed_of items) np, e.all_atoms_are b))
    ];
    membranes_back = λ c p n. elim (tops_of d c p) [
      | inl w ↦ absurd (omega (arith, in_some c ms w, none_in c (all_membranes h r f part_at link_of' typed_of items) n, e.all_membranes_are c))
      | inr w ↦ w
    ];
  }

  -- What holds of each membrane in which a level of the head lies, where it follows from what is known of it and from what
  -- stands elsewhere.
  module _ (Q Q' : Level → ℕ → List ℕ → Forest → Forest → Type 0)
      (here : (el ea em : ℕ → ℕ) (l : Level) (m : ℕ) (bs : List ℕ) (ps : List (List ℕ)) (ms ns xs : List ℕ) (i i' : Forest) → Lies h r link_of' typed_of Q l bs ps ms ns (atoms_in h m) xs i i' → Q l m xs i i' →
      Elsewhere el ea em (atoms_in h m) i bs ps ms → ((x : ℕ) → el x + level_occurrences x l ≡ total h r f part_at link_of' typed_of items x) → Q' l m xs i i') where
    mutual
      -- so it is at every depth
      pub carry_level : (el ea em : ℕ → ℕ) {l : Level} {bs ms ns xs rest : List ℕ} {ps : List (List ℕ)} {F F' : Forest} → Lies h r link_of' typed_of Q l bs ps ms ns xs rest F F' →
          Elsewhere el ea em xs F bs ps ms → ((x : ℕ) → el x + level_occurrences x l ≡ total h r f part_at link_of' typed_of items x) → Lies h r link_of' typed_of Q' l bs ps ms ns xs rest F F'
      carry_level el ea em (lies {leaves = leaves} {membranes = membranes} {bs = bs} {as' = as'} {ms = ms} {xs = xs} {parts = parts} {ps = ps} {f = F} fit d e out k) room sum =
          lies fit d e out (carry_in (λ x. el x + leaves_occurrences x leaves) (λ b. ea b + (weigh (one_if_same b) bs + weigh (one_if_same b) (flattened parts))) em k (record {
            link_room = λ x. let u = room.link_room x in omega (arith, u, leaves_links h r x fit out, weigh_out (times_at h r (link_of' x)) bs xs d e out);
            atom_room = λ b. let u = room.atom_room b in omega (arith, u, weigh_out (one_if_same b) bs xs d e out);
            membrane_room = room.membrane_room;
            all_atoms_are = λ b. let u = room.all_atoms_are b in omega (arith, u, weigh_append (one_if_same b) bs as', parts_both (one_if_same b) parts ps);
            all_membranes_are = room.all_membranes_are;
          }) (λ x. let u = sum x in omega (arith, u)))

      carry_in : (el ea em : ℕ → ℕ) {ls : Levels} {bs ms ns : List ℕ} {ps : List (List ℕ)} {F F' : Forest} → LiesIn h r link_of' typed_of Q ls bs ps ms ns F F' →
          Elsewhere el ea em [] F bs ps ms → ((x : ℕ) → el x + levels_occurrences x ls ≡ total h r f part_at link_of' typed_of items x) → LiesIn h r link_of' typed_of Q' ls bs ps ms ns F F'
      carry_in el ea em lies_none room sum = lies_none
      carry_in el ea em (lies_and {l = l} {ls = ls} {m = m} {as' = as'} {ps = ps} {ms = ms} {ns = ns} {bs = bs} {qs = qs} {ks = ks} {xs = xs} {f = F} {f' = F'} {f'' = F''} {i = i} {i' = i'} k d q more) room sum =
          let within : Elsewhere (λ x. el x + levels_occurrences x ls) (λ b. ea b + (weigh (one_if_same b) bs + weigh (one_if_same b) (flattened qs))) (λ b. (em b + one_if_same b m) + weigh (one_if_same b) ks) (atoms_in h m) i as' ps ms = record {
            link_room = λ x.
                let u = room.link_room x in
                let w = heavy_taken h (times_at h r (link_of' x)) (λ b. 0) k in
                let y = membranes_weigh h (times_at h r (link_of' x)) (λ b. 0) more in
                omega (arith, u, w, y, membranes_links h r x more, weigh_nothing ms, weigh_nothing ks, weigh_nothing (flat F), weigh_nothing (flat F'), weigh_nothing (flat F''), weigh_nothing (flat i));
            atom_room = λ b.
                let u = room.atom_room b in
                let w = heavy_taken h (one_if_same b) (λ b. 0) k in
                let y = membranes_weigh h (one_if_same b) (λ b. 0) more in
                omega (arith, u, w, y, weigh_nothing ms, weigh_nothing ks, weigh_nothing (flat F), weigh_nothing (flat F'), weigh_nothing (flat F''), weigh_nothing (flat i));
            membrane_room = λ b.
                let u = room.membrane_room b in
                let w = heavy_taken h (λ b. 0) (one_if_same b) k in
                let y = membranes_weigh h (λ b. 0) (one_if_same b) more in
                omega (arith, u, w, y, weigh_nothing bs, weigh_nothing (flattened qs), weigh_nothing (forest_atoms h F), weigh_nothing (forest_atoms h F'), weigh_nothing (forest_atoms h F''), weigh_nothing (forest_atoms h i), weigh_nothing (atoms_in h m));
            all_atoms_are = λ b. let u = room.all_atoms_are b in omega (arith, u, weigh_append (one_if_same b) as' bs, parts_both (one_if_same b) ps qs);
            all_membranes_are = λ b. let u = room.all_membranes_are b in omega (arith, u, weigh_append (one_if_same b) ms ks);
          } in
          let there : Elsewhere (λ x. el x + level_occurrences x l) (λ b. ea b + (weigh (one_if_same b) as' + weigh (one_if_same b) (flattened ps))) (λ b. (em b + one_if_same b m) + weigh (one_if_same b) ms) [] F' bs qs ks = record {
            link_room = λ x.
                let u = room.link_room x in
                let w = heavy_taken h (times_at h r (link_of' x)) (λ b. 0) k in
                let y = level_weighs h (times_at h r (link_of' x)) (λ b. 0) d in
                omega (arith, u, w, y, level_links h r x d, weigh_nothing ms, weigh_nothing ks, weigh_nothing (flat F), weigh_nothing (flat F'), weigh_nothing (flat i), weigh_nothing (flat i'));
            atom_room = λ b.
                let u = room.atom_room b in
                let w = heavy_taken h (one_if_same b) (λ b. 0) k in
                let y = level_weighs h (one_if_same b) (λ b. 0) d in
                omega (arith, u, w, y, weigh_nothing ms, weigh_nothing ks, weigh_nothing (flat F), weigh_nothing (flat F'), weigh_nothing (flat i), weigh_nothing (flat i'));
            membrane_room = λ b.
                let u = room.membrane_room b in
                let w = heavy_taken h (λ b. 0) (one_if_same b) k in
                let y = level_weighs h (λ b. 0) (one_if_same b) d in
                omega (arith, u, w, y, weigh_nothing as', weigh_nothing (flattened ps), weigh_nothing xs, weigh_nothing (forest_atoms h F), weigh_nothing (forest_atoms h F'), weigh_nothing (forest_atoms h i), weigh_nothing (forest_atoms h i'), weigh_nothing (atoms_in h m));
            all_atoms_are = λ b. let u = room.all_atoms_are b in omega (arith, u, weigh_append (one_if_same b) as' bs, parts_both (one_if_same b) ps qs);
            all_membranes_are = λ b. let u = room.all_membranes_are b in omega (arith, u, weigh_append (one_if_same b) ms ks);
          } in
          lies_and k
          (carry_level (λ x. el x + levels_occurrences x ls) (λ b. ea b + (weigh (one_if_same b) bs + weigh (one_if_same b) (flattened qs))) (λ b. (em b + one_if_same b m) + weigh (one_if_same b) ks) d within (λ x. let u = sum x in omega (arith, u)))
          (here (λ x. el x + levels_occurrences x ls) (λ b. ea b + (weigh (one_if_same b) bs + weigh (one_if_same b) (flattened qs))) (λ b. (em b + one_if_same b m) + weigh (one_if_same b) ks) l m as' ps ms ns xs i i' d q within (λ x. let u = sum x in omega (arith, u)))
          (carry_in (λ x. el x + level_occurrences x l) (λ b. ea b + (weigh (one_if_same b) as' + weigh (one_if_same b) (flattened ps))) (λ b. (em b + one_if_same b m) + weigh (one_if_same b) ms) more there (λ x. let u = sum x in omega (arith, u)))

module _ (h : Heap) (v : Valid h) (r : HeapReading) (f : Images) (part_at : ℕ → List ℕ) (t : Assignment) (items : List HeadItem) (few : (x : ℕ) → total h r f part_at t.link_of t.typed_of items x ≤ 2) where
  abbrev Told : Level → ℕ → List ℕ → Forest → Forest → Type 0
  Told l m xs i i' = (Known h r f part_at t.link_of t.typed_of items l m xs i i' × Closes h r l m xs i i') × Agrees h r t l m xs i i'

  module _ (el ea em : ℕ → ℕ) (l : Level) (m : ℕ) (bs : List ℕ) (ps : List (List ℕ)) (ms ns xs : List ℕ) (i i' : Forest)
      (d : Lies h r t.link_of t.typed_of (λ l m xs i i'. (Known h r f part_at t.link_of t.typed_of items l m xs i i' × Closes h r l m xs i i') × Agrees h r t l m xs i i') l bs ps ms ns (atoms_in h m) xs i i')
      (told : (Known h r f part_at t.link_of t.typed_of items l m xs i i' × Closes h r l m xs i i') × Agrees h r t l m xs i i') (e : Elsewhere h r f part_at t.link_of t.typed_of items el ea em (atoms_in h m) i bs ps ms)
      (links : (x : ℕ) → el x + level_occurrences x l ≡ total h r f part_at t.link_of t.typed_of items x) where
    keeps : KeepsLinks t l (region_at h r m i)
    keeps = record { as_often = λ x some. in_region h r v (t.link_of x) m i ∙ often x some }
      where
        often : (x : ℕ) → level_occurrences x l ≢ 0 → weigh (times_at h r (t.link_of x)) (tree_atoms h m i) ≡ level_occurrences x l
        often x some =
            let w = weigh_append (times_at h r (t.link_of x)) (atoms_in h m) (forest_atoms h i) in
            let below = level_links h r x d in
            let heavy = level_weighs h (times_at h r (t.link_of x)) (λ b. 0) d in
            let z1 = weigh_nothing ms in
            let z2 = weigh_nothing (flat i) in
            let room = e.link_room x in
            let sum = links x in
            let two = few x in
            elim (cases_eq (total h r f part_at t.link_of t.typed_of items x) 1) [
              | inl one ↦ (let top = told.0.0.outside x one some in omega (arith, w, below, heavy, z1, z2, room, sum, two, one, top, some))
              | inr more ↦ omega (arith, w, below, heavy, z1, z2, room, sum, two, more, some)
            ]

    apart : LeftApart h r f part_at t.link_of t.typed_of items m xs i i'
    apart = left_apart h r f part_at t.link_of t.typed_of items el ea em d e

    empty_atoms : own_contexts l ≡ [] → xs ≡ []
    empty_atoms c = nothing_in xs (λ b p. let w = apart.atoms b p in elim ((told.0.0.alone c).0 b w.0) [ inl j ↦ w.1 j | inr j ↦ w.2 j ])

    empty_forest : own_contexts l ≡ [] → i' ≡ bare
    empty_forest c = no_tops i' (λ b p. let w = apart.membranes b p in w.1 ((told.0.0.alone c).1 b (subst (In b) told.0.0.grown w.0)))

    -- a membrane keeps links, and its contexts stand for what is left
    pub kept : Kept h r t l m xs i i'
    kept = (keeps, by l told.1 refl)
      where
        by : (k : Level) → Agrees h r t k m xs i i' → k ≡ l → Reordered (fills t l) (region_process (rest_at h r m xs i'))
        by (level leaves membranes cs rcs rs) a q =
            subst (λ k. Reordered (fills t k) (region_process (rest_at h r m xs i'))) q
            (filled t cs rcs rs (map (atom_at h r) xs) (regions_at h r i') (map r.rule (rules_in h m)) a.no_rules
            (λ c. let w = ap own_contexts (sym q) ∙ c in (ap (map (atom_at h r)) (empty_atoms w), ap (regions_at h r) (empty_forest w)))
            (λ c. ap (map r.rule) (told.0.0.no_rule (ap own_rule_contexts (sym q) ∙ c))) a.contexts a.rule_contexts)

  -- so it is at every depth
  pub keep_level : (el ea em : ℕ → ℕ) {l : Level} {bs ms ns xs rest : List ℕ} {ps : List (List ℕ)} {F F' : Forest} → Lies h r t.link_of t.typed_of Told l bs ps ms ns xs rest F F' →
      Elsewhere h r f part_at t.link_of t.typed_of items el ea em xs F bs ps ms → ((x : ℕ) → el x + level_occurrences x l ≡ total h r f part_at t.link_of t.typed_of items x) → Lies h r t.link_of t.typed_of (Kept h r t) l bs ps ms ns xs rest F F'
  keep_level = carry_level h r f part_at t.link_of t.typed_of items Told (Kept h r t) (λ el ea em l m bs ps ms ns xs i i' d told e links. kept el ea em l m bs ps ms ns xs i i' d told e links)
