-- What the levels of a body make is what the calculus says.
use Rattle.std.proofs.Common.{ℕ, ◌≡◌, ◌≢◌, ◌+◌, ◌-◌, ◌<◌, ◌≤◌, Bool, true, false, List, [], ◌∷◌, ◌++◌, map, refl, sym, ap, subst, ◌∙◌, arith}
use Rattle.std.specs.List.{AllByRecursion, flat_map}
use Rattle.std.proofs.lemmas.List.{append_assoc}
use Rattle.lmn_base.proofs.Lists.{all_left, all_right, map_append, map_twice, plus_nothing}
use Rattle.lmn_base.specs.Levels.{contexts_of, leaves_of, rule_contexts_of}
use Rattle.lmn_base.specs.declared.level.CtxUse.{CtxUse}
use Rattle.lmn_base.specs.declared.level.Leaf.{Leaf}
use Rattle.lmn_base.specs.declared.level.Level.{Level}
use Rattle.lmn_base.specs.declared.level.Level.TheFolds.{fold-roll-Level, ind-Level}
use Rattle.lmn_congruence.specs.Plains.{fused_leaves}
use Rattle.lmn_congruence.specs.Regions as solid
use Rattle.lmn_congruence.specs.Regions.{Region, Regions, no_region, region, region_and, region_process}
use Rattle.lmn_congruence.specs.Rules as tree
use Rattle.lmn_congruence.specs.Rules.{Name, closed_context, open_context}
use Rattle.lmn_congruence.specs.Same.{renamed_atom, renamed_region, renamed_regions}
use Rattle.lmn_congruence.specs.Translation.{context_tree, context_with, leaf_of, level_of, level_step as tree_step, levels, name_of, names_of, rules as listed_rules}
use Rattle.lmn_congruence.proofs.Common.{rules_listed}
use Rattle.lmn_adequacy.specs.Embedding.{Contents, region_of}
use Rattle.lmn_adequacy.specs.Next.{context_rules, kept_atoms, kept_level, kept_membranes}
use Rattle.lmn_congruence.specs.Process.{occurrences}
use Rattle.lmn_solid_bodies.specs.Flattening.{membrane_named}
use Rattle.lmn_store_heap.specs.Heap.{atoms_in, rules_in}
use Rattle.lmn_store_heap.specs.Sound.{Forest}
use Rattle.lmn_adequacy_heaps.specs.HeapRegions.{HeapReading, atoms_at, regions_at}
use Rattle.lmn_congruence_splice.specs.Splice.{of_solid}
use Rattle.lmn_solid_tables.specs.Flats.{heap_of, link_at}
use Rattle.lmn_solid_tables.specs.declared.flat.Flat.{Flat}
use Rattle.lmn_solid_firing.specs.declared.match_.Match.{Match}
use Rattle.lmn_solid_firing.specs.declared.writing.Writing.TheVariants.{Shifted}
use Rattle.lmn_solid_firing.specs.Making.{LevelMade, after_membranes, context_atoms, context_membranes, context_next, context_writing, contexts_next, left_of, leaves_atoms, leaves_next, level_made, level_pairs, level_step, made_membranes, pairs_of, raws_append, raws_at, rules_named, written_atoms}
use Rattle.lmn_solid_firing.specs.Meant.{BodyFits, ContextFits, LeafFits, RuleContextFits}
use Rattle.lmn_solid_firing.specs.Spelled.{leaf_connectors, level_connectors, levels_connectors, mapped_pair}
use Rattle.lmn_solid_firing.proofs.MadeLeaves.{connectors_both, leaves_grow, leaves_spelt}
use Rattle.lmn_solid_firing.proofs.NumberLemmas.{of_copy, of_kept, raw_link}
use Rattle.lmn_solid_firing.proofs.LinksUnder.{region_under}
use Rattle.lmn_solid_firing.proofs.Ranges.{RangedContexts, RangedLevel, RangedMembranes, ranged_closed, ranged_level, ranged_membrane, ranged_no_context, ranged_no_membrane, ranged_open}
use Rattle.lmn_solid_firing.proofs.Reading.{Spelt, atoms_read, forest_read, kept_fused, kept_spelt, leaves_fused, level_spelt, read_atom, spelt_both}

-- ---- what stays has no connector

pub levels_connectors_both : (ks ls : List tree.Level) → levels_connectors (levels (ks ++ ls)) ≡ levels_connectors (levels ks) ++ levels_connectors (levels ls)
levels_connectors_both [] ls = refl
levels_connectors_both (tree.level xs ms cs rcs rs ∷ ks) ls =
    ap (λ z. level_connectors (tree.level xs ms cs rcs rs) ++ z) (levels_connectors_both ks ls)
    ∙ sym (append_assoc (level_connectors (tree.level xs ms cs rcs rs)) (levels_connectors (levels ks)) (levels_connectors (levels ls)))

pub kept_leaves : (xs : List solid.SolidAtom) → leaf_connectors (kept_atoms xs) ≡ []
kept_leaves [] = refl
kept_leaves (x ∷ xs) = kept_leaves xs

mutual
  pub kept_none : (S : Regions) → levels_connectors (levels (kept_membranes S)) ≡ []
  kept_none no_region = refl
  kept_none (region_and s S) = λ i. kept_one s i ++ kept_none S i

  pub kept_one : (s : Region) → level_connectors (kept_level s) ≡ []
  kept_one (region xs ms rs) = λ i. kept_leaves xs i ++ kept_none ms i

-- ---- links renamed twice

atoms_twice : (f g : ℕ → ℕ) (xs : List solid.SolidAtom) → map (renamed_atom f) (map (renamed_atom g) xs) ≡ map (renamed_atom (λ z. f (g z))) xs
atoms_twice f g [] = refl
atoms_twice f g (x ∷ xs) = λ i. record { label = x.label; links = map_twice f g x.links i } ∷ atoms_twice f g xs i

mutual
  regions_twice : (f g : ℕ → ℕ) (S : Regions) → renamed_regions f (renamed_regions g S) ≡ renamed_regions (λ z. f (g z)) S
  regions_twice f g no_region = refl
  regions_twice f g (region_and s S) = λ i. region_and (region_twice f g s i) (regions_twice f g S i)

  region_twice : (f g : ℕ → ℕ) (s : Region) → renamed_region f (renamed_region g s) ≡ renamed_region (λ z. f (g z)) s
  region_twice f g (region xs ms rs) = λ i. region (atoms_twice f g xs i) (regions_twice f g ms i) rs

module _ (flat : Flat) (t : Match) (names : List Name) (rule : ℕ → tree.Rule) (R : ℕ) (c : Contents) (below : (a i : ℕ) → link_at flat a i < t.links) (left : ℕ → Forest) where
  abbrev reading : HeapReading
  reading = record { name = link_at flat; names = names; rule = rule }

  -- ---- contexts

  -- what untyped contexts make
  pub record ContextsSpelt (us : List CtxUse) (next : ℕ) : Type 0 where
    pub xs : List solid.SolidAtom
    pub ks : List tree.Level
    pub makes : RangedContexts c (next - R) (contexts_next t.links us next - R) (map (context_tree names) us) xs ks
    pub atoms : map (renamed_atom of_solid) xs ≡ map (read_atom names (raw_link t.links R)) (context_atoms flat t next us)
    pub spelt : Spelt names rule (raw_link t.links R) ks (context_membranes flat t left next us)
    pub none : levels_connectors (levels ks) ≡ []

  next_grows : (b : Bool) (next : ℕ) → next ≤ context_next t.links b next
  next_grows true next = omega arith
  next_grows false next = omega arith

  contexts_grow : (us : List CtxUse) (next : ℕ) → next ≤ contexts_next t.links us next
  contexts_grow [] next = omega arith
  contexts_grow (u ∷ us) next = let a = next_grows u.closed next in let b = contexts_grow us (context_next t.links u.closed next) in omega (arith, a, b)

  -- one context more
  context_more : (b : Bool) (p : Name) (next : ℕ) (us : List CtxUse) (as' : List ℕ) (f : Forest) → t.links + R ≤ next →
      c.atoms_of (context_with b p) ≡ atoms_at (heap_of flat) (record { name = link_at flat; names = names; rule = rule }) as' →
      c.membranes_of (context_with b p) ≡ regions_at (heap_of flat) (record { name = link_at flat; names = names; rule = rule }) f → ContextsSpelt us (context_next t.links b next) →
      (ys : List solid.SolidAtom) × (ls : List tree.Level) × RangedContexts c (next - R) (contexts_next t.links us (context_next t.links b next) - R) (context_with b p ∷ map (context_tree names) us) ys ls
      × (map (renamed_atom of_solid) ys ≡ map (read_atom names (raw_link t.links R)) (written_atoms flat (context_writing b next) as' ++ context_atoms flat t (context_next t.links b next) us))
      × Spelt names rule (raw_link t.links R) ls (raws_append (raws_at flat (context_writing b next) f) (context_membranes flat t left (context_next t.links b next) us))
      × (levels_connectors (levels ls) ≡ [])
  context_more true p next us as' f m e d u =
      let to : ℕ → ℕ = λ y. (next - R) + y in
      let same : (y : ℕ) → y < t.links → raw_link t.links R (next + y) ≡ of_solid ((next - R) + y) = λ y l. of_copy t.links R next y m in
      let xs = c.atoms_of (closed_context p) in
      let S = c.membranes_of (closed_context p) in
      let ys = map (renamed_atom (λ y. (next - R) + y)) xs in
      let ms = renamed_regions (λ y. (next - R) + y) S in
      let under : (y : ℕ) → occurrences y (region_process (region_of c (closed_context p))) ≢ 0 → y < t.links = λ y o.
      region_under (heap_of flat) (record { name = link_at flat; names = names; rule = rule }) t.links below as' f y (subst (λ z. occurrences y (region_process z) ≢ 0) (λ i. region (e i) (d i) []) o) in (
        ys ++ u.xs,
        kept_membranes ms ++ u.ks,
        ranged_closed {b = (next + t.links) - R} (λ y. (next - R) + y) (λ y z w. omega (arith, w)) (omega (arith, m)) (λ y o. let l = under y o in (omega arith, omega (arith, l, m))) u.makes,
        map_append (renamed_atom of_solid) ys u.xs
            ∙ (λ i. (atoms_twice of_solid (λ y. (next - R) + y) xs ∙ ap (map (renamed_atom (λ y. of_solid ((next - R) + y)))) e
            ∙ sym (atoms_read flat names rule t.links below (raw_link t.links R) (λ y. of_solid ((next - R) + y)) (Shifted next) same as')) i ++ u.atoms i)
            ∙ sym (map_append (read_atom names (raw_link t.links R)) (written_atoms flat (Shifted next) as') (context_atoms flat t (next + t.links) us)),
        spelt_both names rule (raw_link t.links R) (kept_membranes ms) u.ks (raws_at flat (Shifted next) f) (context_membranes flat t left (next + t.links) us)
            (kept_spelt names rule (raw_link t.links R) ms (raws_at flat (Shifted next) f)
            (forest_read flat names rule t.links below (raw_link t.links R) (λ y. of_solid ((next - R) + y)) (Shifted next) same f
            ∙ ap (renamed_regions (λ y. of_solid ((next - R) + y))) (sym d) ∙ sym (regions_twice of_solid (λ y. (next - R) + y) S))) u.spelt,
        levels_connectors_both (kept_membranes ms) u.ks ∙ (λ i. kept_none ms i ++ u.none i),
      )
  context_more false p next us as' f m e d u =
      let same : (y : ℕ) → y < t.links → raw_link t.links R (0 + y) ≡ of_solid y = λ y l. let z : 0 + y ≡ y = omega arith in ap (raw_link t.links R) z ∙ of_kept t.links R y l in
      let xs = c.atoms_of (open_context p) in
      let S = c.membranes_of (open_context p) in (
        xs ++ u.xs,
        kept_membranes S ++ u.ks,
        ranged_open u.makes,
        map_append (renamed_atom of_solid) xs u.xs
            ∙ (λ i. (ap (map (renamed_atom of_solid)) e ∙ sym (atoms_read flat names rule t.links below (raw_link t.links R) of_solid (Shifted 0) same as')) i ++ u.atoms i)
            ∙ sym (map_append (read_atom names (raw_link t.links R)) (written_atoms flat (Shifted 0) as') (context_atoms flat t next us)),
        spelt_both names rule (raw_link t.links R) (kept_membranes S) u.ks (raws_at flat (Shifted 0) f) (context_membranes flat t left next us)
            (kept_spelt names rule (raw_link t.links R) S (raws_at flat (Shifted 0) f)
            (forest_read flat names rule t.links below (raw_link t.links R) of_solid (Shifted 0) same f ∙ ap (renamed_regions of_solid) (sym d))) u.spelt,
        levels_connectors_both (kept_membranes S) u.ks ∙ (λ i. kept_none S i ++ u.none i),
      )

  contexts_spelt : (us : List CtxUse) (next : ℕ) → t.links + R ≤ next → AllByRecursion (ContextFits flat (record { name = link_at flat; names = names; rule = rule }) t c left) us → ContextsSpelt us next
  contexts_spelt [] next m f = record { xs = []; ks = []; makes = ranged_no_context; atoms = refl; spelt = tt; none = refl }
  contexts_spelt (u ∷ us) next m f =
      let a = next_grows u.closed next in
      let x = membrane_named t.contexts u.name in
      let w = context_more u.closed (name_of names u.name) next us (left_of t.atoms (atoms_in (heap_of flat) x)) (left x) m f.0.0 f.0.1 (contexts_spelt us (context_next t.links u.closed next) (omega (arith, m, a)) f.1) in
      record { xs = w.0; ks = w.1; makes = w.2; atoms = w.3; spelt = w.4; none = w.5 }

  rules_are : (us : List CtxUse) → AllByRecursion (RuleContextFits flat (record { name = link_at flat; names = names; rule = rule }) t c) us → context_rules c (names_of names us) ≡ map rule (rules_named flat t us)
  rules_are [] f = refl
  rules_are (u ∷ us) f =
      (λ i. f.0 i ++ rules_are us f.1 i) ∙ sym (map_append rule (rules_in (heap_of flat) (membrane_named t.rule_contexts u.name)) (rules_named flat t us))

  -- ---- levels

  -- what a level makes, where the next copy has its links from a number on
  pub record LevelAt (l : tree.Level) (b : LevelMade) (ps : List (ℕ × ℕ)) (next : ℕ) : Type 0 where
    pub outs : List tree.Leaf
    pub membranes : List tree.Level
    pub rules : List tree.Rule
    pub makes : RangedLevel c (next - R) (b.after (b.own next) - R) l outs membranes rules
    pub atoms : fused_leaves (λ z. z) outs ≡ map (read_atom names (raw_link t.links R)) (b.atoms next)
    pub spelt : Spelt names rule (raw_link t.links R) membranes (b.membranes (b.start next) (b.own next))
    pub are : rules ≡ map rule b.rules
    pub pairs : leaf_connectors outs ++ levels_connectors (levels membranes) ≡ map (mapped_pair (raw_link t.links R)) ps

  pub record LevelSpelt (l : tree.Level) (b : LevelMade) (ps : List (ℕ × ℕ)) : Type 0 where
    pub spells : (next : ℕ) → t.links + R ≤ next → LevelAt l b ps next
    pub grows : (next : ℕ) → next ≤ b.after (b.own next)

  record MembranesAt (ls : tree.Levels) (bs : List LevelMade) (ps : List (ℕ × ℕ)) (next : ℕ) : Type 0 where
    pub made : List tree.Level
    pub makes : RangedMembranes c (next - R) (after_membranes next bs - R) ls made
    pub spelt : Spelt names rule (raw_link t.links R) made (made_membranes next bs)
    pub pairs : levels_connectors (levels made) ≡ map (mapped_pair (raw_link t.links R)) ps

  record MembranesSpelt (ls : tree.Levels) (bs : List LevelMade) (ps : List (ℕ × ℕ)) : Type 0 where
    pub spells : (next : ℕ) → t.links + R ≤ next → MembranesAt ls bs ps next
    pub grows : (next : ℕ) → next ≤ after_membranes next bs

  membrane_more : (l : tree.Level) (ls : tree.Levels) (b : LevelMade) (bs : List LevelMade) (ps qs : List (ℕ × ℕ)) → LevelSpelt l b ps → MembranesSpelt ls bs qs → MembranesSpelt (tree.level_and l ls) (b ∷ bs) (ps ++ qs)
  membrane_more l ls b bs ps qs u w = record {
    spells = λ next m.
        let a = u.spells next m in
        let k = u.grows next in
        let o = w.spells (b.after (b.own next)) (omega (arith, m, k)) in record {
          made = tree.level a.outs (levels a.membranes) [] [] (listed_rules a.rules) ∷ o.made;
          makes = ranged_membrane a.makes o.makes;
          spelt = (level_spelt names rule (raw_link t.links R) a.outs a.membranes a.rules (b.atoms next) (b.membranes (b.start next) (b.own next)) b.rules a.atoms a.spelt a.are, o.spelt);
          pairs = (λ i. a.pairs i ++ o.pairs i) ∙ sym (map_append (mapped_pair (raw_link t.links R)) ps qs);
        };
    grows = λ next. let k = u.grows next in let j = w.grows (b.after (b.own next)) in omega (arith, k, j);
  }

  -- a level of these lists
  level_here : (leaves : List Leaf) (cs rcs : List CtxUse) (rs : List ℕ) (ls : tree.Levels) (bs : List LevelMade) (qs : List (ℕ × ℕ)) →
      AllByRecursion (LeafFits (heap_of flat) (record { name = link_at flat; names = names; rule = rule }) t c R) leaves →
      AllByRecursion (ContextFits flat (record { name = link_at flat; names = names; rule = rule }) t c left) cs →
      AllByRecursion (RuleContextFits flat (record { name = link_at flat; names = names; rule = rule }) t c) rcs → MembranesSpelt ls bs qs →
      LevelSpelt (tree.level (map (leaf_of names) leaves) ls (map (context_tree names) cs) (names_of names rcs) (listed_rules (map rule rs)))
      (record {
        atoms = λ next. leaves_atoms flat t next leaves ++ context_atoms flat t (leaves_next t leaves next) cs;
        start = λ next. leaves_next t leaves next;
        own = λ next. contexts_next t.links cs (leaves_next t leaves next);
        rules = rs ++ rules_named flat t rcs;
        membranes = λ start next. raws_append (made_membranes next bs) (context_membranes flat t left start cs);
        after = λ next. after_membranes next bs;
      }) (pairs_of t leaves ++ qs)
  level_here leaves cs rcs rs ls bs qs lf cf rf w = record {
    spells = λ next m.
        let k = leaves_grow flat t names rule R c below leaves next in
        let start = leaves_next t leaves next in
        let a = leaves_spelt flat t names rule R c below leaves next m lf in
        let j = contexts_grow cs start in
        let u = contexts_spelt cs start (omega (arith, m, k)) cf in
        let o = w.spells (contexts_next t.links cs start) (omega (arith, m, k, j)) in record {
          outs = a.outs ++ kept_atoms u.xs;
          membranes = o.made ++ u.ks;
          rules = tree.rules_list (listed_rules (map rule rs)) ++ context_rules c (names_of names rcs);
          makes = ranged_level a.makes u.makes o.makes;
          atoms = leaves_fused a.outs (kept_atoms u.xs) ∙ (λ i. a.atoms i ++ (kept_fused u.xs ∙ u.atoms) i) ∙ sym (map_append (read_atom names (raw_link t.links R)) (leaves_atoms flat t next leaves) (context_atoms flat t start cs));
          spelt = spelt_both names rule (raw_link t.links R) o.made u.ks (made_membranes (contexts_next t.links cs start) bs) (context_membranes flat t left start cs) o.spelt u.spelt;
          are = (λ i. rules_listed (map rule rs) i ++ rules_are rcs rf i) ∙ sym (map_append rule rs (rules_named flat t rcs));
          pairs =
              (λ i. (connectors_both a.outs (kept_atoms u.xs) ∙ ap (λ z. leaf_connectors a.outs ++ z) (kept_leaves u.xs) ∙ plus_nothing (leaf_connectors a.outs) ∙ a.pairs) i
              ++ (levels_connectors_both o.made u.ks ∙ ap (λ z. levels_connectors (levels o.made) ++ z) u.none ∙ plus_nothing (levels_connectors (levels o.made)) ∙ o.pairs) i)
              ∙ sym (map_append (mapped_pair (raw_link t.links R)) (pairs_of t leaves) qs);
        };
    grows = λ next.
        let k = leaves_grow flat t names rule R c below leaves next in
        let j = contexts_grow cs (leaves_next t leaves next) in
        let i = w.grows (contexts_next t.links cs (leaves_next t leaves next)) in
        omega (arith, k, j, i);
  }

  as_spelt : (l l' : tree.Level) (b b' : LevelMade) (ps ps' : List (ℕ × ℕ)) → l ≡ l' → b ≡ b' → ps ≡ ps' → LevelSpelt l' b' ps' → LevelSpelt l b ps
  as_spelt l l' b b' ps ps' e d k s = subst (λ a. LevelSpelt a b ps) (sym e) (subst (λ a. LevelSpelt l' a ps) (sym d) (subst (λ a. LevelSpelt l' b' a) (sym k) s))

  abbrev Fits : List Leaf → List CtxUse → List CtxUse → Type 0
  Fits ls cs rcs = BodyFits flat (record { name = link_at flat; names = names; rule = rule }) t c left R ls cs rcs

  abbrev One : Level → Type 0
  One l = Fits (leaves_of l) (contexts_of l) (rule_contexts_of l) → LevelSpelt (level_of names rule l) (level_made flat t left l) (level_pairs t l)

  abbrev all_in : {A : Type 0} → (Level → List A) → List Level → List A
  all_in f ls = flat_map (λ inner. inner) (map f ls)

  inside : (ls : List ((l : Level) × One l)) → let ms = map (λ e. e.0) ls in Fits (all_in leaves_of ms) (all_in contexts_of ms) (all_in rule_contexts_of ms) →
      MembranesSpelt (levels (map (level_of names rule) ms)) (map (level_made flat t left) ms) (all_in (level_pairs t) ms)
  inside [] f = record { spells = λ next m. record { made = []; makes = ranged_no_membrane; spelt = tt; pairs = refl }; grows = λ next. omega arith }
  inside (e ∷ ls) f =
      let ms = map (λ e. e.0) ls in
      let P = LeafFits (heap_of flat) reading t c R in
      let Q = ContextFits flat reading t c left in
      let S = RuleContextFits flat reading t c in
      membrane_more (level_of names rule e.0) (levels (map (level_of names rule) ms)) (level_made flat t left e.0) (map (level_made flat t left) ms) (level_pairs t e.0) (all_in (level_pairs t) ms)
      (e.1 (record {
        leaves_fit = all_left P (leaves_of e.0) (all_in leaves_of ms) f.leaves_fit;
        contexts_fit = all_left Q (contexts_of e.0) (all_in contexts_of ms) f.contexts_fit;
        rule_contexts_fit = all_left S (rule_contexts_of e.0) (all_in rule_contexts_of ms) f.rule_contexts_fit;
      }))
      (inside ls (record {
        leaves_fit = all_right P (leaves_of e.0) (all_in leaves_of ms) f.leaves_fit;
        contexts_fit = all_right Q (contexts_of e.0) (all_in contexts_of ms) f.contexts_fit;
        rule_contexts_fit = all_right S (rule_contexts_of e.0) (all_in rule_contexts_of ms) f.rule_contexts_fit;
      }))

  -- each level is spelled
  pub body_spelt : (l : Level) → One l
  body_spelt = ind-Level One (λ y z is f.
      let inner = subst (λ l. Fits (all_in leaves_of l.membranes) (all_in contexts_of l.membranes) (all_in rule_contexts_of l.membranes) →
      MembranesSpelt (levels (map (level_of names rule) l.membranes)) (map (level_made flat t left) l.membranes) (all_in (level_pairs t) l.membranes)) is (inside z.membranes) in
      let e1 = fold-roll-Level (List Leaf) (λ l. l.leaves ++ flat_map (λ inner. inner) l.membranes) y in
      let e2 = fold-roll-Level (List CtxUse) (λ l. l.contexts ++ flat_map (λ inner. inner) l.membranes) y in
      let e3 = fold-roll-Level (List CtxUse) (λ l. l.rule_contexts ++ flat_map (λ inner. inner) l.membranes) y in
      let e4 = fold-roll-Level tree.Level (tree_step names rule) y in
      let e5 = fold-roll-Level LevelMade (level_step flat t left) y in
      let e6 = fold-roll-Level (List (ℕ × ℕ)) (λ l. pairs_of t l.leaves ++ flat_map (λ inner. inner) l.membranes) y in
      let P = LeafFits (heap_of flat) reading t c R in
      let Q = ContextFits flat reading t c left in
      let S = RuleContextFits flat reading t c in
      let lf = subst (AllByRecursion P) e1 f.leaves_fit in
      let cf = subst (AllByRecursion Q) e2 f.contexts_fit in
      let rf = subst (AllByRecursion S) e3 f.rule_contexts_fit in
      as_spelt _ _ _ _ _ _ e4 e5 e6
      (level_here y.leaves y.contexts y.rule_contexts y.rules (levels (map (level_of names rule) y.membranes)) (map (level_made flat t left) y.membranes) (all_in (level_pairs t) y.membranes)
      (all_left P y.leaves (all_in leaves_of y.membranes) lf) (all_left Q y.contexts (all_in contexts_of y.membranes) cf) (all_left S y.rule_contexts (all_in rule_contexts_of y.membranes) rf)
      (inner (record {
        leaves_fit = all_right P y.leaves (all_in leaves_of y.membranes) lf;
        contexts_fit = all_right Q y.contexts (all_in contexts_of y.membranes) cf;
        rule_contexts_fit = all_right S y.rule_contexts (all_in rule_contexts_of y.membranes) rf;
      }))))
