-- Raw regions as regions of the calculus.
use Rattle.std.proofs.Common.{ℕ, zero, suc, ◌≡◌, ◌+◌, ◌<◌, List, [], ◌∷◌, ◌++◌, map, Option, Some, None, refl, sym, ap, ◌∙◌}
use Rattle.lmn_base.proofs.Lists.{map_append, map_twice}
use Rattle.lmn_base.specs.declared.solid.Region.TheFolds.{fold-roll-Region}
use Rattle.lmn_base.specs.declared.solid.SolidAtom.{SolidAtom}
use Rattle.lmn_congruence.specs.Plains.{fused_leaves, fused_level, fused_levels}
use Rattle.lmn_congruence.specs.Regions as solid
use Rattle.lmn_congruence.specs.Regions.{Region, Regions, no_region, region, region_and}
use Rattle.lmn_congruence.specs.Rules as tree
use Rattle.lmn_congruence.specs.Rules.{Level, Name, Rule, level}
use Rattle.lmn_congruence.specs.Same.{renamed_atom, renamed_region, renamed_regions}
use Rattle.lmn_congruence.specs.Translation.{label_of, levels, numbered_region, region_step, regions, rules as listed_rules, solid_atom_of}
use Rattle.lmn_congruence.proofs.Common.{rules_listed}
use Rattle.lmn_adequacy.specs.Next.{kept_atoms, kept_level, kept_membranes}
use Rattle.lmn_store_heap.specs.Heap.{HeapAtom, atoms_in, rules_in}
use Rattle.lmn_store_heap.specs.Solid.{links_from, solid_atom_at, solid_atoms_at}
use Rattle.lmn_store_heap.specs.Sound.{Forest, bare, mem}
use Rattle.lmn_adequacy_heaps.specs.HeapRegions.{atoms_at, regions_at}
use Rattle.lmn_solid_settle.specs.Raw.{RawRegion, RawRegions, no_raw, raw, raw_and, settled, settled_all, settled_atom}
use Rattle.lmn_congruence_splice.specs.Splice.{of_solid}
use Rattle.lmn_solid_tables.specs.Flats.{heap_of, link_at}
use Rattle.lmn_solid_tables.specs.declared.flat.Flat.{Flat}
use Rattle.lmn_solid_firing.specs.declared.writing.Writing.{Writing}
use Rattle.lmn_solid_firing.specs.Making.{raws_append, raws_at, written, written_atoms}

-- ---- a raw region

-- an atom, each link at its image
abbrev pub read_atom : List Name → (ℕ → ℕ) → SolidAtom → solid.SolidAtom
read_atom names v a = record { label = label_of names a.functor.label; links = map v a.links }

abbrev mutual
  pub read_region : List Name → (ℕ → Rule) → (ℕ → ℕ) → RawRegion → Region
  read_region names rule v (raw xs ms rs) = region (map (read_atom names v) xs) (read_regions names rule v ms) (map rule rs)

  pub read_regions : List Name → (ℕ → Rule) → (ℕ → ℕ) → RawRegions → Regions
  read_regions names rule v no_raw = no_region
  read_regions names rule v (raw_and m ms) = region_and (read_region names rule v m) (read_regions names rule v ms)

-- it is the region of the solid with these links
mutual
  pub settled_read : (names : List Name) (rule : ℕ → Rule) (v : ℕ → ℕ) (r : RawRegion) → numbered_region names rule (settled v r) ≡ read_region names rule v r
  settled_read names rule v (raw xs ms rs) =
      fold-roll-Region Region (region_step names rule) (record { atoms = map (settled_atom v) xs; membranes = settled_all v ms; rules = rs })
      ∙ (λ i. region (map_twice (solid_atom_of names) (settled_atom v) xs i) (settled_all_read names rule v ms i) (map rule rs))

  settled_all_read : (names : List Name) (rule : ℕ → Rule) (v : ℕ → ℕ) (ms : RawRegions) → regions (map (numbered_region names rule) (settled_all v ms)) ≡ read_regions names rule v ms
  settled_all_read names rule v no_raw = refl
  settled_all_read names rule v (raw_and m ms) = λ i. region_and (settled_read names rule v m i) (settled_all_read names rule v ms i)

-- ---- levels

-- raw levels and raw regions spell the same
abbrev pub Spelt : List Name → (ℕ → Rule) → (ℕ → ℕ) → List Level → RawRegions → Type 0
Spelt names rule v [] no_raw = Unit {0}
Spelt names rule v [] (raw_and m ms) = ⊥
Spelt names rule v (k ∷ ks) no_raw = ⊥
Spelt names rule v (k ∷ ks) (raw_and m ms) = (fused_level (λ x. x) k ≡ read_region names rule v m) × Spelt names rule v ks ms

pub spelt_both : (names : List Name) (rule : ℕ → Rule) (v : ℕ → ℕ) (ks ls : List Level) (ms ns : RawRegions) → Spelt names rule v ks ms → Spelt names rule v ls ns → Spelt names rule v (ks ++ ls) (raws_append ms ns)
spelt_both names rule v [] ls no_raw ns s t = t
spelt_both names rule v [] ls (raw_and m ms) ns s t = absurd s
spelt_both names rule v (k ∷ ks) ls no_raw ns s t = absurd s
spelt_both names rule v (k ∷ ks) ls (raw_and m ms) ns s t = (s.0, spelt_both names rule v ks ls ms ns s.1 t)

pub spelt_is : (names : List Name) (rule : ℕ → Rule) (v : ℕ → ℕ) (ks : List Level) (ms : RawRegions) → Spelt names rule v ks ms → fused_levels (λ x. x) (levels ks) ≡ read_regions names rule v ms
spelt_is names rule v [] no_raw s = refl
spelt_is names rule v [] (raw_and m ms) s = absurd s
spelt_is names rule v (k ∷ ks) no_raw s = absurd s
spelt_is names rule v (k ∷ ks) (raw_and m ms) s = λ i. region_and (s.0 i) (spelt_is names rule v ks ms s.1 i)

-- a level whose lists are spelled is spelled
pub level_spelt : (names : List Name) (rule : ℕ → Rule) (v : ℕ → ℕ) (leaves : List tree.Leaf) (ks : List Level) (rs : List Rule) (xs : List SolidAtom) (ms : RawRegions) (ns : List ℕ) →
    fused_leaves (λ x. x) leaves ≡ map (read_atom names v) xs → Spelt names rule v ks ms → rs ≡ map rule ns →
    fused_level (λ x. x) (level leaves (levels ks) [] [] (listed_rules rs)) ≡ read_region names rule v (raw xs ms ns)
level_spelt names rule v leaves ks rs xs ms ns a s r = λ i. region (a i) (spelt_is names rule v ks ms s i) ((rules_listed rs ∙ r) i)

-- leaves of two lists are fused one list after the other, atoms that stay to those of the solid
pub leaves_fused : (xs ys : List tree.Leaf) → fused_leaves (λ x. x) (xs ++ ys) ≡ fused_leaves (λ x. x) xs ++ fused_leaves (λ x. x) ys
leaves_fused [] ys = refl
leaves_fused (tree.atom_leaf a zs ∷ xs) ys = ap (λ l. record { label = a; links = map (λ x. x) zs } ∷ l) (leaves_fused xs ys)
leaves_fused (tree.connector_leaf a b ∷ xs) ys = leaves_fused xs ys
leaves_fused (tree.typed_leaf p x ∷ xs) ys = leaves_fused xs ys

pub kept_fused : (xs : List solid.SolidAtom) → fused_leaves (λ x. x) (kept_atoms xs) ≡ map (renamed_atom of_solid) xs
kept_fused [] = refl
kept_fused (x ∷ xs) = λ i. record { label = x.label; links = map_twice (λ z. z) of_solid x.links i } ∷ kept_fused xs i

-- ---- the solid

module _ (flat : Flat) (names : List Name) (rule : ℕ → Rule) (limit : ℕ) (below : (a i : ℕ) → link_at flat a i < limit) (v g : ℕ → ℕ) (w : Writing) (same : (y : ℕ) → y < limit → v (written w y) ≡ g y) where
  links_read : (a i n : ℕ) → map v (map (written w) (links_from (link_at flat) a i n)) ≡ map g (links_from (link_at flat) a i n)
  links_read a i zero = refl
  links_read a i (suc n) = λ j. same (link_at flat a i) (below a i) j ∷ links_read a (i + 1) n j

  atom_read : (a : ℕ) (o : Option HeapAtom) → map (read_atom names v) (map (settled_atom (written w)) (solid_atom_at (link_at flat) a o)) ≡ map (renamed_atom g) (map (solid_atom_of names) (solid_atom_at (link_at flat) a o))
  atom_read a None = refl
  atom_read a (Some x) = λ j. record { label = label_of names x.functor.label; links = links_read a 0 x.functor.arity j } ∷ []

  -- atoms of the solid, their links written
  pub atoms_read : (as' : List ℕ) → map (read_atom names v) (written_atoms flat w as') ≡ map (renamed_atom g) (atoms_at (heap_of flat) (record { name = link_at flat; names = names; rule = rule }) as')
  atoms_read [] = refl
  atoms_read (a ∷ as') =
      let here = solid_atom_at (link_at flat) a ((heap_of flat).atoms a) in
      let rest = solid_atoms_at (heap_of flat) (link_at flat) as' in
      ap (map (read_atom names v)) (map_append (settled_atom (written w)) here rest)
      ∙ map_append (read_atom names v) (map (settled_atom (written w)) here) (map (settled_atom (written w)) rest)
      ∙ (λ j. atom_read a ((heap_of flat).atoms a) j ++ atoms_read as' j)
      ∙ sym (map_append (renamed_atom g) (map (solid_atom_of names) here) (map (solid_atom_of names) rest))
      ∙ ap (map (renamed_atom g)) (sym (map_append (solid_atom_of names) here rest))

  -- the membranes of a forest
  pub forest_read : (f : Forest) → read_regions names rule v (raws_at flat w f) ≡ renamed_regions g (regions_at (heap_of flat) (record { name = link_at flat; names = names; rule = rule }) f)
  forest_read bare = refl
  forest_read (mem m inner f) = λ j. region_and (region (atoms_read (atoms_in (heap_of flat) m) j) (forest_read inner j) (map rule (rules_in (heap_of flat) m))) (forest_read f j)

-- regions that stay, as raw levels
mutual
  pub kept_spelt : (names : List Name) (rule : ℕ → Rule) (v : ℕ → ℕ) (S : Regions) (ms : RawRegions) → read_regions names rule v ms ≡ renamed_regions of_solid S → Spelt names rule v (kept_membranes S) ms
  kept_spelt names rule v no_region no_raw e = tt
  kept_spelt names rule v no_region (raw_and m ms) e = absurd (cc)
  kept_spelt names rule v (region_and s S) no_raw e = absurd (cc)
  kept_spelt names rule v (region_and s S) (raw_and m ms) e =
      let first : read_region names rule v m ≡ renamed_region of_solid s = cc in
      let rest : read_regions names rule v ms ≡ renamed_regions of_solid S = cc in
      (kept_is s ∙ sym first, kept_spelt names rule v S ms rest)

  kept_is : (s : Region) → fused_level (λ x. x) (kept_level s) ≡ renamed_region of_solid s
  kept_is (region xs ms rs) = λ j. region (kept_fused xs j) (kept_all ms j) (rules_listed rs j)

  kept_all : (S : Regions) → fused_levels (λ x. x) (levels (kept_membranes S)) ≡ renamed_regions of_solid S
  kept_all no_region = refl
  kept_all (region_and s S) = λ j. region_and (kept_is s j) (kept_all S j)
