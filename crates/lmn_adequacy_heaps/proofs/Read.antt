-- What lies in the region of a heap lies in the heap.
use Rattle.std.proofs.Common.{ℕ, ◌≡◌, ◌≢◌, List, [], ◌∷◌, ◌++◌, map, refl, sym, ap, subst, ◌∙◌}
use Rattle.lmn_store_heap.specs.Heap.{Heap, atoms_in, rules_in}
use Rattle.lmn_store_heap.specs.Lists.{Distinct, without, without_all}
use Rattle.lmn_store_heap.specs.Sound.{Forest, bare, mem, Valid}
use Rattle.lmn_store_heap.proofs.Listing.{in_without_of, distinct_without}
use Rattle.lmn_congruence.specs.Regions.{SolidAtom, Region, Regions, region, region_and, region_process}
use Rattle.lmn_congruence.specs.Rules.{Leaf, Level, Levels, Rule, level}
use Rattle.lmn_reduction.specs.Assignments.{Assignment}
use Rattle.lmn_adequacy.specs.Embedding.{AtomImages, no_image, image_and, typed_later, TakenRegion, region_first, region_later, KeepsLinks}
use Rattle.lmn_adequacy.specs.Loose.{LevelImages, level_images, MembraneImages, no_membrane_image, membrane_image_and, filling}
use Rattle.lmn_congruence.specs.UpToOrder.{Reordered}
use Rattle.lmn_adequacy_heaps.specs.HeapRegions.{HeapReading, regions_at, region_at}
use Rattle.lmn_adequacy_heaps.proofs.Pieces.{atom_at, atoms_each, numbers, taken_out}
use Rattle.lmn_adequacy_heaps.proofs.Counting.{list_atoms}
use Rattle.lmn_adequacy_heaps.proofs.PartsOut.{find_parts}
use Rattle.lmn_adequacy_heaps.proofs.Lying.{FitLeaves, fit_none, fit_atom, fit_typed, TakenTree, tree_first, tree_later, Kept, Lies, lies, LiesIn, lies_none, lies_and}
use Rattle.lmn_adequacy.proofs.PlainSolids.{first_or as first_region, others as later_regions}
use Rattle.lmn_base.specs.Lists.{In}
use Rattle.std.specs.List.{AllByRecursion}

-- the numbers of the images of leaves
pub record FoundLeaves (g : ℕ → SolidAtom) (t : Assignment) (ls : List Leaf) (xs ns : List ℕ) (rest : List SolidAtom) : Type 0 where
  pub images : List ℕ
  pub fit : FitLeaves g t.link_of ls images
  pub distinct : Distinct images
  pub among : AllByRecursion (λ b. In b xs) images
  pub places : ns ≡ numbers images xs
  pub others : rest ≡ map g (without_all images xs)

-- the images of leaves among the atoms of a list are found by their numbers
pub find_leaves : (g : ℕ → SolidAtom) (t : Assignment) (xs : List ℕ) {ls : List Leaf} {ns : List ℕ} {zs rest : List SolidAtom} → Distinct xs → AtomImages t ls ns zs rest → zs ≡ map g xs →
    FoundLeaves g t ls xs ns rest
find_leaves g t xs d no_image e = record { images = []; fit = fit_none; distinct = tt; among = tt; places = refl; others = e }
find_leaves g t xs d (image_and k i) e =
    let u = taken_out g xs d k e in
    let w = find_leaves g t (without u.number xs) (distinct_without u.number xs d) i u.others in
    record {
      images = u.number ∷ w.images;
      fit = fit_atom u.is w.fit;
      distinct = (apart u.number w.images w.among, w.distinct);
      among = (u.among, wider u.number w.images w.among);
      places = λ j. u.place j ∷ w.places j;
      others = w.others;
    }
  where
    apart : (b : ℕ) (cs : List ℕ) → AllByRecursion (λ c. In c (without b xs)) cs → AllByRecursion (λ c. b ≢ c) cs
    apart b [] u = tt
    apart b (c ∷ cs) u = ((λ q. (in_without_of b c xs d u.0).1 (sym q)), apart b cs u.1)

    wider : (b : ℕ) (cs : List ℕ) → AllByRecursion (λ c. In c (without b xs)) cs → AllByRecursion (λ c. In c xs) cs
    wider b [] u = tt
    wider b (c ∷ cs) u = ((in_without_of b c xs d u.0).0, wider b cs u.1)
find_leaves g t xs d (typed_later i) e =
    let w = find_leaves g t xs d i e in
    record { images = w.images; fit = fit_typed w.fit; distinct = w.distinct; among = w.among; places = w.places; others = w.others }

-- a membrane of a region, by its number
pub record FoundTree (h : Heap) (r : HeapReading) (f : Forest) (n : ℕ) (m : Region) (rest : Regions) : Type 0 where
  pub number : ℕ
  pub inner : Forest
  pub others : Forest
  pub taken : TakenTree n number inner f others
  pub is : m ≡ region_at h r number inner
  pub is_rest : rest ≡ regions_at h r others

-- a membrane of a region is a tree of the forest
pub find_tree : (h : Heap) (r : HeapReading) (f : Forest) {n : ℕ} {m : Region} {ms rest : Regions} → TakenRegion n m ms rest → ms ≡ regions_at h r f → FoundTree h r f n m rest
find_tree h r bare region_first e = absurd (cc)
find_tree h r bare (region_later k) e = absurd (cc)
find_tree h r (mem m i f) (region_first {m = M} {ms = ms}) e =
    record { number = m; inner = i; others = f; taken = tree_first; is = ap (first_region M) e; is_rest = ap later_regions e }
find_tree h r (mem m i f) (region_later {k = K} k) e =
    let p : K ≡ region_at h r m i = ap (first_region K) e in
    let u = find_tree h r f k (ap later_regions e) in
    record { number = u.number; inner = u.inner; others = mem m i u.others; taken = tree_later u.taken; is = u.is; is_rest = λ j. region_and (p j) (u.is_rest j) }

module _ (h : Heap) (v : Valid h) (r : HeapReading) (t : Assignment) where
  abbrev g : ℕ → SolidAtom
  g = atom_at h r

  abbrev rules_at : ℕ → List Rule
  rules_at m = map r.rule (rules_in h m)

  -- a level in a region lies in lists of the heap
  pub record FoundLevel (l : Level) (ns xs : List ℕ) (f : Forest) (rs : List Rule) (rest : Region) : Type 0 where
    pub atoms : List ℕ
    pub parts : List (List ℕ)
    pub membranes : List ℕ
    pub left_atoms : List ℕ
    pub left_forest : Forest
    pub lying : Lies h r t.link_of t.typed_of (Kept h r t) l atoms parts membranes ns xs left_atoms f left_forest
    pub is : rest ≡ region (map (atom_at h r) left_atoms) (regions_at h r left_forest) rs

  -- membranes in a region lie in a forest of the heap
  pub record FoundMembranes (ls : Levels) (ns : List ℕ) (f : Forest) (rest : Regions) : Type 0 where
    pub atoms : List ℕ
    pub parts : List (List ℕ)
    pub membranes : List ℕ
    pub left_forest : Forest
    pub lying : LiesIn h r t.link_of t.typed_of (Kept h r t) ls atoms parts membranes ns f left_forest
    pub is : rest ≡ regions_at h r left_forest

  abbrev atoms_by : Region → List SolidAtom
  atoms_by (region xs ms rs) = xs

  abbrev membranes_by : Region → Regions
  membranes_by (region xs ms rs) = ms

  abbrev rules_by : Region → List Rule
  rules_by (region xs ms rs) = rs

  mutual
    -- what lies in the region of a heap lies in its lists
    pub find_level : {l : Level} {ns : List ℕ} {M rest : Region} (xs : List ℕ) (f : Forest) (rs : List Rule) → Distinct xs → LevelImages t l ns M rest →
        M ≡ region (map (atom_at h r) xs) (regions_at h r f) rs → FoundLevel l ns xs f rs rest
    find_level xs f rs d (level_images {leaves = leaves} {membranes = membranes} {contexts = contexts} {rule_contexts = rule_contexts} {rules = rules} {ns' = ns'} i j k) e =
        let u = find_leaves g t xs d i (ap atoms_by e) in
        let w = find_parts g t (without_all u.images xs) j u.others in
        let z = find_membranes f k (ap membranes_by e) in
        record {
          atoms = u.images ++ z.atoms;
          parts = w.parts ++ z.parts;
          membranes = z.membranes;
          left_atoms = w.left_over;
          left_forest = z.left_forest;
          lying = subst (λ ms. Lies h r t.link_of t.typed_of (Kept h r t) (level leaves membranes contexts rule_contexts rules) (u.images ++ z.atoms) (w.parts ++ z.parts) z.membranes (ms ++ ns') xs w.left_over f z.left_forest)
              (sym u.places) (lies u.fit u.distinct u.among w.out z.lying);
          is = λ j. region (w.is j) (z.is j) (ap rules_by e j);
        }

    find_membranes : {ls : Levels} {ns : List ℕ} {ms rest : Regions} (f : Forest) → MembraneImages t ls ns ms rest → ms ≡ regions_at h r f → FoundMembranes ls ns f rest
    find_membranes f no_membrane_image e = record { atoms = []; parts = []; membranes = []; left_forest = f; lying = lies_none; is = e }
    find_membranes f (membrane_image_and {leaves = leaves} {membranes = membranes} {contexts = contexts} {rule_contexts = rule_contexts} {rules = rules} k d keeps fill more') e =
        let u = find_tree h r f k e in
        let at = u.is ∙ (λ j. region (atoms_each h r (atoms_in h u.number) (list_atoms h v u.number) j) (regions_at h r u.inner) (rules_at u.number)) in
        let w = find_level (atoms_in h u.number) u.inner (rules_at u.number) (v.sound.listed.atoms_once u.number) d at in
        let z = find_membranes u.others more' u.is_rest in
        record {
          atoms = w.atoms ++ z.atoms;
          parts = w.parts ++ z.parts;
          membranes = u.number ∷ (w.membranes ++ z.membranes);
          left_forest = z.left_forest;
          lying = lies_and u.taken w.lying (
            subst (KeepsLinks t (level leaves membranes contexts rule_contexts rules)) u.is keeps,
            subst (λ R. Reordered (filling t contexts rule_contexts rules) (region_process R)) w.is fill,
          ) z.lying;
          is = z.is;
        }
