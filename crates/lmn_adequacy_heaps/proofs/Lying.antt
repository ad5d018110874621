-- A level of a head lies in lists of atoms and in a forest of a heap, by their numbers.
use Rattle.std.proofs.Common.{ℕ, suc, ◌≡◌, ◌≢◌, List, [], ◌∷◌, ◌++◌, map, sym, subst}
use Rattle.lmn_store_heap.specs.Heap.{Heap, atoms_in, rules_in}
use Rattle.lmn_store_heap.specs.Lists.{Distinct, without, without_all}
use Rattle.lmn_store_heap.specs.Sound.{Forest, mem, Valid}
use Rattle.lmn_congruence.specs.Process.{Process}
use Rattle.lmn_congruence.specs.Regions.{SolidAtom, Region, region, region_process}
use Rattle.lmn_congruence.specs.Rules.{Context, Label, Leaf, Level, Levels, Name, Rule, Rules, atom_leaf, typed_leaf, level, no_level, level_and}
use Rattle.lmn_congruence.specs.UpToOrder.{Reordered}
use Rattle.lmn_reduction.specs.Assignments.{Assignment}
use Rattle.lmn_reduction.specs.Parts.{Rooted}
use Rattle.lmn_store_heap.proofs.ListLemmas.{in_without}
use Rattle.lmn_solid_heads.specs.Embeddings.{index_of}
use Rattle.lmn_adequacy.specs.Embedding.{Taken, AtomImages, no_image, image_and, typed_later, TakenRegion, region_first, region_later, KeepsLinks}
use Rattle.lmn_adequacy.specs.Loose.{LevelImages, level_images, MembraneImages, no_membrane_image, membrane_image_and, filling}
use Rattle.lmn_adequacy_heaps.specs.HeapRegions.{HeapReading, regions_at, region_at}
use Rattle.lmn_adequacy_heaps.proofs.Pieces.{atom_at, atoms_each, numbers, taken_in}
use Rattle.lmn_adequacy_heaps.proofs.Counting.{list_atoms}
use Rattle.lmn_adequacy_heaps.proofs.PartsOut.{PartsOut, parts_of_leaves}
use Rattle.lmn_base.specs.Lists.{In}
use Rattle.std.specs.List.{AllByRecursion}

-- each atom of the leaves is read from a number
pub data FitLeaves (g : ℕ → SolidAtom) (link_of : ℕ → ℕ) : List Leaf → List ℕ → Type 0 where
  fit_none : FitLeaves g link_of [] []
  fit_atom : {a : Label} {ys : List ℕ} {ls : List Leaf} {b : ℕ} {bs : List ℕ} →
      g b ≡ record { label = a; links = map link_of ys } → FitLeaves g link_of ls bs → FitLeaves g link_of (atom_leaf a ys ∷ ls) (b ∷ bs)
  fit_typed : {p : Name} {x : ℕ} {ls : List Leaf} {bs : List ℕ} → FitLeaves g link_of ls bs → FitLeaves g link_of (typed_leaf p x ∷ ls) bs

-- the tree of a membrane is number n of a forest, and the others stay in their order
pub data TakenTree : ℕ → ℕ → Forest → Forest → Forest → Type 0 where
  tree_first : {m : ℕ} {i f : Forest} → TakenTree 0 m i (mem m i f) f
  tree_later : {n m k : ℕ} {i j f f' : Forest} → TakenTree n m i f f' → TakenTree (suc n) m i (mem k j f) (mem k j f')

-- The level lies in a list of atoms and a forest: the images of its atoms and membranes, at any depth and in their order,
-- the numbers of their places, and what is left of list and forest. Q is what else holds of each membrane: of its level, its
-- number, the atoms that are left, and the forest in it before and after.
mutual
  pub data Lies (h : Heap) (r : HeapReading) (link_of : ℕ → ℕ) (typed_of : Name → Rooted) (Q : Level → ℕ → List ℕ → Forest → Forest → Type 0) : Level → List ℕ → List (List ℕ) → List ℕ → List ℕ → List ℕ → List ℕ → Forest → Forest → Type 0 where
    lies : {leaves : List Leaf} {membranes : Levels} {contexts : List Context} {rule_contexts : List Name} {rules : Rules}
        {bs as' ms ns xs rest : List ℕ} {parts ps : List (List ℕ)} {f f' : Forest} →
        FitLeaves (atom_at h r) link_of leaves bs → Distinct bs → AllByRecursion (λ b. In b xs) bs → PartsOut (atom_at h r) link_of typed_of leaves parts (without_all bs xs) rest →
        LiesIn h r link_of typed_of Q membranes as' ps ms ns f f' →
        Lies h r link_of typed_of Q (level leaves membranes contexts rule_contexts rules) (bs ++ as') (parts ++ ps) ms (numbers bs xs ++ ns) xs rest f f'

  pub data LiesIn (h : Heap) (r : HeapReading) (link_of : ℕ → ℕ) (typed_of : Name → Rooted) (Q : Level → ℕ → List ℕ → Forest → Forest → Type 0) : Levels → List ℕ → List (List ℕ) → List ℕ → List ℕ → Forest → Forest → Type 0 where
    lies_none : {f : Forest} → LiesIn h r link_of typed_of Q no_level [] [] [] [] f f
    lies_and : {l : Level} {ls : Levels} {n m : ℕ}
        {as' : List ℕ} {ps : List (List ℕ)} {ms ns bs : List ℕ} {qs : List (List ℕ)} {ks ns' xs : List ℕ} {f f' f'' i i' : Forest} →
        TakenTree n m i f f' → Lies h r link_of typed_of Q l as' ps ms ns (atoms_in h m) xs i i' →
        Q l m xs i i' →
        LiesIn h r link_of typed_of Q ls bs qs ks ns' f' f'' →
        LiesIn h r link_of typed_of Q (level_and l ls) (as' ++ bs) (ps ++ qs) (m ∷ (ms ++ ks)) (n ∷ (ns ++ ns')) f f''

-- what is left in the image of a membrane
abbrev pub rest_at : Heap → HeapReading → ℕ → List ℕ → Forest → Region
rest_at h r m xs i = region (map (atom_at h r) xs) (regions_at h r i) (map r.rule (rules_in h m))

-- what the contexts and rules of a level stand for
abbrev pub fills : Assignment → Level → Process
fills t (level leaves membranes contexts rule_contexts rules) = filling t contexts rule_contexts rules

-- what the calculus asks of a membrane
abbrev pub Kept : Heap → HeapReading → Assignment → Level → ℕ → List ℕ → Forest → Forest → Type 0
Kept h r t l m xs i i' = KeepsLinks t l (region_at h r m i) × Reordered (fills t l) (region_process (rest_at h r m xs i'))

-- ---- so it lies in the region

images_of_leaves : (g : ℕ → SolidAtom) (t : Assignment) {ls : List Leaf} {bs : List ℕ} (xs : List ℕ) → FitLeaves g t.link_of ls bs → Distinct bs → AllByRecursion (λ b. In b xs) bs →
    AtomImages t ls (numbers bs xs) (map g xs) (map g (without_all bs xs))
images_of_leaves g t xs fit_none d e = no_image
images_of_leaves g t xs (fit_atom {a = a} {ys = ys} {b = b} {bs = bs} is f) d e =
    image_and (subst (λ y. Taken (index_of b xs) y (map g xs) (map g (without b xs))) is (taken_in g b xs e.0))
    (images_of_leaves g t (without b xs) f d.1 (others bs d.0 e.1))
  where
    others : (cs : List ℕ) → AllByRecursion (λ c. b ≢ c) cs → AllByRecursion (λ c. In c xs) cs → AllByRecursion (λ c. In c (without b xs)) cs
    others [] u w = tt
    others (c ∷ cs) u w = (in_without b c xs w.0 (λ q. u.0 (sym q)), others cs u.1 w.1)
images_of_leaves g t xs (fit_typed f) d e = typed_later (images_of_leaves g t xs f d e)

-- others stay when one is taken out
pub each_without : (b : ℕ) (xs cs : List ℕ) → AllByRecursion (λ c. b ≢ c) cs → AllByRecursion (λ c. In c xs) cs → AllByRecursion (λ c. In c (without b xs)) cs
each_without b xs [] u w = tt
each_without b xs (c ∷ cs) u w = (in_without b c xs w.0 (λ q. u.0 (sym q)), each_without b xs cs u.1 w.1)

-- a tree of a forest is a membrane of its region
pub taken_region : (h : Heap) (r : HeapReading) {n m : ℕ} {i f f' : Forest} → TakenTree n m i f f' → TakenRegion n (region_at h r m i) (regions_at h r f) (regions_at h r f')
taken_region h r tree_first = region_first
taken_region h r (tree_later k) = region_later (taken_region h r k)

module _ (h : Heap) (v : Valid h) (r : HeapReading) (t : Assignment) where
  mutual
    -- what lies in the lists of a heap lies in its region
    pub level_images_of : {l : Level} {as' ms ns xs rest : List ℕ} {ps : List (List ℕ)} {f f' : Forest} → Lies h r t.link_of t.typed_of (Kept h r t) l as' ps ms ns xs rest f f' → (rs : List Rule) →
        LevelImages t l ns (region (map (atom_at h r) xs) (regions_at h r f) rs) (region (map (atom_at h r) rest) (regions_at h r f') rs)
    level_images_of (lies {xs = xs} fit d e out k) rs =
        level_images (images_of_leaves (atom_at h r) t xs fit d e) (parts_of_leaves (atom_at h r) t out) (membranes_of k)

    membranes_of : {ls : Levels} {as' ms ns : List ℕ} {ps : List (List ℕ)} {f f' : Forest} → LiesIn h r t.link_of t.typed_of (Kept h r t) ls as' ps ms ns f f' → MembraneImages t ls ns (regions_at h r f) (regions_at h r f')
    membranes_of lies_none = no_membrane_image
    membranes_of (lies_and {l = level leaves membranes contexts rule_contexts rules} {m = m} {ns = ns} {xs = xs} {i = i} {i' = i'} k d q later) =
        membrane_image_and (taken_region h r k)
        (subst (λ X. LevelImages t (level leaves membranes contexts rule_contexts rules) ns (region X (regions_at h r i) (map r.rule (rules_in h m))) (region (map (atom_at h r) xs) (regions_at h r i') (map r.rule (rules_in h m))))
        (sym (atoms_each h r (atoms_in h m) (list_atoms h v m))) (level_images_of d (map r.rule (rules_in h m))))
        q.0 q.1 (membranes_of later)
