-- The order of the numbers of an embedding is that of the positions.
use Rattle.std.proofs.Common.{ℕ, zero, suc, List, map, refl, sym, ap, subst, subst₂, inl, inr, arith, ◌≡◌, ◌≢◌, ◌<◌, ◌⊎◌, [], ◌∷◌, ◌++◌, ◌∙◌}
use Rattle.std.proofs.lemmas.List.{append_assoc}
use Rattle.lmn_congruence.specs.Regions.{Region, Regions, SolidAtom, region, region_and}
use Rattle.lmn_congruence.specs.Rules.{Leaf, Level, Levels, Rule, atom_leaf, connector_leaf, head_of, level, level_and, no_level, typed_leaf}
use Rattle.lmn_reduction.specs.Assignments.{Assignment}
use Rattle.lmn_adequacy.specs.Choice.{AtomsStand, Before, LevelStands, MembranesStand, atom_stands, leaf_positions, less_behind, less_here, level_positions, level_stands, membrane_positions, membrane_stands, no_atom_stands, no_membrane_stands, positions_of, typed_stands, whole_list, left_without}
use Rattle.lmn_adequacy.specs.Embedding.{AtomImages, EmbedsAt, Taken, TakenRegion, image_and, no_image, region_first, region_later, taken_first, taken_later, typed_later, assignment_of}
use Rattle.lmn_adequacy.specs.Loose.{LevelImages, MembraneImages, level_images, membrane_image_and, no_membrane_image}
use Rattle.lmn_adequacy.proofs.InOrder.{level_images_of}
use Rattle.lmn_adequacy.proofs.OneEmbedding.{same_head, same_tail}
use Rattle.lmn_base.proofs.Numbers.{three_ways}

abbrev Rising : (ℕ → ℕ) → Type 0
Rising at = (i j : ℕ) → i < j → at i < at j

later_rising : (at : ℕ → ℕ) → Rising at → Rising (λ k. at (suc k))
later_rising at h i j l = h (suc i) (suc j) (omega arith)

-- what is left stands somewhere in the list
without_some : (n : ℕ) (at : ℕ → ℕ) (i : ℕ) → (k : ℕ) × (left_without n at i ≡ at k)
without_some zero at i = (suc i, refl)
without_some (suc n) at zero = (0, refl)
without_some (suc n) at (suc i) = let u = without_some n (λ k. at (suc k)) i in (suc u.0, u.1)

without_rising : (n : ℕ) (at : ℕ → ℕ) → Rising at → Rising (left_without n at)
without_rising zero at h i j l = h (suc i) (suc j) (omega arith)
without_rising (suc n) at h zero zero l = absurd (no l)
  where
    no : ¬ (0 < 0)
    no = omega arith
without_rising (suc n) at h zero (suc j) l = let u = without_some n (λ k. at (suc k)) j in omega (arith, u.1, h 0 (suc u.0) (omega arith))
without_rising (suc n) at h (suc i) zero l = absurd (no l)
  where
    no : ¬ (suc i < 0)
    no = omega arith
without_rising (suc n) at h (suc i) (suc j) l = without_rising n (λ k. at (suc k)) (later_rising at h) i j (omega (arith, l))

rising_back : (at : ℕ → ℕ) → Rising at → (m n : ℕ) → at m < at n → m < n
rising_back at h m n l = go (three_ways m n)
  where
    never : (x y : ℕ) → x < y → ¬ (y < x)
    never x y a b = absurd (omega arith)

    not_less : (x y : ℕ) → x < y → ¬ (x ≡ y)
    not_less x y a e = absurd (omega (arith, a, e))

    go : (m < n) ⊎ ((m ≡ n) ⊎ (n < m)) → m < n
    go (inl a) = a
    go (inr (inl e)) = absurd (not_less (at m) (at n) l (ap at e))
    go (inr (inr b)) = absurd (never (at m) (at n) l (h n m b))

rising_one : (at : ℕ → ℕ) → Rising at → (m n : ℕ) → at m ≡ at n → m ≡ n
rising_one at h m n e = go (three_ways m n)
  where
    not_less : (x y : ℕ) → x < y → ¬ (x ≡ y)
    not_less x y a e = absurd (omega (arith, a, e))

    go : (m < n) ⊎ ((m ≡ n) ⊎ (n < m)) → m ≡ n
    go (inl a) = absurd (not_less (at m) (at n) (h m n a) e)
    go (inr (inl q)) = q
    go (inr (inr b)) = absurd (not_less (at n) (at m) (h n m b) (sym e))

-- the two cases of the order
pub before_is : {f g : List ℕ} → Before f g → (x y : ℕ) (xs ys : List ℕ) → f ≡ (x ∷ xs) → g ≡ (y ∷ ys) → (x < y) ⊎ ((x ≡ y) × Before xs ys)
before_is (less_here {m = m} {n = n} {ms = ms} {ns = ns} l) x y xs ys e f = inl (omega (arith, l, same_head m x ms xs e, same_head n y ns ys f))
before_is (less_behind {n = n} {ms = ms} {ns = ns} b) x y xs ys e f = inr (sym (same_head n x ms xs e) ∙ same_head n y ns ys f, subst₂ Before (same_tail n x ms xs e) (same_tail n y ns ys f) b)

-- a list of numbers that is before another is not empty
pub nothing_before : {f g : List ℕ} → Before f g → f ≢ []
nothing_before (less_here l) e = absurd (cc e)
nothing_before (less_behind b) e = absurd (cc e)

-- and neither is the other
pub nothing_behind : {f g : List ℕ} → Before f g → g ≢ []
nothing_behind (less_here l) e = absurd (cc e)
nothing_behind (less_behind b) e = absurd (cc e)

abbrev Keeps : (List ℕ → List ℕ) → Type 0
Keeps f = (ns ms : List ℕ) → (Before ns ms → Before (f ns) (f ms)) × (Before (f ns) (f ms) → Before ns ms)

abbrev head_first : (ℕ → ℕ) → (ℕ → List ℕ → List ℕ) → List ℕ → List ℕ
head_first at F [] = []
head_first at F (n ∷ ns) = at n ∷ F n ns

head_keeps : (at : ℕ → ℕ) (F : ℕ → List ℕ → List ℕ) → Rising at → ((n : ℕ) → Keeps (F n)) → Keeps (head_first at F)
head_keeps at F h k [] [] = ((λ b. absurd (nothing_before b refl)), (λ b. absurd (nothing_before b refl)))
head_keeps at F h k [] (m ∷ ms) = ((λ b. absurd (nothing_before b refl)), (λ b. absurd (nothing_before b refl)))
head_keeps at F h k (n ∷ ns) [] = ((λ b. absurd (nothing_behind b refl)), (λ b. absurd (nothing_behind b refl)))
head_keeps at F h k (n ∷ ns) (m ∷ ms) = ((λ b. there (before_is b n m ns ms refl refl)), (λ b. back_again (before_is b (at n) (at m) (F n ns) (F m ms) refl refl)))
  where
    there : (n < m) ⊎ ((n ≡ m) × Before ns ms) → Before (at n ∷ F n ns) (at m ∷ F m ms)
    there (inl l) = less_here (h n m l)
    there (inr e) = subst (λ w. Before (at n ∷ F n ns) (at w ∷ F w ms)) e.0 (less_behind ((k n ns ms).0 e.1))

    back_again : (at n < at m) ⊎ ((at n ≡ at m) × Before (F n ns) (F m ms)) → Before (n ∷ ns) (m ∷ ms)
    back_again (inl l) = less_here (rising_back at h n m l)
    back_again (inr e) =
        let q : n ≡ m = rising_one at h n m e.0 in
        subst (λ w. Before (n ∷ ns) (w ∷ ms)) q (less_behind ((k n ns ms).1 (subst (λ w. Before (F n ns) (F w ms)) (sym q) e.1)))

leaves_keep : (ls : List Leaf) (at : ℕ → ℕ) (rest : List ℕ → List ℕ) → Rising at → Keeps rest → Keeps (leaf_positions ls at rest)
leaves_keep [] at rest h k ns ms = k ns ms
leaves_keep (atom_leaf a xs ∷ ls) at rest h k ns ms =
    subst₂ (λ x y. (Before ns ms → Before x y) × (Before x y → Before ns ms)) (same ns) (same ms) (head_keeps at (λ n. leaf_positions ls (left_without n at) rest) h (λ n. leaves_keep ls (left_without n at) rest (without_rising n at h) k) ns ms)
  where
    same : (ns : List ℕ) → head_first at (λ n. leaf_positions ls (left_without n at) rest) ns ≡ leaf_positions (atom_leaf a xs ∷ ls) at rest ns
    same [] = refl
    same (n ∷ ns) = refl
leaves_keep (connector_leaf x y ∷ ls) at rest h k ns ms = leaves_keep ls at rest h k ns ms
leaves_keep (typed_leaf p x ∷ ls) at rest h k ns ms = leaves_keep ls at rest h k ns ms

whole_rising : Rising whole_list
whole_rising i j l = l

as_head : (l : Level) (ls : Levels) (at : ℕ → ℕ) (rest : List ℕ → List ℕ) (ns : List ℕ) → head_first at (λ n. level_positions l (membrane_positions ls (left_without n at) rest)) ns ≡ membrane_positions (level_and l ls) at rest ns
as_head l ls at rest [] = refl
as_head l ls at rest (n ∷ ns) = refl

mutual
  level_keeps : (l : Level) (rest : List ℕ → List ℕ) → Keeps rest → Keeps (level_positions l rest)
  level_keeps (level leaves membranes contexts rule_contexts rules) rest k = leaves_keep leaves whole_list (membrane_positions membranes whole_list rest) whole_rising (membranes_keep membranes whole_list rest whole_rising k)

  membranes_keep : (ls : Levels) (at : ℕ → ℕ) (rest : List ℕ → List ℕ) → Rising at → Keeps rest → Keeps (membrane_positions ls at rest)
  membranes_keep no_level at rest h k ns ms = k ns ms
  membranes_keep (level_and l ls) at rest h k ns ms =
      subst₂ (λ x y. (Before ns ms → Before x y) × (Before x y → Before ns ms)) (as_head l ls at rest ns) (as_head l ls at rest ms)
      (head_keeps at (λ n. level_positions l (membrane_positions ls (left_without n at) rest)) h (λ n. level_keeps l (membrane_positions ls (left_without n at) rest) (membranes_keep ls (left_without n at) rest (without_rising n at h) k)) ns ms)

-- the order of the numbers of embeddings is that of their positions
pub numbers_in_order : (r : Rule) (f g : List ℕ) → (Before f g → Before (positions_of r f) (positions_of r g)) × (Before (positions_of r f) (positions_of r g) → Before f g)
numbers_in_order r f g = level_keeps (head_of r) (λ ns. ns) (λ ns ms. ((λ b. b), (λ b. b))) f g

-- ---- what stands at a position

-- item number i of the first list is item number `at i` of the second
abbrev pub Stands : {A : Type 0} → (ℕ → ℕ) → List A → List A → Type 0
Stands {A} at zs xs = (i : ℕ) (x : A) (rest : List A) → Taken i x zs rest → (others : List A) × Taken (at i) x xs others

-- each item of a list stands at its own place
pub stands_itself : {A : Type 0} (xs : List A) → Stands whole_list xs xs
stands_itself xs i x rest k = (rest, k)

-- and so do those that are left, by the places without one
pub left_stands : {A : Type 0} {n : ℕ} {y : A} {zs ys xs : List A} (at : ℕ → ℕ) → Taken n y zs ys → Stands at zs xs → Stands (left_without n at) ys xs
left_stands at (taken_first {y = y}) h i x rest k = h (suc i) x (y ∷ rest) (taken_later k)
left_stands at (taken_later {z = z} {zs = zs} k) h zero x rest taken_first = h 0 z zs taken_first
left_stands at (taken_later {z = z} k) h (suc i) x rest (taken_later {ys = us} q) = left_stands (λ j. at (suc j)) k (λ j x us q. h (suc j) x (z ∷ us) (taken_later q)) i x us q

abbrev StandsIn : (ℕ → ℕ) → Regions → Regions → Type 0
StandsIn at zs ms = (i : ℕ) (m : Region) (rest : Regions) → TakenRegion i m zs rest → (others : Regions) × TakenRegion (at i) m ms others

left_stands_in : {n : ℕ} {m : Region} {zs ys ms : Regions} (at : ℕ → ℕ) → TakenRegion n m zs ys → StandsIn at zs ms → StandsIn (left_without n at) ys ms
left_stands_in at (region_first {m = y}) h i x rest k = h (suc i) x (region_and y rest) (region_later k)
left_stands_in at (region_later {k = z} {ms = zs} k) h zero x rest region_first = h 0 z zs region_first
left_stands_in at (region_later {k = z} k) h (suc i) x rest (region_later {ns = us} q) = left_stands_in (λ j. at (suc j)) k (λ j x us q. h (suc j) x (region_and z us) (region_later q)) i x us q

-- what images of atoms read of the numbers, and what they leave to others
leaves_read : {t : Assignment} {ls : List Leaf} {ns : List ℕ} {zs rest : List SolidAtom} (at : ℕ → ℕ) (f : List ℕ → List ℕ) (os : List ℕ) → AtomImages t ls ns zs rest → leaf_positions ls at f (ns ++ os) ≡ leaf_positions ls at (λ r. r) ns ++ f os
leaves_read at f os no_image = refl
leaves_read at f os (image_and {n = n} k i) = ap (λ w. at n ∷ w) (leaves_read (left_without n at) f os i)
leaves_read at f os (typed_later i) = leaves_read at f os i

mutual
  level_read : {t : Assignment} {l : Level} {ns : List ℕ} {m rest : Region} (f : List ℕ → List ℕ) (os : List ℕ) → LevelImages t l ns m rest → level_positions l f (ns ++ os) ≡ level_positions l (λ r. r) ns ++ f os
  level_read f os (level_images {leaves = leaves} {membranes = membranes} {ns = ns} {ns' = ns'} i j k) =
      let g = membrane_positions membranes whole_list f in
      let g' = membrane_positions membranes whole_list (λ r. r) in
      ap (leaf_positions leaves whole_list g) (append_assoc ns ns' os) ∙ leaves_read whole_list g (ns' ++ os) i
      ∙ ap (λ w. leaf_positions leaves whole_list (λ r. r) ns ++ w) (membranes_read whole_list f os k)
      ∙ sym (append_assoc (leaf_positions leaves whole_list (λ r. r) ns) (g' ns') (f os))
      ∙ ap (λ w. w ++ f os) (sym (leaves_read whole_list g' ns' i))

  membranes_read : {t : Assignment} {ls : Levels} {ns : List ℕ} {ms rest : Regions} (at : ℕ → ℕ) (f : List ℕ → List ℕ) (os : List ℕ) → MembraneImages t ls ns ms rest → membrane_positions ls at f (ns ++ os) ≡ membrane_positions ls at (λ r. r) ns ++ f os
  membranes_read at f os no_membrane_image = refl
  membranes_read at f os (membrane_image_and {leaves = leaves} {membranes = membranes} {ls = ls} {contexts = ps} {rule_contexts = qs} {rules = rules} {n = n} {ns = ns} {ns' = ns'} k i a b c) =
      let l = level leaves membranes ps qs rules in
      let g = membrane_positions ls (left_without n at) f in
      let g' = membrane_positions ls (left_without n at) (λ r. r) in
      ap (λ w. at n ∷ w)
      (ap (level_positions l g) (append_assoc ns ns' os) ∙ level_read g (ns' ++ os) i
      ∙ ap (λ w. level_positions l (λ r. r) ns ++ w) (membranes_read (left_without n at) f os c)
      ∙ sym (append_assoc (level_positions l (λ r. r) ns) (g' ns') (f os))
      ∙ ap (λ w. w ++ f os) (sym (level_read g' ns' i)))

atoms_stand : {t : Assignment} {ls : List Leaf} {ns : List ℕ} {zs rest xs : List SolidAtom} (at : ℕ → ℕ) → AtomImages t ls ns zs rest → Stands at zs xs → AtomsStand t xs ls (leaf_positions ls at (λ r. r) ns)
atoms_stand at no_image h = no_atom_stands
atoms_stand {t} at (image_and {a = a} {ys = ys} {n = n} {xs' = us} k i) h = atom_stands (h n (record { label = a; links = map t.link_of ys }) us k).1 (atoms_stand (left_without n at) i (left_stands at k h))
atoms_stand at (typed_later i) h = typed_stands (atoms_stand at i h)

mutual
  pub level_stands_at : {t : Assignment} {l : Level} {ns : List ℕ} {m rest : Region} → LevelImages t l ns m rest → LevelStands t l (level_positions l (λ r. r) ns) m
  level_stands_at {t} (level_images {leaves = leaves} {membranes = membranes} {contexts = ps} {rule_contexts = qs} {rules = rules} {ns = ns} {ns' = ns'} {xs = xs} {ms = ms} {rs = rs} i j k) =
      subst (λ w. LevelStands t (level leaves membranes ps qs rules) w (region xs ms rs)) (sym (leaves_read whole_list (membrane_positions membranes whole_list (λ r. r)) ns' i))
      (level_stands (atoms_stand whole_list i (stands_itself xs)) (membranes_stand_at whole_list k (λ i x rest q. (rest, q))))

  membranes_stand_at : {t : Assignment} {ls : Levels} {ns : List ℕ} {zs rest ms : Regions} (at : ℕ → ℕ) → MembraneImages t ls ns zs rest → StandsIn at zs ms → MembranesStand t ls (membrane_positions ls at (λ r. r) ns) ms
  membranes_stand_at at no_membrane_image h = no_membrane_stands
  membranes_stand_at {t} {ms = ms} at (membrane_image_and {leaves = leaves} {membranes = membranes} {ls = ls} {contexts = ps} {rule_contexts = qs} {rules = rules} {n = n} {ns = ns} {ns' = ns'} {m = m} {ms' = us} k i a b c) h =
      let l = level leaves membranes ps qs rules in
      subst (λ w. MembranesStand t (level_and l ls) (at n ∷ w) ms) (sym (level_read (membrane_positions ls (left_without n at) (λ r. r)) ns' i))
      (membrane_stands (h n m us k).1 (level_stands_at i) (membranes_stand_at (left_without n at) c (left_stands_in at k h)))

-- at the positions of an embedding stand its images
pub images_stand : (r : Rule) (f : List ℕ) (m : Region) (e : EmbedsAt r f m) → LevelStands (assignment_of e.contents) (head_of r) (positions_of r f) m
images_stand r f m e = level_stands_at (level_images_of e.lies)
