-- What is left where closed contexts stand is taken out when its copies are placed.
use Rattle.std.proofs.Common.{ℕ, ◌+◌, ◌≡◌, ◌≢◌, Bool, true, false, cond, List, [], ◌∷◌, ◌++◌, Option, Some, None, refl, sym, ap, subst, ◌∙◌, inl, inr}
use Rattle.std.specs.Option.{option_map, option_and_then}
use Rattle.lmn_store_heap.specs.Heap.{Heap, HeapMem, Distinct, home_by, mem_place_of, parent_of, atoms_in, mems_in, taken, taken_all, taken_mem, without}
use Rattle.lmn_store_heap.specs.Lists.{without_all}
use Rattle.lmn_store_heap.proofs.ListLemmas.{each_in, in_left, in_right, apart, distinct_left, distinct_right}
use Rattle.lmn_store_heap.proofs.Common.{in_of_without, all_more as without_both}
use Rattle.lmn_store_heap.specs.Sound.{Listed}
use Rattle.lmn_store_heap.proofs.Listing.{taken_listed}
use Rattle.lmn_store_heap.proofs.MemListing.{taken_mem_listed}
use Rattle.lmn_ground_parts.specs.Rests.{all_mems_taken, rest_taken}
use Rattle.lmn_solid_heads.specs.Heads.{HeadMembrane}
use Rattle.lmn_instr_code.specs.declared.instr.Instr.TheVariants.{DropCells}
use Rattle.lmn_solid_bodies.specs.Code.{drops}
use Rattle.lmn_solid_bodies.specs.Running.{Registers, DoesAll}
use Rattle.lmn_solid_bodies.specs.Within.{left_of_closed}
use Rattle.lmn_solid_bodies.proofs.Growing.{same_atoms_after, some_there}
use Rattle.lmn_solid_bodies.proofs.Removing.{Shrunk, InOneList, MemInOneList, all_taken_mems, shrunk_atoms, shrunk_mems, shrunk_after}
use Rattle.lmn_base.specs.Lists.{In}

-- what is left of a list stood in it
pub in_less : (ns xs : List ℕ) (x : ℕ) → In x (without_all ns xs) → In x xs
in_less [] xs x i = i
in_less (n ∷ ns) xs x i = in_of_without n x xs (in_less ns (without n xs) x i)

shrunk_both : (s t u : Heap) (n1 k1 n2 k2 : List ℕ) → Shrunk s t n1 k1 → Shrunk t u n2 k2 → Shrunk s u (n1 ++ n2) (k1 ++ k2)
shrunk_both s t u n1 k1 n2 k2 g h = record {
  same = same_atoms_after s t u g.same h.same;
  atoms = λ x. h.atoms x ∙ ap (without_all n2) (g.atoms x) ∙ sym (without_both n1 n2 (atoms_in s x));
  mems = λ x. h.mems x ∙ ap (without_all k2) (g.mems x) ∙ sym (without_both k1 k2 (mems_in s x));
  rules = λ x. h.rules x ∙ g.rules x;
  there = λ x. h.there x ∙ g.there x;
  gone_before = λ x e. elim (h.gone_before x e) [ inl i ↦ inl (in_right x k1 k2 i) | inr f ↦ elim (g.gone_before x f) [ inl i ↦ inl (in_left x k1 k2 i) | inr q ↦ inr q ] ];
  homes = λ a o. h.homes a (λ i. o (in_right a n1 n2 i)) ∙ g.homes a (λ i. o (in_left a n1 n2 i));
  places = λ x o. h.places x (λ i. o (in_right x k1 k2 i)) ∙ g.places x (λ i. o (in_left x k1 k2 i));
  line = h.line ∙ g.line;
  mem_line = h.mem_line ∙ g.mem_line;
}

-- the two names of one function
mems_taken : (ks : List ℕ) (s : Heap) → all_mems_taken s ks ≡ all_taken_mems s ks
mems_taken [] s = refl
mems_taken (k ∷ ks) s = mems_taken ks (taken_mem s k)

parent_same : (s t : Heap) (k : ℕ) → mem_place_of t k ≡ mem_place_of s k → parent_of t k ≡ parent_of s k
parent_same s t k e = by (t.mems k) (s.mems k) e
  where
    by : (o q : Option HeapMem) → option_map (λ y. y.place) o ≡ option_map (λ y. y.place) q → option_and_then (λ y. home_by y.place) o ≡ option_and_then (λ y. home_by y.place) q
    by None None e = refl
    by None (Some y) e = absurd (cc)
    by (Some x) None e = absurd (cc)
    by (Some x) (Some y) e = let g : x.place ≡ y.place = (cc) in ap home_by g

-- what stands in one list each stands so when others are taken
pub still_one : (s t : Heap) (n1 k1 ns : List ℕ) → Shrunk s t n1 k1 → ((a : ℕ) → In a ns → In a n1 → ⊥) → InOneList s ns → InOneList t ns
still_one s t n1 k1 ns g d w a i = let v = w a i in
    (v.0, g.homes a (d a i) ∙ v.1, (λ y j. v.2 y (in_less n1 (atoms_in s y) a (subst (In a) (g.atoms y) j))), some_there (s.mems v.0) (t.mems v.0) (g.there v.0) v.3)

pub still_one_mem : (s t : Heap) (n1 k1 ks : List ℕ) → Shrunk s t n1 k1 → ((x : ℕ) → In x ks → In x k1 → ⊥) → MemInOneList s ks → MemInOneList t ks
still_one_mem s t n1 k1 ks g d w x i = let v = w x i in
    (v.0, parent_same s t x (g.places x (d x i)) ∙ v.1, (λ y j. v.2 y (in_less k1 (mems_in s y) x (subst (In x) (g.mems y) j))), some_there (s.mems v.0) (t.mems v.0) (g.there v.0) v.3)

-- one rest
pub shrunk_rest : (atoms mems : List ℕ) (s : Heap) → Distinct atoms → Distinct mems → InOneList s atoms → MemInOneList s mems → Shrunk s (rest_taken s atoms mems) atoms mems
shrunk_rest atoms mems s da dm w v =
    let t = taken_all s atoms in
    let g = shrunk_atoms atoms s da w in
    shrunk_after s t (rest_taken s atoms mems) atoms mems g
    (subst (λ z. Shrunk t z [] mems) (sym (mems_taken mems t)) (shrunk_mems mems t dm (still_one_mem s t atoms [] mems g (λ x i j. j) v)))

-- All instructions that drop shrink the heap by the rests.
pub drops_shrink : (r : Registers) (k : ℕ) (bs : List HeadMembrane) (s t : Heap) → Distinct (left_of_closed r.left_atoms k bs) → Distinct (left_of_closed r.left_membranes k bs)
    → InOneList s (left_of_closed r.left_atoms k bs) → MemInOneList s (left_of_closed r.left_membranes k bs) → DoesAll r (drops k bs) s t → Shrunk s t (left_of_closed r.left_atoms k bs) (left_of_closed r.left_membranes k bs)
drops_shrink r k [] s t da dm w v run = subst (λ z. Shrunk s z [] []) (sym run) (shrunk_atoms [] s tt (λ a i. absurd i))
drops_shrink r k (b ∷ bs) s t da dm w v run = by b.has_closed_context da dm w v run (λ s' da' dm' w' v' run'. drops_shrink r (k + 1) bs s' t da' dm' w' v' run')
  where
    by : (c : Bool) → Distinct (cond c (r.left_atoms k) [] ++ left_of_closed r.left_atoms (k + 1) bs) → Distinct (cond c (r.left_membranes k) [] ++ left_of_closed r.left_membranes (k + 1) bs)
        → InOneList s (cond c (r.left_atoms k) [] ++ left_of_closed r.left_atoms (k + 1) bs) → MemInOneList s (cond c (r.left_membranes k) [] ++ left_of_closed r.left_membranes (k + 1) bs)
        → DoesAll r (cond c (DropCells k ∷ []) [] ++ drops (k + 1) bs) s t
        → ((s' : Heap) → Distinct (left_of_closed r.left_atoms (k + 1) bs) → Distinct (left_of_closed r.left_membranes (k + 1) bs) → InOneList s' (left_of_closed r.left_atoms (k + 1) bs) → MemInOneList s' (left_of_closed r.left_membranes (k + 1) bs)
        → DoesAll r (drops (k + 1) bs) s' t → Shrunk s' t (left_of_closed r.left_atoms (k + 1) bs) (left_of_closed r.left_membranes (k + 1) bs))
        → Shrunk s t (cond c (r.left_atoms k) [] ++ left_of_closed r.left_atoms (k + 1) bs) (cond c (r.left_membranes k) [] ++ left_of_closed r.left_membranes (k + 1) bs)
    by false da dm w v run on = on s da dm w v run
    by true da dm w v run on =
        let a1 = r.left_atoms k in
        let m1 = r.left_membranes k in
        let a2 = left_of_closed r.left_atoms (k + 1) bs in
        let m2 = left_of_closed r.left_membranes (k + 1) bs in
        let u = rest_taken s a1 m1 in
        let g = shrunk_rest a1 m1 s (distinct_left a1 a2 da) (distinct_left m1 m2 dm) (λ a i. w a (in_left a a1 a2 i)) (λ x i. v x (in_left x m1 m2 i)) in
        shrunk_both s u t a1 m1 a2 m2 g
        (on u (distinct_right a1 a2 da) (distinct_right m1 m2 dm)
        (still_one s u a1 m1 a2 g (λ a i j. apart a1 a2 a a da j i refl) (λ a i. w a (in_right a a1 a2 i)))
        (still_one_mem s u a1 m1 m2 g (λ x i j. apart m1 m2 x x dm j i refl) (λ x i. v x (in_right x m1 m2 i)))
        (subst (λ z. DoesAll r (drops (k + 1) bs) z t) run.1.1 run.2))

-- Each atom and membrane to be dropped stands in a list when its turn comes.
abbrev pub InLists : Registers → ℕ → List HeadMembrane → Heap → Type 0
InLists r k bs s = Distinct (left_of_closed r.left_atoms k bs) × Distinct (left_of_closed r.left_membranes k bs) × InOneList s (left_of_closed r.left_atoms k bs) × MemInOneList s (left_of_closed r.left_membranes k bs)

pub dropped_in_list : (r : Registers) (k : ℕ) (bs : List HeadMembrane) (s : Heap) → Distinct (left_of_closed r.left_atoms k bs) → Distinct (left_of_closed r.left_membranes k bs)
    → InOneList s (left_of_closed r.left_atoms k bs) → MemInOneList s (left_of_closed r.left_membranes k bs) → InLists r k bs s
dropped_in_list r k bs s da dm w v = (da, dm, w, v)

atoms_listed : (ns : List ℕ) (s : Heap) → Listed s → Distinct ns → InOneList s ns → Listed (taken_all s ns)
atoms_listed [] s h d w = h
atoms_listed (a ∷ ns) s h d w =
    let v = w a (inl refl) in
    let one = shrunk_atoms (a ∷ []) s (tt, tt) (λ b i. w b (elim i [ inl e ↦ inl e | inr z ↦ absurd z ])) in
    atoms_listed ns (taken s a) (taken_listed s v.0 a h v.1) d.1
    (still_one s (taken s a) (a ∷ []) [] ns one (λ b i j. elim j [ inl e ↦ each_in (λ z. a ≢ z) ns b d.0 i e | inr z ↦ z ]) (λ b i. w b (inr i)))

mems_listed : (ks : List ℕ) (s : Heap) → Listed s → Distinct ks → MemInOneList s ks → Listed (all_taken_mems s ks)
mems_listed [] s h d w = h
mems_listed (k ∷ ks) s h d w =
    let v = w k (inl refl) in
    let one = shrunk_mems (k ∷ []) s (tt, tt) (λ b i. w b (elim i [ inl e ↦ inl e | inr z ↦ absurd z ])) in
    mems_listed ks (taken_mem s k) (taken_mem_listed s v.0 k h v.1) d.1
    (still_one_mem s (taken_mem s k) [] (k ∷ []) ks one (λ b i j. elim j [ inl e ↦ each_in (λ z. k ≢ z) ks b d.0 i e | inr z ↦ z ]) (λ b i. w b (inr i)))

rest_listed : (atoms mems : List ℕ) (s : Heap) → Listed s → Distinct atoms → Distinct mems → InOneList s atoms → MemInOneList s mems → Listed (rest_taken s atoms mems)
rest_listed atoms mems s h da dm w v =
    let t = taken_all s atoms in
    subst Listed (sym (mems_taken mems t)) (mems_listed mems t (atoms_listed atoms s h da w) dm (still_one_mem s t atoms [] mems (shrunk_atoms atoms s da w) (λ x i j. j) v))

-- Lists and places stay together when rests are dropped.
pub drops_listed : (r : Registers) (k : ℕ) (bs : List HeadMembrane) (s t : Heap) → Listed s → InLists r k bs s → DoesAll r (drops k bs) s t → Listed t
drops_listed r k [] s t h i run = subst Listed (sym run) h
drops_listed r k (b ∷ bs) s t h i run = by b.has_closed_context i run (λ s' h' i' run'. drops_listed r (k + 1) bs s' t h' i' run')
  where
    by : (c : Bool) → Distinct (cond c (r.left_atoms k) [] ++ left_of_closed r.left_atoms (k + 1) bs) × Distinct (cond c (r.left_membranes k) [] ++ left_of_closed r.left_membranes (k + 1) bs)
        × InOneList s (cond c (r.left_atoms k) [] ++ left_of_closed r.left_atoms (k + 1) bs) × MemInOneList s (cond c (r.left_membranes k) [] ++ left_of_closed r.left_membranes (k + 1) bs)
        → DoesAll r (cond c (DropCells k ∷ []) [] ++ drops (k + 1) bs) s t
        → ((s' : Heap) → Listed s' → InLists r (k + 1) bs s' → DoesAll r (drops (k + 1) bs) s' t → Listed t) → Listed t
    by false i run on = on s h i run
    by true (da, dm, w, v) run on =
        let a1 = r.left_atoms k in
        let m1 = r.left_membranes k in
        let a2 = left_of_closed r.left_atoms (k + 1) bs in
        let m2 = left_of_closed r.left_membranes (k + 1) bs in
        let u = rest_taken s a1 m1 in
        let g = shrunk_rest a1 m1 s (distinct_left a1 a2 da) (distinct_left m1 m2 dm) (λ a i. w a (in_left a a1 a2 i)) (λ x i. v x (in_left x m1 m2 i)) in
        on u (rest_listed a1 m1 s h (distinct_left a1 a2 da) (distinct_left m1 m2 dm) (λ a i. w a (in_left a a1 a2 i)) (λ x i. v x (in_left x m1 m2 i))) (
          distinct_right a1 a2 da,
          distinct_right m1 m2 dm,
          still_one s u a1 m1 a2 g (λ a i j. apart a1 a2 a a da j i refl) (λ a i. w a (in_right a a1 a2 i)),
          still_one_mem s u a1 m1 m2 g (λ x i j. apart m1 m2 x x dm j i refl) (λ x i. v x (in_right x m1 m2 i)),
        )
        (subst (λ z. DoesAll r (drops (k + 1) bs) z t) run.1.1 run.2)
