-- Where items are counted: the bound, and the number of items of a tree of membranes.
use Rattle.std.proofs.Common.{◌≡◌, ◌≢◌, ℕ, ◌+◌, ◌≤◌, ◌++◌, subst, length-append, List, [], ◌∷◌, length, map, Option, Some, None, IsSome, refl, sym, ◌∙◌, inl, inr, arith}
use Rattle.std.specs.Prelude.{sum}
use Rattle.lmn_base.specs.Lists.{In}
use Rattle.lmn_base.proofs.Lists.{in_either, some_is, sum_cons}
use Rattle.lmn_store_heap.specs.Lists.{Distinct}
use Rattle.lmn_store_heap.specs.Heap.{Heap, HeapAtom, HeapMem, within, atoms_in, rules_in, rules_by, spare_by, home_of, IsAtom, IsMem}
use Rattle.lmn_store_heap.specs.Sound.{Sound, AllInPlace, AtMost, Forest, IsTree, flat, item_count_in}
use Rattle.lmn_store_heap.proofs.Common.{listed_atom}
use Rattle.lmn_store_heap.proofs.Depths.{both_distinct}
use Rattle.lmn_store_heap.proofs.ListLemmas.{each_in, in_left, in_right}
use Rattle.lmn_store_heap.proofs.Listing.{home_is, listed_mem, within_same}
use Rattle.lmn_store_heap.proofs.Trees.{is_mem}
use Rattle.lmn_store_counts.specs.Census.{weight, total}
use Rattle.lmn_store_counts.specs.Counts.{HasCounts, BOUND, one, with_rules}
use Rattle.lmn_store_counts.proofs.CensusLemmas.{total_two, census_less}

-- totals of items that are all there
total_ones : (A : ℕ → Option HeapAtom) (ks : List ℕ) → ((k : ℕ) → In k ks → IsSome (A k)) → total one A ks ≡ length ks
total_ones A [] h = refl
total_ones A (k ∷ ks) h = let r = total_ones A ks (λ j i. h j (inr i)) in let w = by (A k) (h k (inl refl)) in omega arith
  where
    by : (o : Option HeapAtom) → IsSome o → weight one o ≡ 1
    by None i = absurd (cc)
    by (Some x) i = refl

total_rules : (B : ℕ → Option HeapMem) (ks : List ℕ) → ((k : ℕ) → In k ks → IsSome (B k)) → total with_rules B ks ≡ length ks + sum (map (λ k. length (rules_by (B k))) ks)
total_rules B [] h = refl
total_rules B (k ∷ ks) h =
    let r = total_rules B ks (λ j i. h j (inr i)) in
    let w = by (B k) (h k (inl refl)) in
    let s = sum_cons (λ k. length (rules_by (B k))) k ks in omega arith
  where
    by : (o : Option HeapMem) → IsSome o → weight with_rules o ≡ 1 + length (rules_by o)
    by None i = absurd (cc)
    by (Some x) i = refl

total_spare : (B : ℕ → Option HeapMem) (ks : List ℕ) → total (λ (x : HeapMem). x.spare) B ks ≡ sum (map (λ k. spare_by (B k)) ks)
total_spare B [] = refl
total_spare B (k ∷ ks) = let r = total_spare B ks in let w = by (B k) in let s = sum_cons (λ k. spare_by (B k)) k ks in omega arith
  where
    by : (o : Option HeapMem) → weight (λ (x : HeapMem). x.spare) o ≡ spare_by o
    by None = refl
    by (Some x) = refl

-- a heap whose items are counted is within the bound
pub at_most : (h : Heap) (n m s : ℕ) → HasCounts h.atoms h.mems n m s → AtMost BOUND h
at_most h n m s c =
    let A = h.atoms in
    let B = h.mems in
    let ac = c.atom_census in
    let mc = c.mem_census in
    let sc = c.spare_census in
    let a1 = ac.weighs ∙ total_ones A ac.keys (λ x i. (ac.all x).0 i) in
    let m1 = mc.weighs ∙ total_rules B mc.keys (λ x i. (mc.all x).0 i) in
    let s1 = sc.weighs ∙ total_two (λ (x : HeapMem). x.spare) B sc.keys mc.keys sc.once mc.once (λ x. (λ i. (mc.all x).1 ((sc.all x).0 i), λ i. (sc.all x).1 ((mc.all x).0 i))) ∙ total_spare B mc.keys in
    let low = c.bound in
    record {
      atoms = ac.keys;
      mems = mc.keys;
      all_atoms = λ a i. (ac.all a).1 i;
      all_mems = λ t i. (mc.all t).1 i;
      few = omega (arith, low);
    }

-- what stands in the membranes of a list
abbrev gather : Heap → List ℕ → List ℕ
gather h [] = []
gather h (t ∷ ts) = atoms_in h t ++ gather h ts

in_gather : (h : Heap) (ts : List ℕ) (a : ℕ) → In a (gather h ts) → (t : ℕ) × In t ts × In a (atoms_in h t)
in_gather h [] a i = absurd i
in_gather h (t ∷ ts) a i = elim (in_either a (atoms_in h t) (gather h ts) i) [
  | inl j ↦ (t, inl refl, j)
  | inr j ↦ (let w = in_gather h ts a j in (w.0, inr w.1, w.2))
]

gather_in : (h : Heap) (ts : List ℕ) (t a : ℕ) → In t ts → In a (atoms_in h t) → In a (gather h ts)
gather_in h [] t a i j = absurd i
gather_in h (u ∷ ts) t a (inl e) j = in_left a (atoms_in h u) (gather h ts) (subst (λ z. In a (atoms_in h z)) (sym e) j)
gather_in h (u ∷ ts) t a (inr i) j = in_right a (atoms_in h u) (gather h ts) (gather_in h ts t a i j)

length-gather : (h : Heap) (ts : List ℕ) → sum (map (λ t. length (atoms_in h t)) ts) ≡ length (gather h ts)
length-gather h [] = refl
length-gather h (t ∷ ts) =
    let r = length-gather h ts in
    let c = sum_cons (λ t. length (atoms_in h t)) t ts in
    let a = length-append (atoms_in h t) (gather h ts) in
    omega (arith, r, c, a)

items_split : (h : Heap) (ts : List ℕ) → item_count_in h ts ≡ length ts + sum (map (λ t. length (rules_in h t)) ts) + sum (map (λ t. length (atoms_in h t)) ts)
items_split h [] = refl
items_split h (t ∷ ts) =
    let r = items_split h ts in
    let a = sum_cons (λ t. 1 + length (atoms_in h t) + length (rules_in h t)) t ts in
    let b = sum_cons (λ t. length (rules_in h t)) t ts in
    let c = sum_cons (λ t. length (atoms_in h t)) t ts in
    omega (arith, r, a, b, c)

-- where there is a membrane one is counted
pub some_mem : (h : Heap) (n m s : ℕ) → HasCounts h.atoms h.mems n m s → IsMem h h.root → 1 ≤ m
some_mem h n m s c i = let x = some_is (h.mems h.root) i in let w = census_less with_rules h.mems m h.root x.0 x.1 c.mem_census in omega (arith, w)

module _ (h : Heap) (sound : Sound h) (n m s : ℕ) (c : HasCounts h.atoms h.mems n m s) where
  one_home : (t u a : ℕ) → In a (atoms_in h t) → In a (atoms_in h u) → t ≡ u
  one_home t u a i j =
      let e : Some (within t) ≡ Some (within u) = sym ((sound.listed.atoms t a).0 i) ∙ (sound.listed.atoms u a).0 j in
      let w : within t ≡ within u = (cc) in within_same t u w

  gather_once : (ts : List ℕ) → Distinct ts → Distinct (gather h ts)
  gather_once [] d = tt
  gather_once (t ∷ ts) d = both_distinct (atoms_in h t) (gather h ts) (sound.listed.atoms_once t) (gather_once ts d.1)
      (λ a i j. let w = in_gather h ts a j in each_in (λ z. t ≢ z) ts w.0 d.0 w.1 (one_home t w.0 a i w.2))

  -- Where all is in place the counts are of what the tree of membranes has.
  pub items_are : AllInPlace h → (f : Forest) → IsTree h f → n + m ≡ item_count_in h (flat f)
  items_are settled f t =
      let ac = c.atom_census in
      let mc = c.mem_census in
      let ts = flat f in
      let there : (x : ℕ) → In x ts → IsMem h x = λ x i. is_mem h sound f t x i in
      let all : (a : ℕ) → IsAtom h a → In a (gather h ts) = λ a i.
      let w = some_is (home_of h a) (settled.atoms a i) in
      let j : In a (atoms_in h w.0) = (sound.listed.atoms w.0 a).1 (home_is h a w.0 w.1) in
      gather_in h ts w.0 a (t.all w.0 (listed_mem h w.0 a j)) j in
      let only : (a : ℕ) → In a (gather h ts) → IsAtom h a = λ a i. let w = in_gather h ts a i in listed_atom h sound.listed w.0 a w.2 in
      let a1 = ac.weighs ∙ total_two one h.atoms ac.keys (gather h ts) ac.once (gather_once ts t.once) (λ x. (λ i. all x ((ac.all x).0 i), λ i. (ac.all x).1 (only x i))) ∙ total_ones h.atoms (gather h ts) only in
      let m1 = mc.weighs ∙ total_two with_rules h.mems mc.keys ts mc.once t.once (λ x. (λ i. t.all x ((mc.all x).0 i), λ i. (mc.all x).1 (there x i))) ∙ total_rules h.mems ts there in
      let g = length-gather h ts in
      let i = items_split h ts in
      omega (arith, a1, m1, g, i)
