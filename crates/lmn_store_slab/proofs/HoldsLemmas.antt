-- What holds of a store over slabs, after each call that needs no loop.
use Rattle.std.proofs.Common.{◌≡◌, ◌⊎◌, ℕ, ◌+◌, ◌<◌, ◌≤◌, ◌^◌, ◌↔◌, List, [], ◌∷◌, ◌++◌, length, Option, Some, None, IsSome, refl, sym, ap, subst, ◌∙◌, inl, inr, arith}
use Rattle.std.proofs.lemmas.Bool.{cases_eq}
use Rattle.std.specs.Option.{option_map, option_and_then}
use Rattle.std.specs.Prelude.{slice_index_or}
use Rattle.lmn_base.specs.declared.functor.Functor.{Functor}
use Rattle.lmn_store_heap.specs.Lists.{without, from}
use Rattle.lmn_store_heap.specs.Heap.{Heap, HeapAtom, HeapMem, Place, top, within, waiting, gone, alter, home_by, arity_of, link_of, port_id, with_place, with_mark, with_link, mem_with_place, new_atom, new_mem, linked, cleared, joined, marked, made_atom, made_mem, placed, placed_mem, taken, taken_mem, IsMem, IsMemInPlace, IsInPlace, IsPlacedMem}
use Rattle.lmn_store_heap.proofs.Listing.{alter_at, alter_away}
use Rattle.lmn_store_slab.specs.Lines.{HeldLists, SameSize, list_at}
use Rattle.lmn_store_slab.specs.declared.cell.AtomCell.{AtomCell}
use Rattle.lmn_store_slab.specs.declared.cell.MemCell.{MemCell}
use Rattle.lmn_store_slab.specs.Cells.{atoms_in_cells, mems_in_cells, atom_in_cell, mem_in_cell, built, with_lists, place_by, mem_place_by}
use Rattle.lmn_store_counts.specs.Census.{Census, weight}
use Rattle.lmn_store_slab.specs.Kept.{Kept, AlwaysHolds, ItemsAreFiled, Room, heap_of, place_in, mem_place_in}
use Rattle.lmn_store_counts.specs.Counts.{HasCounts, BOUND, one, with_rules}
use Rattle.lmn_store_slab.proofs.Files.{place_within, only_list}
use Rattle.lmn_store_counts.proofs.CensusLemmas.{census_same, census_alter, census_add}
use Rattle.lmn_store_slab.proofs.BuiltLemmas.{built_mem, built_parent, built_made, built_placed, built_taken, built_made_mem, built_placed_mem, built_taken_mem}
use Rattle.lmn_store_slab.proofs.FitsLemmas.{fits_placed, fits_taken, fits_made, fits_joined, fits_marked, fits_placed_mem, fits_taken_mem, fits_made_mem, fits_mems, first_waits, first_mem_waits}
use Rattle.lmn_base.specs.Lists.{In}

-- Which items there are

-- the same are there
abbrev pub Alike : {X : Type 0} → (ℕ → Option X) → (ℕ → Option X) → Type 0
Alike f g = (x : ℕ) → IsSome (g x) ↔ IsSome (f x)

-- a change of one leaves the same there
pub alike_alter : {X : Type 0} (f : ℕ → Option X) (a : ℕ) (h : X → X) → Alike f (alter f a (option_map h))
alike_alter {X} f a h x = elim (cases_eq x a) [
  | inl e ↦ subst (λ z. IsSome (alter f a (option_map h) z) ↔ IsSome (f z)) (sym e) (subst (λ (o : Option X). IsSome o ↔ IsSome (f a)) (sym (alter_at f a (option_map h))) (by (f a)))
  | inr d ↦ subst (λ (o : Option X). IsSome o ↔ IsSome (f x)) (sym (alter_away f a (option_map h) x d)) (λ i. i, λ i. i)
]
  where
    by : (o : Option X) → IsSome (option_map h o) ↔ IsSome o
    by None = (λ i. i, λ i. i)
    by (Some y) = (λ _. refl, λ _. refl)

alike_and : {X : Type 0} (f g h : ℕ → Option X) → Alike f g → Alike g h → Alike f h
alike_and f g h p q x = (λ i. (p x).0 ((q x).0 i), λ i. (q x).1 ((p x).1 i))

alike_cleared : (f : ℕ → Option HeapAtom) (p : Option (ℕ × ℕ)) → Alike f (cleared f p)
alike_cleared f None x = (λ i. i, λ i. i)
alike_cleared f (Some p) x = alike_alter f p.0 (with_link p.1 None) x

-- and so does joining
pub alike_joined : (s : Heap) (a i b j : ℕ) → Alike s.atoms (joined s a i b j).atoms
alike_joined s a i b j =
    let f1 = cleared s.atoms (link_of s a i) in
    let f2 = cleared f1 (link_of s b j) in
    let f3 = linked f2 a i (Some (b, j)) in
    alike_and s.atoms f3 (linked f3 b j (Some (a, i)))
    (alike_and s.atoms f2 f3 (alike_and s.atoms f1 f2 (alike_cleared s.atoms (link_of s a i)) (alike_cleared f1 (link_of s b j))) (alike_alter f2 a (with_link i (Some (b, j)))))
    (alike_alter f3 b (with_link j (Some (a, i))))

-- where the same are there they are as many
pub census_alike : (f g : ℕ → Option HeapAtom) (n : ℕ) → Alike f g → Census one f n → Census one g n
census_alike f g n a c = census_same one f g n a (λ k. by (g k) (f k) (a k)) c
  where
    by : (o u : Option HeapAtom) → IsSome o ↔ IsSome u → weight one o ≡ weight one u
    by None None e = refl
    by None (Some x) e = absurd (let w : IsSome {T = HeapAtom} None = e.1 refl in cc)
    by (Some x) None e = absurd (let w : IsSome {T = HeapAtom} None = e.0 refl in cc)
    by (Some x) (Some y) e = refl

-- where the same are there they need the same room
pub room_alike : (A A1 : ℕ → Option HeapAtom) (B B1 : ℕ → Option HeapMem) (a m a1 m1 : HeldLists) → Alike A A1 → Alike B B1 → SameSize a a1 → SameSize m m1 → Room A B a m → Room A1 B1 a1 m1
room_alike A A1 B B1 a m a1 m1 p q s t r = record {
  atom_number = λ x i. rw s.size (r.atom_number x ((p x).0 i));
  mem_number = λ x i. rw t.size (r.mem_number x ((q x).0 i));
  atom_list = λ x i. rw s.lists (r.atom_list x ((q x).0 i));
  mem_list = λ x i. rw t.lists (r.mem_list x ((q x).0 i));
  small = rw s.lists r.small;
  mem_small = rw t.lists r.mem_small;
}

-- what stays is the same
pub alike_none : {X : Type 0} (f : ℕ → Option X) → Alike f f
alike_none f x = (λ i. i, λ i. i)

-- and has the same size
pub same_size : (h : HeldLists) → SameSize h h
same_size h = record { lists = refl; size = refl }

-- what holds of the new fields
pub holds_by : (k : Kept) (n m s : ℕ) (A : ℕ → Option HeapAtom) (B : ℕ → Option HeapMem) (L M : ℕ → List ℕ)
    → atoms_in_cells k.atoms ≡ A → mems_in_cells k.mems ≡ B → list_at k.atom_lists ≡ L → list_at k.mem_lists ≡ M
    → ItemsAreFiled A B L M → Room A B k.atom_lists k.mem_lists → HasCounts A B n m s → AlwaysHolds k n m s
holds_by k n m s A B L M ea eb el em f r c = record {
  fits = rw (ea, eb, el, em) f;
  room = rw (ea, eb) r;
  counts = rw (ea, eb) c;
}

-- a store whose cells and lists hold these is the heap made of them
pub heap_by : (k : Kept) (A : ℕ → Option HeapAtom) (B : ℕ → Option HeapMem) (L M : ℕ → List ℕ)
    → atoms_in_cells k.atoms ≡ A → mems_in_cells k.mems ≡ B → list_at k.atom_lists ≡ L → list_at k.mem_lists ≡ M → heap_of k ≡ built A B L M
heap_by k A B L M ea eb el em = λ j. built (ea j) (eb j) (el j) (em j)

-- counts stay where the same atoms are there
pub atoms_alike : (A A1 : ℕ → Option HeapAtom) (B : ℕ → Option HeapMem) (n m s : ℕ) → Alike A A1 → HasCounts A B n m s → HasCounts A1 B n m s
atoms_alike A A1 B n m s a c = record { atom_census = census_alike A A1 n a c.atom_census; mem_census = c.mem_census; spare_census = c.spare_census; bound = c.bound }

-- and where a membrane keeps its rules
pub mems_alter : (A : ℕ → Option HeapAtom) (B : ℕ → Option HeapMem) (n m s x : ℕ) (h : HeapMem → HeapMem) → ((y : HeapMem) → with_rules (h y) ≡ with_rules y) → ((y : HeapMem) → (h y).spare ≡ y.spare)
    → HasCounts A B n m s → HasCounts A (alter B x (option_map h)) n m s
mems_alter A B n m s x h p q c = record {
  atom_census = c.atom_census;
  mem_census = census_alter with_rules B m x h p c.mem_census;
  spare_census = census_alter (λ y. y.spare) B s x h q c.spare_census;
  bound = c.bound;
}

-- a home and a place
pub in_home : (o : Option HeapAtom) → IsSome (option_and_then (λ x. home_by x.place) o) → (m : ℕ) × (option_map (λ x. x.place) o ≡ Some (within m))
in_home None i = absurd (cc)
in_home (Some x) i = by x.place refl i
  where
    by : (P : Place) → x.place ≡ P → IsSome (home_by P) → (m : ℕ) × (Some x.place ≡ Some (within m))
    by top e i = absurd (cc)
    by (within m) e i = (m, ap (λ z. Some z) e)
    by waiting e i = absurd (cc)
    by gone e i = absurd (cc)

-- what has a parent stands in it
pub in_parent : (o : Option HeapMem) → IsSome (option_and_then (λ x. home_by x.place) o) → (m : ℕ) × (option_map (λ x. x.place) o ≡ Some (within m))
in_parent None i = absurd (cc)
in_parent (Some x) i = by x.place refl i
  where
    by : (P : Place) → x.place ≡ P → IsSome (home_by P) → (m : ℕ) × (Some x.place ≡ Some (within m))
    by top e i = absurd (cc)
    by (within m) e i = (m, ap (λ z. Some z) e)
    by waiting e i = absurd (cc)
    by gone e i = absurd (cc)

-- One store, before a call and after it.
module _ (k : Kept) (n m s : ℕ) (h : AlwaysHolds k n m s) where
  abbrev A : ℕ → Option HeapAtom
  A = atoms_in_cells k.atoms

  abbrev B : ℕ → Option HeapMem
  B = mems_in_cells k.mems

  abbrev L : ℕ → List ℕ
  L = list_at k.atom_lists

  abbrev M : ℕ → List ℕ
  M = list_at k.mem_lists

  -- a membrane in whose list something stands
  pub mem_there : (t x : ℕ) → In x (L (t + 2)) → IsSome (B t)
  mem_there t x i = by (B t) (λ e. subst (In x) ((h.fits.bare t (inl (ap (λ (o : Option HeapMem). option_map (λ y. y.place) o) e))).0) i)
    where
      by : (o : Option HeapMem) → (o ≡ None → ⊥) → IsSome o
      by None d = absurd (d refl)
      by (Some y) d = refl

  pub mem_there_mem : (t x : ℕ) → In x (M (t + 2)) → IsSome (B t)
  mem_there_mem t x i = by (B t) (λ e. subst (In x) ((h.fits.bare t (inl (ap (λ (o : Option HeapMem). option_map (λ y. y.place) o) e))).1) i)
    where
      by : (o : Option HeapMem) → (o ≡ None → ⊥) → IsSome o
      by None d = absurd (d refl)
      by (Some y) d = refl

  -- `is_mem` of the heap is of the cells
  pub mem_is : (t : ℕ) → IsMem (heap_of k) t → IsSome (B t)
  mem_is t i = by (B t) i
    where
      by : (o : Option HeapMem) → IsSome (option_map (with_lists (L (t + 2)) (M (t + 2))) o) → IsSome o
      by None i = absurd (cc)
      by (Some x) i = refl

  pub root_is : IsSome (B 0)
  root_is = by (B 0) ((h.fits.root 0).1 refl)
    where
      by : (o : Option HeapMem) → option_map (λ x. x.place) o ≡ Some top → IsSome o
      by None e = absurd (cc)
      by (Some x) e = refl

  -- every list of the two lines and of membranes
  pub line_there : (l : ℕ) → l < 3 → l < length k.atom_lists.lists
  line_there l w = let b = h.room.atom_list 0 root_is in omega arith

  pub mem_line_there : (l : ℕ) → l < 3 → l < length k.mem_lists.lists
  mem_line_there l w = let b = h.room.mem_list 0 root_is in omega arith

  pub atom_list_of : (a : ℕ) (c : AtomCell) → slice_index_or k.atoms a None ≡ Some c → place_in A a ≡ Some (place_by c.list)
  atom_list_of a c at = ap (λ (o : Option AtomCell). option_map (λ x. x.place) (option_map atom_in_cell o)) at

  pub in_own_list : (a : ℕ) (c : AtomCell) → slice_index_or k.atoms a None ≡ Some c → In a (L c.list)
  in_own_list a c at = (h.fits.atom_files.filed c.list a).1 (atom_list_of a c at)

  pub mem_list_of : (t : ℕ) (c : MemCell) → slice_index_or k.mems t None ≡ Some c → mem_place_in B t ≡ Some (mem_place_by c.list)
  mem_list_of t c at = ap (λ (o : Option MemCell). option_map (λ x. x.place) (option_map mem_in_cell o)) at

  module _ (a : ℕ) (c : AtomCell) (at : slice_index_or k.atoms a None ≡ Some c) (placed : IsInPlace (heap_of k) a) where
    pub own_home : (t : ℕ) × (c.list ≡ t + 2) × (place_in A a ≡ Some (within t))
    own_home =
        let w = in_home (A a) placed in
        let e : Some (place_by c.list) ≡ Some (within w.0) = sym (atom_list_of a c at) ∙ w.1 in
        (w.0, place_within c.list w.0 (let u : place_by c.list ≡ within w.0 = (cc) in u), w.1)

    pub own_list_there : c.list < length k.atom_lists.lists
    own_list_there =
        let w = own_home in
        let i : In a (L (w.0 + 2)) = subst (λ z. In a (L z)) w.1 (in_own_list a c at) in
        rw w.1 (h.room.atom_list w.0 (mem_there w.0 a i))

    -- `take_atom`
    pub take_pair : (k1 : Kept) → atoms_in_cells k1.atoms ≡ alter A a (option_map (with_place (place_by 1))) → k1.mems ≡ k.mems
        → list_at k1.atom_lists ≡ alter (alter L c.list (without a)) 1 (λ xs. xs ++ a ∷ []) → SameSize k.atom_lists k1.atom_lists → k1.mem_lists ≡ k.mem_lists
        → AlwaysHolds k1 n m s × (heap_of k1 ≡ taken (heap_of k) a)
    take_pair k1 ea em el size eml =
        let w = own_home in
        let A1 : ℕ → Option HeapAtom = alter A a (option_map (with_place (place_by 1))) in
        let L1 : ℕ → List ℕ = alter (alter L (w.0 + 2) (without a)) 1 (λ xs. xs ++ a ∷ []) in
        let el1 : list_at k1.atom_lists ≡ L1 = el ∙ ap (λ l. alter (alter L l (without a)) 1 (λ xs. xs ++ a ∷ [])) w.1 in
        let eb : mems_in_cells k1.mems ≡ B = ap mems_in_cells em in
        let eml1 : list_at k1.mem_lists ≡ M = ap (λ (x : HeldLists). list_at x) eml in (
          holds_by k1 n m s A1 B L1 M ea eb el1 eml1 (fits_taken A B L M h.fits w.0 a w.2)
              (subst (λ z. Room A1 B k1.atom_lists z) (sym eml) (room_alike A A1 B B k.atom_lists k.mem_lists k1.atom_lists k.mem_lists (alike_alter A a (with_place (place_by 1))) (alike_none B) size (same_size k.mem_lists) h.room))
              (atoms_alike A A1 B n m s (alike_alter A a (with_place (place_by 1))) h.counts),
          heap_by k1 A1 B L1 M ea eb el1 eml1 ∙ built_taken A B L M w.0 a w.2,
        )

  -- `set_mark`
  pub mark_pair : (k1 : Kept) (a i v : ℕ) → atoms_in_cells k1.atoms ≡ alter A a (option_map (with_mark i v)) → k1.mems ≡ k.mems → k1.atom_lists ≡ k.atom_lists → k1.mem_lists ≡ k.mem_lists
      → AlwaysHolds k1 n m s × (heap_of k1 ≡ marked (heap_of k) a i v)
  mark_pair k1 a i v ea em el eml =
      let A1 : ℕ → Option HeapAtom = alter A a (option_map (with_mark i v)) in
      let eb : mems_in_cells k1.mems ≡ B = ap mems_in_cells em in
      let el1 : list_at k1.atom_lists ≡ L = ap (λ (x : HeldLists). list_at x) el in
      let eml1 : list_at k1.mem_lists ≡ M = ap (λ (x : HeldLists). list_at x) eml in (
        holds_by k1 n m s A1 B L M ea eb el1 eml1 (fits_marked A B L M h.fits a i v)
            (rw (el, eml) (room_alike A A1 B B k.atom_lists k.mem_lists k.atom_lists k.mem_lists (alike_alter A a (with_mark i v)) (alike_none B) (same_size k.atom_lists) (same_size k.mem_lists) h.room))
            (atoms_alike A A1 B n m s (alike_alter A a (with_mark i v)) h.counts),
        heap_by k1 A1 B L M ea eb el1 eml1,
      )

  same_port : (o : Option (ℕ × ℕ)) → option_map (port_id (λ a. a)) o ≡ o
  same_port None = refl
  same_port (Some p) = refl

  -- `join`
  pub join_pair : (k1 : Kept) (a i b j : ℕ) → i < arity_of (heap_of k) a → j < arity_of (heap_of k) b → (◌≡◌ {A = ℕ × ℕ} (a, i) (b, j) → ⊥)
      → (p q : Option (ℕ × ℕ)) → link_of (heap_of k) a i ≡ option_map (port_id (λ a. a)) p → link_of (heap_of k) b j ≡ option_map (port_id (λ a. a)) q
      → (f1 f2 f3 : ℕ → Option HeapAtom) → f1 ≡ cleared A p → f2 ≡ cleared f1 q → f3 ≡ linked f2 a i (Some (b, j)) → atoms_in_cells k1.atoms ≡ linked f3 b j (Some (a, i))
      → k1.mems ≡ k.mems → k1.atom_lists ≡ k.atom_lists → k1.mem_lists ≡ k.mem_lists
      → AlwaysHolds k1 n m s × (heap_of k1 ≡ joined (heap_of k) a i b j)
  join_pair k1 a i b j ra rb differ p q ep eq f1 f2 f3 e1 e2 e3 e4 em el eml =
      let A1 : ℕ → Option HeapAtom = (joined (heap_of k) a i b j).atoms in
      let p1 : link_of (heap_of k) a i ≡ p = ep ∙ same_port p in
      let q1 : link_of (heap_of k) b j ≡ q = eq ∙ same_port q in
      let ea : atoms_in_cells k1.atoms ≡ A1 = e4 ∙ (λ t. linked ((e3 ∙ (λ u. linked ((e2 ∙ (λ v. cleared ((e1 ∙ ap (cleared A) (sym p1)) v) (sym q1 v))) u) a i (Some (b, j)))) t) b j (Some (a, i))) in
      let eb : mems_in_cells k1.mems ≡ B = ap mems_in_cells em in
      let el1 : list_at k1.atom_lists ≡ L = ap (λ (x : HeldLists). list_at x) el in
      let eml1 : list_at k1.mem_lists ≡ M = ap (λ (x : HeldLists). list_at x) eml in
      let like = alike_joined (heap_of k) a i b j in (
        holds_by k1 n m s A1 B L M ea eb el1 eml1 (fits_joined A B L M h.fits a i b j ra rb (λ w. differ (λ t. (w.0 t, w.1 t))))
            (rw (el, eml) (room_alike A A1 B B k.atom_lists k.mem_lists k.atom_lists k.mem_lists like (alike_none B) (same_size k.atom_lists) (same_size k.mem_lists) h.room))
            (atoms_alike A A1 B n m s like h.counts),
        heap_by k1 A1 B L M ea eb el1 eml1,
      )

  -- The first that waits
  module _ (a : ℕ) (first : from (Some a) (L 0) ≡ L 0) where
    pub first_number : a < k.atom_lists.size
    first_number = h.room.atom_number a (by (A a) (first_waits A B L M h.fits a first))
      where
        by : (o : Option HeapAtom) → option_map (λ x. x.place) o ≡ Some (place_by 0) → IsSome o
        by None e = absurd (cc)
        by (Some x) e = refl

    pub first_only : (l : ℕ) → In a (L l) → l ≡ 0
    first_only = only_list L (place_in A) h.fits.atom_files a 0 (first_waits A B L M h.fits a first)

    -- `place_atom`
    pub place_pair : (k1 : Kept) (t : ℕ) → IsMemInPlace (heap_of k) t → atoms_in_cells k1.atoms ≡ alter A a (option_map (with_place (place_by (t + 2)))) → k1.mems ≡ k.mems
        → list_at k1.atom_lists ≡ alter (alter L 0 (without a)) (t + 2) (λ xs. xs ++ a ∷ []) → SameSize k.atom_lists k1.atom_lists → k1.mem_lists ≡ k.mem_lists
        → AlwaysHolds k1 n m s × (heap_of k1 ≡ placed (heap_of k) t a)
    place_pair k1 t stands ea em el size eml =
        let A1 : ℕ → Option HeapAtom = alter A a (option_map (with_place (place_by (t + 2)))) in
        let L1 : ℕ → List ℕ = alter (alter L 0 (without a)) (t + 2) (λ xs. xs ++ a ∷ []) in
        let eb : mems_in_cells k1.mems ≡ B = ap mems_in_cells em in
        let eml1 : list_at k1.mem_lists ≡ M = ap (λ (x : HeldLists). list_at x) eml in
        let like = alike_alter A a (with_place (place_by (t + 2))) in (
          holds_by k1 n m s A1 B L1 M ea eb el eml1 (fits_placed A B L M h.fits t a stands first)
              (subst (λ z. Room A1 B k1.atom_lists z) (sym eml) (room_alike A A1 B B k.atom_lists k.mem_lists k1.atom_lists k.mem_lists like (alike_none B) size (same_size k.mem_lists) h.room))
              (atoms_alike A A1 B n m s like h.counts),
          heap_by k1 A1 B L1 M ea eb el eml1 ∙ built_placed A B L M t a first,
        )

  module _ (t : ℕ) (first : from (Some t) (M 0) ≡ M 0) where
    pub first_mem_number : t < k.mem_lists.size
    first_mem_number = h.room.mem_number t (by (B t) (first_mem_waits A B L M h.fits t first))
      where
        by : (o : Option HeapMem) → option_map (λ x. x.place) o ≡ Some (place_by 0) → IsSome o
        by None e = absurd (cc)
        by (Some x) e = refl

    pub first_mem_only : (l : ℕ) → In t (M l) → l ≡ 0
    first_mem_only = only_list M (mem_place_in B) h.fits.mem_files t 0 (first_mem_waits A B L M h.fits t first)

    -- `place_mem`
    pub place_mem_pair : (k1 : Kept) (u : ℕ) → IsMemInPlace (heap_of k) u → k1.atoms ≡ k.atoms → mems_in_cells k1.mems ≡ alter B t (option_map (mem_with_place (place_by (u + 2))))
        → k1.atom_lists ≡ k.atom_lists → list_at k1.mem_lists ≡ alter (alter M 0 (without t)) (u + 2) (λ xs. xs ++ t ∷ []) → SameSize k.mem_lists k1.mem_lists
        → AlwaysHolds k1 n m s × (heap_of k1 ≡ placed_mem (heap_of k) u t)
    place_mem_pair k1 u stands ea eb el eml size =
        let B1 : ℕ → Option HeapMem = alter B t (option_map (mem_with_place (place_by (u + 2)))) in
        let M1 : ℕ → List ℕ = alter (alter M 0 (without t)) (u + 2) (λ xs. xs ++ t ∷ []) in
        let ea1 : atoms_in_cells k1.atoms ≡ A = ap atoms_in_cells ea in
        let el1 : list_at k1.atom_lists ≡ L = ap (λ (x : HeldLists). list_at x) el in (
          holds_by k1 n m s A B1 L M1 ea1 eb el1 eml (fits_placed_mem A B L M h.fits u t stands first)
              (subst (λ z. Room A B1 z k1.mem_lists) (sym el) (room_alike A A B B1 k.atom_lists k.mem_lists k.atom_lists k1.mem_lists (alike_none A) (alike_alter B t (mem_with_place (place_by (u + 2)))) (same_size k.atom_lists) size h.room))
              (mems_alter A B n m s t (mem_with_place (place_by (u + 2))) (λ y. refl) (λ y. refl) h.counts),
          heap_by k1 A B1 L M1 ea1 eb el1 eml ∙ built_placed_mem A B L M u t first,
        )

  module _ (t l : ℕ) (c : MemCell) (at : slice_index_or k.mems t None ≡ Some c) (own : c.list ≡ Some l) (placed : IsPlacedMem (heap_of k) t) where
    own_place : mem_place_in B t ≡ Some (place_by l)
    own_place = mem_list_of t c at ∙ ap (λ z. Some (mem_place_by z)) own

    pub own_parent : (u : ℕ) × (l ≡ u + 2) × (mem_place_in B t ≡ Some (within u))
    own_parent =
        let w = in_parent (B t) (subst (λ (o : Option ℕ). IsSome o) (built_parent A B L M t) placed) in
        let e : Some (place_by l) ≡ Some (within w.0) = sym own_place ∙ w.1 in
        (w.0, place_within l w.0 (let u : place_by l ≡ within w.0 = (cc) in u), w.1)

    pub own_mem_in : In t (M l)
    own_mem_in = (h.fits.mem_files.filed l t).1 own_place

    pub own_mem_list_there : l < length k.mem_lists.lists
    own_mem_list_there =
        let w = own_parent in
        let i : In t (M (w.0 + 2)) = subst (λ z. In t (M z)) w.1 own_mem_in in
        rw w.1 (h.room.mem_list w.0 (mem_there_mem w.0 t i))

    -- `take_mem`
    pub take_mem_pair : (k1 : Kept) → k1.atoms ≡ k.atoms → mems_in_cells k1.mems ≡ alter B t (option_map (mem_with_place (place_by 1)))
        → k1.atom_lists ≡ k.atom_lists → list_at k1.mem_lists ≡ alter (alter M l (without t)) 1 (λ xs. xs ++ t ∷ []) → SameSize k.mem_lists k1.mem_lists
        → AlwaysHolds k1 n m s × (heap_of k1 ≡ taken_mem (heap_of k) t)
    take_mem_pair k1 ea eb el eml size =
        let w = own_parent in
        let B1 : ℕ → Option HeapMem = alter B t (option_map (mem_with_place (place_by 1))) in
        let M1 : ℕ → List ℕ = alter (alter M (w.0 + 2) (without t)) 1 (λ xs. xs ++ t ∷ []) in
        let ea1 : atoms_in_cells k1.atoms ≡ A = ap atoms_in_cells ea in
        let el1 : list_at k1.atom_lists ≡ L = ap (λ (x : HeldLists). list_at x) el in
        let eml1 : list_at k1.mem_lists ≡ M1 = eml ∙ ap (λ j. alter (alter M j (without t)) 1 (λ xs. xs ++ t ∷ [])) w.1 in (
          holds_by k1 n m s A B1 L M1 ea1 eb el1 eml1 (fits_taken_mem A B L M h.fits w.0 t w.2)
              (subst (λ z. Room A B1 z k1.mem_lists) (sym el) (room_alike A A B B1 k.atom_lists k.mem_lists k.atom_lists k1.mem_lists (alike_none A) (alike_alter B t (mem_with_place (place_by 1))) (same_size k.atom_lists) size h.room))
              (mems_alter A B n m s t (mem_with_place (place_by 1)) (λ y. refl) (λ y. refl) h.counts),
          heap_by k1 A B1 L M1 ea1 eb el1 eml1 ∙ built_taken_mem A B L M w.0 t w.2,
        )

  -- New items

  pub fresh_free : (a : ℕ) → A a ≡ None → (l : ℕ) → In a (L l) → ⊥
  fresh_free a none l i = let w : Some (place_by l) ≡ None = sym ((h.fits.atom_files.filed l a).0 i) ∙ ap (λ (o : Option HeapAtom). option_map (λ x. x.place) o) none in absurd (cc)

  pub fresh_mem_free : (t : ℕ) → B t ≡ None → (l : ℕ) → In t (M l) → ⊥
  fresh_mem_free t none l i = let w : Some (place_by l) ≡ None = sym ((h.fits.mem_files.filed l t).0 i) ∙ ap (λ (o : Option HeapMem). option_map (λ x. x.place) o) none in absurd (cc)

  new_is : {X : Type 0} (f : ℕ → Option X) (a x : ℕ) (y : X) → IsSome (alter f a (λ _. Some y) x) → (x ≡ a) ⊎ IsSome (f x)
  new_is {X} f a x y i = elim (cases_eq x a) [ inl e ↦ inl e | inr d ↦ inr (subst (λ (o : Option X). IsSome o) (alter_away f a (λ _. Some y) x d) i) ]

  -- `make_atom`
  pub make_pair : (k1 : Kept) (a : ℕ) (g : Functor) → A a ≡ None → n + m + s < BOUND → a < k1.atom_lists.size → atoms_in_cells k1.atoms ≡ alter A a (λ _. Some (new_atom g)) → k1.mems ≡ k.mems
      → list_at k1.atom_lists ≡ alter L 0 (λ xs. xs ++ a ∷ []) → length k1.atom_lists.lists ≡ length k.atom_lists.lists → k.atom_lists.size ≤ k1.atom_lists.size → k1.mem_lists ≡ k.mem_lists
      → AlwaysHolds k1 (n + 1) m s × (heap_of k1 ≡ made_atom (heap_of k) a g)
  make_pair k1 a g fresh low number ea em el same grows eml =
      let A1 : ℕ → Option HeapAtom = alter A a (λ _. Some (new_atom g)) in
      let L1 : ℕ → List ℕ = alter L 0 (λ xs. xs ++ a ∷ []) in
      let eb : mems_in_cells k1.mems ≡ B = ap mems_in_cells em in
      let eml1 : list_at k1.mem_lists ≡ M = ap (λ (x : HeldLists). list_at x) eml in
      let room : Room A1 B k1.atom_lists k.mem_lists = record {
        atom_number = λ x i. elim (new_is A a x (new_atom g) i) [ inl e ↦ rw e number | inr j ↦ (let b = h.room.atom_number x j in omega arith) ];
        mem_number = h.room.mem_number;
        atom_list = λ x i. rw same (h.room.atom_list x i);
        mem_list = h.room.mem_list;
        small = rw same h.room.small;
        mem_small = h.room.mem_small;
      } in
      let c = h.counts in (
        holds_by k1 (n + 1) m s A1 B L1 M ea eb el eml1 (fits_made A B L M h.fits a g fresh)
            (subst (λ z. Room A1 B k1.atom_lists z) (sym eml) room)
            (record { atom_census = census_add one A n a (new_atom g) fresh c.atom_census; mem_census = c.mem_census; spare_census = c.spare_census; bound = omega arith }),
        heap_by k1 A1 B L1 M ea eb el eml1 ∙ built_made A B L M a g,
      )

  -- `make_mem`
  pub make_mem_pair : (k1 : Kept) (t : ℕ) → B t ≡ None → n + m + s < BOUND → t < k1.mem_lists.size → t + 2 < length k1.atom_lists.lists → t + 2 < length k1.mem_lists.lists
      → length k1.atom_lists.lists < 2 ^ 63 → length k1.mem_lists.lists < 2 ^ 63
      → k1.atoms ≡ k.atoms → mems_in_cells k1.mems ≡ alter B t (λ _. Some new_mem)
      → list_at k1.atom_lists ≡ L → length k.atom_lists.lists ≤ length k1.atom_lists.lists → k1.atom_lists.size ≡ k.atom_lists.size
      → list_at k1.mem_lists ≡ alter M 0 (λ xs. xs ++ t ∷ []) → length k.mem_lists.lists ≤ length k1.mem_lists.lists → k.mem_lists.size ≤ k1.mem_lists.size
      → AlwaysHolds k1 n (m + 1) s × (heap_of k1 ≡ made_mem (heap_of k) t)
  make_mem_pair k1 t fresh low number list mem_list small mem_small ea eb el more_lists size eml more_mem_lists grows =
      let B1 : ℕ → Option HeapMem = alter B t (λ _. Some new_mem) in
      let M1 : ℕ → List ℕ = alter M 0 (λ xs. xs ++ t ∷ []) in
      let ea1 : atoms_in_cells k1.atoms ≡ A = ap atoms_in_cells ea in
      let none : mem_place_in B t ≡ None = ap (λ (o : Option HeapMem). option_map (λ x. x.place) o) fresh in
      let bare = h.fits.bare t (inl none) in
      let room : Room A B1 k1.atom_lists k1.mem_lists = record {
        atom_number = λ x i. rw size (h.room.atom_number x i);
        mem_number = λ x i. elim (new_is B t x new_mem i) [ inl e ↦ rw e number | inr j ↦ (let b = h.room.mem_number x j in omega arith) ];
        atom_list = λ x i. elim (new_is B t x new_mem i) [ inl e ↦ rw e list | inr j ↦ (let b = h.room.atom_list x j in omega arith) ];
        mem_list = λ x i. elim (new_is B t x new_mem i) [ inl e ↦ rw e mem_list | inr j ↦ (let b = h.room.mem_list x j in omega arith) ];
        small = small;
        mem_small = mem_small;
      } in
      let c = h.counts in (
        holds_by k1 n (m + 1) s A B1 L M1 ea1 eb el eml (fits_made_mem A B L M h.fits t fresh) room
            (record {
              atom_census = c.atom_census;
              mem_census = census_add with_rules B m t new_mem fresh c.mem_census;
              spare_census = subst (Census (λ (y : HeapMem). y.spare) B1) (let e : s + 0 ≡ s = omega arith in e) (census_add (λ (y : HeapMem). y.spare) B s t new_mem fresh c.spare_census);
              bound = omega arith;
            }),
        heap_by k1 A B1 L M1 ea1 eb el eml ∙ built_made_mem A B L M t bare.0 bare.1,
      )

  -- Changes of a membrane's mark and rules
  module _ (k1 : Kept) (t : ℕ) (g : HeapMem → HeapMem) (lists : (xs ys : List ℕ) (x : HeapMem) → with_lists xs ys (g x) ≡ g (with_lists xs ys x)) (place : (x : HeapMem) → (g x).place ≡ x.place)
      (ea : k1.atoms ≡ k.atoms) (eb : mems_in_cells k1.mems ≡ alter B t (option_map g)) (el : k1.atom_lists ≡ k.atom_lists) (eml : k1.mem_lists ≡ k.mem_lists) where
    abbrev B1 : ℕ → Option HeapMem
    B1 = alter B t (option_map g)

    same_mem_places : (x : ℕ) → mem_place_in B1 x ≡ mem_place_in B x
    same_mem_places x = elim (cases_eq x t) [
      | inl e ↦ subst (λ z. mem_place_in B1 z ≡ mem_place_in B z) (sym e) (ap (λ (o : Option HeapMem). option_map (λ y. y.place) o) (alter_at B t (option_map g)) ∙ by (B t))
      | inr d ↦ ap (λ (o : Option HeapMem). option_map (λ y. y.place) o) (alter_away B t (option_map g) x d)
    ]
      where
        by : (o : Option HeapMem) → option_map (λ y. y.place) (option_map g o) ≡ option_map (λ y. y.place) o
        by None = refl
        by (Some y) = ap (λ z. Some z) (place y)

    pub mem_pair : (m1 s1 : ℕ) → HasCounts A B1 n m1 s1 → AlwaysHolds k1 n m1 s1 × (heap_of k1 ≡ record (heap_of k) { mems = alter (heap_of k).mems t (option_map g) })
    mem_pair m1 s1 counts =
        let ea1 : atoms_in_cells k1.atoms ≡ A = ap atoms_in_cells ea in
        let el1 : list_at k1.atom_lists ≡ L = ap (λ (x : HeldLists). list_at x) el in
        let eml1 : list_at k1.mem_lists ≡ M = ap (λ (x : HeldLists). list_at x) eml in (
          holds_by k1 n m1 s1 A B1 L M ea1 eb el1 eml1 (fits_mems A B L M h.fits B1 same_mem_places)
              (rw (el, eml) (room_alike A A B B1 k.atom_lists k.mem_lists k.atom_lists k.mem_lists (alike_none A) (alike_alter B t g) (same_size k.atom_lists) (same_size k.mem_lists) h.room))
              counts,
          heap_by k1 A B1 L M ea1 eb el1 eml1 ∙ built_mem A B L M t g lists,
        )

  -- more room changes nothing
  pub grown_pair : (k1 : Kept) → atoms_in_cells k1.atoms ≡ A → mems_in_cells k1.mems ≡ B → list_at k1.atom_lists ≡ L → list_at k1.mem_lists ≡ M
      → length k.atom_lists.lists ≤ length k1.atom_lists.lists → length k1.atom_lists.lists < 2 ^ 63 → k.atom_lists.size ≤ k1.atom_lists.size
      → length k.mem_lists.lists ≤ length k1.mem_lists.lists → length k1.mem_lists.lists < 2 ^ 63 → k.mem_lists.size ≤ k1.mem_lists.size
      → AlwaysHolds k1 n m s × (heap_of k1 ≡ heap_of k)
  grown_pair k1 ea eb el em more small size more_mem small_mem size_mem = (
    holds_by k1 n m s A B L M ea eb el em h.fits
        (record {
          atom_number = λ x i. let w = h.room.atom_number x i in omega arith;
          mem_number = λ x i. let w = h.room.mem_number x i in omega arith;
          atom_list = λ x i. let w = h.room.atom_list x i in omega arith;
          mem_list = λ x i. let w = h.room.mem_list x i in omega arith;
          small = small;
          mem_small = small_mem;
        })
        h.counts,
    heap_by k1 A B L M ea eb el em,
  )
