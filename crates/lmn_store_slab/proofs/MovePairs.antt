-- What holds of a store over slabs when all that stood in one membrane stands in another.
use Rattle.std.proofs.Common.{◌≡◌, ◌≢◌, ◌⊎◌, ◌==◌, Bool, true, false, cond, ℕ, zero, ◌+◌, ◌↔◌, List, [], ◌++◌, Option, Some, None, IsSome, refl, sym, ap, subst, ◌∙◌, inl, inr, arith}
use Rattle.std.proofs.lemmas.Bool.{cases_eq}
use Rattle.std.specs.Option.{option_map}
use Rattle.std.specs.Prelude.{slice_index_or}
use Rattle.lmn_store_heap.specs.Heap.{Heap, HeapAtom, HeapMem, Place, top, within, waiting, gone, alter, partners_of, atoms_in, mems_in, sent, atom_sent, mem_sent, emptied, filled, moved_all, IsMemInPlace, IsTopOrWithin}
use Rattle.lmn_store_heap.specs.Conditions.{IsOutside}
use Rattle.lmn_store_heap.proofs.Listing.{alter_at, alter_away, same_paired}
use Rattle.lmn_store_heap.proofs.Shapes.{WellShaped, shaped_of, shaped_at}
use Rattle.lmn_store_slab.specs.Lines.{SameSize, list_at}
use Rattle.lmn_store_slab.specs.Cells.{atoms_in_cells, mems_in_cells, built, with_lists}
use Rattle.lmn_store_counts.specs.Census.{weight}
use Rattle.lmn_store_slab.specs.Kept.{Kept, AlwaysHolds, ItemsAreFiled, Filed, heap_of, place_in, mem_place_in}
use Rattle.lmn_store_counts.specs.Counts.{with_rules}
use Rattle.lmn_store_counts.proofs.CensusLemmas.{census_same}
use Rattle.lmn_store_slab.proofs.BuiltLemmas.{lifted, built_mem_place, two_apart}
use Rattle.lmn_store_slab.proofs.FitsLemmas.{built_atoms, built_mems, stands_apart}
use Rattle.lmn_store_slab.proofs.HoldsLemmas.{Alike, holds_by, heap_by, room_alike, census_alike}

-- what is outside a membrane is another
pub differ_of : (s : Heap) (n m : ℕ) → IsOutside s n m → m ≢ n
differ_of s n m out e = out zero (sym e)

alike_map : {X : Type 0} (f : ℕ → Option X) (h : X → X) → Alike f (λ a. option_map h (f a))
alike_map {X} f h a = by (f a)
  where
    by : (o : Option X) → IsSome (option_map h o) ↔ IsSome o
    by None = (λ i. i, λ i. i)
    by (Some y) = (λ _. refl, λ _. refl)

weight_map : (w : HeapMem → ℕ) (h : HeapMem → HeapMem) → ((x : HeapMem) → w (h x) ≡ w x) → (o : Option HeapMem) → weight w (option_map h o) ≡ weight w o
weight_map w h e None = refl
weight_map w h e (Some x) = e x

-- a place that isn't in a membrane
abbrev Apart : Place → Type 0
Apart P = (k : ℕ) → P ≡ within k → ⊥

sent_back : (m n : ℕ) (P Q : Place) → Apart Q → sent m n P ≡ Q → P ≡ Q
sent_back m n top Q a e = e
sent_back m n (within k) Q a e = by (k == m) e
  where
    by : (b : Bool) → cond b (within n) (within k) ≡ Q → within k ≡ Q
    by true e = absurd (a n (sym e))
    by false e = e
sent_back m n waiting Q a e = e
sent_back m n gone Q a e = e

sent_on : (m n : ℕ) (Q : Place) → Apart Q → sent m n Q ≡ Q
sent_on m n top a = refl
sent_on m n (within k) a = absurd (a k refl)
sent_on m n waiting a = refl
sent_on m n gone a = refl

top_apart : Apart top
top_apart k e = absurd (cc)

waiting_apart : Apart waiting
waiting_apart k e = absurd (cc)

module _ (m n : ℕ) where
  mem_back : (o : Option HeapMem) (Q : Place) → Apart Q → option_map (λ x. x.place) (option_map (mem_sent m n) o) ≡ Some Q → option_map (λ x. x.place) o ≡ Some Q
  mem_back None Q a e = absurd (cc)
  mem_back (Some x) Q a e = let w : sent m n x.place ≡ Q = (cc) in ap (λ z. Some z) (sent_back m n x.place Q a w)

  mem_on : (o : Option HeapMem) (Q : Place) → Apart Q → option_map (λ x. x.place) o ≡ Some Q → option_map (λ x. x.place) (option_map (mem_sent m n) o) ≡ Some Q
  mem_on None Q a e = absurd (cc)
  mem_on (Some x) Q a e = let w : x.place ≡ Q = (cc) in ap (λ z. Some z) (ap (sent m n) w ∙ sent_on m n Q a)

  mem_none : (o : Option HeapMem) → option_map (λ x. x.place) (option_map (mem_sent m n) o) ≡ None → option_map (λ x. x.place) o ≡ None
  mem_none None e = refl
  mem_none (Some x) e = absurd (cc)

  atom_back : (o : Option HeapAtom) (Q : Place) → Apart Q → option_map (λ x. x.place) (option_map (atom_sent m n) o) ≡ Some Q → option_map (λ x. x.place) o ≡ Some Q
  atom_back None Q a e = absurd (cc)
  atom_back (Some x) Q a e = let w : sent m n x.place ≡ Q = (cc) in ap (λ z. Some z) (sent_back m n x.place Q a w)

  same_links : (o : Option HeapAtom) → partners_of (option_map (atom_sent m n) o) ≡ partners_of o
  same_links None = refl
  same_links (Some x) = refl

  same_shape : (o : Option HeapAtom) → WellShaped o → WellShaped (option_map (atom_sent m n) o)
  same_shape None w = w
  same_shape (Some x) w = w

module _ (A : ℕ → Option HeapAtom) (B : ℕ → Option HeapMem) (L M : ℕ → List ℕ) (f : ItemsAreFiled A B L M) (m n : ℕ) (differ : m ≢ n) (stands : IsMemInPlace (built A B L M) n) where
  abbrev A1 : ℕ → Option HeapAtom
  A1 a = option_map (atom_sent m n) (A a)

  abbrev B1 : ℕ → Option HeapMem
  B1 t = option_map (mem_sent m n) (B t)

  abbrev merged : (ℕ → List ℕ) → ℕ → List ℕ
  merged N = alter (alter N (n + 2) (λ xs. xs ++ N (m + 2))) (m + 2) (λ _. [])

  merged_m : (N : ℕ → List ℕ) → merged N (m + 2) ≡ []
  merged_m N = alter_at (alter N (n + 2) (λ xs. xs ++ N (m + 2))) (m + 2) (λ _. [])

  merged_n : (N : ℕ → List ℕ) → merged N (n + 2) ≡ N (n + 2) ++ N (m + 2)
  merged_n N = alter_away (alter N (n + 2) (λ xs. xs ++ N (m + 2))) (m + 2) (λ _. []) (n + 2) (two_apart n m (λ e. differ (sym e))) ∙ alter_at N (n + 2) (λ xs. xs ++ N (m + 2))

  merged_other : (N : ℕ → List ℕ) (l : ℕ) → l ≢ m + 2 → l ≢ n + 2 → merged N l ≡ N l
  merged_other N l d c = alter_away (alter N (n + 2) (λ xs. xs ++ N (m + 2))) (m + 2) (λ _. []) l d ∙ alter_away N (n + 2) (λ xs. xs ++ N (m + 2)) l c

  merged_bare : (N : ℕ → List ℕ) (t : ℕ) → t ≢ n → N (t + 2) ≡ [] → merged N (t + 2) ≡ []
  merged_bare N t d e = elim (cases_eq t m) [
    | inl same ↦ subst (λ z. merged N (z + 2) ≡ []) (sym same) (merged_m N)
    | inr c ↦ merged_other N (t + 2) (two_apart t m c) (two_apart t n d) ∙ e
  ]

  stands_in : IsTopOrWithin (mem_place_in B n)
  stands_in = subst IsTopOrWithin (built_mem_place A B L M n) stands

  bare_back : (t : ℕ) → (mem_place_in B1 t ≡ None) ⊎ (mem_place_in B1 t ≡ Some waiting) → (mem_place_in B t ≡ None) ⊎ (mem_place_in B t ≡ Some waiting)
  bare_back t w = elim w [ inl e ↦ inl (mem_none m n (B t) e) | inr e ↦ inr (mem_back m n (B t) waiting waiting_apart e) ]

  pub fits_merged : Filed (merged L) (place_in A1) → Filed (merged M) (mem_place_in B1) → ItemsAreFiled A1 B1 (merged L) (merged M)
  fits_merged fa fm = record {
    atom_files = fa;
    mem_files = fm;
    root = λ t. (λ e. (f.root t).0 (mem_back m n (B t) top top_apart e), λ z. mem_on m n (B t) top top_apart ((f.root t).1 z));
    no_top = λ a e. f.no_top a (atom_back m n (A a) top top_apart e);
    bare = λ t w.
        let v = bare_back t w in
        let b = f.bare t v in
        let d = stands_apart B n t stands_in v in
        (merged_bare L t d b.0, merged_bare M t d b.1);
    paired = same_paired (built A B L M) (built A1 B1 (merged L) (merged M)) (λ x i. ap (λ (xs : List (Option (ℕ × ℕ))). slice_index_or xs i None) (same_links m n (A x))) f.paired;
    shaped = shaped_of (built A1 B1 (merged L) (merged M)) (λ a. same_shape m n (A a) (shaped_at (built A B L M) f.shaped a));
  }

  put_here : (o : Option HeapMem) (xs ys us vs : List ℕ) → option_map (with_lists (xs ++ us) (ys ++ vs)) (option_map (mem_sent m n) o)
      ≡ option_map (mem_sent m n) (option_map (filled us vs) (option_map (with_lists xs ys) o))
  put_here None xs ys us vs = refl
  put_here (Some x) xs ys us vs = refl

  put_off : (o : Option HeapMem) (xs ys : List ℕ) → option_map (with_lists [] []) (option_map (mem_sent m n) o) ≡ option_map (mem_sent m n) (option_map emptied (option_map (with_lists xs ys) o))
  put_off None xs ys = refl
  put_off (Some x) xs ys = refl

  put_same : (o : Option HeapMem) (xs ys : List ℕ) → option_map (with_lists xs ys) (option_map (mem_sent m n) o) ≡ option_map (mem_sent m n) (option_map (with_lists xs ys) o)
  put_same None xs ys = refl
  put_same (Some x) xs ys = refl

  abbrev H : ℕ → Option HeapMem
  H = lifted L M B

  abbrev E : ℕ → Option HeapMem
  E = alter H m (option_map emptied)

  abbrev F : ℕ → Option HeapMem
  F = alter E n (option_map (filled (atoms_in (built A B L M) m) (mems_in (built A B L M) m)))

  mems_at : (t : ℕ) → lifted (merged L) (merged M) B1 t ≡ option_map (mem_sent m n) (F t)
  mems_at t = elim (cases_eq t n) [
    | inl e ↦ subst (λ z. lifted (merged L) (merged M) B1 z ≡ option_map (mem_sent m n) (F z)) (sym e)
        ((λ j. option_map (with_lists (merged_n L j) (merged_n M j)) (B1 n)) ∙ put_here (B n) (L (n + 2)) (M (n + 2)) (L (m + 2)) (M (m + 2))
        ∙ (λ j. option_map (mem_sent m n) (option_map (filled (sym (built_atoms A B L M f m) j) (sym (built_mems A B L M f m) j)) (H n)))
        ∙ ap (option_map (mem_sent m n)) (sym (alter_at E n (option_map (filled (atoms_in (built A B L M) m) (mems_in (built A B L M) m)))
        ∙ ap (option_map (filled (atoms_in (built A B L M) m) (mems_in (built A B L M) m))) (alter_away H m (option_map emptied) n (λ z. differ (sym z))))))
    | inr d ↦ elim (cases_eq t m) [
      | inl e ↦ subst (λ z. lifted (merged L) (merged M) B1 z ≡ option_map (mem_sent m n) (F z)) (sym e)
          ((λ j. option_map (with_lists (merged_m L j) (merged_m M j)) (B1 m)) ∙ put_off (B m) (L (m + 2)) (M (m + 2))
          ∙ ap (option_map (mem_sent m n)) (sym (alter_away E n (option_map (filled (atoms_in (built A B L M) m) (mems_in (built A B L M) m))) m differ ∙ alter_at H m (option_map emptied))))
      | inr c ↦ (λ j. option_map (with_lists (merged_other L (t + 2) (two_apart t m c) (two_apart t n d) j) (merged_other M (t + 2) (two_apart t m c) (two_apart t n d) j)) (B1 t))
          ∙ put_same (B t) (L (t + 2)) (M (t + 2))
          ∙ ap (option_map (mem_sent m n)) (sym (alter_away E n (option_map (filled (atoms_in (built A B L M) m) (mems_in (built A B L M) m))) t d ∙ alter_away H m (option_map emptied) t c))
    ]
  ]

  line_of_none : (t : ℕ) → 0 ≢ t + 2
  line_of_none t e = omega arith

  pub built_merged : built A1 B1 (merged L) (merged M) ≡ moved_all (built A B L M) m n
  built_merged = λ j. record {
    root = 0;
    atoms = A1;
    mems = λ t. mems_at t j;
    new_atoms = merged_other L 0 (line_of_none m) (line_of_none n) j;
    new_mems = merged_other M 0 (line_of_none m) (line_of_none n) j;
  }

-- `move_all`
pub move_pair : (k : Kept) (c d e : ℕ) → AlwaysHolds k c d e → (m n : ℕ) → m ≢ n → IsMemInPlace (heap_of k) n → (k1 : Kept)
    → atoms_in_cells k1.atoms ≡ (λ a. option_map (atom_sent m n) (atoms_in_cells k.atoms a)) → mems_in_cells k1.mems ≡ (λ t. option_map (mem_sent m n) (mems_in_cells k.mems t))
    → list_at k1.atom_lists ≡ alter (alter (list_at k.atom_lists) (n + 2) (λ xs. xs ++ list_at k.atom_lists (m + 2))) (m + 2) (λ _. [])
    → list_at k1.mem_lists ≡ alter (alter (list_at k.mem_lists) (n + 2) (λ xs. xs ++ list_at k.mem_lists (m + 2))) (m + 2) (λ _. [])
    → Filed (list_at k1.atom_lists) (place_in (atoms_in_cells k1.atoms)) → Filed (list_at k1.mem_lists) (mem_place_in (mems_in_cells k1.mems))
    → SameSize k.atom_lists k1.atom_lists → SameSize k.mem_lists k1.mem_lists
    → AlwaysHolds k1 c d e × (heap_of k1 ≡ moved_all (heap_of k) m n)
move_pair k c d e h m n differ stands k1 ea eb el em fa fm sa sm =
    let A = atoms_in_cells k.atoms in
    let B = mems_in_cells k.mems in
    let L = list_at k.atom_lists in
    let M = list_at k.mem_lists in
    let A1 : ℕ → Option HeapAtom = λ a. option_map (atom_sent m n) (A a) in
    let B1 : ℕ → Option HeapMem = λ t. option_map (mem_sent m n) (B t) in
    let w = h.counts in (
      holds_by k1 c d e A1 B1 _ _ ea eb el em
          (fits_merged A B L M h.fits m n differ stands (rw (← el, ← ea) fa) (rw (← em, ← eb) fm))
          (room_alike A A1 B B1 k.atom_lists k.mem_lists k1.atom_lists k1.mem_lists (alike_map A (atom_sent m n)) (alike_map B (mem_sent m n)) sa sm h.room)
          (record {
            atom_census = census_alike A A1 c (alike_map A (atom_sent m n)) w.atom_census;
            mem_census = census_same with_rules B B1 d (alike_map B (mem_sent m n)) (λ t. weight_map with_rules (mem_sent m n) (λ x. refl) (B t)) w.mem_census;
            spare_census = census_same (λ (y : HeapMem). y.spare) B B1 e (alike_map B (mem_sent m n)) (λ t. weight_map (λ (y : HeapMem). y.spare) (mem_sent m n) (λ x. refl) (B t)) w.spare_census;
            bound = w.bound;
          }),
      heap_by k1 A1 B1 _ _ ea eb el em ∙ built_merged A B L M h.fits m n differ stands,
    )
