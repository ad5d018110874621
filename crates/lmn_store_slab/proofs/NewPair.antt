-- A store over slabs with the root alone.
use Rattle.std.proofs.Common.{◌≡◌, ◌≢◌, ◌⊎◌, ℕ, ◌<◌, ◌^◌, List, [], length, Option, Some, None, IsSome, refl, sym, ap, subst, ◌∙◌, inl, inr, arith}
use Rattle.std.proofs.lemmas.Bool.{cases_eq}
use Rattle.std.specs.Option.{option_map}
use Rattle.lmn_store_heap.specs.Heap.{HeapAtom, HeapMem, top, alter, lone_root}
use Rattle.lmn_store_heap.proofs.Listing.{alter_away}
use Rattle.lmn_store_heap.proofs.Shapes.{shaped_of}
use Rattle.lmn_store_slab.specs.Lines.{list_at}
use Rattle.lmn_store_slab.specs.Cells.{atoms_in_cells, mems_in_cells, built, with_lists, place_by}
use Rattle.lmn_store_counts.specs.Census.{Census}
use Rattle.lmn_store_slab.specs.Kept.{Kept, AlwaysHolds, ItemsAreFiled, heap_of, mem_place_in}
use Rattle.lmn_store_counts.specs.Counts.{one, with_rules}
use Rattle.lmn_store_slab.proofs.Files.{never_top}
use Rattle.lmn_store_counts.proofs.CensusLemmas.{census_add}
use Rattle.lmn_store_slab.proofs.HoldsLemmas.{holds_by, heap_by}
use Rattle.lmn_store_heap.proofs.Lone.{the_root as root_mem}

abbrev no_atoms : ℕ → Option HeapAtom
no_atoms a = None

abbrev no_mems : ℕ → Option HeapMem
no_mems m = None

abbrev root_alone : ℕ → Option HeapMem
root_alone = alter no_mems 0 (λ _. Some root_mem)

abbrev empty : ℕ → List ℕ
empty l = []

none_census : {X : Type 0} (w : X → ℕ) → Census w (λ (k : ℕ). None) 0
none_census {X} w = record { keys = []; once = tt; all = λ k. (λ i. absurd i, λ i. absurd (let u : IsSome {T = X} None = i in cc)); weighs = refl }

root_at : (m : ℕ) → ((m ≡ 0) × (mem_place_in root_alone m ≡ Some top)) ⊎ ((m ≢ 0) × (mem_place_in root_alone m ≡ None))
root_at m = elim (cases_eq m 0) [
  | inl e ↦ inl (e, subst (λ z. mem_place_in root_alone z ≡ Some top) (sym e) refl)
  | inr d ↦ inr (d, ap (λ (o : Option HeapMem). option_map (λ x. x.place) o) (alter_away no_mems 0 (λ _. Some root_mem) m d))
]

root_only : (m : ℕ) → IsSome (root_alone m) → m ≡ 0
root_only m i = elim (cases_eq m 0) [
  | inl e ↦ e
  | inr d ↦ absurd (let u : IsSome {T = HeapMem} None = subst (λ (o : Option HeapMem). IsSome o) (alter_away no_mems 0 (λ _. Some root_mem) m d) i in cc)
]

fits_new : ItemsAreFiled no_atoms root_alone empty empty
fits_new = record {
  atom_files = record { filed = λ l x. (λ i. absurd i, λ e. absurd (let u : None ≡ Some (place_by l) = e in cc)); once = λ l. tt };
  mem_files = record {
    filed = λ l x. (
      λ i. absurd i,
      λ e. elim (root_at x) [
        | inl r ↦ absurd (never_top l (let u : Some (place_by l) ≡ Some top = sym e ∙ r.1 in cc))
        | inr r ↦ absurd (let u : None ≡ Some (place_by l) = sym r.1 ∙ e in cc)
      ],
    );
    once = λ l. tt;
  };
  root = λ m. elim (root_at m) [
    | inl r ↦ (λ e. r.0, λ z. r.1)
    | inr r ↦ (λ e. absurd (let u : None ≡ Some top = sym r.1 ∙ e in cc), λ z. absurd (r.0 z))
  ];
  no_top = λ a e. let u : None ≡ Some top = e in absurd (cc);
  bare = λ m w. (refl, refl);
  paired = record {
    back = λ a i b j e. absurd (let u : ◌≡◌ {A = Option (ℕ × ℕ)} None (Some (b, j)) = e in cc);
    apart = λ a i e. let u : ◌≡◌ {A = Option (ℕ × ℕ)} None (Some (a, i)) = e in absurd (cc);
  };
  shaped = shaped_of (built no_atoms root_alone empty empty) (λ a. tt);
}

lone : built no_atoms root_alone empty empty ≡ lone_root
lone = λ j. record { root = 0; atoms = no_atoms; mems = λ m. at m j; new_atoms = []; new_mems = [] }
  where
    at : (m : ℕ) → option_map (with_lists [] []) (root_alone m) ≡ alter (λ (k : ℕ). None) 0 (λ _. Some root_mem) m
    at m = elim (cases_eq m 0) [
      | inl e ↦ subst (λ z. option_map (with_lists [] []) (root_alone z) ≡ alter (λ (k : ℕ). None) 0 (λ _. Some root_mem) z) (sym e) refl
      | inr d ↦ ap (option_map (with_lists [] [])) (alter_away no_mems 0 (λ _. Some root_mem) m d) ∙ sym (alter_away no_mems 0 (λ _. Some root_mem) m d)
    ]

-- a new store is a heap of the root alone
pub new_pair : (k : Kept) → k.atoms ≡ [] → mems_in_cells k.mems ≡ root_alone → list_at k.atom_lists ≡ empty → list_at k.mem_lists ≡ empty
    → 2 < length k.atom_lists.lists → 2 < length k.mem_lists.lists → length k.atom_lists.lists < 2 ^ 63 → length k.mem_lists.lists < 2 ^ 63 → 0 < k.mem_lists.size
    → AlwaysHolds k 0 1 0 × (heap_of k ≡ lone_root)
new_pair k ea eb el em more more_mem small small_mem number =
    let ea1 : atoms_in_cells k.atoms ≡ no_atoms = ap atoms_in_cells ea in (
      holds_by k 0 1 0 no_atoms root_alone empty empty ea1 eb el em fits_new
          (record {
            atom_number = λ x i. absurd (let u : IsSome {T = HeapAtom} None = i in cc);
            mem_number = λ x i. rw (root_only x i) number;
            atom_list = λ x i. rw (root_only x i) more;
            mem_list = λ x i. rw (root_only x i) more_mem;
            small = small;
            mem_small = small_mem;
          })
          (record {
            atom_census = none_census one;
            mem_census = census_add with_rules no_mems 0 0 root_mem refl (none_census with_rules);
            spare_census = census_add (λ (y : HeapMem). y.spare) no_mems 0 0 root_mem refl (none_census (λ (y : HeapMem). y.spare));
            bound = omega arith;
          }),
      heap_by k no_atoms root_alone empty empty ea1 eb el em ∙ lone,
    )
