-- What holds of atoms, membranes and their lists, after each call.
use Rattle.std.proofs.Common.{◌≡◌, ◌≢◌, ◌⊎◌, ℕ, ◌+◌, ◌<◌, ◌↔◌, List, [], ◌∷◌, ◌++◌, Option, Some, None, refl, sym, ap, subst, ◌∙◌, inl, inr, arith}
use Rattle.std.proofs.lemmas.Bool.{cases_eq}
use Rattle.std.specs.Prelude.{slice_index_or}
use Rattle.std.specs.Option.{option_map}
use Rattle.lmn_base.specs.declared.functor.Functor.{Functor}
use Rattle.lmn_store_heap.specs.Lists.{from, without}
use Rattle.lmn_store_heap.specs.Heap.{HeapAtom, HeapMem, Place, top, within, waiting, gone, alter, atoms_in, mems_in, atoms_by, mems_by, partners_of, arity_of, with_place, with_mark, mem_with_place, new_atom, new_mem, joined, IsMemInPlace, IsTopOrWithin}
use Rattle.lmn_store_heap.specs.Sound.{Sound, Listed, Paired, Shaped}
use Rattle.lmn_store_heap.proofs.Ports.{joined_paired, SamePort}
use Rattle.lmn_store_heap.proofs.Listing.{alter_at, alter_away, alter_keeps, place_at, place_away, placed_paired, taken_paired, same_paired, joined_place}
use Rattle.lmn_store_heap.proofs.Shapes.{shaped_of, shaped_at, shape_alter, place_shape, mark_shape, joined_shape, made_shape, made_paired}
use Rattle.lmn_store_slab.specs.Cells.{built, with_lists, place_by}
use Rattle.lmn_store_slab.specs.Kept.{Filed, ItemsAreFiled, place_in, mem_place_in}
use Rattle.lmn_store_slab.proofs.Files.{place_mem, place_waiting, never_top, add_filed, move_filed, same_filed}
use Rattle.lmn_store_slab.proofs.BuiltLemmas.{built_mem_place, built_made, built_placed, built_taken, not_line as line_apart, not_out as out_apart, two_apart}
use Rattle.lmn_base.specs.Lists.{In}

abbrev IsBare : (ℕ → Option HeapMem) → ℕ → Type 0
IsBare B m = (mem_place_in B m ≡ None) ⊎ (mem_place_in B m ≡ Some waiting)

-- what leaves an empty list leaves it empty
less_bare : (L : ℕ → List ℕ) (l x k : ℕ) → L k ≡ [] → alter L l (without x) k ≡ []
less_bare L l x k e = elim (cases_eq k l) [
  | inl h ↦ subst (λ z. alter L l (without x) z ≡ []) (sym h) (alter_at L l (without x) ∙ ap (without x) (ap L (sym h) ∙ e))
  | inr d ↦ alter_away L l (without x) k d ∙ e
]

more_bare : (L : ℕ → List ℕ) (l x k : ℕ) → k ≢ l → L k ≡ [] → alter L l (λ xs. xs ++ x ∷ []) k ≡ []
more_bare L l x k d e = alter_away L l (λ xs. xs ++ x ∷ []) k d ∙ e

-- a membrane that stands is none that is bare
pub stands_apart : (B : ℕ → Option HeapMem) (m k : ℕ) → IsTopOrWithin (mem_place_in B m) → IsBare B k → k ≢ m
stands_apart B m k s w same = by (mem_place_in B m) s (subst (λ z. (mem_place_in B z ≡ None) ⊎ (mem_place_in B z ≡ Some waiting)) same w)
  where
    by : (o : Option Place) → IsTopOrWithin o → (o ≡ None) ⊎ (o ≡ Some waiting) → ⊥
    by None s w = s
    by (Some top) s w = elim w [ inl e ↦ absurd (cc) | inr e ↦ absurd (cc) ]
    by (Some (within k)) s w = elim w [ inl e ↦ absurd (cc) | inr e ↦ absurd (cc) ]
    by (Some waiting) s w = s
    by (Some gone) s w = s

mem_place_at : (f : ℕ → Option HeapMem) (a : ℕ) (h P : Place) → mem_place_in f a ≡ Some P → mem_place_in (alter f a (option_map (mem_with_place h))) a ≡ Some h
mem_place_at f a h P e = ap (λ (o : Option HeapMem). option_map (λ x. x.place) o) (alter_at f a (option_map (mem_with_place h))) ∙ by (f a) e
  where
    by : (o : Option HeapMem) → option_map (λ x. x.place) o ≡ Some P → option_map (λ x. x.place) (option_map (mem_with_place h) o) ≡ Some h
    by None e = absurd (cc)
    by (Some x) e = refl

mem_place_away : (f : ℕ → Option HeapMem) (a : ℕ) (h : Place) (x : ℕ) → x ≢ a → mem_place_in (alter f a (option_map (mem_with_place h))) x ≡ mem_place_in f x
mem_place_away f a h x d = ap (λ (o : Option HeapMem). option_map (λ y. y.place) o) (alter_away f a (option_map (mem_with_place h)) x d)

module _ (A : ℕ → Option HeapAtom) (B : ℕ → Option HeapMem) (L M : ℕ → List ℕ) (f : ItemsAreFiled A B L M) where
  -- Reading

  pub built_atoms : (m : ℕ) → atoms_in (built A B L M) m ≡ L (m + 2)
  built_atoms m = by (B m) (λ e. (f.bare m (inl e)).0)
    where
      by : (o : Option HeapMem) → (option_map (λ x. x.place) o ≡ None → L (m + 2) ≡ []) → atoms_by (option_map (with_lists (L (m + 2)) (M (m + 2))) o) ≡ L (m + 2)
      by None e = sym (e refl)
      by (Some x) e = refl

  pub built_mems : (m : ℕ) → mems_in (built A B L M) m ≡ M (m + 2)
  built_mems m = by (B m) (λ e. (f.bare m (inl e)).1)
    where
      by : (o : Option HeapMem) → (option_map (λ x. x.place) o ≡ None → M (m + 2) ≡ []) → mems_by (option_map (with_lists (L (m + 2)) (M (m + 2))) o) ≡ M (m + 2)
      by None e = sym (e refl)
      by (Some x) e = refl

  filed_within : (N : ℕ → List ℕ) (P : ℕ → Option Place) → Filed N P → (m x : ℕ) → In x (N (m + 2)) ↔ (P x ≡ Some (within m))
  filed_within N P g m x = subst (λ R. In x (N (m + 2)) ↔ (P x ≡ Some R)) (place_mem m) (g.filed (m + 2) x)

  pub fits_listed : Listed (built A B L M)
  fits_listed = record {
    atoms = λ m a. rw (built_atoms m) (filed_within L (place_in A) f.atom_files m a);
    atoms_once = λ m. rw (built_atoms m) (f.atom_files.once (m + 2));
    mems = λ m n. rw (built_mems m, built_mem_place A B L M n) (filed_within M (mem_place_in B) f.mem_files m n);
    mems_once = λ m. rw (built_mems m) (f.mem_files.once (m + 2));
    new_atoms = λ a. f.atom_files.filed 0 a;
    new_atoms_once = f.atom_files.once 0;
    new_mems = λ m. rw (built_mem_place A B L M m) (f.mem_files.filed 0 m);
    new_mems_once = f.mem_files.once 0;
    root = λ m. rw (built_mem_place A B L M m) (f.root m);
    no_top = f.no_top;
    new_empty = λ m e. let w = f.bare m (inr (sym (built_mem_place A B L M m) ∙ e)) in (built_atoms m ∙ w.0, built_mems m ∙ w.1);
  }

  pub fits_sound : Sound (built A B L M)
  fits_sound = record { paired = f.paired; listed = fits_listed; shaped = f.shaped }

  -- The first that waits

  pub first_waits : (a : ℕ) → from (Some a) (L 0) ≡ L 0 → place_in A a ≡ Some (place_by 0)
  first_waits a first = (f.atom_files.filed 0 a).0 (subst (In a) first (inl refl))

  pub first_mem_waits : (n : ℕ) → from (Some n) (M 0) ≡ M 0 → mem_place_in B n ≡ Some (place_by 0)
  first_mem_waits n first = (f.mem_files.filed 0 n).0 (subst (In n) first (inl refl))

  in_place : (m : ℕ) → IsMemInPlace (built A B L M) m → IsTopOrWithin (mem_place_in B m)
  in_place m s = subst IsTopOrWithin (built_mem_place A B L M m) s

  not_top : (x l : ℕ) (P : ℕ → Option Place) → P x ≡ Some (place_by l) → P x ≡ Some top → ⊥
  not_top x l P e t = never_top l (let w : Some (place_by l) ≡ Some top = sym e ∙ t in cc)

  -- Atoms move

  module _ (a l k : ℕ) (was : place_in A a ≡ Some (place_by l)) (bare_k : (m : ℕ) → IsBare B m → m + 2 ≢ k) where
    abbrev A1 : ℕ → Option HeapAtom
    A1 = alter A a (option_map (with_place (place_by k)))

    abbrev L1 : ℕ → List ℕ
    L1 = alter (alter L l (without a)) k (λ xs. xs ++ a ∷ [])

    pub fits_moved : Paired (built A1 B L1 M) → ItemsAreFiled A1 B L1 M
    fits_moved paired = record {
      atom_files = move_filed L (place_in A) (place_in A1) f.atom_files a l k was (place_at A a (place_by k) (place_by l) was) (place_away A a (place_by k));
      mem_files = f.mem_files;
      root = f.root;
      no_top = λ x e. elim (cases_eq x a) [
        | inl same ↦ not_top a k (place_in A1) (place_at A a (place_by k) (place_by l) was) (ap (place_in A1) (sym same) ∙ e)
        | inr d ↦ f.no_top x (sym (place_away A a (place_by k) x d) ∙ e)
      ];
      bare = λ m w. let b = f.bare m w in (more_bare (alter L l (without a)) k a (m + 2) (bare_k m w) (less_bare L l a (m + 2) b.0), b.1);
      paired = paired;
      shaped = shaped_of (built A1 B L1 M) (shape_alter A a (with_place (place_by k)) (place_shape (place_by k)) (shaped_at (built A B L M) f.shaped));
    }

  pub fits_placed : (m a : ℕ) → IsMemInPlace (built A B L M) m → from (Some a) (L 0) ≡ L 0
      → ItemsAreFiled (alter A a (option_map (with_place (place_by (m + 2))))) B (alter (alter L 0 (without a)) (m + 2) (λ xs. xs ++ a ∷ [])) M
  fits_placed m a s first =
      fits_moved a 0 (m + 2) (first_waits a first) (λ k w. two_apart k m (stands_apart B m k (in_place m s) w))
      (subst Paired (sym (built_placed A B L M m a first)) (placed_paired (built A B L M) m a f.paired))

  pub fits_taken : (m a : ℕ) → place_in A a ≡ Some (within m)
      → ItemsAreFiled (alter A a (option_map (with_place (place_by 1)))) B (alter (alter L (m + 2) (without a)) 1 (λ xs. xs ++ a ∷ [])) M
  fits_taken m a home =
      fits_moved a (m + 2) 1 (home ∙ ap (λ z. Some z) (sym (place_mem m))) (λ k w. out_apart k)
      (subst Paired (sym (built_taken A B L M m a home)) (taken_paired (built A B L M) a f.paired))

  pub fits_made : (a : ℕ) (g : Functor) → A a ≡ None → ItemsAreFiled (alter A a (λ _. Some (new_atom g))) B (alter L 0 (λ xs. xs ++ a ∷ [])) M
  fits_made a g fresh =
      let A1 : ℕ → Option HeapAtom = alter A a (λ _. Some (new_atom g)) in
      let now : place_in A1 a ≡ Some (place_by 0) = ap (λ (o : Option HeapAtom). option_map (λ x. x.place) o) (alter_at A a (λ _. Some (new_atom g))) in
      let away : (x : ℕ) → x ≢ a → place_in A1 x ≡ place_in A x = λ x d. ap (λ (o : Option HeapAtom). option_map (λ y. y.place) o) (alter_away A a (λ _. Some (new_atom g)) x d) in
      record {
        atom_files = add_filed L (place_in A) (place_in A1) f.atom_files a away 0 (ap (λ (o : Option HeapAtom). option_map (λ x. x.place) o) fresh) now;
        mem_files = f.mem_files;
        root = f.root;
        no_top = λ x e. elim (cases_eq x a) [
          | inl same ↦ not_top a 0 (place_in A1) now (ap (place_in A1) (sym same) ∙ e)
          | inr d ↦ f.no_top x (sym (away x d) ∙ e)
        ];
        bare = λ m w. let b = f.bare m w in (more_bare L 0 a (m + 2) (line_apart m) b.0, b.1);
        paired = subst Paired (sym (built_made A B L M a g)) (made_paired (built A B L M) a g fresh f.paired);
        shaped = shaped_of (built A1 B (alter L 0 (λ xs. xs ++ a ∷ [])) M) (made_shape A a g (shaped_at (built A B L M) f.shaped));
      }

  -- Changes of atoms that keep their places
  pub fits_atoms : (A1 : ℕ → Option HeapAtom) → ((x : ℕ) → place_in A1 x ≡ place_in A x) → Paired (built A1 B L M) → Shaped (built A1 B L M) → ItemsAreFiled A1 B L M
  fits_atoms A1 same paired shaped = record {
    atom_files = same_filed L (place_in A) (place_in A1) same f.atom_files;
    mem_files = f.mem_files;
    root = f.root;
    no_top = λ x e. f.no_top x (sym (same x) ∙ e);
    bare = f.bare;
    paired = paired;
    shaped = shaped;
  }

  pub fits_joined : (a i b j : ℕ) → i < arity_of (built A B L M) a → j < arity_of (built A B L M) b → (SamePort a i b j → ⊥) → ItemsAreFiled (joined (built A B L M) a i b j).atoms B L M
  fits_joined a i b j ra rb differ =
      fits_atoms (joined (built A B L M) a i b j).atoms (joined_place (built A B L M) a i b j) (joined_paired (built A B L M) a i b j ra rb differ f.paired)
      (shaped_of (built (joined (built A B L M) a i b j).atoms B L M) (joined_shape (built A B L M) a i b j (shaped_at (built A B L M) f.shaped)))

  pub fits_marked : (a i v : ℕ) → ItemsAreFiled (alter A a (option_map (with_mark i v))) B L M
  fits_marked a i v =
      let A1 : ℕ → Option HeapAtom = alter A a (option_map (with_mark i v)) in
      fits_atoms A1 (alter_keeps A a (option_map (with_mark i v)) (λ o. option_map (λ x. x.place) o) place)
      (same_paired (built A B L M) (built A1 B L M) (λ x k. alter_keeps A a (option_map (with_mark i v)) (λ o. slice_index_or (partners_of o) k None) (links k) x) f.paired)
      (shaped_of (built A1 B L M) (shape_alter A a (with_mark i v) (mark_shape i v) (shaped_at (built A B L M) f.shaped)))
    where
      place : (o : Option HeapAtom) → option_map (λ x. x.place) (option_map (with_mark i v) o) ≡ option_map (λ x. x.place) o
      place None = refl
      place (Some x) = refl

      links : (k : ℕ) (o : Option HeapAtom) → slice_index_or (partners_of (option_map (with_mark i v) o)) k None ≡ slice_index_or (partners_of o) k None
      links k None = refl
      links k (Some x) = refl

  -- Membranes move

  pub fits_mem_moved : (n l k : ℕ) → mem_place_in B n ≡ Some (place_by l) → k ≢ 0 → ((m : ℕ) → IsBare B m → m + 2 ≢ k)
      → ItemsAreFiled A (alter B n (option_map (mem_with_place (place_by k)))) L (alter (alter M l (without n)) k (λ xs. xs ++ n ∷ []))
  fits_mem_moved n l k was not_line bare_k =
      let B1 : ℕ → Option HeapMem = alter B n (option_map (mem_with_place (place_by k))) in
      let M1 : ℕ → List ℕ = alter (alter M l (without n)) k (λ xs. xs ++ n ∷ []) in
      let now : mem_place_in B1 n ≡ Some (place_by k) = mem_place_at B n (place_by k) (place_by l) was in
      let away : (x : ℕ) → x ≢ n → mem_place_in B1 x ≡ mem_place_in B x = mem_place_away B n (place_by k) in
      let not_root : n ≢ 0 = λ e. not_top n l (mem_place_in B) was ((f.root n).1 e) in
      record {
        atom_files = f.atom_files;
        mem_files = move_filed M (mem_place_in B) (mem_place_in B1) f.mem_files n l k was now away;
        root = λ m. elim (cases_eq m n) [
          | inl e ↦ (
            λ t. absurd (not_top n k (mem_place_in B1) now (ap (mem_place_in B1) (sym e) ∙ t)),
            λ z. absurd (not_root (sym e ∙ z)),
          )
          | inr d ↦ (λ t. (f.root m).0 (sym (away m d) ∙ t), λ z. away m d ∙ (f.root m).1 z)
        ];
        no_top = f.no_top;
        bare = λ m w. elim (cases_eq m n) [
          | inl e ↦ absurd (elim w [
            | inl none ↦ (let u : Some (place_by k) ≡ None = sym now ∙ ap (mem_place_in B1) (sym e) ∙ none in cc)
            | inr waits ↦ not_line (place_waiting k (let u : Some (place_by k) ≡ Some waiting = sym now ∙ ap (mem_place_in B1) (sym e) ∙ waits in cc))
          ])
          | inr d ↦ (let v : IsBare B m = elim w [ inl h ↦ inl (sym (away m d) ∙ h) | inr h ↦ inr (sym (away m d) ∙ h) ] in
              let b = f.bare m v in (b.0, more_bare (alter M l (without n)) k n (m + 2) (bare_k m v) (less_bare M l n (m + 2) b.1)))
        ];
        paired = same_paired (built A B L M) (built A B1 L M1) (λ x i. refl) f.paired;
        shaped = shaped_of (built A B1 L M1) (shaped_at (built A B L M) f.shaped);
      }

  pub fits_placed_mem : (m n : ℕ) → IsMemInPlace (built A B L M) m → from (Some n) (M 0) ≡ M 0
      → ItemsAreFiled A (alter B n (option_map (mem_with_place (place_by (m + 2))))) L (alter (alter M 0 (without n)) (m + 2) (λ xs. xs ++ n ∷ []))
  fits_placed_mem m n s first = fits_mem_moved n 0 (m + 2) (first_mem_waits n first) (line_apart m) (λ k w. two_apart k m (stands_apart B m k (in_place m s) w))

  pub fits_taken_mem : (m n : ℕ) → mem_place_in B n ≡ Some (within m)
      → ItemsAreFiled A (alter B n (option_map (mem_with_place (place_by 1)))) L (alter (alter M (m + 2) (without n)) 1 (λ xs. xs ++ n ∷ []))
  fits_taken_mem m n home = fits_mem_moved n (m + 2) 1 (home ∙ ap (λ z. Some z) (sym (place_mem m))) (λ e. absurd (omega arith)) (λ k w. out_apart k)

  pub fits_made_mem : (n : ℕ) → B n ≡ None → ItemsAreFiled A (alter B n (λ _. Some new_mem)) L (alter M 0 (λ xs. xs ++ n ∷ []))
  fits_made_mem n fresh =
      let B1 : ℕ → Option HeapMem = alter B n (λ _. Some new_mem) in
      let M1 : ℕ → List ℕ = alter M 0 (λ xs. xs ++ n ∷ []) in
      let none : mem_place_in B n ≡ None = ap (λ (o : Option HeapMem). option_map (λ x. x.place) o) fresh in
      let now : mem_place_in B1 n ≡ Some (place_by 0) = ap (λ (o : Option HeapMem). option_map (λ x. x.place) o) (alter_at B n (λ _. Some new_mem)) in
      let away : (x : ℕ) → x ≢ n → mem_place_in B1 x ≡ mem_place_in B x = λ x d. ap (λ (o : Option HeapMem). option_map (λ y. y.place) o) (alter_away B n (λ _. Some new_mem) x d) in
      let not_root : n ≢ 0 = λ e. let u : None ≡ Some top = sym none ∙ (f.root n).1 e in absurd (cc) in
      record {
        atom_files = f.atom_files;
        mem_files = add_filed M (mem_place_in B) (mem_place_in B1) f.mem_files n away 0 none now;
        root = λ m. elim (cases_eq m n) [
          | inl e ↦ (
            λ t. absurd (not_top n 0 (mem_place_in B1) now (ap (mem_place_in B1) (sym e) ∙ t)),
            λ z. absurd (not_root (sym e ∙ z)),
          )
          | inr d ↦ (λ t. (f.root m).0 (sym (away m d) ∙ t), λ z. away m d ∙ (f.root m).1 z)
        ];
        no_top = f.no_top;
        bare = λ m w. let v : IsBare B m = elim (cases_eq m n) [
          | inl e ↦ inl (ap (mem_place_in B) e ∙ none)
          | inr d ↦ elim w [ inl h ↦ inl (sym (away m d) ∙ h) | inr h ↦ inr (sym (away m d) ∙ h) ]
        ] in
            let b = f.bare m v in (b.0, more_bare M 0 n (m + 2) (line_apart m) b.1);
        paired = same_paired (built A B L M) (built A B1 L M1) (λ x i. refl) f.paired;
        shaped = shaped_of (built A B1 L M1) (shaped_at (built A B L M) f.shaped);
      }

  -- Changes of membranes that keep their places
  pub fits_mems : (B1 : ℕ → Option HeapMem) → ((x : ℕ) → mem_place_in B1 x ≡ mem_place_in B x) → ItemsAreFiled A B1 L M
  fits_mems B1 same = record {
    atom_files = f.atom_files;
    mem_files = same_filed M (mem_place_in B) (mem_place_in B1) same f.mem_files;
    root = λ m. rw (same m) (f.root m);
    no_top = f.no_top;
    bare = λ m w. f.bare m (elim w [ inl h ↦ inl (sym (same m) ∙ h) | inr h ↦ inr (sym (same m) ∙ h) ]);
    paired = same_paired (built A B L M) (built A B1 L M) (λ x i. refl) f.paired;
    shaped = shaped_of (built A B1 L M) (shaped_at (built A B L M) f.shaped);
  }
