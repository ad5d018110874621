-- What holds when all that is at one place has been freed.
use Rattle.std.proofs.Common.{◌≡◌, ◌≢◌, ◌⊎◌, ℕ, ◌+◌, ◌≤◌, List, [], Option, Some, None, IsSome, refl, sym, ap, subst, ◌∙◌, inl, inr, arith}
use Rattle.std.proofs.lemmas.Bool.{cases_eq}
use Rattle.std.specs.Option.{option_map, option_and_then}
use Rattle.lmn_store_heap.specs.Heap.{HeapAtom, HeapMem, Place, top, within, waiting, gone, alter, unless_gone, unless_waiting, mem_unless_gone, mem_unless_waiting, finished, discarded}
use Rattle.lmn_store_heap.specs.Sound.{Paired}
use Rattle.lmn_store_heap.specs.Conditions.{Ready, Alone}
use Rattle.lmn_store_heap.proofs.Listing.{alter_at, alter_away}
use Rattle.lmn_store_heap.proofs.Finish.{finished_sound}
use Rattle.lmn_store_heap.proofs.Discard.{discarded_paired}
use Rattle.lmn_store_heap.proofs.Shapes.{WellShaped, shaped_of, shaped_at}
use Rattle.lmn_store_slab.specs.Lines.{HeldLists, SameSize, list_at}
use Rattle.lmn_store_slab.specs.Cells.{atoms_in_cells, mems_in_cells, built, with_lists}
use Rattle.lmn_store_counts.specs.Census.{Census}
use Rattle.lmn_store_slab.specs.Kept.{Kept, AlwaysHolds, ItemsAreFiled, Room, Filed, heap_of, place_in, mem_place_in}
use Rattle.lmn_store_counts.specs.Counts.{Removes, one, with_rules}
use Rattle.lmn_store_counts.proofs.PlaceLemmas.{removes_gone, removes_waiting, mem_removes_gone, mem_removes_waiting}
use Rattle.lmn_store_slab.proofs.BuiltLemmas.{built_mem_place, not_line as wait_line, not_out as out_line}
use Rattle.lmn_store_slab.proofs.FitsLemmas.{fits_sound, built_atoms, built_mems}
use Rattle.lmn_store_slab.proofs.HoldsLemmas.{holds_by, heap_by}

place_cases : (P Q : Place) → (P ≡ Q) ⊎ (P ≡ Q → ⊥)
place_cases top top = inl refl
place_cases top (within k) = inr (λ e. absurd (cc))
place_cases top waiting = inr (λ e. absurd (cc))
place_cases top gone = inr (λ e. absurd (cc))
place_cases (within k) top = inr (λ e. absurd (cc))
place_cases (within k) (within j) = elim (cases_eq k j) [ inl e ↦ inl (ap within e) | inr d ↦ inr (λ e. d (cc)) ]
place_cases (within k) waiting = inr (λ e. absurd (cc))
place_cases (within k) gone = inr (λ e. absurd (cc))
place_cases waiting top = inr (λ e. absurd (cc))
place_cases waiting (within k) = inr (λ e. absurd (cc))
place_cases waiting waiting = inl refl
place_cases waiting gone = inr (λ e. absurd (cc))
place_cases gone top = inr (λ e. absurd (cc))
place_cases gone (within k) = inr (λ e. absurd (cc))
place_cases gone waiting = inr (λ e. absurd (cc))
place_cases gone gone = inl refl

-- an item stays as it is, or it was at the place and is freed
freed_cases : {X : Type 0} (place : X → Place) (u : X → Option X) (P : Place) → Removes place u P → (o : Option X)
    → ((option_and_then u o ≡ o) × (option_map place o ≡ Some P → ⊥)) ⊎ ((option_and_then u o ≡ None) × (option_map place o ≡ Some P))
freed_cases place u P r None = inl (refl, λ e. absurd (cc))
freed_cases place u P r (Some x) = elim (place_cases (place x) P) [
  | inl e ↦ inr ((r x).0 e, ap (λ z. Some z) e)
  | inr d ↦ inl ((r x).1 d, λ e. d (cc))
]

-- freeing doesn't see the lists
gone_lists : (xs ys : List ℕ) (o : Option HeapMem) → option_map (with_lists xs ys) (option_and_then mem_unless_gone o) ≡ option_and_then mem_unless_gone (option_map (with_lists xs ys) o)
gone_lists xs ys None = refl
gone_lists xs ys (Some x) = by x.place refl
  where
    by : (p : Place) → x.place ≡ p → option_map (with_lists xs ys) (mem_unless_gone x) ≡ mem_unless_gone (with_lists xs ys x)
    by top e = rw e refl
    by (within m) e = rw e refl
    by waiting e = rw e refl
    by gone e = rw e refl

waiting_lists : (xs ys : List ℕ) (o : Option HeapMem) → option_map (with_lists xs ys) (option_and_then mem_unless_waiting o) ≡ option_and_then mem_unless_waiting (option_map (with_lists xs ys) o)
waiting_lists xs ys None = refl
waiting_lists xs ys (Some x) = by x.place refl
  where
    by : (p : Place) → x.place ≡ p → option_map (with_lists xs ys) (mem_unless_waiting x) ≡ mem_unless_waiting (with_lists xs ys x)
    by top e = rw e refl
    by (within m) e = rw e refl
    by waiting e = rw e refl
    by gone e = rw e refl

abbrev freed : {X : Type 0} → (X → Option X) → (ℕ → Option X) → ℕ → Option X
freed u f a = option_and_then u (f a)

abbrev emptied_at : (ℕ → List ℕ) → ℕ → ℕ → List ℕ
emptied_at L l = alter L l (λ _. [])

module _ (A : ℕ → Option HeapAtom) (B : ℕ → Option HeapMem) (L M : ℕ → List ℕ) (f : ItemsAreFiled A B L M) (P : Place) (l : ℕ) (line : (k : ℕ) → k + 2 ≢ l) (not_top : P ≡ top → ⊥)
    (u : HeapAtom → Option HeapAtom) (ru : Removes (λ (x : HeapAtom). x.place) u P) (v : HeapMem → Option HeapMem) (rv : Removes (λ (x : HeapMem). x.place) v P)
    (empty : (m : ℕ) → mem_place_in B m ≡ Some P → (L (m + 2) ≡ []) × (M (m + 2) ≡ [])) where
  abbrev A1 : ℕ → Option HeapAtom
  A1 = freed u A

  abbrev B1 : ℕ → Option HeapMem
  B1 = freed v B

  abbrev L1 : ℕ → List ℕ
  L1 = emptied_at L l

  abbrev M1 : ℕ → List ℕ
  M1 = emptied_at M l

  pub lists_stay : (k : ℕ) → (L1 (k + 2) ≡ L (k + 2)) × (M1 (k + 2) ≡ M (k + 2))
  lists_stay k = (alter_away L l (λ _. []) (k + 2) (line k), alter_away M l (λ _. []) (k + 2) (line k))

  pub atom_left : (a : ℕ) → ((A1 a ≡ A a) × (place_in A a ≡ Some P → ⊥)) ⊎ ((A1 a ≡ None) × (place_in A a ≡ Some P))
  atom_left a = freed_cases (λ (x : HeapAtom). x.place) u P ru (A a)

  pub mem_left : (m : ℕ) → ((B1 m ≡ B m) × (mem_place_in B m ≡ Some P → ⊥)) ⊎ ((B1 m ≡ None) × (mem_place_in B m ≡ Some P))
  mem_left m = freed_cases (λ (x : HeapMem). x.place) v P rv (B m)

  abbrev pl : Option HeapMem → Option Place
  pl o = option_map (λ x. x.place) o

  abbrev pa : Option HeapAtom → Option Place
  pa o = option_map (λ x. x.place) o

  none_not : (Q : Place) → None ≡ Some Q → ⊥
  none_not Q e = absurd (cc)

  bare_left : (m : ℕ) → (mem_place_in B1 m ≡ None) ⊎ (mem_place_in B1 m ≡ Some waiting) → (L (m + 2) ≡ []) × (M (m + 2) ≡ [])
  bare_left m w = elim (mem_left m) [
    | inl k ↦ f.bare m (elim w [ inl e ↦ inl (sym (ap pl k.0) ∙ e) | inr e ↦ inr (sym (ap pl k.0) ∙ e) ])
    | inr k ↦ empty m k.1
  ]

  pub fits_freed : Filed L1 (place_in A1) → Filed M1 (mem_place_in B1) → Paired (built A1 B1 L1 M1) → ItemsAreFiled A1 B1 L1 M1
  fits_freed fa fm paired = record {
    atom_files = fa;
    mem_files = fm;
    root = λ m. elim (mem_left m) [
      | inl k ↦ (λ t. (f.root m).0 (sym (ap pl k.0) ∙ t), λ z. ap pl k.0 ∙ (f.root m).1 z)
      | inr k ↦ (
        λ t. absurd (none_not top (sym (ap pl k.0) ∙ t)),
        λ z. absurd (not_top (let e : Some P ≡ Some top = sym k.1 ∙ (f.root m).1 z in cc)),
      )
    ];
    no_top = λ a e. elim (atom_left a) [
      | inl k ↦ f.no_top a (sym (ap pa k.0) ∙ e)
      | inr k ↦ none_not top (sym (ap pa k.0) ∙ e)
    ];
    bare = λ m w. let b = bare_left m w in let s = lists_stay m in (s.0 ∙ b.0, s.1 ∙ b.1);
    paired = paired;
    shaped = shaped_of (built A1 B1 L1 M1) (λ a. elim (atom_left a) [
      | inl k ↦ subst WellShaped (sym k.0) (shaped_at (built A B L M) f.shaped a)
      | inr k ↦ subst WellShaped (sym k.0) tt
    ]);
  }

  pub room_freed : (a m a1 m1 : HeldLists) → SameSize a a1 → SameSize m m1 → Room A B a m → Room A1 B1 a1 m1
  room_freed a m a1 m1 s t r = record {
    atom_number = λ x i. rw s.size (r.atom_number x (was_atom x i));
    mem_number = λ x i. rw t.size (r.mem_number x (was_mem x i));
    atom_list = λ x i. rw s.lists (r.atom_list x (was_mem x i));
    mem_list = λ x i. rw t.lists (r.mem_list x (was_mem x i));
    small = rw s.lists r.small;
    mem_small = rw t.lists r.mem_small;
  }
    where
      was_atom : (x : ℕ) → IsSome (A1 x) → IsSome (A x)
      was_atom x i = elim (atom_left x) [
        | inl k ↦ subst (λ (o : Option HeapAtom). IsSome o) k.0 i
        | inr k ↦ absurd (let w : IsSome {T = HeapAtom} None = subst (λ (o : Option HeapAtom). IsSome o) k.0 i in cc)
      ]

      was_mem : (x : ℕ) → IsSome (B1 x) → IsSome (B x)
      was_mem x i = elim (mem_left x) [
        | inl k ↦ subst (λ (o : Option HeapMem). IsSome o) k.0 i
        | inr k ↦ absurd (let w : IsSome {T = HeapMem} None = subst (λ (o : Option HeapMem). IsSome o) k.0 i in cc)
      ]

module _ (A : ℕ → Option HeapAtom) (B : ℕ → Option HeapMem) (L M : ℕ → List ℕ) where
  pub built_finished : built (freed unless_gone A) (freed mem_unless_gone B) (emptied_at L 1) (emptied_at M 1) ≡ finished (built A B L M)
  built_finished = λ j. record {
    root = 0;
    atoms = freed unless_gone A;
    mems = λ t. (ap (λ xs. option_map (with_lists xs (emptied_at M 1 (t + 2))) (freed mem_unless_gone B t)) (alter_away L 1 (λ _. []) (t + 2) (out_line t))
        ∙ ap (λ ys. option_map (with_lists (L (t + 2)) ys) (freed mem_unless_gone B t)) (alter_away M 1 (λ _. []) (t + 2) (out_line t))
        ∙ gone_lists (L (t + 2)) (M (t + 2)) (B t)) j;
    new_atoms = alter_away L 1 (λ _. []) 0 (λ e. absurd (omega arith)) j;
    new_mems = alter_away M 1 (λ _. []) 0 (λ e. absurd (omega arith)) j;
  }

  pub built_discarded : built (freed unless_waiting A) (freed mem_unless_waiting B) (emptied_at L 0) (emptied_at M 0) ≡ discarded (built A B L M)
  built_discarded = λ j. record {
    root = 0;
    atoms = freed unless_waiting A;
    mems = λ t. (ap (λ xs. option_map (with_lists xs (emptied_at M 0 (t + 2))) (freed mem_unless_waiting B t)) (alter_away L 0 (λ _. []) (t + 2) (wait_line t))
        ∙ ap (λ ys. option_map (with_lists (L (t + 2)) ys) (freed mem_unless_waiting B t)) (alter_away M 0 (λ _. []) (t + 2) (wait_line t))
        ∙ waiting_lists (L (t + 2)) (M (t + 2)) (B t)) j;
    new_atoms = alter_at L 0 (λ _. []) j;
    new_mems = alter_at M 0 (λ _. []) j;
  }

module _ (k : Kept) (n m s : ℕ) (h : AlwaysHolds k n m s) (k1 : Kept) (n1 m1 s1 : ℕ)
    (fa : Filed (list_at k1.atom_lists) (place_in (atoms_in_cells k1.atoms))) (fm : Filed (list_at k1.mem_lists) (mem_place_in (mems_in_cells k1.mems)))
    (ca : Census one (atoms_in_cells k1.atoms) n1) (cm : Census with_rules (mems_in_cells k1.mems) m1) (cs : Census (λ x. x.spare) (mems_in_cells k1.mems) s1)
    (less : n1 + m1 + s1 ≤ n + m + s) (sa : SameSize k.atom_lists k1.atom_lists) (sm : SameSize k.mem_lists k1.mem_lists) where
  abbrev A0 : ℕ → Option HeapAtom
  A0 = atoms_in_cells k.atoms

  abbrev B0 : ℕ → Option HeapMem
  B0 = mems_in_cells k.mems

  abbrev L0 : ℕ → List ℕ
  L0 = list_at k.atom_lists

  abbrev M0 : ℕ → List ℕ
  M0 = list_at k.mem_lists

  -- `finish`
  pub finish_pair : Ready (heap_of k) → atoms_in_cells k1.atoms ≡ freed unless_gone A0 → mems_in_cells k1.mems ≡ freed mem_unless_gone B0
      → list_at k1.atom_lists ≡ emptied_at L0 1 → list_at k1.mem_lists ≡ emptied_at M0 1
      → AlwaysHolds k1 n1 m1 s1 × (heap_of k1 ≡ finished (heap_of k))
  finish_pair r ea eb el em =
      let empty : (t : ℕ) → mem_place_in B0 t ≡ Some gone → (L0 (t + 2) ≡ []) × (M0 (t + 2) ≡ []) = λ t e.
      let w = r.empty t (built_mem_place A0 B0 L0 M0 t ∙ e) in (sym (built_atoms A0 B0 L0 M0 h.fits t) ∙ w.0, sym (built_mems A0 B0 L0 M0 h.fits t) ∙ w.1) in
      let paired : Paired (built (freed unless_gone A0) (freed mem_unless_gone B0) (emptied_at L0 1) (emptied_at M0 1)) =
      subst Paired (sym (built_finished A0 B0 L0 M0)) (finished_sound (heap_of k) (fits_sound A0 B0 L0 M0 h.fits) r).paired in
      let c = h.counts in
      let low = c.bound in (
        holds_by k1 n1 m1 s1 (freed unless_gone A0) (freed mem_unless_gone B0) (emptied_at L0 1) (emptied_at M0 1) ea eb el em
            (fits_freed A0 B0 L0 M0 h.fits gone 1 out_line (λ e. absurd (cc)) unless_gone removes_gone mem_unless_gone mem_removes_gone empty
            (rw (← el, ← ea) fa) (rw (← em, ← eb) fm) paired)
            (room_freed A0 B0 L0 M0 h.fits gone 1 out_line (λ e. absurd (cc)) unless_gone removes_gone mem_unless_gone mem_removes_gone empty
            k.atom_lists k.mem_lists k1.atom_lists k1.mem_lists sa sm h.room)
            (record { atom_census = rw (← ea) ca; mem_census = rw (← eb) cm; spare_census = rw (← eb) cs; bound = omega (arith, less, low) }),
        heap_by k1 (freed unless_gone A0) (freed mem_unless_gone B0) (emptied_at L0 1) (emptied_at M0 1) ea eb el em ∙ built_finished A0 B0 L0 M0,
      )

  -- `discard`
  pub discard_pair : Alone (heap_of k) → atoms_in_cells k1.atoms ≡ freed unless_waiting A0 → mems_in_cells k1.mems ≡ freed mem_unless_waiting B0
      → list_at k1.atom_lists ≡ emptied_at L0 0 → list_at k1.mem_lists ≡ emptied_at M0 0
      → AlwaysHolds k1 n1 m1 s1 × (heap_of k1 ≡ discarded (heap_of k))
  discard_pair r ea eb el em =
      let empty : (t : ℕ) → mem_place_in B0 t ≡ Some waiting → (L0 (t + 2) ≡ []) × (M0 (t + 2) ≡ []) = λ t e. h.fits.bare t (inr e) in
      let paired : Paired (built (freed unless_waiting A0) (freed mem_unless_waiting B0) (emptied_at L0 0) (emptied_at M0 0)) =
      subst Paired (sym (built_discarded A0 B0 L0 M0)) (discarded_paired (heap_of k) h.fits.paired r) in
      let c = h.counts in
      let low = c.bound in (
        holds_by k1 n1 m1 s1 (freed unless_waiting A0) (freed mem_unless_waiting B0) (emptied_at L0 0) (emptied_at M0 0) ea eb el em
            (fits_freed A0 B0 L0 M0 h.fits waiting 0 wait_line (λ e. absurd (cc)) unless_waiting removes_waiting mem_unless_waiting mem_removes_waiting empty
            (rw (← el, ← ea) fa) (rw (← em, ← eb) fm) paired)
            (room_freed A0 B0 L0 M0 h.fits waiting 0 wait_line (λ e. absurd (cc)) unless_waiting removes_waiting mem_unless_waiting mem_removes_waiting empty
            k.atom_lists k.mem_lists k1.atom_lists k1.mem_lists sa sm h.room)
            (record { atom_census = rw (← ea) ca; mem_census = rw (← eb) cm; spare_census = rw (← eb) cs; bound = omega (arith, less, low) }),
        heap_by k1 (freed unless_waiting A0) (freed mem_unless_waiting B0) (emptied_at L0 0) (emptied_at M0 0) ea eb el em ∙ built_discarded A0 B0 L0 M0,
      )
