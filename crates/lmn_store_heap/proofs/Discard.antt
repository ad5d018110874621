-- `discard` keeps the partners and the lists of what isn't freed.
use Rattle.std.proofs.Common.{◌≡◌, ◌⊎◌, ◌↔◌, ℕ, Option, Some, None, refl, sym, ap, ◌∙◌, inl, inr}
use Rattle.std.specs.Option.{option_map, option_and_then}
use Rattle.std.specs.Prelude.{slice_index_or}
use Rattle.lmn_store_heap.specs.Heap.{Heap, HeapAtom, HeapMem, Place, top, within, waiting, gone, partners_of, link_of, place_of, mem_place_of, atoms_in, mems_in, atoms_by, mems_by, unless_waiting, mem_unless_waiting, discarded}
use Rattle.lmn_store_heap.specs.Sound.{Paired, Listed}
use Rattle.lmn_store_heap.specs.Conditions.{Alone}

-- an atom stays as it is, or it waits and is freed
stays : (o : Option HeapAtom) → ((option_and_then unless_waiting o ≡ o) × (option_map (λ x. x.place) o ≡ Some waiting → ⊥)) ⊎ ((option_and_then unless_waiting o ≡ None) × (option_map (λ x. x.place) o ≡ Some waiting))
stays None = inl (refl, λ e. absurd (cc))
stays (Some x) = by x.place refl
  where
    by : (p : Place) → x.place ≡ p → ((unless_waiting x ≡ Some x) × (Some x.place ≡ Some waiting → ⊥)) ⊎ ((unless_waiting x ≡ None) × (Some x.place ≡ Some waiting))
    by top e = inl (rw e refl, λ g. absurd (cc))
    by (within m) e = inl (rw e refl, λ g. absurd (cc))
    by waiting e = inr (rw e refl, ap (λ z. Some z) e)
    by gone e = inl (rw e refl, λ g. absurd (cc))

module _ (s : Heap) (paired : Paired s) (alone : Alone s) where
  link_left : (a i : ℕ) → ((link_of (discarded s) a i ≡ link_of s a i) × (place_of s a ≡ Some waiting → ⊥)) ⊎ ((link_of (discarded s) a i ≡ None) × (place_of s a ≡ Some waiting))
  link_left a i = elim (stays (s.atoms a)) [
    | inl w ↦ inl (ap (λ (o : Option HeapAtom). slice_index_or (partners_of o) i None) w.0, w.1)
    | inr w ↦ inr (ap (λ (o : Option HeapAtom). slice_index_or (partners_of o) i None) w.0, w.1)
  ]

  pub discarded_paired : Paired (discarded s)
  discarded_paired = record {
    back = λ a i b j e. elim (link_left a i) [
      | inl w ↦ (let old : link_of s a i ≡ Some (b, j) = sym w.0 ∙ e in
          let back = paired.back a i b j old in
          elim (link_left b j) [ inl v ↦ v.0 ∙ back | inr v ↦ absurd (w.1 (alone b j a i v.1 back)) ])
      | inr w ↦ absurd (let g : ◌≡◌ {A = Option (ℕ × ℕ)} None (Some (b, j)) = sym w.0 ∙ e in cc)
    ];
    apart = λ a i e. elim (link_left a i) [
      | inl w ↦ paired.apart a i (sym w.0 ∙ e)
      | inr w ↦ (let g : ◌≡◌ {A = Option (ℕ × ℕ)} None (Some (a, i)) = sym w.0 ∙ e in absurd (cc))
    ];
  }

-- a membrane stays as it is, or it waits and is freed
mem_stays : (o : Option HeapMem) → ((option_and_then mem_unless_waiting o ≡ o) × (option_map (λ x. x.place) o ≡ Some waiting → ⊥)) ⊎ ((option_and_then mem_unless_waiting o ≡ None) × (option_map (λ x. x.place) o ≡ Some waiting))
mem_stays None = inl (refl, λ e. absurd (cc))
mem_stays (Some x) = by x.place refl
  where
    by : (p : Place) → x.place ≡ p → ((mem_unless_waiting x ≡ Some x) × (Some x.place ≡ Some waiting → ⊥)) ⊎ ((mem_unless_waiting x ≡ None) × (Some x.place ≡ Some waiting))
    by top e = inl (rw e refl, λ g. absurd (cc))
    by (within m) e = inl (rw e refl, λ g. absurd (cc))
    by waiting e = inr (rw e refl, ap (λ z. Some z) e)
    by gone e = inl (rw e refl, λ g. absurd (cc))

module _ (s : Heap) (h : Listed s) where
  place_left : (a : ℕ) (P : Place) → (P ≡ waiting → ⊥) → (place_of s a ≡ Some P) ↔ (place_of (discarded s) a ≡ Some P)
  place_left a P d = elim (stays (s.atoms a)) [
    | inl w ↦ (let e = ap (λ (o : Option HeapAtom). option_map (λ x. x.place) o) w.0 in (λ p. e ∙ p, λ p. sym e ∙ p))
    | inr w ↦ (let e = ap (λ (o : Option HeapAtom). option_map (λ x. x.place) o) w.0 in
        (λ p. absurd (let g : Some P ≡ Some waiting = sym p ∙ w.1 in d (cc)), λ p. absurd (let g : None ≡ Some P = sym e ∙ p in cc)))
  ]

  mem_place_left : (m : ℕ) (P : Place) → (P ≡ waiting → ⊥) → (mem_place_of s m ≡ Some P) ↔ (mem_place_of (discarded s) m ≡ Some P)
  mem_place_left m P d = elim (mem_stays (s.mems m)) [
    | inl w ↦ (let e = ap (λ (o : Option HeapMem). option_map (λ x. x.place) o) w.0 in (λ p. e ∙ p, λ p. sym e ∙ p))
    | inr w ↦ (let e = ap (λ (o : Option HeapMem). option_map (λ x. x.place) o) w.0 in
        (λ p. absurd (let g : Some P ≡ Some waiting = sym p ∙ w.1 in d (cc)), λ p. absurd (let g : None ≡ Some P = sym e ∙ p in cc)))
  ]

  none_waits : (a : ℕ) → place_of (discarded s) a ≡ Some waiting → ⊥
  none_waits a e = elim (stays (s.atoms a)) [
    | inl w ↦ w.1 (sym (ap (λ (o : Option HeapAtom). option_map (λ x. x.place) o) w.0) ∙ e)
    | inr w ↦ (let g : None ≡ Some waiting = sym (ap (λ (o : Option HeapAtom). option_map (λ x. x.place) o) w.0) ∙ e in absurd (cc))
  ]

  no_mem_waits : (m : ℕ) → mem_place_of (discarded s) m ≡ Some waiting → ⊥
  no_mem_waits m e = elim (mem_stays (s.mems m)) [
    | inl w ↦ w.1 (sym (ap (λ (o : Option HeapMem). option_map (λ x. x.place) o) w.0) ∙ e)
    | inr w ↦ (let g : None ≡ Some waiting = sym (ap (λ (o : Option HeapMem). option_map (λ x. x.place) o) w.0) ∙ e in absurd (cc))
  ]

  atoms_left : (m : ℕ) → atoms_in (discarded s) m ≡ atoms_in s m
  atoms_left m = elim (mem_stays (s.mems m)) [ inl w ↦ ap atoms_by w.0 | inr w ↦ ap atoms_by w.0 ∙ sym (h.new_empty m w.1).0 ]

  mems_left : (m : ℕ) → mems_in (discarded s) m ≡ mems_in s m
  mems_left m = elim (mem_stays (s.mems m)) [ inl w ↦ ap mems_by w.0 | inr w ↦ ap mems_by w.0 ∙ sym (h.new_empty m w.1).1 ]

  both : {A B C : Type 0} → (A ↔ B) → (B ↔ C) → A ↔ C
  both p q = (λ x. q.0 (p.0 x), λ z. p.1 (q.1 z))

  -- `discard`
  pub discarded_listed : Listed (discarded s)
  discarded_listed = record {
    atoms = λ m a. rw (atoms_left m) (both (h.atoms m a) (place_left a (within m) (λ e. absurd (cc))));
    atoms_once = λ m. rw (atoms_left m) (h.atoms_once m);
    mems = λ m n. rw (mems_left m) (both (h.mems m n) (mem_place_left n (within m) (λ e. absurd (cc))));
    mems_once = λ m. rw (mems_left m) (h.mems_once m);
    new_atoms = λ a. (λ i. absurd i, λ e. absurd (none_waits a e));
    new_atoms_once = tt;
    new_mems = λ m. (λ i. absurd i, λ e. absurd (no_mem_waits m e));
    new_mems_once = tt;
    root = λ m. (λ e. (h.root m).0 ((mem_place_left m top (λ e. absurd (cc))).1 e), λ e. (mem_place_left m top (λ e. absurd (cc))).0 ((h.root m).1 e));
    no_top = λ a e. h.no_top a ((place_left a top (λ e. absurd (cc))).1 e);
    new_empty = λ m e. absurd (no_mem_waits m e);
  }
