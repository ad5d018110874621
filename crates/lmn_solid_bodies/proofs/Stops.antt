-- A prepare that is given up: what was made waits alone, and is discarded.
use Rattle.std.proofs.Common.{ℕ, ◌≡◌, ◌⊎◌, List, [], ◌∷◌, Option, Some, None, IsSome, refl, sym, ap, subst, ◌∙◌, inl, inr}
use Rattle.std.proofs.lemmas.Bool.{cases_eq}
use Rattle.std.specs.Option.{option_map, option_and_then}
use Rattle.std.specs.Prelude.{slice_index_or}
use Rattle.lmn_base.specs.declared.functor.Functor.{Functor}
use Rattle.lmn_store_heap.specs.Heap.{Heap, HeapAtom, HeapMem, Place, top, within, waiting, gone, home_by, partners_of, new_atom, new_mem, mem_with_spare, unless_waiting, mem_unless_waiting, made_atom, made_mem, reserved}
use Rattle.lmn_store_heap.proofs.Listing.{alter_at, alter_away}
use Rattle.lmn_instr_code.specs.declared.instr.Instr.{Instr}
use Rattle.lmn_instr_code.specs.declared.instr.Instr.TheVariants.{RemoveAtom, RemovePart, RemoveMem, NewAtom, NewInt, NewMem, CopyGround, MoveCells, CopyCells, LoadRule, CopyRules, DropCells, NewLink, Relink, Unify, Proceed}
use Rattle.lmn_solid_bodies.specs.Running.{Registers, integer_functor, Prepares}
use Rattle.lmn_solid_bodies.specs.Stopping.{NoCopying}
use Rattle.lmn_solid_bodies.specs.Laws.{PrepareStops}
use Rattle.lmn_store_heap.proofs.Common.{no_links}

abbrev spared : ℕ → HeapMem
spared k = mem_with_spare k new_mem

-- s is h with atoms and membranes that wait, and other spares
record Waits (h s : Heap) : Type 0 where
  pub atoms : (a : ℕ) → (s.atoms a ≡ h.atoms a) ⊎ ((h.atoms a ≡ None) × ((f : Functor) × (s.atoms a ≡ Some (new_atom f))))
  pub mems : (m : ℕ) → ((k : ℕ) × (s.mems m ≡ option_map (mem_with_spare k) (h.mems m))) ⊎ ((h.mems m ≡ None) × ((k : ℕ) × (s.mems m ≡ Some (spared k))))
  pub root : s.root ≡ h.root

same_spare : (o : Option HeapMem) → (k : ℕ) × (o ≡ option_map (mem_with_spare k) o)
same_spare None = (0, refl)
same_spare (Some x) = (x.spare, refl)

none_of : (k : ℕ) (o : Option HeapMem) → None ≡ option_map (mem_with_spare k) o → o ≡ None
none_of k None e = refl
none_of k (Some x) e = absurd (cc)

atom_waits : (h s : Heap) (a : ℕ) (f : Functor) → Waits h s → s.atoms a ≡ None → Waits h (made_atom s a f)
atom_waits h s a f w free = record {
  atoms = λ b. elim (cases_eq b a) [
    | inl e ↦ inr (
      elim (w.atoms b) [ inl q ↦ sym q ∙ ap s.atoms e ∙ free | inr q ↦ q.0 ],
      (f, ap (made_atom s a f).atoms e ∙ alter_at s.atoms a (λ _. Some (new_atom f))),
    )
    | inr d ↦ (let same = alter_away s.atoms a (λ _. Some (new_atom f)) b d in
        elim (w.atoms b) [ inl q ↦ inl (same ∙ q) | inr q ↦ inr (q.0, (q.1.0, same ∙ q.1.1)) ])
  ];
  mems = w.mems;
  root = w.root;
}

mem_waits : (h s : Heap) (m : ℕ) → Waits h s → s.mems m ≡ None → Waits h (made_mem s m)
mem_waits h s m w free = record {
  atoms = w.atoms;
  mems = λ x. elim (cases_eq x m) [
    | inl e ↦ inr (
      elim (w.mems x) [ inl q ↦ none_of q.0 (h.mems x) (sym free ∙ ap s.mems (sym e) ∙ q.1) | inr q ↦ q.0 ],
      (0, ap (made_mem s m).mems e ∙ alter_at s.mems m (λ _. Some new_mem)),
    )
    | inr d ↦ (let same = alter_away s.mems m (λ _. Some new_mem) x d in
        elim (w.mems x) [ inl q ↦ inl (q.0, same ∙ q.1) | inr q ↦ inr (q.0, (q.1.0, same ∙ q.1.1)) ])
  ];
  root = w.root;
}

spare_waits : (h s : Heap) (m n : ℕ) → Waits h s → Waits h (reserved s m n)
spare_waits h s m n w = record {
  atoms = w.atoms;
  mems = λ x. elim (cases_eq x m) [
    | inl e ↦ (let at : (reserved s m n).mems x ≡ option_map (mem_with_spare n) (s.mems x) =
        subst (λ z. (reserved s m n).mems z ≡ option_map (mem_with_spare n) (s.mems z)) (sym e) (alter_at s.mems m (option_map (mem_with_spare n))) in
        elim (w.mems x) [
          | inl q ↦ inl (n, at ∙ ap (option_map (mem_with_spare n)) q.1 ∙ twice q.0 (h.mems x))
          | inr q ↦ inr (q.0, (n, at ∙ ap (option_map (mem_with_spare n)) q.1.1))
        ])
    | inr d ↦ (let same = alter_away s.mems m (option_map (mem_with_spare n)) x d in
        elim (w.mems x) [ inl q ↦ inl (q.0, same ∙ q.1) | inr q ↦ inr (q.0, (q.1.0, same ∙ q.1.1)) ])
  ];
  root = w.root;
}
  where
    twice : (k : ℕ) (o : Option HeapMem) → option_map (mem_with_spare n) (option_map (mem_with_spare k) o) ≡ option_map (mem_with_spare n) o
    twice k None = refl
    twice k (Some x) = refl

all_wait : (r : Registers) (code : List Instr) → NoCopying code → (h s t : Heap) → Waits h s → Prepares r code s t → Waits h t
all_wait r [] c h s t w p = subst (Waits h) (sym p) w
all_wait r (RemoveAtom a ∷ is) c h s t w p = all_wait r is c.1 h p.0 t (subst (Waits h) (sym p.1) w) p.2
all_wait r (RemovePart g ∷ is) c h s t w p = all_wait r is c.1 h p.0 t (subst (Waits h) (sym p.1) w) p.2
all_wait r (RemoveMem m ∷ is) c h s t w p = all_wait r is c.1 h p.0 t (subst (Waits h) (sym p.1) w) p.2
all_wait r (NewAtom a m f ∷ is) c h s t w p = all_wait r is c.1 h p.0 t (subst (Waits h) (sym p.1.1) (atom_waits h s (r.head.images.atom a) f w p.1.0)) p.2
all_wait r (NewInt a m v ∷ is) c h s t w p = all_wait r is c.1 h p.0 t (subst (Waits h) (sym p.1.1) (atom_waits h s (r.head.images.atom a) (integer_functor (r.head.integer v)) w p.1.0)) p.2
all_wait r (NewMem m n ∷ is) c h s t w p = all_wait r is c.1 h p.0 t (subst (Waits h) (sym p.1.1) (mem_waits h s (r.head.images.membrane m) w p.1.0)) p.2
all_wait r (CopyGround x m g ∷ is) c h s t w p = absurd (c.0 tt)
all_wait r (MoveCells m n ∷ is) c h s t w p = all_wait r is c.1 h p.0 t (subst (Waits h) (sym p.1) w) p.2
all_wait r (CopyCells m n ∷ is) c h s t w p = absurd (c.0 tt)
all_wait r (LoadRule m k ∷ is) c h s t w p = all_wait r is c.1 h p.0 t (subst (Waits h) (sym p.1.1) (spare_waits h s (r.head.images.membrane m) p.1.0 w)) p.2
all_wait r (CopyRules m n ∷ is) c h s t w p = all_wait r is c.1 h p.0 t (subst (Waits h) (sym p.1.1) (spare_waits h s (r.head.images.membrane n) p.1.0 w)) p.2
all_wait r (DropCells m ∷ is) c h s t w p = all_wait r is c.1 h p.0 t (subst (Waits h) (sym p.1) w) p.2
all_wait r (NewLink x y ∷ is) c h s t w p = all_wait r is c.1 h p.0 t (subst (Waits h) (sym p.1) w) p.2
all_wait r (Relink x y ∷ is) c h s t w p = all_wait r is c.1 h p.0 t (subst (Waits h) (sym p.1) w) p.2
all_wait r (Unify x y ∷ is) c h s t w p = all_wait r is c.1 h p.0 t (subst (Waits h) (sym p.1) w) p.2
all_wait r (Proceed ∷ is) c h s t w p = all_wait r is c.1 h p.0 t (subst (Waits h) (sym p.1) w) p.2
all_wait r (_ ∷ is) c h s t w p = absurd p.1

-- what stood before doesn't wait
atom_stays : (o : Option HeapAtom) → (IsSome o → IsSome (option_and_then (λ x. home_by x.place) o)) → option_and_then unless_waiting o ≡ o
atom_stays None h = refl
atom_stays (Some x) h = by x.place refl (h refl)
  where
    by : (p : Place) → x.place ≡ p → IsSome (home_by x.place) → unless_waiting x ≡ Some x
    by top e i = rw e refl
    by (within m) e i = rw e refl
    by waiting e i = absurd (let z : IsSome (home_by waiting) = subst (λ q. IsSome (home_by q)) e i in cc)
    by gone e i = rw e refl

mem_stays : (k : ℕ) (o : Option HeapMem) → (IsSome o → (option_map (λ x. x.place) o ≡ Some top) ⊎ IsSome (option_and_then (λ x. home_by x.place) o)) → option_and_then mem_unless_waiting (option_map (mem_with_spare k) o) ≡ option_map (mem_with_spare k) o
mem_stays k None h = refl
mem_stays k (Some x) h = by x.place refl (h refl)
  where
    by : (p : Place) → x.place ≡ p → (Some x.place ≡ Some top) ⊎ IsSome (home_by x.place) → mem_unless_waiting (mem_with_spare k x) ≡ Some (mem_with_spare k x)
    by top e i = rw e refl
    by (within m) e i = rw e refl
    by waiting e (inl f) = absurd (let z : Some waiting ≡ Some top = sym (ap (λ q. Some q) e) ∙ f in cc)
    by waiting e (inr i) = absurd (let z : IsSome (home_by waiting) = subst (λ q. IsSome (home_by q)) e i in cc)
    by gone e i = rw e refl

-- a prepare may be given up after any of its instructions
pub prepare_stops : PrepareStops
prepare_stops r code c h valid s p =
    let w = all_wait r code c h h s (record { atoms = λ a. inl refl; mems = λ m. inl (same_spare (h.mems m)); root = refl }) p in (
      (λ a i b j e f. elim (w.atoms a) [
        | inl q ↦ off (h.atoms a) (valid.settled.atoms a) (sym (ap (λ (o : Option HeapAtom). option_map (λ x. x.place) o) q) ∙ e)
        | inr q ↦ absurd (let z : ◌≡◌ {A = Option (ℕ × ℕ)} None (Some (b, j)) = sym (ap (λ (o : Option HeapAtom). slice_index_or (partners_of o) i None) q.1.1 ∙ no_links q.1.0.arity i) ∙ f in cc)
      ]),
      record {
        root = w.root;
        atoms = λ a. elim (w.atoms a) [
          | inl q ↦ ap (option_and_then unless_waiting) q ∙ atom_stays (h.atoms a) (valid.settled.atoms a)
          | inr q ↦ ap (option_and_then unless_waiting) q.1.1 ∙ sym q.0
        ];
        mems = λ m. elim (w.mems m) [
          | inl q ↦ (q.0, ap (option_and_then mem_unless_waiting) q.1 ∙ mem_stays q.0 (h.mems m) (valid.settled.mems m))
          | inr q ↦ (0, ap (option_and_then mem_unless_waiting) q.1.1 ∙ sym (ap (option_map (mem_with_spare 0)) q.0))
        ];
        new_atoms = refl;
        new_mems = refl;
      },
    )
  where
    off : {X : Type 0} (o : Option HeapAtom) → (IsSome o → IsSome (option_and_then (λ x. home_by x.place) o)) → option_map (λ x. x.place) o ≡ Some waiting → X
    off None h e = absurd (cc)
    off (Some x) h e = absurd (let q : x.place ≡ waiting = (cc) in let z : IsSome (home_by waiting) = subst (λ p. IsSome (home_by p)) q (h refl) in cc)
