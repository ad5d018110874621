-- What the reading calls of a store over slabs answer.
use Rattle.std.proofs.Common.{◌≡◌, ℕ, zero, suc, ◌+◌, ◌<◌, ◌≤◌, List, [], ◌∷◌, ◌++◌, length, Option, Some, None, IfSome, refl, sym, ap, subst, ◌∙◌, arith}
use Rattle.std.specs.Option.{option_map, option_and_then}
use Rattle.std.specs.Prelude.{slice_index_or, slice_get}
use Rattle.lmn_base.specs.declared.functor.Functor.{Functor}
use Rattle.lmn_store_heap.specs.Lists.{from, after}
use Rattle.lmn_store_heap.specs.Heap.{Heap, HeapAtom, HeapMem, Place, within, home_by, partners_of, link_of, arity_of, mark_of, marks_of, home_of, parent_of, functor_of, atoms_in, port_id, IsAtom, IsInPlace}
use Rattle.lmn_store_heap.specs.Functors.{with_functor}
use Rattle.lmn_store_heap.specs.Sound.{Paired}
use Rattle.lmn_store_heap.proofs.Replacing.{port_within}
use Rattle.lmn_store_heap.proofs.WithFunctor.{with_after}
use Rattle.lmn_store_slab.specs.Lines.{list_at}
use Rattle.lmn_store_slab.specs.declared.cell.Port.{Port}
use Rattle.lmn_store_slab.specs.declared.cell.AtomCell.{AtomCell}
use Rattle.lmn_store_slab.specs.Cells.{port_partners, port_marks, atom_in_cell, atoms_in_cells, mems_in_cells, place_by}
use Rattle.lmn_store_slab.specs.Kept.{Kept, AlwaysHolds, heap_of, place_in, mem_place_in}
use Rattle.lmn_store_slab.proofs.CellLemmas.{length-partners}
use Rattle.lmn_store_slab.proofs.BuiltLemmas.{built_parent}
use Rattle.lmn_store_slab.proofs.FitsLemmas.{built_atoms}
use Rattle.lmn_store_slab.proofs.SeekLemmas.{if_next}
use Rattle.lmn_store_slab.proofs.HoldsLemmas.{own_home}
use Rattle.lmn_store_heap.proofs.Common.{linked_atom}
use Rattle.lmn_base.specs.Lists.{In}
use Rattle.lmn_base.proofs.Lists.{weaker}

-- a port by its number stays itself
pub no_change : (o : Option (ℕ × ℕ)) → option_map (port_id (λ a. a)) o ≡ o
no_change None = refl
no_change (Some p) = refl

same_number : (o : Option ℕ) → option_map (λ a. a) o ≡ o
same_number None = refl
same_number (Some a) = refl

partners-get : (ps : List Port) (i : ℕ) (p : Port) → slice_get ps i ≡ Some p → slice_index_or (port_partners ps) i None ≡ p.partner
partners-get [] i p e = absurd (cc)
partners-get (q ∷ ps) zero p e = let w : q ≡ p = (cc) in ap (λ (z : Port). z.partner) w
partners-get (q ∷ ps) (suc i) p e = partners-get ps i p e

marks-get : (ps : List Port) (i : ℕ) (p : Port) (own : ℕ) → slice_get ps i ≡ Some p → slice_index_or (port_marks ps ++ own ∷ []) i 0 ≡ p.mark
marks-get [] i p own e = absurd (cc)
marks-get (q ∷ ps) zero p own e = let w : q ≡ p = (cc) in ap (λ (z : Port). z.mark) w
marks-get (q ∷ ps) (suc i) p own e = marks-get ps i p own e

own-get : (ps : List Port) (i own : ℕ) → i ≡ length ps → slice_index_or (port_marks ps ++ own ∷ []) i 0 ≡ own
own-get ps i own e = rw e (by ps)
  where
    by : (ps : List Port) → slice_index_or (port_marks ps ++ own ∷ []) (length ps) 0 ≡ own
    by [] = refl
    by (q ∷ ps) = by ps

module _ (k : Kept) (a i : ℕ) (c : AtomCell) (at : slice_index_or k.atoms a None ≡ Some c) where
  pub arity_is : arity_of (heap_of k) a ≡ length c.ports
  arity_is = ap (λ (o : Option AtomCell). length (partners_of (option_map atom_in_cell o))) at ∙ length-partners c.ports

  pub port_there : i < arity_of (heap_of k) a → i < length c.ports
  port_there h = let e = arity_is in omega (arith, h)

  pub slot_there : i ≤ arity_of (heap_of k) a → i ≤ length c.ports
  slot_there h = let e = arity_is in omega (arith, h)

  pub partner_is : (p : Port) → slice_get c.ports i ≡ Some p → link_of (heap_of k) a i ≡ p.partner
  partner_is p e = ap (λ (o : Option AtomCell). slice_index_or (partners_of (option_map atom_in_cell o)) i None) at ∙ partners-get c.ports i p e

  pub mark_is : (p : Port) → slice_get c.ports i ≡ Some p → mark_of (heap_of k) a i ≡ p.mark
  mark_is p e = ap (λ (o : Option AtomCell). slice_index_or (marks_of (option_map atom_in_cell o)) i 0) at ∙ marks-get c.ports i p c.mark e

  pub own_mark_is : i ≡ length c.ports → mark_of (heap_of k) a i ≡ c.mark
  own_mark_is e = ap (λ (o : Option AtomCell). slice_index_or (marks_of (option_map atom_in_cell o)) i 0) at ∙ own-get c.ports i c.mark e

-- a partner has this port for its partner
pub partner_back : (s : Heap) → Paired s → (a i : ℕ) (o : Option (ℕ × ℕ)) → link_of s a i ≡ o → IfSome o (λ p. link_of s p.0 p.1 ≡ Some (a, i))
partner_back s q a i None e = tt
partner_back s q a i (Some p) e = q.back a i p.0 p.1 e

-- and is a port of an atom
pub partner_there : (s : Heap) → Paired s → (a i : ℕ) (o : Option (ℕ × ℕ)) → link_of s a i ≡ o → IfSome o (λ p. IsAtom s p.0 × (p.1 < arity_of s p.0))
partner_there s q a i None e = tt
partner_there s q a i (Some p) e = let w = q.back a i p.0 p.1 e in (linked_atom s p.0 p.1 w, port_within s p.0 p.1 (a, i) w)

homes_by : (A : ℕ → Option HeapAtom) (a b : ℕ) (P : Place) → place_in A a ≡ Some P → place_in A b ≡ Some P → option_and_then (λ x. home_by x.place) (A b) ≡ option_and_then (λ x. home_by x.place) (A a)
homes_by A a b P p q = home (A b) q ∙ sym (home (A a) p)
  where
    home : (o : Option HeapAtom) → option_map (λ x. x.place) o ≡ Some P → option_and_then (λ x. home_by x.place) o ≡ home_by P
    home None e = absurd (cc)
    home (Some x) e = let w : x.place ≡ P = (cc) in ap home_by w

parents_by : (B : ℕ → Option HeapMem) (a b : ℕ) (P : Place) → mem_place_in B a ≡ Some P → mem_place_in B b ≡ Some P → option_and_then (λ x. home_by x.place) (B b) ≡ option_and_then (λ x. home_by x.place) (B a)
parents_by B a b P p q = home (B b) q ∙ sym (home (B a) p)
  where
    home : (o : Option HeapMem) → option_map (λ x. x.place) o ≡ Some P → option_and_then (λ x. home_by x.place) o ≡ home_by P
    home None e = absurd (cc)
    home (Some x) e = let w : x.place ≡ P = (cc) in ap home_by w

module _ (k : Kept) (n m s : ℕ) (h : AlwaysHolds k n m s) where
  module _ (a : ℕ) (c : AtomCell) (at : slice_index_or k.atoms a None ≡ Some c) where
    own_list : place_in (atoms_in_cells k.atoms) a ≡ Some (place_by c.list)
    own_list = ap (λ (o : Option AtomCell). option_map (λ x. x.place) (option_map atom_in_cell o)) at

    pub next_homes : (o : Option ℕ) → from o (list_at k.atom_lists c.list) ≡ after a (list_at k.atom_lists c.list) → IfSome o (λ b. home_of (heap_of k) b ≡ home_of (heap_of k) a)
    next_homes o e = weaker o (λ b. In b (list_at k.atom_lists c.list)) (λ b. home_of (heap_of k) b ≡ home_of (heap_of k) a)
        (λ b i. homes_by (atoms_in_cells k.atoms) a b (place_by c.list) own_list ((h.fits.atom_files.filed c.list b).0 i)) (if_next o a (list_at k.atom_lists c.list) e)

    module _ (placed : IsInPlace (heap_of k) a) (start result : Option ℕ) (next : from start (list_at k.atom_lists c.list) ≡ after a (list_at k.atom_lists c.list))
        (found : from result (with_functor (heap_of k) c.functor (list_at k.atom_lists c.list)) ≡ with_functor (heap_of k) c.functor (from start (list_at k.atom_lists c.list))) where
      functor_is : functor_of (heap_of k) a ≡ Some c.functor
      functor_is = ap (λ (o : Option AtomCell). option_map (λ x. x.functor) (option_map atom_in_cell o)) at

      pub next_with_list : (t : ℕ) (g : Functor) → home_of (heap_of k) a ≡ Some t → functor_of (heap_of k) a ≡ Some g
          → from (option_map (λ x. x) result) (with_functor (heap_of k) g (atoms_in (heap_of k) t)) ≡ after a (with_functor (heap_of k) g (atoms_in (heap_of k) t))
      next_with_list t g home is =
          let w = own_home k n m s h a c at placed in
          let homes : home_of (heap_of k) a ≡ Some w.0 = home_at (atoms_in_cells k.atoms a) w.0 w.2 in
          let same : t ≡ w.0 = (let u : Some t ≡ Some w.0 = sym home ∙ homes in cc) in
          let g_is : g ≡ c.functor = (let u : Some g ≡ Some c.functor = sym is ∙ functor_is in cc) in
          let list : atoms_in (heap_of k) t ≡ list_at k.atom_lists c.list = built_atoms (atoms_in_cells k.atoms) (mems_in_cells k.mems) (list_at k.atom_lists) (list_at k.mem_lists) h.fits t
          ∙ ap (λ z. list_at k.atom_lists (z + 2)) same ∙ ap (list_at k.atom_lists) (sym w.1) in
          subst (λ xs. from (option_map (λ x. x) result) (with_functor (heap_of k) g xs) ≡ after a (with_functor (heap_of k) g xs)) (sym list)
          (subst (λ f. from (option_map (λ x. x) result) (with_functor (heap_of k) f (list_at k.atom_lists c.list)) ≡ after a (with_functor (heap_of k) f (list_at k.atom_lists c.list))) (sym g_is)
          (ap (λ o. from o (with_functor (heap_of k) c.functor (list_at k.atom_lists c.list))) (same_number result) ∙ found ∙ ap (with_functor (heap_of k) c.functor) next
          ∙ sym (with_after (heap_of k) c.functor a (list_at k.atom_lists c.list) functor_is)))
        where
          home_at : (o : Option HeapAtom) (t : ℕ) → option_map (λ x. x.place) o ≡ Some (within t) → option_and_then (λ x. home_by x.place) o ≡ Some t
          home_at None t e = absurd (cc)
          home_at (Some x) t e = let w : x.place ≡ within t = (cc) in ap home_by w

      pub next_with_functor : IfSome result (λ b. functor_of (heap_of k) b ≡ Some c.functor) → IfSome result (λ b. functor_of (heap_of k) b ≡ functor_of (heap_of k) a)
      next_with_functor = weaker result (λ b. functor_of (heap_of k) b ≡ Some c.functor) (λ b. functor_of (heap_of k) b ≡ functor_of (heap_of k) a) (λ b e. e ∙ sym functor_is)

  pub next_parents : (t l : ℕ) → mem_place_in (mems_in_cells k.mems) t ≡ Some (place_by l) → (o : Option ℕ) → from o (list_at k.mem_lists l) ≡ after t (list_at k.mem_lists l)
      → IfSome o (λ b. parent_of (heap_of k) b ≡ parent_of (heap_of k) t)
  next_parents t l own o e =
      let A = atoms_in_cells k.atoms in
      let B = mems_in_cells k.mems in
      let L = list_at k.atom_lists in
      let M = list_at k.mem_lists in
      weaker o (λ b. In b (list_at k.mem_lists l)) (λ b. parent_of (heap_of k) b ≡ parent_of (heap_of k) t)
      (λ b i. built_parent A B L M b ∙ parents_by B t b (place_by l) own ((h.fits.mem_files.filed l b).0 i) ∙ sym (built_parent A B L M t)) (if_next o t (list_at k.mem_lists l) e)
