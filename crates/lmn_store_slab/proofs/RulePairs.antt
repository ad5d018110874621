-- What holds of a store over slabs after a change of rules and spares.
use Rattle.std.proofs.Common.{◌≡◌, ℕ, ◌+◌, ◌-◌, ◌≤◌, List, length, Option, Some, None, refl, sym, ap, subst, ◌∙◌, arith}
use Rattle.std.specs.Prelude.{slice_index_or}
use Rattle.std.specs.Option.{option_map}
use Rattle.lmn_store_heap.specs.Heap.{HeapMem, alter, spare_of, spare_by, rules_in, rules_by, mem_with_spare, mem_with_rules, reserved, rules_copied, IsMem}
use Rattle.lmn_store_heap.proofs.Listing.{alter_at}
use Rattle.lmn_store_slab.specs.Lines.{list_at}
use Rattle.lmn_store_slab.specs.declared.cell.MemCell.{MemCell}
use Rattle.lmn_store_slab.specs.Cells.{atoms_in_cells, mems_in_cells, mem_in_cell, with_lists}
use Rattle.lmn_store_slab.specs.Kept.{Kept, AlwaysHolds, heap_of}
use Rattle.lmn_store_counts.specs.Counts.{HasCounts, BOUND}
use Rattle.lmn_store_counts.proofs.RuleCounts.{rule_counts, spare_counts, spare_less}
use Rattle.lmn_store_slab.proofs.BuiltLemmas.{built_rules}
use Rattle.lmn_store_slab.proofs.HoldsLemmas.{mem_is, mem_pair}
use Rattle.lmn_base.proofs.Lists.{some_is as some_of}

module _ (k : Kept) (n m s : ℕ) (h : AlwaysHolds k n m s) where
  spare_is : (t : ℕ) (x : HeapMem) → mems_in_cells k.mems t ≡ Some x → spare_of (heap_of k) t ≡ x.spare
  spare_is t x e = ap (λ (o : Option HeapMem). spare_by (option_map (with_lists (list_at k.atom_lists (t + 2)) (list_at k.mem_lists (t + 2))) o)) e

  -- `add_rule` and `copy_rules`
  pub rule_less : (t : ℕ) (ks : List ℕ) → IsMem (heap_of k) t → length ks ≤ spare_of (heap_of k) t → length ks ≤ s
  rule_less t ks there room =
      let x = some_of (mems_in_cells k.mems t) (mem_is k n m s h t there) in
      let spare = spare_is t x.0 x.1 in
      let less = spare_less (atoms_in_cells k.atoms) (mems_in_cells k.mems) n m s t x.0 x.1 h.counts in
      omega (arith, less, room)

  pub rule_pair : (k1 : Kept) (t : ℕ) (ks : List ℕ) → IsMem (heap_of k) t → length ks ≤ spare_of (heap_of k) t
      → k1.atoms ≡ k.atoms → mems_in_cells k1.mems ≡ alter (mems_in_cells k.mems) t (option_map (mem_with_rules ks)) → k1.atom_lists ≡ k.atom_lists → k1.mem_lists ≡ k.mem_lists
      → AlwaysHolds k1 n (m + length ks) (s - length ks) × (heap_of k1 ≡ record (heap_of k) { mems = alter (heap_of k).mems t (option_map (mem_with_rules ks)) })
  rule_pair k1 t ks there room ea eb el eml =
      let x = some_of (mems_in_cells k.mems t) (mem_is k n m s h t there) in
      let spare = spare_is t x.0 x.1 in
      mem_pair k n m s h k1 t (mem_with_rules ks) (λ xs ys y. refl) (λ y. refl) ea eb el eml (m + length ks) (s - length ks)
      (rule_counts (atoms_in_cells k.atoms) (mems_in_cells k.mems) n m s t x.0 x.1 h.counts ks (omega (arith, room)))

  -- `reserve_rules`
  pub reserve_pair : (k1 : Kept) (t j old : ℕ) → IsMem (heap_of k) t → spare_of (heap_of k) t ≡ old → old ≤ j → n + m + s + (j - old) ≤ BOUND
      → k1.atoms ≡ k.atoms → mems_in_cells k1.mems ≡ alter (mems_in_cells k.mems) t (option_map (mem_with_spare j)) → k1.atom_lists ≡ k.atom_lists → k1.mem_lists ≡ k.mem_lists
      → (AlwaysHolds k1 n m (s + (j - old)) × (heap_of k1 ≡ reserved (heap_of k) t j)) × (spare_of (heap_of k1) t ≡ j)
  reserve_pair k1 t j old there is more low ea eb el eml =
      let x = some_of (mems_in_cells k.mems t) (mem_is k n m s h t there) in
      let spare : x.0.spare ≡ old = sym (spare_is t x.0 x.1) ∙ is in
      let counts = spare_counts (atoms_in_cells k.atoms) (mems_in_cells k.mems) n m s t x.0 x.1 h.counts j (omega (arith, more)) (omega (arith, low)) in (
        mem_pair k n m s h k1 t (mem_with_spare j) (λ xs ys y. refl) (λ y. refl) ea eb el eml m (s + (j - old))
            (subst (λ z. HasCounts (atoms_in_cells k.atoms) (alter (mems_in_cells k.mems) t (option_map (mem_with_spare j))) n m (s + (j - z))) spare counts),
        ap (λ (f : ℕ → Option HeapMem). spare_by (option_map (with_lists (list_at k1.atom_lists (t + 2)) (list_at k1.mem_lists (t + 2))) (f t))) eb
            ∙ ap (λ (o : Option HeapMem). spare_by (option_map (with_lists (list_at k1.atom_lists (t + 2)) (list_at k1.mem_lists (t + 2))) o)) (alter_at (mems_in_cells k.mems) t (option_map (mem_with_spare j)) ∙ ap (option_map (mem_with_spare j)) x.1),
      )

-- the spare room of a membrane is that of its cell
pub spare_at : (k : Kept) (t : ℕ) (c : MemCell) → slice_index_or k.mems t None ≡ Some c → spare_of (heap_of k) t ≡ c.rules.spare
spare_at k t c at = ap (λ (o : Option MemCell). spare_by (option_map (with_lists (list_at k.atom_lists (t + 2)) (list_at k.mem_lists (t + 2))) (option_map mem_in_cell o))) at

module _ (k : Kept) (n m s : ℕ) (h : AlwaysHolds k n m s) (a b : ℕ) (there : IsMem (heap_of k) b) (room : length (rules_in (heap_of k) a) ≤ spare_of (heap_of k) b)
    (count : ℕ) (is : count ≡ length (rules_by (mems_in_cells k.mems a))) where
  rules_are : rules_in (heap_of k) a ≡ rules_by (mems_in_cells k.mems a)
  rules_are = built_rules (atoms_in_cells k.atoms) (mems_in_cells k.mems) (list_at k.atom_lists) (list_at k.mem_lists) a

  room_for : length (rules_by (mems_in_cells k.mems a)) ≤ spare_of (heap_of k) b
  room_for = subst (λ (ks : List ℕ). length ks ≤ spare_of (heap_of k) b) rules_are room

  pub copy_less : count ≤ s
  copy_less = rw is (rule_less k n m s h b (rules_by (mems_in_cells k.mems a)) there room_for)

  pub copy_pair : (k1 : Kept) → k1.atoms ≡ k.atoms → mems_in_cells k1.mems ≡ alter (mems_in_cells k.mems) b (option_map (mem_with_rules (rules_by (mems_in_cells k.mems a)))) → k1.atom_lists ≡ k.atom_lists → k1.mem_lists ≡ k.mem_lists
      → AlwaysHolds k1 n (m + count) (s - count) × (heap_of k1 ≡ rules_copied (heap_of k) a b)
  copy_pair k1 ea eb el eml =
      let w = rule_pair k n m s h k1 b (rules_by (mems_in_cells k.mems a)) there room_for ea eb el eml in (
        subst (λ z. AlwaysHolds k1 n (m + z) (s - z)) (sym is) w.0,
        w.1 ∙ (λ j. record (heap_of k) { mems = alter (heap_of k).mems b (option_map (mem_with_rules (sym rules_are j))) }),
      )
