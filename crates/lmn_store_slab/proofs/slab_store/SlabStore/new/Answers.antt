use Rattle.std.proofs.Common.{subst, sym, ◌∙◌, [], Some, ap, arith}
use Rattle.lmn_store_heap.specs.Heap.{HeapMem, alter, top}
use Rattle.lmn_store_slab.specs.Lines.{HeldLists, list_at}
use Rattle.lmn_store_counts.specs.RuleLists.{RuleList}
use Rattle.lmn_store_slab.specs.Cells.{mems_in_cells}
use Rattle.lmn_store_heap.specs.Sound.{Valid}
use Rattle.lmn_store_heap.proofs.Lone.{lone_valid}
use Rattle.lmn_store_slab.proofs.NewPair.{new_pair}
use Rattle.lmn_store_slab.proofs.slab_store.SlabStore.new.Goals as goal

-- a root with these rules
abbrev root_by : RuleList → HeapMem
root_by r = record { atoms = []; mems = []; rules = r.numbers; spare = r.spare; mark = 0; place = top }

pub invariant_of-result : goal.invariant_of-result
invariant_of-result c =
    let n1 = c.cover_first.ensures.size in
    let l1 = c.in_ok-cover_first.ensures.ok in
    let l2 = c.in_ok-cover_first-2.ensures.ok in
    let f1 = c.in_ok-cover_first.ensures.fits in
    let f2 = c.in_ok-cover_first-2.ensures.fits in
    let same = c.cover.ensures.count in
    let number = c.in_ok-cover.ensures.ok in
    (new_pair (record { atoms = c.new-2.result.slots; mems = c.insert_mem.new.mems.slots; atom_lists = c.cover_first.new.lists; mem_lists = c.cover.new.lists })
    c.new-2.ensures.empty
    (c.in_ok-insert_mem.ensures.ok ∙ (λ j. alter (mems_in_cells (c.new-mems.ensures.empty j)) ((c.in_ok-insert_mem.ensures.key ∙ c.new-mems.ensures.first_key) j) (λ _. Some (root_by (c.new.ensures j)))))
    (c.cover_first.ensures.same ∙ ap (λ (h : HeldLists). list_at h) c.new-atom_lists.ensures)
    (c.cover.ensures.same ∙ c.cover_first-2.ensures.same ∙ ap (λ (h : HeldLists). list_at h) c.new-mem_lists.ensures)
    (omega (arith, l1)) (omega (arith, l2, same)) f1 (omega (arith, f2, same)) number).0

pub returns-clause-heap : goal.returns-clause-heap
returns-clause-heap c =
    let n1 = c.cover_first.ensures.size in
    let l1 = c.in_ok-cover_first.ensures.ok in
    let l2 = c.in_ok-cover_first-2.ensures.ok in
    let f1 = c.in_ok-cover_first.ensures.fits in
    let f2 = c.in_ok-cover_first-2.ensures.fits in
    let same = c.cover.ensures.count in
    let number = c.in_ok-cover.ensures.ok in
    (new_pair (record { atoms = c.new-2.result.slots; mems = c.insert_mem.new.mems.slots; atom_lists = c.cover_first.new.lists; mem_lists = c.cover.new.lists })
    c.new-2.ensures.empty
    (c.in_ok-insert_mem.ensures.ok ∙ (λ j. alter (mems_in_cells (c.new-mems.ensures.empty j)) ((c.in_ok-insert_mem.ensures.key ∙ c.new-mems.ensures.first_key) j) (λ _. Some (root_by (c.new.ensures j)))))
    (c.cover_first.ensures.same ∙ ap (λ (h : HeldLists). list_at h) c.new-atom_lists.ensures)
    (c.cover.ensures.same ∙ c.cover_first-2.ensures.same ∙ ap (λ (h : HeldLists). list_at h) c.new-mem_lists.ensures)
    (omega (arith, l1)) (omega (arith, l2, same)) f1 (omega (arith, f2, same)) number).1

pub returns-clause-valid : goal.returns-clause-valid
returns-clause-valid c =
    let n1 = c.cover_first.ensures.size in
    let l1 = c.in_ok-cover_first.ensures.ok in
    let l2 = c.in_ok-cover_first-2.ensures.ok in
    let f1 = c.in_ok-cover_first.ensures.fits in
    let f2 = c.in_ok-cover_first-2.ensures.fits in
    let same = c.cover.ensures.count in
    let number = c.in_ok-cover.ensures.ok in
    subst Valid (sym (new_pair (record { atoms = c.new-2.result.slots; mems = c.insert_mem.new.mems.slots; atom_lists = c.cover_first.new.lists; mem_lists = c.cover.new.lists })
    c.new-2.ensures.empty
    (c.in_ok-insert_mem.ensures.ok ∙ (λ j. alter (mems_in_cells (c.new-mems.ensures.empty j)) ((c.in_ok-insert_mem.ensures.key ∙ c.new-mems.ensures.first_key) j) (λ _. Some (root_by (c.new.ensures j)))))
    (c.cover_first.ensures.same ∙ ap (λ (h : HeldLists). list_at h) c.new-atom_lists.ensures)
    (c.cover.ensures.same ∙ c.cover_first-2.ensures.same ∙ ap (λ (h : HeldLists). list_at h) c.new-mem_lists.ensures)
    (omega (arith, l1)) (omega (arith, l2, same)) f1 (omega (arith, f2, same)) number).1) lone_valid
