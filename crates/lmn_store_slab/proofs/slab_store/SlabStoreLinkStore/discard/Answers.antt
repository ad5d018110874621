use Rattle.std.proofs.Common.{◌∙◌, sym, ap, subst, arith}
use Rattle.lmn_store_heap.specs.Conditions.{Alone}
use Rattle.lmn_store_heap.specs.Heap.{unless_waiting, mem_unless_waiting, discarded}
use Rattle.lmn_store_slab.specs.Kept.{Kept, heap_of}
use Rattle.lmn_store_slab.proofs.HoldsLemmas.{line_there, mem_line_there}
use Rattle.lmn_store_counts.proofs.PlaceLemmas.{removes_waiting, mem_removes_waiting}
use Rattle.lmn_store_slab.proofs.FreedLemmas.{discard_pair}
use Rattle.lmn_store_slab.proofs.slab_store.SlabStoreLinkStore.discard.Goals as goal

pub free_atoms-requires-clause-list : goal.free_atoms-requires-clause-list
free_atoms-requires-clause-list c = line_there _ _ _ _ c.self.invariant 0 (omega arith)

pub free_atoms-requires-clause-counted : goal.free_atoms-requires-clause-counted
free_atoms-requires-clause-counted c = record { files = c.self.invariant.fits.atom_files; census = c.self.invariant.counts.atom_census }

pub free_mems-requires-clause-list : goal.free_mems-requires-clause-list
free_mems-requires-clause-list c = mem_line_there _ _ _ _ c.self.invariant 0 (omega arith)

pub free_mems-requires-clause-counted : goal.free_mems-requires-clause-counted
free_mems-requires-clause-counted c = record { files = c.self.invariant.fits.mem_files; census = c.self.invariant.counts.mem_census; spares = c.self.invariant.counts.spare_census }

pub invariant_of-self : goal.invariant_of-self
invariant_of-self c =
    let a = c.free_atoms.ensures in
    let m = c.free_mems.ensures in
    let f1 = a.fewer in
    let f2 = m.fewer in
    let f3 = m.less_spare in
    (discard_pair _ _ _ _ c.self.invariant
    (record { atoms = c.free_atoms.new.atoms.slots; mems = c.free_mems.new.mems.slots; atom_lists = c.free_atoms.new.lists; mem_lists = c.free_mems.new.lists })
    _ _ _ a.counted.files m.counted.files a.counted.census m.counted.census m.counted.spares (omega (arith, f1, f2, f3)) a.sizes m.sizes
    (subst (λ (z : Kept). Alone (heap_of z)) (sym c.self.view_is) c.requires)
    (a.freed unless_waiting removes_waiting) (m.freed mem_unless_waiting mem_removes_waiting) a.lists m.lists).0

pub returns : goal.returns
returns c =
    let a = c.free_atoms.ensures in
    let m = c.free_mems.ensures in
    let f1 = a.fewer in
    let f2 = m.fewer in
    let f3 = m.less_spare in
    (discard_pair _ _ _ _ c.self.invariant
    (record { atoms = c.free_atoms.new.atoms.slots; mems = c.free_mems.new.mems.slots; atom_lists = c.free_atoms.new.lists; mem_lists = c.free_mems.new.lists })
    _ _ _ a.counted.files m.counted.files a.counted.census m.counted.census m.counted.spares (omega (arith, f1, f2, f3)) a.sizes m.sizes
    (subst (λ (z : Kept). Alone (heap_of z)) (sym c.self.view_is) c.requires)
    (a.freed unless_waiting removes_waiting) (m.freed mem_unless_waiting mem_removes_waiting) a.lists m.lists).1
    ∙ ap (λ (z : Kept). discarded (heap_of z)) c.self.view_is
