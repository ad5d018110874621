use Rattle.std.proofs.Common.{◌∙◌, sym, ap, subst}
use Rattle.lmn_store_heap.specs.Heap.{IsMemInPlace, moved_all}
use Rattle.lmn_store_slab.specs.Kept.{Kept, heap_of}
use Rattle.lmn_store_slab.proofs.MovePairs.{differ_of, move_pair}
use Rattle.lmn_store_slab.proofs.slab_store.SlabStoreLinkStore.move_all.Goals as goal

pub invariant_of-self : goal.invariant_of-self
invariant_of-self c =
    let a = c.move_atoms.ensures in
    let m = c.move_mems.ensures in
    (move_pair _ _ _ _ c.self.invariant c.args.m c.args.n (differ_of (heap_of c.args.self.now) c.args.n c.args.m c.requires.outside) (subst (λ (z : Kept). IsMemInPlace (heap_of z) c.args.n) (sym c.self.view_is) c.requires.mem)
    (record { atoms = c.move_atoms.new.atoms.slots; mems = c.move_mems.new.mems.slots; atom_lists = c.move_atoms.new.lists; mem_lists = c.move_mems.new.lists })
    a.atoms m.mems a.lists m.lists a.files m.files a.sizes m.sizes).0

pub returns : goal.returns
returns c =
    let a = c.move_atoms.ensures in
    let m = c.move_mems.ensures in
    (move_pair _ _ _ _ c.self.invariant c.args.m c.args.n (differ_of (heap_of c.args.self.now) c.args.n c.args.m c.requires.outside) (subst (λ (z : Kept). IsMemInPlace (heap_of z) c.args.n) (sym c.self.view_is) c.requires.mem)
    (record { atoms = c.move_atoms.new.atoms.slots; mems = c.move_mems.new.mems.slots; atom_lists = c.move_atoms.new.lists; mem_lists = c.move_mems.new.lists })
    a.atoms m.mems a.lists m.lists a.files m.files a.sizes m.sizes).1
    ∙ ap (λ (z : Kept). moved_all (heap_of z) c.args.m c.args.n) c.self.view_is
