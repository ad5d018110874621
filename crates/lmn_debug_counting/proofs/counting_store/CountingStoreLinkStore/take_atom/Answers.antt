use Rattle.std.proofs.Common.{subst, sym}
use Rattle.lmn_store_heap.specs.Heap.{IsInPlace}
use Rattle.lmn_debug_counting.proofs.Calls.{taken_kept}
use Rattle.lmn_debug_counting.proofs.counting_store.CountingStoreLinkStore.take_atom.Goals as goal

pub invariant_of-self : goal.invariant_of-self
invariant_of-self g c =
    let heap = g.S.LinkStore.heap in
    let a = g.S.LinkStore.atom_id c.args.a in
    taken_kept (heap c.self.inside.store) (heap c.take_atom.new.self) c.self.inside.tally c.without_atom-tally.result a
    (subst (λ s. IsInPlace (heap s) a) (sym c.self.view_is) c.requires) c.take_atom.ensures c.without_atom-tally.ensures c.self.invariant
