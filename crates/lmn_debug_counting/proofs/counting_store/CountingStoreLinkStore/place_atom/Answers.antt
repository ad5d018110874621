use Rattle.lmn_debug_counting.proofs.Calls.{placed_kept}
use Rattle.lmn_debug_counting.proofs.counting_store.CountingStoreLinkStore.place_atom.Goals as goal

pub invariant_of-self : goal.invariant_of-self
invariant_of-self g c =
    let heap = g.S.LinkStore.heap in
    placed_kept (heap c.self.inside.store) (heap c.place_atom-a.new.self) c.self.inside.tally c.with_atom-self-inside.result (g.S.LinkStore.mem_id c.args.m) (g.S.LinkStore.atom_id c.place_atom-a.result)
    c.root-root.ensures.sound c.place_atom-a.ensures.first c.place_atom-a.ensures.placed c.with_atom-self-inside.ensures c.self.invariant
