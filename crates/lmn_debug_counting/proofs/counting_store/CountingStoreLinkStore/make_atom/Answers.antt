use Rattle.lmn_debug_counting.proofs.Calls.{made_kept}
use Rattle.lmn_debug_counting.proofs.counting_store.CountingStoreLinkStore.make_atom.Goals as goal

pub invariant_of-self : goal.invariant_of-self
invariant_of-self g c = made_kept g.S.LinkStore.atom_id _ _ _ c.args.f c.make_atom.result c.make_atom.ensures.fresh c.make_atom.ensures.ok c.make_atom.ensures.err c.self.invariant
