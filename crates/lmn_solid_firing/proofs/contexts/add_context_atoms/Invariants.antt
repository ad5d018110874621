use Rattle.std.proofs.Common.{◌≡◌, ◌++◌, drop}
use Rattle.lmn_solid_firing.specs.Making.{context_atoms, contexts_next}
use Rattle.lmn_solid_firing.proofs.contexts.add_context_atoms.Given as goal

abbrev pub invariant-loop-context : goal.invariant-loop-context
invariant-loop-context l = record {
  next : contexts_next l.taken.links (drop l.context-index l.contexts) l.next ≡ contexts_next l.taken.links l.contexts l.fn.next;
  atoms : l.atoms ++ context_atoms l.flat l.taken l.next (drop l.context-index l.contexts) ≡ l.fn.atoms ++ context_atoms l.flat l.taken l.fn.next l.contexts;
}
