use Rattle.std.proofs.Common.{subst}
use Rattle.lmn_store_heap.specs.Heap.{IsInPlace}
use Rattle.lmn_machine_commit.proofs.Doing.{asks_as, uses_as, part_taken}
use Rattle.lmn_machine_commit.proofs.Listing.{listed_taken, listed_taken_all}
use Rattle.lmn_machine_commit.proofs.committing.take_next.Goals as goal

pub at-requires : goal.at-requires
at-requires g c = uses_as _ _ _ _ c.in-RemoveAtom.is c.requires.uses

pub at-root-requires : goal.at-root-requires
at-root-requires g c = uses_as _ _ _ _ c.in-RemovePart.is c.requires.uses

pub returns-in-RemoveAtom-clause-listed : goal.returns-in-RemoveAtom-clause-listed
returns-in-RemoveAtom-clause-listed g c = listed_taken g.S.LinkStore.atom_id c.args.set.now.listed (g.S.LinkStore.heap c.args.store.now) _ _ c.take_atom.ensures c.requires.listed

pub returns-in-RemovePart-clause-listed : goal.returns-in-RemovePart-clause-listed
returns-in-RemovePart-clause-listed g c = listed_taken_all g.S.LinkStore.atom_id c.args.set.now.listed c.take_listed.ensures.0 (g.S.LinkStore.heap c.args.store.now) _ c.take_listed.ensures.2 c.requires.listed

pub returns-in-RemovePart-clause-does : goal.returns-in-RemovePart-clause-does
returns-in-RemovePart-clause-does g c = λ t r u k.
    part_taken g.S.LinkStore.atom_id g.S.LinkStore.mem_id c.args.set.now r c.args.instr.now c.in-RemovePart.part c.at-root.result (g.S.LinkStore.heap c.args.store.now) (g.S.LinkStore.heap c.take_listed.new.store) c.take_listed.ensures.0 u c.in-RemovePart.is
    c.at-root.ensures c.take_listed.ensures.1 c.take_listed.ensures.2

pub take_atom-requires : goal.take_atom-requires
take_atom-requires g c = let k = c.requires.can in subst (IsInPlace (g.S.LinkStore.heap c.args.store.now)) (k.1.atoms _ _ c.at.ensures) (asks_as k.0 (g.S.LinkStore.heap c.args.store.now) c.in-RemoveAtom.is k.2)
