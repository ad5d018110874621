use Rattle.std.proofs.Common.{subst}
use Rattle.lmn_base.specs.Lists.{In}
use Rattle.lmn_store_heap.specs.Heap.{atoms_in}
use Rattle.lmn_instr_code.specs.Running.{InstructionHolds}
use Rattle.lmn_machine.proofs.Fitting.{none_first}
use Rattle.lmn_machine.proofs.ahead.looks_in_vain.Goals as goal

pub returns-in-None : goal.returns-in-None
returns-in-None g c = λ r k s t w.
    (let v = subst (λ i. InstructionHolds (g.S.LinkStore.heap c.args.store.now) k s i) c.in-FindAtom.is w in
    let m = t.membranes c.in-FindAtom.membrane c.at.result c.at.ensures in
    none_first (g.S.LinkStore.heap c.args.store.now) c.in-FindAtom.functor (g.S.LinkStore.mem_id c.at.result) c.in-None.ensures.list
    (s.images.atom c.in-FindAtom.atom, subst (λ n. In (s.images.atom c.in-FindAtom.atom) (atoms_in (g.S.LinkStore.heap c.args.store.now) n)) m v.0, v.1))
