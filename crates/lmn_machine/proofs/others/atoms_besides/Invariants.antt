use Rattle.std.proofs.Common.{◌≡◌, take}
use Rattle.lmn_store_heap.specs.Heap.{atoms_in}
use Rattle.lmn_instr_code.specs.Running.{HeadRegisters, HasOthers, IsInSome}
use Rattle.lmn_machine_registers.specs.Agreeing.{Agrees}
use Rattle.lmn_machine.proofs.others.atoms_besides.Given as goal

abbrev pub invariant-loop-i : goal.invariant-loop-i
invariant-loop-i g l = record {
  same : g.S.LinkStore.heap l.store ≡ g.S.LinkStore.heap l.fn.store;
  left : (s : HeadRegisters) → Agrees g.S.LinkStore.atom_id g.S.LinkStore.mem_id l.set s →
      HasOthers (IsInSome (g.S.LinkStore.heap l.fn.store) s (take l.i l.listed)) l.left (atoms_in (g.S.LinkStore.heap l.fn.store) (g.S.LinkStore.mem_id l.m));
}
