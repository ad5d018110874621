use Rattle.std.proofs.Common.{◌≡◌, ◌≤◌, ◌*◌, ◌^◌, drop}
use Rattle.std.specs.Prelude.{IfSome}
use Rattle.lmn_instr_code.specs.Running.{HeadRegisters}
use Rattle.lmn_solid_bodies.specs.Running.{Registers}
use Rattle.lmn_machine_commit.specs.Registers.{HasRests}
use Rattle.lmn_machine_registers.specs.Agreeing.{Agrees}
use Rattle.lmn_machine.specs.Costs.{AddsItems, IsSize, TakesItems}
use Rattle.lmn_machine.proofs.Costing.{SoFar}
use Rattle.lmn_machine.proofs.cost.items_left.Given as goal

abbrev pub invariant-loop-i : goal.invariant-loop-i
invariant-loop-i g l = record {
  same : g.S.LinkStore.heap l.store ≡ g.S.LinkStore.heap l.fn.store;
  added_few : l.all_added ≤ l.i * (2 ^ 64);
  taken_few : l.all_taken ≤ l.i * (2 ^ 64);
  kept : IfSome l.kept (λ k. (s : HeadRegisters) → Agrees g.S.LinkStore.atom_id g.S.LinkStore.mem_id l.set s → IsSize (g.S.LinkStore.heap l.fn.store) (s.images.part k.part) k.atoms);
  adds : (r : Registers) → Agrees g.S.LinkStore.atom_id g.S.LinkStore.mem_id l.set r.head → HasRests g.S.LinkStore.atom_id g.S.LinkStore.mem_id (g.S.LinkStore.heap l.fn.store) l.set r → SoFar (AddsItems (g.S.LinkStore.heap l.fn.store) r) l.body (drop l.i l.body) l.all_added;
  takes : (r : Registers) → Agrees g.S.LinkStore.atom_id g.S.LinkStore.mem_id l.set r.head → HasRests g.S.LinkStore.atom_id g.S.LinkStore.mem_id (g.S.LinkStore.heap l.fn.store) l.set r → SoFar (TakesItems (g.S.LinkStore.heap l.fn.store) r) l.body (drop l.i l.body) l.all_taken;
}
