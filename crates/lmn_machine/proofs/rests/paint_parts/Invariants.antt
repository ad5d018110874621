use Rattle.std.proofs.Common.{ℕ, ◌≡◌, List, take}
use Rattle.std.specs.Prelude.{◌↔◌}
use Rattle.lmn_base.specs.Lists.{In}
use Rattle.lmn_instr_code.specs.Running.{HeadRegisters, IsInSome}
use Rattle.lmn_ground.specs.Rests.{own_marked}
use Rattle.lmn_machine_registers.specs.Agreeing.{Agrees}
use Rattle.lmn_machine.proofs.rests.paint_parts.Given as goal

abbrev pub invariant-loop-i : goal.invariant-loop-i
invariant-loop-i g l =
    (all : List ℕ) × ((s : HeadRegisters) → Agrees g.S.LinkStore.atom_id g.S.LinkStore.mem_id l.set s → (a : ℕ) → In a all ↔ IsInSome (g.S.LinkStore.heap l.fn.store) s (take l.i l.listed) a)
    × (g.S.LinkStore.heap l.store ≡ own_marked l.mark all (g.S.LinkStore.heap l.fn.store))
