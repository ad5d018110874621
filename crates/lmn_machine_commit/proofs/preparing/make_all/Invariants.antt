use Rattle.std.proofs.Common.{take, drop, length, ◌≤◌}
use Rattle.lmn_machine_commit.specs.Preparing.{Prepared, BodyInOrder, IsCounted}
use Rattle.lmn_machine_commit.proofs.Later.{IsApart}
use Rattle.lmn_machine_commit.proofs.preparing.make_all.Given as goal

abbrev pub invariant-loop-i : goal.invariant-loop-i
invariant-loop-i g l = record {
  done : Prepared g.S.LinkStore.atom_id g.S.LinkStore.mem_id (g.S.LinkStore.heap l.fn.store) (g.S.LinkStore.heap l.store) l.fn.set l.set (take l.i l.code);
  apart : IsApart g.S.LinkStore.atom_id g.S.LinkStore.mem_id (g.S.LinkStore.heap l.fn.store) l.fn.set l.set;
  order : BodyInOrder (length l.set.atoms) (length l.set.membranes) (length l.set.parts) (length l.set.integers) (length l.set.copies) (drop l.i l.code);
  within : l.i ≤ length l.code;
  counted : IsCounted g.S.LinkStore.atom_id g.S.LinkStore.mem_id (g.S.LinkStore.heap l.store) l.set (take l.i l.code) l.counted.register l.counted.count;
}
