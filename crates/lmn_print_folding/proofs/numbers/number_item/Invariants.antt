use Rattle.std.proofs.Common.{◌-◌, ◌^◌, ◌*◌, ◌<◌, ◌≤◌}
use Rattle.lmn_store_heap.specs.Heap.{IsAtom}
use Rattle.lmn_print_plain.specs.Numbers.{Remarks}
use Rattle.lmn_print_folding.proofs.NumberedWalks.{NumbersLeft}
use Rattle.lmn_print_folding.proofs.numbers.number_item.Given as goal

abbrev pub invariant-loop-at : goal.invariant-loop-at
invariant-loop-at g l =
    let s = g.S.LinkStore.heap l.fn.store in
    let t = g.S.LinkStore.heap l.store in
    let at = g.S.LinkStore.atom_id l.at.atom in
    record {
      atom : IsAtom s at;
      marks : Remarks s t;
      walk : NumbersLeft s (g.S.LinkStore.atom_id l.fn.item) l.fn.count t at l.at.port l.numbered l.turns;
      few : l.turns ≤ 2 ^ 49;
      low : l.at.port < 256;
    }

abbrev pub decreases-loop-at : goal.decreases-loop-at
decreases-loop-at g l = (2 ^ 64 - l.turns) * 256 - l.at.port
