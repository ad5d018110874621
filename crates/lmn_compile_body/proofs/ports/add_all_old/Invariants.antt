use Rattle.std.proofs.Common.{◌≡◌, ◌≤◌, ◌++◌, drop, length}
use Rattle.lmn_solid_heads.specs.Heads.{at_atoms, atoms_of, links_of_head}
use Rattle.lmn_solid_bodies.specs.Items.{once_in, old_ports}
use Rattle.lmn_compile_head.specs.Tables.{Counts, HeadFits}
use Rattle.lmn_compile_body.proofs.ports.add_all_old.Given as goal

abbrev pub invariant-loop-item : goal.invariant-loop-item
invariant-loop-item l = record {
  few : l.atom ≤ l.item-index;
  fits : HeadFits (length l.times) (drop l.item-index l.items);
  made : Counts l.times l.items → l.ports ++ once_in (links_of_head l.items) (at_atoms l.atom (atoms_of (drop l.item-index l.items))) ≡ l.fn.ports ++ old_ports l.items;
}
