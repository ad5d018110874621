use Rattle.std.proofs.Common.{◌≡◌, ◌++◌, List, drop, length}
use Rattle.lmn_solid_heads.specs.declared.items.HeadItem.{HeadItem}
use Rattle.lmn_solid_heads.specs.Heads.{at_ports, links_of_head}
use Rattle.lmn_solid_bodies.specs.Items.{once_in}
use Rattle.lmn_compile_head.specs.Tables.{AllBelow, Counts}
use Rattle.lmn_compile_body.proofs.ports.add_old.Given as goal

abbrev pub invariant-loop-i : goal.invariant-loop-i
invariant-loop-i l = record {
  below : AllBelow (length l.times) (drop l.i l.links);
  made : (items : List HeadItem) → Counts l.times items →
      l.ports ++ once_in (links_of_head items) (at_ports l.atom l.i (drop l.i l.links)) ≡ l.fn.ports ++ once_in (links_of_head items) (at_ports l.atom 0 l.links);
}
