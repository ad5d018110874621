use Rattle.std.proofs.Common.{◌≡◌, length, take, drop}
use Rattle.lmn_congruence_splice.specs.Classes.{class_of}
use Rattle.lmn_schedule_loading.specs.Adding.{by_id}
use Rattle.lmn_congruence_classes.specs.Tables.{IsForest, Represents, LinksBelow}
use Rattle.lmn_schedule_loading.specs.Joining.{held_at}
use Rattle.lmn_schedule_loading.proofs.Meeting.{Meets}
use Rattle.lmn_schedule_loading.proofs.joining.join_all.Given as goal

abbrev pub invariant-loop-linked : goal.invariant-loop-linked
invariant-loop-linked g l = record {
  size : length l.classes ≡ l.size;
  held : length l.held ≡ l.size;
  forest : IsForest l.classes;
  class : Represents l.classes (class_of l.connectors);
  below : LinksBelow l.size (drop l.linked-index l.ports);
  meets : Meets (class_of l.connectors) (by_id g.S.LinkStore.atom_id (take l.linked-index l.ports)) (by_id g.S.LinkStore.atom_id (drop l.linked-index l.ports)) (g.S.LinkStore.heap l.fn.store) (g.S.LinkStore.heap l.store) (held_at g.S.LinkStore.atom_id l.held);
}
