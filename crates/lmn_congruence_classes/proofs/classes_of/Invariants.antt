use Rattle.std.proofs.Common.{◌≡◌, length, drop}
use Rattle.lmn_congruence_splice.specs.Classes.{class_of}
use Rattle.lmn_congruence_classes.specs.Tables.{IsForest, PairsBelow}
use Rattle.lmn_congruence_classes.proofs.ClassTables.{Leads}
use Rattle.lmn_congruence_classes.proofs.classes_of.Given as goal

abbrev pub invariant-loop-connector : goal.invariant-loop-connector
invariant-loop-connector l = record {
  size : length l.table ≡ l.links;
  forest : IsForest l.table;
  below : PairsBelow l.links (drop l.connector-index l.connectors);
  leads : Leads l.table (drop l.connector-index l.connectors) (class_of l.connectors);
}
