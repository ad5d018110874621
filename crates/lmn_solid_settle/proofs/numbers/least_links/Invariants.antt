use Rattle.std.proofs.Common.{ℕ, ◌≡◌, ◌<◌, length}
use Rattle.lmn_congruence_classes.specs.Tables.{IsForest, Represents}
use Rattle.lmn_congruence_splice.specs.Classes.{class_of}
use Rattle.lmn_solid_settle.specs.Tables.{class_in}
use Rattle.lmn_solid_settle.proofs.numbers.least_links.Given as goal

abbrev pub invariant-loop-link : goal.invariant-loop-link
invariant-loop-link l = record {
  size : length l.table ≡ l.links;
  forest : IsForest l.table;
  represents : Represents l.table (class_of l.connectors);
  many : length l.least ≡ l.link;
  are : (x : ℕ) → x < l.link → class_in l.least x ≡ class_of l.connectors x;
}
