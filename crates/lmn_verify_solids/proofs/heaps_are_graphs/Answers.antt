use Rattle.lmn_verify_solids.proofs.HeapsAreGraphs.{graph_is, items_one, preorder}
use Rattle.lmn_verify_solids.proofs.heaps_are_graphs.Goals as goal

pub returns : goal.returns
returns c = record {
  graphs = λ h S v has. graph_is h v S has;
  preorder = λ h S is f tree. preorder h is.stands f tree.forms;
  items = λ h S f v has tree. items_one h v S f has tree;
}
