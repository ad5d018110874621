use Rattle.lmn_parser.proofs.TreesExist.{trees_exist}
use Rattle.lmn_parser.proofs.TreeWords.{trees_derive}
use Rattle.lmn_parser.proofs.laws.trees_are_programs.Goals as goal

pub returns-clause-program : goal.returns-clause-program
returns-clause-program c = trees_derive

pub returns-clause-tree : goal.returns-clause-tree
returns-clause-tree c = trees_exist
