use Rattle.lmn_parser.proofs.Fitting.{trees_fit}
use Rattle.lmn_parser.proofs.Walks.{fitting_within}
use Rattle.lmn_parser.proofs.laws.trees_fit.Goals as goal

pub returns-clause-fit : goal.returns-clause-fit
returns-clause-fit c = trees_fit

pub returns-clause-within : goal.returns-clause-within
returns-clause-within c = fitting_within
