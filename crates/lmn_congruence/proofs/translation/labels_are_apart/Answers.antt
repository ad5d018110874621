use Rattle.lmn_congruence.proofs.TranslatedNames as names
use Rattle.lmn_congruence.proofs.translation.labels_are_apart.Goals as goal

pub returns-clause-labels : goal.returns-clause-labels
returns-clause-labels c = names.labels_apart

pub returns-clause-solid : goal.returns-clause-solid
returns-clause-solid c = names.no_solid_connector
