use Rattle.lmn_congruence.proofs.TranslatedLinks as links
use Rattle.lmn_congruence.proofs.translation.processes_are_closed.Goals as goal

pub returns-clause-plain : goal.returns-clause-plain
returns-clause-plain c = links.plains_closed
