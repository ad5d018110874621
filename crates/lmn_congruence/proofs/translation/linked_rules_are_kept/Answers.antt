use Rattle.lmn_congruence.proofs.TranslatedLinks as links
use Rattle.lmn_congruence.proofs.translation.linked_rules_are_kept.Goals as goal

pub returns : goal.returns
returns c = links.linked_rules
