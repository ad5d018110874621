use Rattle.lmn_solid_firing.proofs.SpelledLaw as law
use Rattle.lmn_solid_firing.proofs.firings_are_spelled.Goals as goal

pub returns : goal.returns
returns c = law.firings_are_spelled
