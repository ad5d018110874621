use Rattle.lmn_flatten.proofs.GlossaryLemmas.{entry_label}
use Rattle.lmn_flatten.proofs.glossary.Glossary.label.Goals as goal

pub returns-in-Label : goal.returns-in-Label
returns-in-Label c = λ r is. entry_label r c.args.self.now c.args.token c.in_ok-entry.entry c.in-Label.label is c.in_ok-entry.ensures c.in-Label.is
