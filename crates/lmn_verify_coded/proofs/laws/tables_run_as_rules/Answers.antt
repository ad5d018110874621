use Rattle.lmn_verify_coded.proofs.Driven.{tables_run_as_rules}
use Rattle.lmn_verify_coded.proofs.laws.tables_run_as_rules.Goals as goal

pub returns : goal.returns
returns c = tables_run_as_rules c.turns_are_alike.ensures c.turns_are_of_chooser.ensures c.spares_are_not_read.ensures c.marks_are_not_read.ensures c.nothing_embeds.ensures c.heaps_have_one_line.ensures.one
