use Rattle.lmn_instr_reading.proofs.NameLemmas.{adds_put, named_text, numbers_put, short_named}
use Rattle.lmn_instr_reading.proofs.reading.put_name.Goals as goal

pub returns-clause-label : goal.returns-clause-label
returns-clause-label c = named_text _ _ _ c.in_ok-put.ensures.number

pub returns-clause-names : goal.returns-clause-names
returns-clause-names c = adds_put _ _ _ c.put.result c.put.ensures.held c.put.ensures.new c.put.ensures.err

pub returns-clause-short : goal.returns-clause-short
returns-clause-short c = short_named c.put.new.self c.in_ok-put.field-0 c.args.name.now c.in_ok-put.ensures.number c.requires.short

pub returns-clause-order : goal.returns-clause-order
returns-clause-order c = numbers_put c.args.names.now c.put.new.self c.args.name.now c.in_ok-put.field-0 c.in_ok-put.ensures.number c.in_ok-put.ensures.held c.in_ok-put.ensures.new
