use Rattle.std.proofs.Common.{refl}
use Rattle.lmn_instr_reading.proofs.NameLemmas.{numbers_same}
use Rattle.lmn_instr_reading.proofs.reading.read_label.Goals as goal

pub returns-in-Some-clause-order : goal.returns-in-Some-clause-order
returns-in-Some-clause-order c = numbers_same c.args.names.now c.args.names.now refl
