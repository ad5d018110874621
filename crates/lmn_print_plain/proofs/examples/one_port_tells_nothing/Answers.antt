use Rattle.lmn_print_plain.proofs.NumberExampleProofs.{one_port_tells_nothing}
use Rattle.lmn_print_plain.proofs.examples.one_port_tells_nothing.Goals as goal

pub returns : goal.returns
returns c = one_port_tells_nothing
