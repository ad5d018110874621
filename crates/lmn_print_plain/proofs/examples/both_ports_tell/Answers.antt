use Rattle.lmn_print_plain.proofs.NumberExampleProofs.{both_ports_tell}
use Rattle.lmn_print_plain.proofs.examples.both_ports_tell.Goals as goal

pub returns : goal.returns
returns c = both_ports_tell
