use Rattle.lmn_print_folded.proofs.ExampleLines as line
use Rattle.lmn_print_folded.proofs.laws.small_terms.Goals as goal

pub returns-clause-in_a_circle : goal.returns-clause-in_a_circle
returns-clause-in_a_circle c = line.in_a_circle

pub returns-clause-beside_a_circle : goal.returns-clause-beside_a_circle
returns-clause-beside_a_circle c = line.beside_a_circle

pub returns-clause-own_argument : goal.returns-clause-own_argument
returns-clause-own_argument c = line.own_argument

pub returns-clause-last_ports : goal.returns-clause-last_ports
returns-clause-last_ports c = line.last_ports

pub returns-clause-not_the_first : goal.returns-clause-not_the_first
returns-clause-not_the_first c = line.not_the_first

pub returns-clause-across : goal.returns-clause-across
returns-clause-across c = line.across
