use Rattle.lmn_debug_script.proofs.Worked as small
use Rattle.lmn_debug_script.proofs.laws.small_lines.Goals as goal

pub returns-clause-seven : goal.returns-clause-seven
returns-clause-seven c = small.seven_digits

pub returns-clause-eight : goal.returns-clause-eight
returns-clause-eight c = small.eight_digits

pub returns-clause-two : goal.returns-clause-two
returns-clause-two c = small.two_spaces

pub returns-clause-behind : goal.returns-clause-behind
returns-clause-behind c = small.space_behind

pub returns-clause-quotes : goal.returns-clause-quotes
returns-clause-quotes c = small.space_in_quotes

pub returns-clause-operator : goal.returns-clause-operator
returns-clause-operator c = small.no_operator

pub returns-clause-functor : goal.returns-clause-functor
returns-clause-functor c = small.no_functor_there
