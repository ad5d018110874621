use Rattle.lmn_receipt_chain.proofs.LeftOutLemmas.{none_left_out}
use Rattle.lmn_receipt_chain.proofs.SmallMarks.{chosen_is_asked, first_of_two, not_the_second}
use Rattle.lmn_receipt_chain.proofs.laws.left_out_beside_a_text.Goals as goal

pub returns-clause-first : goal.returns-clause-first
returns-clause-first c = first_of_two

pub returns-clause-second : goal.returns-clause-second
returns-clause-second c = not_the_second

pub returns-clause-nothing : goal.returns-clause-nothing
returns-clause-nothing c = none_left_out

pub returns-clause-chosen : goal.returns-clause-chosen
returns-clause-chosen c = chosen_is_asked
