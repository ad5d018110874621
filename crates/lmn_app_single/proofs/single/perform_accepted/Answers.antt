use Rattle.lmn_app_single.proofs.single.perform_accepted.Goals as goal

pub run-requires-clause-accepted : goal.run-requires-clause-accepted
run-requires-clause-accepted g c = c.requires.accepted

pub run-requires-clause-size : goal.run-requires-clause-size
run-requires-clause-size g c = (rw c.in-Run.is at c.requires.range).0

pub run-requires-clause-budget : goal.run-requires-clause-budget
run-requires-clause-budget g c = (rw c.in-Run.is at c.requires.range).1

pub returns-in-Run : goal.returns-in-Run
returns-in-Run g c = λ text before after a. rw c.in-Run.is (c.run.ensures text before after a)

pub compile-requires : goal.compile-requires
compile-requires g c = record { accepted = c.requires.accepted }

pub returns-in-List : goal.returns-in-List
returns-in-List g c = λ text before after a. rw c.in-List.is (c.compile.ensures text before after a)
