use Rattle.lmn_test_rows.proofs.parts.ports_are_unmarked.Goals as goal

pub returns : goal.returns
returns c = λ a i l. c.requires.unmarked a i
