use Rattle.lmn_machine_commit.proofs.preparing.count_before.Goals as goal

pub rules_needed-requires-clause-membrane : goal.rules_needed-requires-clause-membrane
rules_needed-requires-clause-membrane g c = c.requires.held.membranes c.args.to c.args.membrane c.requires.membrane

pub returns-in-Some : goal.returns-in-Some
returns-in-Some g c = λ r u. c.rules_needed.ensures r c.in-Some.count u c.in-Some.is
