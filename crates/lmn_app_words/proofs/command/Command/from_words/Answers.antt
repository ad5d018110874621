use Rattle.std.proofs.Common.{rules}
use Rattle.lmn_app_words.proofs.FoundLemmas.{command_asks, command_form, command_in_ranges}
use Rattle.lmn_app_words.proofs.command.Command.from_words.Goals as goal

pub returns-clause-form : goal.returns-clause-form
returns-clause-form c = command_form c.args.words.now c.command_of.result (c.in_form.ensures.0 (search rules)) (λ r asks. c.command_of.ensures r (c.in_ok-matches.ensures r asks))

pub returns-clause-asks : goal.returns-clause-asks
returns-clause-asks c = command_asks c.args.words.now c.command_of.result (c.in_form.ensures.0 (search rules)) (λ r asks. c.command_of.ensures r (c.in_ok-matches.ensures r asks))

pub returns-clause-ranges : goal.returns-clause-ranges
returns-clause-ranges c = command_in_ranges c.args.words.now c.command_of.result (c.in_form.ensures.0 (search rules)) (λ r asks. c.command_of.ensures r (c.in_ok-matches.ensures r asks))
