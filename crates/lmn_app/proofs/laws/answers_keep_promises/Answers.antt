use Rattle.lmn_app.proofs.SingleLemmas.{answers_keep_promises, listing_is_unread, no_words_are_single, pairs_are_handed_on, singles_are_answers}
use Rattle.lmn_app.proofs.laws.answers_keep_promises.Goals as goal

pub returns-clause-answers : goal.returns-clause-answers
returns-clause-answers c = singles_are_answers

pub returns-clause-promises : goal.returns-clause-promises
returns-clause-promises c = answers_keep_promises c.asks_one.ensures.one

pub returns-clause-no_words : goal.returns-clause-no_words
returns-clause-no_words c = no_words_are_single

pub returns-clause-handed_on : goal.returns-clause-handed_on
returns-clause-handed_on c = pairs_are_handed_on c.asks_one.ensures.one

pub returns-clause-unread : goal.returns-clause-unread
returns-clause-unread c = listing_is_unread
