use Rattle.lmn_lexer.proofs.Spans.{spans_in_order}
use Rattle.lmn_lexer.proofs.SoundTokens.{tokens_are_sound}
use Rattle.lmn_lexer.proofs.laws.tokens_are_in_order.Goals as goal

pub returns-clause-spans : goal.returns-clause-spans
returns-clause-spans c = spans_in_order

pub returns-clause-sound : goal.returns-clause-sound
returns-clause-sound c = tokens_are_sound
