use Rattle.lmn_lexer.proofs.OneCut.{one_refusal, refused_is_wrong}
use Rattle.lmn_lexer.proofs.laws.refusals_are_one.Goals as goal

pub returns-clause-one : goal.returns-clause-one
returns-clause-one c = one_refusal

pub returns-clause-wrong : goal.returns-clause-wrong
returns-clause-wrong c = refused_is_wrong
