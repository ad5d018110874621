use Rattle.lmn_lexer.proofs.FewTokens.{few_tokens}
use Rattle.lmn_lexer.proofs.laws.tokens_are_few.Goals as goal

pub returns : goal.returns
returns c = few_tokens
