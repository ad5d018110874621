use Rattle.std.proofs.Common.{rules}
use Rattle.lmn_parser.specs.Parsing.{kinds_of}
use Rattle.lmn_parser.proofs.Places.{token_inside}
use Rattle.lmn_parser.proofs.lookahead.is_at.Goals as goal

pub returns-clause-inside : goal.returns-clause-inside
returns-clause-inside c other is = token_inside (kinds_of c.args.tokens.now) c.args.at c.args.kind (search rules) other
