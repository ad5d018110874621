use Rattle.std.proofs.Common.{rules}
use Rattle.lmn_parser_grammar.proofs.Stops.{tok_dead, tok_taken}
use Rattle.lmn_parser.specs.Parsing.{kinds_of}
use Rattle.lmn_parser.proofs.lookahead.expect.Goals as goal

pub returns-then-not-is_at-clause-reads : goal.returns-then-not-is_at-clause-reads
returns-then-not-is_at-clause-reads c κ = (tok_dead (kinds_of c.args.tokens.now) c.args.at c.args.kind κ (search rules), c.requires.place)

pub returns-clause-reads : goal.returns-clause-reads
returns-clause-reads c κ = tok_taken (kinds_of c.args.tokens.now) c.args.at c.args.kind κ (search rules)
