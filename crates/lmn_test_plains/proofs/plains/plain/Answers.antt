use Rattle.lmn_parser.proofs.OneReading.{cut_ends}
use Rattle.lmn_test_plains.proofs.plains.plain.Goals as goal

pub parse-requires : goal.parse-requires
parse-requires c = cut_ends c.args.text.now c.in_ok-tokens.tokens c.in_ok-tokens.ensures.cut
