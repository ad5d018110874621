use Rattle.std.proofs.Common.{Some, sym, ap, ◌∙◌}
use Rattle.lmn_parser.proofs.Places.{kind_there}
use Rattle.lmn_parser.proofs.limits.kind_of.Goals as goal

pub returns : goal.returns
returns c = kind_there c.args.tokens.now c.args.at c.index-tokens-at.result c.requires ∙ ap (λ t. Some t.kind) (sym c.index-tokens-at.is) ∙ ap Some (sym c.kind.ensures)
