use Rattle.lmn_receipt_search.proofs.searching.PlainSearchNextSolids.embeds.Goals as goal

pub embeds-requires : goal.embeds-requires
embeds-requires c = (c.args.self.now.names.now, c.requires.0, c.requires.1)

pub returns-clause-some : goal.returns-clause-some
returns-clause-some c = c.embeds.ensures.some c.args.self.now.names.now c.requires.0 c.requires.1

pub returns-clause-none : goal.returns-clause-none
returns-clause-none c = c.embeds.ensures.none c.args.self.now.names.now c.requires.0 c.requires.1
