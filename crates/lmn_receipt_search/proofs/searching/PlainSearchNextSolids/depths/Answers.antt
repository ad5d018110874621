use Rattle.lmn_receipt_search.proofs.searching.PlainSearchNextSolids.depths.Goals as goal

pub depths_of-requires : goal.depths_of-requires
depths_of-requires c = let q = c.requires in (q.0, q.2.flat)

pub returns : goal.returns
returns c s holds are = c.depths_of.ensures c.args.self.now.names.now c.args.self.now.plain.now.rules s are.flat
