use Rattle.lmn_receipt_search.proofs.Found.{searched}
use Rattle.lmn_receipt_search.proofs.tables.SearchTables.next_from.Goals as goal

pub next_among-requires-clause-searched : goal.next_among-requires-clause-searched
next_among-requires-clause-searched c =
    let q = c.requires in
    (q.0, q.1, searched q.0 c.args.plain.now c.args.plans.now q.1 c.args.self.now.flat q.2 q.3 q.4.flat, q.5)

pub next_among-requires-clause-sizes : goal.next_among-requires-clause-sizes
next_among-requires-clause-sizes c = let t = c.requires.4 in t.sizes

pub next_among-requires-clause-room : goal.next_among-requires-clause-room
next_among-requires-clause-room c = let t = c.requires.4 in t.room

pub returns-clause-tables : goal.returns-clause-tables
returns-clause-tables c s t = record { flat = t.flat; sizes = t.sizes; room = c.next_among.ensures.room }

pub returns-clause-found : goal.returns-clause-found
returns-clause-found c names s can by t = c.next_among.ensures.found names s (searched names c.args.plain.now c.args.plans.now s c.args.self.now.flat can by t.flat)

pub returns-clause-none : goal.returns-clause-none
returns-clause-none c names s can by t = c.next_among.ensures.none names s (searched names c.args.plain.now c.args.plans.now s c.args.self.now.flat can by t.flat)
