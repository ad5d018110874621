use Rattle.lmn_schedule_strategy.proofs.Chosen.{fails}
use Rattle.lmn_schedule_strategy.proofs.strategy.succeeds.Goals as goal

pub find-requires-clause-valid : goal.find-requires-clause-valid
find-requires-clause-valid g c = c.requires.turn.valid

pub find-requires-clause-unmarked : goal.find-requires-clause-unmarked
find-requires-clause-unmarked g c = c.requires.turn.unmarked

pub find-requires-clause-order : goal.find-requires-clause-order
find-requires-clause-order g c = c.requires.order c.args.rule c.code-code.result
    c.code-code.ensures

pub returns-clause-found : goal.returns-clause-found
returns-clause-found g c = λ found. record {
  code = c.code-code.result;
  is = c.code-code.ensures;
  held = c.find.ensures.looked.held;
  set = c.find.ensures.looked.set found;
  copies = c.find.ensures.looked.copies;
  first = c.find.ensures.looked.found found;
}

pub returns-clause-none : goal.returns-clause-none
returns-clause-none g c = λ none. fails (g.S.LinkStore.heap c.args.machine.now.store) c.args.codes.now (g.S.LinkStore.mem_id c.args.membrane) c.args.rule c.code-code.result
    c.code-code.ensures
    (c.find.ensures.looked.none none)
