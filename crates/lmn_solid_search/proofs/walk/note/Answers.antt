use Rattle.lmn_solid_search.proofs.WalkingLemmas.{was_noted, is_noted}
use Rattle.lmn_solid_search.proofs.walk.note.Goals as goal

pub returns-then-has-clause-noted : goal.returns-then-has-clause-noted
returns-then-has-clause-noted c = was_noted c.args.seen.now c.args.list.now c.args.number c.has.result c.requires c.has.ensures c.if-has.true

pub returns-clause-noted : goal.returns-clause-noted
returns-clause-noted c = is_noted c.args.seen.now c.set.new.self c.args.list.now c.push.new.self c.args.number c.has.result c.requires c.has.ensures c.if-has.false c.in_ok-push.ensures.ok c.set.ensures
