use Rattle.std.proofs.Common.{subst, sym}
use Rattle.std.specs.Prelude.{false}
use Rattle.lmn_machine.specs.Searching.{Searched}
use Rattle.lmn_machine.specs.Jumping.{Ended, only_membrane}
use Rattle.lmn_machine.proofs.Calling.{one_membrane_more, nothing_set}
use Rattle.lmn_machine.proofs.FromOne.{counted_out}
use Rattle.lmn_machine.proofs.Trying.{ended_plainly}
use Rattle.lmn_machine.proofs.finding.find_anew.Goals as goal

pub returns-then-not-holds_enough-clause-searched : goal.returns-then-not-holds_enough-clause-searched
returns-then-not-holds_enough-clause-searched g c =
    let more = one_membrane_more nothing_set c.clear.new.self c.args.membrane c.push.new.self c.clear.ensures c.push.ensures in
    subst (λ k. Searched g.S.LinkStore.atom_id g.S.LinkStore.mem_id (g.S.LinkStore.heap c.args.store.now) (only_membrane c.args.membrane) k false c.args.code.now) (sym more)
    (counted_out g.S.LinkStore.atom_id g.S.LinkStore.mem_id (g.S.LinkStore.heap c.args.store.now) c.args.membrane c.args.code.now c.requires.membrane (c.holds_enough.ensures c.if-not-holds_enough.true))

pub returns-clause-searched : goal.returns-clause-searched
returns-clause-searched g c =
    let more = one_membrane_more nothing_set c.clear.new.self c.args.membrane c.push.new.self c.clear.ensures c.push.ensures in
    ended_plainly g.S.LinkStore.atom_id g.S.LinkStore.mem_id (g.S.LinkStore.heap c.args.store.now) c.work_out.new.self (only_membrane c.args.membrane) c.search.new.set c.search.result c.args.code.now c.is_ok.result c.is_ok.ensures.value
    (subst (λ k. Ended g.S.LinkStore.atom_id g.S.LinkStore.mem_id (g.S.LinkStore.heap c.args.store.now) c.work_out.new.self k c.search.new.set c.search.result c.args.code.now) more c.search.ensures.ended)
