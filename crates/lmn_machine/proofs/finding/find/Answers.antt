use Rattle.std.proofs.Common.{ap, subst}
use Rattle.std.specs.Prelude.{true, false}
use Rattle.lmn_machine.specs.Searching.{Searched}
use Rattle.lmn_machine.specs.Jumping.{Lasted, only_membrane}
use Rattle.lmn_machine.proofs.Calling.{one_membrane_more, nothing_set}
use Rattle.lmn_machine.proofs.FromOne.{looked}
use Rattle.lmn_machine.proofs.finding.find.Goals as goal

pub returns-then-begin-clause-looked : goal.returns-then-begin-clause-looked
returns-then-begin-clause-looked g c =
    let more = one_membrane_more nothing_set c.clear.new.self c.args.membrane c.push.new.self c.clear.ensures c.push.ensures in
    let lasted = subst (λ k. Lasted c.begin.new.patience.left g.S.LinkStore.atom_id g.S.LinkStore.mem_id (g.S.LinkStore.heap c.args.store.now) k c.begin.new.set c.begin.result c.args.code.now) more c.begin.ensures.searched in
    looked g.S.LinkStore.atom_id g.S.LinkStore.mem_id (g.S.LinkStore.heap c.args.store.now) c.args.membrane c.begin.new.set true c.args.code.now
    (subst (λ b. Searched g.S.LinkStore.atom_id g.S.LinkStore.mem_id (g.S.LinkStore.heap c.args.store.now) (only_membrane c.args.membrane) c.begin.new.set b c.args.code.now) c.if-begin.true (lasted.found c.if-begin.true))

pub returns-then-not-is_gone-clause-looked : goal.returns-then-not-is_gone-clause-looked
returns-then-not-is_gone-clause-looked g c =
    let more = one_membrane_more nothing_set c.clear.new.self c.args.membrane c.push.new.self c.clear.ensures c.push.ensures in
    let lasted = subst (λ k. Lasted c.begin.new.patience.left g.S.LinkStore.atom_id g.S.LinkStore.mem_id (g.S.LinkStore.heap c.args.store.now) k c.begin.new.set c.begin.result c.args.code.now) more c.begin.ensures.searched in
    looked g.S.LinkStore.atom_id g.S.LinkStore.mem_id (g.S.LinkStore.heap c.args.store.now) c.args.membrane c.begin.new.set false c.args.code.now
    (subst (λ b. Searched g.S.LinkStore.atom_id g.S.LinkStore.mem_id (g.S.LinkStore.heap c.args.store.now) (only_membrane c.args.membrane) c.begin.new.set b c.args.code.now) c.if-begin.false (lasted.searched (c.is_gone.ensures c.if-not-is_gone.true)))

pub returns-clause-looked : goal.returns-clause-looked
returns-clause-looked g c =
    looked g.S.LinkStore.atom_id g.S.LinkStore.mem_id (g.S.LinkStore.heap c.args.store.now) c.args.membrane c.find_anew.new.set c.find_anew.result c.args.code.now
    (subst (λ h. Searched g.S.LinkStore.atom_id g.S.LinkStore.mem_id h (only_membrane c.args.membrane) c.find_anew.new.set c.find_anew.result c.args.code.now) c.begin.ensures.same c.find_anew.ensures.searched)

pub begin-requires-clause-unlisted : goal.begin-requires-clause-unlisted
begin-requires-clause-unlisted g c = ap (λ k. k.listed) c.clear.ensures
