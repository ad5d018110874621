use Rattle.std.proofs.Common.{subst, sym}
use Rattle.lmn_solid_bodies.specs.Stopping.{SameButSpares}
use Rattle.lmn_machine.specs.Firing.{HoldsMatch}
use Rattle.lmn_schedule_strategy.proofs.Firing.{fires_full, fires_not, fires_all, prepared_as}
use Rattle.lmn_schedule_strategy.proofs.turning.fire.Goals as goal

pub returns-then-not-leaves_few-clause-fires : goal.returns-then-not-leaves_few-clause-fires
returns-then-not-leaves_few-clause-fires g c =
    fires_full g.S.LinkStore.atom_id g.S.LinkStore.mem_id (g.S.LinkStore.heap c.args.machine.now.store) c.args.machine.now.set c.args.code.now c.requires.fire c.args.size c.leaves_few.result c.leaves_few.ensures.few
    (g.S.LinkStore.heap c.leaves_few.new.machine.store) c.leaves_few.ensures.same (λ t. absurd (let e = c.if-not-leaves_few.true in cc))

pub prepare-requires-clause-matched : goal.prepare-requires-clause-matched
prepare-requires-clause-matched g c =
    let holds : HoldsMatch g.S.LinkStore.atom_id g.S.LinkStore.mem_id (g.S.LinkStore.heap c.args.machine.now.store) c.args.machine.now.set c.args.code.now.body = record {
      held = c.requires.fire.held;
      rests = c.requires.fire.rests;
      copies = c.requires.fire.copies;
      order = c.requires.fire.order;
    } in
    subst (λ x. HoldsMatch g.S.LinkStore.atom_id g.S.LinkStore.mem_id x c.leaves_few.new.machine.set c.args.code.now.body) (sym c.leaves_few.ensures.same)
    (subst (λ x. HoldsMatch g.S.LinkStore.atom_id g.S.LinkStore.mem_id (g.S.LinkStore.heap c.args.machine.now.store) x c.args.code.now.body) (sym c.leaves_few.ensures.registers) holds)

pub returns-in-Ok-clause-fires : goal.returns-in-Ok-clause-fires
returns-in-Ok-clause-fires g c =
    fires_all g.S.LinkStore.atom_id g.S.LinkStore.mem_id (g.S.LinkStore.heap c.args.machine.now.store) c.args.machine.now.set c.args.code.now c.requires.fire c.args.size c.leaves_few.result c.leaves_few.ensures.few
    (g.S.LinkStore.heap c.prepare.new.self.store) (g.S.LinkStore.heap c.commit.new.self.store) c.prepare.new.self.set
    (prepared_as g.S.LinkStore.atom_id g.S.LinkStore.mem_id (g.S.LinkStore.heap c.args.machine.now.store) (g.S.LinkStore.heap c.leaves_few.new.machine.store) (g.S.LinkStore.heap c.prepare.new.self.store)
    c.args.machine.now.set c.leaves_few.new.machine.set c.prepare.new.self.set c.args.code.now c.leaves_few.ensures.same c.leaves_few.ensures.registers c.in-Ok.ensures.ok)
    c.if-not-leaves_few.false c.commit.ensures.fires

pub returns-in-Err-clause-fires : goal.returns-in-Err-clause-fires
returns-in-Err-clause-fires g c =
    fires_not g.S.LinkStore.atom_id g.S.LinkStore.mem_id (g.S.LinkStore.heap c.args.machine.now.store) c.args.machine.now.set c.args.code.now c.requires.fire c.args.size c.leaves_few.result c.leaves_few.ensures.few
    (g.S.LinkStore.heap c.prepare.new.self.store) c.if-not-leaves_few.false
    (subst (λ x. SameButSpares x (g.S.LinkStore.heap c.prepare.new.self.store)) c.leaves_few.ensures.same c.in-Err.ensures.err)
