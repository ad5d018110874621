use Rattle.std.proofs.Common.{subst, sym}
use Rattle.lmn_machine_commit.specs.Preparing.{CanPrepare}
use Rattle.lmn_machine.proofs.Bodies.{held_for_body, parts_can, parts_home}
use Rattle.lmn_machine.proofs.machine.Machine.prepare.Goals as goal

pub prepare-requires-clause-can : goal.prepare-requires-clause-can
prepare-requires-clause-can g c =
    subst (λ body. CanPrepare g.S.LinkStore.atom_id g.S.LinkStore.mem_id (g.S.LinkStore.heap c.args.self.now.store) c.args.self.now.set body) (sym c.body.ensures) (record {
      held = held_for_body g.S.LinkStore.atom_id g.S.LinkStore.mem_id (g.S.LinkStore.heap c.args.self.now.store) c.args.self.now.set c.requires.matched.held;
      parts = parts_can g.S.LinkStore.atom_id g.S.LinkStore.mem_id (g.S.LinkStore.heap c.args.self.now.store) c.args.self.now.set c.requires.matched.held c.root-root.ensures.sound;
      homes = parts_home g.S.LinkStore.atom_id g.S.LinkStore.mem_id (g.S.LinkStore.heap c.args.self.now.store) c.args.self.now.set c.requires.matched.held;
      rests = c.requires.matched.rests;
      copies = c.requires.matched.copies;
      order = c.requires.matched.order;
    })
