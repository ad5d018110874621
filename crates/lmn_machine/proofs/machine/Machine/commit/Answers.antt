use Rattle.std.proofs.Common.{subst}
use Rattle.lmn_solid_bodies.specs.Running.{Registers}
use Rattle.lmn_machine_commit.specs.Registers.{AgreesWithCopies, HasCopies, HasRests}
use Rattle.lmn_machine_commit.specs.Matched.{IsPrepared}
use Rattle.lmn_machine_commit.specs.Waking.{Commits}
use Rattle.lmn_machine.proofs.machine.Machine.commit.Goals as goal

pub returns-clause-fires : goal.returns-clause-fires
returns-clause-fires g c =
    subst (λ code. (p : IsPrepared g.S.LinkStore.atom_id g.S.LinkStore.mem_id (g.S.LinkStore.heap c.args.self.now.store) c.args.self.now.set code) (r : Registers) → AgreesWithCopies g.S.LinkStore.atom_id g.S.LinkStore.mem_id c.args.self.now.set r →
    HasCopies r p.prepared.copied → HasRests g.S.LinkStore.atom_id g.S.LinkStore.mem_id p.before p.matched_by r → Commits p.before r code (g.S.LinkStore.heap c.commit.new.store)) c.body.ensures c.commit.ensures.fires
