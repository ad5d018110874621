use Rattle.std.proofs.Common.{length, sym, subst}
use Rattle.lmn_solid_bodies.specs.Running.{DoesAll}
use Rattle.lmn_machine_commit.specs.Committing.{Runs}
use Rattle.lmn_machine_commit.specs.Preparing.{AllUse}
use Rattle.lmn_machine_commit.proofs.committing.run_all.Goals as goal

pub take_first-rest-requires-clause-uses : goal.take_first-rest-requires-clause-uses
take_first-rest-requires-clause-uses g c = subst (AllUse (length c.args.set.now.atoms) (length c.args.set.now.membranes) (length c.args.set.now.parts) (length c.args.set.now.copies)) (sym c.as_slice.ensures) c.requires.uses

pub take_first-rest-requires-clause-runs : goal.take_first-rest-requires-clause-runs
take_first-rest-requires-clause-runs g c =
    let r = c.requires.runs in
    (r.0, r.1, subst (λ is. Runs r.0 is (g.S.LinkStore.heap c.args.store.now)) (sym c.as_slice.ensures) r.2)

pub run_each-requires-clause-runs : goal.run_each-requires-clause-runs
run_each-requires-clause-runs g c =
    let r = c.requires.runs in
    (r.0, r.1, (c.take_first-rest.ensures.done r.0 r.1 (subst (λ is. Runs r.0 is (g.S.LinkStore.heap c.args.store.now)) (sym c.as_slice.ensures) r.2)).0)

pub returns-clause-commits : goal.returns-clause-commits
returns-clause-commits g c = λ r u runs.
    (let first = c.take_first-rest.ensures.done r u (subst (λ is. Runs r is (g.S.LinkStore.heap c.args.store.now)) (sym c.as_slice.ensures) runs) in
    subst (λ is. DoesAll r is (g.S.LinkStore.heap c.args.store.now) (g.S.LinkStore.heap c.run_each.new.store)) c.as_slice.ensures
    (first.1 (g.S.LinkStore.heap c.run_each.new.store) (c.run_each.ensures.commits r u first.0)))
