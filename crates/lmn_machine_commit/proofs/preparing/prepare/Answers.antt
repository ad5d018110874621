use Rattle.std.proofs.Common.{subst, sym}
use Rattle.lmn_solid_bodies.specs.Stopping.{SameButSpares}
use Rattle.lmn_machine_commit.proofs.Rules.{itself, stops_unmarked, valid_but_spares}
use Rattle.lmn_machine_commit.proofs.preparing.prepare.Goals as goal

pub discard-requires : goal.discard-requires
discard-requires g c = c.make_all.ensures.makes.alone (itself (g.S.LinkStore.heap c.args.store.now) c.requires.valid).0

pub returns-in-Err-clause-err : goal.returns-in-Err-clause-err
returns-in-Err-clause-err g c =
    subst (SameButSpares (g.S.LinkStore.heap c.args.store.now)) (sym c.discard.ensures)
    (c.make_all.ensures.makes.rest (g.S.LinkStore.heap c.args.store.now) (itself (g.S.LinkStore.heap c.args.store.now) c.requires.valid).1)

pub returns-in-Err-clause-valid : goal.returns-in-Err-clause-valid
returns-in-Err-clause-valid g c = valid_but_spares (g.S.LinkStore.heap c.args.store.now) (g.S.LinkStore.heap c.discard.new.self) (returns-in-Err-clause-err g c) c.requires.valid c.root-root.ensures.sound

pub returns-in-Err-clause-unmarked : goal.returns-in-Err-clause-unmarked
returns-in-Err-clause-unmarked g c = stops_unmarked (g.S.LinkStore.heap c.args.store.now) (g.S.LinkStore.heap c.discard.new.self) (returns-in-Err-clause-err g c) c.requires.unmarked

pub returns-in-Ok-clause-unmarked : goal.returns-in-Ok-clause-unmarked
returns-in-Ok-clause-unmarked g c = c.make_all.ensures.makes.unmarked c.requires.unmarked
