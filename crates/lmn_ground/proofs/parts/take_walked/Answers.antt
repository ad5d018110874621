use Rattle.std.proofs.Common.{true, ◌≡◌}
use Rattle.lmn_ground.proofs.SpreadLaws.{clean_part}
use Rattle.lmn_ground.proofs.GroundLaws.{root_there, root_port_there, part_atoms}
use Rattle.lmn_ground.proofs.parts.take_walked.Goals as goal

pub undo-requires-clause-root : goal.undo-requires-clause-root
undo-requires-clause-root g c = (root_there _ _ _ _ _ c.spread-found.ensures.spread.0 c.requires.root.0, root_port_there _ _ _ _ _ c.spread-found.ensures.spread.0 c.requires.root.1)

pub undo-requires-clause-spread : goal.undo-requires-clause-spread
undo-requires-clause-spread g c =
    let t = c.spread-found.ensures.spread.0 in
    let e : c.spread-found.result.1 ≡ true = c.spread-found.ensures.fits.1 c.requires.ground in
    (g.S.LinkStore.heap c.args.store.now, _, t, c.spread-found.ensures.spread.1, λ a k. c.requires.placed a (((part_atoms (g.S.LinkStore.heap c.args.store.now) _ _ (t.whole e)).1 a).0 k))

pub spread-found-requires-clause-clean : goal.spread-found-requires-clause-clean
spread-found-requires-clause-clean g c = clean_part _ _ c.arity-arity.ensures.sound c.requires.root.1 c.requires.clean

pub returns : goal.returns
returns g c =
    let t = c.spread-found.ensures.spread.0 in
    let e : c.spread-found.result.1 ≡ true = c.spread-found.ensures.fits.1 c.requires.ground in
    (t.seen, t.whole e, c.undo.ensures _ _ t c.spread-found.ensures.spread.1)
