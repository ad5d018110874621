use Rattle.lmn_ground.proofs.CopyLaws.{member}
use Rattle.lmn_ground.proofs.TrailLaws.{can_behind, can_here, done_here, once_behind, there_still}
use Rattle.lmn_ground.proofs.undo.act_all.Goals as goal

pub act-requires-clause-atom : goal.act-requires-clause-atom
act-requires-clause-atom g c = c.loop-i.invariant.there _ (member g.S.LinkStore.atom_id c.args.atoms.now _ _ c.at.ensures)

pub act-requires-clause-can : goal.act-requires-clause-can
act-requires-clause-can g c = can_here g.S.LinkStore.atom_id c.args.deed c.args.atoms.now _ _ c.at.ensures _ c.loop-i.invariant.can

pub loop-i-preserved : goal.loop-i-preserved
loop-i-preserved g c =
    let t = c.loop-i.invariant in
    record {
      there = there_still c.args.deed _ _ _ _ c.act.ensures t.there;
      once = once_behind g.S.LinkStore.atom_id c.args.deed c.args.atoms.now _ _ c.at.ensures t.once;
      can = can_behind g.S.LinkStore.atom_id c.args.deed c.args.atoms.now _ _ c.at.ensures _ _ c.act.ensures t.once t.can;
      rest = done_here g.S.LinkStore.atom_id c.args.deed c.args.atoms.now _ _ c.at.ensures _ _ _ c.act.ensures t.rest;
    }
