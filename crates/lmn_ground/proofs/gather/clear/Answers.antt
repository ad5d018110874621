use Rattle.lmn_ground.proofs.CopyLaws.{member, clear_done, clear_there}
use Rattle.lmn_ground.proofs.gather.clear.Goals as goal

pub set_mark-requires-clause-atom : goal.set_mark-requires-clause-atom
set_mark-requires-clause-atom g c = c.loop-i.invariant.there _ (member g.S.LinkStore.atom_id c.args.atoms.now _ _ c.at.ensures)

pub loop-i-preserved : goal.loop-i-preserved
loop-i-preserved g c =
    let t = c.loop-i.invariant in
    record {
      there = clear_there _ _ _ _ c.set_mark.ensures t.there;
      rest = clear_done g.S.LinkStore.atom_id _ _ _ c.args.atoms.now _ _ c.at.ensures c.set_mark.ensures t.rest;
    }
