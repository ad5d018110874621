use Rattle.lmn_receipt_line.proofs.WalkLemmas.{atoms_done}
use Rattle.lmn_receipt_line.proofs.walk.Walk.add_atoms_of.Goals as goal

pub returns : goal.returns
returns g c = λ table.
    atoms_done c.args.names.now table c.args.self.now.open.items c.push.new.self.items c.args.place c.args.self.now.entered c.between.result.now c.as_slice.result.now _ _ c.requires c.between.ensures c.as_slice.ensures c.in_ok-push.ensures.items c.add_atoms.ensures
