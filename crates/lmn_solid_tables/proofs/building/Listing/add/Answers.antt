use Rattle.lmn_solid_tables.proofs.Steps.{atoms_more, numbers_more}
use Rattle.std.proofs.Common.{◌∙◌}
use Rattle.lmn_solid_tables.proofs.building.Listing.add.Goals as goal

pub loop-atom-preserved : goal.loop-atom-preserved
loop-atom-preserved c =
    let i = c.loop-atom.invariant in record {
      atoms = c.in_ok-push-2.ensures.items ∙ atoms_more c.len-home.result c.loop-atom.atom-index c.args.self.now.atoms.items c.loop-atom.self.atoms.items c.as_slice-atom-items.result.now c.atom-item.result c.in_ok-links.links c.loop-atom-test.true c.atom-item.is (c.in_ok-links.ensures ∙ c.as_slice.ensures) i.atoms;
      numbers = c.in_ok-push.ensures.ok ∙ numbers_more c.len-home.result c.loop-atom.atom-index c.len.result c.args.self.now.atoms.items c.loop-atom.self.atoms.items c.as_slice-atom-items.result.now c.loop-atom.atoms c.loop-atom-test.true i.atoms (c.len.ensures ∙ c.loop-atom.self.atoms.ok.0) i.numbers;
      same = i.same;
    }
