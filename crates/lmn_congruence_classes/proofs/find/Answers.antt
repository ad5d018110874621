use Rattle.lmn_congruence_classes.proofs.ClassTables.{find_step}
use Rattle.lmn_congruence_classes.proofs.find.Goals as goal

pub loop-at-preserved : goal.loop-at-preserved
loop-at-preserved c =
    let w = find_step c.args.table.now c.loop-at.table c.set.new.self c.loop-at.at c.at-up.result.now c.at-over.result.now c.args.link c.requires.below c.loop-at.invariant.size c.loop-at.invariant.forest
    c.loop-at.invariant.below c.at-up.ensures c.if-up-at.false c.at-over.ensures c.set.ensures c.loop-at.invariant.class in
    record { size = w.0; forest = w.1; below = w.2; class = w.3 }
