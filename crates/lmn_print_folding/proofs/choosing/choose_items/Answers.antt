use Rattle.lmn_print_folding.proofs.OwnMarks.{changes_more}
use Rattle.lmn_print_folding.proofs.Told.{marked_are_told}
use Rattle.lmn_print_folding.proofs.choosing.choose_items.Goals as goal

pub returns-clause-marks : goal.returns-clause-marks
returns-clause-marks g c =
    let s = g.S.LinkStore.heap c.args.store.now in
    let t = g.S.LinkStore.heap c.mark_firsts.new.store in
    let u = g.S.LinkStore.heap c.mark_terms.new.store in
    let v = g.S.LinkStore.heap c.mark_later_items.new.store in
    changes_more s u v (changes_more s t u c.mark_firsts.ensures.marks c.mark_terms.ensures.marks) c.mark_later_items.ensures.marks

pub returns-clause-chosen : goal.returns-clause-chosen
returns-clause-chosen g c = marked_are_told (g.S.LinkStore.heap c.mark_later_items.new.store) c.mark_later_items.ensures.valid c.mark_later_items.ensures.marked
