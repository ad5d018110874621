use Rattle.lmn_print_folding.proofs.OwnMarks.{own_set, valid_same}
use Rattle.lmn_print_folding.proofs.items_family.set_own_mark.Goals as goal

pub returns-clause-valid : goal.returns-clause-valid
returns-clause-valid g c =
    let s = g.S.LinkStore.heap c.args.store.now in
    let t = g.S.LinkStore.heap c.set_mark.new.self in
    let set = own_set s t c.requires.valid.sound (g.S.LinkStore.atom_id c.args.atom) c.arity-slot.result c.args.mark c.requires.atom c.arity-slot.ensures.arity c.set_mark.ensures in
    valid_same s t set.marks c.root-root.ensures.sound c.requires.valid

pub returns-clause-set : goal.returns-clause-set
returns-clause-set g c =
    own_set (g.S.LinkStore.heap c.args.store.now) (g.S.LinkStore.heap c.set_mark.new.self) c.requires.valid.sound (g.S.LinkStore.atom_id c.args.atom) c.arity-slot.result c.args.mark c.requires.atom
    c.arity-slot.ensures.arity c.set_mark.ensures
