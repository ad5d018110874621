use Rattle.lmn_print_plain.specs.Walks.{texts_with}
use Rattle.lmn_print_plain.proofs.WalkLemmas.{goes_inside, stands_in, turn, turns_back}
use Rattle.lmn_print_plain.proofs.walk.go_on.Goals as goal

pub has_atoms-any-requires : goal.has_atoms-any-requires
has_atoms-any-requires g c = stands_in (g.S.LinkStore.heap c.args.store.now) c.root-root.ensures.sound (g.S.LinkStore.mem_id c.args.at.mem) c.args.at.depth c.requires

pub first_mem-requires : goal.first_mem-requires
first_mem-requires g c = stands_in (g.S.LinkStore.heap c.args.store.now) c.root-root.ensures.sound (g.S.LinkStore.mem_id c.args.at.mem) c.args.at.depth c.requires

pub returns-in-Some : goal.returns-in-Some
returns-in-Some g c = λ atoms are p.
    let h = g.S.LinkStore.heap c.args.store.now in
    let m = g.S.LinkStore.mem_id c.args.at.mem in
    goes_inside (texts_with atoms c.args.names.now c.args.table.now h) h m c.args.at.depth (g.S.LinkStore.mem_id c.in-Some.inner) p c.between.result.now _ c.between.ensures
    (c.has_atoms-any.ensures c.args.names.now (atoms m) (are m (stands_in h c.root-root.ensures.sound m c.args.at.depth p))) c.in-Some.ensures.list _ _ _ c.add_between.ensures c.add.ensures

pub returns-in-None : goal.returns-in-None
returns-in-None g c = λ atoms are p.
    let h = g.S.LinkStore.heap c.args.store.now in
    let m = g.S.LinkStore.mem_id c.args.at.mem in
    turns_back c.leave.result (λ n. g.S.LinkStore.mem_id n.mem) (λ n. n.depth) (texts_with atoms c.args.names.now c.args.table.now h) h m c.args.at.depth p _
    (c.has_atoms-any.ensures c.args.names.now (atoms m) (are m (stands_in h c.root-root.ensures.sound m c.args.at.depth p))) c.in-None.ensures.list _ _ (c.leave.ensures atoms (turn h m c.args.at.depth p))
