use Rattle.lmn_print_folding.proofs.ChildLemmas.{own_port, apart, is_no_child, is_child}
use Rattle.lmn_print_folding.proofs.items_family.is_child_at.Goals as goal

pub returns-then-are_beside-clause-child : goal.returns-then-are_beside-clause-child
returns-then-are_beside-clause-child g c = λ is.
    is_child (g.S.LinkStore.heap c.args.store.now) c.requires.valid.sound (g.S.LinkStore.atom_id c.args.atom) (g.S.LinkStore.atom_id c.args.parent) c.args.port c.requires.ports c.requires.joined c.requires.before c.requires.port
    (λ e. let one = c.same_atom.ensures.1 e in let not = c.if-same_atom.false in cc) (c.are_beside.ensures.0 c.if-are_beside.true) (c.has_child.ensures.0 is)

pub returns-then-are_beside-clause-none : goal.returns-then-are_beside-clause-none
returns-then-are_beside-clause-none g c = λ not.
    is_no_child (g.S.LinkStore.heap c.args.store.now) c.requires.valid.sound (g.S.LinkStore.atom_id c.args.atom) (g.S.LinkStore.atom_id c.args.parent) c.args.port c.requires.ports c.requires.joined c.requires.before c.requires.port
    (λ h. let one = c.has_child.ensures.1 h in cc)

pub returns-then-same_atom-clause-none : goal.returns-then-same_atom-clause-none
returns-then-same_atom-clause-none g c = λ not.
    own_port (g.S.LinkStore.heap c.args.store.now) c.requires.valid.sound (g.S.LinkStore.atom_id c.args.atom) (g.S.LinkStore.atom_id c.args.parent) c.args.port c.requires.ports c.requires.joined (c.same_atom.ensures.0 c.if-same_atom.true)

pub returns-clause-none : goal.returns-clause-none
returns-clause-none g c = λ not.
    apart (g.S.LinkStore.heap c.args.store.now) c.requires.valid.sound (g.S.LinkStore.atom_id c.args.atom) (g.S.LinkStore.atom_id c.args.parent) c.args.port c.requires.ports c.requires.joined
    (λ h. let one = c.are_beside.ensures.1 h in let not = c.if-are_beside.false in cc)
