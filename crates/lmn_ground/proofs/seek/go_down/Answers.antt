use Rattle.std.proofs.Common.{◌+◌, ℕ, sym, subst, ◌∙◌}
use Rattle.lmn_ground_parts.specs.Walks.{net}
use Rattle.lmn_ground.specs.Marks.{first_marks, Sought}
use Rattle.lmn_ground.proofs.SoughtLaws.{sought_leaf}
use Rattle.lmn_ground.proofs.seek.go_down.Goals as goal

pub returns-then-arity-eq1-clause-sought : goal.returns-then-arity-eq1-clause-sought
returns-then-arity-eq1-clause-sought g c =
    let s = g.S.LinkStore.heap c.args.store.now in
    subst (λ (k : ℕ). Sought (net s) (first_marks s) (g.S.LinkStore.atom_id c.args.root.0, c.args.root.1) c.args.down.depth (g.S.LinkStore.atom_id c.args.down.atom) k c.args.from.depth (g.S.LinkStore.atom_id c.args.from.atom) (c.args.from.port + 1))
    (sym c.requires.entered.first)
    (sought_leaf (net s) (first_marks s) (g.S.LinkStore.atom_id c.args.root.0, c.args.root.1) c.args.from.depth c.args.down.depth (g.S.LinkStore.atom_id c.args.down.atom) (g.S.LinkStore.atom_id c.args.from.atom) c.args.from.port
    c.requires.entered.deeper c.requires.way (sym c.arity.ensures.arity ∙ c.if-arity-eq1.true) c.requires.entered.entry c.requires.marked)
