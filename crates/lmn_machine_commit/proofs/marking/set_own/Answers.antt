use Rattle.std.proofs.Common.{◌≡◌, ap, arith, ◌∙◌}
use Rattle.lmn_store_heap.specs.Heap.{marked, arity_of}
use Rattle.lmn_machine_commit.proofs.marking.set_own.Goals as goal

pub returns : goal.returns
returns g c =
    let shape = c.root-root.ensures.sound.shaped.ports (g.S.LinkStore.atom_id c.args.a) c.functor-own.result c.functor-own.ensures in
    let same : c.functor-own.result.arity ≡ arity_of (g.S.LinkStore.heap c.args.store.now) (g.S.LinkStore.atom_id c.args.a) = omega (arith, shape) in
    c.set_mark.ensures ∙ ap (λ k. marked (g.S.LinkStore.heap c.args.store.now) (g.S.LinkStore.atom_id c.args.a) k c.args.mark) same
