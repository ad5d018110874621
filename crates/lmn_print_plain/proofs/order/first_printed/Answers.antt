use Rattle.std.specs.Option.{option_map}
use Rattle.lmn_print_plain.proofs.OrderLemmas.{first_all}
use Rattle.lmn_print_plain.proofs.order.first_printed.Goals as goal

pub returns-clause-list : goal.returns-clause-list
returns-clause-list g c = λ f t.
    first_all (g.S.LinkStore.heap c.args.store.now) f t (g.S.LinkStore.mem_id c.root.result) (option_map g.S.LinkStore.atom_id c.first_from.result) c.root.ensures.root (c.first_from.ensures.list f t)
