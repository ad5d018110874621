use Rattle.lmn_io.proofs.TakingLemmas.{adds_as, adds_more}
use Rattle.lmn_print_plain.proofs.StoredLemmas.{atom_is_written}
use Rattle.lmn_print_plain.proofs.stored.add_atom.Goals as goal

pub returns : goal.returns
returns g c =
    adds_as (atom_is_written c.args.names.now (g.S.LinkStore.heap c.args.store.now) (g.S.LinkStore.atom_id c.args.atom) c.functor-functor.result c.functor-functor.ensures) (adds_more _ _ _ _ _ c.add_label.ensures c.add_ports.ensures)
