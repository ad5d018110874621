use Rattle.std.proofs.Common.{◌↔◌, IsTrue, IfOk, Option, ap, sym, subst}
use Rattle.std.specs.Option.{option_map}
use Rattle.lmn_base.specs.Graphs.{SameGraph}
use Rattle.lmn_store_heap.specs.Graphs.{atom_map}
use Rattle.lmn_solid_heads.specs.Guards.{with_part}
use Rattle.lmn_solid_tables.specs.Flats.{heap_of, port_by}
use Rattle.lmn_solid_tables.specs.declared.tables.Port.{Port}
use Rattle.lmn_solid_search.proofs.known.is_equal.Goals as goal

pub are_equal-requires-clause-right : goal.are_equal-requires-clause-right
are_equal-requires-clause-right c = c.requires.right (port_by c.in-Some.other) (ap (option_map port_by) c.in-Some.is)

pub returns-in-Some-clause-equal : goal.returns-in-Some-clause-equal
returns-in-Some-clause-equal c = subst (λ (o : Option Port). IfOk c.are_equal.result (λ equal. IsTrue equal ↔ with_part (option_map port_by o) (SameGraph (atom_map (heap_of c.args.flat.now)) (port_by c.args.left) (atom_map (heap_of c.args.flat.now)))))
    (sym c.in-Some.is) c.are_equal.ensures.equal
