use Rattle.std.proofs.Common.{◌∙◌, ap, sym}
use Rattle.std.specs.Option.{option_map}
use Rattle.lmn_solid_tables.specs.Flats.{port_by}
use Rattle.lmn_solid_search.proofs.known.has_kind.Goals as goal

pub is_of_kind-requires : goal.is_of_kind-requires
is_of_kind-requires c = c.requires c.args.context (port_by c.in-Some.entry) (sym c.part.ensures ∙ ap (option_map port_by) c.in-Some.is)
