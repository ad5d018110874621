use Rattle.std.proofs.Common.{◌∙◌, ap, sym}
use Rattle.std.specs.Option.{option_map}
use Rattle.lmn_solid_tables.specs.Flats.{port_by}
use Rattle.lmn_solid_search.proofs.known.differ_holds.Goals as goal

pub are_equal-requires-clause-left : goal.are_equal-requires-clause-left
are_equal-requires-clause-left c = c.requires.parts c.args.left (port_by c.in-Some.entry) (sym c.part.ensures ∙ ap (option_map port_by) c.in-Some.is)

pub are_equal-requires-clause-right : goal.are_equal-requires-clause-right
are_equal-requires-clause-right c = c.requires.parts c.args.right (port_by c.in-Some-part.other) (sym c.part-in-Some.ensures ∙ ap (option_map port_by) c.in-Some-part.is)
