use Rattle.std.proofs.Common.{◌∙◌, ap, sym}
use Rattle.std.specs.Option.{option_map}
use Rattle.lmn_solid_tables.specs.Flats.{heap_of, port_by}
use Rattle.lmn_solid_search.proofs.KnowingLemmas.{equal_unbound}
use Rattle.lmn_solid_search.proofs.known.equal_holds.Goals as goal

pub is_equal-requires-clause-left : goal.is_equal-requires-clause-left
is_equal-requires-clause-left c = c.requires.parts c.args.left (port_by c.in-Some.entry) (sym c.part.ensures ∙ ap (option_map port_by) c.in-Some.is)

pub returns-in-None-value-clause-holds : goal.returns-in-None-value-clause-holds
returns-in-None-value-clause-holds c = λ s w. (
  (λ z. absurd (cc)),
  λ p. absurd (equal_unbound (heap_of c.args.flat.now) c.args.known.now s c.args.left c.args.right.now
      (sym c.part.ensures ∙ ap (option_map port_by) c.in-None.is) (sym c.value.ensures ∙ c.in-None-value.is) w p),
)
