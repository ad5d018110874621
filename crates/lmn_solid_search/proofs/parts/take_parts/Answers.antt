use Rattle.std.proofs.Common.{◌∙◌}
use Rattle.lmn_base.proofs.Lists.{holds_of_item}
use Rattle.lmn_solid_tables.specs.Flats.{heap_of}
use Rattle.lmn_solid_search.specs.Parting.{IsTaken}
use Rattle.lmn_solid_search.proofs.PartsLemmas.{taken_more}
use Rattle.lmn_solid_search.proofs.parts.take_parts.Goals as goal

pub returns-in-None-clause-none : goal.returns-in-None-clause-none
returns-in-None-clause-none c = λ e qs h. c.in_ok-part.ensures.none c.in-None.is (qs c.loop-number.number) (h c.loop-number.number c.at.result.now c.at.ensures)

pub loop-number-preserved : goal.loop-number-preserved
loop-number-preserved c = record {
  long = c.in_ok-part.ensures.length ∙ c.loop-number.invariant.long;
  taken = taken_more (heap_of c.args.flat.now) c.args.head.now.atoms c.args.placed.now c.args.head.now.typed c.loop-number.parts c.push.new.self c.loop-number.number c.at.result.now c.in-Some.part c.at.ensures
      c.in_ok-push-in-Some.ensures.ok (holds_of_item (IsTaken (heap_of c.args.flat.now) c.args.head.now.atoms c.args.placed.now c.at.result.now) c.in_ok-part.field-0 c.in-Some.part c.in-Some.is c.in_ok-part.ensures.some) c.loop-number.invariant.taken;
}
