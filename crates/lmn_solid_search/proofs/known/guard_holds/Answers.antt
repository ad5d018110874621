use Rattle.std.proofs.Common.{◌∙◌, length, refl}
use Rattle.std.proofs.lemmas.Option.{slice_get_read}
use Rattle.lmn_solid_tables.specs.Flats.{heap_of}
use Rattle.lmn_solid_search.proofs.KnowingLemmas.{guarding_next}
use Rattle.lmn_solid_search.proofs.known.guard_holds.Goals as goal

pub loop-condition-preserved : goal.loop-condition-preserved
loop-condition-preserved c = record {
  lengths = (c.in_ok-holds.ensures.lengths.0 ∙ c.loop-condition.invariant.lengths.0, c.in_ok-holds.ensures.lengths.1 ∙ c.loop-condition.invariant.lengths.1);
  parts = c.in_ok-holds.ensures.parts ∙ c.loop-condition.invariant.parts;
  guards = λ s w. guarding_next (heap_of c.args.flat.now) s c.args.guard.now c.loop-condition.known c.loop-condition.condition-index c.condition-item.result (slice_get_read c.args.guard.now (length c.args.guard.now) c.loop-condition.condition-index c.condition-item.result refl c.loop-condition-test.true c.condition-item.is) (c.loop-condition.invariant.guards s w) c.holds.new.known
      (λ t k. (c.in_ok-holds.ensures.holds t k).0 c.if-not-branch.false) (c.in_ok-holds.ensures.after c.if-not-branch.false);
}
