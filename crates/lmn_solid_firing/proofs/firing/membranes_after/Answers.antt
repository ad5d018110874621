use Rattle.std.proofs.Common.{[], ◌∷◌, ◌++◌, ◌∙◌, ap, subst, sym}
use Rattle.std.specs.List.{AllByRecursion}
use Rattle.std.proofs.lemmas.List.{nil_from_length}
use Rattle.lmn_base.proofs.Lists.{all_left, all_right}
use Rattle.lmn_store_heap.specs.Heap.{IsMem}
use Rattle.lmn_solid_tables.specs.Flats.{heap_of}
use Rattle.lmn_solid_settle.specs.Raw.{laid}
use Rattle.lmn_solid_firing.specs.Making.{WaitsFor, fired_region, home_region, level_made}
use Rattle.lmn_solid_firing.proofs.Fired.{none_waits, root_waits}
use Rattle.lmn_solid_firing.proofs.firing.membranes_after.Goals as goal
use Rattle.lmn_adequacy_turns.proofs.ReadAgain.{root_mem as root_there}

pub loop-init : goal.loop-init
loop-init c =
    let is = c.in_ok-push.ensures.items ∙ ap (λ z. z ++ (0, 0) ∷ []) c.new-waiting.ensures.items in record {
      there = subst (AllByRecursion (λ e. IsMem (heap_of c.args.flat.now) e.0)) (sym is) (root_there (heap_of c.args.flat.now) c.requires.valid, tt);
      ends = λ left. tt;
      gives = λ left forms inner F. root_waits c.args.flat.now c.args.taken.now.home (home_region c.args.flat.now c.args.taken.now left (level_made c.args.flat.now c.args.taken.now left c.args.body.now) c.args.start)
          c.push.new.self.items inner is F c.args.rows.now.items c.requires.none;
    }

pub add_top-requires-clause-membrane : goal.add_top-requires-clause-membrane
add_top-requires-clause-membrane c =
    (all_right (λ e. IsMem (heap_of c.args.flat.now) e.0) c.pop.new.self.items ((c.in-Some.membrane, c.in-Some.around) ∷ [])
    (subst (AllByRecursion (λ e. IsMem (heap_of c.args.flat.now) e.0)) c.in-Some.ensures.items c.loop.invariant.there)).0

pub loop-preserved : goal.loop-preserved
loop-preserved c = record {
  there = c.in_ok-add_top.ensures.there (all_left (λ e. IsMem (heap_of c.args.flat.now) e.0) c.pop.new.self.items ((c.in-Some.membrane, c.in-Some.around) ∷ [])
      (subst (AllByRecursion (λ e. IsMem (heap_of c.args.flat.now) e.0)) c.in-Some.ensures.items c.loop.invariant.there));
  ends = λ left. c.in_ok-add_top.ensures.end left (c.loop.invariant.ends left);
  gives = λ left forms inner F.
      let made = home_region c.args.flat.now c.args.taken.now left (level_made c.args.flat.now c.args.taken.now left c.args.body.now) c.args.start in
      let all = laid 0 0 (fired_region c.args.flat.now c.args.taken.now.home made 0 inner) in
      c.in_ok-add_top.ensures.rows left forms all (
      subst (λ z. WaitsFor c.args.flat.now c.args.taken.now.home made c.loop.rows.items z all)
      c.in-Some.ensures.items (c.loop.invariant.gives left forms inner F));
}

pub returns-in_default-clause-rows : goal.returns-in_default-clause-rows
returns-in_default-clause-rows c = λ left forms inner F.
    let made = home_region c.args.flat.now c.args.taken.now left (level_made c.args.flat.now c.args.taken.now left c.args.body.now) c.args.start in
    none_waits c.args.flat.now c.args.taken.now.home made c.loop.rows.items (laid 0 0 (fired_region c.args.flat.now c.args.taken.now.home made 0 inner)) c.loop.waiting.items
    (nil_from_length c.loop.waiting.items (sym c.loop.waiting.ok.0 ∙ c.in_default.ensures.cases.0)) (c.loop.invariant.gives left forms inner F)
