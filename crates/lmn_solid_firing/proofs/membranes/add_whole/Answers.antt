use Rattle.std.proofs.Common.{[], ◌∷◌, ◌++◌, ◌∙◌, ap, subst, sym}
use Rattle.std.specs.List.{AllByRecursion}
use Rattle.lmn_base.proofs.Lists.{all_append, all_left, all_right}
use Rattle.lmn_store_heap.specs.Heap.{IsMem, mems_in}
use Rattle.lmn_solid_tables.specs.Flats.{heap_of}
use Rattle.lmn_adequacy_turns.proofs.Leavings.{listed_there}
use Rattle.lmn_solid_firing.specs.Making.{entered}
use Rattle.lmn_solid_firing.proofs.Wholes.{begins, entered_there, goes_on}
use Rattle.lmn_solid_firing.proofs.membranes.add_whole.Goals as goal

pub loop-init : goal.loop-init
loop-init c = record {
  there = subst (AllByRecursion (λ e. IsMem (heap_of c.args.flat.now) e.0)) (sym (c.in_ok-push_all.ensures ∙ ap (λ z. z ++ entered c.args.around c.args.membranes.now) c.new-waiting.ensures.items))
      (entered_there (heap_of c.args.flat.now) c.args.around c.args.membranes.now c.requires.membranes);
  gives = λ f F. begins c.args.flat.now c.args.writing.now c.args.rows.now.items c.args.around f c.args.membranes.now c.push_all.new.waiting.items
      (c.in_ok-push_all.ensures ∙ ap (λ z. z ++ entered c.args.around c.args.membranes.now) c.new-waiting.ensures.items) F;
}

pub add_lone-requires-clause-membrane : goal.add_lone-requires-clause-membrane
add_lone-requires-clause-membrane c =
    (all_right (λ e. IsMem (heap_of c.args.flat.now) e.0) c.pop.new.self.items ((c.in-Some.membrane, c.in-Some.around) ∷ [])
    (subst (AllByRecursion (λ e. IsMem (heap_of c.args.flat.now) e.0)) c.in-Some.ensures.items c.loop.invariant.there)).0

pub membranes-requires : goal.membranes-requires
membranes-requires c =
    (all_right (λ e. IsMem (heap_of c.args.flat.now) e.0) c.pop.new.self.items ((c.in-Some.membrane, c.in-Some.around) ∷ [])
    (subst (AllByRecursion (λ e. IsMem (heap_of c.args.flat.now) e.0)) c.in-Some.ensures.items c.loop.invariant.there)).0

pub loop-preserved : goal.loop-preserved
loop-preserved c =
    let h = heap_of c.args.flat.now in
    let m = c.in-Some.membrane in
    let next = c.in_ok-push_all-2.ensures ∙ ap (λ z. c.pop.new.self.items ++ entered c.len-number.result z) c.membranes.ensures in record {
      there = subst (AllByRecursion (λ e. IsMem h e.0)) (sym next)
          (all_append (λ e. IsMem h e.0) c.pop.new.self.items (entered c.len-number.result (mems_in h m))
          (all_left (λ e. IsMem h e.0) c.pop.new.self.items ((m, c.in-Some.around) ∷ []) (subst (AllByRecursion (λ e. IsMem h e.0)) c.in-Some.ensures.items c.loop.invariant.there))
          (entered_there h c.len-number.result (mems_in h m) (λ k i. listed_there h c.requires.valid k m i)));
      gives = λ f F. goes_on c.args.flat.now c.args.writing.now c.loop.rows.items c.add_lone.new.rows.items _ c.loop.waiting.items c.pop.new.self.items c.push_all-in-loop.new.waiting.items m c.in-Some.around c.len-number.result
          c.in-Some.ensures.items (c.len-number.ensures ∙ c.loop.rows.ok.0) c.in_ok-add_lone.ensures next (c.loop.invariant.gives f F);
    }
