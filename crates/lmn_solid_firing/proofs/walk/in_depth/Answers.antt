use Rattle.std.proofs.Common.{[], ◌∷◌, ◌++◌, ◌∙◌, ap, subst, sym}
use Rattle.std.specs.List.{AllByRecursion}
use Rattle.std.proofs.lemmas.List.{nil_from_length}
use Rattle.lmn_base.proofs.Lists.{all_right}
use Rattle.lmn_store_heap.proofs.Common.{is_atom_at}
use Rattle.lmn_solid_tables.specs.Flats.{heap_of, port_by}
use Rattle.lmn_solid_firing.specs.Pieces.{IsPort, WalkIn, stacked}
use Rattle.lmn_solid_firing.proofs.Walking.{stacked_more, tells_more, tells_nothing, walk_begins, walk_ended}
use Rattle.lmn_solid_firing.proofs.walk.in_depth.Goals as goal

pub loop-init : goal.loop-init
loop-init c =
    let h = heap_of c.args.flat.now in
    let there = c.requires.before.0 c.args.root.atom (is_atom_at h c.args.root.atom c.args.root.index c.requires.root) in
    let seen = c.in_ok-push.ensures.ok ∙ ap (λ z. z ++ c.args.root.atom ∷ []) c.new-atoms.ensures in
    record {
      tells = tells_more h c.args.round c.args.marks.now _ [] c.push.new.self c.args.root.atom (tells_nothing h c.args.round c.args.marks.now c.requires.before) there c.set_mark.ensures seen;
      there = c.in_ok-push_ports.ensures.there (subst (AllByRecursion (IsPort h)) (sym c.new-waiting.ensures.items) tt);
      walk = walk_begins h (port_by c.args.root) c.push.new.self (stacked c.push_ports.new.waiting.items) (stacked c.new-waiting.result.items) c.args.root.atom seen c.in_ok-push_ports.ensures.ports (ap stacked c.new-waiting.ensures.items);
    }

pub returns-in_default-clause-atoms : goal.returns-in_default-clause-atoms
returns-in_default-clause-atoms c =
    c.loop.invariant.walk c.loop.atoms (walk_ended (heap_of c.args.flat.now) (port_by c.args.root) c.loop.atoms c.loop.waiting.items
    (nil_from_length c.loop.waiting.items (sym c.loop.waiting.ok.0 ∙ c.in_default.ensures.cases.0)))

pub follow-requires-clause-port : goal.follow-requires-clause-port
follow-requires-clause-port c =
    (all_right (IsPort (heap_of c.args.flat.now)) c.pop.new.self.items (c.in-Some.port ∷ []) (subst (AllByRecursion (IsPort (heap_of c.args.flat.now))) c.in-Some.ensures.items c.loop.invariant.there)).0

pub loop-preserved : goal.loop-preserved
loop-preserved c = record {
  tells = c.in_ok-follow.ensures.tells;
  there = c.in_ok-follow.ensures.there;
  walk = λ all w. c.loop.invariant.walk all (subst (λ ps. WalkIn (heap_of c.args.flat.now) (port_by c.args.root) c.loop.atoms ps all)
      (sym (ap stacked c.in-Some.ensures.items ∙ stacked_more c.pop.new.self.items c.in-Some.port)) (c.in_ok-follow.ensures.walk all w));
}
